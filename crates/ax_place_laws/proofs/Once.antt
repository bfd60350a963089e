-- No place stands twice in the joined tree of a sound forest.
use Rattle.std.proofs.Common.{ℕ, zero, suc, ◌+◌, ◌≡◌, true, false, ◌||◌, ◌⊎◌, inl, inr, eqb, Option, Some, None, refl, sym, ap, ◌∙◌, subst, arith, option_and_then}
use Rattle.std.specs.Prelude.{IfSome}
use Rattle.std.proofs.lemmas.Bool.Decides.{eqb_tells}
use Rattle.std.proofs.lemmas.Bool.{false≢true, false_from_ne_true}
use Rattle.ax_base.specs.declared.position.Place.{Place}
use Rattle.ax_node.specs.Look.{Look}
use Rattle.ax_trees.specs.Trees.{Trees, bare, tree, has, IsDistinct}
use Rattle.ax_trees.proofs.Trees.{by_go}
use Rattle.ax_tree.specs.Tree.{Tree, IsWellFormed}
use Rattle.ax_tree.specs.Forest.{Forest, IsSound, first_tree, live_tree, host_of, hosted_by}
use Rattle.ax_tree.proofs.SoundLemmas.{formed_at}
use Rattle.ax_rules.specs.Looks.{same_place}
use Rattle.ax_rules.specs.Stitched.{place_at}
use Rattle.ax_rules.specs.StitchedTree.{PlacedLook, beside, joined_in, joined_of, joined_at, joined_from, stitched_tree}
use Rattle.ax_stitch.proofs.Hosts.{hung_host, first_hangs_nowhere}
use Rattle.ax_stitch.proofs.Climbs.{up, up_on, up_one, up_once, up_never_back}
use Rattle.ax_stitch.proofs.Places.{same_is, same_self}
use Rattle.ax_place_laws.specs.Lists.{hung_tree}
use Rattle.ax_place_laws.proofs.Joined.{is_in, AreApart, IsOnce}

is_in-beside : (p : Place) (a b : Trees PlacedLook) → is_in p (beside a b) ≡ (is_in p a || is_in p b)
is_in-beside p bare b = refl
is_in-beside p (tree i x k r) b = grind (arith, is_in-beside p r b)

once_beside : (a b : Trees PlacedLook) → IsOnce a → IsOnce b → AreApart a b → IsOnce (beside a b)
once_beside bare b d e h = e
once_beside (tree i x k r) b d e h = (
  d.0,
  (let self = same_self x.place in let n : is_in x.place b ≡ false = h.apart x.place (grind (arith, self)) in is_in-beside x.place r b ∙ (let m = d.1 in rw (m, n) refl)),
  record { apart = λ p g. is_in-beside p r b ∙ (let m = d.2.apart p g in let n : is_in p b ≡ false = h.apart p (grind (arith, g)) in rw (m, n) refl) },
  d.3,
  once_beside r b d.4 e (record { apart = λ p g. h.apart p (grind (arith, g)) }),
)

-- ---- where a place stands among what hangs in one tree

-- p's tree hangs, over some others, at q
record IsUnder (f : Forest) (p q : Place) : Type 0 where
  steps : ℕ
  hung : ℕ
  climbs : up steps f p.tree ≡ Some hung
  host : host_of f hung ≡ Some q

-- p is the place of the node a of t, or its tree hangs there
abbrev At : Forest → Place → ℕ → ℕ → Type 0
At f p t a = (p ≡ place_at t a) ⊎ IsUnder f p (place_at t a)

-- t is some trees below the first
record Climbs (f : Forest) (t : ℕ) : Type 0 where
  steps : ℕ
  first : ℕ
  stop : host_of f first ≡ None
  climbs : up steps f t ≡ Some first

climbs_next : (f : Forest) (c : ℕ) (q : Place) → host_of f c ≡ Some q → Climbs f q.tree → Climbs f c
climbs_next f c q h w = record { steps = suc w.steps; first = w.first; stop = w.stop; climbs = ap (option_and_then (λ (host : Place). up w.steps f host.tree)) h ∙ w.climbs }

not_under : (f : Forest) (t a b : ℕ) → Climbs f t → IsUnder f (place_at t a) (place_at t b) → ⊥
not_under f t a b w u =
    up_never_back f u.steps w.steps t w.first w.stop w.climbs (up_on f u.steps 1 (suc u.steps) t u.hung (omega arith) u.climbs ∙ up_one f u.hung (place_at t b) u.host)

same_under : (f : Forest) (p : Place) (t a b : ℕ) → Climbs f t → IsUnder f p (place_at t a) → IsUnder f p (place_at t b) → a ≡ b
same_under f p t a b w u v =
    let x = up_on f u.steps (suc w.steps) (u.steps + suc w.steps) p.tree u.hung refl u.climbs ∙ (ap (option_and_then (λ (host : Place). up w.steps f host.tree)) u.host ∙ w.climbs) in
    let y = up_on f v.steps (suc w.steps) (v.steps + suc w.steps) p.tree v.hung refl v.climbs ∙ (ap (option_and_then (λ (host : Place). up w.steps f host.tree)) v.host ∙ w.climbs) in
    let sums = up_once f (u.steps + suc w.steps) (v.steps + suc w.steps) p.tree w.first w.stop x y in
    let steps : u.steps ≡ v.steps = omega (arith, sums) in
    let hung : ◌≡◌ {A = Option ℕ} (Some u.hung) (Some v.hung) = sym u.climbs ∙ (ap (λ s. up s f p.tree) steps ∙ v.climbs) in
    let same : u.hung ≡ v.hung = cc in
    let hosts : ◌≡◌ {A = Option Place} (Some (place_at t a)) (Some (place_at t b)) = sym u.host ∙ (ap (host_of f) same ∙ v.host) in
    let at : place_at t a ≡ place_at t b = cc in
    ap (λ (q : Place). q.node) at

at_one : (f : Forest) (p : Place) (t a b : ℕ) → Climbs f t → At f p t a → At f p t b → a ≡ b
at_one f p t a b w (inl e) (inl h) = ap (λ (q : Place). q.node) (sym e ∙ h)
at_one f p t a b w (inl e) (inr v) = absurd (not_under f t a b w (subst (λ q. IsUnder f q (place_at t b)) e v))
at_one f p t a b w (inr u) (inl h) = absurd (not_under f t b a w (subst (λ q. IsUnder f q (place_at t a)) h u))
at_one f p t a b w (inr u) (inr v) = same_under f p t a b w u v

record IsAt (f : Forest) (p : Place) (t : ℕ) (w : Trees Look) : Type 0 where
  node : ℕ
  there : has w node ≡ true
  at : At f p t node

-- the places from t on climb to t
record Reaches (f : Forest) (p : Place) (t : ℕ) : Type 0 where
  steps : ℕ
  climbs : up steps f p.tree ≡ Some t

under_is : (n : ℕ) (f : Forest) (p q : Place) → ((c : ℕ) → is_in p (joined_from n f c) ≡ true → Reaches f p c) → is_in p (hung_tree n f q) ≡ true → IsUnder f p q
under_is n f p q ih h = go (hosted_by f q) refl h
  where
    go : (o : Option ℕ) → hosted_by f q ≡ o → is_in p (joined_at (joined_from n f) o) ≡ true → IsUnder f p q
    go None e k = absurd (false≢true k)
    go (Some c) e k = let r = ih c k in record { steps = r.steps; hung = c; climbs = r.climbs; host = hung_host f q c e }

node_is : (n : ℕ) (f : Forest) (p : Place) (t : ℕ) (w : Trees Look) → ((c : ℕ) → is_in p (joined_from n f c) ≡ true → Reaches f p c) → is_in p (joined_in (hung_tree n f) t w) ≡ true → IsAt f p t w
node_is n f p t bare ih h = absurd (false≢true h)
node_is n f p t (tree i x k r) ih h =
    let self : eqb i i ≡ true = grind (arith, eqb_tells i i) in
    let split = is_in-beside p (joined_in (hung_tree n f) t k) (hung_tree n f (place_at t i)) in
    by_go (same_place p (place_at t i))
    (λ q. record { node = i; there = grind (arith, self); at = inl (same_is p (place_at t i) q) })
    (λ q. by_go (is_in p (joined_in (hung_tree n f) t k))
    (λ g. let a = node_is n f p t k ih g in record { node = a.node; there = let z = a.there in grind (arith, z); at = a.at })
    (λ g. by_go (is_in p (hung_tree n f (place_at t i)))
    (λ u. record { node = i; there = grind (arith, self); at = inr (under_is n f p (place_at t i) ih u) })
    (λ u. let a = node_is n f p t r ih (grind (arith, h, q, g, u, split)) in record { node = a.node; there = let z = a.there in grind (arith, z); at = a.at })))

reaches : (n : ℕ) (f : Forest) (p : Place) (t : ℕ) → is_in p (joined_from n f t) ≡ true → Reaches f p t
reaches zero f p t h = absurd (false≢true h)
reaches (suc n) f p t h = go (λ c. reaches n f p c) (live_tree f t) h
  where
    climb : (m : Tree) → IsAt f p t m.trees → Reaches f p t
    climb m a = step a.at
      where
        step : At f p t a.node → Reaches f p t
        step (inl e) = record { steps = 0; climbs = ap (λ (q : Place). Some q.tree) e }
        step (inr u) = record { steps = suc u.steps; climbs = up_on f u.steps 1 (suc u.steps) p.tree u.hung (omega arith) u.climbs ∙ up_one f u.hung (place_at t a.node) u.host }

    go : ((c : ℕ) → is_in p (joined_from n f c) ≡ true → Reaches f p c) → (o : Option Tree) → is_in p (joined_of (hung_tree n f) t o) ≡ true → Reaches f p t
    go ih None k = absurd (false≢true k)
    go ih (Some m) k = climb m (node_is n f p t m.trees ih k)

-- ---- no place stands twice

in_node : (n : ℕ) (f : Forest) (p : Place) (t : ℕ) (w : Trees Look) → is_in p (joined_in (hung_tree n f) t w) ≡ true → IsAt f p t w
in_node n f p t w h = node_is n f p t w (λ c. reaches n f p c) h

in_hung : (n : ℕ) (f : Forest) (p : Place) (t i : ℕ) → is_in p (hung_tree n f (place_at t i)) ≡ true → IsUnder f p (place_at t i)
in_hung n f p t i h = under_is n f p (place_at t i) (λ c. reaches n f p c) h

not_at : (f : Forest) (p : Place) (t i : ℕ) (w : Trees Look) → Climbs f t → has w i ≡ false → At f p t i → IsAt f p t w → ⊥
not_at f p t i w c n a b = false≢true (sym n ∙ (ap (has w) (at_one f p t i b.node c a b.at) ∙ b.there))

once_in : (n : ℕ) (f : Forest) (t : ℕ) (w : Trees Look) → Climbs f t → IsDistinct w → ((c : ℕ) → Climbs f c → IsOnce (joined_from n f c)) → IsOnce (joined_in (hung_tree n f) t w)
once_in n f t bare c d ih = tt
once_in n f t (tree i x k r) c d ih = (
  false_from_ne_true (is_in q (beside kk hh)) (λ g. in_both q g (λ a. not_at f q t i k c d.0 (inl refl) (in_node n f q t k a)) (λ a. not_under f t i i c (in_hung n f q t i a))),
  false_from_ne_true (is_in q rr) (λ g. not_at f q t i r c d.1 (inl refl) (in_node n f q t r g)),
  record { apart = λ p g. false_from_ne_true (is_in p rr) (λ b. let at = in_node n f p t r b in in_both p g (λ a. both p (in_node n f p t k a) at) (λ a. not_at f p t i r c d.1 (inr (in_hung n f p t i a)) at)) },
  once_beside kk hh (once_in n f t k c d.3 ih) (hung_once (hosted_by f q) refl)
      (record { apart = λ p g. false_from_ne_true (is_in p hh) (λ b. not_at f p t i k c d.0 (inr (in_hung n f p t i b)) (in_node n f p t k g)) }),
  once_in n f t r c d.4 ih,
)
  where
    q : Place
    q = place_at t i

    kk : Trees PlacedLook
    kk = joined_in (hung_tree n f) t k

    hh : Trees PlacedLook
    hh = hung_tree n f (place_at t i)

    rr : Trees PlacedLook
    rr = joined_in (hung_tree n f) t r

    in_both : (p : Place) → is_in p (beside kk hh) ≡ true → (is_in p kk ≡ true → ⊥) → (is_in p hh ≡ true → ⊥) → ⊥
    in_both p g a b = by_go (is_in p kk) (λ s. a s) (λ s. b (let split = is_in-beside p kk hh in grind (arith, split, g, s)))

    both : (p : Place) → IsAt f p t k → IsAt f p t r → ⊥
    both p a b = false≢true (sym (d.2.apart a.node a.there) ∙ (ap (has r) (at_one f p t a.node b.node c a.at b.at) ∙ b.there))

    hung_once : (o : Option ℕ) → hosted_by f q ≡ o → IsOnce (joined_at (joined_from n f) o)
    hung_once None s = tt
    hung_once (Some b) s = ih b (climbs_next f b q (hung_host f q b s) c)

once_from : (n : ℕ) (f : Forest) (t : ℕ) → IsSound f → Climbs f t → IsOnce (joined_from n f t)
once_from zero f t s c = tt
once_from (suc n) f t s c = go (λ b. once_from n f b s) (live_tree f t) (formed_at f t s)
  where
    go : ((b : ℕ) → Climbs f b → IsOnce (joined_from n f b)) → (o : Option Tree) → IfSome o IsWellFormed → IsOnce (joined_of (hung_tree n f) t o)
    go ih None k = tt
    go ih (Some m) k = once_in n f t m.trees c k.distinct ih

pub once : (f : Forest) → IsSound f → IsOnce (stitched_tree f)
unfolding stitched_tree
once f s = go (first_tree f) refl
  where
    go : (o : Option ℕ) → first_tree f ≡ o → IsOnce (joined_at (joined_from 8 f) o)
    go None e = tt
    go (Some t) e = once_from 8 f t s (record { steps = 0; first = t; stop = first_hangs_nowhere f t e; climbs = refl })
