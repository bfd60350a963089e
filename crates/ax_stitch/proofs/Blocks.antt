-- The places of a tree with those of the trees that hang in it, as one block for each id.
use Rattle.std.proofs.Common.{ℕ, zero, suc, ◌<◌, ◌≡◌, true, false, ◌||◌, ◌==◌, eqb, List, [], ◌∷◌, ◌++◌, flat_map, Option, Some, None, refl, sym, ap, ◌∙◌, subst, arith, append-nil, option_to_list}
use Rattle.std.proofs.lemmas.List.{map-append}
use Rattle.std.proofs.lemmas.List.Concat.{flat_map-append}
use Rattle.std.proofs.lemmas.Bool.Decides.{eqb_tells}
use Rattle.std.proofs.lemmas.Bool.{true≢false}
use Rattle.ax_base.specs.declared.position.Place.{Place}
use Rattle.ax_node.specs.Look.{Look}
use Rattle.ax_trees.specs.Trees.{Trees, bare, tree, has, ids, roots, IsDistinct}
use Rattle.ax_trees.specs.Nodes.{children}
use Rattle.ax_trees.specs.Lists.{is_nil}
use Rattle.ax_tree.specs.Tree.{Tree}
use Rattle.ax_tree.specs.Forest.{Forest, first_tree, live_tree, host_of, hosted_by}
use Rattle.ax_rules.specs.Stitched.{Placed, place_at, placed_in, placed_of, placed_from, placed_from_first, stitched, places}
use Rattle.ax_stitch.specs.Levels.{spread, spread_of, at_hung, shown_from, hung_to}
use Rattle.ax_stitch.proofs.Hosts.{AllOf, all_append, all_weaker, host_is, host_node, hung_host}
use Rattle.ax_stitch.proofs.Climbs.{up, up_on, up_one}
use Rattle.ax_stitch.proofs.Orders.{below_early, below_late}

-- ---- the list of places

level : (hs : Place → List Place → List Placed) (h : Place → List Place) → ((p : Place) (q : List Place) → places (hs p q) ≡ h p) → (t : ℕ) (above : List Place) (w : Trees Look)
    → places (placed_in hs t above w) ≡ spread h t w
level hs h e t above bare = refl
level hs h e t above (tree i x k r) =
    let p = place_at t i in
    let a = level hs h e t (p ∷ above) k in
    let b = e p (p ∷ above) in
    let c = level hs h e t above r in
    ap (λ l. p ∷ l)
    (map-append (λ (s : Placed). s.place) (placed_in hs t (p ∷ above) k ++ hs p (p ∷ above)) (placed_in hs t above r)
    ∙ (ap (λ l. l ++ places (placed_in hs t above r)) (map-append (λ (s : Placed). s.place) (placed_in hs t (p ∷ above) k) (hs p (p ∷ above)))
    ∙ rw (a, b, c) refl))

level_of : (hs : Place → List Place → List Placed) (h : Place → List Place) → ((p : Place) (q : List Place) → places (hs p q) ≡ h p) → (t : ℕ) (above : List Place) (o : Option Tree)
    → places (placed_of hs t above o) ≡ spread_of h t o
level_of hs h e t above None = refl
level_of hs h e t above (Some m) = level hs h e t above m.trees

hung : (l : ℕ → List Placed) (h : ℕ → List Place) → ((c : ℕ) → places (l c) ≡ h c) → (o : Option ℕ) → places (flat_map l (option_to_list o)) ≡ at_hung h o
hung l h e None = refl
hung l h e (Some c) = ap places (append-nil (l c)) ∙ e c

pub shown_is : (n : ℕ) (f : Forest) (t : ℕ) (above : List Place) → places (placed_from n f t above) ≡ shown_from n f t
shown_is zero f t above = refl
shown_is (suc n) f t above =
    level_of (λ p q. flat_map (λ c. placed_from n f c q) (option_to_list (hosted_by f p))) (hung_to n f)
    (λ p q. hung (λ c. placed_from n f c q) (shown_from n f) (λ c. shown_is n f c q) (hosted_by f p)) t above (live_tree f t)

shown_first : (f : Forest) (o : Option ℕ) → places (placed_from_first f o) ≡ at_hung (shown_from 8 f) o
shown_first f None = refl
shown_first f (Some t) = shown_is 8 f t []

pub stitched_places : (f : Forest) → places (stitched f) ≡ at_hung (shown_from 8 f) (first_tree f)
unfolding stitched
stitched_places f = shown_first f (first_tree f)

-- ---- blocks

abbrev pub block : (Place → List Place) → ℕ → ℕ → List Place
block h t i = place_at t i ∷ h (place_at t i)

abbrev pub blocks : (Place → List Place) → ℕ → List ℕ → List Place
blocks h t xs = flat_map (block h t) xs

-- where nothing hangs at a node with children, what hangs at a node stands right behind it
pub spread_blocks : (h : Place → List Place) (t : ℕ) (w : Trees Look) → IsDistinct w → ((i : ℕ) → has w i ≡ true → is_nil (children w i) ≡ false → h (place_at t i) ≡ [])
    → spread h t w ≡ blocks h t (ids w)
spread_blocks h t bare d e = refl
spread_blocks h t (tree i x k r) d e =
    let later = spread_blocks h t r d.4 (λ z g n. e z (late z g) (ap (λ u. is_nil (roots u)) (below_late i x k r z d g) ∙ n)) in
    first k (λ c g. spread_blocks h t k c g) d e later
  where
    late : (z : ℕ) → has r z ≡ true → (i == z || (has k z || has r z)) ≡ true
    late z g = grind (arith, g)

    first : (k : Trees Look) → (IsDistinct k → ((z : ℕ) → has k z ≡ true → is_nil (children k z) ≡ false → h (place_at t z) ≡ []) → spread h t k ≡ blocks h t (ids k)) → (d : IsDistinct (tree i x k r)) → ((z : ℕ) → has (tree i x k r) z ≡ true → is_nil (children (tree i x k r) z) ≡ false → h (place_at t z) ≡ [])
        → spread h t r ≡ blocks h t (ids r) → spread h t (tree i x k r) ≡ blocks h t (ids (tree i x k r))
    first bare ih d e later = ap (λ l. place_at t i ∷ (h (place_at t i) ++ l)) later
    first (tree j y a b) ih d e later =
        let self : eqb i i ≡ true = grind (arith, eqb_tells i i) in
        let none : h (place_at t i) ≡ [] = e i (grind (arith, self)) (rw self refl) in
        let inner : spread h t (tree j y a b) ≡ blocks h t (ids (tree j y a b)) = ih d.3 (λ z g n. e z (grind (arith, g)) (ap (λ u. is_nil (roots u)) (below_early i x (tree j y a b) r z d g) ∙ n)) in
        ap (λ l. place_at t i ∷ ((spread h t (tree j y a b) ++ l) ++ spread h t r)) none
        ∙ (ap (λ l. place_at t i ∷ (l ++ spread h t r)) (append-nil (spread h t (tree j y a b)) ∙ inner)
        ∙ (ap (λ l. place_at t i ∷ (blocks h t (ids (tree j y a b)) ++ l)) later
        ∙ (ap (λ l. place_at t i ∷ l) (sym (flat_map-append (block h t) (ids (tree j y a b)) (ids r)))
        ∙ ap (λ l. (place_at t i ∷ l) ++ blocks h t (ids (tree j y a b) ++ ids r)) (sym none))))

-- nothing hangs at a node with children
pub hosts_lone : (n : ℕ) (f : Forest) (t : ℕ) (m : Tree) → live_tree f t ≡ Some m → IsDistinct m.trees → (i : ℕ) → is_nil (children m.trees i) ≡ false → hung_to n f (place_at t i) ≡ []
hosts_lone n f t m l d i e = go (hosted_by f (place_at t i)) refl
  where
    go : (o : Option ℕ) → hosted_by f (place_at t i) ≡ o → at_hung (shown_from n f) o ≡ []
    go None s = refl
    go (Some c) s =
        let h = host_is f c (place_at t i) (hung_host f (place_at t i) c s) in
        let same : ◌≡◌ {A = Option Tree} (Some h.over) (Some m) = sym h.over_live ∙ l in
        let over : h.over ≡ m = cc in
        let lone : children m.trees i ≡ [] = ap (λ (v : Tree). children v.trees i) (sym over) ∙ (host_node f c (place_at t i) h (subst (λ (v : Tree). IsDistinct v.trees) (sym over) d)).lone in
        absurd (true≢false (sym (ap is_nil lone) ∙ e))

pub shown_blocks : (n : ℕ) (f : Forest) (t : ℕ) (m : Tree) → live_tree f t ≡ Some m → IsDistinct m.trees → shown_from (suc n) f t ≡ blocks (hung_to n f) t (ids m.trees)
shown_blocks n f t m l d = ap (spread_of (hung_to n f) t) l ∙ spread_blocks (hung_to n f) t m.trees d (λ i g e. hosts_lone n f t m l d i e)

-- ---- what is reached

-- the place is a node of a live tree, and t is above that tree by less than n steps
pub record Reaches (n : ℕ) (f : Forest) (t : ℕ) (p : Place) : Type 0 where
  pub steps : ℕ
  pub few : steps < n
  pub climbs : up steps f p.tree ≡ Some t
  pub tree : Tree
  pub live : live_tree f p.tree ≡ Some tree
  pub there : has tree.trees p.node ≡ true

spread_all : (P : Place → Type 0) (h : Place → List Place) (t : ℕ) (w : Trees Look) → ((z : ℕ) → has w z ≡ true → P (place_at t z)) → ((z : ℕ) → AllOf P (h (place_at t z))) → AllOf P (spread h t w)
spread_all P h t bare e k = tt
spread_all P h t (tree i x a b) e k = (
  e i (let self : eqb i i ≡ true = grind (arith, eqb_tells i i) in grind (arith, self)),
  all_append P (spread h t a ++ h (place_at t i)) (spread h t b)
      (all_append P (spread h t a) (h (place_at t i)) (spread_all P h t a (λ z g. e z (grind (arith, g))) k) (k i))
      (spread_all P h t b (λ z g. e z (grind (arith, g))) k),
)

pub reached : (n : ℕ) (f : Forest) (t : ℕ) → AllOf (Reaches n f t) (shown_from n f t)
reached zero f t = tt
reached (suc n) f t = own (λ c. reached n f c) (live_tree f t) refl
  where
    further : (c z : ℕ) → host_of f c ≡ Some (place_at t z) → (p : Place) → Reaches n f c p → Reaches (suc n) f t p
    further c z h p r = record {
      steps = suc r.steps;
      few = let a = r.few in omega arith;
      climbs = up_on f r.steps 1 (suc r.steps) p.tree c (omega arith) r.climbs ∙ up_one f c (place_at t z) h;
      tree = r.tree;
      live = r.live;
      there = r.there;
    }

    below : ((c : ℕ) → AllOf (Reaches n f c) (shown_from n f c)) → (z : ℕ) (o : Option ℕ) → hosted_by f (place_at t z) ≡ o → AllOf (Reaches (suc n) f t) (at_hung (shown_from n f) o)
    below ih z None e = tt
    below ih z (Some c) e = all_weaker (Reaches n f c) (Reaches (suc n) f t) (shown_from n f c) (further c z (hung_host f (place_at t z) c e)) (ih c)

    own : ((c : ℕ) → AllOf (Reaches n f c) (shown_from n f c)) → (o : Option Tree) → live_tree f t ≡ o → AllOf (Reaches (suc n) f t) (spread_of (hung_to n f) t o)
    own ih None e = tt
    own ih (Some m) e =
        spread_all (Reaches (suc n) f t) (hung_to n f) t m.trees (λ z g. record { steps = 0; few = omega arith; climbs = refl; tree = m; live = e; there = g })
        (λ z. below ih z (hosted_by f (place_at t z)) refl)
