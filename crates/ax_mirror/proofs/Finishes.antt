-- The least pending node and the longest chain of a draft, found among the ids that were made.
use Rattle.std.proofs.Common.{◌≡◌, ℕ, suc, ◌+◌, ◌≤◌, ◌<◌, min, max, Bool, true, false, cond, eqb, leb, ◌||◌, List, take, length, Option, Some, None, Ok, Err, refl, sym, ap, subst, ◌∙◌, arith, ◌⊎◌, ⊎_elim, inl, inr}
use Rattle.std.specs.Prelude.{option_map}
use Rattle.std.specs.FinMap as fin
use Rattle.std.proofs.lemmas.Bool.{eqb-true, false≢true, le-leb, lt-leb}
use Rattle.std.proofs.lemmas.Bool.Decides.{eqb_tells}
use Rattle.ax_node.specs.Look.{Look, blank_look, look_of}
use Rattle.ax_trees.specs.Trees.{Trees, bare, tree, has, height, IsDistinct}
use Rattle.ax_trees.specs.Nodes.{Node, node_at}
use Rattle.ax_trees.specs.Lists.{contains}
use Rattle.ax_trees.proofs.Trees.{by_go}
use Rattle.ax_trees.proofs.Grown.{node_none}
use Rattle.ax_tree.specs.declared.update.Refusal.TheVariants.{Pending, TooDeep}
use Rattle.ax_tree.specs.UpdateRule.{least, own_pending, least_pending, completed, finished}
use Rattle.ax_mirror.specs.declared.entries.Entry.{Entry}
use Rattle.ax_mirror.specs.Placed.{Nodes, place, told_node, told_place}
use Rattle.ax_mirror.specs.Kept.{KeepsDraft}
use Rattle.ax_mirror.specs.Steps.{Settled, IsSettled}
use Rattle.ax_mirror.specs.Finishes.{is_pending, level_of, pends_among, IsLeast, IsDeepest}
use Rattle.ax_mirror.proofs.Lists.{take_whole}
use Rattle.ax_mirror.proofs.Hangs.{low, reached}
use Rattle.ax_mirror.proofs.Together.{is_there}
use Rattle.ax_trees.proofs.Lists.{contains_next, IsAt}

abbrev no_load : {D : Type 0} → Option D → Bool
no_load None = true
no_load (Some x) = false

abbrev pub lacks : {D : Type 0} → Option (Node (Option D)) → Bool
lacks None = false
lacks (Some d) = no_load d.known

pub one_least : (p : ℕ → Bool) (o q : Option ℕ) → IsLeast p o → IsLeast p q → o ≡ q
one_least p None None a b = refl
one_least p None (Some y) a b = absurd (false≢true (sym (a y) ∙ b.0))
one_least p (Some x) None a b = absurd (false≢true (sym (b x) ∙ a.0))
one_least p (Some x) (Some y) a b = let e : x ≡ y = omega (arith, a.1 y b.0, b.1 x a.0) in ap (λ z. Some z) e

-- the least of both is the least of either
least_or : (p q r : ℕ → Bool) (o u : Option ℕ) → IsLeast p o → IsLeast q u → ((z : ℕ) → r z ≡ (p z || q z)) → IsLeast r (least o u)
least_or p q r None u a b h = either u b
  where
    same : (z : ℕ) → r z ≡ q z
    same z = let n : p z ≡ false = a z in h z ∙ rw n refl

    either : (u : Option ℕ) → IsLeast q u → IsLeast r u
    either None b = λ z. same z ∙ b z
    either (Some y) b = (same y ∙ b.0, λ z t. b.1 z (sym (same z) ∙ t))
least_or p q r (Some x) None a b h = (
  (let t = a.0 in h x ∙ rw t refl),
  λ z t. let n : q z ≡ false = b z in a.1 z (right_none (p z) (q z) (sym (h z) ∙ t) n),
)
  where
    right_none : (b c : Bool) → (b || c) ≡ true → c ≡ false → b ≡ true
    right_none true c e n = refl
    right_none false c e n = absurd (cc)
least_or p q r (Some x) (Some y) a b h = (
  here,
  λ z t. by (p z) (q z) refl refl (sym (h z) ∙ t),
)
  where
    here : r (min x y) ≡ true
    here = go (min_or x y)
      where
        min_or : (x y : ℕ) → (min x y ≡ x) ⊎ (min x y ≡ y)
        min_or x y = grind arith

        or_true : (b : Bool) → (b || true) ≡ true
        or_true true = refl
        or_true false = refl

        go : (min x y ≡ x) ⊎ (min x y ≡ y) → r (min x y) ≡ true
        go (inl e) = let t = a.0 in ap r e ∙ h x ∙ rw t refl
        go (inr e) = let t = b.0 in ap r e ∙ h y ∙ rw t (or_true (p y))

    by : {z : ℕ} (c d : Bool) → p z ≡ c → q z ≡ d → (c || d) ≡ true → min x y ≤ z
    by {z} true d e f t = let m = a.1 z e in omega (arith, m)
    by {z} false true e f t = let m = b.1 z f in omega (arith, m)
    by {z} false false e f t = absurd (cc)

same_least : (p q : ℕ → Bool) (o : Option ℕ) → ((z : ℕ) → q z ≡ p z) → IsLeast p o → IsLeast q o
same_least p q None h a = λ z. h z ∙ a z
same_least p q (Some x) h a = (h x ∙ a.0, λ z t. a.1 z (sym (h z) ∙ t))

-- ---- the loop over the made ids

none_yet : (b : Bool) → cond b false false ≡ false
none_yet true = refl
none_yet false = refl

pub least_start : (m : Nodes) (xs : List ℕ) → IsLeast (pends_among m (take 0 xs)) None
least_start m xs = λ z. refl

pub least_found : (m : Nodes) (xs : List ℕ) (i x : ℕ) (o p : Option ℕ) → IsAt xs i x → is_pending (fin.get m x) ≡ true → p ≡ least (Some x) o → IsLeast (pends_among m (take i xs)) o → IsLeast (pends_among m (take (i + 1) xs)) p
least_found m xs i x o p a e s l = subst (λ q. IsLeast (pends_among m (take (i + 1) xs)) q) (sym s)
    (least_or (eqb x) (pends_among m (take i xs)) (pends_among m (take (i + 1) xs)) (Some x) o (grind (arith, eqb_tells x x), λ z t. let q : x ≡ z = eqb-true x z t in omega arith) l
    (λ z. ap (λ b. cond b (is_pending (fin.get m z)) false) (contains_next xs i x z a) ∙ by z (eqb x z) refl))
  where
    by : (z : ℕ) (b : Bool) → eqb x z ≡ b → cond (cond b true (contains (take i xs) z)) (is_pending (fin.get m z)) false ≡ (b || pends_among m (take i xs) z)
    by z true q = ap (λ y. is_pending (fin.get m y)) (sym (eqb-true x z q)) ∙ e
    by z false q = refl

pub least_past : (m : Nodes) (xs : List ℕ) (i x : ℕ) (o : Option ℕ) → IsAt xs i x → is_pending (fin.get m x) ≡ false → IsLeast (pends_among m (take i xs)) o → IsLeast (pends_among m (take (i + 1) xs)) o
least_past m xs i x o a e l = same_least (pends_among m (take i xs)) (pends_among m (take (i + 1) xs)) o
    (λ z. ap (λ b. cond b (is_pending (fin.get m z)) false) (contains_next xs i x z a) ∙ by z (eqb x z) refl) l
  where
    by : (z : ℕ) (b : Bool) → eqb x z ≡ b → cond (cond b true (contains (take i xs) z)) (is_pending (fin.get m z)) false ≡ pends_among m (take i xs) z
    by z true q = let f : is_pending (fin.get m z) ≡ false = ap (λ y. is_pending (fin.get m y)) (sym (eqb-true x z q)) ∙ e in rw f (sym (none_yet (contains (take i xs) z)))
    by z false q = refl

pub least_step : (m : Nodes) (xs : List ℕ) (i x : ℕ) (o p : Option ℕ) → IsAt xs i x → p ≡ cond (is_pending (fin.get m x)) (least (Some x) o) o → IsLeast (pends_among m (take i xs)) o → IsLeast (pends_among m (take (i + 1) xs)) p
least_step m xs i x o p a e l =
    by_go (is_pending (fin.get m x))
    (λ q. least_found m xs i x o p a q (e ∙ rw q refl) l)
    (λ q. subst (λ r. IsLeast (pends_among m (take (i + 1) xs)) r) (sym (e ∙ rw q refl)) (least_past m xs i x o a q l))

pub least_end : (m : Nodes) (xs : List ℕ) (i : ℕ) (o : Option ℕ) → length xs ≤ i → IsLeast (pends_among m (take i xs)) o → IsLeast (pends_among m xs) o
least_end m xs i o h l = subst (λ js. IsLeast (pends_among m js) o) (take_whole xs i h) l

pub deepest_start : (m : Nodes) (xs : List ℕ) → IsDeepest m (take 0 xs) 0
deepest_start m xs = record { above = λ z h. absurd (false≢true h); reached = inl refl }

pub deepest_next : (m : Nodes) (xs : List ℕ) (i x n l k : ℕ) → IsAt xs i x → l ≡ level_of (fin.get m x) → k ≡ max n l → IsDeepest m (take i xs) n → IsDeepest m (take (i + 1) xs) k
deepest_next m xs i x n l k a b o d = record {
  above = λ z h. by z (eqb x z) refl (sym (contains_next xs i x z a) ∙ h);
  reached = ⊎_elim
      (λ (e : k ≡ n). ⊎_elim (λ (f : n ≡ 0). inl (e ∙ f)) (λ (f : (z : ℕ) × (level_of (fin.get m z) ≡ n)). inr (f.0, f.1 ∙ sym e)) d.reached)
      (λ (e : k ≡ l). inr (x, sym b ∙ sym e)) (one n l k o);
}
  where
    one : (n l k : ℕ) → k ≡ max n l → (k ≡ n) ⊎ (k ≡ l)
    one n l k o = grind (arith, o)

    by : (z : ℕ) (c : Bool) → eqb x z ≡ c → cond c true (contains (take i xs) z) ≡ true → level_of (fin.get m z) ≤ k
    by z true q h = subst (λ y. level_of (fin.get m y) ≤ k) (eqb-true x z q) (omega arith)
    by z false q h = let l = d.above z h in omega arith

pub deepest_end : (m : Nodes) (xs : List ℕ) (i n : ℕ) → length xs ≤ i → IsDeepest m (take i xs) n → IsDeepest m xs n
deepest_end m xs i n h l = subst (λ js. IsDeepest m js n) (take_whole xs i h) l

-- ---- what they tell of the draft

module _ {D : Type 0} where
  abbrev pub pend : Trees (Option D) → ℕ → Bool
  pend w z = lacks (node_at w z)

  own_least : (i : ℕ) (e : Option D) → IsLeast (λ z. cond (eqb i z) (no_load e) false) (own_pending i e)
  own_least i None = (let s : eqb i i ≡ true = grind (arith, eqb_tells i i) in rw s refl, λ z t. by z (eqb i z) refl t)
    where
      by : (z : ℕ) (b : Bool) → eqb i z ≡ b → cond b true false ≡ true → i ≤ z
      by z true e t = let s : i ≡ z = eqb-true i z e in omega arith
      by z false e t = absurd (cc)
  own_least i (Some e) = λ z. never (eqb i z)
    where
      never : (b : Bool) → cond b false false ≡ false
      never true = refl
      never false = refl

  not_here : (w : Trees (Option D)) (z : ℕ) → has w z ≡ false → pend w z ≡ false
  not_here w z h = ap lacks (node_none w z h)

  -- the least pending node
  pub draft_least : (w : Trees (Option D)) → IsDistinct w → IsLeast (pend w) (least_pending w)
  draft_least bare d = λ z. refl
  draft_least (tree i e k r) d =
      least_or (λ z. cond (eqb i z) (no_load e) false) (λ z. pend k z || pend r z) (pend (tree i e k r)) (own_pending i e) (least (least_pending k) (least_pending r))
      (own_least i e)
      (least_or (pend k) (pend r) (λ z. pend k z || pend r z) (least_pending k) (least_pending r) (draft_least k d.3) (draft_least r d.4) (λ z. refl))
      (λ z. by_go (eqb i z)
      (λ q. let s : i ≡ z = eqb-true i z q in
      let a : pend k z ≡ false = not_here k z (subst (λ j. has k j ≡ false) s d.0) in
      let b : pend r z ≡ false = not_here r z (subst (λ j. has r j ≡ false) s d.1) in
      rw (q, a, b) (sym (right_false (no_load e))))
      (λ q. by_go (has k z)
      (λ t. let b : pend r z ≡ false = not_here r z (d.2.apart z t) in rw (q, t, b) (sym (right_false (pend k z))))
      (λ t. let a : pend k z ≡ false = not_here k z t in rw (q, t, a) refl)))
    where
      right_false : (b : Bool) → (b || false) ≡ b
      right_false true = refl
      right_false false = refl

pub entry_lacks : (o : Option Entry) → is_pending o ≡ lacks (option_map told_node o)
entry_lacks None = refl
entry_lacks (Some e) = by e.pending (look_of e.node)
  where
    by : (b : Bool) (x : Look) → b ≡ no_load (cond b None (Some x))
    by true x = refl
    by false x = refl

settled_pending : (o : Option Entry) → IsSettled o → is_pending o ≡ false
settled_pending None s = refl
settled_pending (Some e) s = s.0

settled_level : (o : Option Entry) → IsSettled o → level_of o ≤ 256
settled_level None s = omega arith
settled_level (Some e) s = s.1

level_told : (o : Option Entry) (q : Option ℕ) (l : ℕ) → option_map told_place o ≡ Some (q, l) → level_of o ≡ l
level_told None q l h = absurd (cc)
level_told (Some e) q l h = let s : ◌≡◌ {A = Option ℕ × ℕ} (e.above, e.level) (q, l) = cc in ap (λ (x : Option ℕ × ℕ). x.1) s

module _ (m : Nodes) (made : List ℕ) (root : Option ℕ) (w : Trees (Option Look)) (k : KeepsDraft m root w) (s : Settled m made) where
  pending_same : (z : ℕ) → pend w z ≡ pends_among m made z
  pending_same z = ap lacks (sym (k.stands.at z)) ∙ sym (entry_lacks (fin.get m z)) ∙ by (contains made z) refl
    where
      by : (b : Bool) → contains made z ≡ b → is_pending (fin.get m z) ≡ cond b (is_pending (fin.get m z)) false
      by true h = refl
      by false h = settled_pending (fin.get m z) (s z h)

  pub least_is : (o : Option ℕ) → IsLeast (pends_among m made) o → o ≡ least_pending w
  least_is o l = one_least (pend w) o (least_pending w) (same_least (pends_among m made) (pend w) o pending_same l) (draft_least w k.distinct)

  height_low : (n b : ℕ) → IsDeepest m made n → n ≤ b → 256 ≤ b → height w ≤ b
  height_low n b d p q =
      let h : height w + 1 ≤ suc b = low (place m) None 1 b w k.hung each (omega arith) in
      omega arith
    where
      each : (z : ℕ) (a : Option ℕ) (l : ℕ) → has w z ≡ true → place m z ≡ Some (a, l) → l ≤ b
      each z a l h e =
          let t : level_of (fin.get m z) ≡ l = level_told (fin.get m z) a l e in
          by_go (contains made z)
          (λ c. let u = d.above z c in omega arith)
          (λ c. let u = settled_level (fin.get m z) (s z c) in omega arith)

  height_high : (n : ℕ) → IsDeepest m made n → 256 < n → n ≤ height w
  height_high n d p = ⊎_elim (λ (e : n ≡ 0). absurd (omega arith)) (λ (f : (z : ℕ) × (level_of (fin.get m z) ≡ n)). at f.0 (fin.get m f.0) refl f.1) d.reached
    where
      at : (z : ℕ) (o : Option Entry) → fin.get m z ≡ o → level_of o ≡ n → n ≤ height w
      at z None g e = absurd (omega arith)
      at z (Some x) g e =
          let h : x.level < height w + 1 = reached (place m) None 1 w z x.above x.level k.hung (is_there m z x w (sym g) k.stands) (ap (option_map told_place) g) in
          omega arith

  pub is_finished : (n : ℕ) → IsLeast (pends_among m made) None → IsDeepest m made n → n ≤ 256 → (least_pending w ≡ None) × (height w ≤ 256) × (finished blank_look w ≡ Ok (completed blank_look w))
  is_finished n l d p =
      let lp : least_pending w ≡ None = sym (least_is None l) in
      let h : height w ≤ 256 = height_low n 256 d p (omega arith) in
      let t : leb (height w) 256 ≡ true = le-leb (height w) 256 h in
      (lp, h, rw (lp, t) refl)

  pub is_pending_yet : (z : ℕ) → IsLeast (pends_among m made) (Some z) → finished blank_look w ≡ Err (Pending z)
  is_pending_yet z l = let lp : least_pending w ≡ Some z = sym (least_is (Some z) l) in rw lp refl

  pub is_too_deep : (n : ℕ) → IsLeast (pends_among m made) None → IsDeepest m made n → 256 < n → finished blank_look w ≡ Err (TooDeep n)
  is_too_deep n l d p =
      let lp : least_pending w ≡ None = sym (least_is None l) in
      let a : height w ≤ n = height_low n n d (omega arith) (omega arith) in
      let b : n ≤ height w = height_high n d p in
      let e : height w ≡ n = omega arith in
      let t : leb (height w) 256 ≡ false = lt-leb (height w) 256 (omega arith) in
      rw (lp, t) (ap (λ h. Err (TooDeep h)) e)
