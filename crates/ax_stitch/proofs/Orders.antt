-- The pre-order of one tree, by children and parents. Belongs in ax_trees.
use Rattle.std.proofs.Common.{ℕ, ◌≡◌, ◌<◌, ◌≤◌, true, false, cond, eqb, List, [], ◌∷◌, ◌++◌, Option, Some, None, refl, sym, ap, ◌∙◌, arith, append_assoc, append-nil}
use Rattle.std.proofs.lemmas.Bool.Decides.{eqb_tells}
use Rattle.std.proofs.lemmas.Bool.{false≢true, false_from_ne_true}
use Rattle.ax_trees.specs.Trees.{Trees, bare, tree, has, has_root, ids, roots, root_of, height, IsDistinct, IsSingle}
use Rattle.ax_trees.specs.Nodes.{below, root_below, children, parent, pre}
use Rattle.ax_trees.specs.Lists.{contains}
use Rattle.ax_trees.specs.Spots.{or_else}
use Rattle.ax_trees.proofs.Trees.{by_go, root_in, below_in, below_child, below_of_below, contains_roots, distinct_below}
use Rattle.ax_trees.proofs.Times.{contains-ids}
use Rattle.ax_trees.proofs.PlacedParents.{parent_none}
use Rattle.ax_trees.proofs.Nodes.{tree_at_is, height_root_below}
use Rattle.ax_views.proofs.Climbing.{root_from_none}
use Rattle.ax_rules.specs.Sequences.{first_of, last_of}
use Rattle.ax_stitch.specs.Orders.{ahead, past, next_id, behind}
use Rattle.ax_stitch.proofs.Lists.{last_or, last_or-append, last_of-append, last_of-cons, last_of-after, ahead-append, past-append}

pub parent_in : {X : Type 0} (w : Trees X) (z y : ℕ) → parent w z ≡ Some y → has w y ≡ true
parent_in bare z y h = absurd (cc)
parent_in (tree i x k r) z y h = grind (arith, h, eqb_tells i y, parent_in k z y, parent_in r z y)

pub child_in : {X : Type 0} (w : Trees X) (z y : ℕ) → parent w z ≡ Some y → has w z ≡ true
child_in w z y h = by_go (has w z) (λ q. q) (λ q. absurd (let n : parent w z ≡ None = parent_none w z q in cc))

-- ---- forwards

pub past_ids : {X : Type 0} (w : Trees X) (z : ℕ) → IsDistinct w → has w z ≡ true → past (ids w) z ≡ ids (below w z) ++ behind w z
past_ids bare z d h = absurd (false≢true h)
past_ids (tree i x k r) z d h = by_go (eqb i z) (λ q. rw q refl) (λ q. by_go (has k z)
    (λ p. let c : contains (ids k) z ≡ true = contains-ids k z ∙ p in
    rw (q, p) (past-append (ids k) (ids r) z ∙ (ap (λ b. cond b (past (ids k) z ++ ids r) (past (ids r) z)) c
    ∙ (ap (λ xs. xs ++ ids r) (past_ids k z d.3 p) ∙ append_assoc (ids (below k z)) (behind k z) (ids r)))))
    (λ p. let c : contains (ids k) z ≡ false = contains-ids k z ∙ p in
    rw (q, p) (past-append (ids k) (ids r) z ∙ (ap (λ b. cond b (past (ids k) z ++ ids r) (past (ids r) z)) c
    ∙ past_ids r z d.4 (grind (arith, h, q, p))))))

first_roots : {X : Type 0} (w : Trees X) (e : List ℕ) → first_of (ids w ++ e) ≡ or_else (first_of (roots w)) (first_of e)
first_roots bare e = refl
first_roots (tree i x k r) e = refl

-- behind a root stand its later siblings
behind_root : {X : Type 0} (k : Trees X) (z : ℕ) (e : List ℕ) → IsDistinct k → has_root k z ≡ true → first_of (behind k z ++ e) ≡ or_else (first_of (past (roots k) z)) (first_of e)
behind_root bare z e d t = absurd (false≢true t)
behind_root (tree j x a b) z e d t = by_go (eqb j z)
    (λ q. rw q (first_roots b e))
    (λ q. let t' : has_root b z ≡ true = grind (arith, t, q) in
    let no : has a z ≡ false = false_from_ne_true (has a z) (λ g. absurd (false≢true (sym (d.2.apart z g) ∙ root_in b z t'))) in
    rw (q, no) (behind_root b z e d.4 t'))

assoc_first : (xs ys zs : List ℕ) → first_of ((xs ++ ys) ++ zs) ≡ first_of (xs ++ (ys ++ zs))
assoc_first xs ys zs = ap first_of (append_assoc xs ys zs)

pub behind_up : {X : Type 0} (w : Trees X) (z y : ℕ) (e : List ℕ) → IsDistinct w → parent w z ≡ Some y
    → first_of (behind w z ++ e) ≡ or_else (first_of (past (children w y) z)) (first_of (behind w y ++ e))
behind_up bare z y e d h = absurd (cc)
behind_up (tree i x k r) z y e d h = by_go (has_root k z)
    (λ t. at_root t) (λ t. by_go (has k z) (λ g. inside (λ l u. behind_up k z y l d.3 u) t g) (λ g. after (λ u. behind_up r z y e d.4 u) t g))
  where
    not_here : has k z ≡ true → eqb i z ≡ false
    not_here g = false_from_ne_true (eqb i z) (λ q. grind (arith, q, eqb_tells i z, g, d.0))

    at_root : has_root k z ≡ true → first_of (behind (tree i x k r) z ++ e) ≡ or_else (first_of (past (children (tree i x k r) y) z)) (first_of (behind (tree i x k r) y ++ e))
    at_root t =
        let g : has k z ≡ true = root_in k z t in
        let q : eqb i z ≡ false = not_here g in
        let up : ◌≡◌ {A = Option ℕ} (Some i) (Some y) = rw t at h in
        let same : i ≡ y = cc in
        let self : eqb i y ≡ true = grind (arith, eqb_tells i y, same) in
        rw (q, g, self) (assoc_first (behind k z) (ids r) e ∙ behind_root k z (ids r ++ e) d.3 t)

    inside : ((l : List ℕ) → parent k z ≡ Some y → first_of (behind k z ++ l) ≡ or_else (first_of (past (children k y) z)) (first_of (behind k y ++ l)))
        → has_root k z ≡ false → has k z ≡ true → first_of (behind (tree i x k r) z ++ e) ≡ or_else (first_of (past (children (tree i x k r) y) z)) (first_of (behind (tree i x k r) y ++ e))
    inside ih t g =
        let q : eqb i z ≡ false = not_here g in
        let up : parent k z ≡ Some y = rw (t, g) at h in
        let there : has k y ≡ true = parent_in k z y up in
        let other : eqb i y ≡ false = false_from_ne_true (eqb i y) (λ p. grind (arith, p, eqb_tells i y, there, d.0)) in
        rw (q, g, other, there) (assoc_first (behind k z) (ids r) e
        ∙ (ih (ids r ++ e) up ∙ ap (λ o. or_else (first_of (past (children k y) z)) o) (sym (assoc_first (behind k y) (ids r) e))))

    after : (parent r z ≡ Some y → first_of (behind r z ++ e) ≡ or_else (first_of (past (children r y) z)) (first_of (behind r y ++ e)))
        → has_root k z ≡ false → has k z ≡ false → first_of (behind (tree i x k r) z ++ e) ≡ or_else (first_of (past (children (tree i x k r) y) z)) (first_of (behind (tree i x k r) y ++ e))
    after ih t g =
        let up : parent r z ≡ Some y = rw (t, g) at h in
        let late : has r z ≡ true = child_in r z y up in
        let there : has r y ≡ true = parent_in r z y up in
        let q : eqb i z ≡ false = false_from_ne_true (eqb i z) (λ p. grind (arith, p, eqb_tells i z, late, d.1)) in
        let other : eqb i y ≡ false = false_from_ne_true (eqb i y) (λ p. grind (arith, p, eqb_tells i y, there, d.1)) in
        let no : has k y ≡ false = false_from_ne_true (has k y) (λ p. absurd (false≢true (sym (d.2.apart y p) ∙ there))) in
        rw (q, g, other, no) (ih up)

-- nothing is behind the root
pub behind_top : {X : Type 0} (w : Trees X) (z : ℕ) → IsDistinct w → IsSingle w → parent w z ≡ None → behind w z ≡ []
behind_top bare z d s h = refl
behind_top {X} (tree i x k r) z d s h = by_go (eqb i z)
    (λ q. rw q (ap ids s))
    (λ q. by_go (has k z) (λ g. absurd (no g)) (λ g. rw (q, g) (ap (λ w. behind w z) s)))
  where
    no : has k z ≡ true → ⊥
    no g = by_go (has_root k z)
        (λ t. let e : ◌≡◌ {A = Option ℕ} (Some i) None = rw t at h in cc)
        (λ t. let up : parent k z ≡ None = rw (t, g) at h in absurd (false≢true (sym t ∙ root_from_none k z d.3 g up)))

-- ---- backwards

-- the last of what stands below the sibling s, or d where there is none
abbrev pub last_after : {X : Type 0} → Trees X → ℕ → Option ℕ → ℕ
last_after w d None = d
last_after w d (Some s) = last_or s (ids (below w s))

same_after : {X : Type 0} (w v : Trees X) (d : ℕ) (o : Option ℕ) → ((s : ℕ) → o ≡ Some s → below w s ≡ below v s) → last_after w d o ≡ last_after v d o
same_after w v d None h = refl
same_after w v d (Some s) h = ap (λ u. last_or s (ids u)) (h s refl)

last_listed : (x : ℕ) (xs : List ℕ) → contains (x ∷ xs) (last_or x xs) ≡ true
last_listed x [] = grind (arith, eqb_tells x x)
last_listed x (y ∷ ys) = grind (arith, last_listed y ys)

pub last_in : (xs : List ℕ) (s : ℕ) → last_of xs ≡ Some s → contains xs s ≡ true
last_in [] s h = absurd (cc)
last_in (x ∷ xs) s h =
    let e : ◌≡◌ {A = Option ℕ} (Some (last_or x xs)) (Some s) = sym (last_of-cons x xs) ∙ h in
    let same : last_or x xs ≡ s = cc in
    sym (ap (contains (x ∷ xs)) same) ∙ last_listed x xs

in_front : (xs : List ℕ) (z y : ℕ) → contains (ahead xs z) y ≡ true → contains xs y ≡ true
in_front [] z y h = absurd (false≢true h)
in_front (x ∷ xs) z y h = grind (arith, h, eqb_tells x z, eqb_tells x y, in_front xs z y)

-- a tree among others: what stands below it
pub below_late : {X : Type 0} (i : ℕ) (x : X) (k r : Trees X) (s : ℕ) → IsDistinct (tree i x k r) → has r s ≡ true → below (tree i x k r) s ≡ below r s
below_late i x k r s d h =
    let other : eqb i s ≡ false = false_from_ne_true (eqb i s) (λ p. grind (arith, p, eqb_tells i s, h, d.1)) in
    let no : has k s ≡ false = false_from_ne_true (has k s) (λ p. absurd (false≢true (sym (d.2.apart s p) ∙ h))) in
    rw (other, no) refl

pub below_early : {X : Type 0} (i : ℕ) (x : X) (k r : Trees X) (s : ℕ) → IsDistinct (tree i x k r) → has k s ≡ true → below (tree i x k r) s ≡ below k s
below_early i x k r s d h =
    let other : eqb i s ≡ false = false_from_ne_true (eqb i s) (λ p. grind (arith, p, eqb_tells i s, h, d.0)) in
    rw (other, h) refl

one_more : {X : Type 0} (j : ℕ) (x : X) (a b : Trees X) (d : ℕ) (o : Option ℕ) → ((s : ℕ) → o ≡ Some s → below (tree j x a b) s ≡ below b s)
    → last_after b (last_or j (ids a)) o ≡ last_after (tree j x a b) d (or_else o (Some j))
one_more j x a b d None h = let self : eqb j j ≡ true = grind (arith, eqb_tells j j) in rw self refl
one_more j x a b d (Some s) h = ap (λ u. last_or s (ids u)) (sym (h s refl))

last_roots : {X : Type 0} (w : Trees X) (d : ℕ) → IsDistinct w → last_or d (ids w) ≡ last_after w d (last_of (roots w))
last_roots bare d h = refl
last_roots (tree j x a b) d h =
    last_or-append j (ids a) (ids b)
    ∙ (last_roots b (last_or j (ids a)) h.4
    ∙ (one_more j x a b d (last_of (roots b)) (λ s e. below_late j x a b s h (root_in b s (sym (contains_roots b s) ∙ last_in (roots b) s e)))
    ∙ ap (last_after (tree j x a b) d) (sym (last_of-append (j ∷ []) (roots b)))))

ahead_root : {X : Type 0} (w : Trees X) (z d : ℕ) → IsDistinct w → has_root w z ≡ true → last_or d (ahead (ids w) z) ≡ last_after w d (last_of (ahead (roots w) z))
ahead_root bare z d h t = absurd (false≢true t)
ahead_root (tree j x a b) z d h t = by_go (eqb j z) (λ q. rw q refl) (λ q.
    let t' : has_root b z ≡ true = grind (arith, t, q) in
    let no : contains (ids a) z ≡ false = contains-ids a z ∙ false_from_ne_true (has a z) (λ g. absurd (false≢true (sym (h.2.apart z g) ∙ root_in b z t'))) in
    rw q (ap (last_or j) (ahead-append (ids a) (ids b) z ∙ ap (λ c. cond c (ahead (ids a) z) (ids a ++ ahead (ids b) z)) no)
    ∙ (last_or-append j (ids a) (ahead (ids b) z)
    ∙ (ahead_root b z (last_or j (ids a)) h.4 t'
    ∙ (one_more j x a b d (last_of (ahead (roots b) z)) (λ s e. below_late j x a b s h (root_in b s (sym (contains_roots b s) ∙ in_front (roots b) z s (last_in (ahead (roots b) z) s e))))
    ∙ ap (last_after (tree j x a b) d) (sym (last_of-append (j ∷ []) (ahead (roots b) z))))))))

pub sibling_in : {X : Type 0} (k : Trees X) (y z s : ℕ) → last_of (ahead (children k y) z) ≡ Some s → has k s ≡ true
sibling_in k y z s e = below_in k y s (root_in (below k y) s (sym (contains_roots (below k y) s) ∙ in_front (roots (below k y)) z s (last_in (ahead (roots (below k y)) z) s e)))

pub ahead_up : {X : Type 0} (w : Trees X) (z y : ℕ) → IsDistinct w → parent w z ≡ Some y → last_of (ahead (ids w) z) ≡ Some (last_after w y (last_of (ahead (children w y) z)))
ahead_up bare z y d h = absurd (cc)
ahead_up (tree i x k r) z y d h = by_go (has_root k z)
    (λ t. at_root t) (λ t. by_go (has k z) (λ g. inside (λ u. ahead_up k z y d.3 u) t g) (λ g. after (λ u. ahead_up r z y d.4 u) t g))
  where
    not_here : has k z ≡ true → eqb i z ≡ false
    not_here g = false_from_ne_true (eqb i z) (λ q. grind (arith, q, eqb_tells i z, g, d.0))

    front : has k z ≡ true → ahead (ids k ++ ids r) z ≡ ahead (ids k) z
    front g = ahead-append (ids k) (ids r) z ∙ ap (λ c. cond c (ahead (ids k) z) (ids k ++ ahead (ids r) z)) (contains-ids k z ∙ g)

    at_root : has_root k z ≡ true → last_of (ahead (ids (tree i x k r)) z) ≡ Some (last_after (tree i x k r) y (last_of (ahead (children (tree i x k r) y) z)))
    at_root t =
        let g : has k z ≡ true = root_in k z t in
        let q : eqb i z ≡ false = not_here g in
        let up : ◌≡◌ {A = Option ℕ} (Some i) (Some y) = rw t at h in
        let same : i ≡ y = cc in
        let self : eqb i y ≡ true = grind (arith, eqb_tells i y, same) in
        rw (q, self) (ap (λ xs. last_of (i ∷ xs)) (front g)
        ∙ (last_of-cons i (ahead (ids k) z)
        ∙ ap Some (ahead_root k z i d.3 t
        ∙ (sym (same_after (tree i x k r) k i (last_of (ahead (roots k) z)) (λ s e. below_early i x k r s d (root_in k s (sym (contains_roots k s) ∙ in_front (roots k) z s (last_in (ahead (roots k) z) s e)))))
        ∙ ap (λ v. last_after (tree i x k r) v (last_of (ahead (roots k) z))) same))))

    inside : (parent k z ≡ Some y → last_of (ahead (ids k) z) ≡ Some (last_after k y (last_of (ahead (children k y) z))))
        → has_root k z ≡ false → has k z ≡ true → last_of (ahead (ids (tree i x k r)) z) ≡ Some (last_after (tree i x k r) y (last_of (ahead (children (tree i x k r) y) z)))
    inside ih t g =
        let q : eqb i z ≡ false = not_here g in
        let up : parent k z ≡ Some y = rw (t, g) at h in
        let there : has k y ≡ true = parent_in k z y up in
        let other : eqb i y ≡ false = false_from_ne_true (eqb i y) (λ p. grind (arith, p, eqb_tells i y, there, d.0)) in
        rw (q, other, there) (ap (λ xs. last_of (i ∷ xs)) (front g)
        ∙ (last_of-after (i ∷ []) (ahead (ids k) z) (last_after k y (last_of (ahead (children k y) z))) (ih up)
        ∙ ap Some (sym (same_after (tree i x k r) k y (last_of (ahead (children k y) z)) (λ s e. below_early i x k r s d (sibling_in k y z s e))))))

    after : (parent r z ≡ Some y → last_of (ahead (ids r) z) ≡ Some (last_after r y (last_of (ahead (children r y) z))))
        → has_root k z ≡ false → has k z ≡ false → last_of (ahead (ids (tree i x k r)) z) ≡ Some (last_after (tree i x k r) y (last_of (ahead (children (tree i x k r) y) z)))
    after ih t g =
        let up : parent r z ≡ Some y = rw (t, g) at h in
        let late : has r z ≡ true = child_in r z y up in
        let there : has r y ≡ true = parent_in r z y up in
        let q : eqb i z ≡ false = false_from_ne_true (eqb i z) (λ p. grind (arith, p, eqb_tells i z, late, d.1)) in
        let other : eqb i y ≡ false = false_from_ne_true (eqb i y) (λ p. grind (arith, p, eqb_tells i y, there, d.1)) in
        let no : has k y ≡ false = false_from_ne_true (has k y) (λ p. absurd (false≢true (sym (d.2.apart y p) ∙ there))) in
        let c : contains (ids k) z ≡ false = contains-ids k z ∙ g in
        rw (q, other, no) (ap (λ xs. last_of (i ∷ xs)) (ahead-append (ids k) (ids r) z ∙ ap (λ b. cond b (ahead (ids k) z) (ids k ++ ahead (ids r) z)) c)
        ∙ (last_of-after (i ∷ ids k) (ahead (ids r) z) (last_after r y (last_of (ahead (children r y) z))) (ih up)
        ∙ ap Some (sym (same_after (tree i x k r) r y (last_of (ahead (children r y) z)) (λ s e. below_late i x k r s d (sibling_in r y z s e))))))

-- nothing stands before the root
pub ahead_top : {X : Type 0} (w : Trees X) (z : ℕ) → IsDistinct w → IsSingle w → has w z ≡ true → parent w z ≡ None → ahead (ids w) z ≡ []
ahead_top bare z d s g h = refl
ahead_top {X} (tree i x k r) z d s g h =
    let t : has_root (tree i x k r) z ≡ true = root_from_none (tree i x k r) z d g h in
    let none : has_root r z ≡ false = ap (λ w. has_root w z) s in
    let q : eqb i z ≡ true = grind (arith, t, none) in
    rw q refl

-- ---- the last below a node

pub pre_is : {X : Type 0} (w : Trees X) (z : ℕ) → has w z ≡ true → pre w z ≡ z ∷ ids (below w z)
pre_is w z h = let t = tree_at_is w z h in ap ids t.1 ∙ append-nil (z ∷ ids (below w z))

pub last_there : {X : Type 0} (w : Trees X) (z c : ℕ) → IsDistinct w → has w z ≡ true → last_of (children w z) ≡ Some c → (has w c ≡ true) × (last_of (pre w z) ≡ last_of (pre w c)) × (height (below w c) < height (below w z))
last_there w z c d h e = (there, whole, lower)
  where
    root : has_root (below w z) c ≡ true
    root = sym (contains_roots (below w z) c) ∙ last_in (children w z) c e

    there : has w c ≡ true
    there = below_in w z c (root_in (below w z) c root)

    deep : below (below w z) c ≡ below w c
    deep = below_of_below w z c d (root_in (below w z) c root)

    whole : last_of (pre w z) ≡ last_of (pre w c)
    whole =
        ap last_of (pre_is w z h)
        ∙ (last_of-cons z (ids (below w z))
        ∙ (ap Some (last_roots (below w z) z (distinct_below w z d) ∙ (ap (last_after (below w z) z) e ∙ ap (λ u. last_or c (ids u)) deep))
        ∙ sym (ap last_of (pre_is w c there) ∙ last_of-cons c (ids (below w c)))))

    tall : {X : Type 0} (v : Trees X) → has_root v c ≡ true → 1 ≤ height v
    tall bare t = absurd (false≢true t)
    tall (tree i x k r) t = omega arith

    lower : height (below w c) < height (below w z)
    lower =
        let a = height_root_below (below w z) c in
        let b : root_below (below w z) c ≡ below w c = below_child w z c d root in
        let e : height (root_below (below w z) c) ≡ height (below w c) = ap height b in
        omega (arith, a, e, tall (below w z) root)

pub last_alone : {X : Type 0} (w : Trees X) (z : ℕ) → has w z ≡ true → last_of (children w z) ≡ None → last_of (pre w z) ≡ Some z
last_alone w z h e = ap last_of (pre_is w z h) ∙ ap (λ xs. last_of (z ∷ xs)) (none (below w z) e)
  where
    none : {X : Type 0} (v : Trees X) → last_of (roots v) ≡ None → ids v ≡ []
    none bare n = refl
    none (tree i x k r) n = absurd (let s = last_of-cons i (roots r) in cc)

pub last_after_pre : {X : Type 0} (w : Trees X) (s v : ℕ) → has w s ≡ true → last_of (pre w s) ≡ Some v → last_or s (ids (below w s)) ≡ v
last_after_pre w s v h e = let a = last_of-cons s (ids (below w s)) in let b = pre_is w s h in cc

pub whole_pre : {X : Type 0} (w : Trees X) (r : ℕ) → IsSingle w → root_of w ≡ Some r → pre w r ≡ ids w
whole_pre bare r s e = absurd (cc)
whole_pre (tree i x k b) r s e = let same : i ≡ r = cc in let self : eqb i r ≡ true = grind (arith, eqb_tells i r, same) in
    rw self (ap (λ u. i ∷ (ids k ++ ids u)) (sym s))

-- ---- what the walks ask

pub behind_step : {X : Type 0} (w : Trees X) (z y : ℕ) → IsDistinct w → parent w z ≡ Some y → first_of (behind w z) ≡ or_else (next_id (children w y) z) (first_of (behind w y))
behind_step w z y d h =
    ap first_of (sym (append-nil (behind w z))) ∙ (behind_up w z y [] d h ∙ ap (λ l. or_else (next_id (children w y) z) (first_of l)) (append-nil (behind w y)))

pub next_tree : {X : Type 0} (w : Trees X) (z : ℕ) → IsDistinct w → has w z ≡ true → next_id (ids w) z ≡ or_else (first_of (children w z)) (first_of (behind w z))
next_tree w z d h = ap first_of (past_ids w z d h) ∙ first_roots (below w z) (behind w z)
