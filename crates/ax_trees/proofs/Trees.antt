-- What stands in trees, and where.
use Rattle.std.proofs.Common.{Bool, None, Option, Some, ap, arith, cond, eqb, false, refl, true, ℕ, ◌≡◌}
use Rattle.std.proofs.lemmas.Bool.{eqb-true, false_from_ne_true, false≢true}
use Rattle.std.proofs.lemmas.Bool.Decides.{eqb_tells}
use Rattle.std.proofs.lemmas.Option.{same_Some}
use Rattle.ax_trees.specs.Lists.{contains, first_that}
use Rattle.ax_trees.specs.Nodes.{Node, below, node_at, parent_or, root_below}
use Rattle.ax_trees.specs.Trees.{IsDistinct, IsSingle, Trees, bare, has, has_root, is_root, root_of, roots, tree, all_ids, all_roots}

pub root_in : {X : Type 0} (w : Trees X) (z : ℕ) → has_root w z ≡ true → has w z ≡ true
root_in bare z h = h
root_in (tree i e k r) z h = grind (arith, root_in r z)

pub root_below_in : {X : Type 0} (w : Trees X) (c z : ℕ) → has (root_below w c) z ≡ true → has w z ≡ true
root_below_in bare c z h = h
root_below_in (tree i e k r) c z h = grind (arith, root_below_in r c z)

pub below_in : {X : Type 0} (w : Trees X) (c z : ℕ) → has (below w c) z ≡ true → has w z ≡ true
below_in bare c z h = h
below_in (tree i e k r) c z h = grind (arith, below_in k c z, below_in r c z)

pub contains_roots : {X : Type 0} (w : Trees X) (z : ℕ) → contains (roots w) z ≡ has_root w z
contains_roots bare z = refl
contains_roots (tree i e k r) z = grind (arith, contains_roots r z)

-- of a choice what holds of both
pub either : {X : Type 0} (P : X → Type 0) (b : Bool) (x y : X) → P x → P y → P (cond b x y)
either P true x y p q = p
either P false x y p q = q

pub distinct_root_below : {X : Type 0} (w : Trees X) (c : ℕ) → IsDistinct w → IsDistinct (root_below w c)
distinct_root_below bare c d = d
distinct_root_below (tree i e k r) c d = either IsDistinct (eqb i c) k (root_below r c) d.3 (distinct_root_below r c d.4)

pub distinct_below : {X : Type 0} (w : Trees X) (c : ℕ) → IsDistinct w → IsDistinct (below w c)
distinct_below bare c d = d
distinct_below (tree i e k r) c d =
    either IsDistinct (eqb i c) k (cond (has k c) (below k c) (below r c)) d.3 (either IsDistinct (has k c) (below k c) (below r c) (distinct_below k c d.3) (distinct_below r c d.4))

-- a root stands below no root
pub root_not_below : {X : Type 0} (w : Trees X) (c z : ℕ) → IsDistinct w → has_root w z ≡ true → has (root_below w c) z ≡ false
root_not_below bare c z d h = refl
root_not_below (tree i e k r) c z d h = grind (arith, eqb_tells i z, eqb_tells i c, root_not_below r c z, root_in r z, root_below_in r c z)

-- what stands below two roots is apart
pub below_apart : {X : Type 0} (w : Trees X) (c b z : ℕ) → IsDistinct w → eqb c b ≡ false → has (root_below w c) z ≡ true → has (root_below w b) z ≡ false
below_apart bare c b z d n h = refl
below_apart (tree i e k r) c b z d n h = grind (arith, eqb_tells i c, eqb_tells i b, eqb_tells c b, below_apart r c b z, root_below_in r c z, root_below_in r b z)

pub first_that_none : {X : Type 0} (p : ℕ → Bool) (w : Trees X) → ((z : ℕ) → has_root w z ≡ true → p z ≡ false) → first_that p (roots w) ≡ None
first_that_none p bare h = refl
first_that_none p (tree i e k r) h = grind (arith, eqb_tells i i, h i, first_that_none p r (λ z t. grind (arith, h z)))

pub below_right : {X : Type 0} (i : ℕ) (e : X) (k r : Trees X) (x : ℕ) → eqb i x ≡ false → has k x ≡ false → below (tree i e k r) x ≡ below r x
below_right i e k r x a b = grind arith

pub below_left : {X : Type 0} (i : ℕ) (e : X) (k r : Trees X) (x : ℕ) → eqb i x ≡ false → has k x ≡ true → below (tree i e k r) x ≡ below k x
below_left i e k r x a b = grind arith

pub has_right : {X : Type 0} (i : ℕ) (e : X) (k r : Trees X) (x : ℕ) → eqb i x ≡ false → has k x ≡ false → has (tree i e k r) x ≡ has r x
has_right i e k r x a b = grind arith

pub has_left : {X : Type 0} (i : ℕ) (e : X) (k r : Trees X) (x : ℕ) → eqb i x ≡ false → has k x ≡ true → has (tree i e k r) x ≡ has k x
has_left i e k r x a b = grind arith

pub below_self : {X : Type 0} (c : ℕ) (l : X) (k r : Trees X) → below (tree c l k r) c ≡ k
below_self c l k r = grind (arith, eqb_tells c c)

pub by_go : {X : Type 0} (b : Bool) → (b ≡ true → X) → (b ≡ false → X) → X
by_go true t f = t refl
by_go false t f = f refl

pub all_roots_at : {X : Type 0} (p : ℕ → Bool) (w : Trees X) (z : ℕ) → all_roots p w ≡ true → has_root w z ≡ true → p z ≡ true
all_roots_at p bare z h t = absurd (false≢true t)
all_roots_at p (tree i e k r) z h t = grind (arith, eqb_tells i z, all_roots_at p r z)

pub all_ids_at : {X : Type 0} (p : ℕ → Bool) (w : Trees X) (z : ℕ) → all_ids p w ≡ true → has w z ≡ true → p z ≡ true
all_ids_at p bare z h t = absurd (false≢true t)
all_ids_at p (tree i e k r) z h t = grind (arith, eqb_tells i z, all_ids_at p k z, all_ids_at p r z)

pub below_absent : {X : Type 0} (w : Trees X) (z : ℕ) → has w z ≡ false → below w z ≡ bare
below_absent bare z h = refl
below_absent (tree i e k r) z h = grind (arith, below_absent r z)

pub root_below_absent : {X : Type 0} (w : Trees X) (z : ℕ) → has_root w z ≡ false → root_below w z ≡ bare
root_below_absent bare z h = refl
root_below_absent (tree i e k r) z h = grind (arith, root_below_absent r z)

pub root_below-below : {X : Type 0} (w : Trees X) (z : ℕ) → IsDistinct w → has_root w z ≡ true → root_below w z ≡ below w z
root_below-below bare z d t = refl
root_below-below (tree i e k r) z d t = grind (arith, root_below-below r z d.4, root_in r z, d.2.apart z)

-- a child's children are the same, looked up among its siblings or in the whole
pub below_child : {X : Type 0} (w : Trees X) (y z : ℕ) → IsDistinct w → has_root (below w y) z ≡ true → root_below (below w y) z ≡ below w z
below_child bare y z d t = refl
below_child (tree i e k r) y z d t =
    grind (arith, eqb_tells i z, eqb_tells i y, below_child k y z d.3, below_child r y z d.4, root_below-below k z d.3, root_in (below k y) z, root_in (below r y) z, below_in k y z, below_in r y z, root_in k z, d.2.apart z)

pub all_ids_from : {X : Type 0} (p : ℕ → Bool) (w : Trees X) → ((z : ℕ) → has w z ≡ true → p z ≡ true) → all_ids p w ≡ true
all_ids_from p bare h = refl
all_ids_from p (tree i e k r) h =
    grind (arith, eqb_tells i i, h i, all_ids_from p k (λ z t. h z (grind (arith, t))), all_ids_from p r (λ z t. h z (grind (arith, t))))

pub below_of_below : {X : Type 0} (w : Trees X) (x a : ℕ) → IsDistinct w → has (below w x) a ≡ true → below (below w x) a ≡ below w a
below_of_below bare x a d h = refl
below_of_below (tree i e k r) x a d h =
    grind (arith, h, eqb_tells i a, below_of_below k x a d.3, below_of_below r x a d.4, below_in k x a, below_in r x a, d.0, d.1, d.2.apart a)

pub below_trans : {X : Type 0} (w : Trees X) (x a z : ℕ) → IsDistinct w → has (below w x) a ≡ true → has (below w a) z ≡ true → has (below w x) z ≡ true
below_trans w x a z d h g = below_in (below w x) a z (rw (below_of_below w x a d h) g)

-- two lists of trees with the same roots and the same node at each common id are one
pub agree : {X : Type 0} (v w : Trees X) → IsDistinct v → IsDistinct w → roots v ≡ roots w → ((z : ℕ) → has v z ≡ true → has w z ≡ true → node_at v z ≡ node_at w z) → v ≡ w
agree bare bare dv dw e h = refl
agree bare (tree j a l q) dv dw e h = absurd (cc)
agree (tree i e₀ k r) bare dv dw e h = absurd (cc)
agree {X} (tree i e₀ k r) (tree j a l q) dv dw e h =
    let ij : i ≡ j = cc in
    let self : eqb i i ≡ true = grind (arith, eqb_tells i i) in
    let other : eqb j i ≡ true = grind (arith, eqb_tells j i) in
    let at : ◌≡◌ {A = Option (Node X)} (Some (record { id = i; known = e₀; children = roots k })) (Some (record { id = j; known = a; children = roots l })) =
    rw (self, other) at (h i (grind (arith, self)) (grind (arith, other))) in
    let at' : ◌≡◌ {A = Node X} (record { id = i; known = e₀; children = roots k }) (record { id = j; known = a; children = roots l }) = same_Some _ _ at in
    let known : e₀ ≡ a = ap (λ (u : Node X). u.known) at' in
    let deeper : k ≡ l = agree k l dv.3 dw.3 (ap (λ (u : Node X). u.children) at')
    (λ z g g'. grind (arith, h z, eqb_tells i z, eqb_tells j z, dv.0, dw.0, g, g')) in
    let after : r ≡ q = agree r q dv.4 dw.4 (cc)
    (λ z g g'. grind (arith, h z, eqb_tells i z, eqb_tells j z, dv.1, dw.1, dv.2.apart z, dw.2.apart z, g, g')) in
    cc

pub root_of_in : {X : Type 0} (w : Trees X) (x : ℕ) → root_of w ≡ Some x → has w x ≡ true
root_of_in bare x h = grind (arith, h)
root_of_in (tree i e k r) x h = grind (arith, eqb_tells i x, same_Some i x h)

pub parent_absent : {X : Type 0} (w : Trees X) (n d : ℕ) → has w n ≡ false → parent_or w n d ≡ d
parent_absent bare n d h = refl
parent_absent (tree i e k r) n d h = grind (arith, h, root_in k n, parent_absent r n d)

pub parent_of_root : {X : Type 0} (w : Trees X) (n d : ℕ) → IsDistinct w → has_root w n ≡ true → parent_or w n d ≡ d
parent_of_root bare n d dw t = refl
parent_of_root (tree i e k r) n d dw t =
    grind (arith, t, eqb_tells i n, root_in k n, root_in r n, dw.0, dw.1, dw.2.apart n, parent_of_root r n d dw.4, parent_absent r n d)

pub not_root : {X : Type 0} (w : Trees X) (n : ℕ) → IsSingle w → is_root w n ≡ false → has_root w n ≡ false
not_root bare n s q = refl
not_root (tree i e k bare) n s q = grind (arith, q)
not_root (tree i e k (tree x a l r)) n s q = absurd (cc)

pub all_roots_from : {X : Type 0} (p : ℕ → Bool) (w : Trees X) → ((z : ℕ) → has_root w z ≡ true → p z ≡ true) → all_roots p w ≡ true
all_roots_from p bare h = refl
all_roots_from p (tree i e k r) h = grind (arith, eqb_tells i i, h i, all_roots_from p r (λ z t. h z (grind (arith, t))))

pub is_root_has_root : {X : Type 0} (w : Trees X) (z : ℕ) → IsSingle w → has_root w z ≡ true → root_of w ≡ Some z
is_root_has_root bare z s t = absurd (false≢true t)
is_root_has_root (tree i e k bare) z s t = ap Some (eqb-true i z (grind (arith, t)))
is_root_has_root (tree i e k (tree x a l r)) z s t = absurd (cc)

pub has_root_is_root : {X : Type 0} (w : Trees X) (z : ℕ) → root_of w ≡ Some z → has_root w z ≡ true
has_root_is_root bare z h = absurd (cc)
has_root_is_root (tree i e k r) z h = grind (arith, eqb_tells i z, same_Some i z h)

pub parent_has : {X : Type 0} (w : Trees X) (z f : ℕ) → IsDistinct w → has w z ≡ true → has_root w z ≡ false → (has w (parent_or w z f) ≡ true) × (has_root (below w (parent_or w z f)) z ≡ true)
parent_has bare z f d h t = absurd (false≢true h)
parent_has (tree i e k r) z f d h t =
    let q : eqb i z ≡ false = grind (arith, t) in
    by_go (has_root k z)
    (λ s. let self : eqb i i ≡ true = grind (arith, eqb_tells i i) in rw (s, self) (refl, s))
    (λ s. by_go (has k z)
    (λ b. let ih : (has k (parent_or k z f) ≡ true) × (has_root (below k (parent_or k z f)) z ≡ true) = parent_has k z f d.3 b s in
    let no : eqb i (parent_or k z f) ≡ false = grind (arith, eqb_tells i (parent_or k z f), ih.0, d.0) in
    let a : has k (parent_or k z f) ≡ true = ih.0 in
    rw (s, b, no, a) (refl, ih.1))
    (λ b. let ih : (has r (parent_or r z f) ≡ true) × (has_root (below r (parent_or r z f)) z ≡ true) = parent_has r z f d.4 (grind (arith, h, q, b)) (grind (arith, t, q)) in
    let no : eqb i (parent_or r z f) ≡ false = grind (arith, eqb_tells i (parent_or r z f), ih.0, d.1) in
    let a : has r (parent_or r z f) ≡ true = ih.0 in
    let no' : has k (parent_or r z f) ≡ false = false_from_ne_true (has k (parent_or r z f)) (λ g. grind (arith, d.2.apart (parent_or r z f) g, a)) in
    rw (s, b, no, no', a) (refl, ih.1)))

pub not_below_self : {X : Type 0} (w : Trees X) (x : ℕ) → IsDistinct w → has (below w x) x ≡ false
not_below_self bare x d = refl
not_below_self (tree i e k r) x d = grind (arith, eqb_tells i x, d.0, not_below_self k x d.3, not_below_self r x d.4)

-- a root is nobody's child
pub not_both : {X : Type 0} (k : Trees X) (y z : ℕ) → IsDistinct k → has_root k z ≡ true → has_root (below k y) z ≡ false
not_both bare y z d t = refl
not_both (tree i e k r) y z d t =
    grind (arith, t, eqb_tells i y, eqb_tells i z, root_in k z, root_in r z, root_in (below k y) z, root_in (below r y) z, below_in k y z, below_in r y z, d.0, d.1, d.2.apart z, not_both r y z d.4)

-- a node stands under its parent
pub parent_is : {X : Type 0} (w : Trees X) (y z f : ℕ) → IsDistinct w → has_root (below w y) z ≡ true → parent_or w z f ≡ y
parent_is bare y z f d t = absurd (false≢true t)
parent_is (tree i e k r) y z f d t =
    grind (
      arith,
      t,
      eqb_tells i y,
      eqb_tells i z,
      root_in k z,
      root_in (below k y) z,
      root_in (below r y) z,
      below_in k y z,
      below_in r y z,
      d.0,
      d.1,
      d.2.apart z,
      d.2.apart y,
      parent_is k y z f d.3,
      parent_is r y z f d.4,
      not_both k y z d.3,
    )
