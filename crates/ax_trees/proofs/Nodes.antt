-- The node and the tree at an id.
use Rattle.std.proofs.Common.{Some, ap, arith, eqb, false, max, refl, subst, sym, true, ℕ, ◌+◌, ◌||◌, ◌∙◌, ◌≡◌, ◌≤◌}
use Rattle.std.proofs.lemmas.Bool.{eqb-true, false_from_ne_true, false≢true}
use Rattle.std.proofs.lemmas.Bool.Decides.{eqb_tells}
use Rattle.ax_trees.specs.Nodes.{below, depth, node_at, root_below, root_known, tree_at}
use Rattle.ax_trees.specs.Trees.{IsDistinct, Trees, bare, has, has_root, height, roots, tree}
use Rattle.ax_trees.proofs.Trees.{below_in, by_go, root_below_in, root_in}

pub height_below : {X : Type 0} (t : Trees X) (x : ℕ) → has t x ≡ true → depth t x + height (below t x) ≤ height t
height_below bare x h = absurd (false≢true h)
height_below (tree i a k r) x h = grind (arith, height_below k x, height_below r x)

pub height_root_below : {X : Type 0} (k : Trees X) (c : ℕ) → 1 + height (root_below k c) ≤ max 1 (height k)
height_root_below bare c = grind arith
height_root_below (tree i a k r) c = grind (arith, height_root_below r c)

pub node_root : {X : Type 0} (f : X) (k : Trees X) (c : ℕ) → IsDistinct k → has_root k c ≡ true → node_at k c ≡ Some (record { id = c; known = root_known f k c; children = roots (root_below k c) })
node_root f bare c d t = absurd (false≢true t)
node_root f (tree i a k r) c d t =
    by_go (eqb i c)
    (λ q. rw q (ap (λ y. Some (record { id = y; known = a; children = roots k })) (eqb-true i c q)))
    (λ q. let past : has k c ≡ false = false_from_ne_true (has k c) (λ g. grind (arith, d.2.apart c g, root_in r c, t)) in
    rw (q, past) (node_root f r c d.4 (grind (arith, t))))

pub node_root_below : {X : Type 0} (k : Trees X) (c z : ℕ) → IsDistinct k → has (root_below k c) z ≡ true → node_at (root_below k c) z ≡ node_at k z
node_root_below bare c z d h = refl
node_root_below (tree i a k r) c z d h = grind (arith, eqb_tells i c, eqb_tells i z, node_root_below r c z d.4, root_below_in r c z, d.0, d.1, d.2.apart z)

pub node_below : {X : Type 0} (t : Trees X) (x z : ℕ) → IsDistinct t → has (below t x) z ≡ true → node_at (below t x) z ≡ node_at t z
node_below bare x z d h = refl
node_below (tree i a k r) x z d h =
    grind (arith, eqb_tells i z, node_below k x z d.3, node_below r x z d.4, below_in k x z, below_in r x z, d.0, d.1, d.2.apart z)

pub tree_at_is : {X : Type 0} (w : Trees X) (x : ℕ) → has w x ≡ true → (d : X) × (tree_at w x ≡ tree x d (below w x) bare) × (node_at w x ≡ Some (record { id = x; known = d; children = roots (below w x) }))
tree_at_is bare x h = absurd (false≢true h)
tree_at_is (tree i e k r) x h =
    by_go (eqb i x)
    (λ q. let at : i ≡ x = eqb-true i x q in rw q (e, ap (λ y. tree y e k bare) at, ap (λ y. Some (record { id = y; known = e; children = roots k })) at))
    (λ q. by_go (has k x) (λ q'. rw (q, q') (tree_at_is k x q')) (λ q'. rw (q, q') (tree_at_is r x (grind (arith, h)))))

pub distinct_tree_at : {X : Type 0} (w : Trees X) (n : ℕ) → IsDistinct w → IsDistinct (tree_at w n)
distinct_tree_at bare n d = d
distinct_tree_at (tree i e k r) n d =
    by_go (eqb i n)
    (λ q. rw q (d.0, refl, record { apart = λ z g. refl }, d.3, tt))
    (λ q. by_go (has k n) (λ q'. rw (q, q') (distinct_tree_at k n d.3)) (λ q'. rw (q, q') (distinct_tree_at r n d.4)))

pub has-tree_at : {X : Type 0} (w : Trees X) (n z : ℕ) → has w n ≡ true → has (tree_at w n) z ≡ (eqb n z || has (below w n) z)
has-tree_at {X} w n z h = let d : X = (tree_at_is w n h).0 in rw (tree_at_is w n h).1 (grind arith)

pub node_tree_at : {X : Type 0} (w : Trees X) (n z : ℕ) → IsDistinct w → has w n ≡ true → has (tree_at w n) z ≡ true → node_at (tree_at w n) z ≡ node_at w z
node_tree_at {X} w n z d h g =
    let e : X = (tree_at_is w n h).0 in
    let g' : (eqb n z || has (below w n) z) ≡ true = sym (has-tree_at w n z h) ∙ g in
    by_go (eqb n z)
    (λ q. let at : n ≡ z = eqb-true n z q in subst (λ y. node_at (tree_at w n) y ≡ node_at w y) at
    (let self : eqb n n ≡ true = grind (arith, eqb_tells n n) in rw ((tree_at_is w n h).1, self) (sym (tree_at_is w n h).2)))
    (λ q. let in' : has (below w n) z ≡ true = grind (arith, g', q) in rw ((tree_at_is w n h).1, q, in') (node_below w n z d in'))

pub tree_at_root : {X : Type 0} (f : X) (k : Trees X) (c : ℕ) → IsDistinct k → has_root k c ≡ true → tree_at k c ≡ tree c (root_known f k c) (root_below k c) bare
tree_at_root f bare c d t = absurd (false≢true t)
tree_at_root f (tree i e k r) c d t =
    by_go (eqb i c)
    (λ q. rw q (ap (λ y. tree y e k bare) (eqb-true i c q)))
    (λ q. let t' : has_root r c ≡ true = grind (arith, t, q) in
    let none : has k c ≡ false = false_from_ne_true (has k c) (λ g. grind (arith, d.2.apart c g, root_in r c t')) in
    rw (q, none) (tree_at_root f r c d.4 t'))

-- the tree at a child, looked up in the whole or among its siblings
pub tree_at_child : {X : Type 0} (f : X) (s : Trees X) (y c : ℕ) → IsDistinct s → has_root (below s y) c ≡ true → tree_at s c ≡ tree c (root_known f (below s y) c) (root_below (below s y) c) bare
tree_at_child f bare y c d t = absurd (false≢true t)
tree_at_child f (tree i e k r) y c d t =
    by_go (eqb i y)
    (λ q. let t' : has_root k c ≡ true = rw q at t in
    let c' : has k c ≡ true = root_in k c t' in
    let no : eqb i c ≡ false = grind (arith, eqb_tells i c, d.0, c') in
    rw (q, no, c') (tree_at_root f k c d.3 t'))
    (λ q. by_go (has k y)
    (λ b. let t' : has_root (below k y) c ≡ true = rw (q, b) at t in
    let c' : has k c ≡ true = below_in k y c (root_in (below k y) c t') in
    let no : eqb i c ≡ false = grind (arith, eqb_tells i c, d.0, c') in
    rw (q, b, no, c') (tree_at_child f k y c d.3 t'))
    (λ b. let t' : has_root (below r y) c ≡ true = rw (q, b) at t in
    let c' : has r c ≡ true = below_in r y c (root_in (below r y) c t') in
    let no : eqb i c ≡ false = grind (arith, eqb_tells i c, d.1, c') in
    let no' : has k c ≡ false = false_from_ne_true (has k c) (λ g. grind (arith, d.2.apart c g, c')) in
    rw (q, b, no, no') (tree_at_child f r y c d.4 t')))
