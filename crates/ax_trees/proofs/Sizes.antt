-- How many nodes there are, and how deep they stand, after a tree is put in or taken out.
use Rattle.std.proofs.Common.{ℕ, zero, suc, ◌+◌, ◌≡◌, ◌≤◌, max, Bool, true, false, cond, ◌||◌, eqb, List, [], ◌∷◌, length, refl, sym, ap, ◌∙◌, arith}
use Rattle.std.proofs.lemmas.Bool.Decides.{eqb_tells}
use Rattle.std.proofs.lemmas.Bool.{false_from_ne_true, false≢true}
use Rattle.ax_trees.specs.Trees.{Trees, bare, tree, has, has_root, count, height, IsDistinct}
use Rattle.ax_trees.specs.Nodes.{tree_at, below, chain, depth, parent_or}
use Rattle.ax_trees.specs.Changes.{with_below, with_known, planted, pruned}
use Rattle.ax_trees.proofs.Trees.{by_go, root_in}
use Rattle.ax_trees.proofs.Moved.{pruned_in}

pub depth-chain : {X : Type 0} (f : Trees X) (z : ℕ) → length (chain f z) ≡ depth f z
depth-chain bare z = refl
depth-chain (tree i x k r) z =
    by_go (eqb i z) (λ q. rw q refl) (λ q. by_go (has k z) (λ p. rw (q, p) (omega (arith, depth-chain k z))) (λ p. rw (q, p) (depth-chain r z)))

-- no chain is longer than the trees are high, and each id that is there has one
pub depth_height : {X : Type 0} (f : Trees X) (z : ℕ) → depth f z ≤ height f
depth_height bare z = omega arith
depth_height (tree i x k r) z = grind (arith, depth_height k z, depth_height r z)

pub depth_there : {X : Type 0} (f : Trees X) (z : ℕ) → has f z ≡ true → 1 ≤ depth f z
depth_there bare z h = absurd (false≢true h)
depth_there (tree i x k r) z h = grind (arith, depth_there k z, depth_there r z)

pub depth_none : {X : Type 0} (f : Trees X) (z : ℕ) → has f z ≡ false → depth f z ≡ 0
depth_none bare z h = refl
depth_none (tree i x k r) z h = grind (arith, depth_none r z)

-- a root stands at 1, and any other id one deeper than its parent
pub depth_root : {X : Type 0} (f : Trees X) (z : ℕ) → IsDistinct f → has_root f z ≡ true → depth f z ≡ 1
depth_root bare z d t = absurd (false≢true t)
depth_root (tree i x k r) z d t = grind (arith, depth_root r z d.4, root_in r z, d.2.apart z)

pub depth_step : {X : Type 0} (f : Trees X) (z d : ℕ) → IsDistinct f → has f z ≡ true → has_root f z ≡ false → (has f (parent_or f z d) ≡ true) × (depth f z ≡ suc (depth f (parent_or f z d)))
depth_step bare z e d h t = absurd (false≢true h)
depth_step (tree i x k r) z e d h t =
    let q : eqb i z ≡ false = grind (arith, t) in
    let self : eqb i i ≡ true = grind (arith, eqb_tells i i) in
    by_go (has k z)
    (λ p. by_go (has_root k z)
    (λ s. let one : depth k z ≡ 1 = depth_root k z d.3 s in rw (q, p, s, self, one) (refl, omega arith))
    (λ s. let up : (has k (parent_or k z e) ≡ true) × (depth k z ≡ suc (depth k (parent_or k z e))) = depth_step k z e d.3 p s in
    let no : eqb i (parent_or k z e) ≡ false = grind (arith, eqb_tells i (parent_or k z e), up.0, d.0) in
    let u : has k (parent_or k z e) ≡ true = up.0 in
    let v : depth k z ≡ suc (depth k (parent_or k z e)) = up.1 in
    rw (q, p, s, no, u) (refl, omega (arith, v))))
    (λ p. let s : has_root k z ≡ false = false_from_ne_true (has_root k z) (λ g. grind (arith, root_in k z g, p)) in
    let up : (has r (parent_or r z e) ≡ true) × (depth r z ≡ suc (depth r (parent_or r z e))) = depth_step r z e d.4 (grind (arith, h, q, p)) (grind (arith, t, q)) in
    let no : eqb i (parent_or r z e) ≡ false = grind (arith, eqb_tells i (parent_or r z e), up.0, d.1) in
    let no' : has k (parent_or r z e) ≡ false = false_from_ne_true (has k (parent_or r z e)) (λ g. grind (arith, d.2.apart (parent_or r z e) g, up.0)) in
    let u : has r (parent_or r z e) ≡ true = up.0 in
    let v : depth r z ≡ suc (depth r (parent_or r z e)) = up.1 in
    rw (q, p, s, no, no', u) (refl, v))

-- ---- a tree put in

pub count_planted : {X : Type 0} (i c : ℕ) (e : X) (k f : Trees X) → count (planted i (tree c e k bare) f) ≡ suc (count k) + count f
count_planted zero c e k f = omega arith
count_planted (suc i) c e k bare = omega arith
count_planted (suc i) c e k (tree j y a b) = omega (arith, count_planted i c e k b)

pub count_plant : {X : Type 0} (f : Trees X) (p i c : ℕ) (e : X) (k : Trees X) → has f p ≡ true → count (with_below (planted i (tree c e k bare)) f p) ≡ count f + suc (count k)
count_plant bare p i c e k h = absurd (false≢true h)
count_plant (tree j y a b) p i c e k h = grind (arith, count_planted i c e k a, count_plant a p i c e k, count_plant b p i c e k)

pub height_planted : {X : Type 0} (i c : ℕ) (e : X) (k f : Trees X) → height (planted i (tree c e k bare) f) ≡ max (suc (height k)) (height f)
height_planted zero c e k f = omega arith
height_planted (suc i) c e k bare = omega arith
height_planted (suc i) c e k (tree j y a b) = omega (arith, height_planted i c e k b)

pub height_plant : {X : Type 0} (f : Trees X) (p i c : ℕ) (e : X) (k : Trees X) → has f p ≡ true → height (with_below (planted i (tree c e k bare)) f p) ≡ max (height f) (depth f p + suc (height k))
height_plant bare p i c e k h = absurd (false≢true h)
height_plant (tree j y a b) p i c e k h = grind (arith, height_planted i c e k a, height_plant a p i c e k, height_plant b p i c e k)

-- ---- a tree taken out

pub count_pruned : {X : Type 0} (f : Trees X) (n : ℕ) → has f n ≡ true → count (pruned f n) + count (tree_at f n) ≡ count f
count_pruned bare n h = absurd (false≢true h)
count_pruned (tree i x k r) n h = grind (arith, count_pruned k n, count_pruned r n)

pub depth_pruned : {X : Type 0} (f : Trees X) (n z : ℕ) → IsDistinct f → has (pruned f n) z ≡ true → depth (pruned f n) z ≡ depth f z
depth_pruned bare n z d h = absurd (false≢true h)
depth_pruned (tree i x k r) n z d h =
    by_go (eqb i n)
    (λ q. let h' : has r z ≡ true = rw q at h in rw q (grind (arith, eqb_tells i z, d.1, d.2.apart z, h')))
    (λ q. by_go (has k n)
    (λ p. let h' : (eqb i z || (has (pruned k n) z || has r z)) ≡ true = rw (q, p) at h in
    rw (q, p) (grind (arith, h', depth_pruned k n z d.3, d.2.apart z, pruned_in k n z)))
    (λ p. let h' : (eqb i z || (has k z || has (pruned r n) z)) ≡ true = rw (q, p) at h in
    rw (q, p) (grind (arith, h', depth_pruned r n z d.4))))
