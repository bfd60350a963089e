-- The trees whose roots are listed, and the listed roots in their order.
use Rattle.std.proofs.Common.{List, None, [], arith, false, refl, true, ℕ, ◌||◌, ◌∷◌, ◌≡◌}
use Rattle.std.proofs.lemmas.Bool.Decides.{eqb_tells}
use Rattle.ax_tree.specs.UpdateRule.{arranged, first_repeated, only}
use Rattle.ax_trees.specs.Lists.{contains}
use Rattle.ax_trees.specs.Nodes.{root_below}
use Rattle.ax_trees.specs.Trees.{IsDistinct, Trees, bare, has, has_root, roots, tree}
use Rattle.ax_trees.proofs.Trees.{below_apart, contains_roots, distinct_root_below, root_below_in, root_in, root_not_below}

pub arranged_from : {X : Type 0} (f : X) (cs : List ℕ) (k : Trees X) (z : ℕ) → has (arranged f cs k) z ≡ true → (contains cs z || has k z) ≡ true
arranged_from f [] k z h = grind arith
arranged_from f (c ∷ cs) k z h = grind (arith, arranged_from f cs k z, root_below_in k c z)

pub only_in : {X : Type 0} (k : Trees X) (cs : List ℕ) (z : ℕ) → has (only k cs) z ≡ true → has k z ≡ true
only_in bare cs z h = h
only_in (tree i e k r) cs z h = grind (arith, only_in r cs z)

pub first_repeated_none : {X : Type 0} (w : Trees X) (seen : List ℕ) → IsDistinct w → ((z : ℕ) → has_root w z ≡ true → contains seen z ≡ false) → first_repeated seen (roots w) ≡ None
first_repeated_none bare seen d h = refl
first_repeated_none (tree i e k r) seen d h = grind (arith, eqb_tells i i, h i, first_repeated_none r (i ∷ seen) d.4 (λ z t. grind (arith, h z, eqb_tells i z, root_in r z)))

-- an old root stands in the picked trees only as one of the listed
pub arranged_root : {X : Type 0} (f : X) (cs : List ℕ) (k : Trees X) (z : ℕ) → IsDistinct k → has_root k z ≡ true → has (arranged f cs k) z ≡ true → contains cs z ≡ true
arranged_root f [] k z d t h = h
arranged_root f (c ∷ cs) k z d t h = grind (arith, arranged_root f cs k z d t, root_not_below k c z d t)

pub arranged_apart : {X : Type 0} (f : X) (cs : List ℕ) (k : Trees X) (c z : ℕ) → IsDistinct k → has (root_below k c) z ≡ true → contains cs c ≡ false → has (arranged f cs k) z ≡ true → contains cs z ≡ true
arranged_apart f [] k c z d t n h = h
arranged_apart f (b ∷ cs) k c z d t n h = grind (arith, arranged_apart f cs k c z d t, below_apart k c b z d, eqb_tells b c, eqb_tells c b)

pub distinct_arranged : {X : Type 0} (f : X) (w k : Trees X) → IsDistinct w → IsDistinct k → ((z : ℕ) → has_root w z ≡ true → has k z ≡ true → has_root k z ≡ true) → IsDistinct (arranged f (roots w) k)
distinct_arranged f bare k dw dk h = dw
distinct_arranged f (tree c e w r) k dw dk h = (
  grind (arith, eqb_tells c c, h c, root_not_below k c c dk, root_below_in k c c),
  grind (arith, eqb_tells c c, h c, arranged_root f (roots r) k c dk, contains_roots r c, arranged_from f (roots r) k c, root_in r c),
  record { apart = λ z t. grind (arith, h z, arranged_apart f (roots r) k c z dk, contains_roots r c, contains_roots r z, root_in r c, root_not_below k c z dk, root_below_in k c z) },
  distinct_root_below k c dk,
  distinct_arranged f r k dw.4 dk (λ z t g. grind (arith, h z)),
)
