-- Shapes see no data.
use Rattle.std.proofs.Common.{ap, arith, eqb, refl, ℕ, ◌∷◌, ◌≡◌}
use Rattle.std.proofs.Math.Path.{fun_ext}
use Rattle.ax_trees.specs.Changes.{with_node}
use Rattle.ax_trees.specs.Nodes.{below, chain, root_below, root_known}
use Rattle.ax_trees.specs.Shape.{mapped}
use Rattle.ax_trees.specs.Trees.{Trees, bare, has, has_root, height, is_root, roots, tree}
use Rattle.ax_trees.proofs.Trees.{by_go}

pub has-mapped : {X E : Type 0} (f : X → E) (w : Trees X) (z : ℕ) → has (mapped f w) z ≡ has w z
has-mapped f bare z = refl
has-mapped f (tree i e k r) z = grind (arith, has-mapped f k z, has-mapped f r z)

pub has_root-mapped : {X E : Type 0} (f : X → E) (w : Trees X) (z : ℕ) → has_root (mapped f w) z ≡ has_root w z
has_root-mapped f bare z = refl
has_root-mapped f (tree i e k r) z = grind (arith, has_root-mapped f r z)

pub below-mapped : {X E : Type 0} (f : X → E) (w : Trees X) (z : ℕ) → below (mapped f w) z ≡ mapped f (below w z)
below-mapped f bare z = refl
below-mapped f (tree i e k r) z = grind (arith, below-mapped f k z, below-mapped f r z, has-mapped f k z)

pub chain-mapped : {X E : Type 0} (f : X → E) (w : Trees X) (z : ℕ) → chain (mapped f w) z ≡ chain w z
chain-mapped f bare z = refl
chain-mapped f (tree i e k r) z = grind (arith, chain-mapped f k z, chain-mapped f r z, has-mapped f k z)

pub has_fun : {X E : Type 0} (f : X → E) (w : Trees X) → has (mapped f w) ≡ has w
has_fun f w = fun_ext (has-mapped f w)

pub root_under : {X E : Type 0} (f : X → E) (c : Trees X) (y z : ℕ) → has_root (below (mapped f c) y) z ≡ has_root (below c y) z
root_under f c y z = rw (below-mapped f c y) (has_root-mapped f (below c y) z)

pub has_under : {X E : Type 0} (f : X → E) (c : Trees X) (y z : ℕ) → has (below (mapped f c) y) z ≡ has (below c y) z
has_under f c y z = rw (below-mapped f c y) (has-mapped f (below c y) z)

pub roots-mapped : {X E : Type 0} (f : X → E) (w : Trees X) → roots (mapped f w) ≡ roots w
roots-mapped f bare = refl
roots-mapped f (tree i e k r) = ap (λ xs. i ∷ xs) (roots-mapped f r)

pub root_known-mapped : {X E : Type 0} (g : X → E) (f : X) (w : Trees X) (z : ℕ) → root_known (g f) (mapped g w) z ≡ g (root_known f w z)
root_known-mapped g f bare z = refl
root_known-mapped g f (tree i e k r) z = by_go (eqb i z) (λ q. rw q refl) (λ q. rw q (root_known-mapped g f r z))

pub root_below-mapped : {X E : Type 0} (g : X → E) (w : Trees X) (z : ℕ) → root_below (mapped g w) z ≡ mapped g (root_below w z)
root_below-mapped g bare z = refl
root_below-mapped g (tree i e k r) z = by_go (eqb i z) (λ q. rw q refl) (λ q. rw q (root_below-mapped g r z))

pub with_node-mapped : {X E : Type 0} (g : X → E) (w : Trees X) (x : ℕ) (e : X) (c : Trees X) → with_node (mapped g w) x (g e) (mapped g c) ≡ mapped g (with_node w x e c)
with_node-mapped g bare x e c = refl
with_node-mapped g (tree i a k r) x e c =
    by_go (eqb i x)
    (λ q. rw q refl)
    (λ q. by_go (has k x)
    (λ q'. rw (q, has-mapped g k x, q', with_node-mapped g k x e c) refl)
    (λ q'. rw (q, has-mapped g k x, q', with_node-mapped g r x e c) refl))

pub is_root-mapped : {X E : Type 0} (f : X → E) (w : Trees X) (z : ℕ) → is_root (mapped f w) z ≡ is_root w z
is_root-mapped f bare z = refl
is_root-mapped f (tree i e k r) z = refl

pub height-mapped : {X E : Type 0} (f : X → E) (w : Trees X) → height (mapped f w) ≡ height w
height-mapped f bare = refl
height-mapped f (tree i e k r) = rw (height-mapped f k, height-mapped f r) refl
