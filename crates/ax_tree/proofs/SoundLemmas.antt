-- What a sound forest says of each of its trees.
use Rattle.std.proofs.Common.{ℕ, ◌≡◌, ◌≤◌, refl, Option, None, Some}
use Rattle.std.specs.Prelude.{IfSome}
use Rattle.ax_trees.specs.Trees.{height}
use Rattle.ax_tree.specs.Tree.{Tree, IsWellFormed}
use Rattle.ax_tree.specs.Forest.{Forest, IsSound, IsSoundTree, live_tree}

pub sound_at : (f : Forest) (t : ℕ) → IsSound f → IfSome (live_tree f t) (IsSoundTree t)
sound_at f t s = go (live_tree f t) (λ m e. s.live t m e)
  where
    go : (o : Option Tree) → ((m : Tree) → o ≡ Some m → IsSoundTree t m) → IfSome o (IsSoundTree t)
    go None h = tt
    go (Some m) h = h m refl

pub formed_at : (f : Forest) (t : ℕ) → IsSound f → IfSome (live_tree f t) IsWellFormed
formed_at f t s = go (live_tree f t) (sound_at f t s)
  where
    go : (o : Option Tree) → IfSome o (IsSoundTree t) → IfSome o IsWellFormed
    go None h = tt
    go (Some m) h = h.well_formed

pub low_at : (f : Forest) (t : ℕ) → IsSound f → IfSome (live_tree f t) (λ (m : Tree). height m.trees ≤ 256)
low_at f t s = go (live_tree f t) (sound_at f t s)
  where
    go : (o : Option Tree) → IfSome o (IsSoundTree t) → IfSome o (λ (m : Tree). height m.trees ≤ 256)
    go None h = tt
    go (Some m) h = h.low
