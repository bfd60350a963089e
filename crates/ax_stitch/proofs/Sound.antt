-- What a sound forest says of the trees that hang in it: all of them are well formed.
use Rattle.std.proofs.Common.{ℕ, zero, suc, ◌≡◌, Option, None, Some}
use Rattle.std.specs.Prelude.{IfSome}
use Rattle.ax_base.specs.declared.position.Place.{Place}
use Rattle.ax_trees.specs.Trees.{IsTree}
use Rattle.ax_tree.specs.Tree.{Tree, IsWellFormed}
use Rattle.ax_tree.specs.Forest.{Forest, IsSound, live_tree, host_of, hosted_by}
use Rattle.ax_tree.proofs.SoundLemmas.{formed_at}
use Rattle.ax_stitch.specs.Levels.{AreFormed, HungFormed}

pub sound_formed : (n : ℕ) (f : Forest) (t : ℕ) → IsSound f → AreFormed n f t
sound_formed zero f t s = tt
sound_formed (suc n) f t s = (formed_at f t s, go (λ u. sound_formed n f u s) (host_of f t))
  where
    go : ((u : ℕ) → AreFormed n f u) → (o : Option Place) → IfSome o (λ (host : Place). AreFormed n f host.tree)
    go ih None = tt
    go ih (Some q) = ih q.tree

pub sound_hung : (f : Forest) (p : Place) → IsSound f → HungFormed f p
sound_hung f p s = go (hosted_by f p)
  where
    go : (o : Option ℕ) → IfSome o (λ c. IfSome (live_tree f c) IsWellFormed)
    go None = tt
    go (Some c) = formed_at f c s

pub sound_tree : (f : Forest) (t : ℕ) (m : Tree) → IsSound f → live_tree f t ≡ Some m → IsTree m.trees
sound_tree f t m s l = (s.live t m l).well_formed
