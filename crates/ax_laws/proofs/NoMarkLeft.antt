-- The updates of a bundle take all marks.
use Rattle.std.proofs.Common.{ℕ, zero, suc, ◌≡◌, ◌≤◌, List, [], ◌∷◌, length, refl, arith}
use Rattle.ax_node.specs.Look.{Look}
use Rattle.ax_trees.specs.Trees.{Trees}
use Rattle.ax_tree.specs.SerialRule.{trees_update}
use Rattle.ax_tree.specs.InStep.{marks_left}
use Rattle.ax_tree.specs.Bundles.{Client, client_after}
use Rattle.ax_laws.specs.MarkLaws.{marks_after_rounds}
use Rattle.ax_laws.proofs.BundlesReach.{marks_left_head}

pub no_mark_left : (n : ℕ) (c : Client) (s : Trees Look) (m : List ℕ) → length m ≤ n → marks_after_rounds n c s m ≡ []
no_mark_left zero c s [] l = refl
no_mark_left zero c s (d ∷ m) l = absurd (omega arith)
no_mark_left (suc n) c s [] l = refl
no_mark_left (suc n) c s (d ∷ m) l =
    no_mark_left n (client_after c (trees_update c s (d ∷ m) d)) s (marks_left (trees_update c s (d ∷ m) d) d (d ∷ m))
    (omega (arith, marks_left_head (trees_update c s (d ∷ m) d) d m))
