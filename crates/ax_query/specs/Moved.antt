-- Where a move from a global offset goes.
use Rattle.std.specs.Prelude.{ℕ, List, Option, option_and_then}
use Rattle.ax_base.specs.declared.position.Affinity.TheVariants.{Down}
use Rattle.ax_base.specs.declared.position.Pos.{Pos}
use Rattle.ax_base.specs.declared.position.Unit.{Unit as Step}
use Rattle.ax_base.specs.declared.position.Way.{Way}
use Rattle.ax_rules.specs.Stitched.{Placed}
use Rattle.ax_rules.specs.Positions.{leaf_form}
use Rattle.ax_rules.specs.Moves.{bound_of, first_place}

unfoldable pub moved_to : List Placed → Step → Way → ℕ → Option Pos
moved_to l u w o = option_and_then (λ g. option_and_then (λ p. leaf_form l p g Down) (first_place l)) (bound_of l u w o)
