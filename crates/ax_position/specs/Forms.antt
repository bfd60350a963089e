-- The form of a mark on a leaf.
use Rattle.std.specs.Prelude.{ℕ, nat_lt, if◌then◌else◌, List, Option, Some, None, option_and_then, Result, Ok, Err}
use Rattle.ax_base.specs.declared.position.Affinity.TheVariants.{Down}
use Rattle.ax_base.specs.declared.position.Pos.{Pos}
use Rattle.ax_base.specs.declared.position.PosErr.{PosErr}
use Rattle.ax_base.specs.declared.position.PosErr.TheVariants.{NoNode}
use Rattle.ax_rules.specs.Stitched.{Placed}
use Rattle.ax_rules.specs.Texts.{text_len}
use Rattle.ax_rules.specs.Positions.{Mark, global_offset, leaf_form}
use Rattle.ax_rules.specs.Moves.{first_place}

unfoldable pub leaf_of_mark : List Placed → Mark → Option Pos
leaf_of_mark l m = leaf_form l m.place (global_offset l m) m.affinity

-- what is there, or the refusal of a place that has none
abbrev pub if_some : {A : Type 0} → Result (Option A) PosErr → Result A PosErr
if_some (Ok (Some a)) = Ok a
if_some (Ok None) = Err NoNode
if_some (Err e) = Err e

-- the form of a global offset on the first place, downstream, where the text is as long
unfoldable pub at_offset : List Placed → ℕ → Option Pos
at_offset l o = option_and_then (λ p. if nat_lt (text_len l p) o then None else leaf_form l p o Down) (first_place l)

-- the same, whatever the text's length
unfoldable pub leaf_at_offset : List Placed → ℕ → Option Pos
leaf_at_offset l o = option_and_then (λ p. leaf_form l p o Down) (first_place l)
