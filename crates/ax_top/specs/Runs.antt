-- Which script the bytes are, where each item of its order is there in its turn, and the text of its run.
use Rattle.std.specs.Prelude.{ℕ, Bool, List, length, take, find, Option, Some, None, is_none, Result, Ok, Err}
use Rattle.std.specs.List.{range_with_len}
use Rattle.ax_run_rules.specs.ReplayText.{replay_text}
use Rattle.ax_run_rules.specs.States.{begin}
use Rattle.ax_run_rules.specs.Steps.{run}
use Rattle.ax_script.specs.declared.error.ScriptErr.{ScriptErr}
use Rattle.ax_script.specs.declared.error.ScriptErr.TheVariants.{BadOrder}
use Rattle.ax_script.specs.declared.script.Script.{Script}
use Rattle.ax_script.specs.Script.{script}
use Rattle.ax_core.specs.Starting.{script_in}

-- the text of the run of the script's own order
unfoldable pub replay_of : Script → Option (List ℕ)
replay_of s = replay_text (script_in s) s.order

-- the first n items of the order aren't all there in their turn
abbrev pub breaks_by : Script → ℕ → Bool
breaks_by s n = is_none (run (take n s.order) (begin (script_in s)))

-- the number, from 1, of the first item that isn't there in its turn
unfoldable pub missing_item : Script → Option ℕ
missing_item s = find (breaks_by s) (range_with_len 1 (length s.order))

abbrev pub in_turn : Script → Option ℕ → Result Script ScriptErr
in_turn s None = Ok s
in_turn s (Some i) = Err (BadOrder i)

abbrev pub if_in_turn : Result Script ScriptErr → Result Script ScriptErr
if_in_turn (Err e) = Err e
if_in_turn (Ok s) = in_turn s (missing_item s)

-- the script that the bytes are, or the first refusal: those of the grammar, and then that of an item that isn't there in its turn
unfoldable pub script_of : List ℕ → Result Script ScriptErr
script_of bytes = if_in_turn (script bytes)
