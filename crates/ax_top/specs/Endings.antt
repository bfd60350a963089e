-- What the text of a run ends with, and the text of a script's run with it.
use Rattle.std.specs.Prelude.{ℕ, List, [], Option}
use Rattle.ax_run_rules.specs.States.{State}
use Rattle.ax_run_rules.specs.CombineText.{combine_text, combined_after}
use Rattle.ax_script.specs.declared.script.Script.{Script}
use Rattle.ax_core.specs.Standing.{at}
use Rattle.ax_core.specs.Starting.{script_in}
use Rattle.ax_top.specs.declared.ending.Ending.{Ending}
use Rattle.ax_top.specs.declared.ending.Ending.TheVariants.{Dump, Combined}
use Rattle.ax_top.specs.Runs.{replay_of}

-- what stands behind the dump, of the state after the finale
abbrev pub ending_text : Ending → State → List ℕ
ending_text Dump s = []
ending_text Combined s = combined_after (at s)

-- the text of the run of the script's own order, and of the combined tree
unfoldable pub combine_of : Script → Option (List ℕ)
combine_of s = combine_text (script_in s)

-- the text of a script's run, by its ending
abbrev pub run_text : Ending → Script → Option (List ℕ)
run_text Dump = replay_of
run_text Combined = combine_of
