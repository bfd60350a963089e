-- A frame that was asked for nothing: its tree is empty.
use Rattle.std.proofs.Common.{◌≡◌, [], ◌∷◌, ◌++◌, refl, Some}
use Rattle.std.specs.Prelude.{codes}
use Rattle.ax_run_rules.specs.Scripts.{Script}
use Rattle.ax_run_rules.specs.ReplayText.{replay_text}
use Rattle.ax_run_rules.proofs.Computing.{computing}
use Rattle.ax_run_rules.proofs.ScriptWords.{frame, frames}

abbrev pub script : Script
script = frames (
    frame 1 (
    []) ∷
    [])

the_text : replay_text script script.order ≡ Some (
    codes "finale\n" ++
    codes "dump\n" ++
    codes "tree 1 empty\n")
unfolding computing
the_text = refl
