-- The text of a run with its actions.
use Rattle.std.specs.Prelude.{ℕ, List, [], codes, Option, option_map, option_and_then}
use Rattle.ax_ask.specs.declared.action.Action.{Action}
use Rattle.ax_run_rules.specs.Scripts.{Script}
use Rattle.ax_run_rules.specs.States.{State, Run, trees_of}
use Rattle.ax_run_rules.specs.Finale.{catch_up, finished}
use Rattle.ax_run_rules.specs.Actions.{actions_lines, after_actions}
use Rattle.ax_run_rules.specs.Writing.{◌⌢◌}
use Rattle.ax_run_rules.specs.LineText.{lines_text}
use Rattle.ax_run_rules.specs.ReplayText.{ended_text, replay_text}

-- the actions' lines, and then each live tree catches up with its frame
unfoldable pub actions_text : List Action → State → Option (List ℕ)
actions_text az s =
    option_map (λ (r : Run). codes "actions\n" ⌢ lines_text (actions_lines az s) ⌢ ended_text r)
    (catch_up (trees_of s) (record { state = after_actions az s; lines = [] }))

unfoldable pub act_text : Script → Option (List ℕ)
act_text s =
    option_and_then (λ text. option_and_then (λ (r : Run). option_map (λ more. text ⌢ more) (actions_text s.actions r.state)) (finished s s.order))
    (replay_text s s.order)
