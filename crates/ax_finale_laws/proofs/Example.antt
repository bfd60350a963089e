-- A script in which all premises of these laws hold: the news page is sound, its start is in order, the state after its order fits, and its finale is there; and so of a script with actions.
use Rattle.std.proofs.Common.{ℕ, ◌≡◌, true, false, List, [], ◌∷◌, refl, Option, Some, None, option_and_then, is_some}
use Rattle.ax_tree.specs.Forest.{Forest}
use Rattle.ax_run_rules.specs.States.{State, Run, begin, start, trees_of, forest_now, without_lines}
use Rattle.ax_run_rules.specs.Steps.{run}
use Rattle.ax_run_rules.specs.Finale.{catch_up, finale_of, finished}
use Rattle.ax_run_rules.proofs.Computing.{computing}
use Rattle.ax_run_rules.proofs.examples.NewsPage as news
use Rattle.ax_run_rules.proofs.examples.ActionsOfAReader as reader
use Rattle.ax_finale_laws.specs.Laws.{HasItsTrees}
use Rattle.ax_finale_laws.specs.Gaps.{IsInOrder}
use Rattle.ax_finale_laws.specs.CatchingUp.{acted_on, forest_to_come}
use Rattle.ax_finale_laws.proofs.Gapless.{starts_in_order}

sound : HasItsTrees news.script
sound = record { apart = (refl, (refl, (refl, tt))); named = (refl, tt) }

in_order : IsInOrder (start news.script)
in_order = starts_in_order news.script

-- the run of its order, with the tokens that it delivers, is there, and so is the finale
its_order : is_some (run news.script.order (begin news.script)) ≡ true
unfolding computing
its_order = refl

its_finale : is_some (finished news.script news.script.order) ≡ true
unfolding computing
its_finale = refl

-- what stands then is of the lists alone
abbrev forest_of_run : Option Run → Option Forest
forest_of_run None = None
forest_of_run (Some r) = Some (forest_now r.state)

its_forest : forest_of_run (finished news.script news.script.order) ≡ Some (forest_to_come (start news.script))
unfolding computing
its_forest = refl

-- a run with actions catches up once more
abbrev after_actions_of : Option Run → Option Run
after_actions_of None = None
after_actions_of (Some e) = catch_up (trees_of e.state) (acted_on reader.script.actions e)

caught_up : is_some (after_actions_of (finished reader.script reader.script.order)) ≡ true
unfolding computing
caught_up = refl
