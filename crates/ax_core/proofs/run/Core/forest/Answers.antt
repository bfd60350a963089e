use Rattle.std.proofs.Common.{ap, ◌∙◌, ℕ, List}
use Rattle.ax_rules.specs.Mirrors.{built_forest_of}
use Rattle.ax_run_rules.specs.States.{forest_now}
use Rattle.ax_core.proofs.Forests.{built_is_now}
use Rattle.ax_core.proofs.run.Core.forest.Goals as goal

pub returns-clause-mirrors : goal.returns-clause-mirrors
returns-clause-mirrors c = ap (λ (ts : List ℕ). built_forest_of ts c.self.inside.forest.history) c.self.invariant.trees ∙ (built_is_now _ c.self.invariant.stands ∙ ap forest_now c.self.view_is)
