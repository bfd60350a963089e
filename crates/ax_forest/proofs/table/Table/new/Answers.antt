use Rattle.std.proofs.Common.{ℕ, ◌∙◌, List, ap}
use Rattle.ax_forest.specs.Shown.{shown}
use Rattle.ax_forest.proofs.Showing.{shown_empty}
use Rattle.ax_forest.proofs.table.Table.new.Goals as goal

pub returns : goal.returns
returns c = ap (λ (l : List ℕ). shown l c.in_ok-mirrors.mirrors) c.in_ok-ids.ensures ∙ shown_empty c.args.trees.now c.in_ok-mirrors.mirrors c.in_ok-mirrors.ensures
