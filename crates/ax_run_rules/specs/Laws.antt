-- The law of runs, over all scripts and orders.
use Rattle.std.specs.Prelude.{◌≡◌, List, ◌++◌, Some}
use Rattle.ax_ask.specs.declared.op.Item.{Item}
use Rattle.ax_rules.specs.Laws.{Begins}
use Rattle.ax_run_rules.specs.States.{Run}
use Rattle.ax_run_rules.specs.Steps.{run}

-- Each run of an order goes on from the run of each front of it: so the history at a reader's query begins with that at the one before.
abbrev pub EachRunGoesOn : Type 0
EachRunGoesOn =
    (front back : List Item) (from at to : Run) → run front from ≡ Some at → run (front ++ back) from ≡ Some to
    → Begins to.state.history at.state.history × Begins to.lines at.lines
