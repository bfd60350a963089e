-- What one more item makes of a run: what bodies that keep a running state need.
use Rattle.std.proofs.Common.{◌≡◌, List, [], ◌∷◌, ◌++◌, refl, Option, Some, None, option_and_then}
use Rattle.ax_ask.specs.declared.op.Item.{Item}
use Rattle.ax_run_rules.specs.States.{Run}
use Rattle.ax_run_rules.specs.Steps.{step, run}

then_run : (front back : List Item) (r : Option Run) → ((q : Run) → run (front ++ back) q ≡ option_and_then (run back) (run front q))
    → option_and_then (run (front ++ back)) r ≡ option_and_then (run back) (option_and_then (run front) r)
then_run front back None h = refl
then_run front back (Some q) h = h q

-- the run of an order goes on from the run of its front
pub run-append : (front back : List Item) (r : Run) → run (front ++ back) r ≡ option_and_then (run back) (run front r)
run-append [] back r = refl
run-append (i ∷ front) back r = then_run front back (step r i) (run-append front back)
