use Rattle.ax_forest.proofs.Pasts.{past_first, past_again, past_shown}
use Rattle.ax_forest.proofs.forest.Forest.new.Goals as goal

pub invariant_of-result : goal.invariant_of-result
invariant_of-result c =
    let f = c.in_ok-trees.trees in
    let ys = c.in_ok-tallies.tallies in
    let ts = c.args.trees.now in
    past_again f ys ts _ c.new-2.result (past_first f ys ts c.in_ok-trees.ensures c.in_ok-tallies.ensures) c.new-2.ensures

pub returns : goal.returns
returns c =
    let f = c.in_ok-trees.trees in
    let ys = c.in_ok-tallies.tallies in
    let ts = c.args.trees.now in
    past_shown f ys ts _ c.new-2.result (past_first f ys ts c.in_ok-trees.ensures c.in_ok-tallies.ensures) c.new-2.ensures
