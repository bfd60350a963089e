use Rattle.std.proofs.Common.{◌+◌, take}
use Rattle.ax_forest.specs.Tallied.{first_tally}
use Rattle.ax_forest.proofs.ByIds.{filled_next}
use Rattle.ax_forest.proofs.tally.first_tallies.Goals as goal
use Rattle.ax_trees.proofs.Lists.{contains_next}

pub loop-tree-preserved : goal.loop-tree-preserved
loop-tree-preserved c =
    let ts = c.args.trees.now in
    let i = c.loop-tree.tree-index in
    let t = c.tree-item.result in
    filled_next first_tally (take i ts) (take (i + 1) ts) t c.loop-tree.tallies c.fill.new.values (λ z. contains_next ts i t z (record { low = c.loop-tree-test.true; item = c.tree-item.is }))
    c.in_ok-fill.ensures.puts c.in_ok-fill.ensures.place c.in_ok-fill.ensures.places c.loop-tree.invariant
