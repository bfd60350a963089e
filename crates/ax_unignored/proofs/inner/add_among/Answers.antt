use Rattle.ax_unignored.specs.Tops.{tops_at}
use Rattle.ax_unignored.proofs.Runs.{there_at}
use Rattle.ax_unignored.proofs.Joint.{added_more, added_all}
use Rattle.ax_unignored.proofs.inner.add_among.Goals as goal

pub add_tops-requires-clause-there : goal.add_tops-requires-clause-there
add_tops-requires-clause-there g c =
    let f = g.G.Grove.forest c.args.g.now in
    let m = g.G.Tree.TreeView.tree c.args.view.now in
    there_at m.trees c.args.ids.now c.loop-id.id-index c.id-item.result c.requires.there c.loop-id-test.true c.id-item.is

pub loop-id-preserved : goal.loop-id-preserved
loop-id-preserved g c =
    let f = g.G.Grove.forest c.args.g.now in
    let m = g.G.Tree.TreeView.tree c.args.view.now in
    added_more (tops_at c.args.levels f c.args.tree m.trees) _ c.loop-id.found _ c.args.ids.now c.loop-id.id-index c.id-item.result c.loop-id-test.true c.id-item.is c.loop-id.invariant c.in_ok-add_tops.ensures

pub returns : goal.returns
returns g c =
    let f = g.G.Grove.forest c.args.g.now in
    let m = g.G.Tree.TreeView.tree c.args.view.now in
    added_all (tops_at c.args.levels f c.args.tree m.trees) c.args.found.now c.loop-id.found c.args.ids.now c.loop-id.id-index c.loop-id-test.false c.loop-id.invariant
