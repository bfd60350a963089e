use Rattle.std.proofs.Common.{sym, ◌∙◌}
use Rattle.ax_unignored.specs.Shows.{shows}
use Rattle.ax_unignored.specs.Runs.{run_at}
use Rattle.ax_unignored.proofs.Found.{find_on, find_early, find_all}
use Rattle.ax_unignored.proofs.Runs.{there_at}
use Rattle.ax_unignored.proofs.forward.first_among.Goals as goal

pub first_in-found-requires-clause-there : goal.first_in-found-requires-clause-there
first_in-found-requires-clause-there g c =
    let f = g.G.Grove.forest c.args.g.now in
    let m = g.G.Tree.TreeView.tree c.args.view.now in
    there_at m.trees c.args.ids.now c.loop-id.id-index c.id-item.result c.requires.there c.loop-id-test.true c.id-item.is

pub returns-then-is_some : goal.returns-then-is_some
returns-then-is_some g c =
    let f = g.G.Grove.forest c.args.g.now in
    let m = g.G.Tree.TreeView.tree c.args.view.now in
    find_early (shows f) (run_at c.args.levels f c.args.tree m.trees) c.args.ids.now c.loop-id.id-index c.id-item.result c.first_in-found.result c.loop-id-test.true c.id-item.is c.loop-id.invariant c.first_in-found.ensures (sym c.is_some.ensures ∙ c.if-is_some.true)

pub loop-id-preserved : goal.loop-id-preserved
loop-id-preserved g c =
    let f = g.G.Grove.forest c.args.g.now in
    let m = g.G.Tree.TreeView.tree c.args.view.now in
    find_on (shows f) (run_at c.args.levels f c.args.tree m.trees) c.args.ids.now c.loop-id.id-index c.id-item.result c.first_in-found.result c.loop-id-test.true c.id-item.is c.loop-id.invariant c.first_in-found.ensures (sym c.is_some.ensures ∙ c.if-is_some.false)

pub returns : goal.returns
returns g c =
    let f = g.G.Grove.forest c.args.g.now in
    let m = g.G.Tree.TreeView.tree c.args.view.now in
    find_all (shows f) (run_at c.args.levels f c.args.tree m.trees) c.args.ids.now c.loop-id.id-index c.loop-id-test.false c.loop-id.invariant
