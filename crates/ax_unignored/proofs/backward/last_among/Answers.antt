use Rattle.std.proofs.Common.{◌-◌, sym, ◌∙◌, arith}
use Rattle.ax_unignored.specs.Shows.{shows}
use Rattle.ax_unignored.specs.Runs.{run_at}
use Rattle.ax_unignored.proofs.Found.{last_on, last_late, last_all}
use Rattle.ax_unignored.proofs.Runs.{there_at}
use Rattle.ax_unignored.proofs.backward.last_among.Goals as goal

pub last_in-found-requires-clause-there : goal.last_in-found-requires-clause-there
last_in-found-requires-clause-there g c =
    let f = g.G.Grove.forest c.args.g.now in
    let m = g.G.Tree.TreeView.tree c.args.view.now in
    let i = c.loop-left.invariant.within in
    let b = c.loop-left-test.true in
    there_at m.trees c.args.ids.now (c.loop-left.left - 1) c.index-ids-left.result c.requires.there (omega (arith, i, b)) c.index-ids-left.is

pub returns-then-is_some : goal.returns-then-is_some
returns-then-is_some g c =
    let f = g.G.Grove.forest c.args.g.now in
    let m = g.G.Tree.TreeView.tree c.args.view.now in
    let i = c.loop-left.invariant.within in
    let b = c.loop-left-test.true in
    last_late (shows f) (run_at c.args.levels f c.args.tree m.trees) c.args.ids.now c.loop-left.left (c.loop-left.left - 1) c.index-ids-left.result c.last_in-found.result (omega (arith, b)) i c.index-ids-left.is c.loop-left.invariant.none c.last_in-found.ensures (sym c.is_some.ensures ∙ c.if-is_some.true)

pub loop-left-preserved : goal.loop-left-preserved
loop-left-preserved g c =
    let f = g.G.Grove.forest c.args.g.now in
    let m = g.G.Tree.TreeView.tree c.args.view.now in
    let i = c.loop-left.invariant.within in
    let b = c.loop-left-test.true in
    record { within = omega (arith, i, b); none = last_on (shows f) (run_at c.args.levels f c.args.tree m.trees) c.args.ids.now c.loop-left.left (c.loop-left.left - 1) c.index-ids-left.result c.last_in-found.result (omega (arith, b)) i c.index-ids-left.is c.loop-left.invariant.none c.last_in-found.ensures (sym c.is_some.ensures ∙ c.if-is_some.false) }

pub returns : goal.returns
returns g c =
    let f = g.G.Grove.forest c.args.g.now in
    let m = g.G.Tree.TreeView.tree c.args.view.now in
    let b = c.loop-left-test.false in
    last_all (shows f) (run_at c.args.levels f c.args.tree m.trees) c.args.ids.now c.loop-left.left (omega (arith, b)) c.loop-left.invariant.none
