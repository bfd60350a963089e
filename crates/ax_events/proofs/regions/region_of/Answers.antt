use Rattle.std.proofs.Common.{◌∙◌, sym, arith}
use Rattle.ax_views.proofs.Climbing.{is_above}
use Rattle.ax_events.proofs.Climbs.{region_here, region_above, region_none}
use Rattle.ax_events.proofs.regions.region_of.Goals as goal

pub loop-at-smaller : goal.loop-at-smaller
loop-at-smaller g c =
    let a = is_above (g.T.TreeView.tree c.args.t.now).trees c.loop-at.at c.in-Some.above c.root.ensures.well_formed.distinct (sym c.in-Some.ensures) in
    omega (arith, a.deep)

pub loop-at-preserved : goal.loop-at-preserved
loop-at-preserved g c =
    sym (region_above (g.T.TreeView.tree c.args.t.now) c.loop-at.at c.root.ensures.well_formed.distinct c.in-Some.above (sym c.is_live.ensures ∙ c.loop-at-test.true) (sym c.in-Some.ensures)) ∙ c.loop-at.invariant

pub returns-in-None : goal.returns-in-None
returns-in-None g c =
    sym (region_none (g.T.TreeView.tree c.args.t.now) c.loop-at.at c.root.ensures.well_formed.distinct (sym c.is_live.ensures ∙ c.loop-at-test.true) (sym c.in-None.ensures)) ∙ c.loop-at.invariant

pub returns : goal.returns
returns g c =
    sym (region_here (g.T.TreeView.tree c.args.t.now) c.loop-at.at c.root.ensures.well_formed.distinct (sym c.is_live.ensures ∙ c.loop-at-test.false)) ∙ c.loop-at.invariant
