use Rattle.std.proofs.Common.{Bool, if◌then◌else◌, None, Some, refl, sym, ap, ◌∙◌, arith}
use Rattle.ax_trees.specs.Trees.{ids}
use Rattle.ax_trees.specs.Spots.{or_else}
use Rattle.ax_views.proofs.Climbing.{is_above}
use Rattle.ax_rules.specs.Stitched.{place_at}
use Rattle.ax_stitch.specs.Orders.{ahead}
use Rattle.ax_stitch.proofs.Views.{node_told, children_told, or_else_some, or_else_none}
use Rattle.ax_unignored.specs.Shows.{shows}
use Rattle.ax_unignored.specs.Runs.{find_last, run}
use Rattle.ax_unignored.proofs.Lit.{shows_told}
use Rattle.ax_unignored.proofs.Runs.{ahead_there}
use Rattle.ax_unignored.proofs.Lasts.{ahead_step, ahead_none}
use Rattle.ax_unignored.proofs.backward.last_ahead_in_tree.Goals as goal

pub loop-above-init : goal.loop-above-init
loop-above-init g c =
    record { there = c.requires.there; rest = refl }

pub unwrap-node-requires : goal.unwrap-node-requires
unwrap-node-requires g c =
    let f = g.G.Grove.forest c.args.g.now in
    let m = g.G.Tree.TreeView.tree c.args.view.now in
    let up = is_above m.trees c.loop-above.at c.in-Some.above c.root.ensures.well_formed.distinct (sym c.in-Some.ensures) in
    node_told m c.in-Some.above c.node.result up.up c.node.ensures

pub last_among-found-requires : goal.last_among-found-requires
last_among-found-requires g c =
    let f = g.G.Grove.forest c.args.g.now in
    let m = g.G.Tree.TreeView.tree c.args.view.now in
    let up = is_above m.trees c.loop-above.at c.in-Some.above c.root.ensures.well_formed.distinct (sym c.in-Some.ensures) in
    record { live = c.requires.live; there = ahead_there m c.in-Some.above c.loop-above.at c.node.result c.unwrap-node.result c.as_slice.result.now c.ahead-earlier.result.now c.node.ensures c.unwrap-node.ensures c.as_slice.ensures c.ahead-earlier.ensures }

pub returns-then-is_some : goal.returns-then-is_some
returns-then-is_some g c =
    let f = g.G.Grove.forest c.args.g.now in
    let m = g.G.Tree.TreeView.tree c.args.view.now in
    let up = is_above m.trees c.loop-above.at c.in-Some.above c.root.ensures.well_formed.distinct (sym c.in-Some.ensures) in
    let kids = children_told m c.in-Some.above c.node.result c.unwrap-node.result c.as_slice.result.now c.node.ensures c.unwrap-node.ensures c.as_slice.ensures in
    let step =
    ahead_step c.args.levels f c.args.p.now.tree m c.loop-above.at c.in-Some.above c.ahead-earlier.result.now c.last_among-found.result c.requires.live c.root.ensures.well_formed (sym c.in-Some.ensures)
    (c.ahead-earlier.ensures ∙ ap (λ xs. ahead xs c.loop-above.at) kids) c.last_among-found.ensures in
    sym (c.loop-above.invariant.rest ∙ (step ∙ or_else_some c.last_among-found.result _ (sym c.is_some.ensures ∙ c.if-is_some.true)))

pub returns-then-is_lit : goal.returns-then-is_lit
returns-then-is_lit g c =
    let f = g.G.Grove.forest c.args.g.now in
    let m = g.G.Tree.TreeView.tree c.args.view.now in
    let up = is_above m.trees c.loop-above.at c.in-Some.above c.root.ensures.well_formed.distinct (sym c.in-Some.ensures) in
    let kids = children_told m c.in-Some.above c.node.result c.unwrap-node.result c.as_slice.result.now c.node.ensures c.unwrap-node.ensures c.as_slice.ensures in
    let step =
    ahead_step c.args.levels f c.args.p.now.tree m c.loop-above.at c.in-Some.above c.ahead-earlier.result.now c.last_among-found.result c.requires.live c.root.ensures.well_formed (sym c.in-Some.ensures)
    (c.ahead-earlier.ensures ∙ ap (λ xs. ahead xs c.loop-above.at) kids) c.last_among-found.ensures in
    let told = shows_told f (place_at c.args.p.now.tree c.in-Some.above) m c.node.result c.unwrap-node.result c.requires.live c.node.ensures c.unwrap-node.ensures ∙ sym c.is_lit.ensures in
    let none = or_else_none c.last_among-found.result _ (sym c.is_some.ensures ∙ c.if-is_some.false) in
    let own = λ (o : Bool). or_else (if o then Some (place_at c.args.p.now.tree c.in-Some.above) else None) (find_last (shows f) (run c.args.levels f c.args.p.now.tree (ahead (ids m.trees) c.in-Some.above))) in
    sym (c.loop-above.invariant.rest ∙ (step ∙ (none ∙ ap own (told ∙ c.if-is_lit.true))))

pub loop-above-smaller : goal.loop-above-smaller
loop-above-smaller g c =
    let f = g.G.Grove.forest c.args.g.now in
    let m = g.G.Tree.TreeView.tree c.args.view.now in
    let up = is_above m.trees c.loop-above.at c.in-Some.above c.root.ensures.well_formed.distinct (sym c.in-Some.ensures) in
    let deep = up.deep in
    omega (arith, deep)

pub loop-above-preserved : goal.loop-above-preserved
loop-above-preserved g c =
    let f = g.G.Grove.forest c.args.g.now in
    let m = g.G.Tree.TreeView.tree c.args.view.now in
    let up = is_above m.trees c.loop-above.at c.in-Some.above c.root.ensures.well_formed.distinct (sym c.in-Some.ensures) in
    let kids = children_told m c.in-Some.above c.node.result c.unwrap-node.result c.as_slice.result.now c.node.ensures c.unwrap-node.ensures c.as_slice.ensures in
    let step =
    ahead_step c.args.levels f c.args.p.now.tree m c.loop-above.at c.in-Some.above c.ahead-earlier.result.now c.last_among-found.result c.requires.live c.root.ensures.well_formed (sym c.in-Some.ensures)
    (c.ahead-earlier.ensures ∙ ap (λ xs. ahead xs c.loop-above.at) kids) c.last_among-found.ensures in
    let told = shows_told f (place_at c.args.p.now.tree c.in-Some.above) m c.node.result c.unwrap-node.result c.requires.live c.node.ensures c.unwrap-node.ensures ∙ sym c.is_lit.ensures in
    let none = or_else_none c.last_among-found.result _ (sym c.is_some.ensures ∙ c.if-is_some.false) in
    let own = λ (o : Bool). or_else (if o then Some (place_at c.args.p.now.tree c.in-Some.above) else None) (find_last (shows f) (run c.args.levels f c.args.p.now.tree (ahead (ids m.trees) c.in-Some.above))) in
    record { there = up.up; rest = c.loop-above.invariant.rest ∙ (step ∙ (none ∙ ap own (told ∙ c.if-is_lit.false))) }

pub returns : goal.returns
returns g c =
    let f = g.G.Grove.forest c.args.g.now in
    let m = g.G.Tree.TreeView.tree c.args.view.now in
    ahead_none c.args.levels f c.args.p.now.tree m c.loop-above.at c.root.ensures.well_formed c.loop-above.invariant.there (sym c.in_default.ensures) ∙ sym c.loop-above.invariant.rest
