use Rattle.std.proofs.Common.{◌-◌, ◌+◌, sym, ap, ◌∙◌, arith, option_and_then}
use Rattle.ax_stitch.proofs.Views.{view_told, view_some, or_else_some, or_else_none}
use Rattle.ax_stitch.proofs.Places.{listed_node, listed_live, host_listed}
use Rattle.ax_unignored.specs.Runs.{first_behind}
use Rattle.ax_unignored.proofs.Firsts.{climb_step, climb_end}
use Rattle.ax_unignored.proofs.forward.+first_behind.Goals as goal

pub returns-then-levels-ge-LEVELS : goal.returns-then-levels-ge-LEVELS
returns-then-levels-ge-LEVELS g t c =
    let f = g.G.Grove.forest c.args.g.now in
    let p = c.args.p.now in
    climb_end c.args.levels f p c.if-levels-ge-LEVELS.true

pub unwrap-view-requires : goal.unwrap-view-requires
unwrap-view-requires g t c =
    let f = g.G.Grove.forest c.args.g.now in
    let p = c.args.p.now in
    view_some g.G.Tree.TreeView.tree c.tree.result _ c.tree.ensures.tree (listed_live f p c.requires)

pub first_behind_in_tree-found-requires : goal.first_behind_in_tree-found-requires
first_behind_in_tree-found-requires g t c =
    let f = g.G.Grove.forest c.args.g.now in
    let p = c.args.p.now in
    let m = g.G.Tree.TreeView.tree c.unwrap-view.result.now in
    let k = view_told g.G.Tree.TreeView.tree c.tree.result c.unwrap-view.result _ c.tree.ensures.tree c.unwrap-view.ensures in
    record { live = k; there = sym (listed_node f p m k) ∙ c.requires }

pub returns-then-is_some : goal.returns-then-is_some
returns-then-is_some g t c =
    let f = g.G.Grove.forest c.args.g.now in
    let p = c.args.p.now in
    let m = g.G.Tree.TreeView.tree c.unwrap-view.result.now in
    let k = view_told g.G.Tree.TreeView.tree c.tree.result c.unwrap-view.result _ c.tree.ensures.tree c.unwrap-view.ensures in
    let step = climb_step c.args.levels f p m c.first_behind_in_tree-found.result c.if-levels-ge-LEVELS.false k c.first_behind_in_tree-found.ensures in
    sym (or_else_some c.first_behind_in_tree-found.result _ (sym c.is_some.ensures ∙ c.if-is_some.true)) ∙ step

pub first_behind-requires : goal.first_behind-requires
first_behind-requires g t c κs within =
    let f = g.G.Grove.forest c.args.g.now in
    let p = c.args.p.now in
    (omega (arith, c.decreases), (within.0, (within.1, host_listed f p.tree c.in-Some.host (sym c.in-Some.ensures))))

pub returns-in-Some : goal.returns-in-Some
returns-in-Some g t c =
    let f = g.G.Grove.forest c.args.g.now in
    let p = c.args.p.now in
    let m = g.G.Tree.TreeView.tree c.unwrap-view.result.now in
    let k = view_told g.G.Tree.TreeView.tree c.tree.result c.unwrap-view.result _ c.tree.ensures.tree c.unwrap-view.ensures in
    let step = climb_step c.args.levels f p m c.first_behind_in_tree-found.result c.if-levels-ge-LEVELS.false k c.first_behind_in_tree-found.ensures in
    c.first_behind.ensures ∙ (ap (option_and_then (first_behind (8 - (c.args.levels + 1)) (c.args.levels + 1) f)) c.in-Some.ensures ∙ (sym (or_else_none c.first_behind_in_tree-found.result _ (sym c.is_some.ensures ∙ c.if-is_some.false)) ∙ step))

pub returns-in-None : goal.returns-in-None
returns-in-None g t c =
    let f = g.G.Grove.forest c.args.g.now in
    let p = c.args.p.now in
    let m = g.G.Tree.TreeView.tree c.unwrap-view.result.now in
    let k = view_told g.G.Tree.TreeView.tree c.tree.result c.unwrap-view.result _ c.tree.ensures.tree c.unwrap-view.ensures in
    let step = climb_step c.args.levels f p m c.first_behind_in_tree-found.result c.if-levels-ge-LEVELS.false k c.first_behind_in_tree-found.ensures in
    ap (option_and_then (first_behind (8 - (c.args.levels + 1)) (c.args.levels + 1) f)) c.in-None.ensures ∙ (sym (or_else_none c.first_behind_in_tree-found.result _ (sym c.is_some.ensures ∙ c.if-is_some.false)) ∙ step)
