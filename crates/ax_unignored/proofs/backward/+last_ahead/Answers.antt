use Rattle.std.proofs.Common.{◌-◌, ◌+◌, if◌then◌else◌, Some, sym, ap, ◌∙◌, arith, option_and_then}
use Rattle.ax_stitch.proofs.Views.{view_told, view_some, or_else_some, or_else_none}
use Rattle.ax_stitch.proofs.Places.{listed_node, listed_live, host_listed}
use Rattle.ax_unignored.specs.Runs.{last_ahead}
use Rattle.ax_unignored.proofs.Lasts.{host_or, climb_step, climb_end}
use Rattle.ax_unignored.proofs.backward.+last_ahead.Goals as goal

pub returns-then-levels-ge-LEVELS : goal.returns-then-levels-ge-LEVELS
returns-then-levels-ge-LEVELS g t c =
    let f = g.G.Grove.forest c.args.g.now in
    let p = c.args.p.now in
    climb_end c.args.levels f p c.if-levels-ge-LEVELS.true

pub unwrap-view-requires : goal.unwrap-view-requires
unwrap-view-requires g t c =
    let f = g.G.Grove.forest c.args.g.now in
    let p = c.args.p.now in
    view_some g.G.Tree.TreeView.tree c.tree.result _ c.tree.ensures.tree (listed_live f p c.requires)

pub last_ahead_in_tree-found-requires : goal.last_ahead_in_tree-found-requires
last_ahead_in_tree-found-requires g t c =
    let f = g.G.Grove.forest c.args.g.now in
    let p = c.args.p.now in
    let m = g.G.Tree.TreeView.tree c.unwrap-view.result.now in
    let k = view_told g.G.Tree.TreeView.tree c.tree.result c.unwrap-view.result _ c.tree.ensures.tree c.unwrap-view.ensures in
    record { live = k; there = sym (listed_node f p m k) ∙ c.requires }

pub returns-then-is_some : goal.returns-then-is_some
returns-then-is_some g t c =
    let f = g.G.Grove.forest c.args.g.now in
    let p = c.args.p.now in
    let m = g.G.Tree.TreeView.tree c.unwrap-view.result.now in
    let k = view_told g.G.Tree.TreeView.tree c.tree.result c.unwrap-view.result _ c.tree.ensures.tree c.unwrap-view.ensures in
    let step = climb_step c.args.levels f p m c.last_ahead_in_tree-found.result c.if-levels-ge-LEVELS.false k c.last_ahead_in_tree-found.ensures in
    sym (or_else_some c.last_ahead_in_tree-found.result _ (sym c.is_some.ensures ∙ c.if-is_some.true)) ∙ step

pub is_lit_at-requires : goal.is_lit_at-requires
is_lit_at-requires g t c =
    let f = g.G.Grove.forest c.args.g.now in
    let p = c.args.p.now in
    host_listed f p.tree c.in-Some.host (sym c.in-Some.ensures)

pub returns-then-is_lit_at : goal.returns-then-is_lit_at
returns-then-is_lit_at g t c =
    let f = g.G.Grove.forest c.args.g.now in
    let p = c.args.p.now in
    let m = g.G.Tree.TreeView.tree c.unwrap-view.result.now in
    let k = view_told g.G.Tree.TreeView.tree c.tree.result c.unwrap-view.result _ c.tree.ensures.tree c.unwrap-view.ensures in
    let step = climb_step c.args.levels f p m c.last_ahead_in_tree-found.result c.if-levels-ge-LEVELS.false k c.last_ahead_in_tree-found.ensures in
    sym (ap (λ b. if b then Some c.in-Some.host else last_ahead (8 - (c.args.levels + 1)) (c.args.levels + 1) f c.in-Some.host) (sym c.is_lit_at.ensures ∙ c.if-is_lit_at.true)) ∙ (ap (option_and_then (host_or (8 - (c.args.levels + 1)) (c.args.levels + 1) f)) c.in-Some.ensures ∙ (sym (or_else_none c.last_ahead_in_tree-found.result _ (sym c.is_some.ensures ∙ c.if-is_some.false)) ∙ step))

pub last_ahead-requires : goal.last_ahead-requires
last_ahead-requires g t c κs within =
    let f = g.G.Grove.forest c.args.g.now in
    let p = c.args.p.now in
    (omega (arith, c.decreases), (within.0, (within.1, host_listed f p.tree c.in-Some.host (sym c.in-Some.ensures))))

pub returns-else-is_lit_at : goal.returns-else-is_lit_at
returns-else-is_lit_at g t c =
    let f = g.G.Grove.forest c.args.g.now in
    let p = c.args.p.now in
    let m = g.G.Tree.TreeView.tree c.unwrap-view.result.now in
    let k = view_told g.G.Tree.TreeView.tree c.tree.result c.unwrap-view.result _ c.tree.ensures.tree c.unwrap-view.ensures in
    let step = climb_step c.args.levels f p m c.last_ahead_in_tree-found.result c.if-levels-ge-LEVELS.false k c.last_ahead_in_tree-found.ensures in
    c.last_ahead.ensures ∙ (sym (ap (λ b. if b then Some c.in-Some.host else last_ahead (8 - (c.args.levels + 1)) (c.args.levels + 1) f c.in-Some.host) (sym c.is_lit_at.ensures ∙ c.if-is_lit_at.false)) ∙ (ap (option_and_then (host_or (8 - (c.args.levels + 1)) (c.args.levels + 1) f)) c.in-Some.ensures ∙ (sym (or_else_none c.last_ahead_in_tree-found.result _ (sym c.is_some.ensures ∙ c.if-is_some.false)) ∙ step)))

pub returns-in-None : goal.returns-in-None
returns-in-None g t c =
    let f = g.G.Grove.forest c.args.g.now in
    let p = c.args.p.now in
    let m = g.G.Tree.TreeView.tree c.unwrap-view.result.now in
    let k = view_told g.G.Tree.TreeView.tree c.tree.result c.unwrap-view.result _ c.tree.ensures.tree c.unwrap-view.ensures in
    let step = climb_step c.args.levels f p m c.last_ahead_in_tree-found.result c.if-levels-ge-LEVELS.false k c.last_ahead_in_tree-found.ensures in
    ap (option_and_then (host_or (8 - (c.args.levels + 1)) (c.args.levels + 1) f)) c.in-None.ensures ∙ (sym (or_else_none c.last_ahead_in_tree-found.result _ (sym c.is_some.ensures ∙ c.if-is_some.false)) ∙ step)
