use Rattle.std.proofs.Common.{◌-◌, sym, ◌∙◌, arith}
use Rattle.ax_trees.specs.Nodes.{below}
use Rattle.ax_stitch.proofs.Views.{view_told, view_some, view_low, node_told, children_told}
use Rattle.ax_stitch.proofs.Sound.{sound_tree}
use Rattle.ax_stitch.proofs.Hung.{hung_less, hung_live, hung_lone, root_lower}
use Rattle.ax_hit.specs.Trails.{origins_on}
use Rattle.ax_hit.specs.Hits.{hit_from}
use Rattle.ax_hit.proofs.Walks.{visited, facts, ends_hidden, ends_hung, ends_lone, ends_child, ends_here, still_none, passed_hung, none_is, none_hung, hung_start, child_next, all_near}
use Rattle.ax_hit.proofs.walk.+hit_at.Goals as goal

pub unwrap-node-requires : goal.unwrap-node-requires
unwrap-node-requires g t c = node_told (g.G.Tree.TreeView.tree c.args.view.now) c.args.p.now.node c.node.result c.requires.there c.node.ensures

pub origin_below-origin-requires : goal.origin_below-origin-requires
origin_below-origin-requires g t c = all_near 0 (g.G.Tree.TreeView.tree c.args.view.now).trees c.args.p.now.node (origins_on c.args.trail.now) c.requires.low c.requires.near

pub holds_point-here-requires : goal.holds_point-here-requires
holds_point-here-requires g t c =
    c.origin_below-origin.ensures.near 255 (all_near 0 (g.G.Tree.TreeView.tree c.args.view.now).trees c.args.p.now.node (origins_on c.args.trail.now) c.requires.low c.requires.near)

pub returns-then-hides : goal.returns-then-hides
returns-then-hides g t c =
    let f = g.G.Grove.forest c.args.g.now in
    let m = g.G.Tree.TreeView.tree c.args.view.now in
    let p = c.args.p.now in
    let v = visited c.args.levels f p.tree p.node m c.requires.live c.requires.there c.requires.level c.tree.ensures.sound in
    let x =
    facts c.args.levels f c.args.at p.tree p.node m c.node.result c.unwrap-node.result (origins_on c.args.trail.now) c.origin_below-origin.result c.holds_point-here.result c.hides.result v c.node.ensures c.unwrap-node.ensures
    c.requires.line c.origin_below-origin.ensures.value c.holds_point-here.ensures c.hides.ensures in
    ends_hidden c.args.levels f c.args.at p.tree p.node (below m.trees p.node) c.hides.result c.holds_point-here.result x c.if-hides.true

pub unwrap-hung-requires : goal.unwrap-hung-requires
unwrap-hung-requires g t c =
    let f = g.G.Grove.forest c.args.g.now in
    let m = g.G.Tree.TreeView.tree c.args.view.now in
    let p = c.args.p.now in
    view_some g.G.Tree.TreeView.tree c.tree-in-Some.result _ c.tree-in-Some.ensures.tree (hung_live c.args.levels f p c.in-Some.root c.in-Some.ensures)

pub hit_at-found-requires : goal.hit_at-found-requires
hit_at-found-requires g t c κs within =
    let f = g.G.Grove.forest c.args.g.now in
    let m = g.G.Tree.TreeView.tree c.args.view.now in
    let p = c.args.p.now in
    let h = g.G.Tree.TreeView.tree c.unwrap-hung.result.now in
    let l = view_told g.G.Tree.TreeView.tree c.tree-in-Some.result c.unwrap-hung.result _ c.tree-in-Some.ensures.tree c.unwrap-hung.ensures in
    let less = hung_less c.args.levels f p c.in-Some.root c.in-Some.ensures in
    let s = hung_start c.args.levels f p c.in-Some.root h c.in-Some.ensures l c.tree.ensures.sound c.requires.level in
    let low = view_low g.G.Tree.TreeView.tree c.tree-in-Some.result c.unwrap-hung.result c.tree-in-Some.ensures.low c.unwrap-hung.ensures in
    let lower = root_lower h.trees c.in-Some.root.node s.there in
    (omega (arith, low, lower, less, c.decreases), (within.0, (within.1, (sym l, (s.there, (low, (s.level, (s.line, tt))))))))

pub returns-then-is_some : goal.returns-then-is_some
returns-then-is_some g t c =
    let f = g.G.Grove.forest c.args.g.now in
    let m = g.G.Tree.TreeView.tree c.args.view.now in
    let p = c.args.p.now in
    let v = visited c.args.levels f p.tree p.node m c.requires.live c.requires.there c.requires.level c.tree.ensures.sound in
    let x =
    facts c.args.levels f c.args.at p.tree p.node m c.node.result c.unwrap-node.result (origins_on c.args.trail.now) c.origin_below-origin.result c.holds_point-here.result c.hides.result v c.node.ensures c.unwrap-node.ensures
    c.requires.line c.origin_below-origin.ensures.value c.holds_point-here.ensures c.hides.ensures in
    let h = g.G.Tree.TreeView.tree c.unwrap-hung.result.now in
    let l = view_told g.G.Tree.TreeView.tree c.tree-in-Some.result c.unwrap-hung.result _ c.tree-in-Some.ensures.tree c.unwrap-hung.ensures in
    let passed =
    passed_hung c.args.levels (c.args.levels - 1) f c.args.at p c.in-Some.root h c.hit_at-found.result c.in-Some.ensures l (sound_tree f c.in-Some.root.tree h c.tree.ensures.sound (sym l)) (hung_less c.args.levels f p c.in-Some.root c.in-Some.ensures)
    c.hit_at-found.ensures in
    ends_hung c.args.levels f c.args.at p.tree p.node (below m.trees p.node) c.hides.result c.holds_point-here.result c.hit_at-found.result x c.if-hides.false passed (sym c.is_some.ensures ∙ c.if-is_some.true)

pub returns-in-Some : goal.returns-in-Some
returns-in-Some g t c =
    let f = g.G.Grove.forest c.args.g.now in
    let m = g.G.Tree.TreeView.tree c.args.view.now in
    let p = c.args.p.now in
    let v = visited c.args.levels f p.tree p.node m c.requires.live c.requires.there c.requires.level c.tree.ensures.sound in
    let x =
    facts c.args.levels f c.args.at p.tree p.node m c.node.result c.unwrap-node.result (origins_on c.args.trail.now) c.origin_below-origin.result c.holds_point-here.result c.hides.result v c.node.ensures c.unwrap-node.ensures
    c.requires.line c.origin_below-origin.ensures.value c.holds_point-here.ensures c.hides.ensures in
    let h = g.G.Tree.TreeView.tree c.unwrap-hung.result.now in
    let l = view_told g.G.Tree.TreeView.tree c.tree-in-Some.result c.unwrap-hung.result _ c.tree-in-Some.ensures.tree c.unwrap-hung.ensures in
    let passed =
    passed_hung c.args.levels (c.args.levels - 1) f c.args.at p c.in-Some.root h c.hit_at-found.result c.in-Some.ensures l (sound_tree f c.in-Some.root.tree h c.tree.ensures.sound (sym l)) (hung_less c.args.levels f p c.in-Some.root c.in-Some.ensures)
    c.hit_at-found.ensures in
    ends_lone c.args.levels f c.args.at p.tree p.node m c.hides.result c.holds_point-here.result c.own_hit.result x c.if-hides.false (passed ∙ none_is c.hit_at-found.result (sym c.is_some.ensures ∙ c.if-is_some.false))
    (hung_lone c.args.levels f p c.in-Some.root m c.tree.ensures.sound c.in-Some.ensures (sym c.requires.live)) c.own_hit.ensures

pub hit_at-found-requires-in-loop-left : goal.hit_at-found-requires-in-loop-left
hit_at-found-requires-in-loop-left g t c κs within =
    let f = g.G.Grove.forest c.args.g.now in
    let m = g.G.Tree.TreeView.tree c.args.view.now in
    let p = c.args.p.now in
    let kids = children_told m p.node c.node.result c.unwrap-node.result c.as_slice-children.result.now c.node.ensures c.unwrap-node.ensures c.as_slice-children.ensures in
    let i = c.loop-left.invariant.within in
    let b = c.loop-left-test.true in
    let v = visited c.args.levels f p.tree p.node m c.requires.live c.requires.there c.requires.level c.tree.ensures.sound in
    let n =
    child_next c.args.levels f p.tree p.node m c.node.result c.unwrap-node.result c.origin_below-origin.result (origins_on c.args.trail.now) (origins_on c.below-deeper.result) c.as_slice-children.result.now (c.loop-left.left - 1)
    c.index-children-left.result v c.node.ensures c.unwrap-node.ensures c.requires.line c.origin_below-origin.ensures.value c.origin_below-origin.ensures.near c.requires.near c.below-deeper.ensures kids (omega (arith, i, b)) c.index-children-left.is in
    let lower = n.lower in
    (omega (arith, lower, c.decreases), (within.0, (within.1, (c.requires.live, (n.there, (c.requires.low, (c.requires.level, (n.line, n.near))))))))

pub returns-then-is_some-2 : goal.returns-then-is_some-2
returns-then-is_some-2 g t c =
    let f = g.G.Grove.forest c.args.g.now in
    let m = g.G.Tree.TreeView.tree c.args.view.now in
    let p = c.args.p.now in
    let v = visited c.args.levels f p.tree p.node m c.requires.live c.requires.there c.requires.level c.tree.ensures.sound in
    let x =
    facts c.args.levels f c.args.at p.tree p.node m c.node.result c.unwrap-node.result (origins_on c.args.trail.now) c.origin_below-origin.result c.holds_point-here.result c.hides.result v c.node.ensures c.unwrap-node.ensures
    c.requires.line c.origin_below-origin.ensures.value c.holds_point-here.ensures c.hides.ensures in
    let kids = children_told m p.node c.node.result c.unwrap-node.result c.as_slice-children.result.now c.node.ensures c.unwrap-node.ensures c.as_slice-children.ensures in
    let i = c.loop-left.invariant.within in
    let b = c.loop-left-test.true in
    let hung = none_hung c.args.levels f c.args.at p c.in_default.ensures in
    ends_child c.args.levels f c.args.at p.tree p.node m c.hides.result c.holds_point-here.result c.as_slice-children.result.now c.loop-left.left (c.loop-left.left - 1) c.index-children-left.result c.hit_at-found-in-loop-left.result x
    c.if-hides.false hung v.is_tree.distinct kids (omega (arith, b)) i c.index-children-left.is c.loop-left.invariant.none c.hit_at-found-in-loop-left.ensures (sym c.is_some-in-loop-left.ensures ∙ c.if-is_some-2.true)

pub loop-left-preserved : goal.loop-left-preserved
loop-left-preserved g t c =
    let f = g.G.Grove.forest c.args.g.now in
    let m = g.G.Tree.TreeView.tree c.args.view.now in
    let p = c.args.p.now in
    let i = c.loop-left.invariant.within in
    let b = c.loop-left-test.true in
    record {
      within = omega (arith, i, b);
      none =
          still_none (λ z. hit_from c.args.levels f c.args.at p.tree z (below m.trees z)) c.as_slice-children.result.now c.loop-left.left (c.loop-left.left - 1) c.index-children-left.result c.hit_at-found-in-loop-left.result
          (omega (arith, b)) i c.index-children-left.is c.loop-left.invariant.none c.hit_at-found-in-loop-left.ensures (sym c.is_some-in-loop-left.ensures ∙ c.if-is_some-2.false);
    }

pub returns : goal.returns
returns g t c =
    let f = g.G.Grove.forest c.args.g.now in
    let m = g.G.Tree.TreeView.tree c.args.view.now in
    let p = c.args.p.now in
    let v = visited c.args.levels f p.tree p.node m c.requires.live c.requires.there c.requires.level c.tree.ensures.sound in
    let x =
    facts c.args.levels f c.args.at p.tree p.node m c.node.result c.unwrap-node.result (origins_on c.args.trail.now) c.origin_below-origin.result c.holds_point-here.result c.hides.result v c.node.ensures c.unwrap-node.ensures
    c.requires.line c.origin_below-origin.ensures.value c.holds_point-here.ensures c.hides.ensures in
    let kids = children_told m p.node c.node.result c.unwrap-node.result c.as_slice-children.result.now c.node.ensures c.unwrap-node.ensures c.as_slice-children.ensures in
    let hung = none_hung c.args.levels f c.args.at p c.in_default.ensures in
    let b = c.loop-left-test.false in
    ends_here c.args.levels f c.args.at p.tree p.node m c.hides.result c.holds_point-here.result c.as_slice-children.result.now c.loop-left.left c.own_hit-2.result x c.if-hides.false hung v.is_tree.distinct kids (omega (arith, b))
    c.loop-left.invariant.none c.own_hit-2.ensures
