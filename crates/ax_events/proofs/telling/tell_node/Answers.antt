use Rattle.std.proofs.Common.{◌∙◌, ◌++◌, map, nat_eq, ap}
use Rattle.std.specs.HashSet as bag
use Rattle.ax_node.specs.declared.tree_data.TreeData.{TreeData}
use Rattle.ax_tree.specs.Tree.{as_node}
use Rattle.ax_views.proofs.Walking.{there_from}
use Rattle.ax_rules.specs.Sequences.{where_true}
use Rattle.ax_rules.specs.Rows.{live_region_changed}
use Rattle.ax_rules.specs.Events.{at_node}
use Rattle.ax_events.specs.Told.{own_at}
use Rattle.ax_events.proofs.Nodes.{there_is}
use Rattle.ax_events.proofs.Tellings.{two_mapped, told_node}
use Rattle.ax_events.proofs.telling.tell_node.Goals as goal

pub tell_own-requires : goal.tell_own-requires
tell_own-requires g c = there_from _ c.args.id _ c.in-Some.ensures

pub returns : goal.returns
returns g c =
    let old = g.A.TreeView.tree c.args.old.now in
    let new = g.B.TreeView.tree c.args.new.now in
    let ks = own_at old new c.args.id (as_node c.in-Some.node.now) ++ where_true (bag.contains nat_eq c.args.changed.now c.args.id) live_region_changed in
    two_mapped (at_node c.tree_data.result.now.tree c.args.id) _ _ _ _ _ c.in_ok-tell_own.ensures
    (c.in_ok-tell.ensures ∙ ap (λ b. c.tell_own.new.out ++ map (at_node c.tree_data.result.now.tree c.args.id) (where_true b live_region_changed)) c.contains.ensures)
    ∙ (ap (λ (d : TreeData). c.args.out.now ++ map (at_node d.tree c.args.id) ks) c.tree_data.ensures
    ∙ ap (λ es. c.args.out.now ++ es) (told_node (bag.contains nat_eq c.args.changed.now) old new c.args.id (as_node c.in-Some.node.now) (there_is new.trees c.args.id _ c.in-Some.ensures)))
