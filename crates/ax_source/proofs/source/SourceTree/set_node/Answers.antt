use Rattle.std.proofs.Common.{sym, ◌∙◌}
use Rattle.std.proofs.lemmas.Bool.{false≢true}
use Rattle.ax_views.proofs.Walking.{absent_from}
use Rattle.ax_tree.specs.Edits.{look_set}
use Rattle.ax_source.proofs.Allowed.{may_change, first_none}
use Rattle.ax_source.proofs.source.SourceTree.set_node.Goals as goal

pub unreachable-requires : goal.unreachable-requires
unreachable-requires c =
    false≢true (sym (absent_from c.args.self.now.tree.trees c.args.set.now.node c.in-None.ensures)
    ∙ may_change c.args.set.now.node (look_set c.args.set.now) c.args.self.now.tree.trees (first_none _ _ (sym c.in_default.ensures)))
