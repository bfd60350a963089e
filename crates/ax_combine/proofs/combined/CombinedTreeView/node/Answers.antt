use Rattle.std.proofs.Common.{◌-◌, Some, None, sym, ap, arith, ◌∙◌}
use Rattle.ax_tree.specs.Tree.{node}
use Rattle.ax_combine.specs.Kept.{Joined}
use Rattle.ax_combine.proofs.Rows.{row_read, node_read}
use Rattle.ax_combine.proofs.combined.CombinedTreeView.node.Goals as goal

pub returns-in-Some : goal.returns-in-Some
returns-in-Some c =
    let rows = c.self.inside.rows in
    let there = row_read rows c.args.id (c.get.result - 1) (omega (arith, c.get.ensures)) (omega (arith, c.get.ensures)) ∙ sym c.in-Some.ensures in
    node_read c.self.inside.about rows c.self.inside.numbering c.args.id (Some c.in-Some.row.now) c.self.invariant there ∙ ap (λ (j : Joined). node j.tree c.args.id) c.self.view_is

pub returns-in-None : goal.returns-in-None
returns-in-None c =
    let rows = c.self.inside.rows in
    let past = row_read rows c.args.id (c.get.result - 1) (omega (arith, c.get.ensures)) (omega (arith, c.get.ensures)) ∙ sym c.in-None.ensures in
    node_read c.self.inside.about rows c.self.inside.numbering c.args.id None c.self.invariant past ∙ ap (λ (j : Joined). node j.tree c.args.id) c.self.view_is
