use Rattle.std.proofs.Common.{sym, ◌∙◌}
use Rattle.ax_rules.specs.Stitched.{stitched}
use Rattle.ax_position.proofs.Asking.{index_refused}
use Rattle.ax_position.proofs.marked.asked_at.Goals as goal

pub returns-in-Err-clause-refused : goal.returns-in-Err-clause-refused
returns-in-Err-clause-refused g c =
    index_refused (stitched (g.G.Grove.forest c.args.g.now)) c.args.p.now c.in-Tree.tree c.in-Tree.node c.in-Tree.child c.in-Err.count c.args.place.now c.in-Tree.is c.requires.place (sym c.in-Err.is ∙ c.child_before.ensures)
