use Rattle.std.proofs.Common.{sym}
use Rattle.ax_views.proofs.Walking.{there_from, absent_from}
use Rattle.ax_events.proofs.tell.has_node.Goals as goal

pub returns-in-Some : goal.returns-in-Some
returns-in-Some g c = sym (there_from _ c.args.id _ c.in-Some.ensures)

pub returns-in-None : goal.returns-in-None
returns-in-None g c = sym (absent_from _ c.args.id c.in-None.ensures)
