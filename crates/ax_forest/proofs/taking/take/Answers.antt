use Rattle.std.proofs.Common.{subst}
use Rattle.ax_forest.specs.Fates.{IsFate}
use Rattle.ax_forest.proofs.Receipts.{told_stays, told_verdict}
use Rattle.ax_forest.proofs.taking.take.Goals as goal

pub returns-in_ok-add_packet-in-Told-clause-verdict : goal.returns-in_ok-add_packet-in-Told-clause-verdict
returns-in_ok-add_packet-in-Told-clause-verdict c = λ ts f.
    told_verdict c.args.history.now c.args.packet c.in-Told.verdict (subst (IsFate ts c.args.history.now c.args.packet) c.in-Told.is f).1

pub returns-in_ok-add_packet-in-Told-clause-past : goal.returns-in_ok-add_packet-in-Told-clause-past
returns-in_ok-add_packet-in-Told-clause-past c = λ ts i f.
    told_stays c.args.trees.now c.args.tallies.now ts c.args.history.now c.args.packet c.in-Told.verdict (subst (IsFate ts c.args.history.now c.args.packet) c.in-Told.is f).1 i
