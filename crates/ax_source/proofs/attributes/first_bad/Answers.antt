use Rattle.std.proofs.Common.{sym}
use Rattle.ax_source.proofs.Ready.{ahead_begins, ahead_bad, ahead_next, ahead_ends, or_first, or_second, or_neither}
use Rattle.ax_source.proofs.attributes.first_bad.Goals as goal

pub loop-i-init : goal.loop-i-init
loop-i-init c = ahead_begins c.args.changes.now

pub returns-then-names_key : goal.returns-then-names_key
returns-then-names_key c = ahead_bad c.args.changes.now c.loop-i.i c.index-changes-i.result c.loop-i.invariant c.loop-i-test.true c.index-changes-i.is (or_first _ _ (sym c.if-names_key.ensures))

pub returns-then-is_bad : goal.returns-then-is_bad
returns-then-is_bad c = ahead_bad c.args.changes.now c.loop-i.i c.index-changes-i.result c.loop-i.invariant c.loop-i-test.true c.index-changes-i.is (or_second _ _ (sym c.if-is_bad.ensures))

pub loop-i-preserved : goal.loop-i-preserved
loop-i-preserved c = ahead_next c.args.changes.now c.loop-i.i c.index-changes-i.result c.loop-i.invariant c.loop-i-test.true c.index-changes-i.is (or_neither _ _ (sym c.if-names_key.ensures) (sym c.if-is_bad.ensures))

pub returns : goal.returns
returns c = ahead_ends c.args.changes.now c.loop-i.i c.loop-i.invariant c.loop-i-test.false
