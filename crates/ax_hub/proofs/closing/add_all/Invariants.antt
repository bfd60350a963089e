use Rattle.std.proofs.Common.{◌≡◌, ◌++◌}
use Rattle.ax_hub.proofs.closing.add_all.Given as goal

abbrev pub invariant-loop-packet : goal.invariant-loop-packet
invariant-loop-packet l = l.packets.items ≡ l.initial.packets.items ++ l.yielded
