use Rattle.std.proofs.Common.{◌≡◌, map}
use Rattle.ax_core.specs.Starting.{put_all}
use Rattle.ax_core.proofs.resuming.put_packets.Given as goal

abbrev pub invariant-loop-packet : goal.invariant-loop-packet
invariant-loop-packet l = l.seats.items ≡ map (put_all l.yielded) l.fn.seats.items
