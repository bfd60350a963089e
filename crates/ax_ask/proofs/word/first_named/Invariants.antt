use Rattle.std.proofs.Common.{◌≡◌, bytes_eq, drop, find}
use Rattle.ax_ask.proofs.word.first_named.Given as goal

abbrev pub invariant-loop-thing : goal.invariant-loop-thing
invariant-loop-thing g l = find (λ x. bytes_eq (g.T.Named.word x) l.word) (drop l.thing-index l.things) ≡ find (λ x. bytes_eq (g.T.Named.word x) l.word) l.things
