use Rattle.std.proofs.Common.{refl}
use Rattle.ax_core.proofs.Answering.{received}
use Rattle.ax_core.proofs.receiving.receive_oldest.Goals as goal

pub returns-in-Ok-clause-done : goal.returns-in-Ok-clause-done
returns-in-Ok-clause-done c =
    received c.args.tree c.args.forest.now c.receive.new.self c.in-Some.packet c.args.waiting.now.items c.pop_front.new.self.items c.pop_front.new.self.items c.in-Ok.verdict c.in-Some.ensures.items c.requires c.in-Ok.ensures.verdict c.in-Ok.ensures.ok refl
