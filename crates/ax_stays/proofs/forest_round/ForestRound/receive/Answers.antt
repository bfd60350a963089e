use Rattle.std.proofs.Common.{◌∙◌}
use Rattle.ax_stays.proofs.Histories.{round_keeps, round_received, round_refused}
use Rattle.ax_stays.proofs.forest_round.ForestRound.receive.Goals as goal

pub returns-in-Ok : goal.returns-in-Ok
returns-in-Ok c = round_received c.args.packet c.self.inside.forest c.args.self.now c.receive.new.self c.in-Ok.verdict c.self.view_is c.requires c.in-Ok.ensures.verdict c.in-Ok.ensures.source c.in-Ok.ensures.ok

pub invariant_of-self : goal.invariant_of-self
invariant_of-self c =
    round_keeps c.args.packet c.self.inside.forest c.args.self.now c.receive.new.self c.self.inside.receipts c.in-Some.receipts c.self.view_is c.requires c.in-Ok.ensures.ok c.in-Some.ensures.1 c.self.invariant

pub without_memory-requires : goal.without_memory-requires
without_memory-requires c = round_refused c.args.packet c.self.inside.forest c.args.self.now c.in-Err.refused.why c.self.view_is c.requires c.in-Err.ensures.why c.in-Err.ensures.good

pub returns-in-Err : goal.returns-in-Err
returns-in-Err c = (c.without_memory.ensures ∙ c.in-Err.ensures.packet, c.in-Err.ensures.unchanged ∙ c.self.view_is)
