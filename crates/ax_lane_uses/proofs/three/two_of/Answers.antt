use Rattle.ax_lane_uses.proofs.PlainLemmas.{two_new}
use Rattle.ax_lane_uses.proofs.three.two_of.Goals as goal

pub returns-clause-first : goal.returns-clause-first
returns-clause-first c = (two_new c.args._lane.now c.args.senders.items _ _ c.in_ok-first.ensures.two c.requires).0

pub returns-clause-second : goal.returns-clause-second
returns-clause-second c = (two_new c.args._lane.now c.args.senders.items _ _ c.in_ok-first.ensures.two c.requires).1
