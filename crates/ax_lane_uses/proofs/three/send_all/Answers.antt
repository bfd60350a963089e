use Rattle.std.proofs.Common.{◌++◌, ◌∷◌, [], subst, sym, ◌∙◌}
use Rattle.ax_tree.specs.Packets.{IsGood}
use Rattle.ax_lane_uses.proofs.PlainLemmas.{plain_next, sent_none, sent_one_more}
use Rattle.ax_lane_uses.proofs.three.send_all.Goals as goal

pub loop-number-init : goal.loop-number-init
loop-number-init g c = sent_none c.args.lane.now c.args.tree c.args.tx c.requires.tx

pub send-requires-clause-tree : goal.send-requires-clause-tree
send-requires-clause-tree g c = c.plain-packet.ensures.of ∙ sym c.loop-number.invariant.for_tree

pub send-requires-clause-good : goal.send-requires-clause-good
send-requires-clause-good g c =
    let sent = c.loop-number.invariant in
    subst (λ t. IsGood t (c.loop-number.tx.sent ++ c.plain-packet.result ∷ [])) (sym sent.for_tree)
    (plain_next c.args.tree c.loop-number.number c.loop-number.tx.sent c.plain-packet.result sent.all_there sent.in_order c.plain-packet.ensures)

pub loop-number-preserved : goal.loop-number-preserved
loop-number-preserved g c =
    sent_one_more c.args.lane.now c.args.tree c.loop-number.number c.in-Ok.ensures.0 c.loop-number.tx c.send.new.tx c.plain-packet.result c.loop-number.invariant c.plain-packet.ensures c.in-Ok.ensures.1
