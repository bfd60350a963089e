use Rattle.std.proofs.Common.{◌++◌, ◌∷◌, [], ap, subst, sym, ◌∙◌}
use Rattle.ax_tree.specs.Packets.{IsGood}
use Rattle.ax_lane.specs.Ends.{TxView}
use Rattle.ax_lane.proofs.Moves.{sends}
use Rattle.ax_lane.proofs.lane.Lane.send.Goals as goal

pub push_as-requires-clause-rule : goal.push_as-requires-clause-rule
push_as-requires-clause-rule g c = λ n.
    sends n c.tx.inside.pass.id c.tx.inside.pass.me.view.client c.args.p c.tx.invariant.sends (c.requires.tree ∙ sym (ap (λ t. t.tree) c.tx.view_is))
    (subst (λ (t : TxView). IsGood t.tree (t.sent ++ c.args.p ∷ [])) (sym c.tx.view_is) c.requires.good)
