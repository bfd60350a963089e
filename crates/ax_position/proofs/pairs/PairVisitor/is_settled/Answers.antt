use Rattle.ax_position.proofs.Pairing.{pair_settled}
use Rattle.ax_position.proofs.pairs.PairVisitor.is_settled.Goals as goal

pub returns-then-is_over-2 : goal.returns-then-is_over-2
returns-then-is_over-2 c h = pair_settled c.args.self.now (c.is_over.ensures c.if-is_over.true) (c.is_over-then-is_over.ensures c.if-is_over-2.true) (c.is_over-then-is_over-2.ensures h)
