use Rattle.std.proofs.Common.{true, false, refl, sym, subst}
use Rattle.ax_actions.specs.declared.hand.Letter.{Letter}
use Rattle.ax_actions.specs.Acting.{Reads}
use Rattle.ax_actions.proofs.acting.read.Goals as goal

pub returns-in-End : goal.returns-in-End
returns-in-End g c = subst (λ (l : Letter). Reads l true c.args.acted.now c.args.acted.now) (sym c.in-End.is) (refl, refl)

pub returns : goal.returns
returns g c = subst (λ (l : Letter). Reads l false c.args.acted.now c.act_at_gate.new.acted) (sym c.in-Do.is) (refl, c.in_ok-act_at_gate-in-Do.ensures)
