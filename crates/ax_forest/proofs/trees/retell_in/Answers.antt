use Rattle.std.proofs.Common.{sym, subst}
use Rattle.ax_managers.specs.Managed.{Managed, Tells}
use Rattle.ax_forest.proofs.Showing.{live_listed}
use Rattle.ax_forest.proofs.trees.retell_in.Goals as goal

pub put-requires-clause-listed : goal.put-requires-clause-listed
put-requires-clause-listed c = live_listed c.args.table.now c.args.t c.requires.old c.requires.live

pub returns-clause-tells : goal.returns-clause-tells
returns-clause-tells c told =
    let f = c.args.table.now in
    let own : Tells c.in_ok-next.next f = subst (λ (v : Managed). Tells v f) (sym c.in_ok-next.ensures) told in
    subst (Tells c.retouch.new.self) (sym c.in_ok-put.ensures.ok) (c.in_ok-retouch.ensures.ok f c.requires.old own c.requires.live c.requires.names)
