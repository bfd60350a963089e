use Rattle.ax_forest.proofs.Pasts.{tally_place}
use Rattle.ax_forest.proofs.Receipts.{renews}
use Rattle.ax_forest.proofs.taking.take_renewed.Goals as goal

pub returns-clause-past : goal.returns-clause-past
returns-clause-past c = λ ts i k.
    let f = c.args.trees.now in
    let ys = c.args.tallies.now in
    let h = c.args.history.now in
    let p = c.args.packet in
    renews h p c.args.renewed c.args.token k.1 f c.retell.new.self ys c.put.new.values ts k.0 c.in-Ok.ensures.ok (c.put.ensures.puts (tally_place f ys ts h i p.tree k.0)) i
