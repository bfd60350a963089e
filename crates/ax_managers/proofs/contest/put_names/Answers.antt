use Rattle.std.proofs.Common.{◌∙◌, cond, nat_eq, ap}
use Rattle.std.specs.HashMap.{get}
use Rattle.std.proofs.lemmas.List.{take_all}
use Rattle.ax_trees.specs.Lists.{contains}
use Rattle.ax_managers.specs.Naming.{named_at}
use Rattle.ax_managers.proofs.Lists.{put_next, value_at}
use Rattle.ax_managers.proofs.contest.put_names.Goals as goal

pub loop-id-preserved : goal.loop-id-preserved
loop-id-preserved g c =
    let now = named_at (g.T.TreeView.tree c.args.t.now) in
    put_next now (get nat_eq c.args.names.now) (get nat_eq c.loop-id.names) (get nat_eq c.put_name.new.names) c.args.ids.now c.loop-id.id-index c.id-item.result
    (record { low = c.loop-id-test.true; item = c.id-item.is }) c.loop-id.invariant (value_at now _ _ c.id-item.result _ c.named_at.ensures c.in_ok-put_name.ensures)

pub returns : goal.returns
returns g c z = c.loop-id.invariant z ∙ ap (λ xs. cond (contains xs z) (named_at (g.T.TreeView.tree c.args.t.now) z) (get nat_eq c.args.names.now z)) (take_all c.loop-id.id-index c.args.ids.now c.loop-id-test.false)
