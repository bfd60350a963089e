use Rattle.std.proofs.Common.{◌∙◌, cond, nat_eq, ap, None}
use Rattle.std.specs.HashMap.{get}
use Rattle.std.specs.FinMap as fin
use Rattle.std.proofs.lemmas.List.{take_all}
use Rattle.ax_trees.specs.Lists.{contains}
use Rattle.ax_managers.specs.Naming.{named_at}
use Rattle.ax_managers.proofs.Lists.{put_next, value_at}
use Rattle.ax_managers.proofs.contest.names_of.Goals as goal

pub loop-id-preserved : goal.loop-id-preserved
loop-id-preserved g c =
    put_next (fin.get c.args.known.now) (λ z. None) (get nat_eq c.loop-id.names) (get nat_eq c.put_name.new.names) c.args.nodes.now c.loop-id.id-index c.id-item.result
    (record { low = c.loop-id-test.true; item = c.id-item.is }) c.loop-id.invariant (value_at (fin.get c.args.known.now) _ _ c.id-item.result _ c.known_name.ensures c.in_ok-put_name.ensures)

pub returns : goal.returns
returns g c z =
    c.in_ok-put_names.ensures z
    ∙ ap (λ o. cond (contains c.args.renamed.now z) (named_at (g.T.TreeView.tree c.args.t.now) z) o)
    (c.loop-id.invariant z ∙ ap (λ xs. cond (contains xs z) (fin.get c.args.known.now z) None) (take_all c.loop-id.id-index c.args.nodes.now c.loop-id-test.false))
