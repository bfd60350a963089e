use Rattle.std.proofs.Common.{◌∙◌, cond, nat_eq, ap}
use Rattle.std.specs.HashMap.{get}
use Rattle.std.specs.FinMap as fin
use Rattle.std.proofs.lemmas.List.{take_all}
use Rattle.ax_trees.specs.Lists.{contains}
use Rattle.ax_managers.proofs.Lists.{put_next}
use Rattle.ax_managers.proofs.index.rehost.Goals as goal

pub loop-tree-preserved : goal.loop-tree-preserved
loop-tree-preserved c =
    put_next (get nat_eq c.args.now.now) (fin.get c.args.hosts.now) (fin.get c.loop-tree.hosts) (fin.get c.rehost_one.new.hosts) c.args.trees.now c.loop-tree.tree-index c.tree-item.result
    (record { low = c.loop-tree-test.true; item = c.tree-item.is }) c.loop-tree.invariant c.in_ok-rehost_one.ensures

pub returns : goal.returns
returns c z = c.loop-tree.invariant z ∙ ap (λ xs. cond (contains xs z) (get nat_eq c.args.now.now z) (fin.get c.args.hosts.now z)) (take_all c.loop-tree.tree-index c.args.trees.now c.loop-tree-test.false)
