use Rattle.std.proofs.Common.{◌+◌, ◌∙◌, take, ap}
use Rattle.std.specs.Ordering.{nat_cmp}
use Rattle.std.specs.FinMap as fin
use Rattle.ax_by_id.proofs.Maps.{put_at}
use Rattle.ax_trees.proofs.Lists.{contains_next}
use Rattle.ax_forest.proofs.Showing.{empty_next}
use Rattle.ax_forest.proofs.table.empty_mirrors.Goals as goal

pub loop-tree-init : goal.loop-tree-init
loop-tree-init c t = ap (λ m. fin.get m t) c.new-mirrors.ensures ∙ fin.get-empty nat_cmp t

pub loop-tree-preserved : goal.loop-tree-preserved
loop-tree-preserved c =
    let ts = c.args.trees.now in
    let i = c.loop-tree.tree-index in
    let t = c.tree-item.result in
    let old = c.loop-tree.mirrors in
    empty_next (take i ts) (take (i + 1) ts) t old c.put.new.self (λ z. contains_next ts i t z (record { low = c.loop-tree-test.true; item = c.tree-item.is }))
    (λ u. ap (λ m. fin.get m u) (c.in_ok-put.ensures.ok ∙ ap (fin.insert old t) c.new.ensures) ∙ put_at old t _ u) c.loop-tree.invariant
