use Rattle.std.proofs.Common.{◌∙◌, cond, nat_eq, ap}
use Rattle.std.specs.HashMap.{get}
use Rattle.std.specs.FinMap as fin
use Rattle.std.proofs.lemmas.List.{take_all}
use Rattle.ax_trees.specs.Lists.{contains}
use Rattle.ax_managers.proofs.Lists.{put_next}
use Rattle.ax_managers.proofs.index.rename.Goals as goal

pub loop-id-preserved : goal.loop-id-preserved
loop-id-preserved c =
    put_next (get nat_eq c.args.names.now) (fin.get c.args.named.now) (fin.get c.loop-id.named) (fin.get c.rename_one.new.named) c.args.ids.now c.loop-id.id-index c.id-item.result
    (record { low = c.loop-id-test.true; item = c.id-item.is }) c.loop-id.invariant c.in_ok-rename_one.ensures

pub returns : goal.returns
returns c z = c.loop-id.invariant z ∙ ap (λ xs. cond (contains xs z) (get nat_eq c.args.names.now z) (fin.get c.args.named.now z)) (take_all c.loop-id.id-index c.args.ids.now c.loop-id-test.false)
