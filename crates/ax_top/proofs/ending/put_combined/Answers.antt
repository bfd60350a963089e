use Rattle.ax_top.proofs.Endings.{combined_told}
use Rattle.ax_top.proofs.ending.put_combined.Goals as goal

pub returns : goal.returns
returns c =
    combined_told c.combined_text.result c.args.core.now c.forest.result.now c.in_ok-combined.combined.places c.in_ok-combined.combined.tree c.args.out.now.items c.put.new.out.items c.combined_text.new.out.items c.forest.ensures.mirrors
    c.in_ok-combined.ensures.combined c.in_ok-put.ensures c.combined_text.ensures.ok
