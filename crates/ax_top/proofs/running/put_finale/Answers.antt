use Rattle.ax_top.proofs.Finales.{ended}
use Rattle.ax_top.proofs.running.put_finale.Goals as goal

pub returns : goal.returns
returns c =
    ended c.dump_text.result c.args.core.now c.put_lines.new.core c.forest-forest.result.now c.trees.result.now c.in_ok-put_lines.ensures.lines c.args.out.now.items c.put.new.out.items c.put_lines.new.out.items c.put-2.new.out.items c.dump_text.new.out.items
    c.in_ok-put_lines.ensures.is c.in_ok-put_lines.ensures.whole c.in_ok-put.ensures c.in_ok-put_lines.ensures.text c.in_ok-put-2.ensures c.forest-forest.ensures.past c.forest-forest.ensures.mirrors c.forest-forest.ensures.stands c.trees.ensures c.dump_text.ensures.whole
