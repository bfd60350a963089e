use Rattle.ax_report.proofs.DumpLemmas.{whole_ok}
use Rattle.ax_report.proofs.dump_text.Goals as goal

pub returns-clause-whole : goal.returns-clause-whole
returns-clause-whole g c =
    whole_ok (g.G.Grove.forest c.args.g.now) c.args.trees.now c.put_dump-done.result c.ended.result c.args.out.now.items c.put_dump-done.new.out.items c.ended.new.out.items
    c.put_dump-done.ensures.ok c.ended.ensures.ok
