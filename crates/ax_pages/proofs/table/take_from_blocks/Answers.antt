use Rattle.ax_pages.proofs.TableLemmas.{block_taken}
use Rattle.ax_pages.proofs.table.take_from_blocks.Goals as goal

pub returns-then-has_last-clause-ok : goal.returns-then-has_last-clause-ok
returns-then-has_last-clause-ok g c =
    block_taken c.args.blocks.now c.remove.new.self c.args.id c.block_of.result c.block_of.ensures c.requires.there (c.has_last.ensures.yes c.if-has_last.true) c.remove.ensures.updates.0
