use Rattle.ax_attrs.proofs.RowLemmas.{row-at}
use Rattle.ax_attrs.proofs.name.row_at.Goals as goal

pub returns : goal.returns
returns c = row-at c.args.rows.now c.args.number _ c.requires.above c.requires.within
