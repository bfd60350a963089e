use Rattle.std.proofs.Common.{sym, ap, ◌∙◌}
use Rattle.ax_attrs.specs.Entry.{row_of}
use Rattle.ax_attrs.specs.Rows.{entry_of}
use Rattle.ax_attrs.proofs.TableFacts.{has_kind}
use Rattle.ax_attrs.proofs.key.Key.kind.Goals as goal

pub unwrap-requires : goal.unwrap-requires
unwrap-requires c =
    has_kind c.self.inside.number (entry_of c.row_at.result) (ap (λ rows. row_of rows c.self.inside.number) (sym c.key_list.ensures.rows) ∙ c.row_at.ensures)
