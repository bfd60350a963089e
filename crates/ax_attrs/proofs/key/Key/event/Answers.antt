use Rattle.std.proofs.Common.{option_map, sym, ap, ◌∙◌}
use Rattle.ax_attrs.specs.Entry.{event_of, row_of}
use Rattle.ax_attrs.specs.Tables.{key_rows}
use Rattle.ax_attrs.specs.Rows.{entry_of}
use Rattle.ax_attrs.proofs.TableFacts.{found_event}
use Rattle.ax_attrs.proofs.key.Key.event.Goals as goal

pub returns : goal.returns
returns c =
    found_event c.self.inside.number (entry_of c.row_at.result) c.in_ok-number.number c.in_ok-number.field-0-1 c.of.result
    (ap (λ rows. row_of rows c.self.inside.number) (sym c.key_list.ensures.rows) ∙ c.row_at.ensures) c.in_ok-number.was c.of.ensures
    ∙ ap (λ n. option_map (λ event. event.0) (event_of key_rows n)) c.self.view_is
