-- The program's rows as contracts see them.
use Rattle.std.proofs.Common.{◌≡◌, ◌<◌, ◌≤◌, ◌-◌, ℕ, zero, suc, List, length, slice_get, get_or, Some, option_map, sym, ap, ◌∙◌, arith}
use Rattle.std.proofs.lemmas.Option.{slice_get-map, slice_get-get_or}
use Rattle.ax_attrs.specs.declared.table.Row.{Row}
use Rattle.ax_attrs.specs.Entry.{row_of}
use Rattle.ax_attrs.specs.Rows.{entries, entry_of}

pub entry-at : (rows : List Row) (i : ℕ) (d : Row) → i < length rows → slice_get (entries rows) i ≡ Some (entry_of (get_or rows i d))
entry-at rows i d within = slice_get-map entry_of rows i ∙ ap (option_map entry_of) (slice_get-get_or rows i d within)

pub row-at : (rows : List Row) (number : ℕ) (d : Row) → 0 < number → number ≤ length rows → row_of (entries rows) number ≡ Some (entry_of (get_or rows (number - 1) d))
row-at rows zero d above within = absurd (omega arith)
row-at rows (suc i) d above within =
    let place : suc i - 1 ≡ i = omega arith in
    entry-at rows i d (omega arith) ∙ ap (λ k. Some (entry_of (get_or rows k d))) (sym place)
