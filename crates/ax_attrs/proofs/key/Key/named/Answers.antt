use Rattle.std.proofs.Common.{Some, ap, sym, ◌∙◌}
use Rattle.ax_attrs.specs.Entry.{number_named}
use Rattle.ax_attrs.specs.Tables.{key_rows}
use Rattle.ax_attrs.proofs.NameLemmas.{found_exactly, found_within}
use Rattle.ax_attrs.proofs.TableFacts.{keys_table}
use Rattle.ax_attrs.proofs.key.Key.named.Goals as goal

pub returns-in_err-number-clause-exactly : goal.returns-in_err-number-clause-exactly
returns-in_err-number-clause-exactly c =
    found_exactly key_rows keys_table c.args.name.now c.from_residual.result
    (c.from_residual.ensures ∙ sym c.in_err-number.was ∙ c.number_named.ensures ∙ ap (λ es. number_named es c.args.name.now) c.key_list.ensures.rows)

pub invariant_of-result : goal.invariant_of-result
invariant_of-result c =
    found_within key_rows keys_table c.args.name.now c.in_ok-number.number
    (ap (λ es. number_named es c.args.name.now) (sym c.key_list.ensures.rows) ∙ sym c.number_named.ensures ∙ c.in_ok-number.was)

pub returns-clause-exactly : goal.returns-clause-exactly
returns-clause-exactly c =
    found_exactly key_rows keys_table c.args.name.now (Some c.in_ok-number.number)
    (sym c.in_ok-number.was ∙ c.number_named.ensures ∙ ap (λ es. number_named es c.args.name.now) c.key_list.ensures.rows)
