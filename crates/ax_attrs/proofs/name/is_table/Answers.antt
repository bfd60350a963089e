use Rattle.std.proofs.Common.{◌≡◌, ◌∙◌, length, refl, sym, arith}
use Rattle.std.proofs.lemmas.List.{length-map}
use Rattle.ax_attrs.specs.Rows.{entries, entry_of}
use Rattle.ax_attrs.proofs.RowLemmas.{entry-at}
use Rattle.ax_attrs.proofs.CheckLemmas.{all_in_place, is_first, none_yet, not_first, one_more, other_number}
use Rattle.ax_attrs.proofs.name.is_table.Goals as goal

pub loop-i-init : goal.loop-i-init
loop-i-init c = none_yet (entries c.args.rows.now)

pub returns-then-row-i : goal.returns-then-row-i
returns-then-row-i c =
    other_number (entries c.args.rows.now) c.loop-i.i _ (entry-at c.args.rows.now c.loop-i.i _ c.loop-i-test.true) c.if-row-i.true

pub returns-then-ne : goal.returns-then-ne
returns-then-ne c =
    not_first (entries c.args.rows.now) c.loop-i.i _ c.number_named.result (entry-at c.args.rows.now c.loop-i.i _ c.loop-i-test.true) c.if-row-i.false
    c.number_named.ensures (sym c.if-ne.true ∙ c.ne.ensures)

pub loop-i-preserved : goal.loop-i-preserved
loop-i-preserved c =
    one_more (entries c.args.rows.now) c.loop-i.i _ (entry-at c.args.rows.now c.loop-i.i _ c.loop-i-test.true) c.if-row-i.false
    (sym c.number_named.ensures ∙ is_first c.number_named.result _ (sym c.if-ne.false ∙ c.ne.ensures)) c.loop-i.invariant

pub returns : goal.returns
returns c =
    let all : length (entries c.args.rows.now) ≡ c.loop-i.i = length-map c.args.rows.now entry_of ∙ (omega (arith, c.loop-i-test.false, c.loop-i.auto.i-end)) in
    (λ yes. all_in_place (entries c.args.rows.now) c.loop-i.i all c.loop-i.invariant, λ table. refl)
