use Rattle.std.proofs.Common.{List, sym, subst}
use Rattle.std.specs.Prelude.{IsTrue}
use Rattle.std.specs.Ordering.{nat_cmp}
use Rattle.std.specs.FinMap.Entries.{is_sorted}
use Rattle.ax_rules.specs.Combined.{numbered_attr}
use Rattle.ax_combine.proofs.Filtered.{filtered_all}
use Rattle.ax_combine.proofs.AttributeLemmas.{attr_more}
use Rattle.ax_combine.proofs.attributes.numbered_attrs.Goals as goal

pub loop-entry-preserved : goal.loop-entry-preserved
loop-entry-preserved c =
    let es = c.as_slice-entries.result.now in
    let sorted = subst (λ (l : List _). IsTrue (is_sorted nat_cmp l)) (sym c.as_slice-entries.ensures.entries) c.as_slice-entries.ensures.attrs.keys in
    attr_more c.args.numbering.now c.args.tree es c.loop-entry.out c.set_some.new.out c.loop-entry.entry-index c.entry-item.result c.in_ok-value.value sorted c.loop-entry-test.true c.entry-item.is c.loop-entry.invariant
    c.in_ok-value.ensures c.in_ok-set_some.ensures

pub returns : goal.returns
returns c =
    filtered_all (numbered_attr c.args.numbering.now c.args.tree) c.as_slice-entries.result.now c.args.attrs.now c.loop-entry.entry-index c.loop-entry.out c.loop-entry-test.false c.as_slice-entries.ensures.entries
    c.loop-entry.invariant
