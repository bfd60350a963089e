use Rattle.std.proofs.Common.{ap, ◌∙◌}
use Rattle.std.specs.Ordering.{nat_cmp}
use Rattle.std.specs.FinMap.Entries.{find}
use Rattle.ax_node.proofs.AttrLemmas.{found, found_kind}
use Rattle.ax_node.proofs.attrs.AttrList.get.Goals as goal

pub returns-clause-value : goal.returns-clause-value
returns-clause-value c =
    found _ _ _ _ _ c.as_slice.ensures.value c.as_slice-2.ensures.value c.place_of-place.ensures.same _ c.self.invariant c.value_at.ensures
    ∙ ap (find nat_cmp c.args.key) c.self.view_is

pub returns-clause-kind : goal.returns-clause-kind
returns-clause-kind c =
    found_kind _ _ _ _ _ c.as_slice.ensures.value c.as_slice-2.ensures.value c.place_of-place.ensures.same _ c.self.invariant c.value_at.ensures
