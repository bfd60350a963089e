use Rattle.std.proofs.Common.{sym, ap, subst, ◌∙◌, rules}
use Rattle.std.specs.Ordering.{nat_cmp}
use Rattle.std.specs.FinMap.Entries.{put}
use Rattle.ax_node.specs.Attrs.{AreAttrs, IsOfKind}
use Rattle.ax_node.proofs.AttrLemmas.{AreAttrs-put, set_there, set_absent}
use Rattle.ax_node.proofs.attrs.AttrList.set.Goals as goal

pub invariant_of-self : goal.invariant_of-self
invariant_of-self c =
    let fits : IsOfKind c.args.key c.args.value = search rules in
    let after = set_there _ _ _ _ _ c.as_slice.ensures.value c.as_slice-2.ensures.value c.place_of-place.ensures.same _ c.has_key.ensures c.args.value c.if-has_key.true in
    subst AreAttrs (sym after) (AreAttrs-put c.args.key c.args.value c.self.inside.entries.items fits c.self.invariant)

pub returns-then-has_key-clause-ok : goal.returns-then-has_key-clause-ok
returns-then-has_key-clause-ok c =
    set_there _ _ _ _ _ c.as_slice.ensures.value c.as_slice-2.ensures.value c.place_of-place.ensures.same _ c.has_key.ensures c.args.value c.if-has_key.true
    ∙ ap (put nat_cmp c.args.key c.args.value) c.self.view_is

pub invariant_of-self-2 : goal.invariant_of-self-2
invariant_of-self-2 c =
    let fits : IsOfKind c.args.key c.args.value = search rules in
    let after = set_absent _ _ _ _ _ c.as_slice.ensures.value c.as_slice-2.ensures.value c.place_of-place.ensures.same _ c.has_key.ensures c.args.value c.if-has_key.false in
    subst AreAttrs (sym (c.in-Ok.ensures.items ∙ after)) (AreAttrs-put c.args.key c.args.value c.self.inside.entries.items fits c.self.invariant)

pub returns-clause-ok : goal.returns-clause-ok
returns-clause-ok c =
    c.in-Ok.ensures.items
    ∙ set_absent _ _ _ _ _ c.as_slice.ensures.value c.as_slice-2.ensures.value c.place_of-place.ensures.same _ c.has_key.ensures c.args.value c.if-has_key.false
    ∙ ap (put nat_cmp c.args.key c.args.value) c.self.view_is
