use Rattle.std.proofs.Common.{◌≡◌, ◌<◌, length, is_some, sym, ap, subst, ◌∙◌, arith}
use Rattle.std.specs.Ordering.{nat_cmp}
use Rattle.std.specs.FinMap.Entries.{find}
use Rattle.ax_base.specs.Entries.{without}
use Rattle.ax_node.specs.Attrs.{AreAttrs}
use Rattle.ax_node.proofs.AttrLemmas.{AreAttrs-without, is_there, unset_there, unset_absent, key_within}
use Rattle.ax_node.proofs.attrs.AttrList.unset.Goals as goal

pub returns-then-not-has_key-clause-answer : goal.returns-then-not-has_key-clause-answer
returns-then-not-has_key-clause-answer c =
    sym c.if-not-has_key.true
    ∙ is_there _ _ _ _ _ c.as_slice.ensures.value c.as_slice-2.ensures.value c.place_of-place.ensures.same _ c.has_key.ensures c.self.invariant
    ∙ ap (λ es. is_some (find nat_cmp c.args.key es)) c.self.view_is

pub returns-then-not-has_key-clause-rest : goal.returns-then-not-has_key-clause-rest
returns-then-not-has_key-clause-rest c =
    subst (λ es. es ≡ without c.args.key es) c.self.view_is
    (unset_absent _ _ _ _ _ c.as_slice.ensures.value c.as_slice-2.ensures.value c.place_of-place.ensures.same _ c.has_key.ensures c.self.invariant c.if-not-has_key.true)

pub remove-requires : goal.remove-requires
remove-requires c =
    let inside : c.place_of-place.result < length c.as_slice-2.result.now = key_within _ _ _ (sym c.has_key.ensures ∙ c.if-not-has_key.false) in
    omega (arith, inside, c.as_slice-2.ensures.len)

pub invariant_of-self : goal.invariant_of-self
invariant_of-self c =
    let after = unset_there _ _ _ _ _ c.as_slice.ensures.value c.as_slice-2.ensures.value c.place_of-place.ensures.same _ c.has_key.ensures c.self.invariant c.if-not-has_key.false in
    subst AreAttrs (sym (c.remove.ensures.items ∙ after)) (AreAttrs-without c.args.key c.self.inside.entries.items c.self.invariant)

pub returns-clause-answer : goal.returns-clause-answer
returns-clause-answer c =
    sym c.if-not-has_key.false
    ∙ is_there _ _ _ _ _ c.as_slice.ensures.value c.as_slice-2.ensures.value c.place_of-place.ensures.same _ c.has_key.ensures c.self.invariant
    ∙ ap (λ es. is_some (find nat_cmp c.args.key es)) c.self.view_is

pub returns-clause-rest : goal.returns-clause-rest
returns-clause-rest c =
    c.remove.ensures.items
    ∙ unset_there _ _ _ _ _ c.as_slice.ensures.value c.as_slice-2.ensures.value c.place_of-place.ensures.same _ c.has_key.ensures c.self.invariant c.if-not-has_key.false
    ∙ ap (without c.args.key) c.self.view_is
