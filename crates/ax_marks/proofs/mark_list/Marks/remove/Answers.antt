use Rattle.std.proofs.Common.{◌≡◌, ◌<◌, false, length, is_some, ap, sym, ◌∙◌, arith}
use Rattle.std.proofs.lemmas.Option.{slice_get_within}
use Rattle.ax_marks.specs.MarkList.{has, without}
use Rattle.ax_marks.proofs.HoleLemmas.{has_is, kept_removed_by, without-absent, removed_is}
use Rattle.ax_marks.proofs.mark_list.Marks.remove.Goals as goal

pub index_mut-requires : goal.index_mut-requires
index_mut-requires c =
    let within : c.in-Some.place < length c.self.inside.order.items = slice_get_within _ _ _ (c.self.invariant.found c.args.id c.in-Some.place (sym c.in-Some.ensures.value)) in
    omega (arith, within, c.self.inside.order.ok)

pub invariant_of-self-2 : goal.invariant_of-self-2
invariant_of-self-2 c =
    kept_removed_by _ _ _ _ c.args.id c.in-Some.place _ _ _ _ c.self.invariant (sym c.in-Some.ensures.len) c.in-Some.ensures.value c.in-Some.ensures.updates.0
    c.as_slice.ensures.value c.next_id-self-inside.ensures.passed c.next_id-self-inside.ensures.first

pub returns-in-None-clause-answer : goal.returns-in-None-clause-answer
returns-in-None-clause-answer c =
    sym (sym (ap (λ ids. has ids c.args.id) c.self.view_is) ∙ has_is _ _ _ _ c.args.id c.self.invariant ∙ ap is_some (sym c.in-None.ensures.value))

pub returns-in-None-clause-rest : goal.returns-in-None-clause-rest
returns-in-None-clause-rest c =
    let absent : has c.args.self.now c.args.id ≡ false = sym (ap (λ ids. has ids c.args.id) c.self.view_is) ∙ has_is _ _ _ _ c.args.id c.self.invariant ∙ ap is_some (sym c.in-None.ensures.value) in
    c.self.view_is ∙ sym (without-absent c.args.self.now c.args.id absent)

pub returns-clause-answer : goal.returns-clause-answer
returns-clause-answer c =
    sym (sym (ap (λ ids. has ids c.args.id) c.self.view_is) ∙ has_is _ _ _ _ c.args.id c.self.invariant ∙ ap is_some (sym c.in-Some.ensures.value))

pub returns-clause-rest : goal.returns-clause-rest
returns-clause-rest c =
    c.drop_holes.ensures ∙ removed_is _ _ _ _ c.args.id c.in-Some.place c.self.invariant c.in-Some.ensures.value ∙ ap (λ ids. without ids c.args.id) c.self.view_is
