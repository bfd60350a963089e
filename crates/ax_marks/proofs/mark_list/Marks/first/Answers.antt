use Rattle.std.proofs.Common.{◌≡◌, slice_get, Some, None, option_and_then, ap, sym, ◌∙◌, arith}
use Rattle.std.proofs.lemmas.Option.{slice_get_past, slice_get_read}
use Rattle.ax_marks.proofs.HoleLemmas.{first_is}
use Rattle.ax_marks.proofs.mark_list.Marks.first.Goals as goal

pub returns-then-self-len : goal.returns-then-self-len
returns-then-self-len c =
    let at : slice_get c.self.inside.order.items c.self.inside.front ≡ Some c.index.result.now = slice_get_read c.self.inside.order.items c.len.result c.self.inside.front c.index.result.now (c.len.ensures ∙ c.self.inside.order.ok.0) c.if-self-len.true c.index.ensures in
    sym (sym (ap (λ ids. slice_get ids 0) c.self.view_is) ∙ first_is _ _ c.self.invariant.passed c.self.invariant.first ∙ ap (option_and_then (λ o. o)) at)

pub returns-else-self-len : goal.returns-else-self-len
returns-else-self-len c =
    let at : slice_get c.self.inside.order.items c.self.inside.front ≡ None = slice_get_past c.self.inside.order.items c.self.inside.front (omega arith) in
    sym (sym (ap (λ ids. slice_get ids 0) c.self.view_is) ∙ first_is _ _ c.self.invariant.passed c.self.invariant.first ∙ ap (option_and_then (λ o. o)) at)
