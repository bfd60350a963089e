use Rattle.std.proofs.Common.{slice_index_or, sym, subst, ◌∙◌}
use Rattle.std.specs.List.{AllZip}
use Rattle.std.proofs.lemmas.List.{with_items_is}
use Rattle.ax_actions.specs.Acting.{IsWaiting}
use Rattle.ax_actions.proofs.ActingLemmas.{all_ready, works_same, if_ok_more, gathered_from}
use Rattle.ax_actions.proofs.acting.act_all.Goals as goal

pub for_each_mut-requires-clause-accepts : goal.for_each_mut-requires-clause-accepts
for_each_mut-requires-clause-accepts g c κs within = λ i p l e.
    let waiting = subst (AllZip IsWaiting c.in_ok-shares.shares.items) (sym c.as_mut_slice.ensures.value) c.in_ok-slots.ensures in
    (all_ready c.in_ok-shares.shares.items c.as_mut_slice.result.now i p.now waiting l e, (record { shared = c.type_bounds.sync-G.shared }, record { shared = c.type_bounds.sync-R.shared }))

pub returns-clause-frames : goal.returns-clause-frames
returns-clause-frames g c =
    let ts = c.as_mut_slice.result.now in
    let us = c.for_each_mut.new.s in
    let kept = with_items_is c.in_ok-slots.slots us (c.for_each_mut.auto.s ∙ c.as_mut_slice.ensures.len) in
    if_ok_more c.gather.result _ _ c.gather.ensures (λ out h. (gathered_from c.args.actions.now c.args.frames.items c.in_ok-shares.shares.items c.in_ok-slots.slots.items ts us _ out.0.items out.1 c.in_ok-shares.ensures c.in_ok-slots.ensures c.as_mut_slice.ensures.value kept c.for_each_mut.auto.s
    (λ i d l. let at = (c.for_each_mut.ensures i d l).1 in works_same at.argument.now at.after_call.now (slice_index_or ts i d) (slice_index_or us i d) at.call at.argument_is at.left) h).0)

pub returns-clause-lines : goal.returns-clause-lines
returns-clause-lines g c =
    let ts = c.as_mut_slice.result.now in
    let us = c.for_each_mut.new.s in
    let kept = with_items_is c.in_ok-slots.slots us (c.for_each_mut.auto.s ∙ c.as_mut_slice.ensures.len) in
    if_ok_more c.gather.result _ _ c.gather.ensures (λ out h. (gathered_from c.args.actions.now c.args.frames.items c.in_ok-shares.shares.items c.in_ok-slots.slots.items ts us _ out.0.items out.1 c.in_ok-shares.ensures c.in_ok-slots.ensures c.as_mut_slice.ensures.value kept c.for_each_mut.auto.s
    (λ i d l. let at = (c.for_each_mut.ensures i d l).1 in works_same at.argument.now at.after_call.now (slice_index_or ts i d) (slice_index_or us i d) at.call at.argument_is at.left) h).1)
