use Rattle.std.proofs.Common.{ℕ, ◌≡◌, ◌++◌, List, map, flat_map, replicate, sym, ap, ◌∙◌, subst}
use Rattle.std.specs.List.{enumerate_from}
use Rattle.std.proofs.lemmas.List.{with_items_is}
use Rattle.ax_trees.specs.Lists.{NoneTwice}
use Rattle.ax_ask.specs.declared.op.Item.{Item}
use Rattle.ax_run_rules.specs.Taken.{queries_at}
use Rattle.ax_taken.specs.declared.closed.ClosedFrame.{ClosedFrame}
use Rattle.ax_taken.specs.Taking.{trees_of, stand_of, StandWithin, history_piece, rest_items}
use Rattle.ax_taken.proofs.HistoryLemmas.{once_in, first_stand, first_asked, stands_within, order_done, all_rise}
use Rattle.ax_taken.proofs.order.taken.Goals as goal

pub places_of-requires : goal.places_of-requires
places_of-requires c =
    subst (λ (fs : List ClosedFrame). NoneTwice (trees_of fs)) (sym c.as_slice.ensures) (once_in c.args.done.now c.args.looks.now c.requires.closed)

pub put_queries-requires-clause-rises : goal.put_queries-requires-clause-rises
put_queries-requires-clause-rises c = all_rise c.args.done.now c.args.looks.now c.requires.closed

pub put_queries-requires-clause-places : goal.put_queries-requires-clause-places
put_queries-requires-clause-places c = c.deref_mut.ensures.value ∙ (c.in_ok-asked.ensures ∙ first_asked c.args.looks.now)

pub put_history-requires-clause-stand : goal.put_history-requires-clause-stand
put_history-requires-clause-stand c =
    c.deref_mut-2.ensures.value ∙ (c.in_ok-stand.ensures ∙ (ap (λ (n : ℕ). replicate n 0) c.len.ensures ∙ first_stand c.args.done.now.frames))

pub put_rest-requires : goal.put_rest-requires
put_rest-requires c =
    let stand : c.deref-2.result.now ≡ map (stand_of c.args.done.now.history) c.args.done.now.frames = c.deref-2.ensures.value ∙ (with_items_is c.in_ok-stand.stand c.put_history.new.stand (c.put_history.auto.stand ∙ c.deref_mut-2.ensures.len) ∙ c.in_ok-put_history.ensures.stand) in
    subst (λ (fs : List ClosedFrame). StandWithin fs c.deref-2.result.now) (sym c.as_slice-2.ensures)
    (subst (StandWithin c.args.done.now.frames) (sym stand) (stands_within c.args.done.now.history c.args.done.now.frames))

pub returns : goal.returns
returns c =
    let stand : c.deref-2.result.now ≡ map (stand_of c.args.done.now.history) c.args.done.now.frames = c.deref-2.ensures.value ∙ (with_items_is c.in_ok-stand.stand c.put_history.new.stand (c.put_history.auto.stand ∙ c.deref_mut-2.ensures.len) ∙ c.in_ok-put_history.ensures.stand) in
    let first : c.put_queries.new.order ≡ queries_at c.args.looks.now 0 = c.in_ok-put_queries.ensures.order ∙ ap (λ (o : List Item). o ++ queries_at c.args.looks.now 0) c.new-order.ensures in
    c.in_ok-put_rest.ensures
    ∙ (ap (λ (o : List Item). o ++ rest_items c.as_slice-2.result.now c.deref-2.result.now)
    (c.in_ok-put_history.ensures.order ∙ ap (λ (o : List Item). o ++ flat_map (history_piece c.args.done.now c.args.looks.now) (enumerate_from 1 c.args.done.now.history)) first)
    ∙ (ap (λ (fs : List ClosedFrame). (queries_at c.args.looks.now 0 ++ flat_map (history_piece c.args.done.now c.args.looks.now) (enumerate_from 1 c.args.done.now.history)) ++ rest_items fs c.deref-2.result.now) c.as_slice-2.ensures
    ∙ (ap (λ (ns : List ℕ). (queries_at c.args.looks.now 0 ++ flat_map (history_piece c.args.done.now c.args.looks.now) (enumerate_from 1 c.args.done.now.history)) ++ rest_items c.args.done.now.frames ns) stand
    ∙ order_done c.args.done.now c.args.looks.now)))
