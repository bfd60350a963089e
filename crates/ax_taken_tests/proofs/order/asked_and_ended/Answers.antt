use Rattle.std.proofs.Common.{ℕ, List, [], ◌∷◌, ap, ◌∙◌}
use Rattle.ax_base.specs.declared.pass.Token.{Token}
use Rattle.ax_taken_tests.proofs.ClosedLemmas.{test_closed}
use Rattle.ax_taken_tests.proofs.order.asked_and_ended.Goals as goal

pub taken-requires-clause-closed : goal.taken-requires-clause-closed
taken-requires-clause-closed g c =
    let token : Token = record { 0 = 1 } in
    test_closed c.unwrap-tree.result c.unwrap-node.result token c.from_vec-journal.result c.new-made.result c.from_vec.result c.from_vec-2.result c.new-3.result c.as_slice.result.now
    (c.from_vec-journal.ensures ∙ c.in_ok-entries.ensures.items) c.new-made.ensures (c.from_vec.ensures ∙ c.in_ok-frames.ensures.items) (c.from_vec-2.ensures ∙ c.in_ok-events.ensures.items) c.new-3.ensures
    (c.as_slice.ensures.value ∙ (c.in_ok-looks.ensures.items ∙ ap (λ (ns : List ℕ). ns ∷ []) (c.from_vec-3.ensures ∙ c.in_ok-numbers.ensures.items)))
