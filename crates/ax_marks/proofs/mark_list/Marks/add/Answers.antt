use Rattle.std.proofs.Common.{◌≡◌, ◌+◌, true, false, not, cond, [], ◌∷◌, ◌++◌, Some, None, is_some, nat_eq, if◌then◌else◌, ap, sym, ◌∙◌}
use Rattle.ax_marks.specs.Holes.{somes}
use Rattle.ax_marks.specs.MarkList.{has}
use Rattle.ax_marks.proofs.HoleLemmas.{has_is, kept_added_by, none_from, somes-append}
use Rattle.indexmap.specs.IndexMap.{get, index_map_len}
use Rattle.ax_marks.proofs.mark_list.Marks.add.Goals as goal

pub returns-then-contains_key-clause-answer : goal.returns-then-contains_key-clause-answer
returns-then-contains_key-clause-answer c =
    let here : has c.args.self.now c.args.id ≡ true = sym (ap (λ ids. has ids c.args.id) c.self.view_is) ∙ has_is _ _ _ _ c.args.id c.self.invariant ∙ sym c.contains_key.ensures ∙ c.if-contains_key.true in
    sym (ap not here)

pub returns-then-contains_key-clause-ok : goal.returns-then-contains_key-clause-ok
returns-then-contains_key-clause-ok c =
    let here : has c.args.self.now c.args.id ≡ true = sym (ap (λ ids. has ids c.args.id) c.self.view_is) ∙ has_is _ _ _ _ c.args.id c.self.invariant ∙ sym c.contains_key.ensures ∙ c.if-contains_key.true in
    sym (ap (λ b. cond b c.args.self.now (c.args.self.now ++ c.args.id ∷ [])) here)

pub invariant_of-self-2 : goal.invariant_of-self-2
invariant_of-self-2 c =
    let none : get nat_eq c.self.inside.places c.args.id ≡ None = none_from _ (sym c.contains_key.ensures ∙ c.if-contains_key.false) in
    let counts : index_map_len c.insert.new.self ≡ index_map_len c.self.inside.places + 1 = c.in_ok-insert.ensures.len ∙ ap (λ o. index_map_len c.self.inside.places + (if is_some o then 0 else 1)) (c.in_ok-insert.ensures.old ∙ none) in
    kept_added_by _ _ _ _ c.args.id _ _ _ _ c.self.invariant none (c.len-end.ensures ∙ c.self.inside.order.ok.0) c.in_ok-insert.ensures.updates.0
    (c.push_reserved.ensures.items ∙ ap (λ xs. xs ++ Some c.args.id ∷ []) c.in_ok-reserve.ensures.items) counts

pub returns-clause-answer : goal.returns-clause-answer
returns-clause-answer c =
    let away : has c.args.self.now c.args.id ≡ false = sym (ap (λ ids. has ids c.args.id) c.self.view_is) ∙ has_is _ _ _ _ c.args.id c.self.invariant ∙ sym c.contains_key.ensures ∙ c.if-contains_key.false in
    sym (ap not away)

pub returns-clause-ok : goal.returns-clause-ok
returns-clause-ok c =
    let away : has c.args.self.now c.args.id ≡ false = sym (ap (λ ids. has ids c.args.id) c.self.view_is) ∙ has_is _ _ _ _ c.args.id c.self.invariant ∙ sym c.contains_key.ensures ∙ c.if-contains_key.false in
    let items : c.push_reserved.new.self.items ≡ c.self.inside.order.items ++ Some c.args.id ∷ [] = c.push_reserved.ensures.items ∙ ap (λ xs. xs ++ Some c.args.id ∷ []) c.in_ok-reserve.ensures.items in
    ap somes items ∙ somes-append c.self.inside.order.items (Some c.args.id ∷ []) ∙ ap (λ ids. ids ++ c.args.id ∷ []) c.self.view_is
    ∙ sym (ap (λ b. cond b c.args.self.now (c.args.self.now ++ c.args.id ∷ [])) away)
