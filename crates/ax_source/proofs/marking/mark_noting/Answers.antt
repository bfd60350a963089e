use Rattle.std.proofs.Common.{◌≡◌, true, false, cond, List, ℕ, [], ◌∷◌, ◌++◌, sym, ap, ◌∙◌}
use Rattle.ax_trees.specs.Lists.{contains}
use Rattle.ax_source.specs.Marking.{less}
use Rattle.ax_source.proofs.MarkLists.{mark-contains, added-mark, added_new, less-marked, less-noted}
use Rattle.ax_source.proofs.marking.mark_noting.Goals as goal

pub returns-then-has-clause-ok : goal.returns-then-has-clause-ok
returns-then-has-clause-ok c =
    let there : contains c.args.marks.now c.args.id ≡ true = sym (mark-contains c.args.marks.now c.args.id) ∙ sym c.has.ensures ∙ c.if-has.true in
    sym (ap (λ b. cond b c.args.marks.now (c.args.marks.now ++ c.args.id ∷ [])) there)

pub returns-in-Ok-clause-ok : goal.returns-in-Ok-clause-ok
returns-in-Ok-clause-ok c = c.in-Ok.ensures.ok ∙ added-mark c.args.marks.now c.args.id

pub returns-in-Ok-clause-back : goal.returns-in-Ok-clause-back
returns-in-Ok-clause-back c =
    let new : contains c.args.marks.now c.args.id ≡ false = sym (mark-contains c.args.marks.now c.args.id) ∙ sym c.has.ensures ∙ c.if-has.false in
    ap (λ (g : List ℕ). less g c.add.new.self) c.in_ok-push.ensures.ok
    ∙ ap (less (c.args.added.now ++ c.args.id ∷ [])) (c.in-Ok.ensures.ok ∙ added_new c.args.marks.now c.args.id new)
    ∙ less-marked c.args.added.now c.args.id c.args.marks.now new

pub returns-in-Err-clause-back : goal.returns-in-Err-clause-back
returns-in-Err-clause-back c =
    let new : contains c.args.marks.now c.args.id ≡ false = sym (mark-contains c.args.marks.now c.args.id) ∙ sym c.has.ensures ∙ c.if-has.false in
    ap (λ (g : List ℕ). less g c.add.new.self) c.in_ok-push.ensures.ok
    ∙ ap (less (c.args.added.now ++ c.args.id ∷ [])) c.in-Err.ensures.err
    ∙ less-noted c.args.added.now c.args.id c.args.marks.now new
