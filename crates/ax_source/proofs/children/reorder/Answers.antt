use Rattle.std.proofs.Common.{ℕ, List, suc, length, sym, ap, ◌∙◌, arith}
use Rattle.std.specs.Prelude.{insert, remove}
use Rattle.ax_trees.specs.Spots.{inserted, removed}
use Rattle.ax_source.proofs.Lists.{moved_on, moved_back, insert-inserted, one_more}
use Rattle.ax_source.proofs.children.reorder.Goals as goal

pub returns-in_ok-insert-clause-ok : goal.returns-in_ok-insert-clause-ok
returns-in_ok-insert-clause-ok c =
    c.remove.ensures.rest
    ∙ ap (λ (js : List ℕ). remove js c.place_of-at.result) (c.in_ok-insert.ensures.ok ∙ ap (λ n. insert c.args.ids.now n c.args.id) (one_more c.args.index))
    ∙ moved_on c.args.ids.now c.place_of-at.result c.args.index c.args.id (omega arith) (let w = c.place_of-at.ensures.within in let e = ap (λ (js : List ℕ). length js) c.as_slice.ensures in omega (arith, w, e))
    ∙ insert-inserted c.args.index c.args.id (remove c.args.ids.now c.place_of-at.result)
    ∙ ap (inserted c.args.index c.args.id) (ap (λ (js : List ℕ). remove js c.place_of-at.result) (sym c.as_slice.ensures) ∙ sym c.place_of-at.ensures.first ∙ ap (removed c.args.id) c.as_slice.ensures)

pub returns-in_ok-insert-2-clause-ok : goal.returns-in_ok-insert-2-clause-ok
returns-in_ok-insert-2-clause-ok c =
    c.remove-else-at-index.ensures.rest
    ∙ ap (λ n. remove c.insert-else-at-index.new.self n) (one_more c.place_of-at.result)
    ∙ ap (λ (js : List ℕ). remove js (suc c.place_of-at.result)) c.in_ok-insert-2.ensures.ok
    ∙ moved_back c.args.ids.now c.place_of-at.result c.args.index c.args.id (omega arith) (let w = c.place_of-at.ensures.within in let e = ap (λ (js : List ℕ). length js) c.as_slice.ensures in omega (arith, w, e))
    ∙ insert-inserted c.args.index c.args.id (remove c.args.ids.now c.place_of-at.result)
    ∙ ap (inserted c.args.index c.args.id) (ap (λ (js : List ℕ). remove js c.place_of-at.result) (sym c.as_slice.ensures) ∙ sym c.place_of-at.ensures.first ∙ ap (removed c.args.id) c.as_slice.ensures)
