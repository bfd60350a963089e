use Rattle.std.proofs.Common.{◌≡◌, ◌∙◌, ◌%◌, ap, sym, refl, arith}
use Rattle.std.specs.Arc.{arc_value}
use Rattle.ax_pages.specs.Slots.{used_count}
use Rattle.ax_pages.proofs.PageLemmas.{page_gone}
use Rattle.ax_pages.proofs.block.take_from.Goals as goal

pub returns-then-used-eq1-clause-ok : goal.returns-then-used-eq1-clause-ok
returns-then-used-eq1-clause-ok g c =
    let one : used_count (arc_value c.in-Some.page) ≡ 1 = omega (arith, ap used_count c.deref.ensures, c.used.ensures, c.if-used-eq1.true) in
    page_gone c.args.block.now c.take.new.self c.place_of-place.result c.args.id (arc_value c.in-Some.page) (sym c.in-Some.ensures.was) (c.place_of-place.ensures.place ∙ ap (λ n. n % 64) c.page_of.ensures)
    (c.in-Some.ensures.slots refl) one c.requires.there
