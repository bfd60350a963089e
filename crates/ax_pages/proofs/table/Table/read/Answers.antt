use Rattle.std.proofs.Common.{◌∙◌, ap, sym}
use Rattle.std.specs.Ordering.{nat_cmp}
use Rattle.std.specs.FinMap as map
use Rattle.std.specs.Arc.{arc_value}
use Rattle.ax_pages.specs.Table.{held, value_at}
use Rattle.ax_pages.proofs.TableLemmas.{seen_at}
use Rattle.ax_pages.proofs.table.Table.read.Goals as goal

pub returns-in-Some : goal.returns-in-Some
returns-in-Some g c =
    let at = seen_at c.self.inside.blocks c.in-Some.blocks c.args.self.now c.in-Some.is c.self.view_is in
    c.found.ensures ∙ ap (λ m. value_at m c.get.result) c.deref.ensures ∙ ap (value_at (arc_value c.in-Some.blocks)) c.get.ensures.same ∙ at c.args.id

pub returns-in-None : goal.returns-in-None
returns-in-None g c = sym (map.get-empty nat_cmp c.args.id) ∙ ap (λ m. map.get m c.args.id) (ap held (sym c.in-None.is) ∙ c.self.view_is)
