use Rattle.std.proofs.Common.{◌≡◌, ◌∙◌, ap, sym}
use Rattle.std.specs.FinMap as map
use Rattle.ax_pages.specs.Table.{held}
use Rattle.ax_pages.proofs.TableLemmas.{seen_at, empty_at, put_held, kept_held, on_ok, on_err}
use Rattle.ax_pages.proofs.table.Table.write.Goals as goal

pub returns-in-Some-clause-ok : goal.returns-in-Some-clause-ok
returns-in-Some-clause-ok g c =
    on_ok c.put_in_shared.result _ _ c.put_in_shared.ensures.ok
    (put_held c.in-Some.blocks.value c.put_in_shared.new.blocks.value c.get.result c.args.id _ c.args.value c.args.self.now c.get.ensures.same c.in-Ok.ensures.ok
    (seen_at c.self.inside.blocks c.in-Some.blocks c.args.self.now c.in-Some.is c.self.view_is))

pub returns-in-Some-clause-err : goal.returns-in-Some-clause-err
returns-in-Some-clause-err g c =
    on_err c.put_in_shared.result _ _ c.put_in_shared.ensures.err
    (kept_held c.in-Some.blocks.value c.put_in_shared.new.blocks.value c.args.self.now (seen_at c.self.inside.blocks c.in-Some.blocks c.args.self.now c.in-Some.is c.self.view_is))

pub returns-in-Ok-new-clause-ok : goal.returns-in-Ok-new-clause-ok
returns-in-Ok-new-clause-ok g c =
    let was : map.empty ≡ c.args.self.now = ap held (sym c.in-None.is) ∙ c.self.view_is in
    let first = put_held c.new-blocks.result c.put_in_blocks.new.blocks c.get-in-None.result c.args.id _ c.args.value c.args.self.now c.get-in-None.ensures.same c.in-Ok.ensures.ok
    (empty_at c.new-blocks.result c.args.self.now c.new-blocks.ensures.empty was) c.in_ok-put_in_blocks-in-None.ensures.ok in
    rw c.in-Ok-new.ensures.ok first
