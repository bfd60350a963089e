use Rattle.std.proofs.Common.{◌≡◌, ◌∙◌, ap, sym}
use Rattle.std.specs.Prelude.{is_some}
use Rattle.std.specs.FinMap as map
use Rattle.ax_pages.specs.Table.{held}
use Rattle.ax_pages.proofs.TableLemmas.{seen_at, out_held, kept_held, on_ok, on_err, out_none}
use Rattle.ax_pages.proofs.table.Table.erase_own.Goals as goal

pub returns-in-Some-clause-ok : goal.returns-in-Some-clause-ok
returns-in-Some-clause-ok g c =
    on_ok c.take_from_own.result _ _ c.take_from_own.ensures.ok
    (out_held c.in-Some.blocks.value c.take_from_own.new.blocks.value c.get.result c.args.id c.args.self.now c.get.ensures.same
    (seen_at c.self.inside.blocks c.in-Some.blocks c.args.self.now c.in-Some.is c.self.view_is))

pub returns-in-Some-clause-err : goal.returns-in-Some-clause-err
returns-in-Some-clause-err g c =
    on_err c.take_from_own.result _ _ c.take_from_own.ensures.err
    (kept_held c.in-Some.blocks.value c.take_from_own.new.blocks.value c.args.self.now (seen_at c.self.inside.blocks c.in-Some.blocks c.args.self.now c.in-Some.is c.self.view_is))

pub take_from_own-requires-clause-there : goal.take_from_own-requires-clause-there
take_from_own-requires-clause-there g c =
    ap is_some (seen_at c.self.inside.blocks c.in-Some.blocks c.args.self.now c.in-Some.is c.self.view_is c.get.result ∙ ap (map.get c.args.self.now) c.get.ensures.same) ∙ c.requires

pub returns-clause-ok : goal.returns-clause-ok
returns-clause-ok g c =
    let was : map.empty ≡ c.args.self.now = ap held (sym c.in-None.is) ∙ c.self.view_is in
    c.self.view_is ∙ sym was ∙ out_none c.args.id ∙ ap (λ m. map.remove m c.args.id) was
