use Rattle.std.proofs.Common.{◌∙◌, None, sym, ap, subst}
use Rattle.std.specs.FinMap as fin
use Rattle.std.specs.Arc.{arc_value}
use Rattle.ax_by_id.proofs.Maps.{out_at}
use Rattle.ax_managers.specs.Telling.{dropped}
use Rattle.ax_forest.specs.Shown.{shown, IsTable}
use Rattle.ax_forest.proofs.Showing.{shown_put, table_put}
use Rattle.ax_forest.proofs.Results.{on_ok, on_err, on_each}
use Rattle.ax_forest.proofs.table.Table.drop_tree.Goals as goal

pub invariant_of-self : goal.invariant_of-self
invariant_of-self c =
    let ids = arc_value c.self.inside.ids in
    let old = c.self.inside.mirrors in
    on_each c.take.result
    (λ e. table_put ids c.args.t None old c.take.new.self (λ u. ap (λ m. fin.get m u) e ∙ out_at old c.args.t u) (λ m e. absurd (let bad : ⊥ = cc in bad)) c.self.invariant)
    (λ e. subst (IsTable ids) (sym e) c.self.invariant) c.take.ensures.ok c.take.ensures.err

pub returns-clause-ok : goal.returns-clause-ok
returns-clause-ok c =
    let ids = arc_value c.self.inside.ids in
    let old = c.self.inside.mirrors in
    on_ok c.take.result (λ e. shown_put ids c.args.t None old c.take.new.self (λ u. ap (λ m. fin.get m u) e ∙ out_at old c.args.t u) ∙ ap (dropped c.args.t) c.self.view_is) c.take.ensures.ok

pub returns-clause-err : goal.returns-clause-err
returns-clause-err c = on_err c.take.result (λ e. ap (shown (arc_value c.self.inside.ids)) e ∙ c.self.view_is) c.take.ensures.err
