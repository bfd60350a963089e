use Rattle.std.proofs.Common.{ℕ, ◌≡◌, ◌∙◌, true, cond, eqb, List, Some, sym, ap, subst}
use Rattle.std.proofs.lemmas.Option.{same_Some}
use Rattle.std.specs.FinMap as fin
use Rattle.std.specs.Arc.{arc_value}
use Rattle.ax_by_id.proofs.Maps.{put_at}
use Rattle.ax_trees.specs.Lists.{contains}
use Rattle.ax_tree.specs.Forest.{IsSoundTree}
use Rattle.ax_managers.specs.Telling.{retold}
use Rattle.ax_forest.specs.Shown.{ids_of, shown, IsTable}
use Rattle.ax_forest.proofs.Showing.{ids_shown, shown_put, table_put}
use Rattle.ax_forest.proofs.Results.{on_ok, on_err, on_each}
use Rattle.ax_forest.proofs.table.Table.put.Goals as goal

pub invariant_of-self : goal.invariant_of-self
invariant_of-self c =
    let ids = arc_value c.self.inside.ids in
    let old = c.self.inside.mirrors in
    let new = c.put.new.self in
    let listed : contains ids c.args.t ≡ true = ap (λ (l : List ℕ). contains l c.args.t) (sym (ids_shown ids old) ∙ ap ids_of c.self.view_is) ∙ c.requires.listed in
    on_each c.put.result
    (λ e. table_put ids c.args.t (Some c.args.mirror) old new (λ u. ap (λ m. fin.get m u) e ∙ put_at old c.args.t c.args.mirror u)
    (λ m e. (listed, subst (IsSoundTree c.args.t) (same_Some c.args.mirror m e) c.requires.sound)) c.self.invariant)
    (λ e. subst (IsTable ids) (sym e) c.self.invariant) c.put.ensures.ok c.put.ensures.err

pub returns-clause-ok : goal.returns-clause-ok
returns-clause-ok c =
    let ids = arc_value c.self.inside.ids in
    let old = c.self.inside.mirrors in
    on_ok c.put.result (λ e. shown_put ids c.args.t (Some c.args.mirror) old c.put.new.self (λ u. ap (λ m. fin.get m u) e ∙ put_at old c.args.t c.args.mirror u) ∙ ap (retold c.args.t c.args.mirror) c.self.view_is)
    c.put.ensures.ok

pub returns-clause-err : goal.returns-clause-err
returns-clause-err c = on_err c.put.result (λ e. ap (shown (arc_value c.self.inside.ids)) e ∙ c.self.view_is) c.put.ensures.err
