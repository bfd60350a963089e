use Rattle.std.proofs.Common.{ℕ, ◌≡◌, ◌∙◌, cond, eqb, Option, Some, None, sym, ap, subst}
use Rattle.std.specs.Ordering.{nat_cmp}
use Rattle.std.specs.FinMap as fin
use Rattle.ax_by_id.proofs.Maps.{put_at}
use Rattle.ax_managers.specs.Managed.{LastTold, IsTold}
use Rattle.ax_managers.specs.Telling.{AreOf, empty_forest}
use Rattle.ax_managers.proofs.Shown.{told_empty, agree_put}
use Rattle.ax_managers.proofs.managers.empty_summaries.Goals as goal
use Rattle.ax_trees.proofs.Lists.{take_at}

pub loop-tree-init : goal.loop-tree-init
loop-tree-init c = record {
  are = λ t. subst (λ o. IsTold o None) (sym (ap (λ m. fin.get m t) c.new-summaries.ensures ∙ fin.get-empty nat_cmp t)) tt;
  agree = λ t s e. absurd (let no : ◌≡◌ {A = Option LastTold} None (Some s) = sym (ap (λ m. fin.get m t) c.new-summaries.ensures ∙ fin.get-empty nat_cmp t) ∙ e in cc);
}

pub loop-tree-preserved : goal.loop-tree-preserved
loop-tree-preserved c =
    let old = c.loop-tree.summaries in
    let new = c.put.new.self in
    let t = c.tree-item.result in
    let puts : (u : ℕ) → fin.get new u ≡ cond (eqb t u) (Some c.empty.result) (fin.get old u) = λ u. ap (λ m. fin.get m u) c.in_ok-put.ensures.ok ∙ put_at old t c.empty.result u in
    record {
      are = subst (λ ts. AreOf (fin.get new) (empty_forest ts)) (sym (take_at c.args.trees.now c.loop-tree.tree-index t (record { low = c.loop-tree-test.true; item = c.tree-item.is })))
          (told_empty (fin.get old) (fin.get new) _ t c.empty.result c.loop-tree.invariant.are c.empty.ensures.of puts);
      agree = agree_put old new t c.empty.result c.loop-tree.invariant.agree c.empty.ensures.agrees puts;
    }
