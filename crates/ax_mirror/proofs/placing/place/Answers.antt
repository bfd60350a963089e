use Rattle.std.proofs.Common.{◌∙◌, ap, sym, subst, nat_eq, ℕ, List, [], arith}
use Rattle.std.specs.Prelude.{is_some}
use Rattle.std.specs.HashSet as bag
use Rattle.ax_trees.specs.Lists.{first_that}
use Rattle.ax_tree.specs.UpdateRule.{first_repeated}
use Rattle.ax_mirror.specs.Steps.{is_elsewhere, Places}
use Rattle.ax_mirror.proofs.Looks.{is_some-copied}
use Rattle.ax_mirror.proofs.Placings.{placed_start, placed_old, placed_bad, placed_new, placed_end, placed_none}
use Rattle.ax_mirror.proofs.Tracks.{track_start, track_then, costs_then}
use Rattle.ax_trees.specs.Lists.{contains}
use Rattle.ax_mirror.specs.Accounts.{Accounts, Reaches, no_id, is_id}
use Rattle.ax_mirror.proofs.Reached.{grows, on_err, reach_then, reach_wide}
use Rattle.ax_mirror.proofs.Accounts.{acc_start, acc_then, acc_weaken, is_in, one_in}
use Rattle.ax_mirror.proofs.placing.place.Goals as goal

pub loop-id-init : goal.loop-id-init
loop-id-init g c = record { placed = placed_start _ _ _ _ _; tracked = track_start _; accounts = acc_start _ no_id _; cost = omega arith }

pub loop-id-preserved-then-contains : goal.loop-id-preserved-then-contains
loop-id-preserved-then-contains g c = record {
  placed = placed_old _ _ _ _ _ _ c.loop-id.id-index c.id-item.result c.loop-id.invariant.placed (record { low = c.loop-id-test.true; item = c.id-item.is }) (sym c.contains.ensures ∙ c.if-contains.true);
  tracked = c.loop-id.invariant.tracked;
  accounts = c.loop-id.invariant.accounts;
  cost = c.loop-id.invariant.cost;
}

pub returns-then-is_some-clause-first : goal.returns-then-is_some-clause-first
returns-then-is_some-clause-first g c =
    placed_bad _ _ _ _ _ _ c.loop-id.id-index c.id-item.result c.loop-id.invariant.placed (record { low = c.loop-id-test.true; item = c.id-item.is })
    (ap (first_repeated []) c.as_slice-id-items.ensures ∙ c.requires) (sym c.contains.ensures ∙ c.if-contains.false)
    (ap is_some (sym c.read.ensures) ∙ is_some-copied c.read.result ∙ sym c.is_some.ensures ∙ c.if-is_some.true)
    ∙ ap (first_that (is_elsewhere c.args.draft.now.nodes (bag.contains nat_eq c.args.old.now))) c.as_slice-id-items.ensures

pub returns-then-is_some-clause-tracked : goal.returns-then-is_some-clause-tracked
returns-then-is_some-clause-tracked g c = c.loop-id.invariant.tracked

pub returns-then-is_some-clause-cost : goal.returns-then-is_some-clause-cost
returns-then-is_some-clause-cost g c = c.loop-id.invariant.cost

pub loop-id-preserved : goal.loop-id-preserved
loop-id-preserved g c = record {
  placed = placed_new _ c.loop-id.draft _ _ _ _ _ c.loop-id.id-index c.id-item.result c.loop-id.invariant.placed (record { low = c.loop-id-test.true; item = c.id-item.is })
      (ap (first_repeated []) c.as_slice-id-items.ensures ∙ c.requires) (sym c.contains.ensures ∙ c.if-contains.false)
      (ap is_some (sym c.read.ensures) ∙ is_some-copied c.read.result ∙ sym c.is_some.ensures ∙ c.if-is_some.false)
      c.in_ok-put_pending.ensures.puts;
  tracked = track_then _ c.loop-id.draft _ c.loop-id.invariant.tracked c.in_ok-put_pending.ensures.tracked;
  accounts = acc_then _ no_id _ c.loop-id.draft _ c.loop-id.invariant.accounts
      (acc_weaken (is_id c.id-item.result) no_id _ no_id c.loop-id.draft _ (λ z h. one_in _ c.id-item.result z (is_in _ c.loop-id.id-index c.id-item.result (record { low = c.loop-id-test.true; item = c.id-item.is })) h) (λ z h. h) c.in_ok-put_pending.ensures.accounts);
  cost = costs_then _ _ _ _ _ _ c.loop-id.invariant.cost c.in_ok-put_pending.ensures.cost;
}

pub returns-clause-first : goal.returns-clause-first
returns-clause-first g c =
    placed_none _ _ _ _ _ _ c.loop-id.id-index c.loop-id.invariant.placed c.loop-id-test.false
    ∙ ap (first_that (is_elsewhere c.args.draft.now.nodes (bag.contains nat_eq c.args.old.now))) c.as_slice-id-items.ensures

pub returns-clause-placed : goal.returns-clause-placed
returns-clause-placed g c = λ _. subst (λ (js : List ℕ). Places c.args.draft.now c.loop-id.draft c.args.parent c.args.level (bag.contains nat_eq c.args.old.now) js) c.as_slice-id-items.ensures
    (placed_end _ _ _ _ _ _ c.loop-id.id-index c.loop-id.invariant.placed c.loop-id-test.false)

pub returns-clause-tracked : goal.returns-clause-tracked
returns-clause-tracked g c = c.loop-id.invariant.tracked

pub returns-clause-cost : goal.returns-clause-cost
returns-clause-cost g c = c.loop-id.invariant.cost

pub returns-then-is_some-clause-accounts : goal.returns-then-is_some-clause-accounts
returns-then-is_some-clause-accounts g c = subst (λ (js : List ℕ). Accounts (contains js) no_id c.args.draft.now c.loop-id.draft) c.as_slice-id-items.ensures c.loop-id.invariant.accounts

pub returns-clause-accounts : goal.returns-clause-accounts
returns-clause-accounts g c = subst (λ (js : List ℕ). Accounts (contains js) no_id c.args.draft.now c.loop-id.draft) c.as_slice-id-items.ensures c.loop-id.invariant.accounts

pub returns-in_err-put_pending-clause-reach : goal.returns-in_err-put_pending-clause-reach
returns-in_err-put_pending-clause-reach g c = on_err _
    (subst (λ (js : List ℕ). Reaches (contains js) c.args.draft.now c.put_pending.new.draft c.args.steps.now c.put_pending.new.steps) c.as_slice-id-items.ensures
    (reach_then _ _ c.loop-id.draft _ _ _ _ (grows _ no_id _ c.loop-id.draft c.loop-id.invariant.accounts) c.loop-id.invariant.cost
    (reach_wide (is_id c.id-item.result) _ c.loop-id.draft _ _ _ (λ z h. one_in _ c.id-item.result z (is_in _ c.loop-id.id-index c.id-item.result (record { low = c.loop-id-test.true; item = c.id-item.is })) h) c.in_err-put_pending.ensures.reach)))
