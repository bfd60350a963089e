use Rattle.std.proofs.Common.{◌≡◌, ◌≤◌, ◌∙◌, ap, sym, subst, refl, ℕ, None, length, arith}
use Rattle.std.specs.Prelude.{Option}
use Rattle.std.specs.FinMap as map
use Rattle.ax_trees.specs.Trees.{bare, tree}
use Rattle.ax_mirror.specs.Placed.{Nodes, pending_entry}
use Rattle.ax_mirror.specs.Kept.{KeepsDraft}
use Rattle.ax_mirror.proofs.Begins.{keeps_lone, made_lone, track_lone}
use Rattle.ax_mirror.specs.Accounts.{no_id, is_id}
use Rattle.ax_mirror.proofs.Accounts.{acc_then, acc_forget}
use Rattle.ax_mirror.proofs.Reached.{grows, on_err, reach_none, reach_still, reach_then}
use Rattle.ax_mirror.proofs.starting.root_anew.Goals as goal

pub returns-clause-ok : goal.returns-clause-ok
returns-clause-ok g c = λ w k.
    let n : c.put_pending.new.draft.nodes ≡ map.insert map.empty c.args.root (pending_entry None 1 c.args.root) =
    c.in_ok-put_pending.ensures.puts.nodes ∙ ap (λ (m : Nodes). map.insert m c.args.root (pending_entry None 1 c.args.root)) c.new.ensures in
    subst (λ (o : Option ℕ). KeepsDraft c.put_pending.new.draft.nodes o (tree c.args.root None bare bare)) (sym c.in_ok-put_pending.ensures.puts.root) (keeps_lone c.put_pending.new.draft.nodes c.args.root n)

pub returns-clause-made : goal.returns-clause-made
returns-clause-made g c = made_lone c.args.draft.now _ _ c.args.root c.new.ensures c.in_ok-put_pending.ensures.puts c.in_ok-touch_all.ensures.all.made

pub returns-clause-tracked : goal.returns-clause-tracked
returns-clause-tracked g c = λ w k. track_lone c.args.draft.now c.touch_all.new.draft _ _ c.args.root w c.in_ok-touch_all.ensures.all refl c.new.ensures c.in_ok-put_pending.ensures.tracked k

pub returns-clause-accounts : goal.returns-clause-accounts
returns-clause-accounts g c =
    acc_then (is_id c.args.root) no_id _ _ _ (acc_forget (is_id c.args.root) no_id c.args.draft.now c.touch_all.new.draft _ c.in_ok-touch_all.ensures.all refl c.new.ensures) c.in_ok-put_pending.ensures.accounts

pub returns-in_err-touch_all-clause-reach : goal.returns-in_err-touch_all-clause-reach
returns-in_err-touch_all-clause-reach g c = on_err _
    (reach_still _ _ _ _ (reach_none _ _ _ _ _ c.in_err-touch_all.ensures.reach))

pub returns-in_err-put_pending-clause-reach : goal.returns-in_err-put_pending-clause-reach
returns-in_err-put_pending-clause-reach g c = on_err _
    (let longer : length c.args.draft.now.touched ≤ length c.touch_all.new.draft.touched = c.in_ok-touch_all.ensures.all.longer in
    reach_then _ _ _ _ _ _ _ (grows (is_id c.args.root) no_id _ _ (acc_forget (is_id c.args.root) no_id c.args.draft.now c.touch_all.new.draft _ c.in_ok-touch_all.ensures.all refl c.new.ensures))
    (omega (arith, longer)) c.in_err-put_pending.ensures.reach)
