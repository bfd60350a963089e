use Rattle.std.proofs.Common.{◌∙◌, ap, ℕ, refl, true, Option}
use Rattle.std.specs.FinMap as map
use Rattle.ax_node.specs.declared.node.NodeData.{NodeData}
use Rattle.ax_mirror.specs.Placed.{Nodes}
use Rattle.ax_mirror.specs.declared.entries.Entry.{Entry}
use Rattle.ax_mirror.proofs.Looks.{get_insert, at_other}
use Rattle.ax_mirror.proofs.Placings.{pushed_here, pushed_more}
use Rattle.ax_mirror.proofs.Tracks.{track_touch}
use Rattle.std.proofs.Common.{inl}
use Rattle.ax_mirror.specs.Accounts.{no_id, is_id}
use Rattle.ax_mirror.proofs.Accounts.{acc_put, or_right, self_is}
use Rattle.ax_mirror.proofs.Reached.{on_err, reach_here, reach_one}
use Rattle.ax_mirror.proofs.placing.put_pending.Goals as goal

abbrev pending_at : Option ℕ → ℕ → NodeData → Entry
pending_at above level n = record { above = above; level = level; pending = true; node = n }

pub returns-clause-puts : goal.returns-clause-puts
returns-clause-puts g c = record {
  root = refl;
  nodes = c.in_ok-put.ensures.ok ∙ ap (λ (n : NodeData). map.insert c.args.draft.now.nodes c.args.id (pending_at c.args.above c.args.level n)) c.blank.ensures;
  made = pushed_here _ _ c.args.id c.in_ok-push.ensures.ok;
  grows = λ y h. pushed_more _ _ c.args.id y c.in_ok-push.ensures.ok h;
}

pub returns-clause-tracked : goal.returns-clause-tracked
returns-clause-tracked g c =
    track_touch c.args.draft.now _ c.args.id (λ z h. at_other _ _ _ _ h (ap (λ (m : Nodes). map.get m z) c.in_ok-put.ensures.ok ∙ get_insert c.args.draft.now.nodes c.args.id _ z)) c.in_ok-put.ensures.touched

pub returns-clause-accounts : goal.returns-clause-accounts
returns-clause-accounts g c =
    acc_put (is_id c.args.id) no_id c.args.draft.now _ c.args.id _ (λ z. ap (λ (m : Nodes). map.get m z) c.in_ok-put.ensures.ok ∙ get_insert c.args.draft.now.nodes c.args.id _ z) c.in_ok-put.ensures.touched (self_is c.args.id) (inl refl)

pub returns-in_err-push-clause-reach : goal.returns-in_err-push-clause-reach
returns-in_err-push-clause-reach g c = on_err _
    (reach_here _ _ _ _ refl)

pub returns-in_err-put-clause-reach : goal.returns-in_err-put-clause-reach
returns-in_err-put-clause-reach g c = on_err _
    (reach_one (is_id c.args.id) c.args.draft.now _ c.args.id _ _ c.in_err-put.ensures.at_most (or_right _ _ (self_is c.args.id)) c.in_err-put.ensures.cost)
