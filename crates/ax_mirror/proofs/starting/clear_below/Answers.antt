use Rattle.std.proofs.Common.{◌≡◌, ◌∙◌, ◌++◌, ap, sym, subst, cond, ℕ, List, reverse, None}
use Rattle.std.specs.Prelude.{Option}
use Rattle.std.specs.Option.{option_copied}
use Rattle.std.proofs.lemmas.List.{reverse-reverse}
use Rattle.std.specs.FinMap as map
use Rattle.ax_trees.specs.Trees.{bare, has, roots}
use Rattle.ax_trees.specs.Nodes.{below}
use Rattle.ax_trees.specs.Changes.{with_node}
use Rattle.ax_mirror.specs.declared.entries.Entry.{Entry}
use Rattle.ax_mirror.specs.Placed.{Nodes}
use Rattle.ax_mirror.specs.Kept.{KeepsDraft}
use Rattle.ax_mirror.proofs.Tracks.{track_then}
use Rattle.ax_mirror.proofs.Begins.{below_is, tells_below, keeps_cleared, keeps_absent, made_put}
use Rattle.std.proofs.lemmas.Bool.{false≢true}
use Rattle.ax_mirror.specs.Accounts.{no_id, is_id}
use Rattle.ax_mirror.proofs.Accounts.{acc_start, acc_then, acc_weaken}
use Rattle.std.proofs.Common.{refl}
use Rattle.ax_mirror.proofs.Reached.{grow_wide, grows, on_err, reach_here, reach_none, reach_then}
use Rattle.ax_mirror.proofs.starting.clear_below.Goals as goal

pub returns-in_default-clause-ok : goal.returns-in_default-clause-ok
returns-in_default-clause-ok g c = λ w k. keeps_absent c.args.draft.now.nodes c.args.id c.args.draft.now.root w (ap option_copied (sym c.in_default.is) ∙ c.read.ensures) k

pub returns-clause-ok : goal.returns-clause-ok
returns-clause-ok g c = λ w k.
    let m : Nodes = c.args.draft.now.nodes in
    let x : Entry = c.in-Some.entry.now in
    let tops : roots (below w c.args.id) ≡ reverse c.push_reversed.new.self =
    sym (ap reverse (c.in_ok-push_reversed.ensures.ok ∙ ap (λ (js : List ℕ). js ++ reverse x.node.children) c.new-gone.ensures) ∙ reverse-reverse x.node.children ∙ below_is m c.take_out.new.draft.nodes c.put_pending.new.draft.nodes c.args.id x c.args.draft.now.root w k c.in-Some.ensures) in
    let out : (y : ℕ) → map.get c.take_out.new.draft.nodes y ≡ cond (has (below w c.args.id) y) None (map.get m y) =
    c.in_ok-take_out.ensures.out.out (below w c.args.id) (tells_below m c.take_out.new.draft.nodes c.put_pending.new.draft.nodes c.args.id x c.args.draft.now.root w k c.in-Some.ensures) tops in
    subst (λ (r : Option ℕ). KeepsDraft c.put_pending.new.draft.nodes r (with_node w c.args.id None bare)) (sym (c.in_ok-put_pending.ensures.puts.root ∙ c.in_ok-take_out.ensures.out.root))
    (keeps_cleared m c.take_out.new.draft.nodes c.put_pending.new.draft.nodes c.args.id x c.args.draft.now.root w k c.in-Some.ensures out c.in_ok-put_pending.ensures.puts.nodes)

pub returns-clause-made : goal.returns-clause-made
returns-clause-made g c = made_put _ c.take_out.new.draft _ _ c.args.id _ _ c.in_ok-take_out.ensures.out c.in_ok-put_pending.ensures.puts

pub returns-clause-tracked : goal.returns-clause-tracked
returns-clause-tracked g c = track_then _ c.take_out.new.draft _ c.in_ok-take_out.ensures.tracked c.in_ok-put_pending.ensures.tracked

pub returns-in_default-clause-accounts : goal.returns-in_default-clause-accounts
returns-in_default-clause-accounts g c = acc_start _ _ _

pub returns-clause-accounts : goal.returns-clause-accounts
returns-clause-accounts g c =
    acc_then (is_id c.args.id) no_id _ c.take_out.new.draft _
    (acc_weaken no_id no_id (is_id c.args.id) no_id c.args.draft.now c.take_out.new.draft (λ z h. absurd (false≢true h)) (λ z h. h) c.in_ok-take_out.ensures.accounts) c.in_ok-put_pending.ensures.accounts

pub returns-in_err-push_reversed-clause-reach : goal.returns-in_err-push_reversed-clause-reach
returns-in_err-push_reversed-clause-reach g c = on_err _
    (reach_here _ _ _ _ refl)

pub returns-in_err-take_out-clause-reach : goal.returns-in_err-take_out-clause-reach
returns-in_err-take_out-clause-reach g c = on_err _
    (reach_none _ _ _ _ _ c.in_err-take_out.ensures.reach)

pub returns-in_err-put_pending-clause-reach : goal.returns-in_err-put_pending-clause-reach
returns-in_err-put_pending-clause-reach g c = on_err _
    (reach_then _ _ c.take_out.new.draft _ _ _ _
    (grow_wide no_id (is_id c.args.id) c.args.draft.now c.take_out.new.draft (λ z h. absurd (false≢true h)) (grows no_id no_id c.args.draft.now c.take_out.new.draft c.in_ok-take_out.ensures.accounts))
    c.in_ok-take_out.ensures.cost c.in_err-put_pending.ensures.reach)
