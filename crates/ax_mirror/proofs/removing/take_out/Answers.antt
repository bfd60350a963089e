use Rattle.std.proofs.Common.{◌≡◌, ◌∙◌, ap, sym, ℕ, refl, inr, arith, cond, eqb, ◌<◌, subst, None}
use Rattle.std.specs.FinMap as map
use Rattle.ax_mirror.specs.Placed.{Nodes}
use Rattle.ax_mirror.proofs.Looks.{get_remove, len_falls, at_other}
use Rattle.ax_mirror.proofs.Walks.{left_begins, left_next, left_ends, less_next}
use Rattle.ax_mirror.proofs.Tracks.{track_start, track_then, track_touch, costs_then}
use Rattle.ax_mirror.specs.Accounts.{no_id}
use Rattle.std.proofs.Common.{true}
use Rattle.std.specs.Prelude.{is_some}
use Rattle.ax_mirror.proofs.Accounts.{acc_start, acc_then, acc_take, or_left}
use Rattle.ax_mirror.proofs.Reached.{grows, on_err, reach_done, reach_one, reach_then}
use Rattle.ax_mirror.proofs.removing.take_out.Goals as goal

pub loop-id-smaller : goal.loop-id-smaller
loop-id-smaller g c =
    subst (λ (m : Nodes). map.len m < map.len c.loop-id.draft.nodes) (sym c.in_ok-take.ensures.ok) (len_falls c.loop-id.draft.nodes c.in-Some.id c.in-Some-read.entry.now c.in-Some-read.ensures)

pub loop-id-init : goal.loop-id-init
loop-id-init g c = record { root = refl; made = refl; less = λ z. inr refl; left = λ k t h. left_begins k _ _ t h; tracked = track_start _; accounts = acc_start no_id no_id _; cost = omega arith }

pub loop-id-preserved : goal.loop-id-preserved
loop-id-preserved g c =
    let gone : (z : ℕ) → map.get c.take.new.nodes z ≡ cond (eqb c.in-Some.id z) None (map.get c.loop-id.draft.nodes z) =
    (λ z. ap (λ (m : Nodes). map.get m z) c.in_ok-take.ensures.ok ∙ get_remove c.loop-id.draft.nodes c.in-Some.id z) in
    record {
      root = c.loop-id.invariant.root;
      made = c.loop-id.invariant.made;
      less = λ z. less_next _ _ _ (eqb c.in-Some.id z) (c.loop-id.invariant.less z) (gone z);
      left = λ k t h.
          left_next k _ _ _ _ _ _ c.in-Some.id c.in-Some-read.entry.now (c.loop-id.invariant.left k t h) c.in-Some.ensures c.in-Some-read.ensures gone c.in_ok-push_reversed.ensures.ok;
      tracked = track_then _ c.loop-id.draft _ c.loop-id.invariant.tracked (track_touch c.loop-id.draft _ c.in-Some.id (λ z h. at_other _ _ _ _ h (gone z)) c.in_ok-take.ensures.touched);
      accounts = acc_then no_id no_id _ c.loop-id.draft _ c.loop-id.invariant.accounts (acc_take c.loop-id.draft _ c.in-Some.id c.in-Some-read.entry.now c.in-Some-read.ensures gone c.in_ok-take.ensures.touched);
      cost = costs_then _ _ _ _ _ _ c.loop-id.invariant.cost c.in_ok-take.ensures.cost;
    }

pub returns-clause-out : goal.returns-clause-out
returns-clause-out g c = record {
  root = c.loop-id.invariant.root;
  made = c.loop-id.invariant.made;
  less = c.loop-id.invariant.less;
  out = λ k t h. left_ends k _ _ _ (c.loop-id.invariant.left k t h) c.in_default.ensures.0;
}

pub returns-clause-accounts : goal.returns-clause-accounts
returns-clause-accounts g c = c.loop-id.invariant.accounts

pub returns-in_default-read-clause-reach : goal.returns-in_default-read-clause-reach
returns-in_default-read-clause-reach g c = reach_done _ _ c.loop-id.draft _ _ _ refl (grows no_id no_id _ c.loop-id.draft c.loop-id.invariant.accounts) c.loop-id.invariant.cost

pub returns-in_err-push_reversed-clause-reach : goal.returns-in_err-push_reversed-clause-reach
returns-in_err-push_reversed-clause-reach g c = on_err _
    (reach_done _ _ c.loop-id.draft _ _ _ refl (grows no_id no_id _ c.loop-id.draft c.loop-id.invariant.accounts) c.loop-id.invariant.cost)

pub returns-in_err-take-clause-reach : goal.returns-in_err-take-clause-reach
returns-in_err-take-clause-reach g c = on_err _
    (let there : is_some (map.get c.loop-id.draft.nodes c.in-Some.id) ≡ true = ap is_some (sym c.in-Some-read.ensures) in
    reach_then _ _ c.loop-id.draft _ _ _ _ (grows no_id no_id _ c.loop-id.draft c.loop-id.invariant.accounts) c.loop-id.invariant.cost
    (reach_one no_id c.loop-id.draft _ c.in-Some.id _ _ c.in_err-take.ensures.at_most (or_left _ _ there) c.in_err-take.ensures.cost))
