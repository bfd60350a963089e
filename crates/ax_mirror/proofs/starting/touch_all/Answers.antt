use Rattle.std.proofs.Common.{◌∙◌, ◌++◌, ◌∷◌, ap, sym, subst, refl, ℕ, List, [], arith}
use Rattle.std.specs.Prelude.{Option, option_to_list}
use Rattle.std.proofs.lemmas.Bool.{false≢true}
use Rattle.std.specs.FinMap as map
use Rattle.ax_mirror.specs.Placed.{Nodes}
use Rattle.ax_mirror.specs.Kept.{KeepsDraft}
use Rattle.ax_mirror.proofs.Begins.{unseen_begins, unseen_next, all_seen, none_there, longer_with, grows_with}
use Rattle.ax_mirror.proofs.Accounts.{or_left, only_with}
use Rattle.ax_mirror.proofs.Reached.{on_err, reach_here, reach_only, reach_only_same}
use Rattle.ax_mirror.proofs.starting.touch_all.Goals as goal

pub returns-in_default-clause-all : goal.returns-in_default-clause-all
returns-in_default-clause-all c = record {
  nodes = refl;
  root = refl;
  made = refl;
  grows = λ z h. h;
  longer = omega arith;
  only = λ z h. or_left _ _ h;
  all = λ w k z h. absurd (false≢true (sym (none_there w z (k.tops ∙ ap (λ (o : Option ℕ). option_to_list o) c.in_default.is)) ∙ h));
}

pub loop-round-init : goal.loop-round-init
loop-round-init c = record {
  nodes = refl;
  root = refl;
  made = refl;
  grows = λ z h. h;
  longer = omega arith;
  only = λ z h. or_left _ _ h;
  walk = λ w k. unseen_begins w c.args.draft.now.nodes c.in-Some.root _ _ (subst (λ (o : Option ℕ). KeepsDraft c.args.draft.now.nodes o w) c.in-Some.is k) (c.in_ok-push.ensures.ok ∙ ap (λ (js : List ℕ). js ++ c.in-Some.root ∷ []) c.new-stack.ensures);
}

pub loop-round-preserved : goal.loop-round-preserved
loop-round-preserved c = record {
  nodes = c.loop-round.invariant.nodes;
  root = c.loop-round.invariant.root;
  made = c.loop-round.invariant.made;
  grows = λ z h. grows_with _ _ c.in-Some-pop.id z c.in_ok-add.ensures.ok (c.loop-round.invariant.grows z h);
  longer = longer_with _ _ c.in-Some-pop.id _ c.in_ok-add.ensures.ok c.loop-round.invariant.longer;
  only = only_with c.args.draft.now.nodes c.args.draft.now.touched _ _ c.in-Some-pop.id c.in-Some-read.entry.now c.in_ok-add.ensures.ok (c.in-Some-read.ensures ∙ ap (λ (m : Nodes). map.get m c.in-Some-pop.id) c.loop-round.invariant.nodes) c.loop-round.invariant.only;
  walk = λ w k. unseen_next w c.args.draft.now.nodes _ _ _ _ _ c.in-Some-pop.id c.in-Some-read.entry.now (c.loop-round.invariant.walk w k) c.in-Some-pop.ensures
      (c.in-Some-read.ensures ∙ ap (λ (m : Nodes). map.get m c.in-Some-pop.id) c.loop-round.invariant.nodes) c.in_ok-add.ensures.ok c.in_ok-push_reversed.ensures.ok;
}

pub returns-in_default-pop-clause-all : goal.returns-in_default-pop-clause-all
returns-in_default-pop-clause-all c = record {
  nodes = c.loop-round.invariant.nodes;
  root = c.loop-round.invariant.root;
  made = c.loop-round.invariant.made;
  grows = c.loop-round.invariant.grows;
  longer = c.loop-round.invariant.longer;
  only = c.loop-round.invariant.only;
  all = λ w k z h. all_seen w _ _ _ (c.loop-round.invariant.walk w k) c.in_default-pop.ensures.0 z h;
}

pub returns-in_err-push-clause-reach : goal.returns-in_err-push-clause-reach
returns-in_err-push-clause-reach c = on_err _
    (reach_here _ _ _ _ refl)

pub returns-in_default-read-clause-reach : goal.returns-in_default-read-clause-reach
returns-in_default-read-clause-reach c = reach_only _ _ c.loop-round.invariant.longer c.loop-round.invariant.only

pub returns-in_err-add-clause-reach : goal.returns-in_err-add-clause-reach
returns-in_err-add-clause-reach c = on_err _
    (reach_only_same _ _ c.loop-round.draft.touched c.in_err-add.ensures.err c.loop-round.invariant.longer c.loop-round.invariant.only)

pub returns-in_err-push_reversed-clause-reach : goal.returns-in_err-push_reversed-clause-reach
returns-in_err-push_reversed-clause-reach c = on_err _
    (reach_only _ _ (longer_with _ _ c.in-Some-pop.id _ c.in_ok-add.ensures.ok c.loop-round.invariant.longer)
    (only_with c.args.draft.now.nodes c.args.draft.now.touched _ _ c.in-Some-pop.id c.in-Some-read.entry.now c.in_ok-add.ensures.ok (c.in-Some-read.ensures ∙ ap (λ (m : Nodes). map.get m c.in-Some-pop.id) c.loop-round.invariant.nodes) c.loop-round.invariant.only))

pub returns-clause-reach : goal.returns-clause-reach
returns-clause-reach c = reach_only _ _ c.loop-round.invariant.longer c.loop-round.invariant.only
