use Rattle.std.proofs.Common.{◌≡◌, ◌∙◌, sym, ap, subst}
use Rattle.std.specs.Option.{unwrap_or}
use Rattle.std.specs.FinMap as fin
use Rattle.std.proofs.lemmas.Option.{same_Some}
use Rattle.ax_by_id.proofs.Maps.{put_at}
use Rattle.ax_managers.specs.Managed.{IsToldOf}
use Rattle.ax_managers.specs.Shown.{Agrees, AllAgree}
use Rattle.ax_managers.proofs.Results.{on_ok, on_both}
use Rattle.ax_managers.proofs.Shown.{agree_put, still_told}
use Rattle.ax_managers.proofs.managers.retouch.Goals as goal

pub returns-in-Some-2-clause-ok : goal.returns-in-Some-2-clause-ok
returns-in-Some-2-clause-ok g c = on_ok c.put.result (λ e s n had of h.
    let new = g.T.TreeView.tree c.args.tree.now in
    let same : c.in-Some.summary.now ≡ s = same_Some c.in-Some.summary.now s (c.in-Some.ensures ∙ had) in
    record {
      told = c.in-Some-2.summary;
      of = subst (λ o. IsToldOf new (unwrap_or o c.in-Some.summary.now)) c.in-Some-2.is (c.in_ok-summary.ensures.of n (subst (IsToldOf n) (sym same) of) h);
      puts = λ u. ap (λ m. fin.get m u) e ∙ put_at c.args.trees.now c.args.t c.in-Some-2.summary u;
    }) c.put.ensures.ok

pub returns-in-Some-2-clause-agree : goal.returns-in-Some-2-clause-agree
returns-in-Some-2-clause-agree g c a =
    on_both c.put.result
    (λ e. agree_put c.args.trees.now c.put.new.self c.args.t c.in-Some-2.summary a (subst (λ o. Agrees (unwrap_or o c.in-Some.summary.now)) c.in-Some-2.is c.in_ok-summary.ensures.agrees)
    (λ u. ap (λ m. fin.get m u) e ∙ put_at c.args.trees.now c.args.t c.in-Some-2.summary u))
    (λ e. subst AllAgree (sym e) a) c.put.ensures.ok c.put.ensures.err

pub returns-in-None-clause-ok : goal.returns-in-None-clause-ok
returns-in-None-clause-ok g c s n had of h =
    let new = g.T.TreeView.tree c.args.tree.now in
    let same : c.in-Some.summary.now ≡ s = same_Some c.in-Some.summary.now s (c.in-Some.ensures ∙ had) in
    record {
      told = s;
      of = subst (IsToldOf new) same (subst (λ o. IsToldOf new (unwrap_or o c.in-Some.summary.now)) c.in-None.is (c.in_ok-summary.ensures.of n (subst (IsToldOf n) (sym same) of) h));
      puts = still_told (fin.get c.args.trees.now) c.args.t s had;
    }
