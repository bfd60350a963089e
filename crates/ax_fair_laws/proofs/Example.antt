-- The calls of workers that leave the parts of a hub whose only packet of one frame is stale: all premises hold, computed.
use Rattle.std.proofs.Common.{◌≡◌, ℕ, zero, suc, ◌==◌, List, [], ◌∷◌, ◌++◌, take, drop, filter_map, Option, Some, None, refl, sym, ◌∙◌, subst, arith}
use Rattle.std.proofs.lemmas.Bool.{eqb-true}
use Rattle.ax_trees.proofs.Trees.{by_go}
use Rattle.ax_ask.specs.declared.query.Query.{Query}
use Rattle.ax_ask.specs.declared.query.Query.TheVariants as queries
use Rattle.ax_ask.specs.declared.line.Line.{Line}
use Rattle.ax_ask.specs.declared.line.Line.TheVariants as lines
use Rattle.ax_ask.specs.Calls.{Deliver}
use Rattle.ax_workers.specs.Browser.{Called, calls_of, IsServedToEnd}
use Rattle.ax_run_rules.specs.Taken.{ClosedFrame}
use Rattle.ax_run_rules.proofs.Computing.{computing}
use Rattle.ax_run_rules.proofs.ScriptWords.{asked}
use Rattle.ax_order_laws.specs.Parts.{list_at, frame_in}
use Rattle.ax_order_laws.specs.Told.{query_line}
use Rattle.ax_order_laws.specs.Workers.{delivered, Worked}
use Rattle.ax_order_laws.proofs.Example.{script, parts, looks, no_other}
use Rattle.ax_fair_laws.specs.Laws.{delivered_by}
use Rattle.ax_fair_laws.specs.Hubs.{calls_that_added, IsServedBy, AreAskedAt, IsOfWorkers}
use Rattle.ax_fair_laws.proofs.Hubs.{is_worked}

-- the history's calls, and the delivery after the asking
abbrev calls : List Called
calls =
    let added : List Called = calls_that_added [] parts.history in
    take 2 added ++ (Deliver 1 1, lines.Delivered 1 (record { 0 = 1 })) ∷ drop 2 added

served : IsServedToEnd script.browser 1 calls
unfolding computing
served = record {
  served = record { in_order = record { rest = []; goes_on = refl }; in_time = refl; delivered = record { rest = []; goes_on = refl } };
  count = refl;
  all_delivered = refl;
  none_due = refl;
}

abbrev Delivers : ℕ → Option ClosedFrame → Type 0
Delivers t None = Unit {0}
Delivers t (Some f) = filter_map delivered f.journal ≡ filter_map (delivered_by t) (calls_of calls)

first_delivers : Delivers 1 (frame_in parts 1)
unfolding computing
first_delivers = refl

deliveries : (t : ℕ) (f : ClosedFrame) → frame_in parts t ≡ Some f → Delivers t (Some f)
deliveries t f there =
    by_go (1 == t)
    (λ e. subst (λ (u : ℕ). Delivers u (Some f)) (eqb-true 1 t e) (subst (Delivers 1) (subst (λ (u : ℕ). frame_in parts u ≡ Some f) (sym (eqb-true 1 t e)) there) first_delivers))
    (λ e. absurd (let bad : None ≡ Some f = sym (no_other t e) ∙ there in cc bad))

browser : IsServedBy script parts calls
unfolding computing
browser = record { done = 1; served = served; entries = refl; deliveries = deliveries }

-- three looks, after no packet, one and three
abbrev reader_calls : List (Query × Option ℕ × Line)
reader_calls =
    (queries.Focus, Some 0, query_line parts 0 (asked 0 queries.Focus) 0) ∷
    (queries.Focus, Some 1, query_line parts 0 (asked 1 queries.Focus) 2) ∷
    (queries.Focus, Some 3, query_line parts 0 (asked 3 queries.Focus) 4) ∷
    []

readers : (k : ℕ) → AreAskedAt parts.history (list_at script.readers k) (list_at looks k)
unfolding computing
readers zero = record {
  calls = reader_calls;
  asked = 3;
  seen_last = Some 3;
  first = ((refl, omega arith, (refl, omega arith, (refl, omega arith, tt))), refl);
  seen = refl;
  waits = λ q there. absurd (cc there);
}
readers (suc k) = record { calls = []; asked = 0; seen_last = None; first = (tt, refl); seen = refl; waits = λ q there. absurd (cc there) }

of_workers : IsOfWorkers script parts looks
of_workers = record { calls = calls; browser = browser; readers = readers }

worked : Worked script parts looks
worked = is_worked script parts looks of_workers
