-- What a closed hub and its desks leave of the workers' calls.
use Rattle.std.specs.Prelude.{ℕ, ◌≡◌, ◌<◌, not, List, [], ◌∷◌, ◌++◌, map, take, filter, filter_map, slice_get, Option, Some}
use Rattle.std.specs.Option.{IsSomeAnd}
use Rattle.ax_tree.specs.declared.packet.HEntry.{HEntry}
use Rattle.ax_tree.specs.declared.packet.HEntry.TheVariants as entries
use Rattle.ax_ask.specs.declared.op.BrowserOp.TheVariants as ops
use Rattle.ax_ask.specs.declared.query.Query.{Query}
use Rattle.ax_ask.specs.declared.query.TimedQuery.{TimedQuery}
use Rattle.ax_ask.specs.declared.line.Line.{Line}
use Rattle.ax_ask.specs.Calls.{BrowserCall, Receive, Do}
use Rattle.ax_workers.specs.Browser.{Called, calls_of, is_delivery, IsServedToEnd}
use Rattle.ax_workers.specs.Reader.{AreFirstAsked}
use Rattle.ax_run_rules.specs.Scripts.{Script}
use Rattle.ax_run_rules.specs.Taken.{Closed, ClosedFrame}
use Rattle.ax_order_laws.specs.Parts.{list_at, frame_in}
use Rattle.ax_order_laws.specs.Told.{entry_line}
use Rattle.ax_order_laws.specs.Workers.{delivered, receipts_in, Worked}
use Rattle.ax_fair_laws.specs.Laws.{delivered_by}

-- the call that added an entry
abbrev pub call_of : HEntry → BrowserCall
call_of (entries.Got p) = Receive
call_of (entries.Asked t) = Do (ops.Ask t)
call_of (entries.Ended t) = Do (ops.Destroy t)
call_of (entries.Probed t u) = Do (ops.Probe t u)

-- the calls that added these entries, each with its line, after the entries `before`
abbrev pub calls_that_added : List HEntry → List HEntry → List Called
calls_that_added before [] = []
calls_that_added before (e ∷ h) = (call_of e, entry_line before e) ∷ calls_that_added (before ++ e ∷ []) h

abbrev pub but_deliveries : List Called → List Called
but_deliveries calls = filter (λ (c : Called). not (is_delivery c.0)) calls

-- the browser's worker served to its end: its calls but for deliveries are those that added the history's entries, and what each journal had delivered is what it delivered to that tree
pub record IsServedBy (s : Script) (c : Closed) (calls : List Called) : Type 0 where
  pub done : ℕ
  pub served : IsServedToEnd s.browser done calls
  pub entries : but_deliveries calls ≡ calls_that_added [] c.history
  pub deliveries : (t : ℕ) (f : ClosedFrame) → frame_in c t ≡ Some f → filter_map delivered f.journal ≡ filter_map (delivered_by t) (calls_of calls)

-- a reader's worker asked the first of these queries, each at the look of its place; the look counted entries, and gave the packets among them; the last look came too early for the first query that is left
pub record AreAskedAt (h : List HEntry) (queries : List TimedQuery) (looks : List ℕ) : Type 0 where
  pub calls : List (Query × Option ℕ × Line)
  pub asked : ℕ
  pub seen_last : Option ℕ
  pub first : AreFirstAsked queries asked calls
  pub seen : map (λ (c : Query × Option ℕ × Line). c.1) calls ≡ map (λ (n : ℕ). Some (receipts_in (take n h))) looks
  pub waits : (q : TimedQuery) → slice_get queries asked ≡ Some q → IsSomeAnd seen_last (λ n. n < q.after)

pub record IsOfWorkers (s : Script) (c : Closed) (looks : List (List ℕ)) : Type 0 where
  pub calls : List Called
  pub browser : IsServedBy s c calls
  pub readers : (k : ℕ) → AreAskedAt c.history (list_at s.readers k) (list_at looks k)

abbrev pub EachHubOfWorkersIsWorked : Type 0
EachHubOfWorkersIsWorked = (s : Script) (c : Closed) (looks : List (List ℕ)) → IsOfWorkers s c looks → Worked s c looks
