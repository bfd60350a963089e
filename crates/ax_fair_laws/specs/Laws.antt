-- What the clauses of the workers give of a fair order.
use Rattle.std.specs.Prelude.{ℕ, ◌≡◌, ◌≤◌, ◌<◌, Bool, true, false, not, ◌==◌, ◌&&◌, if◌then◌else◌, List, [], ◌∷◌, ◌++◌, length, map, filter, filter_map, slice_get, Option, Some, None}
use Rattle.std.specs.Option.{IsSomeAnd}
use Rattle.ax_ask.specs.declared.op.TimedOp.{TimedOp}
use Rattle.ax_ask.specs.declared.op.Item.{Item}
use Rattle.ax_ask.specs.declared.query.Query.{Query}
use Rattle.ax_ask.specs.declared.query.TimedQuery.{TimedQuery}
use Rattle.ax_ask.specs.declared.line.Line.{Line}
use Rattle.ax_ask.specs.Calls.{BrowserCall, Receive, Do, Deliver}
use Rattle.ax_workers.specs.Browser.{Called, calls_of, is_delivery, is_receipt as is_receipt_call, token_given, IsServedToEnd}
use Rattle.ax_workers.specs.Reader.{AreFirstAsked}
use Rattle.ax_run_rules.specs.Scripts.{Script}
use Rattle.ax_run_rules.specs.Taken.{Closed, order_taken}
use Rattle.ax_run_rules.specs.Fair.{is_receipt, is_due, may_follow, each_follows, ready_count}
use Rattle.ax_order_laws.specs.Told.{is_entry}
use Rattle.ax_order_laws.specs.Workers.{is_got}

-- ---- an order and the calls of a browser's worker

-- whether each is a receipt, of the items and of the calls that add an entry
abbrev pub receipts_among : List Item → List Bool
receipts_among o = map is_receipt (filter is_entry o)

abbrev pub receipts_called : List Called → List Bool
receipts_called calls = map (λ (c : Called). is_receipt_call c.0) (filter (λ (c : Called). not (is_delivery c.0)) calls)

-- each receipt and each browser's item may follow what stands before it
abbrev pub entries_follow : Script → List Item → List Item → Bool
entries_follow s before [] = true
entries_follow s before (i ∷ o) = (if is_entry i then may_follow s before i else true) && entries_follow s (before ++ i ∷ []) o

-- each query may follow what stands before it
abbrev pub queries_follow : Script → List Item → List Item → Bool
queries_follow s before [] = true
queries_follow s before (i ∷ o) = (if is_entry i then true else may_follow s before i) && queries_follow s (before ++ i ∷ []) o

abbrev pub EachOrderIsInTimeByParts : Type 0
EachOrderIsInTimeByParts = (s : Script) (o : List Item) → entries_follow s [] o ≡ true → queries_follow s [] o ≡ true → each_follows s [] o ≡ true

abbrev pub EachServedOrderIsInTime : Type 0
EachServedOrderIsInTime =
    (s : Script) (o : List Item) (done : ℕ) (calls : List Called) → IsServedToEnd s.browser done calls → receipts_called calls ≡ receipts_among o → entries_follow s [] o ≡ true

abbrev pub NoneIsDueAtItsEnd : Type 0
NoneIsDueAtItsEnd =
    (s : Script) (o : List Item) (done : ℕ) (calls : List Called) → IsServedToEnd s.browser done calls → receipts_called calls ≡ receipts_among o → is_due s o ≡ false

abbrev pub EachTakenOrderHasItsReceipts : Type 0
EachTakenOrderHasItsReceipts = (c : Closed) (looks : List (List ℕ)) → receipts_among (order_taken c looks) ≡ map is_got c.history

-- ---- tokens

-- the token that the call delivers to this tree, and the token that it gave for the tree
abbrev pub delivered_by : ℕ → BrowserCall → Option ℕ
delivered_by t Receive = None
delivered_by t (Do op) = None
delivered_by t (Deliver u n) = if u == t then Some n else None

abbrev pub for_tree : ℕ → Option (ℕ × ℕ) → Option ℕ
for_tree t None = None
for_tree t (Some given) = if given.0 == t then Some given.1 else None

abbrev pub given_by : ℕ → Called → Option ℕ
given_by t (Receive, line) = None
given_by t (Do op, line) = for_tree t (token_given op line)
given_by t (Deliver u n, line) = None

abbrev pub EachTokenIsDelivered : Type 0
EachTokenIsDelivered =
    (ops : List TimedOp) (done t : ℕ) (calls : List Called) → IsServedToEnd ops done calls → filter_map (delivered_by t) (calls_of calls) ≡ filter_map (given_by t) calls

-- ---- readers

-- with a query left, the last look gave less than its number
abbrev pub EachReadyQueryIsAsked : Type 0
EachReadyQueryIsAsked =
    (queries : List TimedQuery) (asked : ℕ) (seen : Option ℕ) → asked ≤ length queries → ((q : TimedQuery) → slice_get queries asked ≡ Some q → IsSomeAnd seen (λ n. n < q.after)) → ready_count queries ≤ asked

abbrev pub EachQueryIsInTime : Type 0
EachQueryIsInTime =
    (queries : List TimedQuery) (asked : ℕ) (calls : List (Query × Option ℕ × Line)) → AreFirstAsked queries asked calls
    → (i : ℕ) (c : Query × Option ℕ × Line) (q : TimedQuery) → slice_get calls i ≡ Some c → slice_get queries i ≡ Some q → (c.0 ≡ q.query) × IsSomeAnd c.1 (λ n. q.after ≤ n)
