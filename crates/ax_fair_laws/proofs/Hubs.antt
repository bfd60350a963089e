-- What the workers' calls give of the history, the deliveries and the looks of a closed hub.
use Rattle.std.proofs.Common.{◌≡◌, ℕ, zero, suc, ◌≤◌, ◌<◌, true, false, List, [], ◌∷◌, ◌++◌, length, map, take, filter_map, slice_get, if◌then◌else◌, Option, Some, None, refl, sym, ap, ◌∙◌, subst, arith}
use Rattle.std.specs.Option.{IsSomeAnd}
use Rattle.std.specs.List.{cons_option}
use Rattle.std.proofs.lemmas.List.{length-map}
use Rattle.ax_base.specs.declared.pass.Token.{Token}
use Rattle.ax_tree.specs.declared.packet.HEntry.{HEntry}
use Rattle.ax_tree.specs.declared.packet.HEntry.TheVariants as entries
use Rattle.ax_ask.specs.declared.op.BrowserOp.TheVariants as ops
use Rattle.ax_ask.specs.declared.query.Query.{Query}
use Rattle.ax_ask.specs.declared.query.TimedQuery.{TimedQuery}
use Rattle.ax_ask.specs.declared.line.Line.{Line}
use Rattle.ax_ask.specs.declared.line.Line.TheVariants as lines
use Rattle.ax_ask.specs.Calls.{Receive, Do, Deliver}
use Rattle.ax_workers.specs.Browser.{Called, is_receipt as is_receipt_call, token_given as token_called}
use Rattle.ax_workers.specs.Reader.{AreAsked}
use Rattle.ax_rules.specs.Histories.{is_gone}
use Rattle.ax_run_rules.specs.Scripts.{Script}
use Rattle.ax_run_rules.specs.Steps.{next_token}
use Rattle.ax_run_rules.specs.Fair.{token_given}
use Rattle.ax_run_rules.specs.Taken.{Closed, ClosedFrame}
use Rattle.ax_order_laws.specs.Parts.{list_at, frame_in}
use Rattle.ax_order_laws.specs.Told.{entry_lines}
use Rattle.ax_order_laws.specs.Workers.{is_got, receipts_in, is_due_after, each_comes_in_time, delivered, item_in, Worked}
use Rattle.ax_order_laws.specs.Laws.{InTimeAsItems}
use Rattle.ax_order_laws.proofs.HistoryItems.{in_time_as_items}
use Rattle.ax_fair_laws.specs.Laws.{receipts_called, receipts_among, queries_follow, for_tree, given_by}
use Rattle.ax_fair_laws.specs.Hubs.{calls_that_added, but_deliveries, IsServedBy, AreAskedAt, IsOfWorkers}
use Rattle.ax_fair_laws.proofs.Orders as orders
use Rattle.ax_fair_laws.proofs.Parts.{both_parts}
use Rattle.ax_fair_laws.proofs.Tokens.{all_delivered}

-- ---- the history

receipts_added : (before h : List HEntry) → map (λ (c : Called). is_receipt_call c.0) (calls_that_added before h) ≡ map is_got h
receipts_added before [] = refl
receipts_added before (entries.Got p ∷ h) = ap (λ l. true ∷ l) (receipts_added (before ++ entries.Got p ∷ []) h)
receipts_added before (entries.Asked t ∷ h) = ap (λ l. false ∷ l) (receipts_added (before ++ entries.Asked t ∷ []) h)
receipts_added before (entries.Ended t ∷ h) = ap (λ l. false ∷ l) (receipts_added (before ++ entries.Ended t ∷ []) h)
receipts_added before (entries.Probed t u ∷ h) = ap (λ l. false ∷ l) (receipts_added (before ++ entries.Probed t u ∷ []) h)

-- no query is among the items of a history
no_query : (s : Script) (h : List HEntry) (before : _) → queries_follow s before (map item_in h) ≡ true
no_query s [] before = refl
no_query s (entries.Got p ∷ h) before = no_query s h (before ++ item_in (entries.Got p) ∷ [])
no_query s (entries.Asked t ∷ h) before = no_query s h (before ++ item_in (entries.Asked t) ∷ [])
no_query s (entries.Ended t ∷ h) before = no_query s h (before ++ item_in (entries.Ended t) ∷ [])
no_query s (entries.Probed t u ∷ h) before = no_query s h (before ++ item_in (entries.Probed t u) ∷ [])

module _ (s : Script) (c : Closed) (calls : List Called) (by : IsServedBy s c calls) where
  as_items : InTimeAsItems s c.history
  as_items = in_time_as_items s c.history

  same_receipts : receipts_called calls ≡ receipts_among (map item_in c.history)
  same_receipts = ap (map (λ (d : Called). is_receipt_call d.0)) by.entries ∙ (receipts_added [] c.history ∙ sym as_items.entries)

  pub history_in_time : each_comes_in_time s.browser [] c.history ≡ true
  history_in_time =
      sym as_items.in_time
      ∙ both_parts s [] (map item_in c.history) (orders.in_time s (map item_in c.history) by.done calls by.served same_receipts) (no_query s c.history [])

  pub none_due : is_due_after s.browser c.history ≡ false
  none_due = sym as_items.due ∙ orders.none_due s (map item_in c.history) by.done calls by.served same_receipts

-- ---- tokens

given_before_deliveries : (t : ℕ) (calls : List Called) → filter_map (given_by t) calls ≡ filter_map (given_by t) (but_deliveries calls)
given_before_deliveries t [] = refl
given_before_deliveries t ((Receive, line) ∷ calls) = given_before_deliveries t calls
given_before_deliveries t ((Do op, line) ∷ calls) = ap (cons_option (for_tree t (token_called op line))) (given_before_deliveries t calls)
given_before_deliveries t ((Deliver u n, line) ∷ calls) = given_before_deliveries t calls

token_of_ask : (t u : ℕ) (o : Option Token) → for_tree t (token_called (ops.Ask u) (lines.Asked u o)) ≡ token_given t (lines.Asked u o)
token_of_ask t u None = refl
token_of_ask t u (Some n) = refl

tokens_added : (t : ℕ) (before h : List HEntry) → filter_map (given_by t) (calls_that_added before h) ≡ filter_map (token_given t) (entry_lines before h)
tokens_added t before [] = refl
tokens_added t before (entries.Got p ∷ h) = tokens_added t (before ++ entries.Got p ∷ []) h
tokens_added t before (entries.Asked u ∷ h) =
    ap (λ o. cons_option o (filter_map (given_by t) (calls_that_added (before ++ entries.Asked u ∷ []) h)))
    (token_of_ask t u (if is_gone before u then None else Some (record { 0 = next_token before u })))
    ∙ ap (cons_option (token_given t (lines.Asked u (if is_gone before u then None else Some (record { 0 = next_token before u }))))) (tokens_added t (before ++ entries.Asked u ∷ []) h)
tokens_added t before (entries.Ended u ∷ h) = tokens_added t (before ++ entries.Ended u ∷ []) h
tokens_added t before (entries.Probed u v ∷ h) = tokens_added t (before ++ entries.Probed u v ∷ []) h

pub each_delivers : (s : Script) (c : Closed) (calls : List Called) → IsServedBy s c calls
    → (t : ℕ) (f : ClosedFrame) → frame_in c t ≡ Some f → filter_map delivered f.journal ≡ filter_map (token_given t) (entry_lines [] c.history)
each_delivers s c calls by t f there =
    by.deliveries t f there
    ∙ (all_delivered s.browser by.done t calls by.served
    ∙ (given_before_deliveries t calls ∙ (ap (filter_map (given_by t)) by.entries ∙ tokens_added t [] c.history)))

-- ---- readers

asked_in_time : (queries : List TimedQuery) (calls : List (Query × Option ℕ × Line)) (looks : List ℕ) (given : ℕ → ℕ)
    → AreAsked queries calls → map (λ (c : Query × Option ℕ × Line). c.1) calls ≡ map (λ (n : ℕ). Some (given n)) looks
    → (j n : ℕ) (q : TimedQuery) → slice_get looks j ≡ Some n → slice_get queries j ≡ Some q → q.after ≤ given n
asked_in_time [] calls looks given asked seen j n q here there = absurd (cc there)
asked_in_time (p ∷ queries) [] [] given asked seen j n q here there = absurd (cc here)
asked_in_time (p ∷ queries) [] (m ∷ looks) given asked seen j n q here there = absurd (cc seen)
asked_in_time (p ∷ queries) (d ∷ calls) [] given asked seen j n q here there = absurd (cc)
asked_in_time (p ∷ queries) (d ∷ calls) (m ∷ looks) given asked seen zero n q here there =
    let at : d.1 ≡ Some (given m) = cc seen in
    let look : m ≡ n = cc here in
    let query : p ≡ q = cc there in
    subst (λ (x : TimedQuery). x.after ≤ given n) query (subst (λ (x : ℕ). p.after ≤ given x) look (subst (λ (o : Option ℕ). IsSomeAnd o (λ r. p.after ≤ r)) at asked.1))
asked_in_time (p ∷ queries) (d ∷ calls) (m ∷ looks) given asked seen (suc j) n q here there =
    let rest : map (λ (c : Query × Option ℕ × Line). c.1) calls ≡ map (λ (k : ℕ). Some (given k)) looks = cc seen in
    asked_in_time queries calls looks given asked.2 rest j n q here there

-- a query that a look came too early for waits for a packet
waits_for_one : (after : ℕ) (seen : Option ℕ) → IsSomeAnd seen (λ n. n < after) → 1 ≤ after
waits_for_one after None early = absurd early
waits_for_one after (Some n) early = omega (arith, early)

module _ (h : List HEntry) (queries : List TimedQuery) (looks : List ℕ) (at : AreAskedAt h queries looks) where
  pub each_asked : (j n : ℕ) (q : TimedQuery) → slice_get looks j ≡ Some n → slice_get queries j ≡ Some q → q.after ≤ receipts_in (take n h)
  each_asked = asked_in_time queries at.calls looks (λ n. receipts_in (take n h)) at.first.0 at.seen

  one_look_each : at.asked ≡ length looks
  one_look_each =
      sym at.first.1
      ∙ (sym (length-map at.calls (λ (c : Query × Option ℕ × Line). c.1)) ∙ (ap length at.seen ∙ length-map looks (λ (n : ℕ). Some (receipts_in (take n h)))))

  pub first_left : (q : TimedQuery) → slice_get queries (length looks) ≡ Some q → 1 ≤ q.after
  first_left q there = waits_for_one q.after at.seen_last (at.waits q (ap (slice_get queries) one_look_each ∙ there))

pub is_worked : (s : Script) (c : Closed) (looks : List (List ℕ)) → IsOfWorkers s c looks → Worked s c looks
is_worked s c looks of = record {
  in_time = history_in_time s c of.calls of.browser;
  none_due = none_due s c of.calls of.browser;
  delivers = each_delivers s c of.calls of.browser;
  asked = λ k j n q here there. each_asked c.history (list_at s.readers k) (list_at looks k) (of.readers k) j n q here there;
  left = λ k q there. first_left c.history (list_at s.readers k) (list_at looks k) (of.readers k) q there;
}
