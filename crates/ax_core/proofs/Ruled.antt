-- Where no frame is short, what a finale does is the rule's.
use Rattle.std.proofs.Common.{ℕ, zero, suc, ◌≡◌, Bool, true, false, if◌then◌else◌, List, [], ◌∷◌, ◌++◌, slice_get, refl, sym, ap, ap₂, ◌∙◌, subst, Option, Some, None}
use Rattle.std.specs.Prelude.{option_map, option_and_then}
use Rattle.ax_tree.specs.declared.packet.Packet.{Packet}
use Rattle.ax_ask.specs.declared.op.BrowserOp.{BrowserOp}
use Rattle.ax_ask.specs.declared.op.BrowserOp.TheVariants as browsers
use Rattle.ax_ask.specs.declared.op.FrameOp.{FrameOp}
use Rattle.ax_ask.specs.declared.op.FrameOp.TheVariants as ops
use Rattle.ax_ask.specs.declared.op.TimedOp.{TimedOp}
use Rattle.ax_ask.specs.declared.op.Item.{Item}
use Rattle.ax_ask.specs.declared.op.Item.TheVariants as items
use Rattle.ax_ask.specs.declared.query.TimedQuery.{TimedQuery}
use Rattle.ax_ask.specs.declared.line.Line.{Line}
use Rattle.ax_run_rules.specs.States.{FrameRun, State, Run, trees_of, find_frame, with_frame}
use Rattle.ax_run_rules.specs.FrameSteps.{do_op}
use Rattle.ax_run_rules.specs.Steps.{next_token, do_receive, do_ask, do_browser, do_deliver, do_query, do_next_op, do_oldest, do_next_browser, do_next_query, do_reader, step, run}
use Rattle.ax_run_rules.specs.Finale.{ops_left, packets_left, queries_left, delivery_of, is_behind, pass_of, refresh, refresh_if, serve, catch_up, finale_of}
use Rattle.ax_run_laws.proofs.Found.{found_in}
use Rattle.ax_core.specs.FrameRuns.{IsRuled, after_op}
use Rattle.ax_core.specs.Finishing.{run_of, ForEach, Told, Turns, Serves, IsPassed, Asks, Passes, Refreshes, RefreshesIf, CatchesUp, Finishes}
use Rattle.ax_core.specs.Standing.{at, IsWhole}
use Rattle.ax_core.proofs.Whole.{step_whole, op_whole, all_found, IsLong}

-- ---- a step after lines that are told

abbrev after : List Line → Option Run → Option Run
after ls o = option_map (λ (q : Run). run_of q.state (ls ++ q.lines)) o

each_after : {A : Type 0} (ls : List Line) (o : Option A) (g h : A → Option Run) → ((a : A) → g a ≡ after ls (h a)) → option_and_then g o ≡ after ls (option_and_then h o)
each_after ls None g h e = refl
each_after ls (Some a) g h e = e a

mapped_after : {A : Type 0} (ls : List Line) (o : Option A) (g h : A → Run) → ((a : A) → Some (g a) ≡ after ls (Some (h a))) → option_map g o ≡ after ls (option_map h o)
mapped_after ls None g h e = refl
mapped_after ls (Some a) g h e = e a

module _ (s : State) (ls : List Line) where
  op_after : (f : FrameRun) (os : List FrameOp) → do_next_op (run_of s ls) f os ≡ after ls (do_next_op (at s) f os)
  unfolding do_op
  op_after f [] = refl
  op_after f (op ∷ left) = refl

  receipt_after : (f : FrameRun) (ps : List Packet) → do_oldest (run_of s ls) f ps ≡ after ls (do_oldest (at s) f ps)
  unfolding do_receive
  receipt_after f [] = refl
  receipt_after f (p ∷ ps) = refl

  browser_op_after : (b : List TimedOp) (o : BrowserOp) → Some (do_browser (run_of (record s { browser = b }) ls) o) ≡ after ls (Some (do_browser (at (record s { browser = b })) o))
  unfolding do_browser do_ask
  browser_op_after b (browsers.Ask t) = refl
  browser_op_after b (browsers.Destroy t) = refl
  browser_op_after b (browsers.Probe t u) = refl

  browser_after : (os : List TimedOp) → do_next_browser (run_of s ls) os ≡ after ls (do_next_browser (at s) os)
  browser_after [] = refl
  browser_after (o ∷ left) = browser_op_after left o.op

  delivery_after : (f : FrameRun) (n : ℕ) → Some (do_deliver (run_of s ls) f n) ≡ after ls (Some (do_deliver (at s) f n))
  unfolding do_deliver
  delivery_after f n = refl

  query_after : (k : ℕ) (qs : List TimedQuery) → do_next_query (run_of s ls) k qs ≡ after ls (do_next_query (at s) k qs)
  unfolding do_query
  query_after k [] = refl
  query_after k (q ∷ left) = refl

  reader_after : (n : ℕ) → do_reader (run_of s ls) n ≡ after ls (do_reader (at s) n)
  reader_after zero = refl
  reader_after (suc k) = each_after ls (slice_get s.readers k) (do_next_query (run_of s ls) k) (do_next_query (at s) k) (λ qs. query_after k qs)

  step_after : (i : Item) → step (run_of s ls) i ≡ after ls (step (at s) i)
  unfolding step
  step_after (items.Frame t) = each_after ls (find_frame s t) (λ (f : FrameRun). do_next_op (run_of s ls) f f.left) (λ (f : FrameRun). do_next_op (at s) f f.left) (λ f. op_after f f.left)
  step_after (items.Receive t) = each_after ls (find_frame s t) (λ (f : FrameRun). do_oldest (run_of s ls) f f.waiting) (λ (f : FrameRun). do_oldest (at s) f f.waiting) (λ f. receipt_after f f.waiting)
  step_after items.Browser = browser_after s.browser
  step_after (items.Deliver t n) = mapped_after ls (find_frame s t) (λ (f : FrameRun). do_deliver (run_of s ls) f n.0) (λ (f : FrameRun). do_deliver (at s) f n.0) (λ f. delivery_after f n.0)
  step_after (items.Reader k) = reader_after k

-- ---- the pieces

-- a piece by the rule, after which no frame is short
pub record Ruled (o : Option Run) (e : Run) : Type 0 where
  pub is : o ≡ Some e
  pub whole : IsWhole e.state

told_ruled : (i : Item) (r e : Run) → IsWhole r.state → Told i true r e → Ruled (step r i) e
told_ruled i r e w q =
    let k = q.1.0.whole w in
    record {
      is = step_after r.state r.lines i ∙ (ap (after r.lines) k ∙ ap (λ ls. Some (run_of e.state ls)) (sym q.1.1));
      whole = step_whole r.state e.state i q.0 w k;
    }

pub turns_ruled : (o : List Item) (r e : Run) → IsWhole r.state → Turns o true r e → Ruled (run o r) e
turns_ruled [] r e w q = record { is = ap Some (sym q); whole = subst (λ (x : Run). IsWhole x.state) (sym q) w }
turns_ruled (i ∷ o) r e w q =
    let one = told_ruled i r q.0 w q.1.0 in
    let more = turns_ruled o q.0 e one.whole q.1.1 in
    record { is = ap (λ x. option_and_then (run o) x) one.is ∙ more.is; whole = more.whole }

pub serves_ruled : (os : List TimedOp) (r e : Run) → IsWhole r.state → ForEach Serves os true r e → Ruled (serve os r) e
serves_ruled [] r e w q = record { is = ap Some (sym q); whole = subst (λ (x : Run). IsWhole x.state) (sym q) w }
serves_ruled (o ∷ left) r e w q =
    let one = turns_ruled (items.Browser ∷ delivery_of r.state o.op) r q.0 w q.1.0 in
    let more = serves_ruled left q.0 e one.whole q.1.1 in
    record { is = ap (λ x. option_and_then (serve left) x) one.is ∙ more.is; whole = more.whole }

asked_ruled : (t : ℕ) (r e : Run) → IsWhole r.state → Asks t true r e → Ruled (Some (do_ask r t)) e
unfolding do_ask
asked_ruled t r e w q = record {
  is = ap (λ (x : Run). Some (run_of x.state (r.lines ++ x.lines))) q.1.0 ∙ ap (λ ls. Some (run_of e.state ls)) (sym q.1.1);
  whole = subst (λ (x : Run). IsWhole x.state) q.1.0 w;
}

found_long : (u : ℕ) (s : State) (f : FrameRun) → find_frame s u ≡ Some f → IsWhole s → IsLong f
unfolding find_frame
found_long u s f h a = all_found IsLong u s.frames f h a

passed_ruled : (t : ℕ) (r e : Run) → IsWhole r.state → Passes t true r e → Ruled (pass_of r t) e
unfolding pass_of do_op
passed_ruled t r e w q =
    let k : IsPassed t r.state e.state q.0 = q.1.0 in
    let long : IsLong k.frame = found_long t r.state k.frame k.found w in
    let ruled : IsRuled k.frame ops.Pass k.frame.left k.after q.0 = k.done.whole long in
    let now : with_frame r.state (after_op k.frame ops.Pass k.frame.left) ≡ e.state = ap (with_frame r.state) (sym ruled.after) ∙ sym k.state in
    record {
      is = ap (λ o. option_map (λ (f : FrameRun). do_op r f ops.Pass f.left) o) k.found ∙ ap₂ (λ (x : State) (ls : List Line). Some (run_of x ls)) now (ap (λ l. r.lines ++ l ∷ []) (sym ruled.told) ∙ sym q.1.1);
      whole = subst (λ (x : State). IsWhole x) now (op_whole r k.frame (ops.Pass ∷ k.frame.left) w long);
    }

refreshed_ruled : (t : ℕ) (r e : Run) → IsWhole r.state → Refreshes t true r e → Ruled (refresh t r) e
unfolding refresh
refreshed_ruled t r e w q =
    let i : Item = items.Deliver t (record { 0 = next_token r.state.history t }) in
    let a = asked_ruled t r q.0 w q.1.0 in
    let d = told_ruled i q.0 q.1.1.0 a.whole q.1.1.1.0 in
    let p = passed_ruled t q.1.1.0 q.1.1.1.1.0 d.whole q.1.1.1.1.1.0 in
    let c = told_ruled (items.Receive t) q.1.1.1.1.0 e p.whole q.1.1.1.1.1.1 in
    record {
      is =
          ap (λ o. option_and_then (run (items.Receive t ∷ [])) (option_and_then (λ x. pass_of x t) (option_and_then (run (i ∷ [])) o))) a.is
          ∙ (ap (λ o. option_and_then (run (items.Receive t ∷ [])) (option_and_then (λ x. pass_of x t) (option_and_then (run []) o))) d.is
          ∙ (ap (λ o. option_and_then (run (items.Receive t ∷ [])) o) p.is ∙ ap (λ o. option_and_then (run []) o) c.is));
      whole = c.whole;
    }

found_tree : (s : State) (t : ℕ) (f : FrameRun) → find_frame s t ≡ Some f → f.tree ≡ t
unfolding find_frame
found_tree s t f h = found_in t s.frames f h

caught_ruled : (t : ℕ) (r e : Run) → IsWhole r.state → CatchesUp t true r e → Ruled (option_and_then (refresh_if r) (find_frame r.state t)) e
caught_ruled t r e w q =
    let f : FrameRun = q.0 in
    let here = go f (found_tree r.state t f q.1.0) (is_behind r.state f) q.1.1 in
    record { is = ap (λ o. option_and_then (refresh_if r) o) q.1.0 ∙ here.is; whole = here.whole }
  where
    go : (f : FrameRun) → f.tree ≡ t → (b : Bool) → RefreshesIf b t true r e → Ruled (if b then refresh f.tree r else Some r) e
    go f own true k = subst (λ u. Ruled (refresh u r) e) (sym own) (refreshed_ruled t r e w k)
    go f own false k = record { is = ap Some (sym k); whole = subst (λ (x : Run). IsWhole x.state) (sym k) w }

pub catches_ruled : (ts : List ℕ) (r e : Run) → IsWhole r.state → ForEach CatchesUp ts true r e → Ruled (catch_up ts r) e
catches_ruled [] r e w q = record { is = ap Some (sym q); whole = subst (λ (x : Run). IsWhole x.state) (sym q) w }
catches_ruled (t ∷ ts) r e w q =
    let one = caught_ruled t r q.0 w q.1.0 in
    let more = catches_ruled ts q.0 e one.whole q.1.1 in
    record { is = ap (λ x. option_and_then (catch_up ts) x) one.is ∙ more.is; whole = more.whole }

-- ---- the whole finale

pub finale_ruled : (r e : Run) → IsWhole r.state → Finishes true r e → Ruled (finale_of r) e
unfolding finale_of
finale_ruled r e w q =
    let m1 : Run = q.0 in
    let q2 = q.1.1 in
    let m2 : Run = q2.0 in
    let q3 = q2.1.1 in
    let m3 : Run = q3.0 in
    let q4 = q3.1.1 in
    let m4 : Run = q4.0 in
    let a = turns_ruled (ops_left r.state) r m1 w q.1.0 in
    let b = turns_ruled (packets_left m1.state) m1 m2 a.whole q2.1.0 in
    let c = serves_ruled m2.state.browser m2 m3 b.whole q3.1.0 in
    let d = catches_ruled (trees_of m3.state) m3 m4 c.whole q4.1.0 in
    let k = turns_ruled (queries_left m4.state) m4 e d.whole q4.1.1 in
    record {
      is =
          ap (λ o. option_and_then (λ (x : Run). run (queries_left x.state) x) (option_and_then (λ (x : Run). catch_up (trees_of x.state) x) (option_and_then (λ (x : Run). serve x.state.browser x) (option_and_then (λ (x : Run). run (packets_left x.state) x) o)))) a.is
          ∙ (ap (λ o. option_and_then (λ (x : Run). run (queries_left x.state) x) (option_and_then (λ (x : Run). catch_up (trees_of x.state) x) (option_and_then (λ (x : Run). serve x.state.browser x) o))) b.is
          ∙ (ap (λ o. option_and_then (λ (x : Run). run (queries_left x.state) x) (option_and_then (λ (x : Run). catch_up (trees_of x.state) x) o)) c.is
          ∙ (ap (λ o. option_and_then (λ (x : Run). run (queries_left x.state) x) o) d.is ∙ k.is)));
      whole = k.whole;
    }
