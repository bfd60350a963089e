-- Runs go on from each front of them.
use Rattle.std.proofs.Common.{ℕ, zero, suc, ◌≡◌, List, [], ◌∷◌, ◌++◌, refl, sym, ap, ◌∙◌, subst, Option, Some, None, option_and_then, option_map}
use Rattle.ax_tree.specs.declared.packet.Packet.{Packet}
use Rattle.ax_ask.specs.declared.op.Item.{Item}
use Rattle.ax_ask.specs.declared.op.Item.TheVariants as items
use Rattle.ax_ask.specs.declared.op.FrameOp.{FrameOp}
use Rattle.ax_ask.specs.declared.op.TimedOp.{TimedOp}
use Rattle.ax_ask.specs.declared.op.BrowserOp.{BrowserOp}
use Rattle.ax_ask.specs.declared.op.BrowserOp.TheVariants as browsers
use Rattle.ax_ask.specs.declared.query.TimedQuery.{TimedQuery}
use Rattle.ax_run_rules.specs.States.{FrameRun, State, Run, find_frame, with_frame}
use Rattle.ax_run_rules.specs.FrameSteps.{do_op}
use Rattle.ax_run_rules.specs.Steps.{do_receive, do_ask, do_browser, do_deliver, do_query, do_next_op, do_oldest, do_next_browser, do_next_query, do_reader, step, run}
use Rattle.ax_rules.specs.Laws.{Begins}
use Rattle.ax_rules.proofs.Going.{begins_itself, begins_joined, begins_after, begins_on}
use Rattle.ax_run_rules.proofs.RunAppends.{run-append}

-- ---- runs

record Goes (at to : Run) : Type 0 where
  history : Begins to.state.history at.state.history
  lines : Begins to.lines at.lines

goes_itself : (r : Run) → Goes r r
goes_itself r = record { history = begins_itself r.state.history; lines = begins_itself r.lines }

goes_on : (a b c : Run) → Goes a b → Goes b c → Goes a c
goes_on a b c h k = record {
  history = begins_on a.state.history b.state.history c.state.history h.history k.history;
  lines = begins_on a.lines b.lines c.lines h.lines k.lines;
}

-- where there is a run, it goes on from r
abbrev AllGo : Run → Option Run → Type 0
AllGo r None = Unit {0}
AllGo r (Some q) = Goes r q

all_go_on : (a b : Run) (c : Option Run) → Goes a b → AllGo b c → AllGo a c
all_go_on a b None h k = tt
all_go_on a b (Some c) h k = goes_on a b c h k

for_each : {A : Type 0} (r : Run) (o : Option A) (g : A → Option Run) → ((a : A) → AllGo r (g a)) → AllGo r (option_and_then g o)
for_each r None g h = tt
for_each r (Some a) g h = h a

op_goes : (r : Run) (f : FrameRun) (ops : List FrameOp) → AllGo r (do_next_op r f ops)
unfolding do_op with_frame
op_goes r f [] = tt
op_goes r f (op ∷ left) = record { history = begins_itself r.state.history; lines = begins_joined _ _ }

receipt_goes : (r : Run) (f : FrameRun) (ps : List Packet) → AllGo r (do_oldest r f ps)
unfolding do_receive with_frame
receipt_goes r f [] = tt
receipt_goes r f (p ∷ ps) = record { history = begins_joined _ _; lines = begins_joined _ _ }

browser_op_goes : (r : Run) (s : State) (o : BrowserOp) → s.history ≡ r.state.history → Goes r (do_browser (record r { state = s }) o)
unfolding do_browser do_ask
browser_op_goes r s (browsers.Ask t) h = record { history = begins_after s.history r.state.history _ h; lines = begins_joined _ _ }
browser_op_goes r s (browsers.Destroy t) h = record { history = begins_after s.history r.state.history _ h; lines = begins_joined _ _ }
browser_op_goes r s (browsers.Probe t u) h = record { history = begins_after s.history r.state.history _ h; lines = begins_joined _ _ }

browser_goes : (r : Run) (os : List TimedOp) → AllGo r (do_next_browser r os)
browser_goes r [] = tt
browser_goes r (o ∷ left) = browser_op_goes r (record r.state { browser = left }) o.op refl

delivery_goes : (r : Run) (f : FrameRun) (n : ℕ) → Goes r (do_deliver r f n)
unfolding do_deliver with_frame
delivery_goes r f n = record { history = begins_itself r.state.history; lines = begins_joined _ _ }

query_goes : (r : Run) (k : ℕ) (qs : List TimedQuery) → AllGo r (do_next_query r k qs)
unfolding do_query
query_goes r k [] = tt
query_goes r k (q ∷ left) = record { history = begins_itself r.state.history; lines = begins_joined _ _ }

reader_goes : (r : Run) (k : ℕ) → AllGo r (do_reader r k)
reader_goes r zero = tt
reader_goes r (suc k) = for_each r _ (do_next_query r k) (query_goes r k)

deliveries_go : (r : Run) (n : ℕ) (f : Option FrameRun) → AllGo r (option_map (λ g. do_deliver r g n) f)
deliveries_go r n None = tt
deliveries_go r n (Some f) = delivery_goes r f n

step_goes : (r : Run) (i : Item) → AllGo r (step r i)
unfolding step
step_goes r (items.Frame t) = for_each r (find_frame r.state t) (λ f. do_next_op r f f.left) (λ f. op_goes r f f.left)
step_goes r (items.Receive t) = for_each r (find_frame r.state t) (λ f. do_oldest r f f.waiting) (λ f. receipt_goes r f f.waiting)
step_goes r items.Browser = browser_goes r r.state.browser
step_goes r (items.Deliver t n) = deliveries_go r n.0 (find_frame r.state t)
step_goes r (items.Reader k) = reader_goes r k

then_goes : (o : List Item) (r : Run) (q : Option Run) → AllGo r q → ((p : Run) → AllGo p (run o p)) → AllGo r (option_and_then (run o) q)
then_goes o r None h k = tt
then_goes o r (Some q) h k = all_go_on r q (run o q) h (k q)

run_goes : (o : List Item) (r : Run) → AllGo r (run o r)
run_goes [] r = goes_itself r
run_goes (i ∷ o) r = then_goes o r (step r i) (step_goes r i) (run_goes o)

pub run_on : (front back : List Item) (from at to : Run) → run front from ≡ Some at → run (front ++ back) from ≡ Some to
    → Begins to.state.history at.state.history × Begins to.lines at.lines
run_on front back from at to h k =
    let e : run back at ≡ Some to = ap (λ o. option_and_then (run back) o) (sym h) ∙ (sym (run-append front back from) ∙ k) in
    let g : AllGo at (Some to) = subst (λ o. AllGo at o) e (run_goes back at) in
    (g.history, g.lines)
