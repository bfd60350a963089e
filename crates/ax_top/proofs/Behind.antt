-- A run tells its lines behind those that stood before, and these have no other part in it.
use Rattle.std.proofs.Common.{ℕ, zero, suc, ◌≡◌, List, [], ◌∷◌, ◌++◌, refl, ap, ◌∙◌, append_assoc, Option, Some, None, option_and_then, option_map, slice_get}
use Rattle.ax_tree.specs.declared.packet.Packet.{Packet}
use Rattle.ax_ask.specs.declared.op.FrameOp.{FrameOp}
use Rattle.ax_ask.specs.declared.op.BrowserOp.{BrowserOp}
use Rattle.ax_ask.specs.declared.op.BrowserOp.TheVariants as browsers
use Rattle.ax_ask.specs.declared.op.TimedOp.{TimedOp}
use Rattle.ax_ask.specs.declared.op.Item.{Item}
use Rattle.ax_ask.specs.declared.op.Item.TheVariants as items
use Rattle.ax_ask.specs.declared.query.TimedQuery.{TimedQuery}
use Rattle.ax_ask.specs.declared.line.Line.{Line}
use Rattle.ax_run_rules.specs.States.{FrameRun, State, Run, find_frame, with_line}
use Rattle.ax_run_rules.specs.FrameSteps.{do_op}
use Rattle.ax_run_rules.specs.Steps.{do_receive, do_ask, do_browser, do_deliver, do_query, do_next_op, do_oldest, do_next_browser, do_next_query, do_reader, step, run}

abbrev pub behind : List Line → Run → Run
behind ls r = record { state = r.state; lines = ls ++ r.lines }

abbrev told_in : State → List Line → Run
told_in s ls = record { state = s; lines = ls }

line_behind : (ls : List Line) (r : Run) (s : State) (l : Line) → with_line (behind ls r) s l ≡ behind ls (with_line r s l)
line_behind ls r s l = ap (told_in s) (append_assoc ls r.lines (l ∷ []))

each : {A : Type 0} (ls : List Line) (o : Option A) (g h : A → Option Run) → ((a : A) → g a ≡ option_map (behind ls) (h a)) → option_and_then g o ≡ option_map (behind ls) (option_and_then h o)
each ls None g h e = refl
each ls (Some a) g h e = e a

each_too : {A : Type 0} (ls : List Line) (o : Option A) (g h : A → Run) → ((a : A) → g a ≡ behind ls (h a)) → option_map g o ≡ option_map (behind ls) (option_map h o)
each_too ls None g h e = refl
each_too ls (Some a) g h e = ap Some (e a)

op_behind : (ls : List Line) (r : Run) (f : FrameRun) (ops : List FrameOp) → do_next_op (behind ls r) f ops ≡ option_map (behind ls) (do_next_op r f ops)
unfolding do_op
op_behind ls r f [] = refl
op_behind ls r f (op ∷ left) = ap Some (line_behind ls r _ _)

receipt_behind : (ls : List Line) (r : Run) (f : FrameRun) (ps : List Packet) → do_oldest (behind ls r) f ps ≡ option_map (behind ls) (do_oldest r f ps)
unfolding do_receive
receipt_behind ls r f [] = refl
receipt_behind ls r f (p ∷ ps) = ap Some (line_behind ls r _ _)

browser_op_behind : (ls : List Line) (r : Run) (o : BrowserOp) → do_browser (behind ls r) o ≡ behind ls (do_browser r o)
unfolding do_browser do_ask
browser_op_behind ls r (browsers.Ask t) = line_behind ls r _ _
browser_op_behind ls r (browsers.Destroy t) = line_behind ls r _ _
browser_op_behind ls r (browsers.Probe t u) = line_behind ls r _ _

browser_behind : (ls : List Line) (r : Run) (os : List TimedOp) → do_next_browser (behind ls r) os ≡ option_map (behind ls) (do_next_browser r os)
browser_behind ls r [] = refl
browser_behind ls r (o ∷ left) = ap Some (browser_op_behind ls (record r { state = record r.state { browser = left } }) o.op)

delivery_behind : (ls : List Line) (r : Run) (f : FrameRun) (n : ℕ) → do_deliver (behind ls r) f n ≡ behind ls (do_deliver r f n)
unfolding do_deliver
delivery_behind ls r f n = line_behind ls r _ _

query_behind : (ls : List Line) (r : Run) (k : ℕ) (qs : List TimedQuery) → do_next_query (behind ls r) k qs ≡ option_map (behind ls) (do_next_query r k qs)
unfolding do_query
query_behind ls r k [] = refl
query_behind ls r k (q ∷ left) = ap Some (line_behind ls r _ _)

reader_behind : (ls : List Line) (r : Run) (k : ℕ) → do_reader (behind ls r) k ≡ option_map (behind ls) (do_reader r k)
reader_behind ls r zero = refl
reader_behind ls r (suc k) = each ls (slice_get r.state.readers k) (do_next_query (behind ls r) k) (do_next_query r k) (λ qs. query_behind ls r k qs)

pub step_behind : (ls : List Line) (r : Run) (i : Item) → step (behind ls r) i ≡ option_map (behind ls) (step r i)
unfolding step
step_behind ls r (items.Frame t) = each ls (find_frame r.state t) (λ (f : FrameRun). do_next_op (behind ls r) f f.left) (λ (f : FrameRun). do_next_op r f f.left) (λ f. op_behind ls r f f.left)
step_behind ls r (items.Receive t) = each ls (find_frame r.state t) (λ (f : FrameRun). do_oldest (behind ls r) f f.waiting) (λ (f : FrameRun). do_oldest r f f.waiting) (λ f. receipt_behind ls r f f.waiting)
step_behind ls r items.Browser = browser_behind ls r r.state.browser
step_behind ls r (items.Deliver t n) = each_too ls (find_frame r.state t) (λ (f : FrameRun). do_deliver (behind ls r) f n.0) (λ (f : FrameRun). do_deliver r f n.0) (λ f. delivery_behind ls r f n.0)
step_behind ls r (items.Reader k) = reader_behind ls r k

then_behind : (ls : List Line) (o : List Item) (q : Option Run) → ((r : Run) → run o (behind ls r) ≡ option_map (behind ls) (run o r))
    → option_and_then (run o) (option_map (behind ls) q) ≡ option_map (behind ls) (option_and_then (run o) q)
then_behind ls o None h = refl
then_behind ls o (Some r) h = h r

pub run_behind : (ls : List Line) (o : List Item) (r : Run) → run o (behind ls r) ≡ option_map (behind ls) (run o r)
run_behind ls [] r = refl
run_behind ls (i ∷ o) r = ap (option_and_then (run o)) (step_behind ls r i) ∙ then_behind ls o (step r i) (λ q. run_behind ls o q)
