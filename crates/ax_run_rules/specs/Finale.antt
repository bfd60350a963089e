-- The finale of a run: all that is left is done, and each live tree catches up with its frame.
use Rattle.std.specs.Prelude.{ℕ, Bool, ◌==◌, ◌&&◌, ◌||◌, not, if◌then◌else◌, List, [], ◌∷◌, length, replicate, flat_map, Option, Some, option_map, option_and_then}
use Rattle.std.specs.List.{enumerate_from}
use Rattle.ax_trees.specs.Trees.{is_bare}
use Rattle.ax_tree.specs.Journals.{pending}
use Rattle.ax_ask.specs.declared.op.FrameOp.TheVariants as ops
use Rattle.ax_ask.specs.declared.op.BrowserOp.{BrowserOp}
use Rattle.ax_ask.specs.declared.op.BrowserOp.TheVariants as browsers
use Rattle.ax_ask.specs.declared.op.TimedOp.{TimedOp}
use Rattle.ax_ask.specs.declared.op.Item.{Item}
use Rattle.ax_ask.specs.declared.op.Item.TheVariants as items
use Rattle.ax_ask.specs.declared.query.TimedQuery.{TimedQuery}
use Rattle.ax_rules.specs.Histories.{is_gone, applied_pass}
use Rattle.ax_run_rules.specs.Scripts.{Script}
use Rattle.ax_run_rules.specs.States.{FrameRun, State, Run, begin, trees_of, frame_now, find_frame, without_lines}
use Rattle.ax_run_rules.specs.FrameSteps.{do_op}
use Rattle.ax_run_rules.specs.Steps.{next_token, do_ask, run}

-- 1. the frames' operations, and 2. all packets
unfoldable pub ops_left : State → List Item
ops_left s = flat_map (λ (f : FrameRun). replicate (length f.left) (items.Frame f.tree)) s.frames

unfoldable pub packets_left : State → List Item
packets_left s = flat_map (λ (f : FrameRun). replicate (length f.waiting) (items.Receive f.tree)) s.frames

-- 3. the browser's operations, each token delivered at once
abbrev pub delivery_of : State → BrowserOp → List Item
delivery_of s (browsers.Ask t) = if is_gone s.history t then [] else items.Deliver t (record { 0 = next_token s.history t }) ∷ []
delivery_of s (browsers.Destroy t) = []
delivery_of s (browsers.Probe t u) = []

abbrev pub serve : List TimedOp → Run → Option Run
serve [] r = Some r
serve (o ∷ left) r = option_and_then (serve left) (run (items.Browser ∷ delivery_of r.state o.op) r)

-- 4. A live tree whose frame has a root, and whose mirror may not be the source, is asked anew: ask, deliver, pass, receive.
unfoldable pub is_behind : State → FrameRun → Bool
is_behind s f =
    not (is_gone s.history f.tree)
    && (not (is_bare (frame_now f).source.trees)
    && (not (applied_pass s.history f.tree == (frame_now f).passes) || pending (frame_now f)))

unfoldable pub pass_of : Run → ℕ → Option Run
pass_of r t = option_map (λ (f : FrameRun). do_op r f ops.Pass f.left) (find_frame r.state t)

unfoldable pub refresh : ℕ → Run → Option Run
refresh t r =
    option_and_then (run (items.Receive t ∷ []))
    (option_and_then (λ q. pass_of q t) (run (items.Deliver t (record { 0 = next_token r.state.history t }) ∷ []) (do_ask r t)))

abbrev pub refresh_if : Run → FrameRun → Option Run
refresh_if r f = if is_behind r.state f then refresh f.tree r else Some r

abbrev pub catch_up : List ℕ → Run → Option Run
catch_up [] r = Some r
catch_up (t ∷ ts) r = option_and_then (catch_up ts) (option_and_then (refresh_if r) (find_frame r.state t))

-- 5. the queries
unfoldable pub queries_left : State → List Item
queries_left s = flat_map (λ (r : ℕ × List TimedQuery). replicate (length r.1) (items.Reader r.0)) (enumerate_from 1 s.readers)

-- the five in turn
unfoldable pub finale_of : Run → Option Run
finale_of r =
    option_and_then (λ (a : Run). run (queries_left a.state) a)
    (option_and_then (λ (a : Run). catch_up (trees_of a.state) a)
    (option_and_then (λ (a : Run). serve a.state.browser a)
    (option_and_then (λ (a : Run). run (packets_left a.state) a)
    (run (ops_left r.state) r))))

-- the finale, with its own lines, after the run of an order
unfoldable pub finished : Script → List Item → Option Run
finished s o = option_and_then (λ (r : Run). finale_of (without_lines r)) (run o (begin s))
