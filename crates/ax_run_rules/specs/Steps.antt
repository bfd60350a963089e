-- One step of a run, and the run of an order.
use Rattle.std.specs.Prelude.{ℕ, zero, suc, if◌then◌else◌, ◌+◌, List, [], ◌∷◌, ◌++◌, slice_get, slice_set, Option, Some, None, option_map, option_and_then, Result, Ok, Err}
use Rattle.ax_trees.specs.Trees.{count}
use Rattle.ax_tree.specs.declared.packet.Packet.{Packet}
use Rattle.ax_tree.specs.declared.packet.JEntry.TheVariants as entries
use Rattle.ax_tree.specs.declared.packet.HEntry.{HEntry}
use Rattle.ax_tree.specs.declared.packet.HEntry.TheVariants as events
use Rattle.ax_tree.specs.declared.update.TreeUpdate.{TreeUpdate}
use Rattle.ax_tree.specs.declared.update.Refusal as update
use Rattle.ax_tree.specs.Tree.{Tree}
use Rattle.ax_tree.specs.Updates.{applied}
use Rattle.ax_ask.specs.declared.op.FrameOp.{FrameOp}
use Rattle.ax_ask.specs.declared.op.BrowserOp.{BrowserOp}
use Rattle.ax_ask.specs.declared.op.BrowserOp.TheVariants as browsers
use Rattle.ax_ask.specs.declared.op.TimedOp.{TimedOp}
use Rattle.ax_ask.specs.declared.op.Item.{Item}
use Rattle.ax_ask.specs.declared.op.Item.TheVariants as items
use Rattle.ax_ask.specs.declared.query.Query.{Query}
use Rattle.ax_ask.specs.declared.query.Query.TheVariants as queries
use Rattle.ax_ask.specs.declared.query.QueryName.{QueryName}
use Rattle.ax_ask.specs.declared.query.QueryName.TheVariants as names
use Rattle.ax_ask.specs.declared.query.TimedQuery.{TimedQuery}
use Rattle.ax_ask.specs.declared.line.Line.TheVariants as lines
use Rattle.ax_ask.specs.declared.line.ProbeNote.{ProbeNote}
use Rattle.ax_ask.specs.declared.line.ProbeNote.TheVariants as probes
use Rattle.ax_rules.specs.Histories.{is_gone, token_of}
use Rattle.ax_rules.specs.Mirrors.{mirror_of, verdict_of}
use Rattle.ax_run_rules.specs.Replies.{answer_of}
use Rattle.ax_run_rules.specs.States.{FrameRun, Run, forest_now, find_frame, with_frame, with_entry, with_line}
use Rattle.ax_run_rules.specs.FrameSteps.{do_op}

-- a receipt of the packet p, after which these wait
unfoldable pub do_receive : Run → FrameRun → Packet → List Packet → Run
do_receive r f p waiting =
    with_line r (with_entry (with_frame r.state (record f { waiting = waiting })) (events.Got p)) (lines.Received f.tree (verdict_of r.state.history p))

-- the token that asking a live tree gives
abbrev pub next_token : List HEntry → ℕ → ℕ
next_token h t = token_of h t + 1

unfoldable pub do_ask : Run → ℕ → Run
do_ask r t =
    with_line r (with_entry r.state (events.Asked t))
    (lines.Asked t (if is_gone r.state.history t then None else Some (record { 0 = next_token r.state.history t })))

-- a probe changes nothing but the history
abbrev pub probe_result : Result Tree update.Refusal → ProbeNote
probe_result (Ok m) = probes.Accepted (count m.trees)
probe_result (Err e) = probes.Refused e

unfoldable pub probe_note : List HEntry → ℕ → TreeUpdate → ProbeNote
probe_note h t u = if is_gone h t then probes.Gone else probe_result (applied u (mirror_of h t))

unfoldable pub do_browser : Run → BrowserOp → Run
do_browser r (browsers.Ask t) = do_ask r t
do_browser r (browsers.Destroy t) = with_line r (with_entry r.state (events.Ended t)) (lines.Destroyed t (is_gone r.state.history t))
do_browser r (browsers.Probe t u) = with_line r (with_entry r.state (events.Probed t u)) (lines.Probed t (probe_note r.state.history t u))

unfoldable pub do_deliver : Run → FrameRun → ℕ → Run
do_deliver r f n =
    with_line r (with_frame r.state (record f { journal = f.journal ++ entries.Delivered (record { 0 = n }) ∷ [] })) (lines.Delivered f.tree (record { 0 = n }))

abbrev pub name_of : Query → QueryName
name_of (queries.Node p) = names.Node
name_of (queries.Parent p) = names.Parent
name_of (queries.Children p) = names.Children
name_of (queries.Next p) = names.Next
name_of (queries.Prev p) = names.Prev
name_of (queries.Bounds p) = names.Bounds
name_of (queries.UParent p) = names.UParent
name_of (queries.UChildren p) = names.UChildren
name_of (queries.UNext p) = names.UNext
name_of (queries.UPrev p) = names.UPrev
name_of (queries.UText p) = names.UText
name_of (queries.Hit p) = names.Hit
name_of queries.Focus = names.Focus
name_of (queries.Offset x) = names.Offset
name_of (queries.Leaf x) = names.Leaf
name_of (queries.Up x) = names.Up
name_of (queries.Compare x y) = names.Compare
name_of (queries.Text x y) = names.Text
name_of (queries.Move x u w) = names.Move

-- the reader at the place k, from 0, asks the query, and these are left
unfoldable pub do_query : Run → ℕ → TimedQuery → List TimedQuery → Run
do_query r k q left =
    with_line r (record r.state { readers = slice_set r.state.readers k left }) (lines.Answered (suc k) (name_of q.query) (answer_of (forest_now r.state) q.query))

-- ---- items; none where the item isn't there

abbrev pub do_next_op : Run → FrameRun → List FrameOp → Option Run
do_next_op r f [] = None
do_next_op r f (op ∷ left) = Some (do_op r f op left)

abbrev pub do_oldest : Run → FrameRun → List Packet → Option Run
do_oldest r f [] = None
do_oldest r f (p ∷ waiting) = Some (do_receive r f p waiting)

abbrev pub do_next_browser : Run → List TimedOp → Option Run
do_next_browser r [] = None
do_next_browser r (o ∷ left) = Some (do_browser (record r { state = record r.state { browser = left } }) o.op)

abbrev pub do_next_query : Run → ℕ → List TimedQuery → Option Run
do_next_query r k [] = None
do_next_query r k (q ∷ left) = Some (do_query r k q left)

-- the next query of the reader of a number
abbrev pub do_reader : Run → ℕ → Option Run
do_reader r zero = None
do_reader r (suc k) = option_and_then (do_next_query r k) (slice_get r.state.readers k)

unfoldable pub step : Run → Item → Option Run
step r (items.Frame t) = option_and_then (λ (f : FrameRun). do_next_op r f f.left) (find_frame r.state t)
step r (items.Receive t) = option_and_then (λ (f : FrameRun). do_oldest r f f.waiting) (find_frame r.state t)
step r items.Browser = do_next_browser r r.state.browser
step r (items.Deliver t n) = option_map (λ (f : FrameRun). do_deliver r f n.0) (find_frame r.state t)
step r (items.Reader k) = do_reader r k

abbrev pub run : List Item → Run → Option Run
run [] r = Some r
run (i ∷ o) r = option_and_then (run o) (step r i)
