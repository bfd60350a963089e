-- The run over placed items: after each front of the order its state is told by what the front counts, and each line is the next of the calls'.
use Rattle.std.proofs.Common.{ℕ, zero, suc, ◌≡◌, ◌<◌, ◌==◌, Bool, true, false, List, [], ◌∷◌, ◌++◌, length, map, take, drop, find, filter_map, flat_map, slice_get, refl, sym, ap, ◌∙◌, subst, Option, Some, None, option_map, option_and_then, arith, append_assoc, append-nil, length-append}
use Rattle.std.specs.List.{enumerate_from, cons_option}
use Rattle.std.proofs.lemmas.List.Elements.{filter_map-append}
use Rattle.std.proofs.lemmas.List.{map-append, map-id, drop-append-le}
use Rattle.ax_base.specs.declared.pass.Token.{Token}
use Rattle.ax_trees.specs.Lists.{contains}
use Rattle.ax_trees.proofs.Trees.{by_go}
use Rattle.ax_tree.specs.declared.packet.Packet.{Packet}
use Rattle.ax_tree.specs.declared.packet.JEntry.{JEntry}
use Rattle.ax_tree.specs.declared.packet.JEntry.TheVariants as entries
use Rattle.ax_tree.specs.declared.packet.HEntry.{HEntry}
use Rattle.ax_tree.specs.declared.packet.HEntry.TheVariants as events
use Rattle.ax_tree.specs.declared.edit.Edit.TheVariants as edits
use Rattle.ax_tree.specs.Journals as journals
use Rattle.ax_tree.specs.Journals.{frame_of, made_at, packets_of}
use Rattle.ax_ask.specs.declared.op.FrameOp.{FrameOp}
use Rattle.ax_ask.specs.declared.op.FrameOp.TheVariants as ops
use Rattle.ax_ask.specs.declared.op.BrowserOp.{BrowserOp}
use Rattle.ax_ask.specs.declared.op.BrowserOp.TheVariants as browsers
use Rattle.ax_ask.specs.declared.op.TimedOp.{TimedOp}
use Rattle.ax_ask.specs.declared.op.Item.{Item}
use Rattle.ax_ask.specs.declared.op.Item.TheVariants.{Frame, Receive, Browser, Deliver, Reader}
use Rattle.ax_ask.specs.declared.query.TimedQuery.{TimedQuery}
use Rattle.ax_ask.specs.declared.line.Line.{Line}
use Rattle.ax_ask.specs.declared.line.Line.TheVariants as lines
use Rattle.ax_rules.specs.Histories.{got}
use Rattle.ax_rules.specs.Mirrors.{verdict_of, forest_of}
use Rattle.ax_run_rules.specs.Replies.{answer_of}
use Rattle.ax_run_rules.specs.Scripts.{Script}
use Rattle.ax_run_rules.specs.States.{FrameRun, Run, frame_now, trees_of, forest_now, find_frame, with_frame, with_entry, with_line}
use Rattle.ax_run_rules.specs.FrameSteps.{entry_of, edit_line, op_line, sent_by, do_op}
use Rattle.ax_run_rules.specs.Steps.{name_of, do_receive, do_ask, do_browser, do_deliver, do_query, do_next_op, do_oldest, do_next_browser, do_next_query, step, run}
use Rattle.ax_run_rules.specs.Fair.{is_reader, token_given}
use Rattle.ax_run_rules.specs.Taken.{Closed}
use Rattle.ax_run_laws.proofs.Found.{of_tree, same_number}
use Rattle.ax_run_laws.proofs.Held.{got_other, sent_made}
use Rattle.ax_order_laws.specs.Parts.{op_in, browser_op_in, list_at, list_or, trees_in, journal_or, journal_in, ops_of, IsClosedHub, IsTakenFrom}
use Rattle.ax_order_laws.specs.Told.{is_entry, entry_line, entry_lines, query_line, FrameTold, told_by, lines_or, line_at, placed}
use Rattle.ax_order_laws.proofs.Lists.{take_next, drop_next, get_within, get_some, count, count_hit, count_miss, flat_next, next_left, next_mapped}
use Rattle.ax_order_laws.proofs.Places.{in_frame, event_of, OpNext, PacketNext, Placed, EachPlaced}
use Rattle.ax_order_laws.proofs.Standing.{not_contained}
use Rattle.ax_order_laws.proofs.Bare.{same_line, same_forest}
use Rattle.ax_order_laws.proofs.Own.{map_map, map_same, own, own_entry, own_ranked, own_bare, own_made}
use Rattle.ax_order_laws.proofs.Frames.{frame_there, frame_replaced, numbered_at, numbered_same, numbered_set}
use Rattle.ax_order_laws.proofs.Keeping.{op_of_entry, no_packet, packets_next, got_none, got_one, ops_by, got_there, Kept, kept_next}
use Rattle.ax_order_laws.proofs.Tellings.{told_op, told_entry, told_query}

browser_op_of : (op : BrowserOp) → browser_op_in (event_of op) ≡ op ∷ []
browser_op_of (browsers.Ask t) = refl
browser_op_of (browsers.Destroy t) = refl
browser_op_of (browsers.Probe t u) = refl

own_event : (c : Closed) (op : BrowserOp) → own_entry c (event_of op) ≡ event_of op
own_event c (browsers.Ask t) = refl
own_event c (browsers.Destroy t) = refl
own_event c (browsers.Probe t u) = refl

-- each browser operation adds its entry, with the line of that
pub entry_done : (r : Run) (op : BrowserOp) → do_browser r op ≡ with_line r (with_entry r.state (event_of op)) (entry_line r.state.history (event_of op))
unfolding do_browser do_ask
entry_done r (browsers.Ask t) = refl
entry_done r (browsers.Destroy t) = refl
entry_done r (browsers.Probe t u) = refl

-- an operation of a frame gives no token
op_gives : (u t : ℕ) (f : journals.Frame) (op : FrameOp) → token_given u (op_line t f op) ≡ None
unfolding op_line edit_line
op_gives u t f (ops.Edit (edits.Root n)) = refl
op_gives u t f (ops.Edit (edits.Insert p i n)) = refl
op_gives u t f (ops.Edit (edits.Remove z)) = refl
op_gives u t f (ops.Edit (edits.Move z p i)) = refl
op_gives u t f (ops.Edit (edits.Set e)) = refl
op_gives u t f (ops.Edit (edits.Tree e)) = refl
op_gives u t f (ops.Touch z) = refl
op_gives u t f (ops.TouchBelow z) = refl
op_gives u t f ops.Pass = refl

entries_push : (before h : List HEntry) (e : HEntry) → entry_lines before (h ++ e ∷ []) ≡ entry_lines before h ++ entry_line (before ++ h) e ∷ []
entries_push before [] e = ap (λ b. entry_line b e ∷ []) (sym (append-nil before))
entries_push before (x ∷ h) e =
    ap (λ l. entry_line before x ∷ l) (entries_push (before ++ x ∷ []) h e ∙ ap (λ b. entry_lines (before ++ x ∷ []) h ++ entry_line b e ∷ []) (append_assoc before (x ∷ []) h))

abbrev pub frame_of_parts : ℕ → List FrameOp → List JEntry → List Packet → FrameRun
frame_of_parts t left journal packets = record { tree = t; left = left; journal = journal; waiting = packets }

abbrev pub run_of_parts : List FrameRun → List TimedOp → List (List TimedQuery) → List HEntry → List Line → Run
run_of_parts fs os rs h ls = record { state = record { frames = fs; browser = os; readers = rs; history = h }; lines = ls }

pub same_run : (a b : List FrameRun) (os ps : List TimedOp) (rs qs : List (List TimedQuery)) (h g : List HEntry) (ls ms : List Line) → a ≡ b → os ≡ ps → rs ≡ qs → h ≡ g → ls ≡ ms
    → run_of_parts a os rs h ls ≡ run_of_parts b ps qs g ms
same_run a b os ps rs qs h g ls ms e1 e2 e3 e4 e5 =
    ap (λ x. run_of_parts x os rs h ls) e1
    ∙ (ap (λ x. run_of_parts b x rs h ls) e2 ∙ (ap (λ x. run_of_parts b ps x h ls) e3 ∙ (ap (λ x. run_of_parts b ps qs x ls) e4 ∙ ap (λ x. run_of_parts b ps qs g x) e5)))

module _ (s : Script) (c : Closed) (waiting : List Packet) (looks : List (List ℕ)) (closed : IsClosedHub c waiting looks) (holds : IsTakenFrom s c looks) where
  -- a frame where n entries of its journal and m of the history stand
  abbrev pub frame_by : ℕ → ℕ → ℕ → FrameRun
  frame_by t n m =
      frame_of_parts t (drop (ops_by c looks t n) (ops_of s t)) (take n (journal_in c t)) (drop (got_there c looks t m) (packets_of t (take n (journal_in c t))))

  abbrev pub frame_at : List Item → ℕ → FrameRun
  frame_at b t = frame_by t (count (in_frame t) b) (count is_entry b)

  abbrev pub browser_by : ℕ → List TimedOp
  browser_by m = drop (length (flat_map browser_op_in (take m c.history))) s.browser

  abbrev pub reader_at : List Item → ℕ × List TimedQuery → List TimedQuery
  reader_at b r = drop (count (is_reader r.0) b) r.1

  abbrev pub history_by : ℕ → List HEntry
  history_by m = map (own_entry c) (take m c.history)

  -- the run after the items b
  abbrev pub run_at : List Item → List Line → Run
  run_at b ls = run_of_parts (map (frame_at b) (trees_in c)) (browser_by (count is_entry b)) (map (reader_at b) (enumerate_from 1 s.readers)) (history_by (count is_entry b)) ls

  -- ---- what an item leaves

  same_frame : (b : List Item) (i : Item) (u : ℕ) → in_frame u i ≡ false → is_entry i ≡ false → frame_at (b ++ i ∷ []) u ≡ frame_at b u
  same_frame b i u n m = ap (λ k. frame_by u k (count is_entry (b ++ i ∷ []))) (count_miss (in_frame u) b i n) ∙ ap (frame_by u (count (in_frame u) b)) (count_miss is_entry b i m)

  same_browser : (b : List Item) (i : Item) → is_entry i ≡ false → browser_by (count is_entry b) ≡ browser_by (count is_entry (b ++ i ∷ []))
  same_browser b i m = ap browser_by (sym (count_miss is_entry b i m))

  same_history : (b : List Item) (i : Item) → is_entry i ≡ false → history_by (count is_entry b) ≡ history_by (count is_entry (b ++ i ∷ []))
  same_history b i m = ap history_by (sym (count_miss is_entry b i m))

  same_readers : (b : List Item) (i : Item) → ((k : ℕ) → is_reader k i ≡ false) → map (reader_at b) (enumerate_from 1 s.readers) ≡ map (reader_at (b ++ i ∷ [])) (enumerate_from 1 s.readers)
  same_readers b i n = sym (numbered_same (reader_at b) (reader_at (b ++ i ∷ [])) (λ k x. ap (λ j. drop j x) (count_miss (is_reader k) b i (n k))) 1 s.readers)

  known_by : (t n : ℕ) (e : JEntry) (b : Bool) → contains (trees_in c) t ≡ b → slice_get (journal_in c t) n ≡ Some e → b ≡ true
  known_by t n e true q h = refl
  known_by t n e false q h = absurd (let none : journal_in c t ≡ [] = ap journal_or (not_contained c waiting looks closed t c.frames q) in let bad : None ≡ Some e = ap (λ l. slice_get l n) (sym none) ∙ h in cc)

  -- a tree whose journal has an entry has a frame
  known : (t n : ℕ) (e : JEntry) → slice_get (journal_in c t) n ≡ Some e → contains (trees_in c) t ≡ true
  known t n e h = known_by t n e (contains (trees_in c) t) refl h

  found : (b : List Item) (t n : ℕ) (e : JEntry) → slice_get (journal_in c t) n ≡ Some e → find (of_tree t) (map (frame_at b) (trees_in c)) ≡ Some (frame_at b t)
  found b t n e h = frame_there (frame_at b) (λ u. refl) (trees_in c) t (known t n e h)

  -- ---- an operation of a frame

  op_frame : (b : List Item) (t : ℕ) (x : OpNext c b t) → Kept c looks b
      → frame_at (b ++ Frame t ∷ []) t
      ≡ frame_of_parts t (drop (ops_by c looks t (suc (count (in_frame t) b))) (ops_of s t)) (take (count (in_frame t) b) (journal_in c t) ++ entry_of x.op ∷ [])
      (drop (got_there c looks t (count is_entry b)) (packets_of t (take (count (in_frame t) b) (journal_in c t))) ++ sent_by t (frame_of t (take (count (in_frame t) b) (journal_in c t))) x.op)
  op_frame b t x k =
      let n = count (in_frame t) b in
      let j = take (count (in_frame t) b) (journal_in c t) in
      let left = drop (ops_by c looks t (suc (count (in_frame t) b))) (ops_of s t) in
      let packets : drop (got_there c looks t (count is_entry b)) (packets_of t (take (suc (count (in_frame t) b)) (journal_in c t)))
      ≡ drop (got_there c looks t (count is_entry b)) (packets_of t (take (count (in_frame t) b) (journal_in c t))) ++ sent_by t (frame_of t (take (count (in_frame t) b) (journal_in c t))) x.op =
      ap (drop (got_there c looks t (count is_entry b))) (packets_next t (journal_in c t) (count (in_frame t) b) (entry_of x.op) x.there)
      ∙ (drop-append-le (got_there c looks t (count is_entry b)) (packets_of t (take (count (in_frame t) b) (journal_in c t))) (made_at t (entry_of x.op) (frame_of t (take (count (in_frame t) b) (journal_in c t)))) (k.enough t)
      ∙ ap (λ l. drop (got_there c looks t (count is_entry b)) (packets_of t (take (count (in_frame t) b) (journal_in c t))) ++ l) (sym (sent_made t (frame_of t (take (count (in_frame t) b) (journal_in c t))) x.op))) in
      ap (λ i. frame_by t i (count is_entry (b ++ Frame t ∷ []))) (count_hit (in_frame t) b (Frame t) (same_number t))
      ∙ (ap (frame_by t (suc (count (in_frame t) b))) (count_miss is_entry b (Frame t) refl)
      ∙ (ap (λ l. frame_of_parts t left l (drop (got_there c looks t (count is_entry b)) (packets_of t (take (suc (count (in_frame t) b)) (journal_in c t))))) (take_next (journal_in c t) (count (in_frame t) b) (entry_of x.op) x.there)
      ∙ ap (frame_of_parts t left (take (count (in_frame t) b) (journal_in c t) ++ entry_of x.op ∷ [])) packets))

  op_done : (b : List Item) (t : ℕ) (x : OpNext c b t) (ls : List Line) → Kept c looks b
      → do_op (run_at b ls) (frame_at b t) x.op (drop (ops_by c looks t (suc (count (in_frame t) b))) (ops_of s t))
      ≡ run_at (b ++ Frame t ∷ []) (ls ++ op_line t (frame_of t (take (count (in_frame t) b) (journal_in c t))) x.op ∷ [])
  unfolding do_op with_frame frame_now
  op_done b t x ls k =
      same_run _ _ _ _ _ _ _ _ _ _
      (frame_replaced (frame_at b) (frame_at (b ++ Frame t ∷ [])) _ (λ u. refl) (op_frame b t x k) (λ u q. same_frame b (Frame t) u q refl) (trees_in c))
      (same_browser b (Frame t) refl) (same_readers b (Frame t) (λ i. refl)) (same_history b (Frame t) refl) refl

  op_step : (b : List Item) (t : ℕ) (x : OpNext c b t) (ls : List Line) → Kept c looks b
      → step (run_at b ls) (Frame t) ≡ Some (run_at (b ++ Frame t ∷ []) (ls ++ op_line t (frame_of t (take (count (in_frame t) b) (journal_in c t))) x.op ∷ []))
  unfolding step find_frame
  op_step b t x ls k =
      ap (option_and_then (λ (f : FrameRun). do_next_op (run_at b ls) f f.left)) (found b t (count (in_frame t) b) (entry_of x.op) x.there)
      ∙ (ap (do_next_op (run_at b ls) (frame_at b t)) (next_left op_in (journal_in c t) (ops_of s t) (count (in_frame t) b) (entry_of x.op) x.op (holds.ops t) x.there (op_of_entry x.op))
      ∙ ap Some (op_done b t x ls k))

  -- ---- a delivery

  delivery_frame : (b : List Item) (t : ℕ) (n : Token) → slice_get (journal_in c t) (count (in_frame t) b) ≡ Some (entries.Delivered n)
      → frame_at (b ++ Deliver t n ∷ []) t
      ≡ frame_of_parts t (drop (ops_by c looks t (count (in_frame t) b)) (ops_of s t)) (take (count (in_frame t) b) (journal_in c t) ++ entries.Delivered n ∷ [])
      (drop (got_there c looks t (count is_entry b)) (packets_of t (take (count (in_frame t) b) (journal_in c t))))
  delivery_frame b t n h =
      let packets : packets_of t (take (suc (count (in_frame t) b)) (journal_in c t)) ≡ packets_of t (take (count (in_frame t) b) (journal_in c t)) =
      packets_next t (journal_in c t) (count (in_frame t) b) (entries.Delivered n) h ∙ append-nil (packets_of t (take (count (in_frame t) b) (journal_in c t))) in
      let left : ops_by c looks t (suc (count (in_frame t) b)) ≡ ops_by c looks t (count (in_frame t) b) =
      ap length (flat_next op_in (journal_in c t) (count (in_frame t) b) (entries.Delivered n) h ∙ append-nil (flat_map op_in (take (count (in_frame t) b) (journal_in c t)))) in
      ap (λ i. frame_by t i (count is_entry (b ++ Deliver t n ∷ []))) (count_hit (in_frame t) b (Deliver t n) (same_number t))
      ∙ (ap (frame_by t (suc (count (in_frame t) b))) (count_miss is_entry b (Deliver t n) refl)
      ∙ (ap (λ i. frame_of_parts t (drop i (ops_of s t)) (take (suc (count (in_frame t) b)) (journal_in c t)) (drop (got_there c looks t (count is_entry b)) (packets_of t (take (suc (count (in_frame t) b)) (journal_in c t))))) left
      ∙ (ap (λ l. frame_of_parts t (drop (ops_by c looks t (count (in_frame t) b)) (ops_of s t)) l (drop (got_there c looks t (count is_entry b)) (packets_of t (take (suc (count (in_frame t) b)) (journal_in c t)))))
      (take_next (journal_in c t) (count (in_frame t) b) (entries.Delivered n) h)
      ∙ ap (λ l. frame_of_parts t (drop (ops_by c looks t (count (in_frame t) b)) (ops_of s t)) (take (count (in_frame t) b) (journal_in c t) ++ entries.Delivered n ∷ []) (drop (got_there c looks t (count is_entry b)) l)) packets)))

  delivery_step : (b : List Item) (t : ℕ) (n : Token) (ls : List Line) → slice_get (journal_in c t) (count (in_frame t) b) ≡ Some (entries.Delivered n)
      → step (run_at b ls) (Deliver t n) ≡ Some (run_at (b ++ Deliver t n ∷ []) (ls ++ lines.Delivered t n ∷ []))
  unfolding step find_frame do_deliver with_frame
  delivery_step b t n ls h =
      ap (option_map (λ (f : FrameRun). do_deliver (run_at b ls) f n.0)) (found b t (count (in_frame t) b) (entries.Delivered n) h)
      ∙ ap Some (same_run _ _ _ _ _ _ _ _ _ _
      (frame_replaced (frame_at b) (frame_at (b ++ Deliver t n ∷ [])) _ (λ u. refl) (delivery_frame b t n h) (λ u q. same_frame b (Deliver t n) u q refl) (trees_in c))
      (same_browser b (Deliver t n) refl) (same_readers b (Deliver t n) (λ i. refl)) (same_history b (Deliver t n) refl) refl)

  -- ---- a receipt

  history_next : (m : ℕ) (e : HEntry) → slice_get c.history m ≡ Some e → history_by (suc m) ≡ history_by m ++ own_entry c e ∷ []
  history_next m e h = ap (map (own_entry c)) (take_next c.history m e h) ∙ map-append (own_entry c) (take m c.history) (e ∷ [])

  -- a frame whose packets aren't received by the entry
  frame_beside : (b : List Item) (i : Item) (e : HEntry) (u : ℕ) → slice_get c.history (count is_entry b) ≡ Some e → is_entry i ≡ true → in_frame u i ≡ false → got (e ∷ []) u ≡ []
      → frame_at (b ++ i ∷ []) u ≡ frame_at b u
  frame_beside b i e u h m n none =
      ap (λ k. frame_by u k (count is_entry (b ++ i ∷ []))) (count_miss (in_frame u) b i n)
      ∙ (ap (frame_by u (count (in_frame u) b)) (count_hit is_entry b i m)
      ∙ ap (λ l. frame_of_parts u (drop (ops_by c looks u (count (in_frame u) b)) (ops_of s u)) (take (count (in_frame u) b) (journal_in c u)) (drop (length l) (packets_of u (take (count (in_frame u) b) (journal_in c u)))))
      (got_none c looks (count is_entry b) e u h none))

  receipt_frame : (b : List Item) (p : Packet) → slice_get c.history (count is_entry b) ≡ Some (events.Got p)
      → frame_at (b ++ Receive p.tree ∷ []) p.tree
      ≡ frame_of_parts p.tree (drop (ops_by c looks p.tree (count (in_frame p.tree) b)) (ops_of s p.tree)) (take (count (in_frame p.tree) b) (journal_in c p.tree))
      (drop (suc (got_there c looks p.tree (count is_entry b))) (packets_of p.tree (take (count (in_frame p.tree) b) (journal_in c p.tree))))
  receipt_frame b p h =
      ap (λ k. frame_by p.tree k (count is_entry (b ++ Receive p.tree ∷ []))) (count_miss (in_frame p.tree) b (Receive p.tree) refl)
      ∙ (ap (frame_by p.tree (count (in_frame p.tree) b)) (count_hit is_entry b (Receive p.tree) refl)
      ∙ ap (λ i. frame_of_parts p.tree (drop (ops_by c looks p.tree (count (in_frame p.tree) b)) (ops_of s p.tree)) (take (count (in_frame p.tree) b) (journal_in c p.tree))
      (drop i (packets_of p.tree (take (count (in_frame p.tree) b) (journal_in c p.tree))))) (got_one c looks (count is_entry b) p h))

  receipt_browser : (b : List Item) (i : Item) (e : HEntry) → slice_get c.history (count is_entry b) ≡ Some e → is_entry i ≡ true → browser_op_in e ≡ [] → browser_by (count is_entry b) ≡ browser_by (count is_entry (b ++ i ∷ []))
  receipt_browser b i e h m none =
      sym (ap browser_by (count_hit is_entry b i m)
      ∙ ap (λ l. drop (length l) s.browser) (flat_next browser_op_in c.history (count is_entry b) e h ∙ (ap (λ l. flat_map browser_op_in (take (count is_entry b) c.history) ++ l) none ∙ append-nil (flat_map browser_op_in (take (count is_entry b) c.history)))))

  entry_history : (b : List Item) (i : Item) (e : HEntry) → slice_get c.history (count is_entry b) ≡ Some e → is_entry i ≡ true
      → history_by (count is_entry b) ++ own_entry c e ∷ [] ≡ history_by (count is_entry (b ++ i ∷ []))
  entry_history b i e h m = sym (ap history_by (count_hit is_entry b i m) ∙ history_next (count is_entry b) e h)

  -- the line of an entry is that at the history of the parts
  told_there : (b : List Item) (e : HEntry) → slice_get c.history (count is_entry b) ≡ Some e → entry_line (history_by (count is_entry b)) (own_entry c e) ≡ entry_line (take (count is_entry b) c.history) e
  told_there b (events.Got p) h =
      same_line (history_by (count is_entry b)) (take (count is_entry b) c.history) (events.Got (own c p)) (events.Got p) (own_bare c waiting looks closed (count is_entry b))
      (ap events.Got (own_ranked c waiting looks closed (count is_entry b) p h).head)
  told_there b (events.Asked t) h =
      same_line (history_by (count is_entry b)) (take (count is_entry b) c.history) (events.Asked t) (events.Asked t) (own_bare c waiting looks closed (count is_entry b)) refl
  told_there b (events.Ended t) h =
      same_line (history_by (count is_entry b)) (take (count is_entry b) c.history) (events.Ended t) (events.Ended t) (own_bare c waiting looks closed (count is_entry b)) refl
  told_there b (events.Probed t u) h =
      same_line (history_by (count is_entry b)) (take (count is_entry b) c.history) (events.Probed t u) (events.Probed t u) (own_bare c waiting looks closed (count is_entry b)) refl

  receipt_line : (b : List Item) (p : Packet) → slice_get c.history (count is_entry b) ≡ Some (events.Got p)
      → lines.Received p.tree (verdict_of (history_by (count is_entry b)) (own c p)) ≡ entry_line (take (count is_entry b) c.history) (events.Got p)
  receipt_line b p h =
      ap (λ u. lines.Received u (verdict_of (history_by (count is_entry b)) (own c p))) (ap (λ (q : Packet). q.tree) (sym (own_ranked c waiting looks closed (count is_entry b) p h).head))
      ∙ told_there b (events.Got p) h

  receipt_done : (b : List Item) (p : Packet) (ls : List Line) → slice_get c.history (count is_entry b) ≡ Some (events.Got p)
      → do_receive (run_at b ls) (frame_at b p.tree) (own c p) (drop (suc (got_there c looks p.tree (count is_entry b))) (packets_of p.tree (take (count (in_frame p.tree) b) (journal_in c p.tree))))
      ≡ run_at (b ++ Receive p.tree ∷ []) (ls ++ entry_line (take (count is_entry b) c.history) (events.Got p) ∷ [])
  unfolding do_receive with_frame
  receipt_done b p ls h =
      same_run _ _ _ _ _ _ _ _ _ _
      (frame_replaced (frame_at b) (frame_at (b ++ Receive p.tree ∷ [])) _ (λ u. refl) (receipt_frame b p h)
      (λ u q. frame_beside b (Receive p.tree) (events.Got p) u h refl refl (got_other p u q)) (trees_in c))
      (receipt_browser b (Receive p.tree) (events.Got p) h refl refl) (same_readers b (Receive p.tree) (λ i. refl)) (entry_history b (Receive p.tree) (events.Got p) h refl)
      (ap (λ l. ls ++ l ∷ []) (receipt_line b p h))

  -- a tree with a packet has a frame
  packet_known : (b : List Item) (p : Packet) → slice_get c.history (count is_entry b) ≡ Some (events.Got p) → contains (trees_in c) p.tree ≡ true
  packet_known b p h = by_go (contains (trees_in c) p.tree) (λ q. q)
      (λ q. absurd (let none : journal_in c p.tree ≡ [] = ap journal_or (not_contained c waiting looks closed p.tree c.frames q) in
      let there = (own_ranked c waiting looks closed (count is_entry b) p h).there in
      let bad : None ≡ Some (own c p) = ap (λ j. slice_get (packets_of p.tree j) (got_there c looks p.tree (count is_entry b))) (sym none) ∙ there in cc))

  receipt_step_of : (b : List Item) (p : Packet) (ls : List Line) → slice_get c.history (count is_entry b) ≡ Some (events.Got p)
      → got_there c looks p.tree (count is_entry b) < length (packets_of p.tree (take (count (in_frame p.tree) b) (journal_in c p.tree)))
      → step (run_at b ls) (Receive p.tree) ≡ Some (run_at (b ++ Receive p.tree ∷ []) (ls ++ entry_line (take (count is_entry b) c.history) (events.Got p) ∷ []))
  unfolding step find_frame
  receipt_step_of b p ls h made =
      ap (option_and_then (λ (f : FrameRun). do_oldest (run_at b ls) f f.waiting)) (frame_there (frame_at b) (λ u. refl) (trees_in c) p.tree (packet_known b p h))
      ∙ (ap (do_oldest (run_at b ls) (frame_at b p.tree))
      (drop_next (packets_of p.tree (take (count (in_frame p.tree) b) (journal_in c p.tree))) (got_there c looks p.tree (count is_entry b)) (own c p)
      (own_made c waiting looks closed (count is_entry b) (count (in_frame p.tree) b) p h made))
      ∙ ap Some (receipt_done b p ls h))

  receipt_step : (b : List Item) (t : ℕ) (x : PacketNext c b t) (ls : List Line)
      → step (run_at b ls) (Receive t) ≡ Some (run_at (b ++ Receive t ∷ []) (ls ++ entry_line (take (count is_entry b) c.history) (events.Got x.packet) ∷ []))
  receipt_step b t x ls =
      subst (λ u. step (run_at b ls) (Receive u) ≡ Some (run_at (b ++ Receive u ∷ []) (ls ++ entry_line (take (count is_entry b) c.history) (events.Got x.packet) ∷ []))) x.tree
      (receipt_step_of b x.packet ls x.there
      (subst (λ u. got_there c looks u (count is_entry b) < length (packets_of u (take (count (in_frame u) b) (journal_in c u)))) (sym x.tree) x.made))

  -- ---- a browser operation

  browser_left : (b : List Item) (op : BrowserOp) → slice_get c.history (count is_entry b) ≡ Some (event_of op)
      → (o : TimedOp) × (browser_by (count is_entry b) ≡ o ∷ browser_by (count is_entry (b ++ Browser ∷ []))) × (o.op ≡ op)
  browser_left b op h =
      let m = count is_entry b in
      let next = next_left browser_op_in c.history (map (λ (o : TimedOp). o.op) s.browser) (count is_entry b) (event_of op) op holds.browser h (browser_op_of op) in
      let x = next_mapped (λ (o : TimedOp). o.op) s.browser (length (flat_map browser_op_in (take (count is_entry b) c.history))) op _ next in
      let l = length-append (flat_map browser_op_in (take (count is_entry b) c.history)) (op ∷ []) in
      let f : flat_map browser_op_in (take (suc (count is_entry b)) c.history) ≡ flat_map browser_op_in (take (count is_entry b) c.history) ++ op ∷ [] =
      flat_next browser_op_in c.history (count is_entry b) (event_of op) h ∙ ap (λ l. flat_map browser_op_in (take (count is_entry b) c.history) ++ l) (browser_op_of op) in
      let more : suc (length (flat_map browser_op_in (take (count is_entry b) c.history))) ≡ length (flat_map browser_op_in (take (count is_entry (b ++ Browser ∷ [])) c.history)) =
      (let z : suc (length (flat_map browser_op_in (take (count is_entry b) c.history))) ≡ length (flat_map browser_op_in (take (count is_entry b) c.history) ++ op ∷ []) = omega (arith, l) in z)
      ∙ (ap length (sym f) ∙ ap (λ i. length (flat_map browser_op_in (take i c.history))) (sym (count_hit is_entry b Browser refl))) in
      (x.0, x.1 ∙ ap (λ i. x.0 ∷ drop i s.browser) more, x.2)

  browser_done : (b : List Item) (op : BrowserOp) (ls : List Line) → slice_get c.history (count is_entry b) ≡ Some (event_of op)
      → with_line (run_at b ls) (with_entry (record (run_at b ls).state { browser = browser_by (count is_entry (b ++ Browser ∷ [])) }) (event_of op)) (entry_line (history_by (count is_entry b)) (event_of op))
      ≡ run_at (b ++ Browser ∷ []) (ls ++ entry_line (take (count is_entry b) c.history) (event_of op) ∷ [])
  browser_done b op ls h =
      same_run _ _ _ _ _ _ _ _ _ _
      (sym (map_same (frame_at (b ++ Browser ∷ [])) (frame_at b) (trees_in c) (λ i u e. frame_beside b Browser (event_of op) u h refl refl (no_packet op u))))
      refl (same_readers b Browser (λ i. refl))
      (ap (λ e. history_by (count is_entry b) ++ e ∷ []) (sym (own_event c op)) ∙ entry_history b Browser (event_of op) h refl)
      (ap (λ l. ls ++ l ∷ []) (ap (entry_line (history_by (count is_entry b))) (sym (own_event c op)) ∙ told_there b (event_of op) h))

  browser_step : (b : List Item) (op : BrowserOp) (ls : List Line) → slice_get c.history (count is_entry b) ≡ Some (event_of op)
      → step (run_at b ls) Browser ≡ Some (run_at (b ++ Browser ∷ []) (ls ++ entry_line (take (count is_entry b) c.history) (event_of op) ∷ []))
  unfolding step
  browser_step b op ls h =
      let x = browser_left b op h in
      ap (do_next_browser (run_at b ls)) x.1
      ∙ ap Some (ap (do_browser (record (run_at b ls) { state = record (run_at b ls).state { browser = browser_by (count is_entry (b ++ Browser ∷ [])) } })) x.2
      ∙ (entry_done (record (run_at b ls) { state = record (run_at b ls).state { browser = browser_by (count is_entry (b ++ Browser ∷ [])) } }) op ∙ browser_done b op ls h))

  -- ---- a query

  trees_same : (b : List Item) (ls : List Line) → trees_of (run_at b ls).state ≡ trees_in c
  trees_same b ls = map_map (frame_at b) (λ (f : FrameRun). f.tree) (trees_in c) ∙ map-id (trees_in c)

  query_done : (b : List Item) (k : ℕ) (ls : List Line) (qs : List TimedQuery) (q : TimedQuery) → slice_get s.readers k ≡ Some qs
      → do_query (run_at b ls) k q (drop (suc (count (is_reader (suc k)) b)) qs) ≡ run_at (b ++ Reader (suc k) ∷ []) (ls ++ query_line c k q (count is_entry b) ∷ [])
  unfolding do_query forest_now
  query_done b k ls qs q h =
      same_run _ _ _ _ _ _ _ _ _ _
      (sym (map_same (frame_at (b ++ Reader (suc k) ∷ [])) (frame_at b) (trees_in c) (λ i u e. same_frame b (Reader (suc k)) u refl refl)))
      (same_browser b (Reader (suc k)) refl)
      (numbered_set (reader_at b) (reader_at (b ++ Reader (suc k) ∷ [])) (suc k) (drop (suc (count (is_reader (suc k)) b)) qs)
      (λ i x e. ap (λ j. drop j x) (count_miss (is_reader i) b (Reader (suc k)) e)) 1 k s.readers qs (omega arith) h
      (ap (λ j. drop j qs) (count_hit (is_reader (suc k)) b (Reader (suc k)) (same_number (suc k)))))
      (same_history b (Reader (suc k)) refl)
      (ap (λ f. ls ++ lines.Answered (suc k) (name_of q.query) (answer_of f q.query) ∷ [])
      (ap (λ ts. forest_of ts (history_by (count is_entry b))) (trees_same b ls)
      ∙ same_forest (trees_in c) (history_by (count is_entry b)) (take (count is_entry b) c.history) (own_bare c waiting looks closed (count is_entry b))))

  query_step : (b : List Item) (k : ℕ) (ls : List Line) (qs : List TimedQuery) (q : TimedQuery) → slice_get s.readers k ≡ Some qs → slice_get qs (count (is_reader (suc k)) b) ≡ Some q
      → step (run_at b ls) (Reader (suc k)) ≡ Some (run_at (b ++ Reader (suc k) ∷ []) (ls ++ query_line c k q (count is_entry b) ∷ []))
  unfolding step
  query_step b k ls qs q h a =
      ap (option_and_then (do_next_query (run_at b ls) k)) (numbered_at (reader_at b) 1 k (suc k) s.readers (omega arith) ∙ ap (option_map (λ x. drop (count (is_reader (suc k)) b) x)) h)
      ∙ (ap (do_next_query (run_at b ls) k) (drop_next qs (count (is_reader (suc k)) b) q a) ∙ ap Some (query_done b k ls qs q h))

  -- ---- one item, and many

  -- the tokens that the lines give a tree are those that the history's entries give it
  abbrev pub Given : List Item → List Line → Type 0
  Given b ls = (t : ℕ) → filter_map (token_given t) ls ≡ filter_map (token_given t) (entry_lines [] (take (count is_entry b) c.history))

  given_same : (b : List Item) (i : Item) (ls : List Line) (l : Line) → is_entry i ≡ false → ((t : ℕ) → token_given t l ≡ None) → Given b ls → Given (b ++ i ∷ []) (ls ++ l ∷ [])
  given_same b i ls l m none g t =
      filter_map-append (token_given t) ls (l ∷ [])
      ∙ (ap (λ o. filter_map (token_given t) ls ++ cons_option o []) (none t)
      ∙ (append-nil (filter_map (token_given t) ls)
      ∙ (g t ∙ ap (λ n. filter_map (token_given t) (entry_lines [] (take n c.history))) (sym (count_miss is_entry b i m)))))

  given_entry : (b : List Item) (i : Item) (ls : List Line) (e : HEntry) → is_entry i ≡ true → slice_get c.history (count is_entry b) ≡ Some e → Given b ls
      → Given (b ++ i ∷ []) (ls ++ entry_line (take (count is_entry b) c.history) e ∷ [])
  given_entry b i ls e m h g t =
      filter_map-append (token_given t) ls (entry_line (take (count is_entry b) c.history) e ∷ [])
      ∙ (ap (λ l. l ++ filter_map (token_given t) (entry_line (take (count is_entry b) c.history) e ∷ [])) (g t)
      ∙ (sym (filter_map-append (token_given t) (entry_lines [] (take (count is_entry b) c.history)) (entry_line (take (count is_entry b) c.history) e ∷ []))
      ∙ (ap (filter_map (token_given t)) (sym (entries_push [] (take (count is_entry b) c.history) e))
      ∙ (ap (λ l. filter_map (token_given t) (entry_lines [] l)) (sym (take_next c.history (count is_entry b) e h))
      ∙ ap (λ n. filter_map (token_given t) (entry_lines [] (take n c.history))) (sym (count_hit is_entry b i m))))))

  record Stepped (b : List Item) (i : Item) (ls : List Line) : Type 0 where
    line : Line
    given : Given b ls → Given (b ++ i ∷ []) (ls ++ line ∷ [])
    steps : step (run_at b ls) i ≡ Some (run_at (b ++ i ∷ []) (ls ++ line ∷ []))
    told : line_at (told_by s c looks) b i ≡ Some line

  record Asks (k j : ℕ) : Type 0 where
    queries : List TimedQuery
    query : TimedQuery
    reader : slice_get s.readers k ≡ Some queries
    there : slice_get queries j ≡ Some query

  asks_by : (k j : ℕ) (o : Option (List TimedQuery)) → slice_get s.readers k ≡ o → j < length (list_or o) → Asks k j
  asks_by k j None e l = absurd (omega arith)
  asks_by k j (Some qs) e l = let x = get_some qs j l in record { queries = qs; query = x.0; reader = e; there = x.1 }

  asks : (k j n : ℕ) → slice_get (list_at looks k) j ≡ Some n → Asks k j
  asks k j n h = asks_by k j (slice_get s.readers k) refl (let a = get_within (list_at looks k) j n h in let b = holds.queries k in omega (arith, a, b))

  item_step : (b : List Item) (i : Item) (ls : List Line) → Placed c looks b i → Kept c looks b → Stepped b i ls
  item_step b (Frame t) ls x k = record {
    line = op_line t (frame_of t (take (count (in_frame t) b) (journal_in c t))) x.op;
    steps = op_step b t x ls k;
    given = given_same b (Frame t) ls (op_line t (frame_of t (take (count (in_frame t) b) (journal_in c t))) x.op) refl (λ u. op_gives u t (frame_of t (take (count (in_frame t) b) (journal_in c t))) x.op);
    told = ap (slice_get (lines_or (find (λ (f : FrameTold). f.tree == t) (told_by s c looks).frames))) (k.ops t) ∙ told_op s c looks t (count (in_frame t) b) x.op x.there;
  }
  item_step b (Receive t) ls x k = record { line = entry_line (take (count is_entry b) c.history) (events.Got x.packet); steps = receipt_step b t x ls; given = given_entry b (Receive t) ls (events.Got x.packet) refl x.there; told = told_entry s c looks (count is_entry b) (events.Got x.packet) x.there }
  item_step b Browser ls x k = record { line = entry_line (take (count is_entry b) c.history) (event_of x.op); steps = browser_step b x.op ls x.there; given = given_entry b Browser ls (event_of x.op) refl x.there; told = told_entry s c looks (count is_entry b) (event_of x.op) x.there }
  item_step b (Deliver t n) ls x k = record { line = lines.Delivered t n; steps = delivery_step b t n ls x; given = given_same b (Deliver t n) ls (lines.Delivered t n) refl (λ u. refl); told = refl }
  item_step b (Reader zero) ls x k = absurd x
  item_step b (Reader (suc j)) ls x k =
      let a = asks j (count (is_reader (suc j)) b) (count is_entry b) x in
      record {
        line = query_line c j a.query (count is_entry b);
        steps = query_step b j ls a.queries a.query a.reader a.there;
        given = given_same b (Reader (suc j)) ls (query_line c j a.query (count is_entry b)) refl (λ u. refl);
        told = told_query s c looks j (count (is_reader (suc j)) b) (count is_entry b) a.queries a.query a.reader a.there x;
      }

  pub record Walked (b o : List Item) (ls : List Line) : Type 0 where
    pub new : List Line
    pub ends : run o (run_at b ls) ≡ Some (run_at (b ++ o) (ls ++ new))
    pub told : placed (told_by s c looks) b o ≡ Some new
    pub given : Given b ls → Given (b ++ o) (ls ++ new)

  pub walked : (o b : List Item) (ls : List Line) → EachPlaced c looks b o → Kept c looks b → Walked b o ls
  walked [] b ls p k = record {
    new = [];
    ends = ap Some (ap (λ l. run_at l ls) (sym (append-nil b)) ∙ ap (run_at (b ++ [])) (sym (append-nil ls)));
    told = refl;
    given = λ g t. ap (filter_map (token_given t)) (append-nil ls) ∙ (g t ∙ ap (λ l. filter_map (token_given t) (entry_lines [] (take (count is_entry l) c.history))) (sym (append-nil b)));
  }
  walked (i ∷ o) b ls p k =
      let one = item_step b i ls p.0 k in
      let rest = walked o (b ++ i ∷ []) (ls ++ one.line ∷ []) p.1 (kept_next c looks b i p.0 k) in
      record {
        new = one.line ∷ rest.new;
        ends = ap (option_and_then (run o)) one.steps ∙ (rest.ends ∙ ap Some (ap (λ l. run_at l ((ls ++ one.line ∷ []) ++ rest.new)) (append_assoc b (i ∷ []) o)
            ∙ ap (run_at (b ++ i ∷ o)) (append_assoc ls (one.line ∷ []) rest.new)));
        told = ap (option_and_then (λ (x : Line). option_map (λ (xs : List Line). x ∷ xs) (placed (told_by s c looks) (b ++ i ∷ []) o))) one.told
            ∙ ap (option_map (λ (xs : List Line). one.line ∷ xs)) rest.told;
        given = λ g t. ap (filter_map (token_given t)) (sym (append_assoc ls (one.line ∷ []) rest.new))
            ∙ (rest.given (one.given g) t ∙ ap (λ l. filter_map (token_given t) (entry_lines [] (take (count is_entry l) c.history))) (append_assoc b (i ∷ []) o));
      }
