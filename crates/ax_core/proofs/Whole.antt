-- A step by the rule leaves no frame short where none was.
use Rattle.std.proofs.Common.{ℕ, zero, suc, ◌≡◌, ◌==◌, Bool, true, false, if◌then◌else◌, List, [], ◌∷◌, ◌++◌, map, find, slice_get, refl, ap, ◌∙◌, subst, is_none, Option, Some, None}
use Rattle.std.specs.Prelude.{option_map, option_and_then}
use Rattle.std.specs.List.{All}
use Rattle.std.proofs.lemmas.List.Elements.{All-nil, All-cons, All-head, All-tail}
use Rattle.ax_trees.specs.Trees.{has}
use Rattle.ax_tree.specs.declared.packet.JEntry.{JEntry}
use Rattle.ax_tree.specs.declared.packet.JEntry.TheVariants as entries
use Rattle.ax_tree.specs.declared.packet.Packet.{Packet}
use Rattle.ax_tree.specs.Edits.{refusal}
use Rattle.ax_tree.specs.Journals.{Frame, pending, frame_of, after_entry, after_packet, is_short}
use Rattle.ax_ask.specs.declared.op.FrameOp.{FrameOp}
use Rattle.ax_ask.specs.declared.op.FrameOp.TheVariants as ops
use Rattle.ax_ask.specs.declared.op.BrowserOp.{BrowserOp}
use Rattle.ax_ask.specs.declared.op.BrowserOp.TheVariants as browsers
use Rattle.ax_ask.specs.declared.op.TimedOp.{TimedOp}
use Rattle.ax_ask.specs.declared.op.Item.{Item}
use Rattle.ax_ask.specs.declared.op.Item.TheVariants as items
use Rattle.ax_ask.specs.declared.query.TimedQuery.{TimedQuery}
use Rattle.ax_ask.specs.declared.line.Line.{Line}
use Rattle.ax_rules.proofs.Appends.{frame_of-append}
use Rattle.ax_run_rules.specs.States.{FrameRun, State, Run, find_frame, with_frame, frame_now}
use Rattle.ax_run_rules.specs.FrameSteps.{entry_of, sent_by, do_op}
use Rattle.ax_run_rules.specs.Steps.{do_receive, do_ask, do_browser, do_deliver, do_query, do_next_op, do_oldest, do_next_browser, do_next_query, do_reader, step}
use Rattle.ax_run_laws.proofs.Found.{of_tree, replaced, some_same}
use Rattle.ax_core.specs.Standing.{at, IsWhole}
use Rattle.ax_core.specs.Items.{IsStep}

-- ---- what holds of each frame

module _ (P : FrameRun → Type 0) where
  pub all_found : (t : ℕ) (fs : List FrameRun) (f : FrameRun) → find (of_tree t) fs ≡ Some f → All P fs → P f
  all_found t [] f h a = absurd (cc)
  all_found t (g ∷ fs) f h a = go (g.tree == t) h (λ k. all_found t fs f k (All-tail P g fs a))
    where
      go : (b : Bool) → (if b then Some g else find (of_tree t) fs) ≡ Some f → (find (of_tree t) fs ≡ Some f → P f) → P f
      go true k ih = subst P (some_same g f k) (All-head P g fs a)
      go false k ih = ih k

  all_replaced : (f : FrameRun) (fs : List FrameRun) → P f → All P fs → All P (map (replaced f) fs)
  all_replaced f [] p a = All-nil P
  all_replaced f (g ∷ fs) p a = All-cons P (replaced f g) (map (replaced f) fs) (one (g.tree == f.tree)) (all_replaced f fs p (All-tail P g fs a))
    where
      one : (b : Bool) → P (if b then f else g)
      one true = p
      one false = All-head P g fs a

-- ---- journals

abbrev pub IsLong : FrameRun → Type 0
IsLong f = is_short f.tree f.journal ≡ false

either_whole : (b : Bool) (f g : Frame) → f.short ≡ false → g.short ≡ false → (if b then f else g).short ≡ false
either_whole true f g h k = h
either_whole false f g h k = k

entry_whole : (t : ℕ) (op : FrameOp) (f : Frame) → f.short ≡ false → (after_entry t (entry_of op) f).short ≡ false
entry_whole t (ops.Edit e) f h = either_whole (is_none (refusal e f.source)) _ f h h
entry_whole t (ops.Touch z) f h = either_whole (has f.source.trees z) _ f h h
entry_whole t (ops.TouchBelow z) f h = h
entry_whole t ops.Pass f h = either_whole (pending f) (after_packet f) f refl h

journal_whole : (t : ℕ) (j : List JEntry) (op : FrameOp) → is_short t j ≡ false → is_short t (j ++ entry_of op ∷ []) ≡ false
journal_whole t j op h = ap (λ (f : Frame). f.short) (frame_of-append t j (entry_of op)) ∙ entry_whole t op (frame_of t j) h

-- ---- items

abbrev pub AllWhole : Option Run → Type 0
AllWhole None = Unit {0}
AllWhole (Some r) = IsWhole r.state

pub op_whole : (r : Run) (f : FrameRun) (left : List FrameOp) → IsWhole r.state → IsLong f → AllWhole (do_next_op r f left)
unfolding do_op with_frame
op_whole r f [] w h = tt
op_whole r f (op ∷ left) w h =
    all_replaced IsLong (record { tree = f.tree; left = left; journal = f.journal ++ entry_of op ∷ []; waiting = f.waiting ++ sent_by f.tree (frame_now f) op }) r.state.frames (journal_whole f.tree f.journal op h) w

receive_whole : (r : Run) (f : FrameRun) (ps : List Packet) → IsWhole r.state → IsLong f → AllWhole (do_oldest r f ps)
unfolding do_receive with_frame
receive_whole r f [] w h = tt
receive_whole r f (p ∷ ps) w h = all_replaced IsLong (record f { waiting = ps }) r.state.frames h w

deliver_whole : (r : Run) (f : FrameRun) (n : ℕ) → IsWhole r.state → IsWhole (do_deliver r f n).state
unfolding do_deliver with_frame
deliver_whole r f n w =
    let e = entries.Delivered (record { 0 = n }) in
    all_replaced IsLong (record f { journal = f.journal ++ e ∷ [] }) r.state.frames (ap (λ (x : Frame). x.short) (frame_of-append f.tree f.journal e)) w

browser_op_whole : (r : Run) (o : BrowserOp) → IsWhole r.state → IsWhole (do_browser r o).state
unfolding do_browser do_ask
browser_op_whole r (browsers.Ask t) w = w
browser_op_whole r (browsers.Destroy t) w = w
browser_op_whole r (browsers.Probe t u) w = w

browser_whole : (r : Run) (os : List TimedOp) → IsWhole r.state → AllWhole (do_next_browser r os)
browser_whole r [] w = tt
browser_whole r (o ∷ left) w = browser_op_whole (record r { state = record r.state { browser = left } }) o.op w

query_whole : (r : Run) (k : ℕ) (o : Option (List TimedQuery)) → IsWhole r.state → AllWhole (option_and_then (do_next_query r k) o)
unfolding do_query
query_whole r k None w = tt
query_whole r k (Some []) w = tt
query_whole r k (Some (q ∷ left)) w = w

reader_whole : (r : Run) (n : ℕ) → IsWhole r.state → AllWhole (do_reader r n)
reader_whole r zero w = tt
reader_whole r (suc k) w = query_whole r k (slice_get r.state.readers k) w

-- with the frame that is found, if one is
with_found : (o : Option FrameRun) (g : FrameRun → Option Run) → ((f : FrameRun) → o ≡ Some f → AllWhole (g f)) → AllWhole (option_and_then g o)
with_found None g h = tt
with_found (Some f) g h = h f refl

mapped_found : (o : Option FrameRun) (g : FrameRun → Run) → ((f : FrameRun) → IsWhole (g f).state) → AllWhole (option_map g o)
mapped_found None g h = tt
mapped_found (Some f) g h = h f

rule_whole : (r : Run) (i : Item) → IsWhole r.state → AllWhole (step r i)
unfolding step find_frame
rule_whole r (items.Frame t) w = with_found (find (of_tree t) r.state.frames) (λ f. do_next_op r f f.left) (λ f e. op_whole r f f.left w (all_found IsLong t r.state.frames f e w))
rule_whole r (items.Receive t) w = with_found (find (of_tree t) r.state.frames) (λ f. do_oldest r f f.waiting) (λ f e. receive_whole r f f.waiting w (all_found IsLong t r.state.frames f e w))
rule_whole r items.Browser w = browser_whole r r.state.browser w
rule_whole r (items.Deliver t n) w = mapped_found (find (of_tree t) r.state.frames) (λ f. do_deliver r f n.0) (λ f. deliver_whole r f n.0 w)
rule_whole r (items.Reader k) w = reader_whole r k w

pub step_whole : (s new : State) (i : Item) (l : Line) → IsWhole s → IsStep s i new l → IsWhole new
step_whole s new i l w e =
    let done : AllWhole (Some (record { state = new; lines = l ∷ [] })) = subst (λ q. AllWhole q) e (rule_whole (at s) i w) in
    done
