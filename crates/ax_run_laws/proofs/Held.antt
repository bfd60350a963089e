-- In each run the packets received and waiting are those of the frames' journals.
use Rattle.std.proofs.Common.{ℕ, zero, suc, ◌≡◌, ◌==◌, Bool, true, false, if◌then◌else◌, List, [], ◌∷◌, ◌++◌, map, find, refl, sym, ap, ◌∙◌, subst, Option, Some, None, append_assoc, append-nil, option_and_then, option_map, option_to_list, slice_get}
use Rattle.std.proofs.lemmas.Bool.{eqb-true}
use Rattle.ax_tree.specs.declared.packet.Packet.{Packet}
use Rattle.ax_tree.specs.declared.packet.JEntry.{JEntry}
use Rattle.ax_tree.specs.declared.packet.JEntry.TheVariants as entries
use Rattle.ax_tree.specs.declared.packet.HEntry.{HEntry}
use Rattle.ax_tree.specs.declared.packet.HEntry.TheVariants.{Got, Asked, Ended, Probed}
use Rattle.ax_tree.specs.Journals.{Frame, new_frame, frame_of, pending, packet_at, made_at, packets_of}
use Rattle.ax_tree.specs.Packets.{IsGood, Fits}
use Rattle.ax_ask.specs.declared.op.FrameOp.{FrameOp}
use Rattle.ax_ask.specs.declared.op.FrameOp.TheVariants as ops
use Rattle.ax_ask.specs.declared.op.BrowserOp.{BrowserOp}
use Rattle.ax_ask.specs.declared.op.BrowserOp.TheVariants as browsers
use Rattle.ax_ask.specs.declared.op.TimedOp.{TimedOp}
use Rattle.ax_ask.specs.declared.op.Item.{Item}
use Rattle.ax_ask.specs.declared.op.Item.TheVariants as items
use Rattle.ax_ask.specs.declared.query.TimedQuery.{TimedQuery}
use Rattle.ax_rules.specs.Histories.{got}
use Rattle.ax_run_rules.specs.Scripts.{Script, FrameScript}
use Rattle.ax_run_rules.specs.States.{FrameRun, Run, start, begin, frame_now, find_frame, with_frame}
use Rattle.ax_run_rules.specs.FrameSteps.{entry_of, packet_now, sent_by, do_op}
use Rattle.ax_run_rules.specs.Steps.{do_receive, do_ask, do_browser, do_deliver, do_query, do_next_op, do_oldest, do_next_browser, do_next_query, do_reader, step, run}
use Rattle.ax_rules.proofs.Appends.{got-append}
use Rattle.ax_tree.proofs.GoodFronts.{good_front}
use Rattle.ax_laws.proofs.GoodPackets.{packets_push, packets_fit}
use Rattle.ax_rules.specs.Laws.{Agrees}
use Rattle.ax_rules.proofs.Building.{verdicts_agree, applied_accepted}
use Rattle.ax_run_laws.specs.Laws.{HasItsPackets}
use Rattle.ax_run_laws.proofs.Found.{of_tree, replaced, some_same, found_in, other_in, same_in, same_number}

-- all packets are of one tree
abbrev pub AllOf : ℕ → List Packet → Type 0
AllOf t [] = Unit {0}
AllOf t (p ∷ ps) = (p.tree ≡ t) × AllOf t ps

all_of_both : (t : ℕ) (ps qs : List Packet) → AllOf t ps → AllOf t qs → AllOf t (ps ++ qs)
all_of_both t [] qs h k = k
all_of_both t (p ∷ ps) qs h k = (h.0, all_of_both t ps qs h.1 k)

pub record FrameHeld (h : List HEntry) (t : ℕ) (f : FrameRun) : Type 0 where
  pub packets : got h t ++ f.waiting ≡ packets_of t f.journal
  pub waiting : AllOf t f.waiting

pub record Held (fs : List FrameRun) (h : List HEntry) : Type 0 where
  pub at : (t : ℕ) (f : FrameRun) → find (of_tree t) fs ≡ Some f → FrameHeld h t f

-- a frame is replaced, and the history goes on without a packet of another tree
held_with : (fs : List FrameRun) (f g : FrameRun) (h k : List HEntry) → Held fs h → find (of_tree f.tree) fs ≡ Some g → FrameHeld k f.tree f
    → ((t : ℕ) → (f.tree == t) ≡ false → got k t ≡ got h t) → Held (map (replaced f) fs) k
held_with fs f g h k held found new same = record { at = λ t x e. go t x (f.tree == t) refl e }
  where
    go : (t : ℕ) (x : FrameRun) (b : Bool) → (f.tree == t) ≡ b → find (of_tree t) (map (replaced f) fs) ≡ Some x → FrameHeld k t x
    go t x true e q =
        subst (λ u. (y : FrameRun) → find (of_tree u) (map (replaced f) fs) ≡ Some y → FrameHeld k u y) (eqb-true f.tree t e)
        (λ y w. subst (λ z. FrameHeld k f.tree z) (some_same f y (sym (same_in f g fs found) ∙ w)) new) x q
    go t x false e q =
        let old = held.at t x (sym (other_in f t fs e) ∙ q) in record { packets = ap (λ l. l ++ x.waiting) (same t e) ∙ old.packets; waiting = old.waiting }

-- an entry that is no packet
held_entry : (fs : List FrameRun) (h : List HEntry) (e : HEntry) → ((t : ℕ) → got (e ∷ []) t ≡ []) → Held fs h → Held fs (h ++ e ∷ [])
held_entry fs h e none held = record {
  at = λ t f q. let old = held.at t f q in record {
    packets = ap (λ l. l ++ f.waiting) (got-append h (e ∷ []) t ∙ (ap (λ l. got h t ++ l) (none t) ∙ append-nil (got h t))) ∙ old.packets;
    waiting = old.waiting;
  };
}

pub got_own : (p : Packet) (t : ℕ) → p.tree ≡ t → got (Got p ∷ []) t ≡ p ∷ []
unfolding got
got_own p t e = let q : (p.tree == t) ≡ true = ap (λ u. u == t) e ∙ same_number t in rw q refl

pub got_other : (p : Packet) (t : ℕ) → (p.tree == t) ≡ false → got (Got p ∷ []) t ≡ []
unfolding got
got_other p t e = rw e refl

-- ---- operations of frames

pending_made : (b : Bool) (p : Packet) → option_to_list (if b then Some p else None) ≡ (if b then p ∷ [] else [])
pending_made true p = refl
pending_made false p = refl

pub sent_made : (t : ℕ) (f : Frame) (op : FrameOp) → sent_by t f op ≡ made_at t (entry_of op) f
unfolding packet_now
sent_made t f (ops.Edit e) = refl
sent_made t f (ops.Touch z) = refl
sent_made t f (ops.TouchBelow z) = refl
sent_made t f ops.Pass = pending_made (pending f) (packet_at t f)

pending_of : (t : ℕ) (b : Bool) (p : Packet) → p.tree ≡ t → AllOf t (if b then p ∷ [] else [])
pending_of t true p e = (e, tt)
pending_of t false p e = tt

made_of : (t : ℕ) (f : Frame) (e : JEntry) → AllOf t (made_at t e f)
made_of t f (entries.Edited e) = tt
made_of t f (entries.Marked z) = tt
made_of t f (entries.MarkedBelow z) = tt
made_of t f entries.Passed = pending_of t (pending f) (packet_at t f) refl
made_of t f entries.Short = tt
made_of t f (entries.Delivered n) = tt

-- one more entry of a journal, with the packet that it makes
entry_held : (h : List HEntry) (t : ℕ) (f : FrameRun) (e : JEntry) (made : List Packet) (left : List FrameOp) → made ≡ made_at t e (frame_of t f.journal) → FrameHeld h t f
    → FrameHeld h t (record { tree = f.tree; left = left; journal = f.journal ++ e ∷ []; waiting = f.waiting ++ made })
entry_held h t f e made left m old = record {
  packets =
      sym (append_assoc (got h t) f.waiting made)
      ∙ (ap (λ l. l ++ made) old.packets ∙ (ap (λ l. packets_of t f.journal ++ l) m ∙ sym (packets_push t f.journal e (new_frame t))));
  waiting = all_of_both t f.waiting made old.waiting (subst (λ l. AllOf t l) (sym m) (made_of t (frame_of t f.journal) e));
}

abbrev pub AllHeld : Option Run → Type 0
AllHeld None = Unit {0}
AllHeld (Some r) = Held r.state.frames r.state.history

-- f is the frame of its tree in the run
pub record Found (r : Run) (f : FrameRun) : Type 0 where
  pub there : find (of_tree f.tree) r.state.frames ≡ Some f
  pub held : Held r.state.frames r.state.history

pub found_there : (r : Run) (t : ℕ) (f : FrameRun) → find (of_tree t) r.state.frames ≡ Some f → Held r.state.frames r.state.history → Found r f
found_there r t f e h = record { there = ap (λ u. find (of_tree u) r.state.frames) (found_in t r.state.frames f e) ∙ e; held = h }

pub op_held : (r : Run) (f : FrameRun) (os : List FrameOp) → Found r f → AllHeld (do_next_op r f os)
unfolding do_op with_frame frame_now
op_held r f [] x = tt
op_held r f (op ∷ left) x =
    held_with r.state.frames (record { tree = f.tree; left = left; journal = f.journal ++ entry_of op ∷ []; waiting = f.waiting ++ sent_by f.tree (frame_of f.tree f.journal) op })
    f r.state.history r.state.history x.held x.there
    (entry_held r.state.history f.tree f (entry_of op) (sent_by f.tree (frame_of f.tree f.journal) op) left (sent_made f.tree (frame_of f.tree f.journal) op) (x.held.at f.tree f x.there))
    (λ t n. refl)

-- ---- receipts

pub receive_held : (r : Run) (f : FrameRun) (ps : List Packet) → f.waiting ≡ ps → Found r f → AllHeld (do_oldest r f ps)
unfolding do_receive with_frame
receive_held r f [] e x = tt
receive_held r f (p ∷ ps) e x =
    let old = x.held.at f.tree f x.there in
    let own : AllOf f.tree (p ∷ ps) = subst (λ l. AllOf f.tree l) e old.waiting in
    let h = r.state.history in
    held_with r.state.frames (record f { waiting = ps }) f h (h ++ Got p ∷ []) x.held x.there
    (record {
      packets =
          ap (λ l. l ++ ps) (got-append h (Got p ∷ []) f.tree ∙ ap (λ l. got h f.tree ++ l) (got_own p f.tree own.0))
          ∙ (append_assoc (got h f.tree) (p ∷ []) ps ∙ (ap (λ l. got h f.tree ++ l) (sym e) ∙ old.packets));
      waiting = own.1;
    })
    (λ t n. got-append h (Got p ∷ []) t ∙ (ap (λ l. got h t ++ l) (got_other p t (ap (λ u. u == t) own.0 ∙ n)) ∙ append-nil (got h t)))

-- ---- the browser, deliveries, queries

pub browser_op_held : (r : Run) (o : BrowserOp) → Held r.state.frames r.state.history → Held (do_browser r o).state.frames (do_browser r o).state.history
unfolding do_browser do_ask got
browser_op_held r (browsers.Ask t) h = held_entry r.state.frames r.state.history (Asked t) (λ u. refl) h
browser_op_held r (browsers.Destroy t) h = held_entry r.state.frames r.state.history (Ended t) (λ u. refl) h
browser_op_held r (browsers.Probe t u) h = held_entry r.state.frames r.state.history (Probed t u) (λ v. refl) h

browser_held : (r : Run) (os : List TimedOp) → Held r.state.frames r.state.history → AllHeld (do_next_browser r os)
browser_held r [] h = tt
browser_held r (o ∷ left) h = browser_op_held (record r { state = record r.state { browser = left } }) o.op h

same_waiting : (h : List HEntry) (t : ℕ) (f : FrameRun) (j : List JEntry) → FrameHeld h t (record { tree = f.tree; left = f.left; journal = j; waiting = f.waiting ++ [] }) → FrameHeld h t (record f { journal = j })
same_waiting h t f j old = record {
  packets = ap (λ l. got h t ++ l) (sym (append-nil f.waiting)) ∙ old.packets;
  waiting = subst (λ l. AllOf t l) (append-nil f.waiting) old.waiting;
}

pub delivery_held : (r : Run) (f : FrameRun) (n : ℕ) → Found r f → Held (do_deliver r f n).state.frames (do_deliver r f n).state.history
unfolding do_deliver with_frame
delivery_held r f n x =
    let e = entries.Delivered (record { 0 = n }) in
    held_with r.state.frames (record f { journal = f.journal ++ e ∷ [] }) f r.state.history r.state.history x.held x.there
    (same_waiting r.state.history f.tree f (f.journal ++ e ∷ []) (entry_held r.state.history f.tree f e [] f.left refl (x.held.at f.tree f x.there)))
    (λ t m. refl)

query_held : (r : Run) (k : ℕ) (qs : List TimedQuery) → Held r.state.frames r.state.history → AllHeld (do_next_query r k qs)
unfolding do_query
query_held r k [] h = tt
query_held r k (q ∷ left) h = h

reader_held : (r : Run) (k : ℕ) → Held r.state.frames r.state.history → AllHeld (do_reader r k)
reader_held r zero h = tt
reader_held r (suc k) h = go (slice_get r.state.readers k)
  where
    go : (o : Option (List TimedQuery)) → AllHeld (option_and_then (do_next_query r k) o)
    go None = tt
    go (Some qs) = query_held r k qs h

-- ---- steps and runs

-- with the frame that is found, if one is
pub with_found : (r : Run) (o : Option FrameRun) (g : FrameRun → Option Run) → ((f : FrameRun) → o ≡ Some f → AllHeld (g f)) → AllHeld (option_and_then g o)
with_found r None g h = tt
with_found r (Some f) g h = h f refl

pub mapped_found : (r : Run) (o : Option FrameRun) (g : FrameRun → Run) → ((f : FrameRun) → o ≡ Some f → AllHeld (Some (g f))) → AllHeld (option_map g o)
mapped_found r None g h = tt
mapped_found r (Some f) g h = h f refl

pub step_held : (r : Run) (i : Item) → Held r.state.frames r.state.history → AllHeld (step r i)
unfolding step find_frame
step_held r (items.Frame t) h = with_found r (find (of_tree t) r.state.frames) (λ f. do_next_op r f f.left) (λ f e. op_held r f f.left (found_there r t f e h))
step_held r (items.Receive t) h = with_found r (find (of_tree t) r.state.frames) (λ f. do_oldest r f f.waiting) (λ f e. receive_held r f f.waiting refl (found_there r t f e h))
step_held r items.Browser h = browser_held r r.state.browser h
step_held r (items.Deliver t n) h = mapped_found r (find (of_tree t) r.state.frames) (λ f. do_deliver r f n.0) (λ f e. delivery_held r f n.0 (found_there r t f e h))
step_held r (items.Reader k) h = reader_held r k h

then_held : (o : List Item) (q : Option Run) → AllHeld q → ((r : Run) → Held r.state.frames r.state.history → AllHeld (run o r)) → AllHeld (option_and_then (run o) q)
then_held o None h k = tt
then_held o (Some r) h k = k r h

pub run_held : (o : List Item) (r : Run) → Held r.state.frames r.state.history → AllHeld (run o r)
run_held [] r h = h
run_held (i ∷ o) r h = then_held o (step r i) (step_held r i h) (λ q k. run_held o q k)

-- ---- the start

abbrev started : FrameScript → FrameRun
started f = record { tree = f.tree; left = f.ops; journal = []; waiting = [] }

pub start_found : (fs : List FrameScript) (t : ℕ) (f : FrameRun) → find (of_tree t) (map started fs) ≡ Some f → (f.journal ≡ []) × (f.waiting ≡ [])
start_found [] t f h = absurd (cc)
start_found (x ∷ fs) t f h = go (x.tree == t) (λ k. start_found fs t f k) h
  where
    go : (b : Bool) → (find (of_tree t) (map started fs) ≡ Some f → (f.journal ≡ []) × (f.waiting ≡ [])) → (if b then Some (started x) else find (of_tree t) (map started fs)) ≡ Some f → (f.journal ≡ []) × (f.waiting ≡ [])
    go true ih k = let e = some_same (started x) f k in (ap (λ (y : FrameRun). y.journal) (sym e), ap (λ (y : FrameRun). y.waiting) (sym e))
    go false ih k = ih k

start_of : (t : ℕ) (f : FrameRun) → (f.journal ≡ []) × (f.waiting ≡ []) → FrameHeld [] t f
unfolding got
start_of t f e = record { packets = e.1 ∙ ap (packets_of t) (sym e.0); waiting = subst (λ l. AllOf t l) (sym e.1) tt }

pub begin_held : (s : Script) → Held (begin s).state.frames (begin s).state.history
unfolding begin start
begin_held s = record { at = λ t f e. start_of t f (start_found s.frames t f e) }

pub its_packets : (s : Script) (o : List Item) (r : Run) (t : ℕ) (f : FrameRun) → run o (begin s) ≡ Some r → find_frame r.state t ≡ Some f → HasItsPackets r t f
unfolding find_frame
its_packets s o r t f h e =
    let held : AllHeld (Some r) = subst (λ q. AllHeld q) h (run_held o (begin s) (begin_held s)) in
    let x = held.at t f e in
    let fit : Fits t f.journal (got r.state.history t ++ f.waiting) = subst (λ l. Fits t f.journal l) (sym x.packets) (packets_fit t f.journal) in
    record { packets = x.packets; fit = fit; good = good_front t (got r.state.history t) f.waiting fit.good }

-- the next packet of a tree, with those received, is good too
pub next_agrees : (s : Script) (o : List Item) (r : Run) (t : ℕ) (f : FrameRun) (p : Packet) (ps : List Packet) → run o (begin s) ≡ Some r → find_frame r.state t ≡ Some f
    → f.waiting ≡ p ∷ ps → Agrees r.state.history p
unfolding find_frame
next_agrees s o r t f p ps h e w =
    let held : AllHeld (Some r) = subst (λ q. AllHeld q) h (run_held o (begin s) (begin_held s)) in
    let x = held.at t f e in
    let own : AllOf t (p ∷ ps) = subst (λ l. AllOf t l) w x.waiting in
    let all : packets_of t f.journal ≡ (got r.state.history t ++ p ∷ []) ++ ps = sym x.packets ∙ (ap (λ l. got r.state.history t ++ l) w ∙ sym (append_assoc (got r.state.history t) (p ∷ []) ps)) in
    let good : IsGood t (got r.state.history t ++ p ∷ []) =
    good_front t (got r.state.history t ++ p ∷ []) ps (subst (λ l. IsGood t l) all (packets_fit t f.journal).good) in
    let here : IsGood p.tree (got r.state.history p.tree ++ p ∷ []) = subst (λ u. IsGood u (got r.state.history u ++ p ∷ [])) (sym own.0) good in
    record { verdict = verdicts_agree r.state.history p here; accepted = applied_accepted r.state.history p here }
