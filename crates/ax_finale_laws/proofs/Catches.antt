-- Each tree that is behind can be asked anew: its frame is there, and its next pass makes a packet.
use Rattle.std.proofs.Common.{ℕ, suc, ◌≡◌, Bool, true, false, not, ◌&&◌, ◌||◌, if◌then◌else◌, List, [], ◌∷◌, ◌++◌, length, find, refl, sym, ap, ◌∙◌, subst, Option, Some, None, option_and_then, option_map, true≢false}
use Rattle.ax_trees.specs.Trees.{is_bare}
use Rattle.ax_trees.specs.Lists.{contains, is_nil}
use Rattle.ax_tree.specs.declared.packet.Packet.{Packet}
use Rattle.ax_tree.specs.declared.packet.JEntry.{JEntry}
use Rattle.ax_tree.specs.declared.packet.JEntry.TheVariants as entries
use Rattle.ax_tree.specs.Journals.{Frame, frame_of, pending, packet_at}
use Rattle.ax_ask.specs.declared.op.FrameOp.TheVariants as ops
use Rattle.ax_ask.specs.declared.op.TimedOp.{TimedOp}
use Rattle.ax_ask.specs.declared.op.Item.TheVariants as items
use Rattle.ax_rules.specs.Histories.{is_gone}
use Rattle.ax_run_rules.specs.States.{FrameRun, State, Run, frame_now, find_frame, with_frame}
use Rattle.ax_run_rules.specs.FrameSteps.{packet_now, do_op}
use Rattle.ax_run_rules.specs.Steps.{next_token, do_ask, do_deliver, step, run}
use Rattle.ax_run_rules.specs.Finale.{is_behind, pass_of, refresh, refresh_if, catch_up}
use Rattle.ax_rules.proofs.Appends.{frame_of-append}
use Rattle.ax_run_laws.proofs.Found.{of_tree, found_in}
use Rattle.ax_run_laws.proofs.Quiet.{AllRun}
use Rattle.ax_run_laws.proofs.Kept.{KeepsRuns, Kept, catch_up_kept}
use Rattle.ax_finale_laws.proofs.Ends.{Ends, AnyRun, onward, joined, swapped, has_frame}
use Rattle.ax_finale_laws.proofs.Turns.{Took, waits_of, receipt_takes}
use Rattle.ax_finale_laws.proofs.Asks.{AnyFrame}
use Rattle.ax_run_laws.proofs.CatchUp.{one_sent, pending_reset}

-- the tree's next pass makes a packet
record Sends (t : ℕ) (r : Run) : Type 0 where
  frame : FrameRun
  found : find (of_tree t) r.state.frames ≡ Some frame
  sends : pending (frame_of frame.tree frame.journal) ≡ true

-- a packet of the tree waits
record Waits (t : ℕ) (r : Run) : Type 0 where
  frame : FrameRun
  found : find (of_tree t) r.state.frames ≡ Some frame
  more : ℕ
  waiting : waits_of frame ≡ suc more

abbrev delivered : ℕ → JEntry
delivered n = entries.Delivered (record { 0 = n })

-- after a delivery the whole source is to be sent
sends_all : (t n : ℕ) (j : List JEntry) → is_bare (frame_of t j).source.trees ≡ false → pending (frame_of t (j ++ delivered n ∷ [])) ≡ true
sends_all t n j h =
    let g = frame_of t (j ++ delivered n ∷ []) in
    let a : is_bare g.source.trees ≡ is_bare (frame_of t j).source.trees = ap (λ (f : Frame). is_bare f.source.trees) (frame_of-append t j (delivered n)) in
    let b : is_bare g.sent.trees ≡ true = ap (λ (f : Frame). is_bare f.sent.trees) (frame_of-append t j (delivered n)) in
    pending_reset (is_bare g.source.trees) (is_bare g.sent.trees) (not (is_nil g.marks) || g.flag) (a ∙ h) b

delivered_sends : (r : Run) (t n : ℕ) (f : FrameRun) → find (of_tree t) r.state.frames ≡ Some f → is_bare (frame_of f.tree f.journal).source.trees ≡ false → Sends t (do_deliver r f n)
unfolding do_deliver with_frame
delivered_sends r t n f found h =
    let x : FrameRun = record f { journal = f.journal ++ delivered n ∷ [] } in
    record { frame = x; found = swapped t x f r.state.frames found (found_in t r.state.frames f found); sends = sends_all f.tree n f.journal h }

asked_found : (r : Run) (t : ℕ) (f : FrameRun) → find (of_tree t) r.state.frames ≡ Some f → find (of_tree t) (do_ask r t).state.frames ≡ Some f
unfolding do_ask
asked_found r t f found = found

deliver_sends : (r : Run) (t n : ℕ) (f : FrameRun) → find (of_tree t) r.state.frames ≡ Some f → is_bare (frame_of f.tree f.journal).source.trees ≡ false
    → Ends (Sends t) (run (items.Deliver t (record { 0 = n }) ∷ []) r)
unfolding step find_frame
deliver_sends r t n f found h =
    subst (λ o. Ends (Sends t) (option_and_then (run []) (option_map (λ (g : FrameRun). do_deliver r g n) o))) (sym found) (delivered_sends r t n f found h)

one_more : (ps : List Packet) (p : Packet) → length (ps ++ p ∷ []) ≡ suc (length ps)
one_more [] p = refl
one_more (q ∷ ps) p = ap suc (one_more ps p)

passed_waits : (r : Run) (t : ℕ) (s : Sends t r) → Waits t (do_op r s.frame ops.Pass s.frame.left)
unfolding do_op with_frame frame_now packet_now
passed_waits r t s =
    let f = s.frame in
    let g = frame_of f.tree f.journal in
    record {
      frame = _;
      found = swapped t _ f r.state.frames s.found (found_in t r.state.frames f s.found);
      more = length f.waiting;
      waiting = ap (λ l. length (f.waiting ++ l)) (one_sent (pending g) (packet_at f.tree g) s.sends) ∙ one_more f.waiting (packet_at f.tree g);
    }

pass_waits : (r : Run) (t : ℕ) → Sends t r → Ends (Waits t) (pass_of r t)
unfolding pass_of find_frame
pass_waits r t s = subst (λ o. Ends (Waits t) (option_map (λ (f : FrameRun). do_op r f ops.Pass f.left) o)) (sym s.found) (passed_waits r t s)

receive_there : (r : Run) (t : ℕ) → Waits t r → Ends AnyRun (run (items.Receive t ∷ []) r)
receive_there r t w = onward (Took waits_of t w.more r) AnyRun (run []) (λ q k. tt) (step r (items.Receive t)) (receipt_takes r t w.more w.frame w.found w.waiting)

refresh_there : (r : Run) (t : ℕ) (f : FrameRun) → find (of_tree t) r.state.frames ≡ Some f → is_bare (frame_of f.tree f.journal).source.trees ≡ false → Ends AnyRun (refresh t r)
unfolding refresh
refresh_there r t f found h =
    let o = run (items.Deliver t (record { 0 = next_token r.state.history t }) ∷ []) (do_ask r t) in
    onward (Waits t) AnyRun (run (items.Receive t ∷ [])) (λ q w. receive_there q t w) (option_and_then (λ q. pass_of q t) o)
    (onward (Sends t) (Waits t) (λ q. pass_of q t) (λ q s. pass_waits q t s) o
    (deliver_sends (do_ask r t) t (next_token r.state.history t) f (asked_found r t f found) h))

behind_rooted : (a b c : Bool) → (not a && (not b && c)) ≡ true → b ≡ false
behind_rooted true b c h = absurd (true≢false (sym h))
behind_rooted false true c h = absurd (true≢false (sym h))
behind_rooted false false c h = refl

is_rooted : (s : State) (f : FrameRun) → is_behind s f ≡ true → is_bare (frame_of f.tree f.journal).source.trees ≡ false
unfolding is_behind frame_now
is_rooted s f h = behind_rooted (is_gone s.history f.tree) (is_bare (frame_of f.tree f.journal).source.trees) _ h

refreshed_there : (r : Run) (f : FrameRun) → find (of_tree f.tree) r.state.frames ≡ Some f → Ends AnyRun (refresh_if r f)
refreshed_there r f found = go (is_behind r.state f) refl
  where
    go : (b : Bool) → is_behind r.state f ≡ b → Ends AnyRun (if b then refresh f.tree r else Some r)
    go true e = refresh_there r f.tree f found (is_rooted r.state f e)
    go false e = tt

caught_there : (r : Run) (t : ℕ) (f : FrameRun) → find (of_tree t) r.state.frames ≡ Some f → Ends AnyRun (option_and_then (refresh_if r) (find_frame r.state t))
unfolding find_frame
caught_there r t f found =
    let there : find (of_tree f.tree) r.state.frames ≡ Some f = ap (λ u. find (of_tree u) r.state.frames) (found_in t r.state.frames f found) ∙ found in
    subst (λ o. Ends AnyRun (option_and_then (refresh_if r) o)) (sym found) (refreshed_there r f there)

-- trees of the list
abbrev pub AllIn : List ℕ → List ℕ → Type 0
AllIn all [] = Unit {0}
AllIn all (t ∷ ts) = (contains all t ≡ true) × AllIn all ts

module _ (B : List TimedOp → Type 0) (keeps : KeepsRuns AnyFrame B) (d : ℕ → Bool) (all : List ℕ) where
  abbrev K : Run → Type 0
  K r = Kept AnyFrame B d all r

  alone : (o : Option Run) → AllRun K (option_and_then (catch_up []) o) → AllRun K o
  alone None k = tt
  alone (Some r) k = k

  pub catch_up_there : (ts : List ℕ) (r : Run) → AllIn all ts → K r → Ends K (catch_up ts r)
  catch_up_there [] r a k = k
  catch_up_there (t ∷ ts) r a k =
      let x = has_frame t r.state.frames (ap (λ l. contains l t) k.trees ∙ a.0) in
      let o = option_and_then (refresh_if r) (find_frame r.state t) in
      onward K K (catch_up ts) (λ q y. catch_up_there ts q a.1 y) o
      (joined AnyRun K K (λ q u y. y) o (caught_there r t x.0 x.1) (alone o (catch_up_kept AnyFrame B d all keeps (t ∷ []) r k)))
