-- The operations that are left of the frames, and the packets that wait, are there in their turn.
use Rattle.std.proofs.Common.{ℕ, zero, suc, ◌≡◌, ◌==◌, Bool, true, false, ◌||◌, List, [], ◌∷◌, ◌++◌, length, map, find, flat_map, replicate, refl, sym, ◌∙◌, subst, Some, option_and_then, true≢false}
use Rattle.ax_trees.specs.Lists.{contains, NoneTwice}
use Rattle.ax_tree.specs.declared.packet.Packet.{Packet}
use Rattle.ax_ask.specs.declared.op.FrameOp.{FrameOp}
use Rattle.ax_ask.specs.declared.op.Item.{Item}
use Rattle.ax_ask.specs.declared.op.Item.TheVariants as items
use Rattle.ax_run_rules.specs.States.{FrameRun, Run, trees_of, find_frame, with_frame}
use Rattle.ax_run_rules.specs.FrameSteps.{do_op}
use Rattle.ax_run_rules.specs.Steps.{do_receive, do_next_op, do_oldest, step, run}
use Rattle.ax_run_rules.specs.Finale.{ops_left, packets_left}
use Rattle.ax_run_laws.proofs.Found.{of_tree, found_in}
use Rattle.ax_finale_laws.proofs.Ends.{Ends, AnyRun, onward, tree_at, swapped, others_stay, Firsts, other_way, each_first}

abbrev Others : ℕ → Run → Run → Type 0
Others u r q = (t : ℕ) → (u == t) ≡ false → find (of_tree t) q.state.frames ≡ find (of_tree t) r.state.frames

-- of the frame of the tree u one less is left, and the other frames are as before
pub record Took (size : FrameRun → ℕ) (u n : ℕ) (r q : Run) : Type 0 where
  pub frame : FrameRun
  pub found : find (of_tree u) q.state.frames ≡ Some frame
  pub rest : size frame ≡ n
  pub others : (t : ℕ) → (u == t) ≡ false → find (of_tree t) q.state.frames ≡ find (of_tree t) r.state.frames

firsts_stay : (u : ℕ) (r q : Run) → Others u r q → (fs : List FrameRun) → contains (map tree_at fs) u ≡ false → Firsts r.state.frames fs → Firsts q.state.frames fs
firsts_stay u r q o [] n h = tt
firsts_stay u r q o (f ∷ fs) n h = go (f.tree == u) refl n (λ m. firsts_stay u r q o fs m h.1)
  where
    go : (b : Bool) → (f.tree == u) ≡ b → (b || contains (map tree_at fs) u) ≡ false → (contains (map tree_at fs) u ≡ false → Firsts q.state.frames fs) → Firsts q.state.frames (f ∷ fs)
    go true e m ih = absurd (true≢false m)
    go false e m ih = (o f.tree (other_way f.tree u e) ∙ h.0, ih m)

module _ (size : FrameRun → ℕ) (turn : ℕ → Item)
    (takes : (r : Run) (u n : ℕ) (g : FrameRun) → find (of_tree u) r.state.frames ≡ Some g → size g ≡ suc n → Ends (Took size u n r) (step r (turn u))) where
  many : (n u : ℕ) (rest : List Item) (r : Run) (g : FrameRun) → find (of_tree u) r.state.frames ≡ Some g → size g ≡ n → ((q : Run) → Others u r q → Ends AnyRun (run rest q))
      → Ends AnyRun (run (replicate n (turn u) ++ rest) r)
  many zero u rest r g found e k = k r (λ t n. refl)
  many (suc n) u rest r g found e k =
      onward (Took size u n r) AnyRun (run (replicate n (turn u) ++ rest))
      (λ q x. many n u rest q x.frame x.found x.rest (λ p y. k p (λ t m. y t m ∙ x.others t m))) (step r (turn u)) (takes r u n g found e)

  all_turns : (fs : List FrameRun) (r : Run) → NoneTwice (map tree_at fs) → Firsts r.state.frames fs → Ends AnyRun (run (flat_map (λ (f : FrameRun). replicate (size f) (turn f.tree)) fs) r)
  all_turns [] r n h = tt
  all_turns (f ∷ fs) r n h =
      many (size f) f.tree (flat_map (λ (g : FrameRun). replicate (size g) (turn g.tree)) fs) r f h.0 refl (λ q y. all_turns fs q n.1 (firsts_stay f.tree r q y fs n.0 h.1))

-- ---- operations of frames

abbrev ops_of : FrameRun → ℕ
ops_of f = length f.left

op_took : (r : Run) (u n : ℕ) (g : FrameRun) → find (of_tree u) r.state.frames ≡ Some g → (os : List FrameOp) → length os ≡ suc n → Ends (Took ops_of u n r) (do_next_op r g os)
unfolding do_op with_frame
op_took r u n g found [] e = absurd (cc)
op_took r u n g found (o ∷ left) e =
    let same = found_in u r.state.frames g found in
    record { frame = _; found = swapped u _ g r.state.frames found same; rest = cc; others = λ t m. others_stay u t _ r.state.frames same m }

frame_takes : (r : Run) (u n : ℕ) (g : FrameRun) → find (of_tree u) r.state.frames ≡ Some g → ops_of g ≡ suc n → Ends (Took ops_of u n r) (step r (items.Frame u))
unfolding step find_frame
frame_takes r u n g found e =
    subst (λ o. Ends (Took ops_of u n r) (option_and_then (λ (f : FrameRun). do_next_op r f f.left) o)) (sym found) (op_took r u n g found g.left e)

pub ops_there : (r : Run) → NoneTwice (trees_of r.state) → Ends AnyRun (run (ops_left r.state) r)
unfolding ops_left
ops_there r n = all_turns ops_of (λ t. items.Frame t) frame_takes r.state.frames r n (each_first r.state.frames n)

-- ---- packets

abbrev pub waits_of : FrameRun → ℕ
waits_of f = length f.waiting

receipt_took : (r : Run) (u n : ℕ) (g : FrameRun) → find (of_tree u) r.state.frames ≡ Some g → (ps : List Packet) → length ps ≡ suc n → Ends (Took waits_of u n r) (do_oldest r g ps)
unfolding do_receive with_frame
receipt_took r u n g found [] e = absurd (cc)
receipt_took r u n g found (p ∷ ps) e =
    let same = found_in u r.state.frames g found in
    record { frame = record g { waiting = ps }; found = swapped u (record g { waiting = ps }) g r.state.frames found same; rest = cc; others = λ t m. others_stay u t (record g { waiting = ps }) r.state.frames same m }

pub receipt_takes : (r : Run) (u n : ℕ) (g : FrameRun) → find (of_tree u) r.state.frames ≡ Some g → waits_of g ≡ suc n → Ends (Took waits_of u n r) (step r (items.Receive u))
unfolding step find_frame
receipt_takes r u n g found e =
    subst (λ o. Ends (Took waits_of u n r) (option_and_then (λ (f : FrameRun). do_oldest r f f.waiting) o)) (sym found) (receipt_took r u n g found g.waiting e)

pub packets_there : (r : Run) → NoneTwice (trees_of r.state) → Ends AnyRun (run (packets_left r.state) r)
unfolding packets_left
packets_there r n = all_turns waits_of (λ t. items.Receive t) receipt_takes r.state.frames r n (each_first r.state.frames n)
