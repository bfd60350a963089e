-- What the calls of a frame make of it in a run.
use Rattle.std.proofs.Common.{ℕ, ◌≡◌, ◌⊎◌, inl, inr, Bool, true, false, not, List, [], ◌∷◌, ◌++◌, refl, sym, ap, ap₂, ◌∙◌, subst, true≢false, append_assoc, append-nil, if◌then◌else◌, option_to_list, Some, None, Result, Ok, Err, IfOk, OnOk, OnErr}
use Rattle.ax_base.specs.declared.seq.NoMemory.{NoMemory}
use Rattle.ax_tree.specs.declared.edit.Edit.{Edit}
use Rattle.ax_tree.specs.declared.packet.Packet.{Packet}
use Rattle.ax_tree.specs.declared.packet.JEntry.{JEntry}
use Rattle.ax_tree.specs.declared.packet.JEntry.TheVariants as entries
use Rattle.ax_tree.specs.Journals.{Frame, frame_of, is_short, pending, packet_at}
use Rattle.ax_tree.specs.Packets.{Fits}
use Rattle.ax_ask.specs.declared.op.FrameOp.{FrameOp}
use Rattle.ax_ask.specs.declared.op.FrameOp.TheVariants as ops
use Rattle.ax_ask.specs.declared.line.Line.{Line}
use Rattle.ax_ask.specs.declared.line.Line.TheVariants as lines
use Rattle.ax_ask.specs.declared.line.MadeNote.{MadeNote}
use Rattle.ax_ask.specs.declared.line.PassNote.TheVariants as passes
use Rattle.ax_rules.specs.Histories.{got}
use Rattle.ax_run_rules.specs.States.{FrameRun, frame_now}
use Rattle.ax_run_rules.specs.FrameSteps.{entry_of, sent_by, op_line, edit_line, mark_refusal, made_note, packet_now, pass_note}
use Rattle.ax_frame.specs.Frames.{Journaled, with_entry, KeepsFitting as FrameKeeps}
use Rattle.ax_ask.specs.declared.line.UpdateNote.{UpdateNote}
use Rattle.ax_frame.specs.declared.passing.PassOut.{PassOut}
use Rattle.ax_frame.specs.declared.passing.PassOut.TheVariants.{Made}
use Rattle.ax_frame.specs.Passes.{IfMade, IsPass, PassFits, packets_after}
use Rattle.ax_core.specs.FrameRuns.{in_run, IsRuled, Resumes, IsDone, IsBroken, KeepsFitting}

abbrev pub before : Journaled → Frame
before j = frame_of j.tree j.journal

-- ---- by the rule

ruled : (old new : Journaled) (v w : List Packet) (op : FrameOp) (left : List FrameOp) (l : Line) → new ≡ with_entry (entry_of op) old → w ≡ v ++ sent_by old.tree (before old) op → l ≡ op_line old.tree (before old) op
    → IsRuled (in_run old left v) op left (in_run new left w) l
unfolding frame_now
ruled old new v w op left l n s t = record { after = ap₂ (λ (j : Journaled) (u : List Packet). in_run j left u) n s; told = t }

done_ruled : (f g : FrameRun) (op : FrameOp) (left : List FrameOp) (l : Line) → IsRuled f op left g l → IsDone f op left g l
done_ruled f g op left l r = record { is = inl r; whole = λ _. r }

-- an operation that sends nothing
plain_done : (old new : Journaled) (w : List Packet) (op : FrameOp) (left : List FrameOp) (l : Line) → sent_by old.tree (before old) op ≡ [] → new ≡ with_entry (entry_of op) old → l ≡ op_line old.tree (before old) op
    → IsDone (in_run old left w) op left (in_run new left w) l
plain_done old new w op left l s n t = done_ruled _ _ op left l (ruled old new w w op left l n (sym (append-nil w) ∙ ap (λ u. w ++ u) (sym s)) t)

pub edit_done : (r : Result Line NoMemory) (old new : Journaled) (w : List Packet) (e : Edit) → IfOk r (λ l. l ≡ edit_line old.tree (before old).source e) → OnOk r (new ≡ with_entry (entries.Edited e) old)
    → IfOk r (λ l. (left : List FrameOp) → IsDone (in_run old left w) (ops.Edit e) left (in_run new left w) l)
unfolding op_line
edit_done (Ok l) old new w e t n = λ left. plain_done old new w (ops.Edit e) left l refl n t
edit_done (Err x) old new w e t n = tt

pub touch_done : (r : Result Line NoMemory) (old new : Journaled) (w : List Packet) (z : ℕ) → IfOk r (λ l. l ≡ lines.Touched old.tree false z (mark_refusal (before old).source z)) → OnOk r (new ≡ with_entry (entries.Marked z) old)
    → IfOk r (λ l. (left : List FrameOp) → IsDone (in_run old left w) (ops.Touch z) left (in_run new left w) l)
unfolding op_line
touch_done (Ok l) old new w z t n = λ left. plain_done old new w (ops.Touch z) left l refl n t
touch_done (Err x) old new w z t n = tt

pub touch_below_done : (r : Result Line NoMemory) (old new : Journaled) (w : List Packet) (z : ℕ) → IfOk r (λ l. l ≡ lines.Touched old.tree true z (mark_refusal (before old).source z)) → OnOk r (new ≡ with_entry (entries.MarkedBelow z) old)
    → IfOk r (λ l. (left : List FrameOp) → IsDone (in_run old left w) (ops.TouchBelow z) left (in_run new left w) l)
unfolding op_line
touch_below_done (Ok l) old new w z t n = λ left. plain_done old new w (ops.TouchBelow z) left l refl n t
touch_below_done (Err x) old new w z t n = tt

-- ---- packets go on fitting

fits_in_run : (old new : Journaled) (w : List Packet) → new.tree ≡ old.tree → FrameKeeps old new → (left : List FrameOp) → KeepsFitting (in_run old left w) (in_run new left w)
fits_in_run old new w e keeps left h fit = subst (λ t. Fits new.tree new.journal (got h t ++ w)) (sym e) (keeps (got h old.tree ++ w) fit)

pub keeps_in_run : (r : Result Line NoMemory) (old new : Journaled) (w : List Packet) (e : JEntry) → OnOk r (new ≡ with_entry e old) → OnErr r (new ≡ old) → FrameKeeps old new
    → (left : List FrameOp) → KeepsFitting (in_run old left w) (in_run new left w)
keeps_in_run (Ok l) old new w e n m keeps = fits_in_run old new w (ap (λ (j : Journaled). j.tree) n) keeps
keeps_in_run (Err x) old new w e n m keeps = fits_in_run old new w (ap (λ (j : Journaled). j.tree) m) keeps

-- ---- passes

pub on_err : {A E P : Type 0} (r : Result A E) → P → OnErr r P
on_err (Ok x) p = tt
on_err (Err e) p = p

pub pass_broken : (old new : Journaled) (v w : List Packet) → w ≡ v → (new ≡ old) ⊎ ((pending (before old) ≡ true) × (new ≡ with_entry entries.Short old))
    → (left : List FrameOp) → IsBroken (in_run old left v) ops.Pass (in_run new left w)
unfolding frame_now
pass_broken old new v w e (inl n) left = inl (ap₂ (λ (j : Journaled) (u : List Packet). in_run j left u) n e)
pass_broken old new v w e (inr x) left = inr (refl, (x.0, ap₂ (λ (j : Journaled) (u : List Packet). in_run j left u) x.1 e))

not_so : (b : Bool) → true ≡ not b → b ≡ false
not_so true e = absurd (true≢false e)
not_so false e = refl

is_so : (b : Bool) → false ≡ not b → b ≡ true
is_so true e = refl
is_so false e = absurd (true≢false (sym e))

packet_none : (t : ℕ) (f : Frame) → pending f ≡ false → packet_now t f ≡ None
unfolding packet_now
packet_none t f e = ap (λ b. if b then Some (packet_at t f) else None) e

packet_some : (t : ℕ) (f : Frame) → pending f ≡ true → packet_now t f ≡ Some (packet_at t f)
unfolding packet_now
packet_some t f e = ap (λ b. if b then Some (packet_at t f) else None) e

pub idle_done : (old new : Journaled) (v w : List Packet) (t : ℕ) → w ≡ v → t ≡ old.tree → true ≡ not (pending (before old)) → new ≡ with_entry entries.Passed old
    → (left : List FrameOp) → IsDone (in_run old left v) ops.Pass left (in_run new left w) (lines.Passed t passes.Nothing)
unfolding op_line
idle_done old new v w t e own idle n left =
    let none = packet_none old.tree (before old) (not_so (pending (before old)) idle) in
    done_ruled _ _ ops.Pass left (lines.Passed t passes.Nothing)
    (ruled old new v w ops.Pass left (lines.Passed t passes.Nothing) n (e ∙ (sym (append-nil v) ∙ ap (λ o. v ++ option_to_list o) (sym none))) (ap₂ (λ u o. lines.Passed u (pass_note o)) own (sym none)))

plain_note : (p : Packet) → record (made_note p) { resumed = false } ≡ made_note p
unfolding made_note
plain_note p = refl

-- what is true of a pass that made a packet
pub made_so : (o : PassOut) (p : Packet) (resumed : Bool) (notes : List UpdateNote) (P : Packet → Bool → List UpdateNote → Type 0) → o ≡ Made p resumed notes → IfMade o P → P p resumed notes
made_so o p resumed notes P is h =
    let made : IfMade (Made p resumed notes) P = subst (λ (x : PassOut). IfMade x P) is h in
    made

-- what a pass that made a packet did
pub record Sent (old new : Journaled) (v w : List Packet) (p : Packet) (note : MadeNote) : Type 0 where
  pub some : false ≡ not (pending (before old))
  pub packet : IsPass old.tree (before old) p
  pub told : note ≡ record (made_note p) { resumed = is_short old.tree old.journal }
  pub passed : new ≡ with_entry entries.Passed old
  pub waits : w ≡ v ++ p ∷ []

pub sent_done : (old new : Journaled) (v w : List Packet) (t : ℕ) (p : Packet) (note : MadeNote) → t ≡ old.tree → Sent old new v w p note
    → (left : List FrameOp) → IsDone (in_run old left v) ops.Pass left (in_run new left w) (lines.Passed t (passes.Made note))
unfolding op_line frame_now
sent_done old new v w t p note own s left = go (is_short old.tree old.journal) refl
  where
    by_rule : is_short old.tree old.journal ≡ false → IsRuled (in_run old left v) ops.Pass left (in_run new left w) (lines.Passed t (passes.Made note))
    by_rule e =
        let some = packet_some old.tree (before old) (is_so (pending (before old)) s.some) in
        let is : p ≡ packet_at old.tree (before old) = s.packet.whole e in
        let plain : note ≡ made_note (packet_at old.tree (before old)) = s.told ∙ (ap (λ b. record (made_note p) { resumed = b }) e ∙ (plain_note p ∙ ap made_note is)) in
        ruled old new v w ops.Pass left (lines.Passed t (passes.Made note)) s.passed
        (s.waits ∙ (ap (λ x. v ++ x ∷ []) is ∙ ap (λ o. v ++ option_to_list o) (sym some)))
        (ap₂ (λ u n. lines.Passed u (passes.Made n)) own plain ∙ ap (λ o. lines.Passed old.tree (pass_note o)) (sym some))

    by_completion : is_short old.tree old.journal ≡ true → Resumes (in_run old left v) left (in_run new left w) (lines.Passed t (passes.Made note))
    by_completion e = record {
      short = e;
      packet = p;
      made = s.packet;
      after = ap₂ (λ (j : Journaled) (u : List Packet). in_run j left u) s.passed s.waits;
      told = ap₂ (λ u n. lines.Passed u (passes.Made n)) own (s.told ∙ ap (λ b. record (made_note p) { resumed = b }) e);
    }

    go : (b : Bool) → is_short old.tree old.journal ≡ b → IsDone (in_run old left v) ops.Pass left (in_run new left w) (lines.Passed t (passes.Made note))
    go true e = record { is = inr (by_completion e); whole = λ k. by_rule k }
    go false e = record { is = inl (by_rule e); whole = λ k. by_rule k }

pub sent_fits : (old new : Journaled) (v w : List Packet) (r : Result PassOut NoMemory) (p : Packet) (resumed : Bool) (notes : List UpdateNote) → r ≡ Ok (Made p resumed notes) → new ≡ with_entry entries.Passed old → w ≡ v ++ p ∷ []
    → PassFits old r new → (left : List FrameOp) → KeepsFitting (in_run old left v) (in_run new left w)
sent_fits old new v w r p resumed notes is n s keeps left h fit =
    let more : Fits new.tree new.journal ((got h old.tree ++ v) ++ p ∷ []) =
    subst (λ (x : Result PassOut NoMemory). Fits new.tree new.journal (packets_after x (got h old.tree ++ v))) is (keeps (got h old.tree ++ v) fit) in
    subst (λ t. Fits new.tree new.journal (got h t ++ w)) (sym (ap (λ (j : Journaled). j.tree) n))
    (subst (λ l. Fits new.tree new.journal l) (append_assoc (got h old.tree) v (p ∷ []) ∙ ap (λ u. got h old.tree ++ u) (sym s)) more)
