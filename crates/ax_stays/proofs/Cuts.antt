-- The places of the passes that made a frame's packets.
use Rattle.std.proofs.Common.{◌≡◌, ◌⊎◌, ⊎_elim, ℕ, suc, ◌+◌, ◌-◌, Bool, true, false, not, List, [], ◌∷◌, ◌++◌, length, map, take, append-nil, add-one, Result, Ok, Err, OnOk, OnErr, if◌then◌else◌, sym, refl, ap, ◌∙◌}
use Rattle.ax_base.specs.declared.seq.NoMemory.{NoMemory}
use Rattle.ax_base.specs.declared.pass.Token.{Token}
use Rattle.ax_tree.specs.declared.edit.Edit.{Edit}
use Rattle.ax_tree.specs.declared.edit.EditErr.{EditErr}
use Rattle.ax_tree.specs.declared.edit.EditErr.TheVariants as edits
use Rattle.ax_tree.specs.declared.edit.MarkErr.{MarkErr}
use Rattle.ax_tree.specs.declared.edit.MarkErr.TheVariants as marks
use Rattle.ax_tree.specs.declared.packet.JEntry.{JEntry}
use Rattle.ax_tree.specs.declared.packet.JEntry.TheVariants.{Edited, Passed, Short, Delivered}
use Rattle.ax_tree.specs.declared.packet.Packet.{Packet}
use Rattle.ax_tree.specs.Journals.{Frame, frame_of, made_at, packet_at, pending}
use Rattle.ax_frame.specs.declared.passing.PassOut.{PassOut}
use Rattle.ax_frame.specs.declared.passing.PassOut.TheVariants as outs
use Rattle.ax_frame.specs.Frames.{Journaled, edit_answered, mark_answered, with_entry}
use Rattle.ax_frame.specs.Passes.{is_nothing}
use Rattle.ax_frame.proofs.Holding.{dropped_last}
use Rattle.ax_taken.specs.Taking.{cuts_of}
use Rattle.ax_taken.proofs.HistoryLemmas.{cuts-push}

abbrev pub cuts_in : Journaled → List ℕ
cuts_in j = cuts_of j.tree j.journal

-- an entry that makes no packet
abbrev MakesNone : JEntry → Type 0
MakesNone e = (t : ℕ) (f : Frame) → made_at t e f ≡ []

cuts_none : (t : ℕ) (j : List JEntry) (e : JEntry) → MakesNone e → cuts_of t (j ++ e ∷ []) ≡ cuts_of t j
cuts_none t j e none = cuts-push t j e ∙ (ap (λ ps. cuts_of t j ++ map (λ (p : Packet). suc (length j)) ps) (none t (frame_of t j)) ∙ append-nil (cuts_of t j))

module _ (old new : Journaled) (made : List ℕ) where
  same_cuts : new ≡ old → made ≡ cuts_in old → made ≡ cuts_in new
  same_cuts e h = h ∙ ap cuts_in (sym e)

  entry_cuts : (e : JEntry) → MakesNone e → new ≡ with_entry e old → made ≡ cuts_in old → made ≡ cuts_in new
  entry_cuts e none is h = h ∙ (sym (cuts_none old.tree old.journal e none) ∙ ap cuts_in (sym is))

-- ---- edits, touches and deliveries

pub edit_cuts : (e : Edit) (r : Result (Unit {0}) EditErr) (old new : Journaled) (made : List ℕ) → new ≡ edit_answered e r old → made ≡ cuts_in old → made ≡ cuts_in new
edit_cuts e (Ok done) old new made is h = entry_cuts old new made (Edited e) (λ t f. refl) is h
edit_cuts e (Err edits.NoRoot) old new made is h = entry_cuts old new made (Edited e) (λ t f. refl) is h
edit_cuts e (Err (edits.UnknownNode z)) old new made is h = entry_cuts old new made (Edited e) (λ t f. refl) is h
edit_cuts e (Err (edits.IdTaken z)) old new made is h = entry_cuts old new made (Edited e) (λ t f. refl) is h
edit_cuts e (Err (edits.BadIndex i n)) old new made is h = entry_cuts old new made (Edited e) (λ t f. refl) is h
edit_cuts e (Err (edits.IsRoot z)) old new made is h = entry_cuts old new made (Edited e) (λ t f. refl) is h
edit_cuts e (Err (edits.IntoItself z)) old new made is h = entry_cuts old new made (Edited e) (λ t f. refl) is h
edit_cuts e (Err (edits.TooMany n)) old new made is h = entry_cuts old new made (Edited e) (λ t f. refl) is h
edit_cuts e (Err (edits.TooDeep n)) old new made is h = entry_cuts old new made (Edited e) (λ t f. refl) is h
edit_cuts e (Err (edits.BadAttr k)) old new made is h = entry_cuts old new made (Edited e) (λ t f. refl) is h
edit_cuts e (Err edits.NoMemory) old new made is h = same_cuts old new made is h

pub mark_cuts : (e : JEntry) → ((t : ℕ) (f : Frame) → made_at t e f ≡ []) → (r : Result (Unit {0}) MarkErr) (old new : Journaled) (made : List ℕ) → new ≡ mark_answered e r old → made ≡ cuts_in old → made ≡ cuts_in new
mark_cuts e none (Ok done) old new made is h = entry_cuts old new made e none is h
mark_cuts e none (Err (marks.UnknownNode z)) old new made is h = entry_cuts old new made e none is h
mark_cuts e none (Err marks.NoMemory) old new made is h = same_cuts old new made is h

pub delivery_cuts : (n : Token) (r : Result (Unit {0}) NoMemory) (old new : Journaled) (made : List ℕ) → OnOk r (new ≡ with_entry (Delivered n) old) → OnErr r (new ≡ old) → made ≡ cuts_in old → made ≡ cuts_in new
delivery_cuts n (Ok done) old new made ok err h = entry_cuts old new made (Delivered n) (λ t f. refl) ok h
delivery_cuts n (Err lacking) old new made ok err h = same_cuts old new made err h

-- ---- passes

not_true : (b : Bool) → true ≡ not b → b ≡ false
not_true true e = absurd (cc)
not_true false e = refl

not_false : (b : Bool) → false ≡ not b → b ≡ true
not_false true e = refl
not_false false e = absurd (cc)

cuts_passed : (t : ℕ) (j : List JEntry) (b : Bool) → pending (frame_of t j) ≡ b → cuts_of t (j ++ Passed ∷ []) ≡ cuts_of t j ++ map (λ (p : Packet). suc (length j)) (if b then packet_at t (frame_of t j) ∷ [] else [])
cuts_passed t j b h = cuts-push t j Passed ∙ ap (λ (c : Bool). cuts_of t j ++ map (λ (p : Packet). suc (length j)) (if c then packet_at t (frame_of t j) ∷ [] else [])) h

module _ (old new : Journaled) (made more kept : List ℕ) (place : ℕ) (is : made ≡ cuts_in old) (pushed : more ≡ made ++ place ∷ []) where
  -- the place that was put in stays where the pass made a packet
  pub passed_cuts : (out : PassOut) → place ≡ length old.journal + 1 → kept ≡ (if is_nothing out then take (length more - 1) more else more) → is_nothing out ≡ not (pending (frame_of old.tree old.journal)) → new ≡ with_entry Passed old → kept ≡ cuts_in new
  passed_cuts outs.Nothing number stays nothing passed =
      dropped_last made more kept place pushed stays
      ∙ (is ∙ (sym (append-nil (cuts_in old)) ∙ (sym (cuts_passed old.tree old.journal false (not_true (pending (frame_of old.tree old.journal)) nothing)) ∙ ap cuts_in (sym passed))))
  passed_cuts (outs.Made p resumed updates) number stays nothing passed =
      stays
      ∙ (pushed ∙ ((λ i. is i ++ (number ∙ add-one (length old.journal)) i ∷ []) ∙ (sym (cuts_passed old.tree old.journal true (not_false (pending (frame_of old.tree old.journal)) nothing)) ∙ ap cuts_in (sym passed))))

  -- and goes again without memory
  pub broken_cuts : kept ≡ take (length more - 1) more → (new ≡ old) ⊎ ((pending (frame_of old.tree old.journal) ≡ true) × (new ≡ with_entry Short old)) → kept ≡ cuts_in new
  broken_cuts drops how =
      dropped_last made more kept place pushed drops
      ∙ ⊎_elim (λ e. same_cuts old new made e is) (λ e. entry_cuts old new made Short (λ t f. refl) e.1 is) how
