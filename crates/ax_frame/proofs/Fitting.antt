-- The journal after a call, and the lists of packets that fit it.
use Rattle.std.proofs.Common.{ℕ, ◌≡◌, Bool, true, false, List, [], ◌∷◌, ◌++◌, length, set, sym, ap, ap₂, subst, ◌∙◌}
use Rattle.std.proofs.Math.Seq.{set-append_seam}
use Rattle.ax_tree.specs.declared.packet.JEntry.{JEntry}
use Rattle.ax_tree.specs.declared.packet.Packet.{Packet}
use Rattle.ax_tree.specs.declared.packet.JEntry.TheVariants.{Passed, Short}
use Rattle.ax_tree.specs.Journals.{frame_of, new_frame, pending}
use Rattle.ax_tree.specs.Packets.{Fits}
use Rattle.ax_laws.proofs.FrameSteps.{frame_push}
use Rattle.ax_laws.proofs.GoodPackets.{fits_idle, fits_made}
use Rattle.ax_frame.specs.Frames.{Journaled, KeepsFitting}
use Rattle.ax_frame.specs.Passes.{IsPass}

-- an entry that makes no packet
pub fits_more : (e : JEntry) (old : Journaled) (t : ℕ) (journal now : List JEntry) → ◌≡◌ {A = Journaled} (record { tree = t; journal = journal }) old → now ≡ journal ++ e ∷ [] → (e ≡ Passed → pending (frame_of t journal) ≡ false)
    → KeepsFitting old (record { tree = t; journal = now })
fits_more e old t journal now same more idle = λ packets fit.
    subst (λ js. Fits t js packets) (sym more) (fits_idle t journal packets e (subst (λ (j : Journaled). Fits j.tree j.journal packets) (sym same) fit) idle)

-- a pass that made a packet
pub fits_pass : (old : Journaled) (t : ℕ) (journal now : List JEntry) (p : Packet) → ◌≡◌ {A = Journaled} (record { tree = t; journal = journal }) old → now ≡ journal ++ Passed ∷ [] → pending (frame_of t journal) ≡ true
    → IsPass t (frame_of t journal) p → (packets : List Packet) → Fits old.tree old.journal packets → Fits t now (packets ++ p ∷ [])
fits_pass old t journal now p same more some is = λ packets fit.
    subst (λ js. Fits t js (packets ++ p ∷ [])) (sym more) (fits_made t journal packets p (subst (λ (j : Journaled). Fits j.tree j.journal packets) (sym same) fit) some is.head is.gives)

-- the entry that was put in the place of the last one
pub set_passed : (journal pushed now : List JEntry) (n : ℕ) → pushed ≡ journal ++ Short ∷ [] → n ≡ length journal → now ≡ set pushed n Passed → now ≡ journal ++ Passed ∷ []
set_passed journal pushed now n e l s = s ∙ ap₂ (λ (js : List JEntry) (k : ℕ). set js k Passed) e l ∙ set-append_seam journal Short [] Passed

-- whether there is something to send, as it is asked
pub pending_is : (old : Journaled) (t : ℕ) (journal : List JEntry) (asked b : Bool) → ◌≡◌ {A = Journaled} (record { tree = t; journal = journal }) old → asked ≡ pending (frame_of old.tree old.journal) → asked ≡ b → pending (frame_of t journal) ≡ b
pending_is old t journal asked b same is e = ap (λ (j : Journaled). pending (frame_of j.tree j.journal)) same ∙ sym is ∙ e

-- what is still to be sent doesn't hang on a pass that was broken off
pub still_pending : (old : Journaled) (t : ℕ) (journal now : List JEntry) → ◌≡◌ {A = Journaled} (record { tree = t; journal = journal }) old → now ≡ journal ++ Short ∷ [] → pending (frame_of t now) ≡ pending (frame_of old.tree old.journal)
still_pending old t journal now same more = ap pending (ap (frame_of t) more ∙ frame_push t journal Short (new_frame t)) ∙ ap (λ (j : Journaled). pending (frame_of j.tree j.journal)) same
