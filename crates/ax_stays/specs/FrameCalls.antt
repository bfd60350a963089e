-- What the calls of a frame's seat add to the journal, and what they answer by the journal before.
use Rattle.std.specs.Prelude.{◌≡◌, ◌⊎◌, ℕ, Bool, true, false, List, [], ◌∷◌, ◌++◌, map, Option, Some, None, Result, Ok, Err, IsTrue, IfErr, OnOk}
use Rattle.ax_base.specs.declared.seq.NoMemory.{NoMemory}
use Rattle.ax_base.specs.declared.pass.Token.{Token}
use Rattle.ax_trees.specs.Trees.{has}
use Rattle.ax_tree.specs.declared.edit.Edit.{Edit}
use Rattle.ax_tree.specs.declared.edit.EditErr.{EditErr}
use Rattle.ax_tree.specs.declared.edit.EditErr.TheVariants as edits
use Rattle.ax_tree.specs.declared.edit.MarkErr.{MarkErr}
use Rattle.ax_tree.specs.declared.edit.MarkErr.TheVariants as marks
use Rattle.ax_tree.specs.declared.packet.JEntry.{JEntry}
use Rattle.ax_tree.specs.declared.packet.JEntry.TheVariants as entries
use Rattle.ax_tree.specs.declared.packet.Packet.{Packet}
use Rattle.ax_tree.specs.Edits.{refusal}
use Rattle.ax_tree.specs.Journals.{frame_of, is_short, pending}
use Rattle.ax_source.specs.Source.{IsMarkRefusal}
use Rattle.ax_ask.specs.declared.line.MadeNote.{MadeNote}
use Rattle.ax_run_rules.specs.FrameSteps.{update_note}
use Rattle.ax_tree.specs.Packets.{Fits}
use Rattle.ax_frame.specs.declared.passing.PassOut.{PassOut}
use Rattle.ax_frame.specs.declared.passing.PassOut.TheVariants as outs
use Rattle.ax_frame.specs.Frames.{Journaled}
use Rattle.ax_frame.specs.Passes.{IsPass}
use Rattle.ax_stays.specs.declared.parcel.Parcel.{Parcel}
use Rattle.ax_stays.specs.Makers.{maker_of}
use Rattle.ax_stays.specs.Stays.{Stay}

-- the frame with these entries more
abbrev pub grown : List JEntry → Journaled → Journaled
grown added j = record { tree = j.tree; journal = j.journal ++ added }

-- ---- edits, touches and deliveries

-- An answered operation is an entry, also where it was refused by name. One that found no memory isn't.
abbrev pub edit_entries : Edit → Result (Unit {0}) EditErr → List JEntry
edit_entries e (Ok done) = entries.Edited e ∷ []
edit_entries e (Err edits.NoMemory) = []
edit_entries e (Err refused) = entries.Edited e ∷ []

abbrev pub mark_entries : JEntry → Result (Unit {0}) MarkErr → List JEntry
mark_entries e (Ok done) = e ∷ []
mark_entries e (Err marks.NoMemory) = []
mark_entries e (Err (marks.UnknownNode z)) = e ∷ []

abbrev pub delivery_entries : Token → Result (Unit {0}) NoMemory → List JEntry
delivery_entries n (Ok done) = entries.Delivered n ∷ []
delivery_entries n (Err lacking) = []

-- the answer is the edit rule's at the source of the journal
pub record IsEditAnswer (t : ℕ) (e : Edit) (result : Result (Unit {0}) EditErr) (before : List JEntry) : Type 0 where
  pub allowed : OnOk result (refusal e (frame_of t before).source ≡ None)
  pub refused : IfErr result (λ x. (x ≡ edits.NoMemory) ⊎ (refusal e (frame_of t before).source ≡ Some x))

pub record IsMarkAnswer (t z : ℕ) (result : Result (Unit {0}) MarkErr) (before : List JEntry) : Type 0 where
  pub there : OnOk result (IsTrue (has (frame_of t before).source.trees z))
  pub refused : IfErr result (λ x. (x ≡ marks.NoMemory) ⊎ IsMarkRefusal (frame_of t before).source.trees z x)

-- ---- passes

-- what is told of a packet
abbrev pub note_of : Bool → Packet → MadeNote
note_of resumed p = record { pass = p.pass; base = p.base; token = p.token; resumed = resumed; updates = map update_note p.bundle }

-- the pass of the frame with this journal makes this packet, and this is told of it
pub record IsParcelOf (t : ℕ) (before : List JEntry) (p : Parcel) : Type 0 where
  pub due : pending (frame_of t before) ≡ true
  pub packet : IsPass t (frame_of t before) p.packet
  pub note : p.note ≡ note_of (is_short t before) p.packet

abbrev pub packets_in : Option Parcel → List Packet
packets_in None = []
packets_in (Some p) = p.packet ∷ []

-- what a pass makes
abbrev pub IsMade : ℕ → Option Parcel → List JEntry → Type 0
IsMade t None before = pending (frame_of t before) ≡ false
IsMade t (Some p) before = IsParcelOf t before p

-- the parcel of what a frame's pass gave
abbrev pub parcel_of : PassOut → Option Parcel
parcel_of outs.Nothing = None
parcel_of (outs.Made p resumed updates) = Some (record {
  packet = p;
  note = record { pass = p.pass; base = p.base; token = p.token; resumed = resumed; updates = updates };
})

abbrev pub packets_of_pass : Result (Option Parcel) NoMemory → List Packet
packets_of_pass (Ok made) = packets_in made
packets_of_pass (Err lacking) = []

-- each list of packets that fits the journal, with the packet of the pass, fits the new journal
abbrev pub FitsWith : Journaled → Result (Option Parcel) NoMemory → Journaled → Type 0
FitsWith old result new = (packets : List Packet) → Fits old.tree old.journal packets → Fits new.tree new.journal (packets ++ packets_of_pass result)

-- A pass that found no memory adds nothing. Or it has kept updates, and adds that it was short.
abbrev pub IsUnmade : List JEntry → List JEntry → ℕ → Type 0
IsUnmade old new t =
    Stay maker_of 0 1 old [] new (λ before. Unit {0})
    ⊎ Stay maker_of 0 1 old (entries.Short ∷ []) new (λ before. pending (frame_of t before) ≡ true)

-- each list of packets that fits what was seen fits what then is seen, with the packet of a pass
abbrev pub KeepsFits : ℕ → List JEntry → List JEntry → Type 0
KeepsFits t old new = (packets : List Packet) → Fits t old packets → Fits t new packets

abbrev pub SeenFitsWith : ℕ → List JEntry → Result (Option Parcel) NoMemory → List JEntry → Type 0
SeenFitsWith t old result new = (packets : List Packet) → Fits t old packets → Fits t new (packets ++ packets_of_pass result)
