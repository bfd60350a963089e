-- The law of a packet's source: the joined slips tell what the frame's source was when the packet was made.
use Rattle.std.specs.Prelude.{ℕ, suc, ◌≡◌, ◌<◌, ◌≤◌, true, List, ◌∷◌, ◌++◌, length}
use Rattle.ax_tree.specs.declared.packet.Packet.{Packet}
use Rattle.ax_tree.specs.declared.packet.JEntry.{JEntry}
use Rattle.ax_tree.specs.declared.packet.JEntry.TheVariants.{Passed}
use Rattle.ax_tree.specs.Tree.{empty}
use Rattle.ax_tree.specs.Journals.{frame_of, pending, source_of}
use Rattle.ax_tree.specs.Packets.{source_at, Fits}

-- The journal as it was when its packet number k was made, from 1: what stands before that pass.
pub record MadeAfter (t : ℕ) (journal : List JEntry) (k : ℕ) (before : List JEntry) : Type 0 where
  pub rest : List JEntry
  pub parted : journal ≡ before ++ (Passed ∷ rest)
  pub made : pending (frame_of t before) ≡ true
  pub number : suc (frame_of t before).passes ≡ k

-- The source at k is the journal's source as it was when the packet k was made, and empty before the first. There is such a pass for each packet.
abbrev pub EachPacketTellsItsSource : Type 0
EachPacketTellsItsSource =
    (t : ℕ) (journal : List JEntry) (packets : List Packet) → Fits t journal packets
    → (source_at t packets 0 ≡ empty t)
    × ((k : ℕ) (before : List JEntry) → MadeAfter t journal k before → source_at t packets k ≡ source_of t before)
    × ((k : ℕ) → 0 < k → k ≤ length packets → (before : List JEntry) × MadeAfter t journal k before)
