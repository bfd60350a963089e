-- What a pass of a frame makes, and what it keeps while it is under way.
use Rattle.std.specs.Prelude.{ℕ, ◌≡◌, Bool, true, false, List, [], ◌∷◌, ◌++◌, map, Result, Ok, Err}
use Rattle.ax_ask.specs.declared.line.UpdateNote.{UpdateNote}
use Rattle.ax_base.specs.declared.seq.NoMemory.{NoMemory}
use Rattle.ax_node.specs.Look.{Look}
use Rattle.ax_trees.specs.Shape.{shape}
use Rattle.ax_trees.specs.Trees.{Trees, is_bare}
use Rattle.ax_tree.specs.Bundles.{Client, trees_updates}
use Rattle.ax_tree.specs.declared.packet.Packet.{Packet}
use Rattle.ax_tree.specs.declared.update.TreeUpdate.{TreeUpdate}
use Rattle.ax_tree.specs.Journals.{Frame, packet_at, pending}
use Rattle.ax_tree.specs.Packets.{head_of, Fits}
use Rattle.ax_tree.specs.Serialised.{resumed_bundle}
use Rattle.ax_tree.specs.Tree.{Tree}
use Rattle.ax_tree.specs.Updates.{applied_all, nodes_part}
use Rattle.ax_frame.specs.declared.passing.PassOut.{PassOut}
use Rattle.ax_frame.specs.declared.passing.PassOut.TheVariants.{Nothing, Made}
use Rattle.ax_frame.specs.Frames.{begins_fresh, IsSending, Journaled}

-- the kept updates with those that follow begin from an empty receiver
abbrev pub is_fresh_pass : List TreeUpdate → Client → Trees Look → List ℕ → Bool
is_fresh_pass kept c s m = begins_fresh (map nodes_part kept ++ trees_updates c s m)

-- What the updates of a pass under way keep, of each frame that has the source s and something to send. Such a frame is as if it were short.
abbrev pub StaysSending : Tree → List ℕ → Client → List TreeUpdate → List ℕ → Client → List TreeUpdate → Type 0
StaysSending s m c kept left after all =
    (f : Frame) → f.source ≡ s → f.short ≡ true → pending f ≡ true → IsSending f m c kept → IsSending f left after all

-- the receiver then has the source
abbrev pub Completes : Tree → List ℕ → Client → List TreeUpdate → Client → Type 0
Completes s m c kept after =
    (f : Frame) → f.source ≡ s → f.short ≡ true → pending f ≡ true → IsSending f m c kept → after ≡ shape s.trees

-- These updates are those that were kept, and those that the serialisation rule gives from where these leave the receiver. Tree data ride as on one bundle.
pub record IsCompleted (f : Frame) (us : List TreeUpdate) : Type 0 where
  pub kept : List TreeUpdate
  pub client : Client
  pub marks : List ℕ
  pub sending : IsSending f marks client kept
  pub whole : us ≡ resumed_bundle (map nodes_part kept) client f.source marks f.flag (is_bare f.sent.trees)

-- The packet p of a pass of the frame f: it has the head of the frame's packet, its bundle brings what was sent to the source, and it is the frame's packet where the frame isn't short.
pub record IsPass (t : ℕ) (f : Frame) (p : Packet) : Type 0 where
  pub head : head_of p ≡ head_of (packet_at t f)
  pub gives : applied_all p.bundle f.sent ≡ Ok f.source
  pub completed : IsCompleted f p.bundle
  pub whole : f.short ≡ false → p ≡ packet_at t f

-- the pass had nothing to send
abbrev pub is_nothing : PassOut → Bool
is_nothing Nothing = true
is_nothing (Made p resumed notes) = false

-- what is true of a packet, of whether it completes a bundle, and of what is told of it, where a pass made one
abbrev pub IfMade : PassOut → (Packet → Bool → List UpdateNote → Type 0) → Type 0
IfMade Nothing P = Unit {0}
IfMade (Made p resumed notes) P = P p resumed notes

-- the packets, with the one that a pass made
abbrev pub packets_after : Result PassOut NoMemory → List Packet → List Packet
packets_after (Ok Nothing) packets = packets
packets_after (Ok (Made p resumed notes)) packets = packets ++ p ∷ []
packets_after (Err e) packets = packets

-- each list of packets that fits the journal, with the packet that the pass made, fits the new journal
abbrev pub PassFits : Journaled → Result PassOut NoMemory → Journaled → Type 0
PassFits old result new = (packets : List Packet) → Fits old.tree old.journal packets → Fits new.tree new.journal (packets_after result packets)
