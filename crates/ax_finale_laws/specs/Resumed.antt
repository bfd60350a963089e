-- The laws of packets from each state whose packets are those of its frames' journals, through orders and through the finale.
use Rattle.std.specs.Prelude.{ℕ, ◌≡◌, List, ◌∷◌, ◌++◌, Some}
use Rattle.ax_tree.specs.declared.packet.Packet.{Packet}
use Rattle.ax_tree.specs.declared.packet.HEntry.{HEntry}
use Rattle.ax_tree.specs.declared.packet.HEntry.TheVariants.{Got}
use Rattle.ax_tree.specs.Journals.{packets_of}
use Rattle.ax_ask.specs.declared.op.Item.{Item}
use Rattle.ax_rules.specs.Histories.{got}
use Rattle.ax_rules.specs.Laws.{Agrees}
use Rattle.ax_run_rules.specs.States.{FrameRun, State, Run, find_frame}
use Rattle.ax_run_rules.specs.Steps.{run}
use Rattle.ax_run_rules.specs.Finale.{finale_of}
use Rattle.ax_run_laws.specs.Laws.{HasItsPackets}

-- the packets received of a tree, and those that wait, are those of its frame's journal
abbrev pub PacketsFit : State → Type 0
PacketsFit s = (t : ℕ) (f : FrameRun) → find_frame s t ≡ Some f → got s.history t ++ f.waiting ≡ packets_of t f.journal

-- so it is after each order and after the finale
pub record KeepsPackets (r : Run) : Type 0 where
  pub orders : (o : List Item) (q : Run) (t : ℕ) (f : FrameRun) → run o r ≡ Some q → find_frame q.state t ≡ Some f → HasItsPackets q t f
  pub finale : (e : Run) (t : ℕ) (f : FrameRun) → finale_of r ≡ Some e → find_frame e.state t ≡ Some f → HasItsPackets e t f

abbrev pub EachStateKeepsItsPackets : Type 0
EachStateKeepsItsPackets = (r : Run) → PacketsFit r.state → KeepsPackets r

-- the packet that a tree receives next after an order, and each one that was received by the finale's end
pub record RefusesNone (r : Run) : Type 0 where
  pub orders : (o : List Item) (q : Run) (t : ℕ) (f : FrameRun) (p : Packet) (ps : List Packet) → run o r ≡ Some q → find_frame q.state t ≡ Some f → f.waiting ≡ p ∷ ps
      → Agrees q.state.history p
  pub finale : (e : Run) (f : FrameRun) (before after : List HEntry) (p : Packet) → finale_of r ≡ Some e → find_frame e.state p.tree ≡ Some f → e.state.history ≡ before ++ Got p ∷ after
      → Agrees before p

-- No update that is in order is refused.
abbrev pub NoStateRefusesInOrder : Type 0
NoStateRefusesInOrder = (r : Run) → PacketsFit r.state → RefusesNone r
