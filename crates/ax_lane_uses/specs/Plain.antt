-- Packets that change nothing, numbered from 1 on.
use Rattle.std.specs.Prelude.{◌≡◌, ℕ, suc, List, [], slice_get, length, Some}
use Rattle.ax_lane.specs.Ends.{LaneId, TxView}
use Rattle.ax_lane.specs.Packets.{of_tree}
use Rattle.ax_tree.specs.declared.packet.Packet.{Packet}

-- the packet of this tree with this number, which has no edits and no updates
pub record IsPlain (tree number : ℕ) (p : Packet) : Type 0 where
  pub of : p.tree ≡ tree
  pub pass : p.pass.0 ≡ number
  pub base : p.base.0 ≡ 0
  pub slip : p.slip ≡ []
  pub bundle : p.bundle ≡ []

-- the packets of this tree with the numbers 1, 2, 3 and so on
pub record AllPlain (tree : ℕ) (packets : List Packet) : Type 0 where
  pub at : (k : ℕ) (p : Packet) → slice_get packets k ≡ Some p → IsPlain tree (suc k) p

-- among the packets are those of this tree with the numbers 1 to count, each once and in that order
pub record IsAllOf (tree count : ℕ) (packets : List Packet) : Type 0 where
  pub in_order : AllPlain tree (of_tree tree packets)
  pub all_there : length (of_tree tree packets) ≡ count

-- a sender of this lane and tree that has sent nothing
pub record IsNewSender (lane : LaneId) (tree : ℕ) (tx : TxView) : Type 0 where
  pub of : tx.lane ≡ lane
  pub for_tree : tx.tree ≡ tree
  pub nothing : tx.sent ≡ []

-- a sender of this lane and tree that has sent the packets number 1 to count
pub record HasSent (lane : LaneId) (tree count : ℕ) (tx : TxView) : Type 0 where
  pub of : tx.lane ≡ lane
  pub for_tree : tx.tree ≡ tree
  pub in_order : AllPlain tree tx.sent
  pub all_there : length tx.sent ≡ count
