-- What was received of a history, and which packets may come next.
use Rattle.std.specs.Prelude.{◌≡◌, ℕ, true, List, [], ◌∷◌, ◌++◌, length}
use Rattle.ax_trees.specs.Lists.{contains}
use Rattle.ax_tree.specs.declared.packet.HEntry.{HEntry}
use Rattle.ax_tree.specs.declared.packet.HEntry.TheVariants.{Got, Asked, Ended, Probed}
use Rattle.ax_tree.specs.declared.packet.Packet.{Packet}
use Rattle.ax_tree.specs.Packets.{IsGood}
use Rattle.ax_rules.specs.Histories.{got}

-- the packets of a history, in order
abbrev pub received : List HEntry → List Packet
received [] = []
received (Got p ∷ h) = p ∷ received h
received (Asked t ∷ h) = received h
received (Ended t ∷ h) = received h
received (Probed t u ∷ h) = received h

-- so many packets were received, and those of each tree are good
pub record KeepsReceipts (h : List HEntry) (receipts : ℕ) : Type 0 where
  pub count : receipts ≡ length (received h)
  pub good : (t : ℕ) → IsGood t (got h t)

-- the packet comes next of its tree, which is one of these
pub record CanBeReceived (trees : List ℕ) (h : List HEntry) (p : Packet) : Type 0 where
  pub known : contains trees p.tree ≡ true
  pub good : IsGood p.tree (got h p.tree ++ p ∷ [])
