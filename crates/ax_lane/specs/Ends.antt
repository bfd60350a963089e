-- What a clause sees of a lane and of its ends.
use Rattle.std.specs.Prelude.{◌≡◌, ℕ, ◌+◌, ◌^◌, ◌⊎◌, true, false, List, [], ◌∷◌, ◌++◌, Option, None}
use Rattle.std.specs.declared.alloc.Global.{Global}
use Rattle.atomic_blocks.specs.declared.web.Seat.{Seat}
use Rattle.crossbeam_queue.specs.SegTies.{SegId}
use Rattle.crossbeam_queue.specs.declared.seg_queue.Going.{Going}
use Rattle.ax_tree.specs.declared.packet.Packet.{Packet}
use Rattle.ax_lane.specs.declared.holding.Holding.{Holding}
use Rattle.ax_lane.specs.Lanes.{Back}

-- which lane it is
abbrev pub LaneId : Type 0
LaneId = SegId Global

-- a sender: its lane, its tree, what it has sent, and where among all that was ever sent
pub record TxView : Type 0 where
  pub lane : LaneId
  pub tree : ℕ
  pub sent : List Packet
  pub places : List ℕ

-- the taker: its lane, what it got, the lane's trees, and how often it has found the lane empty
pub record RxView : Type 0 where
  pub lane : LaneId
  pub got : List Packet
  pub trees : List ℕ
  pub lulls : ℕ

abbrev pub new_sender : LaneId → ℕ → TxView
new_sender lane tree = record { lane = lane; tree = tree; sent = []; places = [] }

-- the sender after it has sent a packet, which then stands at the place
abbrev pub sent_at : ℕ → Packet → TxView → TxView
sent_at place p tx = record tx { sent = tx.sent ++ p ∷ []; places = tx.places ++ place ∷ [] }

-- what the taker keeps of a sender
abbrev pub back_of : TxView → Back
back_of tx = (tx.tree, tx.sent, tx.places)

-- one more, up to the type's end
abbrev pub IsNextLull : ℕ → ℕ → Type 0
IsNextLull before after = (after ≡ before + 1) ⊎ ((before + 1 ≡ 2 ^ 64) × (after ≡ before))

abbrev Pass : Type 0
Pass = Seat (Option Packet) (Going Packet Holding) Global

abbrev lane_of : Pass → LaneId
lane_of pass = record { web = pass.web; heap = pass.heap }

abbrev pub tx_view : Pass → TxView
tx_view pass = record { lane = lane_of pass; tree = pass.me.view.client.tree; sent = pass.me.view.client.sent; places = pass.me.view.client.places }

abbrev pub rx_view : Pass → ℕ → RxView
rx_view pass lulls = record { lane = lane_of pass; got = pass.me.view.client.got; trees = pass.me.view.client.trees; lulls = lulls }

-- what is true of a sender between two calls
pub record IsTxPass (pass : Pass) : Type 0 where
  pub hand : pass.me.hand ≡ None
  pub spare : pass.me.spare ≡ None
  pub sends : pass.me.view.client.sends ≡ true

-- and of the taker
pub record IsRxPass (pass : Pass) : Type 0 where
  pub hand : pass.me.hand ≡ None
  pub spare : pass.me.spare ≡ None
  pub takes : pass.me.view.client.takes ≡ true
  pub idle : pass.me.view.client.sends ≡ false
