-- What a receipt leaves.
use Rattle.std.specs.Prelude.{◌≡◌, ℕ, ◌+◌, ◌++◌, ◌∷◌, [], Option, Some, None, Result, Ok, Err}
use Rattle.ax_base.specs.declared.seq.NoMemory.{NoMemory}
use Rattle.ax_tree.specs.declared.packet.HEntry.{HEntry}
use Rattle.ax_tree.specs.declared.packet.HEntry.TheVariants.{Got}
use Rattle.ax_tree.specs.declared.packet.Packet.{Packet}
use Rattle.ax_tree.specs.declared.verdict.Verdict.{Verdict}
use Rattle.ax_turn.specs.Seats.{SeatView}
use Rattle.ax_lane.specs.Ends.{IsNextLull}
use Rattle.ax_rules.specs.Mirrors.{verdict_of}
use Rattle.ax_hub.specs.Seats.{BrowserSeatView}

-- ---- the receipt of what is held

abbrev pub IsReceiptOf : Packet → SeatView HEntry → Result (Option (ℕ × Verdict)) NoMemory → Option Packet → SeatView HEntry → Type 0
IsReceiptOf p old (Ok None) held new = ⊥
IsReceiptOf p old (Ok (Some told)) held new = (told ≡ (p.tree, verdict_of old.seen p)) × (held ≡ None) × (new ≡ record old { seen = old.seen ++ Got p ∷ []; enters = old.enters + 1 })
IsReceiptOf p old (Err lacking) held new = (held ≡ Some p) × (new ≡ record old { enters = old.enters + 1 })

abbrev pub IsReceiptIn : Option Packet → SeatView HEntry → Result (Option (ℕ × Verdict)) NoMemory → Option Packet → SeatView HEntry → Type 0
IsReceiptIn None old result held new = (result ≡ Ok None) × (held ≡ None) × (new ≡ old)
IsReceiptIn (Some p) old result held new = IsReceiptOf p old result held new

-- ---- the whole

-- the packet that comes next: the one that is held, or else any
abbrev pub IsNextOf : Option Packet → Packet → Type 0
IsNextOf None p = Unit {0}
IsNextOf (Some q) p = q ≡ p

-- The packet was received, with the verdict and the events of the mirrors at the history before.
pub record IsReceived (old new : BrowserSeatView) (told : ℕ × Verdict) : Type 0 where
  pub packet : Packet
  pub next : IsNextOf old.held packet
  pub verdict : told ≡ (packet.tree, verdict_of old.seen packet)
  pub after : new ≡ record old { seen = old.seen ++ Got packet ∷ []; held = None }

-- the lane was found empty, and nothing was held
pub record IsLull (old new : BrowserSeatView) : Type 0 where
  pub none : old.held ≡ None
  pub rose : IsNextLull old.lulls new.lulls
  pub after : new ≡ record old { lulls = new.lulls }

-- the packet is held for want of memory
pub record IsHeld (old new : BrowserSeatView) : Type 0 where
  pub packet : Packet
  pub next : IsNextOf old.held packet
  pub after : new ≡ record old { held = Some packet }

abbrev pub IsReceipt : BrowserSeatView → Result (Option (ℕ × Verdict)) NoMemory → BrowserSeatView → Type 0
IsReceipt old (Ok None) new = IsLull old new
IsReceipt old (Ok (Some told)) new = IsReceived old new told
IsReceipt old (Err lacking) new = IsHeld old new
