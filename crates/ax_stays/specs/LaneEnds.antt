-- What is left at the ends of the lane after a sending and after a taking.
use Rattle.std.specs.Prelude.{◌≡◌, ◌++◌, ◌∷◌, [], Option, Some, None, Result, Ok, Err}
use Rattle.ax_base.specs.declared.seq.NoMemory.{NoMemory}
use Rattle.ax_tree.specs.declared.packet.Packet.{Packet}
use Rattle.ax_tree.specs.Packets.{IsGood}
use Rattle.ax_ask.specs.declared.line.PassNote.{PassNote}
use Rattle.ax_ask.specs.declared.line.PassNote.TheVariants as notes
use Rattle.ax_lane.specs.Ends.{TxView, RxView, IsNextLull}
use Rattle.ax_lane.specs.Packets.{Includes, of_tree}
use Rattle.ax_stays.specs.declared.parcel.Parcel.{Parcel}

-- the same sender but for what was sent, and where
abbrev pub IsSameSender : TxView → TxView → Type 0
IsSameSender old new = (new.lane ≡ old.lane) × (new.tree ≡ old.tree)

-- the kept parcel was sent and its note is told, or it is kept still
abbrev pub IsParcelSent : Parcel → TxView → Result PassNote NoMemory → Option Parcel → TxView → Type 0
IsParcelSent p old (Ok note) kept new = (note ≡ notes.Made p.note) × (kept ≡ None) × (new.sent ≡ old.sent ++ p.packet ∷ []) × IsSameSender old new
IsParcelSent p old (Err lacking) kept new = (kept ≡ Some p) × (new ≡ old)

abbrev pub IsSentOn : Option Parcel → TxView → Result PassNote NoMemory → Option Parcel → TxView → Type 0
IsSentOn None old result kept new = (result ≡ Ok notes.Nothing) × (kept ≡ None) × (new ≡ old)
IsSentOn (Some p) old result kept new = IsParcelSent p old result kept new

-- a packet was taken out of the lane, or the lane was found empty
abbrev pub IsTaken : RxView → Option Packet → RxView → Type 0
IsTaken old None new = (new ≡ record old { lulls = new.lulls }) × IsNextLull old.lulls new.lulls
IsTaken old (Some p) new = (new ≡ record old { got = old.got ++ p ∷ [] }) × Includes old.trees p.tree × IsGood p.tree (of_tree p.tree new.got)

abbrev pub IsHeldNow : Option Packet → RxView → Option Packet → RxView → Type 0
IsHeldNow None old held new = IsTaken old held new
IsHeldNow (Some p) old held new = (held ≡ Some p) × (new ≡ old)
