-- What a pass by a frame's seat leaves.
use Rattle.std.specs.Prelude.{◌≡◌, ◌⊎◌, ◌++◌, ◌∷◌, [], false, Option, Some, None, Result, Ok, Err}
use Rattle.ax_base.specs.declared.seq.NoMemory.{NoMemory}
use Rattle.ax_tree.specs.declared.packet.JEntry.TheVariants.{Passed as PassEntry}
use Rattle.ax_tree.specs.Journals.{frame_of, pending}
use Rattle.ax_ask.specs.declared.line.PassNote.{PassNote}
use Rattle.ax_ask.specs.declared.line.PassNote.TheVariants as notes
use Rattle.ax_stays.specs.declared.parcel.Parcel.{Parcel}
use Rattle.ax_stays.specs.FrameCalls.{IsMade, IsParcelOf, IsUnmade}
use Rattle.ax_stays.specs.Makers.{maker_of}
use Rattle.ax_hub.specs.Seats.{FrameSeatView}
use Rattle.ax_stays.specs.Stays.{Stay}

-- the seat of the same frame
pub record IsSameFrame (old new : FrameSeatView) : Type 0 where
  pub at : new.at ≡ old.at
  pub turn : new.turn ≡ old.turn
  pub lane : new.lane ≡ old.lane
  pub tree : new.tree ≡ old.tree

-- ---- the two halves of a pass

-- What the pass made is kept. Without memory nothing is.
abbrev pub IsMadeInto : FrameSeatView → Result (Unit {0}) NoMemory → FrameSeatView → Type 0
IsMadeInto old (Ok done) new =
    Stay maker_of 0 1 old.seen (PassEntry ∷ []) new.seen (IsMade old.tree new.kept) × (new ≡ record old { seen = new.seen; kept = new.kept })
IsMadeInto old (Err lacking) new = IsUnmade old.seen new.seen old.tree × (new ≡ record old { seen = new.seen })

-- The parcel that was kept is sent and its note is told. Without memory it stays kept.
abbrev pub IsSentBy : Option Parcel → FrameSeatView → Result PassNote NoMemory → FrameSeatView → Type 0
IsSentBy None old result new = (result ≡ Ok notes.Nothing) × (new ≡ old)
IsSentBy (Some p) old (Ok note) new = (note ≡ notes.Made p.note) × (new ≡ record old { sent = old.sent ++ p.packet ∷ []; kept = None })
IsSentBy (Some p) old (Err lacking) new = new ≡ old

abbrev pub IsSentFrom : FrameSeatView → Result PassNote NoMemory → FrameSeatView → Type 0
IsSentFrom old result new = IsSentBy old.kept old result new

-- ---- the whole

-- the pass made a parcel, which the seat has sent
pub record IsMadeAndSent (old new : FrameSeatView) (note : PassNote) : Type 0 where
  pub parcel : Parcel
  pub stay : Stay maker_of 0 1 old.seen (PassEntry ∷ []) new.seen (λ before. IsParcelOf old.tree before parcel)
  pub told : note ≡ notes.Made parcel.note
  pub after : new ≡ record old { seen = new.seen; sent = old.sent ++ parcel.packet ∷ [] }

-- the pass made a parcel, which the seat keeps for want of memory
pub record IsMadeAndKept (old new : FrameSeatView) : Type 0 where
  pub parcel : Parcel
  pub stay : Stay maker_of 0 1 old.seen (PassEntry ∷ []) new.seen (λ before. IsParcelOf old.tree before parcel)
  pub after : new ≡ record old { seen = new.seen; kept = Some parcel }

-- there was nothing to send, which is an entry too
pub record IsIdlePass (old new : FrameSeatView) : Type 0 where
  pub stay : Stay maker_of 0 1 old.seen (PassEntry ∷ []) new.seen (λ before. pending (frame_of old.tree before) ≡ false)
  pub after : new ≡ record old { seen = new.seen }

-- nothing was made for want of memory
pub record IsBrokenPass (old new : FrameSeatView) : Type 0 where
  pub unmade : IsUnmade old.seen new.seen old.tree
  pub after : new ≡ record old { seen = new.seen }

abbrev pub IsNewPass : FrameSeatView → Result PassNote NoMemory → FrameSeatView → Type 0
IsNewPass old (Ok notes.Nothing) new = IsIdlePass old new
IsNewPass old (Ok (notes.Made note)) new = IsMadeAndSent old new (notes.Made note)
IsNewPass old (Err lacking) new = IsBrokenPass old new ⊎ IsMadeAndKept old new

-- a seat that keeps a parcel sends that one and makes none
abbrev pub IsPassedWith : Option Parcel → FrameSeatView → Result PassNote NoMemory → FrameSeatView → Type 0
IsPassedWith None old result new = IsNewPass old result new
IsPassedWith (Some p) old result new = IsSentBy (Some p) old result new

abbrev pub IsPassed : FrameSeatView → Result PassNote NoMemory → FrameSeatView → Type 0
IsPassed old result new = IsPassedWith old.kept old result new
