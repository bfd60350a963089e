-- What a delivery of a token leaves.
use Rattle.std.specs.Prelude.{◌≡◌, ℕ, ◌+◌, false, List, [], ◌∷◌, slice_get, slice_set, Some, Result, Ok, Err}
use Rattle.ax_base.specs.declared.seq.NoMemory.{NoMemory}
use Rattle.ax_base.specs.declared.pass.Token.{Token}
use Rattle.ax_trees.specs.Lists.{contains}
use Rattle.ax_tree.specs.declared.packet.JEntry.{JEntry}
use Rattle.ax_tree.specs.declared.packet.JEntry.TheVariants.{Delivered}
use Rattle.ax_turn.specs.Seats.{SeatView}
use Rattle.ax_hub.specs.declared.answers.HubErr.{HubErr}
use Rattle.ax_hub.specs.declared.answers.HubErr.TheVariants as hub
use Rattle.ax_stays.specs.Makers.{maker_of}
use Rattle.ax_hub.specs.Seats.{BrowserSeatView}
use Rattle.ax_stays.specs.Stays.{Stay}

-- The browser's seat in the turn of the tree's frame has made a stay, which added these entries. All else is as it was.
pub record IsToldTo (trees : List ℕ) (t : ℕ) (added : List JEntry) (old new : BrowserSeatView) : Type 0 where
  pub at : ℕ
  pub before : SeatView JEntry
  pub seen : List JEntry
  pub place : slice_get trees at ≡ Some t
  pub there : slice_get old.deliveries at ≡ Some before
  pub stay : Stay maker_of 1 2 before.seen added seen (λ journal. Unit {0})
  pub after : new ≡ record old { deliveries = slice_set old.deliveries at (record before { seen = seen; enters = before.enters + 1 }) }

-- what is told of a stay
abbrev pub told_by : Result (Unit {0}) NoMemory → Result (Unit {0}) HubErr
told_by (Ok done) = Ok done
told_by (Err lacking) = Err hub.NoMemory

abbrev pub IsDelivery : List ℕ → ℕ → Token → BrowserSeatView → Result (Unit {0}) HubErr → BrowserSeatView → Type 0
IsDelivery trees t n old (Ok done) new = IsToldTo trees t (Delivered n ∷ []) old new
IsDelivery trees t n old (Err (hub.NoTree u)) new = (u ≡ t) × (contains trees t ≡ false) × (new ≡ old)
IsDelivery trees t n old (Err (hub.AlreadyGone u)) new = ⊥
IsDelivery trees t n old (Err hub.NoMemory) new = IsToldTo trees t [] old new
