-- What contracts see of a hub, which seats are its own, and what is true of it.
use Rattle.std.specs.Prelude.{◌≡◌, ℕ, List, [], ◌∷◌, length, map, slice_get, Some}
use Rattle.ax_trees.specs.Lists.{NoneTwice}
use Rattle.ax_tree.specs.declared.packet.JEntry.{JEntry}
use Rattle.ax_turn.specs.Ids.{TurnId}
use Rattle.ax_turn.specs.Seats.{SeatView}
use Rattle.ax_lane.specs.Ends.{LaneId}
use Rattle.ax_hub.specs.Seats.{FrameSeatView, BrowserSeatView, ReaderSeatView}

-- the turns of the frames in their order, the forest's turn, and the lane
pub record HubView : Type 0 where
  pub frames : List TurnId
  pub forest : TurnId
  pub lane : LaneId

-- the trees in their order: they are the name of the forest's turn
abbrev pub trees_of : HubView → List ℕ
trees_of hub = hub.forest.name

-- ---- seats of this hub

pub record IsFrameSeatOf (hub : HubView) (s : FrameSeatView) : Type 0 where
  pub turn : slice_get hub.frames s.at ≡ Some s.turn
  pub lane : s.lane ≡ hub.lane

pub record IsBrowserSeatOf (hub : HubView) (s : BrowserSeatView) : Type 0 where
  pub turn : s.turn ≡ hub.forest
  pub lane : s.lane ≡ hub.lane
  pub frames : map (λ (d : SeatView JEntry). d.turn) s.deliveries ≡ hub.frames

abbrev pub IsReaderSeatOf : HubView → ReaderSeatView → Type 0
IsReaderSeatOf hub s = s.turn ≡ hub.forest

-- ---- what is true of a hub

-- the place of each tree, by its number
pub record ArePlaces (trees places : List ℕ) : Type 0 where
  pub size : length places ≡ 1001
  pub place : (at t : ℕ) → slice_get trees at ≡ Some t → slice_get places t ≡ Some at

-- each frame's turn has two makers and its tree's number as its name; the trees differ, and their places are known
pub record IsHubWhole (frames : List TurnId) (forest : TurnId) (places : List ℕ) : Type 0 where
  pub makers : (at : ℕ) (turn : TurnId) → slice_get frames at ≡ Some turn → turn.makers ≡ 2
  pub names : map (λ (turn : TurnId). turn.name) frames ≡ map (λ (t : ℕ). t ∷ []) forest.name
  pub once : NoneTwice forest.name
  pub placed : places ≡ forest.name
