-- What stands of a closed hub's parts while the order is made.
use Rattle.std.specs.Prelude.{ℕ, suc, ◌≡◌, ◌≤◌, ◌-◌, ◌==◌, nat_lt, List, [], ◌∷◌, ◌++◌, length, map, take, drop, filter, flat_map, slice_get, slice_set, Some}
use Rattle.ax_tree.specs.declared.packet.Packet.{Packet}
use Rattle.ax_tree.specs.declared.packet.JEntry.{JEntry}
use Rattle.ax_tree.specs.declared.packet.HEntry.{HEntry}
use Rattle.ax_tree.specs.declared.packet.HEntry.TheVariants as events
use Rattle.ax_tree.specs.Journals.{frame_of, made_at}
use Rattle.ax_ask.specs.declared.op.Item.{Item}
use Rattle.ax_ask.specs.declared.op.Item.TheVariants.{Receive, Browser}
use Rattle.ax_rules.specs.Histories.{got}
use Rattle.ax_run_rules.specs.Taken as taken
use Rattle.ax_order_laws.specs.Parts.{RisesWithin}
use Rattle.ax_taken.specs.declared.closed.ClosedFrame.{ClosedFrame}
use Rattle.ax_taken.specs.declared.closed.Closed.{Closed}

-- ---- what a closed hub gives

abbrev pub frame_in : ClosedFrame → taken.ClosedFrame
frame_in f = record { tree = f.tree; journal = f.journal }

abbrev pub parts_of : Closed → taken.Closed
parts_of c = record { frames = map frame_in c.frames; history = c.history }

abbrev pub trees_of : List ClosedFrame → List ℕ
trees_of fs = map (λ (f : ClosedFrame). f.tree) fs

-- for each packet that a journal makes, how many entries stand up to and with its pass
abbrev pub cuts_from : ℕ → List JEntry → List JEntry → List ℕ
cuts_from t before [] = []
cuts_from t before (e ∷ j) = map (λ (p : Packet). suc (length before)) (made_at t e (frame_of t before)) ++ cuts_from t (before ++ e ∷ []) j

abbrev pub cuts_of : ℕ → List JEntry → List ℕ
cuts_of t j = cuts_from t [] j

abbrev pub AreCuts : List ClosedFrame → Type 0
AreCuts fs = (i : ℕ) (f : ClosedFrame) → slice_get fs i ≡ Some f → f.made ≡ cuts_of f.tree f.journal

-- ---- looks

-- the looks of a reader don't fall
abbrev pub Rises : List ℕ → Type 0
Rises ns = (high : ℕ) × RisesWithin 0 high ns

-- how many of the looks counted fewer entries, and how many just so many
abbrev pub below : ℕ → List ℕ → ℕ
below n ns = length (filter (λ m. nat_lt m n) ns)

abbrev pub at_once : ℕ → List ℕ → ℕ
at_once n ns = length (filter (λ m. m == n) ns)

abbrev pub looks_below : ℕ → List (List ℕ) → List ℕ
looks_below n looks = map (below n) looks

-- ---- frames

-- the place of each frame, by its tree's number
pub record ArePlaces (frames : List ClosedFrame) (places : List ℕ) : Type 0 where
  pub size : length places ≡ 1001
  pub place : (i : ℕ) (f : ClosedFrame) → slice_get frames i ≡ Some f → slice_get places f.tree ≡ Some i

-- how many entries of a frame stand behind a history
abbrev pub stand_of : List HEntry → ClosedFrame → ℕ
stand_of h f = taken.made_from f.tree (length (got h f.tree)) [] f.journal

abbrev pub received_items : ClosedFrame → ℕ → ℕ → List Item
received_items f from to = flat_map (taken.journal_items f.tree) (drop from (take to f.journal)) ++ Receive f.tree ∷ []

-- the frame of a packet that comes next, and which of its entries come before it
pub record IsNext (frames : List ClosedFrame) (places stand : List ℕ) (p : Packet) : Type 0 where
  pub at : ℕ
  pub frame : ClosedFrame
  pub from : ℕ
  pub to : ℕ
  pub place : slice_get places p.tree ≡ Some at
  pub framed : slice_get frames at ≡ Some frame
  pub begun : slice_get stand at ≡ Some from
  pub pass : 1 ≤ p.pass.0
  pub cut : slice_get frame.made (p.pass.0 - 1) ≡ Some to
  pub rises : from ≤ to
  pub within : to ≤ length frame.journal

abbrev pub CanCome : List ClosedFrame → List ℕ → List ℕ → HEntry → Type 0
CanCome frames places stand (events.Got p) = IsNext frames places stand p
CanCome frames places stand (events.Asked t) = Unit {0}
CanCome frames places stand (events.Ended t) = Unit {0}
CanCome frames places stand (events.Probed t u) = Unit {0}

abbrev pub came_items : (frames : List ClosedFrame) (places stand : List ℕ) (e : HEntry) → CanCome frames places stand e → List Item
came_items frames places stand (events.Got p) n = received_items n.frame n.from n.to
came_items frames places stand (events.Asked t) n = Browser ∷ []
came_items frames places stand (events.Ended t) n = Browser ∷ []
came_items frames places stand (events.Probed t u) n = Browser ∷ []

abbrev pub came_stand : (frames : List ClosedFrame) (places stand : List ℕ) (e : HEntry) → CanCome frames places stand e → List ℕ
came_stand frames places stand (events.Got p) n = slice_set stand n.at n.to
came_stand frames places stand (events.Asked t) n = stand
came_stand frames places stand (events.Ended t) n = stand
came_stand frames places stand (events.Probed t u) n = stand

-- ---- the parts of the order

-- the items of an entry, and the queries behind it
abbrev pub history_piece : Closed → List (List ℕ) → ℕ × HEntry → List Item
history_piece c looks e = taken.history_items (parts_of c) e.1 ++ taken.queries_at looks e.0

abbrev pub StandWithin : List ClosedFrame → List ℕ → Type 0
StandWithin [] [] = Unit {0}
StandWithin [] (n ∷ ns) = ⊥
StandWithin (f ∷ fs) [] = ⊥
StandWithin (f ∷ fs) (n ∷ ns) = (n ≤ length f.journal) × StandWithin fs ns

abbrev pub rest_items : List ClosedFrame → List ℕ → List Item
rest_items [] ns = []
rest_items (f ∷ fs) [] = []
rest_items (f ∷ fs) (n ∷ ns) = flat_map (taken.journal_items f.tree) (drop n f.journal) ++ rest_items fs ns
