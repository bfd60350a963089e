-- What each script is that was read.
use Rattle.std.specs.Prelude.{◌≡◌, ◌≤◌, ℕ, true, List, length, map, All}
use Rattle.ax_trees.specs.Lists.{contains, NoneTwice}
use Rattle.ax_ask.specs.declared.op.Item.{Item}
use Rattle.ax_ask.specs.declared.op.Item.TheVariants.{Frame, Receive, Browser, Deliver, Reader}
use Rattle.ax_ask.specs.declared.action.Action.{Action}
use Rattle.ax_ask.specs.Calls.{HaveLeaves, AllNamed}
use Rattle.ax_script.specs.declared.script.FrameScript.{FrameScript}
use Rattle.ax_script.specs.declared.script.Script.{Script}

abbrev pub trees_in : Script → List ℕ
trees_in s = map (λ (f : FrameScript). f.tree) s.frames

-- each node that the frame's operations put has no children
abbrev pub HasLeaves : FrameScript → Type 0
HasLeaves f = HaveLeaves f.ops

-- a frame has the tree
abbrev pub HasTree : Script → ℕ → Type 0
HasTree s tree = contains (trees_in s) tree ≡ true

-- what the item asks for is there
abbrev pub HasItem : Script → Item → Type 0
HasItem s (Frame tree) = HasTree s tree
HasItem s (Receive tree) = HasTree s tree
HasItem s Browser = Unit {0}
HasItem s (Deliver tree token) = HasTree s tree
HasItem s (Reader k) = (1 ≤ k) × (k ≤ length s.readers)

-- There is a frame, the frames' trees differ, and nodes are put without children. The operations of the browser and the
-- actions are at the frames' trees, and the order's items ask for what is there.
pub record IsSoundScript (s : Script) : Type 0 where
  pub framed : 1 ≤ length s.frames
  pub apart : NoneTwice (trees_in s)
  pub leaves : All HasLeaves s.frames
  pub named : AllNamed (trees_in s) s.browser
  pub acted : All (λ (a : Action). HasTree s a.tree) s.actions
  pub ordered : All (HasItem s) s.order
