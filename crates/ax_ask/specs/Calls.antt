-- What the desks are asked, with which condition, and what their counts say.
use Rattle.std.specs.Prelude.{◌≡◌, ◌+◌, ◌-◌, ◌^◌, ◌≤◌, ℕ, List, [], ◌∷◌, min, true}
use Rattle.ax_trees.specs.Lists.{contains}
use Rattle.ax_tree.specs.Edits.{HasLeaf}
use Rattle.ax_ask.specs.declared.op.FrameOp.{FrameOp}
use Rattle.ax_ask.specs.declared.op.FrameOp.TheVariants as frames
use Rattle.ax_ask.specs.declared.op.BrowserOp.{BrowserOp}
use Rattle.ax_ask.specs.declared.op.BrowserOp.TheVariants as browsers
use Rattle.ax_ask.specs.declared.op.TimedOp.{TimedOp}

-- the node that an edit puts has no children
abbrev pub IsLeafOp : FrameOp → Type 0
IsLeafOp (frames.Edit e) = HasLeaf e
IsLeafOp (frames.Touch node) = Unit {0}
IsLeafOp (frames.TouchBelow node) = Unit {0}
IsLeafOp frames.Pass = Unit {0}

-- each node that the operations put has no children
abbrev pub HaveLeaves : List FrameOp → Type 0
HaveLeaves [] = Unit {0}
HaveLeaves (op ∷ left) = IsLeafOp op × HaveLeaves left

-- the tree that an operation of the browser is about
abbrev pub tree_of : BrowserOp → ℕ
tree_of (browsers.Ask tree) = tree
tree_of (browsers.Destroy tree) = tree
tree_of (browsers.Probe tree update) = tree

-- each of the operations is at one of these trees
abbrev pub AllNamed : List ℕ → List TimedOp → Type 0
AllNamed trees [] = Unit {0}
AllNamed trees (o ∷ left) = (contains trees (tree_of o.op) ≡ true) × AllNamed trees left

-- a call of a browser's desk that gives a line
pub data BrowserCall : Type 0 where
  Receive : BrowserCall
  Do : BrowserOp → BrowserCall
  Deliver : ℕ → ℕ → BrowserCall

-- the count rose, or stands at the last value of `u64`
abbrev pub Rose : ℕ → ℕ → Type 0
Rose before now = min (before + 1) (2 ^ 64 - 1) ≤ now
