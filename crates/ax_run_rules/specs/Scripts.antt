-- The parts of a script that a run reads.
use Rattle.std.specs.Prelude.{ℕ, List}
use Rattle.ax_ask.specs.declared.op.FrameOp.{FrameOp}
use Rattle.ax_ask.specs.declared.op.TimedOp.{TimedOp}
use Rattle.ax_ask.specs.declared.op.Item.{Item}
use Rattle.ax_ask.specs.declared.query.TimedQuery.{TimedQuery}
use Rattle.ax_ask.specs.declared.action.Action.{Action}

-- what a frame is asked to do, in order
pub record FrameScript : Type 0 where
  pub tree : ℕ
  pub ops : List FrameOp

pub record Script : Type 0 where
  pub frames : List FrameScript
  pub browser : List TimedOp
  -- reader k is the k-th, from 1
  pub readers : List (List TimedQuery)
  pub order : List Item
  pub actions : List Action
