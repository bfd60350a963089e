use Rattle.std.proofs.Common.{arith}
use Rattle.serde_json.specs.View.{view}
use Rattle.ax_script.proofs.Steps.{told_err}
use Rattle.ax_script.proofs.read.script_of.Goals as goal

pub returns-in-Err-draft_of : goal.returns-in-Err-draft_of
returns-in-Err-draft_of c =
    told_err c.args.bytes.now (view c.in-Ok-Some.v) c.in-Err-draft_of.e c.told.result (omega arith) (rw c.in-Ok-Some.field-0-is at c.in-Ok-Some.ensures) c.in-Err-draft_of.ensures c.told.ensures.memory c.told.ensures.refused
