use Rattle.ax_json.proofs.Takes.{none_left}
use Rattle.ax_json.proofs.object.is_none_left.Goals as goal

pub returns : goal.returns
returns c = none_left c.args.members.now.entries c.is_empty.result c.is_empty.ensures
