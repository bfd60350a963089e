use Rattle.ax_unignored.proofs.Spelled.{appended}
use Rattle.ax_unignored.proofs.gathered.Gathered.append.Goals as goal

pub returns : goal.returns
returns c = appended c.self.inside.text c.push_str.new.self c.args.self.now c.args.text.now c.as_str.result.now c.self.view_is c.as_str.ensures c.as_str.utf8 c.in-Ok.ensures.bytes
