use Rattle.ax_unignored.proofs.Counts.{front_is}
use Rattle.ax_unignored.proofs.ids.ahead.Goals as goal

pub returns : goal.returns
returns c = front_is c.args.ids.now c.args.id c.count_ahead-count.result c.count_ahead-count.ensures.count
