use Rattle.ax_mirror.proofs.Names.{update_keeps}
use Rattle.ax_mirror.proofs.mirrored.Mirror.unserialize.Goals as goal

pub returns-clause-same_tree : goal.returns-clause-same_tree
returns-clause-same_tree c = update_keeps _ c.args.update.now c.args.self.now c.unserialize_counted.new.self c.unserialize_counted.ensures.ok c.unserialize_counted.ensures.unchanged
