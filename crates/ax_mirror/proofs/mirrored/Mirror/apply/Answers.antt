use Rattle.std.proofs.Common.{true, false}
use Rattle.ax_mirror.proofs.Names.{bundle_keeps}
use Rattle.ax_mirror.proofs.mirrored.Mirror.apply.Goals as goal

pub returns-then-fresh-clause-same_tree : goal.returns-then-fresh-clause-same_tree
returns-then-fresh-clause-same_tree g c = bundle_keeps _ c.args.bundle.now true c.args.self.now c.apply_anew.new.self c.apply_anew.ensures.ok c.apply_anew.ensures.unchanged

pub returns-clause-same_tree : goal.returns-clause-same_tree
returns-clause-same_tree g c = bundle_keeps _ c.args.bundle.now false c.args.self.now c.apply_on.new.self c.apply_on.ensures.ok c.apply_on.ensures.unchanged
