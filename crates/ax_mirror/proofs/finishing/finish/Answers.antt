use Rattle.ax_mirror.proofs.Finishes.{is_finished, is_pending_yet, is_too_deep}
use Rattle.ax_mirror.proofs.finishing.finish.Goals as goal

pub returns-in-Some-clause-err : goal.returns-in-Some-clause-err
returns-in-Some-clause-err c = λ root w k s. is_pending_yet c.args.nodes.now c.args.made.now root w k s c.in-Some.id c.in-Some.ensures

pub returns-then-depth-le256-clause-ok : goal.returns-then-depth-le256-clause-ok
returns-then-depth-le256-clause-ok c = λ root w k s. is_finished c.args.nodes.now c.args.made.now root w k s c.deepest-depth.result c.in-None.ensures c.deepest-depth.ensures c.if-depth-le256.true

pub returns-else-depth-le256-clause-err : goal.returns-else-depth-le256-clause-err
returns-else-depth-le256-clause-err c = λ root w k s. is_too_deep c.args.nodes.now c.args.made.now root w k s c.deepest-depth.result c.in-None.ensures c.deepest-depth.ensures c.if-depth-le256.false
