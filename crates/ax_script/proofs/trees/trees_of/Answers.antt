use Rattle.std.proofs.Common.{◌≡◌, [], drop, arith, ◌∙◌}
use Rattle.ax_script.specs.Trees.{has_tree, knows}
use Rattle.ax_script.proofs.Steps.{all_dropped, trees_after, trees_are}
use Rattle.ax_script.proofs.trees.trees_of.Goals as goal

pub returns : goal.returns
returns c =
    let gone : drop c.loop-frame.frame-index c.args.frames.now ≡ [] = all_dropped c.loop-frame.frame-index c.args.frames.now (omega arith) in
    let rest : knows c.loop-frame.trees ≡ trees_after (has_tree []) c.args.frames.now = rw gone at c.loop-frame.invariant in
    rest ∙ trees_are c.args.frames.now
