use Rattle.std.proofs.Common.{None, false, ap, ◌∙◌, List, ℕ}
use Rattle.ax_node.specs.declared.tree_data.TreeData.{TreeData}
use Rattle.ax_tree.specs.Tree.{blank_data}
use Rattle.ax_trees.specs.Trees.{bare}
use Rattle.ax_source.proofs.Kept.{source_holds, source_seen}
use Rattle.ax_source.proofs.Edited.{empty_source}
use Rattle.ax_source.proofs.source.SourceTree.new.Goals as goal

pub invariant_of-result : goal.invariant_of-result
invariant_of-result c = source_holds c.new.result None c.new-2.result bare (empty_source c.new.result c.new-2.result c.new.ensures.empty c.new-2.ensures)

pub returns : goal.returns
returns c =
    source_seen c.new.result None c.new-2.result bare c.blank.result false (empty_source c.new.result c.new-2.result c.new.ensures.empty c.new-2.ensures)
    ∙ (ap (λ (d : TreeData). record { tree = record { about = d; trees = bare }; marks = c.new-2.result; changed = false }) c.blank.ensures
    ∙ ap (λ (m : List ℕ). record { tree = record { about = blank_data c.args.tree; trees = bare }; marks = m; changed = false }) c.new-2.ensures)
