use Rattle.std.proofs.Common.{◌≡◌, ◌∷◌, [], List, ℕ, Some, None, cond, eqb, nat_eq, refl, ap, ◌∙◌}
use Rattle.std.specs.Map.{lookup}
use Rattle.ax_node.specs.Look.{look_of}
use Rattle.ax_node.specs.declared.node.NodeData.{NodeData}
use Rattle.ax_marks.specs.MarkList.{added}
use Rattle.ax_trees.specs.Trees.{bare, tree}
use Rattle.ax_source.specs.Source.{Source}
use Rattle.ax_source.proofs.Edited.{root_source}
use Rattle.ax_source.proofs.Kept.{source_holds, edited_seen}
use Rattle.ax_source.proofs.source.SourceTree.set_root.Goals as goal

pub invariant_of-self : goal.invariant_of-self
invariant_of-self c =
    let leaf = ap (λ (n : NodeData). n.children) c.in-Ok.ensures ∙ c.requires in
    let marks : c.add.new.self ≡ c.in-Ok.node.id ∷ [] = c.in-Ok-add.ensures.ok ∙ ap (λ (l : List ℕ). added l c.in-Ok.node.id) c.new-marks.ensures in
    let is = root_source c.insert.new.self c.in-Ok.node.id c.in-Ok.node c.add.new.self leaf refl
    (λ z. c.in-Ok-insert.ensures.updates.0 z ∙ ap (λ o. cond (eqb c.in-Ok.node.id z) (Some (record { node = c.in-Ok.node; above = None })) o) (ap (λ es. lookup (nat_eq z) es) c.new-entries.ensures.empty)) marks in
    source_holds c.insert.new.self (Some c.in-Ok.node.id) c.add.new.self (tree c.in-Ok.node.id (look_of c.in-Ok.node) bare bare) is

pub returns-clause-ok : goal.returns-clause-ok
returns-clause-ok c =
    let leaf = ap (λ (n : NodeData). n.children) c.in-Ok.ensures ∙ c.requires in
    let marks : c.add.new.self ≡ c.in-Ok.node.id ∷ [] = c.in-Ok-add.ensures.ok ∙ ap (λ (l : List ℕ). added l c.in-Ok.node.id) c.new-marks.ensures in
    let is = root_source c.insert.new.self c.in-Ok.node.id c.in-Ok.node c.add.new.self leaf refl
    (λ z. c.in-Ok-insert.ensures.updates.0 z ∙ ap (λ o. cond (eqb c.in-Ok.node.id z) (Some (record { node = c.in-Ok.node; above = None })) o) (ap (λ es. lookup (nat_eq z) es) c.new-entries.ensures.empty)) marks in
    edited_seen c.insert.new.self (Some c.in-Ok.node.id) c.add.new.self (c.in-Ok.node.id ∷ []) (tree c.in-Ok.node.id (look_of c.in-Ok.node) bare bare) _ c.args.self.now.tree.about _ c.args.self.now.changed is
    (ap (λ (s : Source). s.tree.about) c.self.view_is) marks (ap (λ (s : Source). s.changed) c.self.view_is)
    ∙ ap (λ (n : NodeData). record { tree = record { about = c.args.self.now.tree.about; trees = tree n.id (look_of n) bare bare }; marks = n.id ∷ []; changed = c.args.self.now.changed }) c.in-Ok.ensures
