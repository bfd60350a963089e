-- What a source tree is seen as, and what its calls make of it.
use Rattle.std.specs.Prelude.{ℕ, ◌≡◌, Bool, true, false, List, refl}
use Rattle.std.specs.Coded.{Coded, code_by, coded×, coded_ℕ, coded_bool, coded_list}
use Rattle.ax_node.specs.Look.{Look, coded_look}
use Rattle.ax_node.specs.declared.tree_data.TreeData.{TreeData}
use Rattle.ax_node.specs.contracts.tree_data.TreeData.{the_row}
use Rattle.ax_trees.specs.Trees.{Trees, has}
use Rattle.ax_trees.specs.Code.{coded_trees}
use Rattle.ax_tree.specs.Tree.{Tree}
use Rattle.ax_tree.specs.Edits.{edited, marks_after, flag_after}
use Rattle.ax_tree.specs.declared.edit.Edit.{Edit}
use Rattle.ax_tree.specs.declared.edit.MarkErr.{MarkErr}
use Rattle.ax_tree.specs.declared.edit.MarkErr.TheVariants.{UnknownNode, NoMemory}

-- a tree, the ids that are marked, in order, and whether tree data were changed since they were last sent
pub record Source : Type 0 where
  pub tree : Tree
  pub marks : List ℕ
  pub changed : Bool

-- a source is stored as the pairs of its parts
abbrev pub coded_source : Coded Source
coded_source =
    code_by ((TreeData × Trees Look) × (List ℕ × Bool)) (coded× (coded× the_row.coded (coded_trees coded_look)) (coded× (coded_list coded_ℕ) coded_bool))
    (λ s. ((s.tree.about, s.tree.trees), (s.marks, s.changed))) (λ p. record { tree = record { about = p.0.0; trees = p.0.1 }; marks = p.1.0; changed = p.1.1 }) (λ _. refl)

-- the source after an accepted edit
abbrev pub after_edit : Edit → Source → Source
after_edit e s = record { tree = edited e s.tree; marks = marks_after e s.tree s.marks; changed = flag_after e s.changed }

-- what a refused mark of z may answer: that z isn't there, where it isn't, and else that there is no memory
abbrev pub IsMarkRefusal : {X : Type 0} → Trees X → ℕ → MarkErr → Type 0
IsMarkRefusal f z (UnknownNode y) = (y ≡ z) × (has f z ≡ false)
IsMarkRefusal f z NoMemory = has f z ≡ true
