-- The lines of a tree, one node after the other.
use Rattle.std.specs.Prelude.{ℕ, suc, List, [], ◌∷◌, codes, if◌then◌else◌, ◌≡◌, map}
use Rattle.std.specs.Fmt.{decimal}
use Rattle.ax_base.specs.Area.{Area}
use Rattle.ax_node.specs.Look.{Look, blank_area}
use Rattle.ax_node.specs.declared.tree_data.TreeData.{TreeData}
use Rattle.ax_trees.specs.Lists.{NoneTwice}
use Rattle.ax_trees.specs.Nodes.{node_at}
use Rattle.ax_trees.specs.Spots.{grown}
use Rattle.ax_tree.specs.Tree.{Tree}
use Rattle.ax_tree.specs.Forest.{Forest, Standing, live_tree}
use Rattle.ax_rules.specs.Looks.{same_area}
use Rattle.ax_run_rules.specs.Writing.{◌⌢◌, area_text, id_text, yes_no}
use Rattle.ax_run_rules.specs.ReplyText.{role_text}
use Rattle.ax_run_rules.specs.Dump.{end_text, look_text, nodes_text, tree_or_gone}

-- a rectangle that isn't blank
unfoldable pub area_part : Area → List ℕ
area_part a = if same_area a blank_area then [] else codes " " ⌢ area_text a.x a.y a.w a.h

-- the parts of the line of a tree's data before its texts
unfoldable pub trees_part : TreeData → List ℕ
trees_part d = codes "tree " ⌢ decimal d.tree ⌢ codes " parent " ⌢ id_text d.parent ⌢ codes " focused " ⌢ id_text d.focused

unfoldable pub focus_part : TreeData → List ℕ
focus_part d = codes " loaded " ⌢ yes_no d.loaded ⌢ codes " focus " ⌢ id_text d.focus

unfoldable pub ends_part : TreeData → List ℕ
ends_part d = codes " sel " ⌢ end_text d.anchor ⌢ codes " " ⌢ end_text d.end ⌢ codes " title "

-- the line of the node i behind an indent
unfoldable pub node_line : List ℕ → ℕ → Look → List ℕ
node_line indent i x = indent ⌢ decimal i ⌢ codes " " ⌢ role_text x.role ⌢ look_text x ⌢ codes "\n"

-- the lines of the node i and of n levels below it
unfoldable pub under_text : Tree → ℕ → List ℕ → ℕ → List ℕ
under_text m n indent i = nodes_text indent (grown (node_at m.trees) (suc n) (i ∷ []))

-- the dump of the tree t of a forest
unfoldable pub standing_text : Forest → ℕ → List ℕ
standing_text f t = tree_or_gone t (live_tree f t)

-- the ids are those of the forest's trees in order, each once
pub record AreTheTrees (f : Forest) (ts : List ℕ) : Type 0 where
  pub all : ts ≡ map (λ (s : Standing). s.id) f
  pub once : NoneTwice ts
