-- The laws of trees as finite maps.
use Rattle.std.specs.Prelude.{ℕ, ◌≡◌, Option, option_map}
use Rattle.ax_node.specs.Look.{Look}
use Rattle.ax_node.specs.declared.node.NodeData.{NodeData}
use Rattle.ax_node.specs.declared.tree_data.TreeData.{TreeData}
use Rattle.ax_trees.specs.Trees.{root_of}
use Rattle.ax_trees.specs.Nodes.{Node}
use Rattle.ax_tree.specs.Tree.{Tree, IsWellFormed, node, as_node}
use Rattle.ax_laws.specs.FiniteMap.{IsTreeMap}

-- a map from id to node data, as a map to nodes of trees
abbrev pub node_map : (ℕ → Option NodeData) → ℕ → Option (Node Look)
node_map m z = option_map as_node (m z)

-- Each well formed tree shows as a finite map of the written definition.
abbrev pub EachTreeIsAFiniteMap : Type 0
EachTreeIsAFiniteMap = (t : Tree) → IsWellFormed t → IsTreeMap (node_map (node t)) (root_of t.trees)

-- the well formed tree that a finite map tells
pub record TreeTold (about : TreeData) (m : ℕ → Option NodeData) (root : Option ℕ) : Type 0 where
  pub tree : Tree
  pub well_formed : IsWellFormed tree
  pub about_same : tree.about ≡ about
  pub root_same : root_of tree.trees ≡ root
  pub nodes : (z : ℕ) → node tree z ≡ m z

-- Each such map is shown by one well formed tree, and by no other.
abbrev pub EachFiniteMapIsOneTree : Type 0
EachFiniteMapIsOneTree =
    ((about : TreeData) (m : ℕ → Option NodeData) (root : Option ℕ) → IsTreeMap (node_map m) root → TreeTold about m root)
    × ((t q : Tree) → IsWellFormed t → IsWellFormed q → t.about ≡ q.about → root_of t.trees ≡ root_of q.trees → ((z : ℕ) → node t z ≡ node q z) → t ≡ q)
