-- A tree: tree data, and the nodes as trees of one root at most.
use Rattle.std.specs.Prelude.{ℕ, false, [], Option, None, option_map}
use Rattle.ax_node.specs.Look.{Look, look_of, node_of}
use Rattle.ax_node.specs.declared.node.NodeData.{NodeData}
use Rattle.ax_node.specs.declared.tree_data.TreeData.{TreeData}
use Rattle.ax_trees.specs.Trees.{Trees, bare, IsTree}
use Rattle.ax_trees.specs.Nodes.{Node, node_at}

-- node data as a node of trees, and back
abbrev pub as_node : NodeData → Node Look
as_node n = record { id = n.id; known = look_of n; children = n.children }

abbrev pub data_of : Node Look → NodeData
data_of n = node_of n.id n.known n.children

pub record Tree : Type 0 where
  pub about : TreeData
  pub trees : Trees Look

-- no id stands twice, and there is one root at most
abbrev pub IsWellFormed : Tree → Type 0
IsWellFormed t = IsTree t.trees

-- the tree data of a tree of which nothing is known
abbrev pub blank_data : ℕ → TreeData
blank_data t = record {
  tree = t;
  parent = None;
  focused = None;
  loaded = false;
  focus = None;
  anchor = None;
  end = None;
  title = [];
  url = [];
}

abbrev pub empty : ℕ → Tree
empty t = record { about = blank_data t; trees = bare }

-- the node data of an id
abbrev pub node : Tree → ℕ → Option NodeData
node t z = option_map data_of (node_at t.trees z)
