-- The nodes of a tree that name trees.
use Rattle.std.specs.Prelude.{ℕ, Bool, false, ◌==◌, ◌&&◌, if◌then◌else◌, Option, Some, None, option_map, option_and_then}
use Rattle.std.specs.List.{find}
use Rattle.std.specs.Ordering.{nat_cmp}
use Rattle.std.specs.FinMap.Entries as entries
use Rattle.ax_node.specs.Look.{Look}
use Rattle.ax_node.specs.declared.value.Value.{Value}
use Rattle.ax_node.specs.declared.value.Value.TheVariants as values
use Rattle.ax_trees.specs.Lists.{is_nil}
use Rattle.ax_trees.specs.Nodes.{Node, node_at}
use Rattle.ax_tree.specs.SerialRule.{all_of}
use Rattle.ax_tree.specs.Tree.{Tree}
use Rattle.ax_tree.specs.Forest.{child_tree_key, names_child}

abbrev pub tree_in : Option Value → Option ℕ
tree_in (Some (values.Tree u)) = Some u
tree_in v = None

-- the tree that a node without children names
abbrev pub named_by : Node Look → Option ℕ
named_by n = if is_nil n.children then tree_in (entries.find nat_cmp child_tree_key n.known.attrs) else None

abbrev pub named_at : Tree → ℕ → Option ℕ
named_at m z = option_and_then named_by (node_at m.trees z)

-- the first node in pre-order that names u
abbrev pub first_naming : Tree → ℕ → Option ℕ
first_naming m u = option_map (λ (n : Node Look). n.id) (find (λ (n : Node Look). is_nil n.children && names_child u n.known) (all_of m.trees))

abbrev pub is_id : Option ℕ → ℕ → Bool
is_id None u = false
is_id (Some v) u = v == u
