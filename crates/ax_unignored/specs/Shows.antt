-- When a node and a place are shown.
use Rattle.std.specs.Prelude.{Bool, false, not, Option, Some, None, option_and_then}
use Rattle.ax_base.specs.declared.position.Place.{Place}
use Rattle.ax_node.specs.Look.{Look}
use Rattle.ax_node.specs.States.{has_state}
use Rattle.ax_trees.specs.Nodes.{Node, node_at}
use Rattle.ax_tree.specs.Tree.{Tree}
use Rattle.ax_tree.specs.Forest.{Forest, live_tree}
use Rattle.ax_rules.specs.Rows.{ignored_state}

-- the node isn't ignored
abbrev pub is_lit : Look → Bool
is_lit x = not (has_state x.states ignored_state)

abbrev pub shows_node : Option (Node Look) → Bool
shows_node None = false
shows_node (Some n) = is_lit n.known

-- the place is that of a node that isn't ignored
abbrev pub shows : Forest → Place → Bool
shows f p = shows_node (option_and_then (λ (m : Tree). node_at m.trees p.node) (live_tree f p.tree))
