-- What is told at an id.
use Rattle.std.specs.Prelude.{ℕ, Bool, List, [], ◌++◌, map, Option, Some, None}
use Rattle.ax_node.specs.Look.{Look}
use Rattle.ax_trees.specs.Nodes.{Node, node_at}
use Rattle.ax_tree.specs.Tree.{Tree}
use Rattle.ax_tree.specs.declared.verdict.Event.{Event}
use Rattle.ax_rules.specs.Sequences.{where_true}
use Rattle.ax_rules.specs.Rows.{live_region_changed, subtree_created}
use Rattle.ax_rules.specs.Events.{at_node, own_events, changes, tops_new_part}

-- What is told at the node of an id, where there is one; `changed` are the live regions that changed.
abbrev pub node_told : (ℕ → Bool) → Tree → Tree → Option (Node Look) → List Event
node_told changed old new None = []
node_told changed old new (Some n) =
    map (at_node new.about.tree n.id) (own_events old new n (node_at old.trees n.id) ++ where_true (changed n.id) live_region_changed)

abbrev pub told_at : (ℕ → Bool) → Tree → Tree → ℕ → List Event
told_at changed old new z = node_told changed old new (node_at new.trees z)

-- what is told at the node n of the id z itself
abbrev pub own_or : Tree → Tree → ℕ → Node Look → Option (Node Look) → List ℕ
own_or old new z n None = where_true (tops_new_part old new z) subtree_created
own_or old new z n (Some o) = changes o n

abbrev pub own_at : Tree → Tree → ℕ → Node Look → List ℕ
own_at old new z n = own_or old new z n (node_at old.trees z)
