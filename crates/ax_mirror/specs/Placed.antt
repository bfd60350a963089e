-- What a map of entries says at each id.
use Rattle.std.specs.Prelude.{ℕ, true, [], Option, Some, None, option_map, if◌then◌else◌}
use Rattle.std.specs.Ordering.{nat_cmp}
use Rattle.std.specs.FinMap as map
use Rattle.ax_node.specs.Look.{Look, look_of, node_of, blank_look}
use Rattle.ax_trees.specs.Nodes.{Node}
use Rattle.ax_mirror.specs.declared.entries.Entry.{Entry}

-- entries by id
abbrev pub Nodes : Type 0
Nodes = map.FinMap nat_cmp Entry

-- the node that an entry tells. Nothing is known of a pending one.
abbrev pub told_node : Entry → Node (Option Look)
told_node e = record { id = e.node.id; known = if e.pending then None else Some (look_of e.node); children = e.node.children }

abbrev pub look : Nodes → ℕ → Option (Node (Option Look))
look m z = option_map told_node (map.get m z)

-- the id above, and how many nodes the chain has
abbrev pub told_place : Entry → Option ℕ × ℕ
told_place e = (e.above, e.level)

abbrev pub place : Nodes → ℕ → Option (Option ℕ × ℕ)
place m z = option_map told_place (map.get m z)

abbrev pub pending_entry : Option ℕ → ℕ → ℕ → Entry
pending_entry above level z = record { above = above; level = level; pending = true; node = node_of z blank_look [] }
