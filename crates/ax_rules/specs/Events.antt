-- The event rule: what a receipt tells of the old and the new tree.
use Rattle.std.specs.Prelude.{ℕ, Bool, true, false, ◌==◌, ◌&&◌, ◌||◌, not, if◌then◌else◌, bytes_eq, codes, List, [], ◌++◌, find, map, flat_map, Option, Some, None, option_map, option_to_list, is_some}
use Rattle.std.specs.List.{list_any}
use Rattle.ax_attrs.specs.Entry.{Entry}
use Rattle.ax_attrs.specs.Tables.{state_rows, key_rows}
use Rattle.ax_attrs.specs.declared.table.When.{When}
use Rattle.ax_attrs.specs.declared.table.When.TheVariants.{Gained, Either, Lost}
use Rattle.ax_node.specs.Look.{Look}
use Rattle.ax_node.specs.States.{has_state}
use Rattle.ax_node.specs.declared.value.Value.TheVariants.{Text}
use Rattle.ax_trees.specs.Trees.{has, is_root}
use Rattle.ax_trees.specs.Nodes.{Node, node_at, parent_or}
use Rattle.ax_tree.specs.SerialRule.{all_of}
use Rattle.ax_tree.specs.Tree.{Tree}
use Rattle.ax_tree.specs.declared.verdict.Event.{Event}
use Rattle.ax_rules.specs.Sequences.{where_true}
use Rattle.ax_rules.specs.Looks.{attr, same_value, same_number, same_area, same_end, same_option, line_up}
use Rattle.ax_rules.specs.Rows.{name_key, live_key, document_title_changed, url_changed, load_complete, selection_changed, focus_changed, role_changed, location_changed, children_changed, subtree_created, live_region_changed}

abbrev pub at_node : ℕ → ℕ → ℕ → Event
at_node t i k = record { tree = t; node = Some i; kind = k }

abbrev pub at_tree : ℕ → ℕ → Event
at_tree t k = record { tree = t; node = None; kind = k }

-- a new focus, where the tree has its node
abbrev pub focus_events : Tree → Option ℕ → List Event
focus_events new None = []
focus_events new (Some i) = where_true (has new.trees i) (at_node new.about.tree i focus_changed)

unfoldable pub tree_events : Tree → Tree → List Event
tree_events old new =
    let t = new.about.tree in
    where_true (not (bytes_eq old.about.title new.about.title)) (at_tree t document_title_changed)
    ++ where_true (not (bytes_eq old.about.url new.about.url)) (at_tree t url_changed)
    ++ where_true (not old.about.loaded && new.about.loaded) (at_tree t load_complete)
    ++ where_true (not (same_option same_end old.about.anchor new.about.anchor && same_option same_end old.about.end new.about.end)) (at_tree t selection_changed)
    ++ (if same_option same_number old.about.focus new.about.focus then [] else focus_events new new.about.focus)

-- ---- a node of both trees

abbrev pub tells_gained : When → Bool
tells_gained Gained = true
tells_gained Either = true
tells_gained Lost = false

abbrev pub tells_lost : When → Bool
tells_lost Gained = false
tells_lost Either = true
tells_lost Lost = true

unfoldable pub state_events : Look → Look → Entry → List ℕ
state_events old new row =
    let had = has_state old.states row.number in
    let now = has_state new.states row.number in
    flat_map (λ (e : ℕ × When). where_true ((now && not had && tells_gained e.1) || (had && not now && tells_lost e.1)) e.0) (option_to_list row.event)

unfoldable pub attr_events : Look → Look → Entry → List ℕ
attr_events old new row =
    if same_option same_value (attr old row.number) (attr new row.number) then [] else map (λ (e : ℕ × When). e.0) (option_to_list row.event)

unfoldable pub changes : Node Look → Node Look → List ℕ
changes old new =
    where_true (not (old.known.role == new.known.role)) role_changed
    ++ flat_map (state_events old.known new.known) state_rows
    ++ flat_map (attr_events old.known new.known) key_rows
    ++ where_true (not (same_area old.known.rect new.known.rect)) location_changed
    ++ where_true (not (bytes_eq old.children new.children)) children_changed

-- a node that the old tree doesn't have is the top of a new part where it is the root or its parent is an old node
abbrev pub tops_new_part : Tree → Tree → ℕ → Bool
tops_new_part old new i = is_root new.trees i || has old.trees (parent_or new.trees i i)

abbrev pub own_events : Tree → Tree → Node Look → Option (Node Look) → List ℕ
own_events old new n None = where_true (tops_new_part old new n.id) subtree_created
own_events old new n (Some o) = changes o n

-- ---- live regions

abbrev pub is_off : Look → Bool
is_off x = same_option same_value (attr x live_key) (Some (Text (codes "off")))

-- the nearest node, itself or above, that has `live`
abbrev pub region_of : Tree → ℕ → Option ℕ
region_of new i = option_map (λ (n : Node Look). n.id) (find (λ (n : Node Look). is_some (attr n.known live_key)) (line_up new.trees i))

-- not in the old tree, or with another name or another child list there
abbrev pub differs : Node Look → Option (Node Look) → Bool
differs n None = true
differs n (Some o) = not (same_option same_value (attr o.known name_key) (attr n.known name_key) && bytes_eq o.children n.children)

-- an old node whose `live` isn't `off`, and some node of its region differs
unfoldable pub is_region_changed : Tree → Tree → Node Look → Bool
is_region_changed old new l =
    is_some (attr l.known live_key) && (not (is_off l.known) && (has old.trees l.id
    && list_any (λ (n : Node Look). same_option same_number (region_of new n.id) (Some l.id) && differs n (node_at old.trees n.id)) (all_of new.trees)))

unfoldable pub node_events : Tree → Tree → Node Look → List Event
node_events old new n =
    map (at_node new.about.tree n.id) (own_events old new n (node_at old.trees n.id) ++ where_true (is_region_changed old new n) live_region_changed)

-- the tree's events, and then those of each node of the new tree in pre-order
unfoldable pub events_of : Tree → Tree → List Event
events_of old new = tree_events old new ++ flat_map (node_events old new) (all_of new.trees)
