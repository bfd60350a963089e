-- What stands at an attribute, and when two values, rectangles and places are the same.
use Rattle.std.specs.Prelude.{ℕ, ℤ, pos, Bool, true, false, not, ◌==◌, ◌&&◌, int_le, bytes_eq, List, [], reverse, filter_map, Option, Some, None}
use Rattle.std.specs.Ordering.{nat_cmp}
use Rattle.std.specs.FinMap.Entries.{find}
use Rattle.ax_base.specs.Area.{Area}
use Rattle.ax_base.specs.declared.position.Place.{Place}
use Rattle.ax_node.specs.declared.value.Value.{Value}
use Rattle.ax_node.specs.declared.value.Value.TheVariants.{Text, Int, Flag, Node, Tree}
use Rattle.ax_node.specs.Look.{Look}
use Rattle.ax_trees.specs.Trees.{Trees}
use Rattle.ax_trees.specs.Nodes.{chain, node_at}
use Rattle.ax_trees.specs.Nodes as nodes
use Rattle.ax_rules.specs.Rows.{name_key}

-- the value at a key
abbrev pub attr : Look → ℕ → Option Value
attr x k = find nat_cmp k x.attrs

-- the text, number or node that a value is, where it is one
abbrev pub text_in : Option Value → List ℕ
text_in (Some (Text s)) = s
text_in v = []

abbrev pub int_in : Option Value → ℤ
int_in (Some (Int n)) = n
int_in v = pos 0

abbrev pub node_in : Option Value → Option ℕ
node_in (Some (Node n)) = Some n
node_in v = None

abbrev pub is_set : Option Value → Bool
is_set (Some (Flag b)) = b
is_set v = false

-- the name, or the empty text
abbrev pub name_text : Look → List ℕ
name_text x = text_in (attr x name_key)

abbrev pub same_int : ℤ → ℤ → Bool
same_int x y = int_le x y && int_le y x

abbrev pub same_flag : Bool → Bool → Bool
same_flag true b = b
same_flag false b = not b

abbrev pub same_number : ℕ → ℕ → Bool
same_number a b = a == b

abbrev pub same_value : Value → Value → Bool
same_value (Text a) (Text b) = bytes_eq a b
same_value (Int a) (Int b) = same_int a b
same_value (Flag a) (Flag b) = same_flag a b
same_value (Node a) (Node b) = a == b
same_value (Tree a) (Tree b) = a == b
same_value a b = false

abbrev pub same_area : Area → Area → Bool
same_area a b = same_int a.x b.x && (same_int a.y b.y && (same_int a.w b.w && same_int a.h b.h))

-- an end of a selection: a node and an offset
abbrev pub same_end : ℕ × ℕ → ℕ × ℕ → Bool
same_end a b = a.0 == b.0 && a.1 == b.1

abbrev pub same_place : Place → Place → Bool
same_place p q = p.tree == q.tree && p.node == q.node

-- both are none, or both are there and the same
abbrev pub same_option : {A : Type 0} → (A → A → Bool) → Option A → Option A → Bool
same_option same None None = true
same_option same (Some x) (Some y) = same x y
same_option same x y = false

-- a node and all above it, the nearest first
abbrev pub line_up : Trees Look → ℕ → List (nodes.Node Look)
line_up f z = filter_map (node_at f) (reverse (chain f z))
