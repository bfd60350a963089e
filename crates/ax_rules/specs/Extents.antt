-- Offset containers: from where a node's rectangle is measured, and its extent in the plane.
use Rattle.std.specs.Prelude.{ℕ, ℤ, Bool, ◌==◌, ◌&&◌, ◌+ℤ◌, ◌-ℤ◌, int_le, int_lt, List, [], ◌∷◌, find, Option, Some, None, option_map, option_and_then, option_to_list}
use Rattle.std.specs.List.{list_any}
use Rattle.ax_base.specs.Area.{Area}
use Rattle.ax_base.specs.declared.position.Place.{Place}
use Rattle.ax_base.specs.declared.rect.Point.{Point}
use Rattle.ax_node.specs.Look.{Look}
use Rattle.ax_trees.specs.Nodes.{Node}
use Rattle.ax_tree.specs.Tree.{Tree}
use Rattle.ax_tree.specs.Forest.{Forest, live_tree}
use Rattle.ax_rules.specs.Sequences.{first_of}
use Rattle.ax_rules.specs.Looks.{attr, int_in, node_in, line_up}
use Rattle.ax_rules.specs.Rows.{container_key, scroll_x_key, scroll_y_key}

-- where a node stands, and how far what is measured from it is scrolled
pub record Origin : Type 0 where
  pub node : ℕ
  pub x : ℤ
  pub y : ℤ
  pub scroll_x : ℤ
  pub scroll_y : ℤ

-- the origin of the container, where that is among those above
unfoldable pub base_among : List Origin → Look → Option Origin
base_among above x = option_and_then (λ c. find (λ (o : Origin). o.node == c) above) (node_in (attr x container_key))

abbrev pub moved_x : ℤ → Option Origin → ℤ
moved_x x None = x
moved_x x (Some o) = x +ℤ o.x -ℤ o.scroll_x

abbrev pub moved_y : ℤ → Option Origin → ℤ
moved_y y None = y
moved_y y (Some o) = y +ℤ o.y -ℤ o.scroll_y

unfoldable pub origin_under : List Origin → Node Look → Origin
origin_under above n = record {
  node = n.id;
  x = moved_x n.known.rect.x (base_among above n.known);
  y = moved_y n.known.rect.y (base_among above n.known);
  scroll_x = int_in (attr n.known scroll_x_key);
  scroll_y = int_in (attr n.known scroll_y_key);
}

-- the origins of a node and all above it, the nearest first
abbrev pub origins : List (Node Look) → List Origin
origins [] = []
origins (n ∷ above) = origin_under (origins above) n ∷ origins above

abbrev pub base_in : List (Node Look) → Option ℕ
base_in [] = None
base_in (n ∷ above) = option_map (λ (o : Origin). o.node) (base_among (origins above) n.known)

-- the node that n's `container` names, where it is a proper ancestor of n
unfoldable pub base_of : Tree → ℕ → Option ℕ
base_of m n = base_in (line_up m.trees n)

abbrev pub extent_at : Look → Origin → Area
extent_at x o = record { x = o.x; y = o.y; w = x.rect.w; h = x.rect.h }

abbrev pub extent_in : List (Node Look) → Option Area
extent_in [] = None
extent_in (n ∷ above) = option_map (extent_at n.known) (first_of (origins (n ∷ above)))

-- the node's origin with its width and height
unfoldable pub extent_of : Tree → ℕ → Option Area
extent_of m n = extent_in (line_up m.trees n)

-- the extent of a place is that of its node in its own tree
unfoldable pub place_extent : Forest → Place → Option Area
place_extent f p = option_and_then (λ (m : Tree). extent_of m p.node) (live_tree f p.tree)

unfoldable pub holds : Area → Point → Bool
holds a p = int_le a.x p.x && (int_lt p.x (a.x +ℤ a.w) && (int_le a.y p.y && int_lt p.y (a.y +ℤ a.h)))

unfoldable pub extent_holds : Forest → Point → Place → Bool
extent_holds f at p = list_any (λ a. holds a at) (option_to_list (place_extent f p))
