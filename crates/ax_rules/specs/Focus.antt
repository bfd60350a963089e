-- The place that has the focus.
use Rattle.std.specs.Prelude.{ℕ, zero, suc, Bool, if◌then◌else◌, List, Option, Some, None, option_map, option_and_then, option_to_list, unwrap_or}
use Rattle.std.specs.List.{list_any}
use Rattle.ax_base.specs.declared.position.Place.{Place}
use Rattle.ax_node.specs.Look.{Look}
use Rattle.ax_trees.specs.Trees.{has, root_of}
use Rattle.ax_trees.specs.Nodes.{Node, node_at}
use Rattle.ax_tree.specs.Tree.{Tree}
use Rattle.ax_tree.specs.Forest.{Forest, first_tree, live_tree, hosted_by}
use Rattle.ax_rules.specs.Looks.{attr, node_in}
use Rattle.ax_rules.specs.Rows.{active_descendant_key}
use Rattle.ax_rules.specs.Stitched.{Placed, place_at, stitched, has_place}

-- a live tree whose root is in the list
unfoldable pub is_shown : Forest → List Placed → ℕ → Bool
is_shown f l t = list_any (λ (m : Tree). list_any (λ z. has_place l (place_at t z)) (option_to_list (root_of m.trees))) (option_to_list (live_tree f t))

-- the shown tree that hangs at a place
unfoldable pub shown_at : Forest → List Placed → Place → Option ℕ
shown_at f l p = option_and_then (λ t. if is_shown f l t then Some t else None) (hosted_by f p)

abbrev pub in_tree : Tree → Option ℕ → Option ℕ
in_tree m z = option_and_then (λ i. if has m.trees i then Some i else None) z

abbrev pub descendant_in : Option (Node Look) → Option ℕ
descendant_in n = option_and_then (λ (d : Node Look). node_in (attr d.known active_descendant_key)) n

-- where no shown tree hangs at n: the node that its `active_descendant` names, if it is in the tree, else n
unfoldable pub own_focus : Tree → ℕ → ℕ → Place
own_focus m t n = place_at t (unwrap_or (in_tree m (descendant_in (node_at m.trees n))) n)

-- where one hangs there: the focus of that tree, or n where it has none; `focus` gives that of a tree
abbrev pub focus_below : (ℕ → Option Place) → Tree → ℕ → ℕ → Option ℕ → Place
focus_below focus m t n None = own_focus m t n
focus_below focus m t n (Some c) = unwrap_or (focus c) (place_at t n)

unfoldable pub focus_at : (ℕ → Option Place) → Forest → List Placed → ℕ → Tree → Option Place
focus_at focus f l t m = option_map (λ n. focus_below focus m t n (shown_at f l (place_at t n))) (in_tree m m.about.focus)

-- the focus of the tree t, where so many levels are shown from it on
abbrev pub focus_in : ℕ → Forest → List Placed → ℕ → Option Place
focus_in zero f l t = None
focus_in (suc n) f l t = option_and_then (focus_at (focus_in n f l) f l t) (live_tree f t)

unfoldable pub focus_of : Forest → Option Place
focus_of f = option_and_then (focus_in 8 f (stitched f)) (first_tree f)
