-- One tree with fresh ids for all places of the stitched list.
use Rattle.std.specs.Prelude.{ℕ, suc, if◌then◌else◌, List, map, filter_map, position, Option, Some, None, option_map, option_and_then}
use Rattle.std.specs.List.{enumerate_from}
use Rattle.ax_base.specs.declared.position.Place.{Place}
use Rattle.ax_node.specs.declared.value.Value.{Value}
use Rattle.ax_node.specs.declared.value.Value.TheVariants.{Text, Int, Flag, Node, Tree}
use Rattle.ax_node.specs.declared.tree_data.TreeData.{TreeData}
use Rattle.ax_node.specs.Look.{Look}
use Rattle.ax_trees.specs.Trees.{is_bare}
use Rattle.ax_trees.specs.Nodes as nodes
use Rattle.ax_tree.specs.Tree as trees
use Rattle.ax_tree.specs.Tree.{blank_data}
use Rattle.ax_tree.specs.Forest.{Forest, live_tree}
use Rattle.ax_rules.specs.Looks.{same_place}
use Rattle.ax_rules.specs.Stitched.{Placed, stitched, places, children_of, place_at}
use Rattle.ax_rules.specs.Focus.{focus_of}

-- the number of a place, from 1
unfoldable pub number_of : List Place → Place → Option ℕ
number_of ps p = option_map suc (position (same_place p) ps)

-- a value of the tree t: a node's number where it stands in the list, and no tree
abbrev pub numbered : List Place → ℕ → Value → Option Value
numbered ps t (Text s) = Some (Text s)
numbered ps t (Int n) = Some (Int n)
numbered ps t (Flag b) = Some (Flag b)
numbered ps t (Node z) = option_map Node (number_of ps (place_at t z))
numbered ps t (Tree c) = None

abbrev pub numbered_attr : List Place → ℕ → ℕ × Value → Option (ℕ × Value)
numbered_attr ps t a = option_map (λ v. (a.0, v)) (numbered ps t a.1)

unfoldable pub numbered_look : List Place → Placed → Look
numbered_look ps s = record s.look { attrs = filter_map (numbered_attr ps s.place.tree) s.look.attrs }

-- node k is the k-th place, and its children are the numbers of the place's children
unfoldable pub combined_node : List Placed → ℕ × Placed → nodes.Node Look
combined_node l s = record {
  id = s.0;
  known = numbered_look (places l) s.1;
  children = filter_map (number_of (places l)) (children_of l s.1.place);
}

unfoldable pub combined_nodes : Forest → List (nodes.Node Look)
combined_nodes f = let l = stitched f in map (combined_node l) (enumerate_from 1 l)

-- an end of the first tree's selection goes where its node isn't in the list
abbrev pub numbered_end : List Place → ℕ → ℕ × ℕ → Option (ℕ × ℕ)
numbered_end ps t e = option_map (λ k. (k, e.1)) (number_of ps (place_at t e.0))

abbrev pub combined_about : Forest → ℕ → TreeData → TreeData
combined_about f t d = record {
  tree = t;
  parent = None;
  focused = None;
  loaded = d.loaded;
  focus = option_and_then (number_of (places (stitched f))) (focus_of f);
  anchor = option_and_then (numbered_end (places (stitched f)) t) d.anchor;
  end = option_and_then (numbered_end (places (stitched f)) t) d.end;
  title = d.title;
  url = d.url;
}

abbrev pub combined_or_blank : Forest → ℕ → Option trees.Tree → TreeData
combined_or_blank f t None = blank_data t
combined_or_blank f t (Some m) = if is_bare m.trees then blank_data t else combined_about f t m.about

-- the first tree's data, renumbered; blank where it isn't live or has no root
unfoldable pub combined_data : Forest → ℕ → TreeData
combined_data f t = combined_or_blank f t (live_tree f t)
