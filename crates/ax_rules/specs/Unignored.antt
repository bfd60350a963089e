-- The shown list: the stitched list without the places whose node is ignored.
use Rattle.std.specs.Prelude.{ℕ, Bool, ◌&&◌, not, List, filter, find, Option, option_to_list}
use Rattle.std.specs.List.{list_any}
use Rattle.ax_base.specs.declared.position.Place.{Place}
use Rattle.ax_node.specs.States.{has_state}
use Rattle.ax_trees.specs.Lists.{is_nil}
use Rattle.ax_rules.specs.Looks.{same_place}
use Rattle.ax_rules.specs.Rows.{ignored_state}
use Rattle.ax_rules.specs.Stitched.{Placed, places, stands_at, is_within, next_in, prev_in}
use Rattle.ax_rules.specs.Texts.{joined}

unfoldable pub is_unignored : Placed → Bool
is_unignored s = not (has_state s.look.states ignored_state)

unfoldable pub unignored : List Placed → List Placed
unignored l = filter is_unignored l

unfoldable pub is_shown_place : List Placed → Place → Bool
is_shown_place l p = list_any (λ (s : Placed). stands_at p s && is_unignored s) l

-- the nearest shown place above
unfoldable pub shown_parent : List Placed → Placed → Option Place
shown_parent l s = find (is_shown_place l) s.above

abbrev pub is_shown_child : List Placed → Place → Placed → Bool
is_shown_child l p s = list_any (same_place p) (option_to_list (shown_parent l s))

-- the shown places whose shown parent is p, in order
unfoldable pub shown_children : List Placed → Place → List Place
shown_children l p = places (filter (is_shown_child l p) (unignored l))

unfoldable pub shown_next : List Placed → Place → Option Place
shown_next l p = next_in (places (unignored l)) p

unfoldable pub shown_prev : List Placed → Place → Option Place
shown_prev l p = prev_in (places (unignored l)) p

-- a shown place without shown children
unfoldable pub is_shown_leaf : List Placed → Placed → Bool
is_shown_leaf l s = is_nil (shown_children l s.place)

-- the joined texts of the shown leaves at p or below it
unfoldable pub shown_text : List Placed → Place → List ℕ
shown_text l p = joined (filter (is_within p) (filter (is_shown_leaf l) (unignored l)))
