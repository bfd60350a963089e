-- The place that a point hits.
use Rattle.std.specs.Prelude.{Bool, ◌&&◌, ◌||◌, not, List, filter, Option, option_map, option_to_list}
use Rattle.std.specs.List.{list_any, list_all}
use Rattle.ax_base.specs.declared.position.Place.{Place}
use Rattle.ax_base.specs.declared.rect.Point.{Point}
use Rattle.ax_tree.specs.Forest.{Forest}
use Rattle.ax_rules.specs.Sequences.{last_of}
use Rattle.ax_rules.specs.Looks.{attr, is_set}
use Rattle.ax_rules.specs.Rows.{clips_key}
use Rattle.ax_rules.specs.Stitched.{Placed, stitched, find_placed}
use Rattle.ax_rules.specs.Extents.{extent_holds}

-- the place clips what stands below it
unfoldable pub clips : List Placed → Place → Bool
clips l p = list_any (λ (s : Placed). is_set (attr s.look clips_key)) (option_to_list (find_placed l p))

-- its extent holds the point, and so do those of all clipping places above it
unfoldable pub is_hit : Forest → List Placed → Point → Placed → Bool
is_hit f l at s = extent_holds f at s.place && list_all (λ p. not (clips l p) || extent_holds f at p) s.above

-- the last such place
unfoldable pub hit_of : Forest → Point → Option Place
hit_of f at = let l = stitched f in option_map (λ (s : Placed). s.place) (last_of (filter (is_hit f l at) l))
