-- The search of the leaf of a place on which an offset of its text stands.
use Rattle.std.specs.Prelude.{ℕ, ◌+◌, ◌-◌, Bool, nat_le, nat_lt, ◌&&◌, if◌then◌else◌, Option, Some, None, is_some}
use Rattle.ax_base.specs.declared.position.Affinity.{Affinity}
use Rattle.ax_base.specs.declared.position.Affinity.TheVariants.{Up, Down}
use Rattle.ax_base.specs.declared.position.Place.{Place}
use Rattle.ax_base.specs.declared.position.Pos.{Pos}
use Rattle.ax_base.specs.declared.position.Pos.TheVariants.{Text}
use Rattle.ax_rules.specs.Texts.{capped}
use Rattle.ax_position.specs.Walks.{Row}
use Rattle.ax_position.specs.Surveys.{counted, begun_start, started}
use Rattle.ax_position.specs.declared.leaves.Leaf.{Leaf}
use Rattle.ax_position.specs.declared.leaves.Search.{Search}

-- downstream a leaf that starts by the global offset g, upstream one that ends from it on
abbrev pub fits : Affinity → ℕ → ℕ → ℕ → Bool
fits Down g start end = nat_le start g
fits Up g start end = nat_le g end

-- downstream the last leaf, upstream the first
abbrev pub kept : Affinity → Option Leaf → Leaf → Option Leaf
kept Down found leaf = Some leaf
kept Up None leaf = Some leaf
kept Up (Some first) leaf = Some first

abbrev pub begun_search : Place → ℕ → Affinity → Search
begun_search p o a = record { target = begun_start p; offset = o; affinity = a; at = 0; len = 0; found = None }

-- the global offset that is sought, where the place was met
abbrev pub goal_of : Search → ℕ
goal_of s = capped (s.target.start + s.offset)

-- no later leaf is found
abbrev pub is_found_by : Affinity → Search → Bool
is_found_by Down s = nat_lt (goal_of s) s.at
is_found_by Up s = is_some s.found && nat_le s.offset s.len

abbrev pub is_found : Search → Bool
is_found s = is_found_by s.affinity s

-- one more row, where a leaf may still be found
abbrev pub sought_on : Search → Row → Search
sought_on s r =
    let target = started s.target r in
    let end = counted r.leaf s.at r.text in
    record {
      target = target;
      offset = s.offset;
      affinity = s.affinity;
      at = end;
      len = counted (r.leaf && r.within) s.len r.text;
      found = if r.leaf && (r.within && fits s.affinity (capped (target.start + s.offset)) s.at end) then kept s.affinity s.found (record { place = r.place; start = s.at }) else s.found;
    }

abbrev pub sought : Search → Row → Search
sought s r = if s.target.met && is_found s then s else sought_on s r

-- the position of a global offset on a leaf
abbrev pub pos_on : ℕ → Affinity → Leaf → Pos
pos_on g a leaf = Text leaf.place.tree leaf.place.node (g - leaf.start) a
