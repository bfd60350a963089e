-- The search of the leaf on which a position before a child stands, behind another child.
use Rattle.std.specs.Prelude.{ℕ, ◌+◌, Bool, nat_le, nat_lt, ◌&&◌, if◌then◌else◌, Option, Some, None}
use Rattle.ax_base.specs.declared.position.Place.{Place}
use Rattle.ax_rules.specs.Texts.{capped}
use Rattle.ax_position.specs.Walks.{Row}
use Rattle.ax_position.specs.Surveys.{counted, begun_survey, surveyed}
use Rattle.ax_position.specs.declared.child_search.ChildSearch.{ChildSearch}

abbrev pub begun_child : Place → Option Place → ChildSearch
begun_child p end = record { survey = begun_survey p p end 18446744073709551615; at = 0; found = None }

-- the global offset up to which the place's text was surveyed
abbrev pub child_goal : ChildSearch → ℕ
child_goal s = capped (s.survey.target.start + s.survey.len)

-- no later leaf starts by it
abbrev pub is_past : ChildSearch → Bool
is_past s = s.survey.ended && (s.survey.target.met && nat_lt (child_goal s) s.at)

-- one more row: the last leaf that starts by it
abbrev pub sought_child_on : ChildSearch → Row → ChildSearch
sought_child_on s r =
    let survey = surveyed s.survey r in
    record {
      survey = survey;
      at = counted r.leaf s.at r.text;
      found = if r.leaf && (r.within && nat_le s.at (capped (survey.target.start + survey.len))) then Some (record { place = r.place; start = s.at }) else s.found;
    }

abbrev pub sought_child : ChildSearch → Row → ChildSearch
sought_child s r = if is_past s then s else sought_child_on s r
