-- Where places start, and how long the text of one is up to a place in it.
use Rattle.std.specs.Prelude.{ℕ, ◌+◌, Bool, false, not, nat_le, ◌&&◌, ◌||◌, if◌then◌else◌, List, length, Option}
use Rattle.ax_base.specs.declared.position.Place.{Place}
use Rattle.ax_tree.specs.Forest.{is_place}
use Rattle.ax_rules.specs.Looks.{same_place}
use Rattle.ax_rules.specs.Texts.{capped}
use Rattle.ax_position.specs.Walks.{Row}
use Rattle.ax_position.specs.declared.starts.Start.{Start}
use Rattle.ax_position.specs.declared.survey.Survey.{Survey}

-- a length, and the length with a text more, where that counts
abbrev pub counted : Bool → ℕ → List ℕ → ℕ
counted counts n text = if counts then capped (n + length text) else n

-- nothing is met yet
abbrev pub begun_start : Place → Start
begun_start p = record { target = p; met = false; start = 0 }

-- up to the place each leaf's text counts
abbrev pub started : Start → Row → Start
started s r =
    let met = s.met || same_place r.place s.target in record { target = s.target; met = met; start = counted (r.leaf && not met) s.start r.text }

abbrev pub begun_survey : Place → Place → Option Place → ℕ → Survey
begun_survey p above end limit = record {
  target = begun_start p;
  above = begun_start above;
  end = end;
  limit = limit;
  ended = false;
  len = 0;
}

-- the text of the place ends at the place `end`, behind what is within it, and where the limit is reached
abbrev pub surveyed : Survey → Row → Survey
surveyed s r =
    let ended = s.ended || (is_place r.place s.end || (s.target.met && (not r.within || nat_le s.limit s.len))) in
    record {
      target = started s.target r;
      above = started s.above r;
      end = s.end;
      limit = s.limit;
      ended = ended;
      len = counted (r.leaf && (r.within && not ended)) s.len r.text;
    }
