-- Two places that are surveyed in one walk.
use Rattle.ax_position.specs.Walks.{Row}
use Rattle.ax_position.specs.declared.pairs.Pair.{Pair}
use Rattle.ax_position.specs.Surveys.{surveyed}
use Rattle.ax_position.specs.Ranks.{met_first}

-- a row with the other place as the one that is asked for
abbrev pub turned : Row → Row
turned r = record { place = r.place; text = r.text; leaf = r.leaf; within = r.also; also = r.within }

abbrev pub surveyed_both : Pair → Row → Pair
surveyed_both s r = record { one = surveyed s.one r; other = surveyed s.other (turned r); meeting = met_first s.meeting r }
