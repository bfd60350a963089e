-- How the counts of `gen` add up.
use Rattle.std.specs.Prelude.{ℕ, ◌+◌, List, length, codes, sum_by}
use Rattle.std.specs.Fmt.{decimal}
use Rattle.ax_tree.specs.declared.verdict.Event.{Event}
use Rattle.ax_ask.specs.declared.line.Line.{Line}
use Rattle.ax_run_rules.specs.Writing.{◌⌢◌}
use Rattle.ax_top.specs.declared.making.Counts.{Counts}
use Rattle.ax_top.specs.Gen.{packets, listed_in, receipts}

-- what the lines tell
unfoldable pub counts_of : List Line → Counts
counts_of ls = record {
  passes = length (packets ls);
  listed = sum_by listed_in (packets ls);
  applied = length (receipts ls);
  events = sum_by (λ (es : List Event). length es) (receipts ls);
}

abbrev pub plus : Counts → Counts → Counts
plus a b = record { passes = a.passes + b.passes; listed = a.listed + b.listed; applied = a.applied + b.applied; events = a.events + b.events }

-- the line behind its head
unfoldable pub counts_line : List ℕ → Counts → ℕ → List ℕ
counts_line head c nodes =
    head ⌢ codes " passes " ⌢ decimal c.passes ⌢ codes " listed " ⌢ decimal c.listed
    ⌢ codes " applied " ⌢ decimal c.applied ⌢ codes " events " ⌢ decimal c.events ⌢ codes " nodes " ⌢ decimal nodes ⌢ codes "\n"
