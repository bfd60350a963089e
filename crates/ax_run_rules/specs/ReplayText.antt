-- The whole text of a run, and the text of an order.
use Rattle.std.specs.Prelude.{ℕ, List, codes, Option, option_map, option_and_then}
use Rattle.std.specs.Fmt.{decimal}
use Rattle.ax_ask.specs.declared.op.Item.{Item}
use Rattle.ax_ask.specs.declared.op.Item.TheVariants as items
use Rattle.ax_run_rules.specs.Scripts.{Script}
use Rattle.ax_run_rules.specs.States.{Run, begin, without_lines, forest_now}
use Rattle.ax_run_rules.specs.Steps.{run}
use Rattle.ax_run_rules.specs.Finale.{finale_of}
use Rattle.ax_run_rules.specs.Writing.{◌⌢◌, spaced}
use Rattle.ax_run_rules.specs.LineText.{lines_text}
use Rattle.ax_run_rules.specs.Dump.{dump_text}

unfoldable pub item_text : Item → List ℕ
item_text (items.Frame t) = codes "f" ⌢ decimal t
item_text (items.Receive t) = codes "a" ⌢ decimal t
item_text items.Browser = codes "b"
item_text (items.Deliver t n) = codes "d" ⌢ decimal t ⌢ codes ":" ⌢ decimal n.0
item_text (items.Reader k) = codes "r" ⌢ decimal k

unfoldable pub order_text : List Item → List ℕ
order_text o = spaced item_text o

-- lines, and the dump where they end
unfoldable pub ended_text : Run → List ℕ
ended_text r = lines_text r.lines ⌢ codes "dump\n" ⌢ dump_text (forest_now r.state)

-- the lines of the order's items, the finale's lines, and the dump; none where an item isn't there in its turn
unfoldable pub replay_text : Script → List Item → Option (List ℕ)
replay_text s o =
    option_and_then (λ (r : Run). option_map (λ e. lines_text r.lines ⌢ codes "finale\n" ⌢ ended_text e) (finale_of (without_lines r))) (run o (begin s))
