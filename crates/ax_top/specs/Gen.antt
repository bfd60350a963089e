-- What `gen` tells of the run of a made script: how much was sent, applied and told, and how much stands at the end.
use Rattle.std.specs.Prelude.{ℕ, ◌∷◌, List, [], length, flat_map, codes, Option, Some, None, option_map}
use Rattle.std.specs.Fmt.{decimal}
use Rattle.std.specs.List.{sum_by}
use Rattle.ax_trees.specs.Trees.{count}
use Rattle.ax_tree.specs.declared.verdict.Event.{Event}
use Rattle.ax_tree.specs.declared.verdict.Verdict.TheVariants.{Applied}
use Rattle.ax_tree.specs.Forest.{Forest, Standing}
use Rattle.ax_tree.specs.Tree.{Tree}
use Rattle.ax_ask.specs.declared.line.Line.{Line}
use Rattle.ax_ask.specs.declared.line.Line.TheVariants.{Passed, Received}
use Rattle.ax_ask.specs.declared.line.MadeNote.{MadeNote}
use Rattle.ax_ask.specs.declared.line.PassNote.TheVariants.{Made}
use Rattle.ax_ask.specs.declared.line.UpdateNote.{UpdateNote}
use Rattle.ax_run_rules.specs.States.{Run, forest_now}
use Rattle.ax_run_rules.specs.Finale.{finished}
use Rattle.ax_run_rules.specs.Writing.{◌⌢◌}
use Rattle.ax_core.specs.Starting.{script_in}
use Rattle.ax_gen.specs.Made.{script_made}

-- the packet that a pass made, and the events of an applied packet, where the line tells of one
abbrev pub packet_in : Line → List MadeNote
packet_in (Passed t (Made m)) = m ∷ []
packet_in l = []

abbrev pub receipt_in : Line → List (List Event)
receipt_in (Received t (Applied n es)) = es ∷ []
receipt_in l = []

-- the packets that were made, and how much node data their updates list
unfoldable pub packets : List Line → List MadeNote
packets ls = flat_map packet_in ls

abbrev pub listed_in : MadeNote → ℕ
listed_in m = sum_by (λ (u : UpdateNote). length u.nodes) m.updates

-- the receipts that were applied, each as its events
unfoldable pub receipts : List Line → List (List Event)
receipts ls = flat_map receipt_in ls

abbrev pub nodes_in : Option Tree → ℕ
nodes_in None = 0
nodes_in (Some m) = count m.trees

unfoldable pub nodes_of : Forest → ℕ
nodes_of f = sum_by (λ (s : Standing). nodes_in s.tree) f

-- the line of a made script's run
unfoldable pub gen_line : ℕ → ℕ → ℕ → Run → List ℕ
gen_line seed frames ops r =
    codes "gen " ⌢ decimal seed ⌢ codes " " ⌢ decimal frames ⌢ codes " " ⌢ decimal ops
    ⌢ codes " passes " ⌢ decimal (length (packets r.lines)) ⌢ codes " listed " ⌢ decimal (sum_by listed_in (packets r.lines))
    ⌢ codes " applied " ⌢ decimal (length (receipts r.lines)) ⌢ codes " events " ⌢ decimal (sum_by (λ (es : List Event). length es) (receipts r.lines))
    ⌢ codes " nodes " ⌢ decimal (nodes_of (forest_now r.state)) ⌢ codes "\n"

-- of the run over the empty order, which is its finale alone
unfoldable pub gen_text : ℕ → ℕ → ℕ → Option (List ℕ)
gen_text seed frames ops = option_map (gen_line seed frames ops) (finished (script_in (script_made seed frames ops)) [])
