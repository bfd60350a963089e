-- The laws of the order that running threads took, over the closed hub's parts alone.
use Rattle.std.specs.Prelude.{ℕ, zero, suc, ◌≡◌, List, [], ◌∷◌, ◌++◌, length, map, filter, filter_map, flat_map, slice_get, codes, Option, Some, None, option_map, option_and_then}
use Rattle.ax_tree.specs.declared.packet.Packet.{Packet}
use Rattle.ax_tree.specs.declared.packet.HEntry.{HEntry}
use Rattle.ax_tree.specs.Packets.{IsGood}
use Rattle.ax_ask.specs.declared.op.Item.{Item}
use Rattle.ax_ask.specs.declared.op.Item.TheVariants.{Reader}
use Rattle.ax_rules.specs.Histories.{got}
use Rattle.ax_run_rules.specs.Scripts.{Script}
use Rattle.ax_ask.specs.declared.line.Line.{Line}
use Rattle.ax_run_rules.specs.Writing.{◌⌢◌}
use Rattle.ax_run_rules.specs.LineText.{lines_text}
use Rattle.ax_run_rules.specs.ReplayText.{ended_text, replay_text}
use Rattle.ax_run_rules.specs.States.{Run, begin, forest_now}
use Rattle.ax_run_rules.specs.Steps.{run}
use Rattle.ax_run_rules.specs.Finale.{finale_of}
use Rattle.ax_run_rules.specs.Fair.{is_receipt, is_reader, delivered_to, is_due, each_follows, IsFair}
use Rattle.ax_run_rules.specs.Taken.{Closed, order_taken}
use Rattle.ax_order_laws.specs.Parts.{op_in, journal_in, list_at, IsClosedHub, IsTakenFrom, state_taken, without_bundles, run_without}
use Rattle.ax_order_laws.specs.Told.{is_frame, is_entry, told_by, placed}
use Rattle.ax_order_laws.specs.Workers.{is_got, is_due_after, each_comes_in_time, delivered, item_in, Worked}

-- a run that ends in the state of the closed hub's parts, but for the packets' bundles, which are good there too
pub record EndsIn (s : Script) (c : Closed) (waiting : List Packet) (looks : List (List ℕ)) (r : Run) : Type 0 where
  pub state : without_bundles r.state ≡ without_bundles (state_taken s c waiting looks)
  pub good : (t : ℕ) → IsGood t (got r.state.history t)

-- Each item of the order taken is there in its turn, and the run ends in the state of the parts.
abbrev pub OrderTakenIsThere : Type 0
OrderTakenIsThere =
    (s : Script) (c : Closed) (waiting : List Packet) (looks : List (List ℕ)) → IsClosedHub c waiting looks → IsTakenFrom s c looks
    → (r : Run) × (run (order_taken c looks) (begin s) ≡ Some r) × EndsIn s c waiting looks r

-- All stands in the order: each operation and each delivery of each journal, each entry of the history, receipts among the others, and each query that was asked.
pub record StandsWhole (c : Closed) (looks : List (List ℕ)) (o : List Item) : Type 0 where
  pub operations : (t : ℕ) → length (filter (is_frame t) o) ≡ length (flat_map op_in (journal_in c t))
  pub deliveries : (t : ℕ) → filter_map (delivered_to t) o ≡ filter_map delivered (journal_in c t)
  pub entries : map is_receipt (filter is_entry o) ≡ map is_got c.history
  pub queries : (k : ℕ) → length (filter (is_reader (suc k)) o) ≡ length (list_at looks k)

abbrev pub OrderTakenIsWhole : Type 0
OrderTakenIsWhole = (c : Closed) (waiting : List Packet) (looks : List (List ℕ)) → IsClosedHub c waiting looks → StandsWhole c looks (order_taken c looks)

-- the look at the place j of the reader of a number, from 1
abbrev pub look_at : List (List ℕ) → ℕ → ℕ → Option ℕ
look_at looks zero j = None
look_at looks (suc k) j = slice_get (list_at looks k) j

-- Each query stands where just the entries that its snapshot counted stand before it.
abbrev pub QueriesStandAtTheirLooks : Type 0
QueriesStandAtTheirLooks =
    (c : Closed) (waiting : List Packet) (looks : List (List ℕ)) (front back : List Item) (k : ℕ) → IsClosedHub c waiting looks → order_taken c looks ≡ front ++ Reader k ∷ back
    → look_at looks k (length (filter (is_reader k) front)) ≡ Some (length (filter is_entry front))

-- The lines of that run are those of the calls, each in its place.
abbrev pub LinesAreOfTheCalls : Type 0
LinesAreOfTheCalls =
    (s : Script) (c : Closed) (waiting : List Packet) (looks : List (List ℕ)) (r : Run) → IsClosedHub c waiting looks → IsTakenFrom s c looks → run (order_taken c looks) (begin s) ≡ Some r
    → placed (told_by s c looks) [] (order_taken c looks) ≡ Some r.lines

-- Where the workers kept their clauses, the order is fair.
abbrev pub OrderTakenIsFair : Type 0
OrderTakenIsFair =
    (s : Script) (c : Closed) (waiting : List Packet) (looks : List (List ℕ)) → IsClosedHub c waiting looks → IsTakenFrom s c looks → Worked s c looks → IsFair s (order_taken c looks)

-- Bundles tell nothing: runs that are the same but for them go on the same, through each order and through the finale, and show the same forest.
pub record GoOnTheSame (a b : Run) : Type 0 where
  pub orders : (o : List Item) → option_map run_without (run o a) ≡ option_map run_without (run o b)
  pub finale : option_map run_without (finale_of a) ≡ option_map run_without (finale_of b)
  pub forest : forest_now a.state ≡ forest_now b.state

abbrev pub BundlesTellNothing : Type 0
BundlesTellNothing = (a b : Run) → run_without a ≡ run_without b → GoOnTheSame a b

-- what a closed hub has to print: the lines of its calls, each in its place, and the finale from the state of its parts
abbrev pub parts_run : Script → Closed → List Packet → List (List ℕ) → Run
parts_run s c waiting looks = record { state = state_taken s c waiting looks; lines = [] }

unfoldable pub parts_text : Script → Closed → List Packet → List (List ℕ) → Option (List ℕ)
parts_text s c waiting looks =
    option_and_then (λ (ls : List Line). option_map (λ (e : Run). lines_text ls ⌢ codes "finale\n" ⌢ ended_text e) (finale_of (parts_run s c waiting looks)))
    (placed (told_by s c looks) [] (order_taken c looks))

-- That is the text of the order taken.
abbrev pub TextIsOfTheOrderTaken : Type 0
TextIsOfTheOrderTaken =
    (s : Script) (c : Closed) (waiting : List Packet) (looks : List (List ℕ)) → IsClosedHub c waiting looks → IsTakenFrom s c looks
    → replay_text s (order_taken c looks) ≡ parts_text s c waiting looks

-- A history is in time just where the order of its items alone is: so clauses on an order of receipts and operations give those on the history.
pub record InTimeAsItems (s : Script) (h : List HEntry) : Type 0 where
  pub in_time : each_follows s [] (map item_in h) ≡ each_comes_in_time s.browser [] h
  pub due : is_due s (map item_in h) ≡ is_due_after s.browser h
  pub entries : map is_receipt (filter is_entry (map item_in h)) ≡ map is_got h

abbrev pub HistoriesAreInTimeAsTheirItems : Type 0
HistoriesAreInTimeAsTheirItems = (s : Script) (h : List HEntry) → InTimeAsItems s h
