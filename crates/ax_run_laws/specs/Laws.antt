-- The laws of whole runs, over all scripts and orders.
use Rattle.std.specs.Prelude.{ℕ, ◌≡◌, ◌≤◌, Bool, true, false, ◌==◌, if◌then◌else◌, List, [], ◌∷◌, ◌++◌, map, Some, None}
use Rattle.std.specs.List.{list_any}
use Rattle.ax_trees.specs.Trees.{is_bare}
use Rattle.ax_trees.specs.Lists.{NoneTwice}
use Rattle.ax_tree.specs.Tree.{Tree, empty}
use Rattle.ax_tree.specs.Forest.{Forest}
use Rattle.ax_tree.specs.Journals.{packets_of, source_of}
use Rattle.ax_tree.specs.Packets.{IsGood, Fits}
use Rattle.ax_ask.specs.declared.op.FrameOp.{FrameOp}
use Rattle.ax_ask.specs.declared.op.BrowserOp.{BrowserOp}
use Rattle.ax_ask.specs.declared.op.BrowserOp.TheVariants.{Ask, Destroy, Probe}
use Rattle.ax_ask.specs.declared.op.TimedOp.{TimedOp}
use Rattle.ax_ask.specs.declared.op.Item.{Item}
use Rattle.ax_ask.specs.declared.op.Item.TheVariants as items
use Rattle.ax_ask.specs.declared.line.Line.{Line}
use Rattle.ax_ask.specs.declared.line.Line.TheVariants as lines
use Rattle.ax_tree.specs.declared.verdict.Verdict.{Verdict}
use Rattle.ax_tree.specs.declared.verdict.Verdict.TheVariants as verdicts
use Rattle.ax_rules.specs.Histories.{is_gone, token_of, got}
use Rattle.ax_rules.specs.Mirrors.{mirror_of}
use Rattle.ax_tree.specs.declared.packet.Packet.{Packet}
use Rattle.ax_rules.specs.Laws.{Agrees}
use Rattle.ax_run_rules.specs.Scripts.{Script, FrameScript}
use Rattle.ax_run_rules.specs.FrameSteps.{entry_of}
use Rattle.ax_run_rules.specs.States.{FrameRun, Run, begin, find_frame, forest_now, without_lines}
use Rattle.ax_run_rules.specs.Steps.{step, run}
use Rattle.ax_run_rules.specs.Finale.{finale_of}

-- the browser operation destroys the tree t
abbrev pub destroys : ℕ → BrowserOp → Bool
destroys t (Ask u) = false
destroys t (Destroy u) = u == t
destroys t (Probe u x) = false

abbrev pub is_destroyed : List TimedOp → ℕ → Bool
is_destroyed os t = list_any (λ (o : TimedOp). destroys t o.op) os

-- what a run has of a tree and its frame: the packets received, and those that wait, are those of the journal's passes
pub record HasItsPackets (r : Run) (t : ℕ) (f : FrameRun) : Type 0 where
  pub packets : got r.state.history t ++ f.waiting ≡ packets_of t f.journal
  pub fit : Fits t f.journal (got r.state.history t ++ f.waiting)
  pub good : IsGood t (got r.state.history t)

-- In each run each tree's packets are those of its frame's journal, and so they are good.
abbrev pub EachRunHasItsPackets : Type 0
EachRunHasItsPackets =
    (s : Script) (o : List Item) (r : Run) (t : ℕ) (f : FrameRun) → run o (begin s) ≡ Some r → find_frame r.state t ≡ Some f → HasItsPackets r t f

-- After the finale each tree that hasn't ended, and whose frame's source has a root, is that source.
abbrev pub EachTreeCatchesUp : Type 0
EachTreeCatchesUp =
    (s : Script) (o : List Item) (r e : Run) (t : ℕ) (f : FrameRun) → run o (begin s) ≡ Some r → finale_of (without_lines r) ≡ Some e → find_frame e.state t ≡ Some f
    → is_gone e.state.history t ≡ false → is_bare (source_of t f.journal).trees ≡ false → mirror_of e.state.history t ≡ source_of t f.journal

-- the tree that a frame's operations leave; the empty tree where that has no root
abbrev pub tree_left : ℕ → List FrameOp → Tree
tree_left t os = let s = source_of t (map entry_of os) in if is_bare s.trees then empty t else s

-- the forest that a script leaves, whatever the order
abbrev pub forest_left : Script → Forest
forest_left s = map (λ (f : FrameScript). record { id = f.tree; tree = if is_destroyed s.browser f.tree then None else Some (tree_left f.tree f.ops) }) s.frames

-- After the finale the forest, and so the dump, depends on the script alone, where no tree has two frames.
abbrev pub ForestIsOfTheScript : Type 0
ForestIsOfTheScript =
    (s : Script) (o : List Item) (r e : Run) → NoneTwice (map (λ (f : FrameScript). f.tree) s.frames) → run o (begin s) ≡ Some r → finale_of (without_lines r) ≡ Some e
    → forest_now e.state ≡ forest_left s

-- a delivery names a token that was asked for
abbrev pub IsAsked : Run → Item → Type 0
IsAsked r (items.Frame t) = Unit {0}
IsAsked r (items.Receive t) = Unit {0}
IsAsked r items.Browser = Unit {0}
IsAsked r (items.Deliver t n) = n.0 ≤ token_of r.state.history t
IsAsked r (items.Reader k) = Unit {0}

-- so does each delivery of an order, in its turn
abbrev pub TokensAsked : List Item → Run → Type 0
TokensAsked [] r = Unit {0}
TokensAsked (i ∷ o) r = IsAsked r i × ((q : Run) → step r i ≡ Some q → TokensAsked o q)

-- the line tells of a gap
abbrev pub is_gap_verdict : Verdict → Bool
is_gap_verdict (verdicts.Applied n es) = false
is_gap_verdict (verdicts.Stale had want) = false
is_gap_verdict (verdicts.Gap base at) = true
is_gap_verdict verdicts.Gone = false

abbrev pub is_gap : Line → Bool
is_gap (lines.Received t v) = is_gap_verdict v
is_gap l = false

-- Where each delivered token was asked for before, no receipt is a gap.
abbrev pub NoReceiptIsAGap : Type 0
NoReceiptIsAGap = (s : Script) (o : List Item) (r : Run) → TokensAsked o (begin s) → run o (begin s) ≡ Some r → list_any is_gap r.lines ≡ false

-- In each run the packet that a tree receives next has the same verdict by what bundles build as by mirrors; and where it is to be applied, its bundle is accepted and gives the next mirror.
abbrev pub NoUpdateInOrderIsRefused : Type 0
NoUpdateInOrderIsRefused =
    (s : Script) (o : List Item) (r : Run) (t : ℕ) (f : FrameRun) (p : Packet) (ps : List Packet) → run o (begin s) ≡ Some r → find_frame r.state t ≡ Some f → f.waiting ≡ p ∷ ps
    → Agrees r.state.history p
