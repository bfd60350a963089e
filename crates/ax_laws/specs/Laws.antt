-- The laws of updates, edits, bundles and packets, over all trees, clients, marks and journals.
use Rattle.std.specs.Prelude.{ℕ, ◌≡◌, ◌≤◌, Bool, true, false, List, [], ◌∷◌, ◌++◌, map, filter, Some, None, Result, Ok, Err}
use Rattle.ax_trees.specs.Trees.{IsTree, is_bare, has, height}
use Rattle.ax_trees.specs.Nodes.{node_at, tree_at, pre}
use Rattle.ax_trees.specs.Shape.{shape}
use Rattle.ax_tree.specs.declared.edit.Edit.{Edit}
use Rattle.ax_tree.specs.declared.packet.Packet.{Packet}
use Rattle.ax_tree.specs.declared.packet.JEntry.{JEntry}
use Rattle.ax_tree.specs.declared.packet.JEntry.TheVariants.{Passed}
use Rattle.ax_tree.specs.declared.update.Refusal.{Refusal}
use Rattle.ax_tree.specs.declared.update.TreeUpdate.{TreeUpdate}
use Rattle.ax_tree.specs.UpdateRule.{Update}
use Rattle.ax_tree.specs.UpdateShape.{SameShape}
use Rattle.ax_tree.specs.MarkRule.{add_mark, add_marks}
use Rattle.ax_tree.specs.SerialRule.{from_root, goes_on, last_common, is_plain, is_closed}
use Rattle.ax_tree.specs.Reach.{IsReached, FitsReached, IsClosed}
use Rattle.ax_tree.specs.InStep.{lists}
use Rattle.ax_tree.specs.Bundles.{Client, trees_after_all}
use Rattle.ax_node.specs.Look.{Look, blank_look}
use Rattle.ax_tree.specs.Tree.{Tree, IsWellFormed, empty}
use Rattle.ax_tree.specs.Edits.{edited, refusal, marks_after, flag_after}
use Rattle.ax_tree.specs.Updates.{applied, applied_all}
use Rattle.ax_tree.specs.Serialised.{InStep, update_of, client_after_update, marks_after_update, bundle_of, resumed_bundle}
use Rattle.ax_tree.specs.Journals.{frame_of, pending, packet_at, packets_of, source_of}
use Rattle.ax_tree.specs.Packets.{IsGood, Fits, head_of}

-- ---- updates

abbrev pub shape_of_result : Result Tree Refusal → Result Client Refusal
shape_of_result (Ok t) = Ok (shape t.trees)
shape_of_result (Err e) = Err e

-- the same refusal, or trees with the same root and the same parent of each id
abbrev pub SameOutcome : Result Tree Refusal → Result Tree Refusal → Type 0
SameOutcome (Ok t) (Ok q) = SameShape t.trees q.trees
SameOutcome (Ok t) (Err e) = ⊥
SameOutcome (Err e) (Ok q) = ⊥
SameOutcome (Err e) (Err d) = e ≡ d

-- An update's refusal, and root and parents of its result, depend on the tree's root and parents alone, whatever the order of children. Where that is the same too, it is so in the result.
abbrev pub RefusalsSeeShapeAlone : Type 0
RefusalsSeeShapeAlone =
    ((u : TreeUpdate) (r q : Tree) → IsWellFormed r → IsWellFormed q → SameShape r.trees q.trees → SameOutcome (applied u r) (applied u q))
    × ((u : TreeUpdate) (r q : Tree) → shape r.trees ≡ shape q.trees → shape_of_result (applied u r) ≡ shape_of_result (applied u q))

-- what becomes of an update that r accepts
pub record Accepted (r : Tree) (u : TreeUpdate) : Type 0 where
  pub made : Tree
  pub accepted : applied u r ≡ Ok made
  pub well_formed : IsWellFormed made
  pub low : height made.trees ≤ 256
  -- the new client is the result's shape
  pub client : client_after_update (shape r.trees) u ≡ shape made.trees

-- The update at a node of the source is accepted by each tree with the client's shape, with no chain above 256.
abbrev pub EachUpdateIsAccepted : Type 0
EachUpdateIsAccepted =
    (r s : Tree) (m : List ℕ) (d : ℕ) → IsWellFormed r → IsWellFormed s → height r.trees ≤ 256 → height s.trees ≤ 256 → has s.trees d ≡ true
    → Accepted r (update_of (shape r.trees) s m d)

-- It depends on the client's root and on the parent of each id alone, whatever the order of children.
abbrev pub UpdateSeesParentsAlone : Type 0
UpdateSeesParentsAlone = (c k : Client) (s : Tree) (m : List ℕ) (d : ℕ) → IsTree c → IsTree k → SameShape c k → update_of c s m d ≡ update_of k s m d

-- The listed nodes are the source's, in pre-order; their ids are the least set that has a and, with each member, those of its children through which reach goes on.
abbrev pub ListedAreReached : Type 0
ListedAreReached =
    (s : Tree) (c : Client) (m : List ℕ) (a : ℕ) → IsWellFormed s → has s.trees a ≡ true
    → let ns = from_root (goes_on c m) (tree_at s.trees a) in
    (map (λ n. Some n) ns ≡ map (node_at s.trees) (filter (lists ns) (pre s.trees a)))
    × ((z : ℕ) → (lists ns z ≡ true → IsReached s.trees (goes_on c m) a z) × (IsReached s.trees (goes_on c m) a z → lists ns z ≡ true))

-- The tests for plain and closed say what the sets say.
abbrev pub TestsAreSets : Type 0
TestsAreSets =
    ((s : Tree) (c : Client) (m : List ℕ) (r a : ℕ) → IsWellFormed s → has s.trees a ≡ true
    → (is_plain c s.trees m r a ≡ true → (last_common c s.trees r a ≡ a) × FitsReached c s.trees (goes_on c m) a)
    × ((last_common c s.trees r a ≡ a) × FitsReached c s.trees (goes_on c m) a → is_plain c s.trees m r a ≡ true))
    × ((s : Tree) (c : Client) (y : ℕ) → (is_closed c s.trees y ≡ true → IsClosed c s.trees y) × (IsClosed c s.trees y → is_closed c s.trees y ≡ true))

-- ---- in step

-- Each accepted update keeps a receiver in step, with its result in the receiver's place.
abbrev pub EachUpdateKeepsStep : Type 0
EachUpdateKeepsStep =
    (r s : Tree) (m : List ℕ) (flag fresh : Bool) (d : ℕ) (made : Tree) → InStep r s m flag fresh → has s.trees d ≡ true
    → applied (update_of (shape r.trees) s m d) r ≡ Ok made
    → InStep made s (marks_after_update (update_of (shape r.trees) s m d) d m) flag fresh

abbrev pub EachEditKeepsStep : Type 0
EachEditKeepsStep =
    (e : Edit) (r s : Tree) (m : List ℕ) (flag fresh : Bool) → InStep r s m flag fresh → refusal e s ≡ None
    → InStep r (edited e s) (marks_after e s m) (flag_after e flag) fresh

abbrev pub EachTouchKeepsStep : Type 0
EachTouchKeepsStep =
    (z : ℕ) (r s : Tree) (m : List ℕ) (flag fresh : Bool) → InStep r s m flag fresh → has s.trees z ≡ true
    → InStep r s (add_mark m z) flag fresh × InStep r s (add_marks m (pre s.trees z)) flag fresh

-- After a delivery the receiver is empty, and its next bundle is fresh.
abbrev pub EachDeliveryKeepsStep : Type 0
EachDeliveryKeepsStep = (r s : Tree) (m : List ℕ) (flag fresh : Bool) → InStep r s m flag fresh → InStep (empty s.about.tree) s m flag true

-- ---- bundles

-- A bundle gives the source, which is in step with itself with no mark and no flag.
abbrev pub EachBundleGivesTheSource : Type 0
EachBundleGivesTheSource =
    (r s : Tree) (m : List ℕ) (flag : Bool) → InStep r s m flag (is_bare r.trees)
    → (applied_all (bundle_of (shape r.trees) s m flag) r ≡ Ok s) × InStep s s [] false false

-- So do the kept updates of bundles that were broken off, followed by the updates from there: `from` is the tree under the kept ones, and r what they make of it.
abbrev pub BrokenBundleIsCompleted : Type 0
BrokenBundleIsCompleted =
    (kept : List (Update Look)) (from r s : Tree) (m : List ℕ) (flag fresh : Bool) → height from.trees ≤ 256 → from.about ≡ r.about
    → trees_after_all blank_look kept from.trees ≡ Ok r.trees → InStep r s m flag fresh
    → applied_all (resumed_bundle kept (shape r.trees) s m flag fresh) from ≡ Ok s

-- ---- journals and packets

-- After each journal the receiver of its packets is in step, and the frame's source is the journal's.
abbrev pub EachJournalKeepsStep : Type 0
EachJournalKeepsStep =
    (t : ℕ) (journal : List JEntry) → ((frame_of t journal).source ≡ source_of t journal)
    × (let f = frame_of t journal in InStep f.sent f.source f.marks f.flag (is_bare f.sent.trees))

-- The packets of each journal fit it, and so they are good.
abbrev pub PacketsOfJournalAreGood : Type 0
PacketsOfJournalAreGood = (t : ℕ) (journal : List JEntry) → IsGood t (packets_of t journal) × Fits t journal (packets_of t journal)

-- A front of a good list is good.
abbrev pub FrontOfGoodIsGood : Type 0
FrontOfGoodIsGood = (t : ℕ) (front back : List Packet) → IsGood t (front ++ back) → IsGood t front

-- A pass that makes a packet leaves a journal that the longer list fits: the packet has the journal's pass, base, token and slip, and its bundle gives the source.
abbrev pub PassLeavesLongerListFitting : Type 0
PassLeavesLongerListFitting =
    (t : ℕ) (journal : List JEntry) (packets : List Packet) (p : Packet) → Fits t journal packets → pending (frame_of t journal) ≡ true
    → head_of p ≡ head_of (packet_at t (frame_of t journal)) → applied_all p.bundle (frame_of t journal).sent ≡ Ok (frame_of t journal).source
    → Fits t (journal ++ (Passed ∷ [])) (packets ++ (p ∷ []))

-- Every other entry, and a pass with nothing to send, leaves one that the list fits. The empty list fits the empty journal.
abbrev pub OtherEntriesLeaveListFitting : Type 0
OtherEntriesLeaveListFitting =
    ((t : ℕ) → Fits t [] [])
    × ((t : ℕ) (journal : List JEntry) (packets : List Packet) (e : JEntry) → Fits t journal packets → (e ≡ Passed → pending (frame_of t journal) ≡ false)
    → Fits t (journal ++ (e ∷ [])) packets)
