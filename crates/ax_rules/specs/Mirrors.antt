-- The trees that a history makes of its packets, the verdicts with their events, and the forest.
use Rattle.std.specs.Prelude.{ℕ, if◌then◌else◌, ◌==◌, List, [], ◌∷◌, ◌++◌, map, Some, None, Result, Ok, Err}
use Rattle.ax_tree.specs.declared.packet.HEntry.{HEntry}
use Rattle.ax_tree.specs.declared.packet.HEntry.TheVariants.{Got}
use Rattle.ax_tree.specs.declared.packet.Packet.{Packet}
use Rattle.ax_tree.specs.declared.update.BundleErr.{BundleErr}
use Rattle.ax_tree.specs.declared.verdict.Verdict.{Verdict}
use Rattle.ax_tree.specs.declared.verdict.Verdict.TheVariants.{Applied}
use Rattle.ax_tree.specs.Tree.{Tree, empty}
use Rattle.ax_tree.specs.Updates.{applied_all}
use Rattle.ax_tree.specs.Packets.{source_at}
use Rattle.ax_tree.specs.Forest.{Forest, Standing}
use Rattle.ax_rules.specs.Histories.{is_gone, got, applied_pass, verdict_at}
use Rattle.ax_rules.specs.Events.{events_of}

-- the mirror of a tree: its frame's source at the last applied pass
unfoldable pub mirror_of : List HEntry → ℕ → Tree
mirror_of h t = source_at t (got h t) (applied_pass h t)

-- the verdict on a packet, with the events between the mirrors before and after it
unfoldable pub verdict_of : List HEntry → Packet → Verdict
verdict_of h p = verdict_at h (applied_pass h p.tree) p (events_of (mirror_of h p.tree) (mirror_of (h ++ Got p ∷ []) p.tree))

-- ---- what the bundles build, whatever the slips say

abbrev pub tree_or : Tree → Result Tree BundleErr → Tree
tree_or old (Ok new) = new
tree_or old (Err e) = old

-- the bundle upon its base; a bundle that is refused changes nothing
unfoldable pub built_by : Packet → Tree → Tree
built_by p old = tree_or old (applied_all p.bundle (if p.base.0 == 0 then empty p.tree else old))

abbrev pub built_or : Tree → Packet → Verdict → Tree
built_or old p (Applied n es) = built_by p old
built_or old p v = old

-- the built tree of t after one more entry
abbrev pub built_after : ℕ → List HEntry → Tree → HEntry → Tree
built_after t before old (Got p) = if p.tree == t then built_or old p (verdict_at before (applied_pass before t) p []) else old
built_after t before old e = old

abbrev pub built_from : ℕ → List HEntry → Tree → List HEntry → Tree
built_from t before old [] = old
built_from t before old (e ∷ es) = built_from t (before ++ e ∷ []) (built_after t before old e) es

unfoldable pub built_of : List HEntry → ℕ → Tree
built_of h t = built_from t [] (empty t) h

-- the verdict with the events between built trees
unfoldable pub built_verdict_of : List HEntry → Packet → Verdict
built_verdict_of h p = verdict_at h (applied_pass h p.tree) p (events_of (built_of h p.tree) (built_by p (built_of h p.tree)))

-- ---- forests

-- the trees in their order, each as `shown` has it, but for those that have ended
abbrev pub standing : List HEntry → (ℕ → Tree) → ℕ → Standing
standing h shown t = record { id = t; tree = if is_gone h t then None else Some (shown t) }

unfoldable pub forest_of : List ℕ → List HEntry → Forest
forest_of ts h = map (standing h (mirror_of h)) ts

unfoldable pub built_forest_of : List ℕ → List HEntry → Forest
built_forest_of ts h = map (standing h (built_of h)) ts
