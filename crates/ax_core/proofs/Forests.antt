-- Where the packets fit the journals, the trees that bundles build are the mirrors.
use Rattle.std.proofs.Common.{ℕ, ◌≡◌, if◌then◌else◌, List, [], ◌∷◌, map, refl, ap, ap₂, ◌∙◌, Some, None}
use Rattle.std.specs.List.{All}
use Rattle.std.proofs.lemmas.List.Elements.{All-head, All-tail}
use Rattle.ax_tree.specs.declared.packet.HEntry.{HEntry}
use Rattle.ax_tree.specs.Forest.{Standing}
use Rattle.ax_tree.proofs.GoodFronts.{good_front}
use Rattle.ax_rules.specs.Histories.{is_gone, got}
use Rattle.ax_rules.specs.Mirrors.{built_of, mirror_of, built_forest_of, forest_of, standing}
use Rattle.ax_rules.proofs.Building.{bundles_build}
use Rattle.ax_run_rules.specs.States.{FrameRun, State, trees_of, forest_now}
use Rattle.ax_core.specs.FrameRuns.{IsFitting}
use Rattle.ax_core.specs.Standing.{Stands, IsKept}

all_same : (h : List HEntry) (fs : List FrameRun) → All (IsFitting h) fs → map (standing h (built_of h)) (map (λ (f : FrameRun). f.tree) fs) ≡ map (standing h (mirror_of h)) (map (λ (f : FrameRun). f.tree) fs)
all_same h [] a = refl
all_same h (f ∷ fs) a =
    let built = bundles_build h f.tree (good_front f.tree (got h f.tree) f.waiting (All-head (IsFitting h) f fs a).good) in
    ap₂ (λ (x : Standing) (xs : List Standing). x ∷ xs) (ap (λ m. record { id = f.tree; tree = if is_gone h f.tree then None else Some m }) built) (all_same h fs (All-tail (IsFitting h) f fs a))

pub built_is_now : (s : State) → Stands s → built_forest_of (trees_of s) s.history ≡ forest_now s
unfolding built_forest_of forest_now forest_of
built_is_now s stands = all_same s.history s.frames stands.fitting

pub kept_forest : (s : State) (ps ts : List ℕ) → IsKept s ps ts → built_forest_of ts s.history ≡ forest_now s
kept_forest s ps ts k = ap (λ (l : List ℕ). built_forest_of l s.history) k.trees ∙ built_is_now s k.stands
