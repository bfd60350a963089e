-- The forest that a snapshot shows is that of the mirrors.
use Rattle.std.proofs.Common.{◌≡◌, ℕ, List, [], ◌∷◌, refl}
use Rattle.ax_tree.specs.declared.packet.HEntry.{HEntry}
use Rattle.ax_tree.specs.Packets.{IsGood}
use Rattle.ax_rules.specs.Histories.{got}
use Rattle.ax_rules.specs.Mirrors.{standing, forest_of, built_forest_of}
use Rattle.ax_rules.proofs.Building.{bundles_build}

pub shown_forest : (ts : List ℕ) (h : List HEntry) → ((t : ℕ) → IsGood t (got h t)) → built_forest_of ts h ≡ forest_of ts h
unfolding built_forest_of forest_of
shown_forest [] h good = refl
shown_forest (t ∷ ts) h good = λ i. standing h (λ u. bundles_build h u (good u) i) t ∷ shown_forest ts h good i
