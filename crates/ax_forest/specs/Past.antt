-- What contracts see of a forest.
use Rattle.std.specs.Prelude.{ℕ, List, refl}
use Rattle.std.specs.Coded.{Coded, code_by, coded×, coded_ℕ, coded_list}
use Rattle.ax_tree.specs.declared.packet.HEntry.{HEntry}
use Rattle.ax_tree.specs.contracts.packet.HEntry.{the_row}
use Rattle.ax_tree.specs.Forest.{Forest}
use Rattle.ax_rules.specs.Mirrors.{built_forest_of}

-- the trees in their order, and what the browser has done and received, in order
pub record Past : Type 0 where
  pub trees : List ℕ
  pub history : List HEntry

-- the trees that the applied bundles build
abbrev pub forest_of : Past → Forest
forest_of p = built_forest_of p.trees p.history

-- a past is stored as the pair of its parts
abbrev pub coded_past : Coded Past
coded_past = code_by (List ℕ × List HEntry) (coded× (coded_list coded_ℕ) (coded_list the_row.coded)) (λ p. (p.trees, p.history)) (λ p. record { trees = p.0; history = p.1 }) (λ _. refl)
