-- Places as they are stored, and maps from places to numbers.
use Rattle.std.specs.Prelude.{ℕ, ◌≡◌, ◌<◌, List, Option, Some, None, refl}
use Rattle.std.specs.Ordering.{nat_cmp}
use Rattle.std.specs.FinMap.Entries.{put}
use Rattle.std.specs.Coded.{Coded, code_by, coded×, coded_ℕ}
use Rattle.ax_base.specs.declared.position.Place.{Place}
use Rattle.ax_node.specs.declared.value.Value.{Value}
use Rattle.ax_rules.specs.StitchedTree.{place_number}
use Rattle.ax_rules.specs.Combined.{number_of}

-- a place is stored as the pair of its ids
abbrev pub coded_place : Coded Place
coded_place = code_by (ℕ × ℕ) (coded× coded_ℕ coded_ℕ) (λ p. (p.tree, p.node)) (λ c. record { tree = c.0; node = c.1 }) (λ _. refl)

-- the map has the number of each place of the list, and nothing at another place
pub record AreNumbers (m : ℕ → Option ℕ) (ps : List Place) : Type 0 where
  pub at : (p : Place) → p.node < 2147483648 → m (place_number p) ≡ number_of ps p

-- attributes in which a key has this value, if it is one
abbrev pub with_value : ℕ → Option Value → List (ℕ × Value) → List (ℕ × Value)
with_value k None es = es
with_value k (Some v) es = put nat_cmp k v es
