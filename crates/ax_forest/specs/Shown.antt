-- The forest that a list of ids shows beside the trees by id, and what may take the place of a tree in it.
use Rattle.std.specs.Prelude.{ℕ, ◌≡◌, ◌≤◌, true, if◌then◌else◌, List, length, map, Option, Some, None, refl}
use Rattle.std.specs.Ordering.{nat_cmp}
use Rattle.std.specs.FinMap as fin
use Rattle.std.specs.Coded.{Coded, code_by, coded×, coded_ℕ, coded_list, coded_option}
use Rattle.ax_trees.specs.Lists.{contains, NoneTwice}
use Rattle.ax_tree.specs.Tree.{Tree, empty}
use Rattle.ax_tree.specs.Forest.{Forest, Standing, IsSoundTree, live_tree}
use Rattle.ax_mirror.specs.Mirrors.{NamesChanges, coded_tree}

abbrev pub shown_tree : fin.FinMap nat_cmp Tree → ℕ → Standing
shown_tree ms t = record { id = t; tree = fin.get ms t }

abbrev pub shown : List ℕ → fin.FinMap nat_cmp Tree → Forest
shown ids ms = map (shown_tree ms) ids

-- There is an id, and none stands twice. No other id has a tree. Each tree is sound.
pub record IsTable (ids : List ℕ) (ms : fin.FinMap nat_cmp Tree) : Type 0 where
  pub some : 1 ≤ length ids
  pub once : NoneTwice ids
  pub listed : (t : ℕ) (m : Tree) → fin.get ms t ≡ Some m → contains ids t ≡ true
  pub sound : (t : ℕ) (m : Tree) → fin.get ms t ≡ Some m → IsSoundTree t m

-- the ids of ts have empty trees, and no other id has one
abbrev pub AreEmpty : List ℕ → fin.FinMap nat_cmp Tree → Type 0
AreEmpty ts ms = (t : ℕ) → fin.get ms t ≡ (if contains ts t then Some (empty t) else None)

abbrev pub ids_of : Forest → List ℕ
ids_of f = map (λ (s : Standing). s.id) f

-- the sound tree m may take the place of the live tree t, from which it differs at touched ids alone
pub record MayFollow (f : Forest) (t : ℕ) (m : Tree) (touched : List ℕ) : Type 0 where
  pub old : Tree
  pub live : live_tree f t ≡ Some old
  pub names : NamesChanges old m touched
  pub sound : IsSoundTree t m

-- a standing is stored as the pair of its parts
abbrev pub coded_standing : Coded Standing
coded_standing = code_by (ℕ × Option Tree) (coded× coded_ℕ (coded_option coded_tree)) (λ s. (s.id, s.tree)) (λ p. record { id = p.0; tree = p.1 }) (λ _. refl)

abbrev pub coded_forest : Coded Forest
coded_forest = coded_list coded_standing
