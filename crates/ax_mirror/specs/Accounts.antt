-- Which ids updates may touch.
use Rattle.std.specs.Prelude.{ℕ, ◌≡◌, ◌≤◌, ◌+◌, length, ◌⊎◌, Bool, true, false, ◌||◌, ◌==◌, List, [], ◌∷◌, Option, is_some}
use Rattle.std.specs.FinMap as fin
use Rattle.ax_node.specs.declared.node.NodeData.{NodeData}
use Rattle.ax_node.specs.Look.{Look}
use Rattle.ax_trees.specs.Trees.{Trees, has}
use Rattle.ax_trees.specs.Lists.{contains, NoneTwice}
use Rattle.ax_tree.specs.Tree.{Tree}
use Rattle.ax_tree.specs.declared.update.TreeUpdate.{TreeUpdate}
use Rattle.ax_mirror.specs.declared.draft.Draft.{Draft}
use Rattle.ax_mirror.specs.Kept.{HoldsTree}
use Rattle.ax_mirror.specs.Begins.{root_is}
use Rattle.ax_mirror.specs.Finishes.{is_pending}

-- z is one of the nodes
abbrev pub lists_id : List NodeData → ℕ → Bool
lists_id [] z = false
lists_id (n ∷ ns) z = n.id == z || lists_id ns z

-- z is a child of one of the nodes
abbrev pub lists_child : List NodeData → ℕ → Bool
lists_child [] z = false
lists_child (n ∷ ns) z = contains n.children z || lists_child ns z

-- some update lists z
abbrev pub is_listed : List TreeUpdate → ℕ → Bool
is_listed [] z = false
is_listed (u ∷ us) z = lists_id u.nodes z || is_listed us z

-- some update may make z: as its root, or as a child
abbrev pub is_named : List TreeUpdate → ℕ → Bool
is_named [] z = false
is_named (u ∷ us) z = (root_is u.root z || lists_child u.nodes z) || is_named us z

-- z was listed, or it is gone, after it was there or was made
abbrev pub MayBeTouched : List TreeUpdate → Trees Look → Trees Look → ℕ → Type 0
MayBeTouched us old new z = (is_listed us z ≡ true) ⊎ ((has new z ≡ false) × ((has old z || is_named us z) ≡ true))

-- only ids that were listed, made or removed are touched
abbrev pub NamesOnly : List TreeUpdate → Tree → Tree → List ℕ → Type 0
NamesOnly us old new touched = (z : ℕ) → contains touched z ≡ true → MayBeTouched us old.trees new.trees z

-- From d to e only entries of d and named ids are touched, and what is new there is pending or listed.
pub record Accounts (named listed : ℕ → Bool) (d e : Draft) : Type 0 where
  pub from : (z : ℕ) → contains e.touched z ≡ true → (contains d.touched z || (is_some (fin.get d.nodes z) || named z)) ≡ true
  pub come : (z : ℕ) → is_some (fin.get e.nodes z) ≡ true → (is_some (fin.get d.nodes z) || named z) ≡ true
  pub now : (z : ℕ) → is_some (fin.get e.nodes z) ≡ true
      → (is_pending (fin.get e.nodes z) ≡ true) ⊎ ((listed z ≡ true) ⊎ ((fin.get e.nodes z ≡ fin.get d.nodes z) × (contains e.touched z ≡ true → contains d.touched z ≡ true)))

-- no id, and one id alone
abbrev pub no_id : ℕ → Bool
no_id z = false

abbrev pub is_id : ℕ → ℕ → Bool
is_id i z = i == z

-- the ids that a node names, those that nodes name, those that a start names, and all that an update names
abbrev pub node_names : NodeData → ℕ → Bool
node_names n z = n.id == z || contains n.children z

abbrev pub list_names : List NodeData → ℕ → Bool
list_names ns z = lists_id ns z || lists_child ns z

abbrev pub start_names : Option ℕ → Option ℕ → ℕ → Bool
start_names root clear z = root_is root z || root_is clear z

abbrev pub names : TreeUpdate → ℕ → Bool
names u z = start_names u.root u.clear z || list_names u.nodes z

-- Where d holds f and e holds g, only ids that were touched before or may be touched are touched, and g has nodes of f and listed ones alone.
pub record TouchesOnly (us : List TreeUpdate) (d e : Draft) : Type 0 where
  pub only : (f g : Trees Look) → HoldsTree d.nodes d.root f → HoldsTree e.nodes e.root g → (z : ℕ) → contains e.touched z ≡ true → (contains d.touched z ≡ true) ⊎ MayBeTouched us f g z
  pub come : (f g : Trees Look) → HoldsTree d.nodes d.root f → HoldsTree e.nodes e.root g → (z : ℕ) → has g z ≡ true → (has f z ≡ true) ⊎ (is_listed us z ≡ true)

-- What a call did that stopped from d to e: it touched only what d had touched, ids of d and named ids, and its steps, which rose from n to m, are no more than the ids that it touched.
pub record Reaches (named : ℕ → Bool) (d e : Draft) (n m : ℕ) : Type 0 where
  pub from : (z : ℕ) → contains e.touched z ≡ true → (contains d.touched z || (is_some (fin.get d.nodes z) || named z)) ≡ true
  pub cost : m + length d.touched ≤ n + length e.touched

-- an update names it
abbrev pub all_names : List TreeUpdate → ℕ → Bool
all_names [] z = false
all_names (u ∷ us) z = names u z || all_names us z

-- Steps rose from n to m by no more than there are ids in a list without repeats, each of which is in the tree or named by an update.
pub record StepsFor (us : List TreeUpdate) (old : Tree) (n m : ℕ) : Type 0 where
  pub ids : List ℕ
  pub once : NoneTwice ids
  pub meant : (z : ℕ) → contains ids z ≡ true → (has old.trees z || all_names us z) ≡ true
  pub cost : m ≤ n + length ids
