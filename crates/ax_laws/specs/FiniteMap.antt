-- The written definition of a tree: a finite map from id to node, and a root or none.
use Rattle.std.specs.Prelude.{ℕ, zero, suc, ◌≡◌, true, false, is_some, List, Option, Some, None}
use Rattle.ax_trees.specs.Nodes.{Node}
use Rattle.ax_trees.specs.Lists.{contains, NoneTwice}

-- z is reached from y in k steps from node to child
abbrev pub Steps : {X : Type 0} → (ℕ → Option (Node X)) → ℕ → ℕ → ℕ → Type 0
Steps m zero y z = y ≡ z
Steps m (suc k) y z = (x : ℕ) × (n : Node _) × Steps m k y x × (m x ≡ Some n) × (contains n.children z ≡ true)

pub record IsTreeMap {X : Type 0} (m : ℕ → Option (Node X)) (root : Option ℕ) : Type 0 where
  -- all ids are in a list
  pub finite : (ids : List ℕ) × ((z : ℕ) → is_some (m z) ≡ true → contains ids z ≡ true)
  -- each node has its own id
  pub named : (z : ℕ) (n : Node X) → m z ≡ Some n → n.id ≡ z
  -- without a root the map is empty
  pub none : root ≡ None → (z : ℕ) → is_some (m z) ≡ false
  -- the root is in the map and in no child list
  pub root_in : (r : ℕ) → root ≡ Some r → is_some (m r) ≡ true
  pub root_free : (r y : ℕ) (n : Node X) → root ≡ Some r → m y ≡ Some n → contains n.children r ≡ false
  -- each listed child is in the map
  pub child_in : (y z : ℕ) (n : Node X) → m y ≡ Some n → contains n.children z ≡ true → is_some (m z) ≡ true
  -- an id stands in one child list at most, and there once
  pub one_list : (y x z : ℕ) (n p : Node X) → m y ≡ Some n → m x ≡ Some p → contains n.children z ≡ true → contains p.children z ≡ true → y ≡ x
  pub once : (y : ℕ) (n : Node X) → m y ≡ Some n → NoneTwice n.children
  -- all are reached from the root; so each other id stands in a child list
  pub reached : (r z : ℕ) → root ≡ Some r → is_some (m z) ≡ true → (k : ℕ) × Steps m k r z
