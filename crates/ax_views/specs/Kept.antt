-- When a map from ids keeps a tree. E is what the map has at an id, of which a spot can be read: the id above, what is known, and the children.
use Rattle.std.specs.Prelude.{ℕ, ◌≡◌, ◌≤◌, Option, option_map, option_to_list}
use Rattle.ax_trees.specs.Trees.{Trees, height, roots, IsTree}
use Rattle.ax_trees.specs.Nodes.{Node}
use Rattle.ax_trees.specs.Spots.{Spot, spot, grown}

-- a spot as the node of its id
abbrev pub spot_node : {X : Type 0} → ℕ → Spot X → Node X
spot_node z s = record { id = z; known = s.known; children = s.children }

-- what a map has at an id, as a node
abbrev pub node_in : {E X : Type 0} → (E → Spot X) → (ℕ → Option E) → ℕ → Option (Node X)
node_in spot_of m z = option_map (λ e. spot_node z (spot_of e)) (m z)

-- the trees that a map shows below a root, or none: no chain of a kept tree has more than 256 nodes
unfoldable pub trees_in : {E X : Type 0} → (E → Spot X) → (ℕ → Option E) → Option ℕ → Trees X
trees_in spot_of m root = grown (node_in spot_of m) 256 (option_to_list root)

-- The map keeps the tree f below the root: at each id of f it has the entry of what stands there, and nothing at any other.
pub record Keeps {E X : Type 0} (entry_of : ℕ → Spot X → E) (m : ℕ → Option E) (root : Option ℕ) (f : Trees X) : Type 0 where
  pub at : (z : ℕ) → m z ≡ option_map (entry_of z) (spot f z)
  pub is_tree : IsTree f
  pub tops : roots f ≡ option_to_list root
  pub low : height f ≤ 256
