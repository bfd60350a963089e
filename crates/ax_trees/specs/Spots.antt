-- Trees kept as a map from each id to its node, with or without the id above it.
use Rattle.std.specs.Prelude.{ℕ, zero, suc, ◌≡◌, ◌==◌, if◌then◌else◌, List, [], ◌∷◌, Option, Some, None, option_map}
use Rattle.ax_trees.specs.Trees.{Trees, bare, tree, roots, IsTree}
use Rattle.ax_trees.specs.Nodes.{Node, node_at, parent}

-- what stands at an id: the id above it, what is known of it, and its children
pub record Spot (X : Type 0) : Type 0 where
  pub above : Option ℕ
  pub known : X
  pub children : List ℕ

abbrev pub spot : {X : Type 0} → Trees X → ℕ → Option (Spot X)
spot f z = option_map (λ (n : Node _). record { above = parent f z; known = n.known; children = n.children }) (node_at f z)

-- the first, or the second where there is no first
abbrev pub or_else : {A : Type 0} → Option A → Option A → Option A
or_else (Some a) o = Some a
or_else None o = o

-- z at the place n of a list, or at its end
abbrev pub inserted : ℕ → ℕ → List ℕ → List ℕ
inserted zero z js = z ∷ js
inserted (suc n) z [] = z ∷ []
inserted (suc n) z (j ∷ js) = j ∷ inserted n z js

-- a list without z
abbrev pub removed : ℕ → List ℕ → List ℕ
removed z [] = []
removed z (j ∷ js) = if j == z then js else j ∷ removed z js

-- a node with other children
abbrev pub with_children : {X : Type 0} → (List ℕ → List ℕ) → Node X → Node X
with_children g n = record { id = n.id; known = n.known; children = g n.children }

-- the map m has the nodes of f, and nothing else
pub record Stands {X : Type 0} (m : ℕ → Option (Node X)) (f : Trees X) : Type 0 where
  pub at : (z : ℕ) → m z ≡ node_at f z

-- The trees at the listed ids, as the map m has them, to n levels; `inner` gives the trees at a list of children.
abbrev pub grown_one : {X : Type 0} → (List ℕ → Trees X) → ℕ → Option (Node X) → Trees X → Trees X
grown_one inner i None others = others
grown_one inner i (Some n) others = tree i n.known (inner n.children) others

abbrev pub grown_level : {X : Type 0} → (ℕ → Option (Node X)) → (List ℕ → Trees X) → List ℕ → Trees X
grown_level m inner [] = bare
grown_level m inner (i ∷ is) = grown_one inner i (m i) (grown_level m inner is)

abbrev pub grown : {X : Type 0} → (ℕ → Option (Node X)) → ℕ → List ℕ → Trees X
grown m zero is = bare
grown m (suc n) is = grown_level m (grown m n) is

-- what a type that keeps a tree as a map holds of its fields: they tell a tree, and nothing else is in the map
pub record Shown {X : Type 0} (m : ℕ → Option (Node X)) (n : ℕ) (is : List ℕ) : Type 0 where
  pub is_tree : IsTree (grown m n is)
  pub stands : Stands m (grown m n is)
  pub tops : roots (grown m n is) ≡ is
