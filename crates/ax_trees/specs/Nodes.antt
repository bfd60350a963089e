-- What stands at an id: its node, the trees below it, its tree, its chain and its parent.
use Rattle.std.specs.Prelude.{ℕ, ◌+◌, ◌==◌, if◌then◌else◌, List, [], ◌∷◌, Option, Some, None}
use Rattle.ax_trees.specs.Trees.{Trees, bare, tree, has, has_root, roots, ids}

-- a node: its id, what is known of it, and its children in order
pub record Node (X : Type 0) : Type 0 where
  pub id : ℕ
  pub known : X
  pub children : List ℕ

-- the node of z
abbrev pub node_at : {X : Type 0} → Trees X → ℕ → Option (Node X)
node_at bare z = None
node_at (tree i x inner others) z =
    if i == z then Some (record { id = i; known = x; children = roots inner }) else
    if has inner z then node_at inner z else node_at others z

-- the trees below z
abbrev pub below : {X : Type 0} → Trees X → ℕ → Trees X
below bare z = bare
below (tree i x inner others) z = if i == z then inner else if has inner z then below inner z else below others z

-- the tree of z alone
abbrev pub tree_at : {X : Type 0} → Trees X → ℕ → Trees X
tree_at bare z = bare
tree_at (tree i x inner others) z = if i == z then tree i x inner bare else if has inner z then tree_at inner z else tree_at others z

-- the children of z
abbrev pub children : {X : Type 0} → Trees X → ℕ → List ℕ
children f z = roots (below f z)

-- z and all below it, in pre-order
abbrev pub pre : {X : Type 0} → Trees X → ℕ → List ℕ
pre f z = ids (tree_at f z)

-- the ids from the root to z; none where z isn't there
abbrev pub chain : {X : Type 0} → Trees X → ℕ → List ℕ
chain bare z = []
chain (tree i x inner others) z = if i == z then i ∷ [] else if has inner z then i ∷ chain inner z else chain others z

-- how many nodes the chain of z has
abbrev pub depth : {X : Type 0} → Trees X → ℕ → ℕ
depth bare z = 0
depth (tree i x inner others) z = if i == z then 1 else if has inner z then 1 + depth inner z else depth others z

-- the parent of z
abbrev pub parent : {X : Type 0} → Trees X → ℕ → Option ℕ
parent bare z = None
parent (tree i x inner others) z = if has_root inner z then Some i else if has inner z then parent inner z else parent others z

-- the parent of z, or d where it has none
abbrev pub parent_or : {X : Type 0} → Trees X → ℕ → ℕ → ℕ
parent_or bare z d = d
parent_or (tree i x inner others) z d = if has_root inner z then i else if has inner z then parent_or inner z d else parent_or others z d

-- among the roots: what is known of z, or x where it is none; and the trees below it
abbrev pub root_known : {X : Type 0} → X → Trees X → ℕ → X
root_known d bare z = d
root_known d (tree i x inner others) z = if i == z then x else root_known d others z

abbrev pub root_below : {X : Type 0} → Trees X → ℕ → Trees X
root_below bare z = bare
root_below (tree i x inner others) z = if i == z then inner else root_below others z
