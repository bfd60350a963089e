-- A forest: trees in their order, some of them gone; and which tree hangs at which node of another.
use Rattle.std.specs.Prelude.{ℕ, ◌≡◌, ◌≤◌, Bool, false, ◌&&◌, ◌||◌, ◌==◌, if◌then◌else◌, List, [], ◌∷◌, map, Option, Some, None, option_map, option_and_then}
use Rattle.std.specs.List.{find}
use Rattle.std.specs.Ordering.{nat_cmp}
use Rattle.std.specs.FinMap.Entries as entries
use Rattle.ax_base.specs.declared.position.Place.{Place}
use Rattle.ax_node.specs.declared.value.Value.{Value}
use Rattle.ax_node.specs.declared.value.Value.TheVariants as values
use Rattle.ax_trees.specs.Trees.{is_bare, height}
use Rattle.ax_trees.specs.Nodes.{Node}
use Rattle.ax_trees.specs.Lists.{is_nil, NoneTwice}
use Rattle.ax_tree.specs.SerialRule.{all_of}
use Rattle.ax_node.specs.Look.{Look}
use Rattle.ax_tree.specs.Tree.{Tree, IsWellFormed}

-- a tree of the forest by its id; none where it is gone
pub record Standing : Type 0 where
  pub id : ℕ
  pub tree : Option Tree

-- the trees in their order, the first tree first
abbrev pub Forest : Type 0
Forest = List Standing

abbrev pub first_tree : Forest → Option ℕ
first_tree [] = None
first_tree (s ∷ ss) = Some s.id

abbrev pub is_first : Forest → ℕ → Bool
is_first [] t = false
is_first (s ∷ ss) t = s.id == t

-- the tree t, where it is live
abbrev pub live_tree : Forest → ℕ → Option Tree
live_tree f t = option_and_then (λ (s : Standing). s.tree) (find (λ (s : Standing). s.id == t) f)

-- m is well formed, has no chain of more than 256 nodes, and its data have the id t
pub record IsSoundTree (t : ℕ) (m : Tree) : Type 0 where
  pub well_formed : IsWellFormed m
  pub low : height m.trees ≤ 256
  pub named : m.about.tree ≡ t

-- the ids of the trees differ, and each live tree is sound
pub record IsSound (f : Forest) : Type 0 where
  pub once : NoneTwice (map (λ (s : Standing). s.id) f)
  pub live : (t : ℕ) (m : Tree) → live_tree f t ≡ Some m → IsSoundTree t m

-- the attribute `child_tree` names the tree t
abbrev pub child_tree_key : ℕ
child_tree_key = 6

abbrev pub is_tree_value : ℕ → Option Value → Bool
is_tree_value t (Some (values.Tree u)) = u == t
is_tree_value t v = false

abbrev pub names_child : ℕ → Look → Bool
names_child t x = is_tree_value t (entries.find nat_cmp child_tree_key x.attrs)

-- The node of the tree p at which t may hang: the first in pre-order that has no children and names t.
abbrev pub host_in : ℕ → ℕ → Tree → Option Place
host_in t p m = option_map (λ (n : Node Look). record { tree = p; node = n.id }) (find (λ (n : Node Look). is_nil n.children && names_child t n.known) (all_of m.trees))

-- Where t hangs. It is live, has a root, isn't the first tree, and its data name a live tree as parent, which has such a node.
abbrev pub host_of : Forest → ℕ → Option Place
host_of f t =
    option_and_then
    (λ (m : Tree). if is_bare m.trees || is_first f t then None else option_and_then (λ p. option_and_then (host_in t p) (live_tree f p)) m.about.parent)
    (live_tree f t)

abbrev pub is_place : Place → Option Place → Bool
is_place p None = false
is_place p (Some q) = p.tree == q.tree && p.node == q.node

-- the tree that hangs at a place
abbrev pub hosted_by : Forest → Place → Option ℕ
hosted_by f p = option_map (λ (s : Standing). s.id) (find (λ (s : Standing). is_place p (host_of f s.id)) f)
