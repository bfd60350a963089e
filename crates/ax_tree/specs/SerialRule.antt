-- The serialisation rule on trees: the update at a node of the source s, for a client c with the marks m. Of the client it uses the shape alone.
use Rattle.std.specs.Prelude.{ℕ, Bool, true, not, ◌||◌, ◌&&◌, ◌==◌, if◌then◌else◌, List, [], ◌∷◌, ◌++◌, Some, None}
use Rattle.ax_trees.specs.Trees.{Trees, bare, tree, has, roots, has_root, root_of, is_root, all_ids, all_roots}
use Rattle.ax_trees.specs.Nodes.{Node, below, tree_at, chain}
use Rattle.ax_trees.specs.Lists.{contains, last_that, common_prefix}
use Rattle.ax_tree.specs.UpdateRule.{Update}

-- Reach goes on through a child that the client doesn't have, or that is marked.
abbrev pub goes_on : {E : Type 0} → Trees E → List ℕ → ℕ → Bool
goes_on c m z = not (has c z) || contains m z

-- the roots through which reach goes on and what it reaches below them, in pre-order
abbrev pub listed : {X : Type 0} → (ℕ → Bool) → Trees X → List (Node X)
listed go bare = []
listed go (tree i x inner others) =
    if go i then record { id = i; known = x; children = roots inner } ∷ (listed go inner ++ listed go others) else listed go others

-- the first root, and what is reached below it
abbrev pub from_root : {X : Type 0} → (ℕ → Bool) → Trees X → List (Node X)
from_root go bare = []
from_root go (tree i x inner others) = record { id = i; known = x; children = roots inner } ∷ listed go inner

-- all nodes, in pre-order
abbrev pub all_of : {X : Type 0} → Trees X → List (Node X)
all_of f = listed (λ _. true) f

-- the last id of d's chain that the client has; r is the root's id
abbrev pub last_held : {X E : Type 0} → Trees E → Trees X → ℕ → ℕ → ℕ
last_held c s r d = last_that (has c) (chain s d) r

-- what the chains of a have in common in both, and the last id of that
abbrev pub common_chain : {X E : Type 0} → Trees E → Trees X → ℕ → List ℕ
common_chain c s a = common_prefix (chain s a) (chain c a)

abbrev pub last_common : {X E : Type 0} → Trees E → Trees X → ℕ → ℕ → ℕ
last_common c s r a = last_that (λ _. true) (common_chain c s a) r

-- each of these roots that the client has stands under y there
abbrev pub stand_under : {X E : Type 0} → Trees E → ℕ → Trees X → Bool
stand_under c y f = all_roots (λ z. not (has c z) || has_root (below c y) z) f

-- the same of each reached node and its children
abbrev pub reached_fit : {X E : Type 0} → Trees E → (ℕ → Bool) → Trees X → Bool
reached_fit c go bare = true
reached_fit c go (tree i x inner others) = (not (go i) || (stand_under c i inner && reached_fit c go inner)) && reached_fit c go others

-- plain: a's chain is the same in both, and each child in s of a node that is reached from a, where the client has it, stands under that node there
abbrev pub is_plain : {X E : Type 0} → Trees E → Trees X → List ℕ → ℕ → ℕ → Bool
is_plain c s m r a = last_common c s r a == a && (stand_under c a (below s a) && reached_fit c (goes_on c m) (below s a))

-- closed: each id below y in s that the client has stands below y there
abbrev pub is_closed : {X E : Type 0} → Trees E → Trees X → ℕ → Bool
is_closed c s y = all_ids (λ z. not (has c z) || has (below c y) z) (below s y)

-- the lowest closed id on the chain of z; the root is closed
abbrev pub lowest_closed : {X E : Type 0} → Trees E → Trees X → ℕ → ℕ → ℕ
lowest_closed c s r z = last_that (is_closed c s) (chain s z) r

-- both have the root r: what is reached from a where that is plain, else the whole tree of the lowest closed id
abbrev pub partial_update : {X E : Type 0} → Trees E → Trees X → List ℕ → ℕ → ℕ → Update X
partial_update c s m r a =
    let y = lowest_closed c s r (last_common c s r a) in
    if is_plain c s m r a then record { clear = None; root = None; nodes = from_root (goes_on c m) (tree_at s a) }
    else record { clear = Some y; root = None; nodes = all_of (tree_at s y) }

-- the update at d: the whole source for a client that is empty or has another root
abbrev pub trees_update : {X E : Type 0} → Trees E → Trees X → List ℕ → ℕ → Update X
trees_update bare s m d = record { clear = None; root = root_of s; nodes = all_of s }
trees_update (tree i x inner others) s m d =
    if is_root s i then partial_update (tree i x inner others) s m i (last_held (tree i x inner others) s i d)
    else record { clear = Some i; root = root_of s; nodes = all_of s }
