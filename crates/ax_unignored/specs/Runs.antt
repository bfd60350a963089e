-- Runs of the list of places: of a node and all below it, and what stands before and behind a place, tree by tree.
use Rattle.std.specs.Prelude.{ℕ, zero, suc, ◌≡◌, Bool, true, if◌then◌else◌, List, [], ◌∷◌, ◌++◌, filter, find, flat_map, Option, Some, None, option_and_then}
use Rattle.ax_base.specs.declared.position.Place.{Place}
use Rattle.ax_node.specs.Look.{Look}
use Rattle.ax_trees.specs.Trees.{Trees, has, ids}
use Rattle.ax_trees.specs.Nodes.{below, pre}
use Rattle.ax_trees.specs.Spots.{or_else}
use Rattle.ax_tree.specs.Tree.{Tree}
use Rattle.ax_tree.specs.Forest.{Forest, live_tree, host_of}
use Rattle.ax_rules.specs.Sequences.{last_of}
use Rattle.ax_rules.specs.Stitched.{place_at}
use Rattle.ax_stitch.specs.Orders.{ahead, behind}
use Rattle.ax_stitch.specs.Levels.{tree_ids, hung_to}
use Rattle.ax_unignored.specs.Shows.{shows}

-- the last that passes
abbrev pub find_last : {A : Type 0} → (A → Bool) → List A → Option A
find_last p xs = last_of (filter p xs)

-- all of them stand in the trees w
abbrev pub AllThere : Trees Look → List ℕ → Type 0
AllThere w [] = Unit {0}
AllThere w (z ∷ zs) = (has w z ≡ true) × AllThere w zs

-- the places of nodes of the tree t, each with what hangs there, to n levels
abbrev pub run : ℕ → Forest → ℕ → List ℕ → List Place
run n f t js = flat_map (λ j. place_at t j ∷ hung_to n f (place_at t j)) js

-- those of a node of the trees w of t and of all below it
abbrev pub run_at : ℕ → Forest → ℕ → Trees Look → ℕ → List Place
run_at n f t w z = run n f t (pre w z)

-- the ids below a node, and behind it and all below it
abbrev pub ids_below : Option Tree → ℕ → List ℕ
ids_below None z = []
ids_below (Some m) z = ids (below m.trees z)

abbrev pub ids_behind : Option Tree → ℕ → List ℕ
ids_behind None z = []
ids_behind (Some m) z = behind m.trees z

-- what stands below a place
abbrev pub below_place : ℕ → Forest → Place → List Place
below_place n f p = hung_to n f p ++ run n f p.tree (ids_below (live_tree f p.tree) p.node)

-- the first shown place behind a place and all below it, through k trees, where n levels are shown below its tree
abbrev pub first_behind : ℕ → ℕ → Forest → Place → Option Place
first_behind zero n f p = None
first_behind (suc k) n f p = or_else (find (shows f) (run n f p.tree (ids_behind (live_tree f p.tree) p.node))) (option_and_then (first_behind k (suc n) f) (host_of f p.tree))

-- the last shown place before a place
abbrev pub last_ahead : ℕ → ℕ → Forest → Place → Option Place
last_ahead zero n f p = None
last_ahead (suc k) n f p =
    or_else (find_last (shows f) (run n f p.tree (ahead (tree_ids f p.tree) p.node)))
    (option_and_then (λ (host : Place). if shows f host then Some host else last_ahead k (suc n) f host) (host_of f p.tree))
