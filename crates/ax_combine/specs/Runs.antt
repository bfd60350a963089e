-- Runs of the list of places: of a node and all below it.
use Rattle.std.specs.Prelude.{ℕ, List, [], ◌∷◌, ◌++◌, flat_map, Option, Some, None}
use Rattle.ax_base.specs.declared.position.Place.{Place}
use Rattle.ax_node.specs.Look.{Look}
use Rattle.ax_trees.specs.Trees.{Trees, ids}
use Rattle.ax_trees.specs.Nodes.{below, pre}
use Rattle.ax_tree.specs.Tree.{Tree}
use Rattle.ax_tree.specs.Forest.{Forest, live_tree}
use Rattle.ax_rules.specs.Stitched.{place_at}
use Rattle.ax_stitch.specs.Levels.{hung_to}

-- the places of nodes of the tree t, each with what hangs there, to n levels
abbrev pub run : ℕ → Forest → ℕ → List ℕ → List Place
run n f t js = flat_map (λ j. place_at t j ∷ hung_to n f (place_at t j)) js

-- those of a node of the trees w of t and of all below it
abbrev pub run_at : ℕ → Forest → ℕ → Trees Look → ℕ → List Place
run_at n f t w z = run n f t (pre w z)

abbrev pub ids_below : Option Tree → ℕ → List ℕ
ids_below None z = []
ids_below (Some m) z = ids (below m.trees z)

-- what stands below a place
abbrev pub below_place : ℕ → Forest → Place → List Place
below_place n f p = hung_to n f p ++ run n f p.tree (ids_below (live_tree f p.tree) p.node)
