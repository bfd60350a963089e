-- The nearest shown places, and the texts of the shown leaves, in the joined trees.
use Rattle.std.specs.Prelude.{ℕ, Bool, ◌&&◌, not, if◌then◌else◌, List, [], ◌∷◌, ◌++◌, Option, Some, None}
use Rattle.ax_base.specs.declared.position.Place.{Place}
use Rattle.ax_node.specs.Look.{Look}
use Rattle.ax_trees.specs.Trees.{Trees, bare, tree}
use Rattle.ax_trees.specs.Nodes.{below, tree_at}
use Rattle.ax_trees.specs.Lists.{is_nil}
use Rattle.ax_tree.specs.Tree.{Tree}
use Rattle.ax_tree.specs.Forest.{Forest, live_tree, hosted_by}
use Rattle.ax_rules.specs.Looks.{name_text}
use Rattle.ax_rules.specs.StitchedTree.{PlacedLook, beside, joined_in, joined_at, joined_from}
use Rattle.ax_unignored.specs.Shows.{is_lit}

-- the shown places above which none is shown
abbrev pub tops : Trees PlacedLook → List Place
tops bare = []
tops (tree i x inner others) = (if is_lit x.look then x.place ∷ [] else tops inner) ++ tops others

-- the names of the shown places below which none is shown
abbrev pub texts : Trees PlacedLook → List ℕ
texts bare = []
texts (tree i x inner others) = (if is_lit x.look && is_nil (tops inner) then name_text x.look else []) ++ (texts inner ++ texts others)

-- what hangs at a place, where n levels are shown below it
abbrev pub hung_tree : ℕ → Forest → Place → Trees PlacedLook
hung_tree n f q = joined_at (joined_from n f) (hosted_by f q)

-- a node of the trees w of t with all below it
abbrev pub joint : ℕ → Forest → ℕ → Trees Look → ℕ → Trees PlacedLook
joint n f t w z = joined_in (hung_tree n f) t (tree_at w z)

abbrev pub tops_at : ℕ → Forest → ℕ → Trees Look → ℕ → List Place
tops_at n f t w z = tops (joint n f t w z)

abbrev pub texts_at : ℕ → Forest → ℕ → Trees Look → ℕ → List ℕ
texts_at n f t w z = texts (joint n f t w z)

abbrev pub has_shown_at : ℕ → Forest → ℕ → Trees Look → ℕ → Bool
has_shown_at n f t w z = not (is_nil (tops_at n f t w z))

-- all that stands below a place
abbrev pub joint_in : ℕ → Forest → Place → Option Tree → Trees PlacedLook
joint_in n f p None = bare
joint_in n f p (Some m) = beside (joined_in (hung_tree n f) p.tree (below m.trees p.node)) (hung_tree n f p)

abbrev pub joint_below : ℕ → Forest → Place → Trees PlacedLook
joint_below n f p = joint_in n f p (live_tree f p.tree)

abbrev pub tops_below : ℕ → Forest → Place → List Place
tops_below n f p = tops (joint_below n f p)
