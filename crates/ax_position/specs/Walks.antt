-- What a walk sees at each place of the joined list, and what it makes of that.
use Rattle.std.specs.Prelude.{ℕ, ◌≡◌, Bool, ◌||◌, List, [], ◌∷◌, ◌++◌, map}
use Rattle.ax_base.specs.declared.position.Place.{Place}
use Rattle.ax_node.specs.Look.{Look}
use Rattle.ax_trees.specs.Trees.{Trees, bare, tree, is_bare}
use Rattle.ax_trees.specs.Nodes.{tree_at}
use Rattle.ax_tree.specs.Forest.{Forest}
use Rattle.ax_rules.specs.Looks.{same_place, name_text}
use Rattle.ax_rules.specs.Stitched.{Placed, is_within, is_leaf}
use Rattle.ax_rules.specs.StitchedTree.{PlacedLook, joined_in}
use Rattle.ax_place_laws.specs.Lists.{hung_tree}
use Rattle.ax_position.specs.declared.targets.Targets.{Targets}
use Rattle.ax_position.specs.declared.targets.Within.{Within}

-- a place, its node's name, whether the place is a leaf, and whether it is within each of two places that are asked for
pub record Row : Type 0 where
  pub place : Place
  pub text : List ℕ
  pub leaf : Bool
  pub within : Bool
  pub also : Bool

abbrev pub row_of : Place → Look → Bool → Within → Row
row_of q x leaf w = record { place = q; text = name_text x; leaf = leaf; within = w.one; also = w.other }

-- where one place is asked for
abbrev pub row : Place → Look → Bool → Bool → Row
row q x leaf within = row_of q x leaf (record { one = within; other = within })

-- the rows of a list of places, where p is asked for
unfoldable pub rows : List Placed → Place → List Row
rows l p = map (λ (s : Placed). row s.place s.look (is_leaf l s) (is_within p s)) l

-- and where two places are
unfoldable pub rows_of_two : List Placed → Targets → List Row
rows_of_two l p = map (λ (s : Placed). row_of s.place s.look (is_leaf l s) (record { one = is_within p.one s; other = is_within p.other s })) l

-- within each of them: the place itself, or below a place that is
abbrev pub within_of : Targets → Place → Within → Within
within_of p q w = record { one = same_place p.one q || w.one; other = same_place p.other q || w.other }

-- what a walk makes of a state that takes the rows one by one
abbrev pub folded : {S : Type 0} → (S → Row → S) → S → List Row → S
folded seen s [] = s
folded seen s (r ∷ rs) = folded seen (seen s r) rs

-- no further row changes the state
pub record IsSettled {S : Type 0} (seen : S → Row → S) (s : S) : Type 0 where
  pub stays : (r : Row) → seen s r ≡ s

-- the rows of a tree; w: which of the places p it stands within
abbrev pub tree_rows : Targets → Within → Trees PlacedLook → List Row
tree_rows p w bare = []
tree_rows p w (tree i x inner others) =
    row_of x.place x.look (is_bare inner) (within_of p x.place w) ∷ (tree_rows p (within_of p x.place w) inner ++ tree_rows p w others)

-- the rows of a node of w, a tree of t, and of all below it
abbrev pub node_rows : ℕ → Forest → Targets → Within → ℕ → Trees Look → ℕ → List Row
node_rows n f p within t w z = tree_rows p within (joined_in (hung_tree n f) t (tree_at w z))
