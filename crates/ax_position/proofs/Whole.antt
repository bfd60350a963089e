-- The rows of the whole joined list.
use Rattle.std.proofs.Common.{ℕ, ◌≡◌, false, [], Option, Some, None, Bor, refl, sym, ap, ◌∙◌}
use Rattle.std.specs.Prelude.{option_map}
use Rattle.ax_node.specs.Look.{Look}
use Rattle.ax_trees.specs.Trees.{Trees, bare, tree, root_of}
use Rattle.ax_tree.specs.Tree.{Tree}
use Rattle.ax_tree.specs.Forest.{Forest, IsSound, first_tree, live_tree}
use Rattle.ax_rules.specs.Stitched.{stitched}
use Rattle.ax_rules.specs.StitchedTree.{joined_in, joined_of, joined_at, joined_from, stitched_tree}
use Rattle.ax_rules.proofs.StitchedTreeLemmas.{stitched-tree}
use Rattle.ax_place_laws.specs.Lists.{hung_tree}
use Rattle.ax_place_laws.proofs.Once.{once}
use Rattle.ax_position.specs.declared.targets.Targets.{Targets}
use Rattle.ax_position.specs.declared.targets.Within.{Within}
use Rattle.ax_position.specs.Walks.{rows_of_two, tree_rows, node_rows}
use Rattle.ax_position.proofs.Joined.{rows_are}
use Rattle.ax_stitch.proofs.Parts.{whole_tree}

-- within none of them
abbrev pub outside : Within
outside = record { one = false; other = false }

whole_rows : (f : Forest) (p : Targets) → IsSound f → rows_of_two (stitched f) p ≡ tree_rows p outside (stitched_tree f)
whole_rows f p h = ap (λ l. rows_of_two l p) (stitched-tree f) ∙ rows_are p (stitched_tree f) (once f h)

first_rows : (f : Forest) (t : ℕ) (p : Targets) → first_tree f ≡ Some t → tree_rows p outside (stitched_tree f) ≡ tree_rows p outside (joined_of (hung_tree 7 f) t (live_tree f t))
unfolding stitched_tree
first_rows f t p e = ap (λ o. tree_rows p outside (joined_at (joined_from 8 f) o)) e

pub rows_gone : (f : Forest) (t : ℕ) (p : Targets) → IsSound f → first_tree f ≡ Some t → None ≡ live_tree f t → rows_of_two (stitched f) p ≡ []
rows_gone f t p h e l = whole_rows f p h ∙ (first_rows f t p e ∙ ap (λ o. tree_rows p outside (joined_of (hung_tree 7 f) t o)) (sym l))

pub rows_bare : (f : Forest) (t : ℕ) (m : Tree) (p : Targets) → IsSound f → first_tree f ≡ Some t → Some m ≡ live_tree f t → root_of m.trees ≡ None → rows_of_two (stitched f) p ≡ []
rows_bare f t m p h e l r = whole_rows f p h ∙ (first_rows f t p e ∙ (ap (λ o. tree_rows p outside (joined_of (hung_tree 7 f) t o)) (sym l) ∙ go m.trees r))
  where
    go : (u : Trees Look) → root_of u ≡ None → tree_rows p outside (joined_in (hung_tree 7 f) t u) ≡ []
    go bare k = refl
    go (tree i x a b) k = absurd (cc)

pub rows_whole : (f : Forest) (t r : ℕ) (m : Tree) (p : Targets) → IsSound f → first_tree f ≡ Some t → Some m ≡ live_tree f t → root_of m.trees ≡ Some r
    → rows_of_two (stitched f) p ≡ node_rows 7 f p outside t m.trees r
rows_whole f t r m p h e l s =
    let single = (h.live t m (sym l)).well_formed.one_root in
    whole_rows f p h ∙ (first_rows f t p e ∙ (ap (λ o. tree_rows p outside (joined_of (hung_tree 7 f) t o)) (sym l)
    ∙ ap (λ u. tree_rows p outside (joined_in (hung_tree 7 f) t u)) (sym (whole_tree m.trees r single s))))

pub live_gone : {V : Type 0} (tree_of : V → Tree) (o : Option (Bor V)) (l : Option Tree) → o ≡ None → option_map (λ (r : Bor V). tree_of r.now) o ≡ l → None ≡ l
live_gone tree_of o l s e = sym (ap (option_map (λ (r : Bor _). tree_of r.now)) s) ∙ e
