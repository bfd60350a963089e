-- The rows of the joined list are those of the joined tree, in pre-order.
use Rattle.std.proofs.Common.{◌≡◌, false, List, [], ◌∷◌, ◌++◌, map, refl, ap, ◌∙◌}
use Rattle.std.specs.List.{list_any}
use Rattle.std.proofs.lemmas.List.{map-append}
use Rattle.ax_base.specs.declared.position.Place.{Place}
use Rattle.ax_trees.specs.Trees.{Trees, bare, tree, is_bare}
use Rattle.ax_rules.specs.Looks.{same_place}
use Rattle.ax_rules.specs.Stitched.{Placed, children_of, is_within, is_leaf}
use Rattle.ax_rules.specs.StitchedTree.{PlacedLook, tree_placed}
use Rattle.ax_place_laws.proofs.Joined.{IsOnce, LeavesAre, leaves_are, kids_are}
use Rattle.ax_position.specs.declared.targets.Targets.{Targets}
use Rattle.ax_position.specs.declared.targets.Within.{Within}
use Rattle.ax_position.specs.Walks.{Row, row_of, rows, rows_of_two, tree_rows, within_of}

-- which of the places p a place stands within, by the places above it
abbrev above_within : Targets → List Place → Within
above_within p above = record { one = list_any (same_place p.one) above; other = list_any (same_place p.other) above }

abbrev row_at : List Placed → Targets → Placed → Row
row_at l p s = row_of s.place s.look (is_leaf l s) (record { one = is_within p.one s; other = is_within p.other s })

rows_from : (l : List Placed) (p : Targets) (above : List Place) (t : Trees PlacedLook) → LeavesAre l t → map (row_at l p) (tree_placed above t) ≡ tree_rows p (above_within p above) t
unfolding is_leaf is_within
rows_from l p above bare h = refl
rows_from l p above (tree i x k r) h =
    let leaf = h.0 in
    let inner = rows_from l p (x.place ∷ above) k h.1 in
    let later = rows_from l p above r h.2 in
    ap (λ b. row_of x.place x.look b (within_of p x.place (above_within p above)) ∷ map (row_at l p) (tree_placed (x.place ∷ above) k ++ tree_placed above r)) leaf
    ∙ ap (λ xs. row_of x.place x.look (is_bare k) (within_of p x.place (above_within p above)) ∷ xs)
    (map-append (row_at l p) (tree_placed (x.place ∷ above) k) (tree_placed above r) ∙ (rw (inner, later) refl))

-- the rows of the whole list
pub rows_are : (p : Targets) (t : Trees PlacedLook) → IsOnce t → rows_of_two (tree_placed [] t) p ≡ tree_rows p (record { one = false; other = false }) t
unfolding rows_of_two children_of
rows_are p t d = rows_from (tree_placed [] t) p [] t (leaves_are (tree_placed [] t) t d (λ q h. kids_are q [] t d refl))

-- of one place, asked for twice
pub rows_twice : (l : List Placed) (p : Place) → rows_of_two l (record { one = p; other = p }) ≡ rows l p
unfolding rows rows_of_two
rows_twice l p = refl
