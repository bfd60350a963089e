-- Each place of the joined list has a leaf: itself, or one below it.
use Rattle.std.proofs.Common.{◌≡◌, Bool, true, false, ◌||◌, ◌&&◌, List, [], ◌∷◌, ◌++◌, filter, refl, sym, ap, ◌∙◌, arith}
use Rattle.std.specs.Prelude.{is_some}
use Rattle.std.specs.List.{list_any}
use Rattle.std.proofs.lemmas.List.Folds.{list_any-append}
use Rattle.std.proofs.lemmas.Bool.{false≢true, true≢false}
use Rattle.ax_base.specs.declared.position.Place.{Place}
use Rattle.ax_trees.specs.Trees.{Trees, bare, tree, is_bare}
use Rattle.ax_trees.specs.Lists.{is_nil}
use Rattle.ax_trees.proofs.Trees.{by_go}
use Rattle.ax_tree.specs.Forest.{Forest, IsSound}
use Rattle.ax_rules.specs.Sequences.{first_of}
use Rattle.ax_rules.specs.Looks.{same_place}
use Rattle.ax_rules.specs.Stitched.{Placed, stitched, has_place, children_of, is_within, is_leaf, leaves}
use Rattle.ax_rules.specs.StitchedTree.{PlacedLook, tree_placed, stitched_tree}
use Rattle.ax_rules.specs.Texts.{leaves_in}
use Rattle.ax_rules.proofs.StitchedTreeLemmas.{stitched-tree}
use Rattle.ax_place_laws.proofs.Joined.{is_in, LeavesAre, entry, leaves_are, kids_are}
use Rattle.ax_place_laws.proofs.Once.{once}
use Rattle.ax_place_laws.proofs.Before.{stands_in}
use Rattle.ax_place_laws.proofs.Tests.{later_passes, any_kept, first_passes}

-- a leaf at p or below it
abbrev is_leaf_in : List Placed → Place → Placed → Bool
is_leaf_in l p s = is_within p s && is_leaf l s

-- one passes in a tree where one does among its inner trees, or among the others
inner_passes : (q : Placed → Bool) (above : List Place) (x : PlacedLook) (k r : Trees PlacedLook) → list_any q (tree_placed (x.place ∷ above) k) ≡ true
    → list_any q (entry above x ∷ (tree_placed (x.place ∷ above) k ++ tree_placed above r)) ≡ true
inner_passes q above x k r h =
    later_passes (q (entry above x)) (list_any q (tree_placed (x.place ∷ above) k ++ tree_placed above r))
    (list_any-append q (tree_placed (x.place ∷ above) k) (tree_placed above r) ∙ ap (λ b. b || list_any q (tree_placed above r)) h)

others_pass : (q : Placed → Bool) (above : List Place) (x : PlacedLook) (k r : Trees PlacedLook) → list_any q (tree_placed above r) ≡ true
    → list_any q (entry above x ∷ (tree_placed (x.place ∷ above) k ++ tree_placed above r)) ≡ true
others_pass q above x k r h =
    later_passes (q (entry above x)) (list_any q (tree_placed (x.place ∷ above) k ++ tree_placed above r))
    (list_any-append q (tree_placed (x.place ∷ above) k) (tree_placed above r) ∙ later_passes (list_any q (tree_placed (x.place ∷ above) k)) (list_any q (tree_placed above r)) h)

-- below p
leaf_below : (l : List Placed) (p : Place) (above : List Place) (t : Trees PlacedLook) → LeavesAre l t → is_bare t ≡ false → list_any (same_place p) above ≡ true
    → list_any (is_leaf_in l p) (tree_placed above t) ≡ true
unfolding is_leaf is_within
leaf_below l p above bare h n w = absurd (true≢false n)
leaf_below l p above (tree i x bare r) h n w =
    let leaf : is_nil (children_of l x.place) ≡ true = h.0 in
    let within : (same_place p x.place || list_any (same_place p) above) ≡ true = later_passes (same_place p x.place) (list_any (same_place p) above) w in
    rw (within, leaf) refl
leaf_below l p above (tree i x (tree j y a b) r) h n w =
    inner_passes (is_leaf_in l p) above x (tree j y a b) r
    (leaf_below l p (x.place ∷ above) (tree j y a b) h.1 refl (later_passes (same_place p x.place) (list_any (same_place p) above) w))

leaf_at : (l : List Placed) (p : Place) (above : List Place) (t : Trees PlacedLook) → LeavesAre l t → is_in p t ≡ true → list_any (is_leaf_in l p) (tree_placed above t) ≡ true
unfolding is_leaf is_within
leaf_at l p above bare h m = absurd (false≢true m)
leaf_at l p above (tree i x k r) h m =
    by_go (same_place p x.place)
    (λ q. own q k h.0 h.1)
    (λ q. by_go (is_in p k)
    (λ g. inner_passes (is_leaf_in l p) above x k r (leaf_at l p (x.place ∷ above) k h.1 g))
    (λ g. others_pass (is_leaf_in l p) above x k r (leaf_at l p above r h.2 (grind (arith, m, q, g)))))
  where
    own : same_place p x.place ≡ true → (k : Trees PlacedLook) → is_nil (children_of l x.place) ≡ is_bare k → LeavesAre l k
        → list_any (is_leaf_in l p) (entry above x ∷ (tree_placed (x.place ∷ above) k ++ tree_placed above r)) ≡ true
    own q bare e d = rw (q, e) refl
    own q (tree j y a b) e d =
        inner_passes (is_leaf_in l p) above x (tree j y a b) r
        (leaf_below l p (x.place ∷ above) (tree j y a b) d refl (ap (λ b. b || list_any (same_place p) above) q))

pub leaf_there : (f : Forest) (p : Place) → IsSound f → has_place (stitched f) p ≡ true → is_some (first_of (leaves_in (stitched f) p)) ≡ true
unfolding leaves_in leaves children_of
leaf_there f p s h =
    let l = stitched f in
    let t = stitched_tree f in
    let d = once f s in
    let same : l ≡ tree_placed [] t = stitched-tree f in
    let ends : LeavesAre l t = leaves_are l t d (λ q g. ap (λ v. children_of v q) same ∙ kids_are q [] t d refl) in
    let there : list_any (is_leaf_in l p) l ≡ true =
    ap (list_any (is_leaf_in l p)) same ∙ leaf_at l p [] t ends (stands_in p t (ap (λ v. has_place v p) (sym same) ∙ h)) in
    first_passes (is_within p) (filter (is_leaf l) l) (any_kept (is_within p) (is_leaf l) l ∙ there)
