-- The part of the joined list that is within a place, and where its leaves start.
use Rattle.std.proofs.Common.{ℕ, ◌≡◌, ◌≤◌, true, false, List, [], ◌∷◌, ◌++◌, map, filter, length, refl, sym, ap, ◌∙◌, subst, arith, Option, Some, None}
use Rattle.std.specs.Prelude.{slice_get, IfSome}
use Rattle.std.specs.List.{list_any}
use Rattle.ax_base.specs.declared.position.Place.{Place}
use Rattle.ax_node.specs.Look.{Look}
use Rattle.ax_trees.specs.Trees.{Trees, bare, tree, IsSingle}
use Rattle.ax_tree.specs.Tree.{Tree, IsWellFormed}
use Rattle.ax_tree.specs.Forest.{Forest, IsSound, first_tree, live_tree}
use Rattle.ax_tree.proofs.SoundLemmas.{formed_at}
use Rattle.ax_rules.specs.Looks.{same_place}
use Rattle.ax_rules.specs.Stitched.{Placed, place_at, stitched, has_place, children_of, before, is_within, is_leaf, leaves}
use Rattle.ax_rules.specs.StitchedTree.{PlacedLook, beside, joined_in, joined_of, joined_at, joined_from, tree_placed, stitched_tree}
use Rattle.ax_rules.specs.Texts.{capped, joined, leaves_in, start_of}
use Rattle.ax_rules.specs.Moves.{first_place}
use Rattle.ax_rules.proofs.StitchedTreeLemmas.{stitched-tree}
use Rattle.ax_stitch.proofs.Places.{same_self}
use Rattle.ax_place_laws.specs.Lists.{EachOf, NoPlaceTwice, hung_tree}
use Rattle.ax_place_laws.proofs.Each.{each_append, each_kept}
use Rattle.ax_place_laws.proofs.Joined.{is_in, root_places, entry}
use Rattle.ax_place_laws.proofs.Once.{once}
use Rattle.ax_place_laws.proofs.Starts.{begun_leaves, begun_at, before_clear, list_once, starts_between}
use Rattle.ax_place_laws.proofs.Parted.{Clear, Inside, Parts, parts_at, inside_of, within_is, filter_all, ends_at, clear_ends, root_is_in, turned, not_same}
use Rattle.ax_place_laws.proofs.Before.{stands_in, swapped, kids_of, unended}

-- the list, parted at p: what stands before it, p with all below it, and what stands behind
pub record Segment (l : List Placed) (p : Place) : Type 0 where
  pub front : List Placed
  pub head : Placed
  pub sub : List Placed
  pub back : List Placed
  pub whole : l ≡ front ++ ((head ∷ sub) ++ back)
  pub at : head.place ≡ p
  pub ahead : before l p ≡ front
  pub within : filter (is_within p) l ≡ head ∷ sub
  pub clear_front : Clear p front
  pub inside : Inside p (head ∷ sub)
  pub clear_back : Clear p back
  pub no_child_ahead : (c : ℕ) → EachOf (λ s. ends_at (slice_get (children_of l p) c) s ≡ false) front
  pub no_child_here : (c : ℕ) → ends_at (slice_get (children_of l p) c) head ≡ false

abbrev pub block_of : {l : List Placed} {p : Place} → Segment l p → List Placed
block_of g = g.head ∷ g.sub

pub segment_at : (f : Forest) (p : Place) → IsSound f → has_place (stitched f) p ≡ true → Segment (stitched f) p
unfolding is_within
segment_at f p s h =
    let t = stitched_tree f in
    let d = once f s in
    let same : stitched f ≡ tree_placed [] t = stitched-tree f in
    let b = parts_at p [] t d (λ q g. refl) (stands_in p t (ap (λ v. has_place v p) (sym same) ∙ h)) in
    let sub = tree_placed (b.look.place ∷ b.over) b.inner in
    let whole : stitched f ≡ b.front ++ ((entry b.over b.look ∷ sub) ++ b.back) = same ∙ b.whole in
    let kids : children_of (stitched f) p ≡ root_places b.inner = kids_of (stitched f) p t d same ∙ b.kids in
    let deep : list_any (same_place p) (b.look.place ∷ b.over) ≡ true = (let self : same_place p b.look.place ≡ true = ap (same_place p) b.at ∙ same_self p in rw self refl) in
    record {
      front = b.front;
      head = entry b.over b.look;
      sub = sub;
      back = b.back;
      whole = whole;
      at = b.at;
      ahead = ap (before (stitched f)) (sym b.at) ∙ (ap (λ v. before v b.look.place) whole ∙ before_clear b.front (entry b.over b.look) (sub ++ b.back) (subst NoPlaceTwice whole (list_once f s)));
      within = ap (filter (is_within p)) same ∙ within_is p [] t b;
      clear_front = b.own_front;
      inside = (deep, inside_of p (b.look.place ∷ b.over) b.inner deep);
      clear_back = b.own_back;
      no_child_ahead = λ c. none_ends_at b (slice_get (children_of (stitched f) p) c) (λ q e. root_is_in b.inner c q (sym (ap (λ v. slice_get v c) kids) ∙ e));
      no_child_here = λ c. not_own b (slice_get (children_of (stitched f) p) c) (λ q e. root_is_in b.inner c q (sym (ap (λ v. slice_get v c) kids) ∙ e));
    }
  where
    not_own : (b : Parts p [] (stitched_tree f)) (o : Option Place) → ((q : Place) → o ≡ Some q → is_in q b.inner ≡ true) → ends_at o (entry b.over b.look) ≡ false
    not_own b None k = refl
    not_own b (Some q) k = turned b.look.place q ∙ not_same q b.look.place b.inner (k q refl) (ap (λ v. is_in v b.inner) b.at ∙ b.apart)

    none_ends_at : (b : Parts p [] (stitched_tree f)) (o : Option Place) → ((q : Place) → o ≡ Some q → is_in q b.inner ≡ true) → EachOf (λ s. ends_at o s ≡ false) b.front
    none_ends_at b None k = unended b.front
    none_ends_at b (Some q) k = clear_ends q b.front (b.front_clear q (k q refl))

-- the leaves of p are those of its part
pub leaves_are_of : (l : List Placed) (p : Place) (g : Segment l p) → leaves_in l p ≡ filter (is_leaf l) (block_of g)
unfolding leaves_in leaves
leaves_are_of l p g = swapped (is_leaf l) (is_within p) l ∙ ap (filter (is_leaf l)) g.within

-- they start one after the other, the first where p starts
pub leaves_start : (l : List Placed) (p : Place) (g : Segment l p) → NoPlaceTwice l → begun_leaves (is_leaf l) (start_of l p) (block_of g) ≡ map (begun_at l) (leaves_in l p)
unfolding start_of
leaves_start l p g d =
    ap (λ v. begun_leaves (is_leaf l) (capped (length (joined (filter (is_leaf l) v)))) (block_of g)) g.ahead
    ∙ (starts_between l g.front (block_of g) g.back g.whole d ∙ ap (map (begun_at l)) (sym (leaves_are_of l p g)))

pub start_small : (l : List Placed) (p : Place) → start_of l p ≤ 18446744073709551615
unfolding start_of
start_small l p = omega arith

-- all of the list is within its first place
pub first_within : (f : Forest) (p : Place) → IsSound f → first_place (stitched f) ≡ Some p → EachOf (λ s. is_within p s ≡ true) (stitched f)
unfolding stitched_tree is_within
first_within f p s e =
    let same : stitched f ≡ tree_placed [] (stitched_tree f) = stitched-tree f in
    subst (λ l. EachOf (λ s. is_within p s ≡ true) l) (sym same) (first (first_tree f) (ap first_place (sym same) ∙ e))
  where
    tops : (hung : Place → Trees PlacedLook) (t : ℕ) (w : Trees Look) → IsSingle w → first_place (tree_placed [] (joined_in hung t w)) ≡ Some p
        → EachOf (λ s. is_within p s ≡ true) (tree_placed [] (joined_in hung t w))
    tops hung t bare o k = tt
    tops hung t (tree i x k r) o g =
        let at : place_at t i ≡ p = cc in
        let self : same_place p (place_at t i) ≡ true = ap (same_place p) at ∙ same_self p in
        let deep : list_any (same_place p) (place_at t i ∷ []) ≡ true = rw self refl in
        let rest : tree_placed [] (joined_in hung t r) ≡ [] = ap (λ w. tree_placed [] (joined_in hung t w)) o in (
          deep,
          each_append (λ s. is_within p s ≡ true) (tree_placed (place_at t i ∷ []) (beside (joined_in hung t k) (hung (place_at t i)))) (tree_placed [] (joined_in hung t r))
              (inside_of p (place_at t i ∷ []) (beside (joined_in hung t k) (hung (place_at t i))) deep) (subst (λ l. EachOf (λ s. is_within p s ≡ true) l) (sym rest) tt),
        )

    live : (t : ℕ) (m : Option Tree) → IfSome m IsWellFormed → first_place (tree_placed [] (joined_of (hung_tree 7 f) t m)) ≡ Some p → EachOf (λ s. is_within p s ≡ true) (tree_placed [] (joined_of (hung_tree 7 f) t m))
    live t None k g = tt
    live t (Some m) k g = tops (hung_tree 7 f) t m.trees k.one_root g

    first : (o : Option ℕ) → first_place (tree_placed [] (joined_at (joined_from 8 f) o)) ≡ Some p → EachOf (λ s. is_within p s ≡ true) (tree_placed [] (joined_at (joined_from 8 f) o))
    first None g = tt
    first (Some t) g = live t (live_tree f t) (formed_at f t s) g

pub first_text : (f : Forest) (p : Place) → IsSound f → first_place (stitched f) ≡ Some p → leaves_in (stitched f) p ≡ leaves (stitched f)
unfolding leaves_in leaves
first_text f p s e = filter_all (is_within p) (filter (is_leaf (stitched f)) (stitched f)) (each_kept (λ x. is_within p x ≡ true) (is_leaf (stitched f)) (stitched f) (first_within f p s e))
