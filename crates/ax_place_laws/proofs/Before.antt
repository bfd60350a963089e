-- The text before a child of a place.
use Rattle.std.proofs.Common.{ℕ, zero, suc, ◌≤◌, ◌≡◌, Bool, true, false, ◌||◌, ◌&&◌, List, [], ◌∷◌, ◌++◌, flat_map, filter, take, length, Option, Some, None, refl, sym, ap, ◌∙◌, arith}
use Rattle.std.specs.Prelude.{slice_get, IfSome}
use Rattle.std.specs.List.{list_any}
use Rattle.std.proofs.lemmas.List.Elements.{filter-append}
use Rattle.std.proofs.lemmas.List.Folds.{list_any-append}
use Rattle.std.proofs.lemmas.List.Concat.{flat_map-append}
use Rattle.ax_base.specs.declared.position.Place.{Place}
use Rattle.ax_trees.specs.Trees.{Trees, bare, tree}
use Rattle.ax_trees.specs.Lists.{is_nil}
use Rattle.ax_trees.proofs.Trees.{by_go}
use Rattle.ax_tree.specs.Forest.{Forest, IsSound}
use Rattle.ax_rules.specs.Sequences.{until}
use Rattle.ax_rules.specs.Looks.{same_place, name_text}
use Rattle.ax_rules.specs.Stitched.{Placed, stitched, stands_at, has_place, children_of, is_within, is_leaf, leaves}
use Rattle.ax_rules.specs.StitchedTree.{PlacedLook, tree_placed, stitched_tree}
use Rattle.ax_rules.proofs.StitchedTreeLemmas.{stitched-tree}
use Rattle.ax_rules.specs.Texts.{joined, leaves_in, text_of}
use Rattle.ax_stitch.proofs.Places.{same_self}
use Rattle.ax_place_laws.specs.Lists.{EachOf}
use Rattle.ax_place_laws.proofs.Joined.{is_in, IsOnce, root_places, entry, kids_at, kids_are}
use Rattle.ax_place_laws.proofs.Once.{once}
use Rattle.ax_place_laws.proofs.Parted.{Parts, parts_at, inside_of, inner_is, filter_none, ends_at, none_ends, clear_ends, first_roots, root_is_in, turned, not_same}

-- ---- where a place stands

any_in : (p : Place) (above : List Place) (t : Trees PlacedLook) → list_any (stands_at p) (tree_placed above t) ≡ is_in p t
any_in p above bare = refl
any_in p above (tree i x k r) =
    let a = turned x.place p in
    let b = any_in p (x.place ∷ above) k in
    let c = any_in p above r in
    rw a (ap (λ v. same_place p x.place || v) (list_any-append (stands_at p) (tree_placed (x.place ∷ above) k) (tree_placed above r) ∙ (rw (b, c) refl)))

pub stands_in : (p : Place) (t : Trees PlacedLook) → has_place (tree_placed [] t) p ≡ true → is_in p t ≡ true
unfolding has_place
stands_in p t h = sym (any_in p [] t) ∙ h

-- ---- texts

pub swapped : (p r : Placed → Bool) (l : List Placed) → filter r (filter p l) ≡ filter p (filter r l)
swapped p r [] = refl
swapped p r (x ∷ l) = let e = swapped p r l in by_go (p x)
    (λ q. by_go (r x) (λ s. rw (s, q, s, e) refl) (λ s. rw (s, q, s, e) refl))
    (λ q. by_go (r x) (λ s. rw (s, q, e) refl) (λ s. rw (s, q, e) refl))

pub both_filters : (p r : Placed → Bool) (l : List Placed) → filter (λ x. p x && r x) l ≡ filter r (filter p l)
both_filters p r [] = refl
both_filters p r (x ∷ l) = let e = both_filters p r l in by_go (p x) (λ q. by_go (r x) (λ s. rw (q, s, e) refl) (λ s. rw (q, s, e) refl)) (λ q. rw (q, e) refl)

pub joined-append : (a b : List Placed) → joined (a ++ b) ≡ joined a ++ joined b
unfolding joined
joined-append a b = flat_map-append (λ (s : Placed). name_text s.look) a b

-- the texts of places, one after the other
texts : (l : List Placed) (qs : List Place) → flat_map (text_of l) qs ≡ joined (filter (is_leaf l) (flat_map (λ q. filter (is_within q) l) qs))
unfolding text_of leaves_in leaves joined
texts l [] = refl
texts l (q ∷ qs) =
    ap (λ v. joined v ++ flat_map (text_of l) qs) (swapped (is_leaf l) (is_within q) l)
    ∙ (ap (λ v. joined (filter (is_leaf l) (filter (is_within q) l)) ++ v) (texts l qs)
    ∙ (sym (joined-append (filter (is_leaf l) (filter (is_within q) l)) (filter (is_leaf l) (flat_map (λ q. filter (is_within q) l) qs)))
    ∙ ap joined (sym (filter-append (is_leaf l) (filter (is_within q) l) (flat_map (λ q. filter (is_within q) l) qs)))))

-- the same of each root
same_roots : (g h : Place → List Placed) (v : Trees PlacedLook) (n : ℕ) → ((q : Place) → is_in q v ≡ true → g q ≡ h q) → flat_map g (take n (root_places v)) ≡ flat_map h (take n (root_places v))
same_roots g h bare zero e = refl
same_roots g h bare (suc n) e = refl
same_roots g h (tree j y m r) zero e = refl
same_roots g h (tree j y m r) (suc n) e =
    let self = same_self y.place in
    ap (λ l. l ++ flat_map g (take n (root_places r))) (e y.place (grind (arith, self))) ∙ ap (λ l. h y.place ++ l) (same_roots g h r n (λ q s. e q (grind (arith, s))))

-- ---- what a survey counts

pub back_drops : (p stop : Placed → Bool) (a b : List Placed) → EachOf (λ s. p s ≡ false) b → filter p (until stop (a ++ b)) ≡ filter p (until stop a)
back_drops p stop [] b h = none b h
  where
    none : (b : List Placed) → EachOf (λ s. p s ≡ false) b → filter p (until stop b) ≡ []
    none [] h = refl
    none (x ∷ b) h = let a = h.0 in by_go (stop x) (λ q. rw q refl) (λ q. rw (q, a) (none b h.1))
back_drops p stop (x ∷ a) b h = let e = back_drops p stop a b h in by_go (stop x) (λ q. rw q refl) (λ q. by_go (p x) (λ s. rw (q, s, e) refl) (λ s. rw (q, s) e))

pub inside_same : (leaf within stop : Placed → Bool) (a : List Placed) → EachOf (λ s. within s ≡ true) a → filter (λ s. leaf s && within s) (until stop a) ≡ filter leaf (until stop a)
inside_same leaf within stop [] h = refl
inside_same leaf within stop (x ∷ a) h =
    let w = h.0 in
    let e = inside_same leaf within stop a h.1 in
    by_go (stop x) (λ q. rw q refl) (λ q. by_go (leaf x) (λ s. rw (q, s, w, e) refl) (λ s. rw (q, s) e))

pub outside : (leaf within : Placed → Bool) (a : List Placed) → EachOf (λ s. within s ≡ false) a → EachOf (λ s. (leaf s && within s) ≡ false) a
outside leaf within [] h = tt
outside leaf within (x ∷ a) h = (let w = h.0 in by_go (leaf x) (λ q. rw (q, w) refl) (λ q. rw q refl), outside leaf within a h.1)

pub unended : (l : List Placed) → EachOf (λ s. ends_at None s ≡ false) l
unended [] = tt
unended (s ∷ l) = (refl, unended l)

-- where the end is one of the places below p, or none, and p isn't a leaf
counted_is : (l : List Placed) (p : Place) (t : Trees PlacedLook) (b : Parts p [] t) (end : Option Place) → l ≡ tree_placed [] t → is_leaf l (entry b.over b.look) ≡ false → IfSome end (λ q. is_in q b.inner ≡ true)
    → filter (λ x. is_leaf l x && is_within p x) (until (ends_at end) l) ≡ filter (is_leaf l) (until (ends_at end) (tree_placed (b.look.place ∷ b.over) b.inner))
counted_is l p t b end e leaf h =
    let sub = tree_placed (b.look.place ∷ b.over) b.inner in
    let mine = entry b.over b.look in
    let keeps : Placed → Bool = λ x. is_leaf l x && is_within p x in
    let ends : EachOf (λ s. ends_at end s ≡ false) b.front = fronted end h in
    let own : ends_at end mine ≡ false = not_own end h in
    let deep : list_any (same_place p) (b.look.place ∷ b.over) ≡ true = (let self : same_place p b.look.place ≡ true = ap (same_place p) b.at ∙ same_self p in rw self refl) in
    ap (λ v. filter keeps (until (ends_at end) v)) (e ∙ b.whole)
    ∙ (ap (filter keeps) (none_ends end b.front ends ((mine ∷ sub) ++ b.back))
    ∙ (filter-append keeps b.front (until (ends_at end) ((mine ∷ sub) ++ b.back))
    ∙ (ap (λ v. v ++ filter keeps (until (ends_at end) ((mine ∷ sub) ++ b.back))) (filter_none keeps b.front (outside (is_leaf l) (is_within p) b.front b.own_front))
    ∙ (back_drops keeps (ends_at end) (mine ∷ sub) b.back (outside (is_leaf l) (is_within p) b.back b.own_back)
    ∙ (rw (own, leaf) (inside_same (is_leaf l) (is_within p) (ends_at end) sub (inside_of p (b.look.place ∷ b.over) b.inner deep)))))))
  where
    fronted : (o : Option Place) → IfSome o (λ q. is_in q b.inner ≡ true) → EachOf (λ s. ends_at o s ≡ false) b.front
    fronted None h = unended b.front
    fronted (Some q) h = clear_ends q b.front (b.front_clear q h)

    not_own : (o : Option Place) → IfSome o (λ q. is_in q b.inner ≡ true) → ends_at o (entry b.over b.look) ≡ false
    not_own None h = refl
    not_own (Some q) h = turned b.look.place q ∙ not_same q b.look.place b.inner h (ap (λ v. is_in v b.inner) b.at ∙ b.apart)

-- ---- the mark before a child

end_in : (k : Trees PlacedLook) (c : ℕ) (o : Option Place) → slice_get (root_places k) c ≡ o → IfSome o (λ q. is_in q k ≡ true)
end_in k c None e = tt
end_in k c (Some q) e = root_is_in k c q e

not_nil : (k : Trees PlacedLook) (c : ℕ) → suc c ≤ length (root_places k) → is_nil (root_places k) ≡ false
not_nil bare c h = absurd (omega (arith, h))
not_nil (tree i x a b) c h = refl

pub kids_of : (l : List Placed) (p : Place) (t : Trees PlacedLook) → IsOnce t → l ≡ tree_placed [] t → children_of l p ≡ kids_at p t
unfolding children_of
kids_of l p t d s = ap (λ v. children_of v p) s ∙ kids_are p [] t d refl

pub text_is : (f : Forest) (p : Place) (c : ℕ) (end : Option Place) → IsSound f → has_place (stitched f) p ≡ true → suc c ≤ length (children_of (stitched f) p) → end ≡ slice_get (children_of (stitched f) p) (suc c)
    → flat_map (text_of (stitched f)) (take (suc c) (children_of (stitched f) p)) ≡ joined (filter (λ x. is_leaf (stitched f) x && is_within p x) (until (ends_at end) (stitched f)))
unfolding is_leaf
text_is f p c end w h n e =
    let l = stitched f in
    let t = stitched_tree f in
    let d = once f w in
    let same : l ≡ tree_placed [] t = stitched-tree f in
    let b = parts_at p [] t d (λ q g. refl) (stands_in p t (ap (λ v. has_place v p) (sym same) ∙ h)) in
    let kids : children_of l p ≡ root_places b.inner = kids_of l p t d same ∙ b.kids in
    let sub = tree_placed (b.look.place ∷ b.over) b.inner in
    let end_is : end ≡ slice_get (root_places b.inner) (suc c) = e ∙ ap (λ v. slice_get v (suc c)) kids in
    let some : suc c ≤ length (root_places b.inner) = let k = ap (λ v. length v) kids in omega (arith, n, k) in
    let leaf : is_nil (children_of l b.look.place) ≡ false = ap (λ q. is_nil (children_of l q)) b.at ∙ (ap is_nil kids ∙ not_nil b.inner c some) in
    ap (λ v. flat_map (text_of l) (take (suc c) v)) kids
    ∙ (texts l (take (suc c) (root_places b.inner))
    ∙ (ap (λ v. joined (filter (is_leaf l) v))
    (same_roots (λ q. filter (is_within q) l) (λ q. filter (is_within q) sub) b.inner (suc c) (λ q g. ap (filter (is_within q)) same ∙ inner_is p [] t b q g)
    ∙ (first_roots (suc c) (b.look.place ∷ b.over) b.inner b.once (λ q g. let a = not_same q b.look.place b.inner g (ap (λ v. is_in v b.inner) b.at ∙ b.apart) in let o = b.over_clear q g in rw (a, o) refl)
    ∙ ap (λ o. until (ends_at o) sub) (sym end_is)))
    ∙ sym (ap joined (counted_is l p t b end same leaf (end_in b.inner (suc c) end (sym end_is))))))
