-- Each place of the stitched list is a node of a live tree, and so it has an extent.
use Rattle.std.proofs.Common.{ℕ, zero, suc, ◌≡◌, ◌==◌, Bool, true, false, ◌||◌, ◌&&◌, if◌then◌else◌, List, [], ◌∷◌, ◌++◌, reverse, filter_map, flat_map, refl, sym, ap, ◌∙◌, subst, Option, Some, None, arith, append-nil, option_to_list, option_and_then, true≢false}
use Rattle.std.proofs.lemmas.Bool.{eqb-true}
use Rattle.std.proofs.lemmas.List.{reverse-append}
use Rattle.std.specs.List.{list_any, cons_option}
use Rattle.ax_base.specs.Area.{Area}
use Rattle.ax_base.specs.declared.position.Place.{Place}
use Rattle.ax_node.specs.Look.{Look}
use Rattle.ax_trees.specs.Trees.{Trees, bare, tree, has}
use Rattle.ax_trees.specs.Nodes.{Node, chain, node_at}
use Rattle.ax_trees.proofs.Grown.{node_some}
use Rattle.ax_tree.specs.Tree.{Tree}
use Rattle.ax_tree.specs.Forest.{Forest, first_tree, live_tree, hosted_by}
use Rattle.ax_rules.specs.Looks.{line_up}
use Rattle.ax_rules.specs.Stitched.{Placed, place_at, placed_in, placed_of, placed_from, placed_from_first, stitched, stands_at, has_place}
use Rattle.ax_rules.specs.Extents.{extent_in, extent_of, place_extent}

-- P holds of each place of a list
abbrev pub AllPlaces : (Place → Type 0) → List Placed → Type 0
AllPlaces P [] = Unit {0}
AllPlaces P (s ∷ l) = P s.place × AllPlaces P l

both_places : (P : Place → Type 0) (xs ys : List Placed) → AllPlaces P xs → AllPlaces P ys → AllPlaces P (xs ++ ys)
both_places P [] ys h k = k
both_places P (x ∷ xs) ys h k = (h.0, both_places P xs ys h.1 k)

in_inner : (a b c : Bool) → b ≡ true → (a || (b || c)) ≡ true
in_inner true b c h = refl
in_inner false b c h = ap (λ d. d || c) h

in_others : (a b c : Bool) → c ≡ true → (a || (b || c)) ≡ true
in_others true b c h = refl
in_others false true c h = refl
in_others false false c h = h

same_number : (i : ℕ) → (i == i) ≡ true
same_number i = grind arith

places_of_trees : (P : Place → Type 0) (hung : Place → List Place → List Placed) (t : ℕ) (above : List Place) (f : Trees Look) → ((z : ℕ) → has f z ≡ true → P (place_at t z))
    → ((p : Place) (q : List Place) → AllPlaces P (hung p q)) → AllPlaces P (placed_in hung t above f)
places_of_trees P hung t above bare h k = tt
places_of_trees P hung t above (tree i x inner others) h k = (
  h i (ap (λ b. b || (has inner i || has others i)) (same_number i)),
  both_places P (placed_in hung t (place_at t i ∷ above) inner ++ hung (place_at t i) (place_at t i ∷ above)) (placed_in hung t above others)
      (both_places P (placed_in hung t (place_at t i ∷ above) inner) (hung (place_at t i) (place_at t i ∷ above))
      (places_of_trees P hung t (place_at t i ∷ above) inner (λ z m. h z (in_inner (i == z) (has inner z) (has others z) m)) k) (k (place_at t i) (place_at t i ∷ above)))
      (places_of_trees P hung t above others (λ z m. h z (in_others (i == z) (has inner z) (has others z) m)) k),
)

-- the place is a node of a live tree
pub record IsNode (f : Forest) (p : Place) : Type 0 where
  pub tree : Tree
  pub live : live_tree f p.tree ≡ Some tree
  pub there : has tree.trees p.node ≡ true

places_of_tree : (f : Forest) (hung : Place → List Place → List Placed) (t : ℕ) (above : List Place) (o : Option Tree) → live_tree f t ≡ o
    → ((p : Place) (q : List Place) → AllPlaces (IsNode f) (hung p q)) → AllPlaces (IsNode f) (placed_of hung t above o)
places_of_tree f hung t above None e k = tt
places_of_tree f hung t above (Some m) e k = places_of_trees (IsNode f) hung t above m.trees (λ z h. record { tree = m; live = e; there = h }) k

hung_places : (P : Place → Type 0) (l : ℕ → List Placed) → ((c : ℕ) → AllPlaces P (l c)) → (o : Option ℕ) → AllPlaces P (flat_map l (option_to_list o))
hung_places P l h None = tt
hung_places P l h (Some c) = subst (λ xs. AllPlaces P xs) (sym (append-nil (l c))) (h c)

places_from : (n : ℕ) (f : Forest) (t : ℕ) (above : List Place) → AllPlaces (IsNode f) (placed_from n f t above)
places_from zero f t above = tt
places_from (suc n) f t above =
    places_of_tree f (λ p q. flat_map (λ c. placed_from n f c q) (option_to_list (hosted_by f p))) t above (live_tree f t) refl
    (λ p q. hung_places (IsNode f) (λ c. placed_from n f c q) (λ c. places_from n f c q) (hosted_by f p))

places_from_first : (f : Forest) (o : Option ℕ) → AllPlaces (IsNode f) (placed_from_first f o)
places_from_first f None = tt
places_from_first f (Some t) = places_from 8 f t []

same_record : (p q : Place) → p.tree ≡ q.tree → p.node ≡ q.node → p ≡ q
same_record p q h k = λ z. record { tree = h z; node = k z }

found_place : (P : Place → Type 0) (l : List Placed) (p : Place) → AllPlaces P l → list_any (stands_at p) l ≡ true → P p
found_place P [] p a h = absurd (true≢false (sym h))
found_place P (s ∷ l) p a h = go (s.place.tree == p.tree) (s.place.node == p.node) refl refl (λ k. found_place P l p a.1 k) h
  where
    go : (b c : Bool) → (s.place.tree == p.tree) ≡ b → (s.place.node == p.node) ≡ c → (list_any (stands_at p) l ≡ true → P p) → ((b && c) || list_any (stands_at p) l) ≡ true → P p
    go true true e k ih m = subst P (same_record s.place p (eqb-true s.place.tree p.tree e) (eqb-true s.place.node p.node k)) a.0
    go true false e k ih m = ih m
    go false c e k ih m = ih m

pub place_is_node : (f : Forest) (p : Place) → has_place (stitched f) p ≡ true → IsNode f p
unfolding stitched has_place
place_is_node f p h = found_place (IsNode f) (placed_from_first f (first_tree f)) p (places_from_first f (first_tree f)) h

-- ---- extents

-- a chain ends in its own node
record EndsIn (xs : List ℕ) (z : ℕ) : Type 0 where
  front : List ℕ
  whole : xs ≡ front ++ z ∷ []

chain_ends : (f : Trees Look) (z : ℕ) → has f z ≡ true → EndsIn (chain f z) z
chain_ends bare z h = absurd (true≢false (sym h))
chain_ends (tree i x inner others) z h = go (i == z) (has inner z) refl (λ k. chain_ends inner z k) (λ k. chain_ends others z k) refl h
  where
    go : (b c : Bool) → (i == z) ≡ b → (has inner z ≡ true → EndsIn (chain inner z) z) → (has others z ≡ true → EndsIn (chain others z) z) → has inner z ≡ c
        → (b || (c || has others z)) ≡ true → EndsIn (if b then i ∷ [] else if c then i ∷ chain inner z else chain others z) z
    go true c e ih jh k m = record { front = []; whole = ap (λ y. y ∷ []) (eqb-true i z e) }
    go false true e ih jh k m = let r = ih k in record { front = i ∷ r.front; whole = ap (λ l. i ∷ l) r.whole }
    go false false e ih jh k m = jh m

first_up : (f : Trees Look) (z : ℕ) (n : Node Look) (xs : List ℕ) → node_at f z ≡ Some n → chain f z ≡ xs ++ z ∷ [] → line_up f z ≡ n ∷ filter_map (node_at f) (reverse xs)
first_up f z n xs e h =
    ap (λ l. filter_map (node_at f) (reverse l)) h
    ∙ (ap (filter_map (node_at f)) (reverse-append xs (z ∷ [])) ∙ ap (λ o. cons_option o (filter_map (node_at f) (reverse xs))) e)

pub record HasExtent (o : Option Area) : Type 0 where
  pub area : Area
  pub is : o ≡ Some area

first_extent : (n : Node Look) (above : List (Node Look)) → HasExtent (extent_in (n ∷ above))
first_extent n above = record { area = _; is = refl }

pub node_has_extent : (m : Tree) (z : ℕ) → has m.trees z ≡ true → HasExtent (extent_of m z)
unfolding extent_of
node_has_extent m z h =
    let c = chain_ends m.trees z h in
    let n = node_some m.trees z h in
    subst (λ l. HasExtent (extent_in l)) (sym (first_up m.trees z n.0 c.front n.1 c.whole)) (first_extent n.0 (filter_map (node_at m.trees) (reverse c.front)))

-- a place of the list has an extent
pub place_has_extent : (f : Forest) (p : Place) → has_place (stitched f) p ≡ true → HasExtent (place_extent f p)
unfolding place_extent
place_has_extent f p h =
    let n = place_is_node f p h in
    subst (λ o. HasExtent (option_and_then (λ (m : Tree). extent_of m p.node) o)) (sym n.live) (node_has_extent n.tree p.node n.there)
