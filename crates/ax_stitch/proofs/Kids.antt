-- The children of a place: its node's own, then the root of the tree that hangs there.
use Rattle.std.proofs.Common.{ℕ, zero, suc, ◌+◌, ◌≡◌, Bool, true, false, ◌==◌, ◌⊎◌, inl, inr, eqb, cond, List, [], ◌∷◌, ◌++◌, map, filter, Option, Some, None, refl, sym, ap, ◌∙◌, subst, arith, append-nil, option_to_list, option_map, option_and_then}
use Rattle.std.specs.Prelude.{IfSome, is_some}
use Rattle.std.specs.List.{list_any}
use Rattle.std.proofs.lemmas.List.Concat.{flat_map-append}
use Rattle.std.proofs.lemmas.List.Elements.{filter-append}
use Rattle.std.proofs.lemmas.Bool.Decides.{eqb_tells}
use Rattle.std.proofs.lemmas.Bool.{false≢true, false_from_ne_true, eqb-true, and_parts}
use Rattle.ax_base.specs.declared.position.Place.{Place}
use Rattle.ax_node.specs.Look.{Look}
use Rattle.ax_trees.specs.Trees.{Trees, bare, tree, has, has_root, ids, roots, root_of, IsDistinct, IsSingle}
use Rattle.ax_trees.specs.Nodes.{below, children, parent}
use Rattle.ax_trees.specs.Lists.{contains}
use Rattle.ax_trees.specs.Spots.{or_else}
use Rattle.ax_trees.proofs.Trees.{by_go, root_in, below_absent, not_below_self}
use Rattle.ax_trees.proofs.Times.{contains-ids, has-node}
use Rattle.ax_trees.proofs.Lists.{contains-append}
use Rattle.ax_trees.proofs.Parents.{child_of_parent}
use Rattle.ax_tree.specs.Tree.{Tree, IsWellFormed}
use Rattle.ax_tree.specs.Forest.{Forest, first_tree, live_tree, host_of, hosted_by, is_place}
use Rattle.ax_rules.specs.Sequences.{first_of, front_of}
use Rattle.ax_rules.specs.Looks.{same_place}
use Rattle.ax_rules.specs.Stitched.{Placed, place_at, places, stitched, has_place, is_child, children_of}
use Rattle.ax_views.proofs.Climbing.{root_from_none, child_no_root}
use Rattle.ax_stitch.specs.Orders.{ahead, past, behind}
use Rattle.ax_stitch.specs.Levels.{AreFormed, HungFormed, ids_of, tree_ids, spread_of, at_hung, shown_from, hung_to, root_at, hung_root, levels_below, line_over, line, line_of}
use Rattle.ax_stitch.proofs.Lists.{split_at, ahead_other, ahead_in, past_in}
use Rattle.ax_stitch.proofs.Orders.{parent_in, past_ids}
use Rattle.ax_stitch.proofs.Hosts.{AllOf, all_append, all_weaker, host_is, host_node, host_hung, hung_host, first_hangs_nowhere}
use Rattle.ax_stitch.proofs.Climbs.{up, up_on, up_one, up_once, up_never_back}
use Rattle.ax_stitch.proofs.Blocks.{stitched_places, block, blocks, shown_blocks, Reaches, reached}
use Rattle.ax_stitch.proofs.Around.{ahead_of, behind_under, behind_of, formed_distinct, formed_next, around, Avoids, all_blocks, other_block, higher, ahead_avoids}
use Rattle.ax_stitch.proofs.Places.{level_is, stands, formed_less}
use Rattle.ax_stitch.proofs.Under.{AllFormed, all_formed, line_first, Known, FirstTold, told, first_over}

-- ---- lists

filter_none : {A : Type 0} (p : A → Bool) (xs : List A) → AllOf (λ x. p x ≡ false) xs → filter p xs ≡ []
filter_none p [] a = refl
filter_none p (x ∷ xs) a = let h = a.0 in rw h (filter_none p xs a.1)

filter_same : (p r : ℕ → Bool) (xs : List ℕ) → ((i : ℕ) → contains xs i ≡ true → p i ≡ r i) → filter p xs ≡ filter r xs
filter_same p r [] h = refl
filter_same p r (x ∷ xs) h =
    let self : eqb x x ≡ true = grind (arith, eqb_tells x x) in
    let e : p x ≡ r x = h x (grind (arith, self)) in
    let rest = filter_same p r xs (λ i c. h i (grind (arith, c))) in
    rw (e, rest) refl

filter_empty : (p : ℕ → Bool) (xs : List ℕ) → ((i : ℕ) → contains xs i ≡ true → p i ≡ false) → filter p xs ≡ []
filter_empty p [] h = refl
filter_empty p (x ∷ xs) h =
    let self : eqb x x ≡ true = grind (arith, eqb_tells x x) in
    let e : p x ≡ false = h x (grind (arith, self)) in
    rw e (filter_empty p xs (λ i c. h i (grind (arith, c))))

-- ---- children by parents

abbrev is_id : ℕ → Option ℕ → Bool
is_id y None = false
is_id y (Some z) = z == y

root_parent : {X : Type 0} (w : Trees X) (j : ℕ) → IsDistinct w → has_root w j ≡ true → parent w j ≡ None
root_parent w j d h = go (parent w j) refl
  where
    go : (o : Option ℕ) → parent w j ≡ o → o ≡ None
    go None e = refl
    go (Some y) e = absurd (false≢true (sym (child_no_root w j y d e) ∙ h))

filter_roots : {X : Type 0} (k : Trees X) → IsDistinct k → filter (has_root k) (ids k) ≡ roots k
filter_roots bare d = refl
filter_roots {X} (tree i x k r) d =
    let self : has_root (tree i x k r) i ≡ true = grind (arith, eqb_tells i i) in
    rw self (ap (λ l. i ∷ l)
    (filter-append (has_root (tree i x k r)) (ids k) (ids r)
    ∙ (ap (λ l. l ++ filter (has_root (tree i x k r)) (ids r)) (filter_empty (has_root (tree i x k r)) (ids k) (λ j c. inner j (sym (contains-ids k j) ∙ c)))
    ∙ (filter_same (has_root (tree i x k r)) (has_root r) (ids r) (λ j c. outer j (sym (contains-ids r j) ∙ c))
    ∙ filter_roots r d.4))))
  where
    inner : (j : ℕ) → has k j ≡ true → has_root (tree i x k r) j ≡ false
    inner j h =
        let a : eqb i j ≡ false = false_from_ne_true (eqb i j) (λ q. grind (arith, q, eqb_tells i j, h, d.0)) in
        let b : has_root r j ≡ false = false_from_ne_true (has_root r j) (λ q. false≢true (sym (d.2.apart j h) ∙ root_in r j q)) in
        rw (a, b) refl

    outer : (j : ℕ) → has r j ≡ true → has_root (tree i x k r) j ≡ has_root r j
    outer j h = let a : eqb i j ≡ false = false_from_ne_true (eqb i j) (λ q. grind (arith, q, eqb_tells i j, h, d.1)) in rw a refl

pub children_by : {X : Type 0} (w : Trees X) (y : ℕ) → IsDistinct w → filter (λ j. is_id y (parent w j)) (ids w) ≡ children w y
children_by bare y d = refl
children_by {X} (tree i x k r) y d =
    ap (λ o. cond (is_id y o) (i ∷ filter (λ j. is_id y (parent (tree i x k r) j)) (ids k ++ ids r)) (filter (λ j. is_id y (parent (tree i x k r) j)) (ids k ++ ids r)))
    (root_parent (tree i x k r) i d (grind (arith, eqb_tells i i)))
    ∙ (filter-append (λ j. is_id y (parent (tree i x k r) j)) (ids k) (ids r)
    ∙ (ap (λ l. filter (λ j. is_id y (parent (tree i x k r) j)) (ids k) ++ l) (filter_same (λ j. is_id y (parent (tree i x k r) j)) (λ j. is_id y (parent r j)) (ids r) later ∙ children_by r y d.4)
    ∙ by_go (i == y) (λ q. here q) (λ q. inside q (children_by k y d.3))))
  where
    later : (j : ℕ) → contains (ids r) j ≡ true → is_id y (parent (tree i x k r) j) ≡ is_id y (parent r j)
    later j c =
        let h : has r j ≡ true = sym (contains-ids r j) ∙ c in
        let a : has k j ≡ false = false_from_ne_true (has k j) (λ q. false≢true (sym (d.2.apart j q) ∙ h)) in
        let b : has_root k j ≡ false = false_from_ne_true (has_root k j) (λ q. false≢true (sym a ∙ root_in k j q)) in
        rw (a, b) refl

    absent : (v : Trees X) → has v y ≡ false → children v y ≡ []
    absent v h = ap roots (below_absent v y h)

    not_parent : (j : ℕ) → has k y ≡ false → is_id y (parent k j) ≡ false
    not_parent j h = go (parent k j) refl
      where
        go : (o : Option ℕ) → parent k j ≡ o → is_id y o ≡ false
        go None e = refl
        go (Some z) e = false_from_ne_true (z == y) (λ q. let same : z ≡ y = eqb-true z y q in false≢true (sym h ∙ (ap (has k) (sym same) ∙ parent_in k j z e)))

    rooted : (j : ℕ) → contains (ids k) j ≡ true → i == y ≡ true → has k y ≡ false → is_id y (parent (tree i x k r) j) ≡ has_root k j
    rooted j c q n = by_go (has_root k j)
        (λ b. rw b q)
        (λ b. let h : has k j ≡ true = sym (contains-ids k j) ∙ c in rw (b, h) (not_parent j n))

    here : i == y ≡ true → filter (λ j. is_id y (parent (tree i x k r) j)) (ids k) ++ children r y ≡ children (tree i x k r) y
    here q =
        let same : i ≡ y = eqb-true i y q in
        let n : has k y ≡ false = ap (has k) (sym same) ∙ d.0 in
        let m : has r y ≡ false = ap (has r) (sym same) ∙ d.1 in
        ap (λ l. l ++ children r y) (filter_same (λ j. is_id y (parent (tree i x k r) j)) (has_root k) (ids k) (λ j c. rooted j c q n) ∙ filter_roots k d.3)
        ∙ (ap (λ l. roots k ++ l) (absent r m) ∙ (append-nil (roots k) ∙ (rw q refl)))

    deeper : i == y ≡ false → (j : ℕ) → contains (ids k) j ≡ true → is_id y (parent (tree i x k r) j) ≡ is_id y (parent k j)
    deeper q j c = by_go (has_root k j)
        (λ b. let n : parent k j ≡ None = root_parent k j d.3 b in rw (b, n) q)
        (λ b. let h : has k j ≡ true = sym (contains-ids k j) ∙ c in rw (b, h) refl)

    inside : i == y ≡ false → filter (λ j. is_id y (parent k j)) (ids k) ≡ children k y → filter (λ j. is_id y (parent (tree i x k r) j)) (ids k) ++ children r y ≡ children (tree i x k r) y
    inside q ih =
        ap (λ l. l ++ children r y) (filter_same (λ j. is_id y (parent (tree i x k r) j)) (λ j. is_id y (parent k j)) (ids k) (deeper q) ∙ ih)
        ∙ by_go (has k y)
        (λ h. let none : children r y ≡ [] = absent r (d.2.apart y h) in ap (λ l. children k y ++ l) none ∙ (append-nil (children k y) ∙ (rw (q, h) refl)))
        (λ h. let none : children k y ≡ [] = absent k h in ap (λ l. l ++ children r y) none ∙ (rw (q, h) refl))

behind_self : {X : Type 0} (w : Trees X) (z : ℕ) → IsDistinct w → contains (behind w z) z ≡ false
behind_self bare z d = refl
behind_self (tree i x k r) z d = by_go (i == z)
    (λ q. rw q (contains-ids r z ∙ (ap (has r) (sym (eqb-true i z q)) ∙ d.1)))
    (λ q. by_go (has k z)
    (λ h. let a = behind_self k z d.3 in let b = contains-ids r z ∙ d.2.apart z h in rw (q, h) (contains-append (behind k z) (ids r) z ∙ (rw (a, b) refl)))
    (λ h. rw (q, h) (behind_self r z d.4)))

pub past_other : {X : Type 0} (w : Trees X) (z j : ℕ) → IsDistinct w → has w z ≡ true → contains (past (ids w) z) j ≡ true → eqb j z ≡ false
past_other w z j d h c = false_from_ne_true (eqb j z) (λ q.
    let same : j ≡ z = eqb-true j z q in
    let a : contains (ids (below w z)) z ≡ false = contains-ids (below w z) z ∙ not_below_self w z d in
    let b : contains (behind w z) z ≡ false = behind_self w z d in
    let e : contains (past (ids w) z) z ≡ false = ap (λ l. contains l z) (past_ids w z d h) ∙ (contains-append (ids (below w z)) (behind w z) z ∙ (rw (a, b) refl)) in
    false≢true (sym e ∙ (ap (contains (past (ids w) z)) (sym same) ∙ c)))

-- ---- the tree t stands nowhere behind itself

pub behind_avoids : (j n : ℕ) (f : Forest) (t first : ℕ) → host_of f first ≡ None → up j f t ≡ Some first → AreFormed (suc j) f t → AllOf (Avoids f t) (behind_of j n f t)
behind_avoids zero n f t first stop h w = tt
behind_avoids (suc j) n f t first stop h w = go (λ q u v. behind_avoids j (suc n) f q first stop u v) (host_of f t) refl h
  where
    go : ((q : ℕ) → up j f q ≡ Some first → AreFormed (suc j) f q → AllOf (Avoids f q) (behind_of j (suc n) f q)) → (o : Option Place) → host_of f t ≡ o
        → option_and_then (λ (host : Place). up j f host.tree) o ≡ Some first → AllOf (Avoids f t) (behind_under (behind_of j (suc n) f) n f o)
    go ih None s g = tt
    go ih (Some q) s g =
        let formed : AreFormed (suc j) f q.tree = formed_next (suc j) f q (host_of f t) s w.1 in
        let host = host_is f t q s in
        let d : IsDistinct host.over.trees = formed_distinct host.over (live_tree f q.tree) host.over_live formed.0 in
        let there = (host_node f t q host d).there in
        let listed : tree_ids f q.tree ≡ ids host.over.trees = ap ids_of host.over_live in
        let xs = past (tree_ids f q.tree) q.node in
        let hs = hung_to (suc n) f in
        all_append (Avoids f t) (blocks hs q.tree xs) (behind_of j (suc n) f q.tree)
        (all_blocks (Avoids f t) hs q.tree xs (λ i c. other_block f j (suc n) t first q stop s g i (past_other host.over.trees q.node i d there (sym (ap (λ l. contains (past l q.node) i) listed) ∙ c))))
        (all_weaker (Avoids f q.tree) (Avoids f t) (behind_of j (suc n) f q.tree) (higher f t q s) (ih q.tree g formed))

-- ---- the place above a place

abbrev kin_in : Forest → Place → Option Tree → Option Place
kin_in f q None = None
kin_in f q (Some m) = or_else (option_map (place_at q.tree) (parent m.trees q.node)) (host_of f q.tree)

abbrev is_kid : Forest → Place → Place → Bool
is_kid f p q = is_place p (kin_in f q (live_tree f q.tree))

other_tree : (p : Place) (u y : ℕ) → (u ≡ p.tree → ⊥) → is_place p (Some (place_at u y)) ≡ false
other_tree p u y n = let a : eqb p.tree u ≡ false = false_from_ne_true (eqb p.tree u) (λ q. n (sym (eqb-true p.tree u q))) in rw a refl

not_kid : (f : Forest) (p q : Place) → (q.tree ≡ p.tree → ⊥) → is_place p (host_of f q.tree) ≡ false → is_kid f p q ≡ false
not_kid f p q n h = go (live_tree f q.tree)
  where
    in_tree : (o : Option ℕ) → is_place p (or_else (option_map (place_at q.tree) o) (host_of f q.tree)) ≡ false
    in_tree None = h
    in_tree (Some y) = other_tree p q.tree y n

    go : (o : Option Tree) → is_place p (kin_in f q o) ≡ false
    go None = refl
    go (Some m) = in_tree (parent m.trees q.node)

is_there : (p : Place) (o : Option Place) → is_place p o ≡ true → o ≡ Some p
is_there p None h = absurd (false≢true h)
is_there p (Some q) h =
    let b = and_parts (p.tree == q.tree) (p.node == q.node) h in
    λ z. Some (record { tree = sym (eqb-true p.tree q.tree b.0) z; node = sym (eqb-true p.node q.node b.1) z })

not_host : (f : Forest) (p : Place) (u : ℕ) → (host_of f u ≡ Some p → ⊥) → is_place p (host_of f u) ≡ false
not_host f p u n = false_from_ne_true (is_place p (host_of f u)) (λ q. n (is_there p (host_of f u) q))

child_place : (p : Place) (xs : List Place) → list_any (same_place p) (front_of xs) ≡ is_place p (first_of xs)
child_place p [] = refl
child_place p (x ∷ xs) = by_go (same_place p x) (λ q. rw q refl) (λ q. rw q refl)

known_first : (f : Forest) (first : ℕ) (s : Placed) → Known f first s → first_of s.above ≡ kin_in f s.place (live_tree f s.place.tree)
known_first f first s n =
    let q = s.place in
    let over = line_over (line n.steps f) (host_of f q.tree) in
    ap first_of (n.above ∙ ap (λ o. line_of q.tree over o q.node) n.live)
    ∙ (line_first q.tree over n.tree.trees q.node n.distinct (has-node n.tree.trees q.node ∙ ap is_some n.look)
    ∙ (ap (or_else (option_map (place_at q.tree) (parent n.tree.trees q.node))) (first_over n.steps f (host_of f q.tree)) ∙ ap (kin_in f q) (sym n.live)))

kid_is : (f : Forest) (first : ℕ) (p : Place) (m : Tree) → live_tree f p.tree ≡ Some m → AllFormed f p.tree → HungFormed f p → (s : Placed) → FirstTold f first s → is_child p s ≡ is_kid f p s.place
kid_is f first p m l w v s t =
    child_place p s.above ∙ by_go (s.place.tree == p.tree)
    (λ q. ap (is_place p) (known_first f first s (t.known (subst (AllFormed f) (sym (eqb-true s.place.tree p.tree q)) w))))
    (λ q. let n : s.place.tree ≡ p.tree → ⊥ = λ e. absurd (grind (arith, q, e, eqb_tells s.place.tree p.tree)) in by_go (is_place p (host_of f s.place.tree))
    (λ h. ap (is_place p) (known_first f first s (t.known (hung s.place.tree (is_there p (host_of f s.place.tree) h)))))
    (λ h. apart n h t.edge ∙ sym (not_kid f p s.place n h)))
  where
    hung : (u : ℕ) → host_of f u ≡ Some p → AllFormed f u
    hung u h zero = tt
    hung u h (suc n) =
        let host = host_is f u p h in
        let same : ◌≡◌ {A = Option Tree} (Some m) (Some host.over) = sym l ∙ host.over_live in
        let over : m ≡ host.over = cc in
        let d : IsDistinct host.over.trees = formed_distinct host.over (live_tree f p.tree) host.over_live (w 1).0 in
        (subst (λ o. IfSome o (λ c. IfSome (live_tree f c) IsWellFormed)) (host_hung f u p host d h) v, subst (λ o. IfSome o (λ (host : Place). AreFormed n f host.tree)) (sym h) (w n))

    apart : (s.place.tree ≡ p.tree → ⊥) → is_place p (host_of f s.place.tree) ≡ false → (first_of s.above ≡ host_of f s.place.tree) ⊎ ((y : ℕ) × (first_of s.above ≡ Some (place_at s.place.tree y)))
        → is_place p (first_of s.above) ≡ false
    apart n h (inl e) = ap (is_place p) e ∙ h
    apart n h (inr e) = ap (is_place p) e.1 ∙ other_tree p s.place.tree e.0 n

places_filter : (p : Place) (r : Place → Bool) (l : List Placed) → AllOf (λ s. is_child p s ≡ r s.place) l → places (filter (is_child p) l) ≡ filter r (places l)
places_filter p r [] a = refl
places_filter p r (s ∷ l) a = by_go (r s.place)
    (λ q. let e : is_child p s ≡ true = a.0 ∙ q in rw (e, q) (ap (λ v. s.place ∷ v) (places_filter p r l a.1)))
    (λ q. let e : is_child p s ≡ false = a.0 ∙ q in rw (e, q) (places_filter p r l a.1))

kids_filter : (f : Forest) (first : ℕ) (p : Place) (m : Tree) → first_tree f ≡ Some first → live_tree f p.tree ≡ Some m → AllFormed f p.tree → HungFormed f p
    → children_of (stitched f) p ≡ filter (is_kid f p) (shown_from 8 f first)
unfolding children_of
kids_filter f first p m e l w v =
    places_filter p (is_kid f p) (stitched f) (all_weaker (FirstTold f first) (λ s. is_child p s ≡ is_kid f p s.place) (stitched f) (kid_is f first p m l w v) (told f first e))
    ∙ ap (filter (is_kid f p)) (stitched_places f ∙ ap (at_hung (shown_from 8 f)) e)

-- ---- the filtered list

avoid_kid : (f : Forest) (p q : Place) → Avoids f p.tree q → is_kid f p q ≡ false
avoid_kid f p q a =
    not_kid f p q (λ e. a 0 (ap Some e)) (not_host f p q.tree (λ h. a 1 (up_one f q.tree p h)))

-- p stands j steps below the first tree
record Deep (f : Forest) (p : Place) : Type 0 where
  steps : ℕ
  first : ℕ
  stop : host_of f first ≡ None
  climbs : up steps f p.tree ≡ Some first

no_cycle : (f : Forest) (p : Place) → Deep f p → (i : ℕ) → up (suc i) f p.tree ≡ Some p.tree → ⊥
no_cycle f p d i h = up_never_back f i d.steps p.tree d.first d.stop d.climbs h

-- a node of p's own tree
own_kid : (f : Forest) (p : Place) (m : Tree) → Deep f p → live_tree f p.tree ≡ Some m → (i : ℕ) → is_kid f p (place_at p.tree i) ≡ is_id p.node (parent m.trees i)
own_kid f p m d l i = ap (λ o. is_place p (kin_in f (place_at p.tree i) o)) l ∙ go (parent m.trees i)
  where
    go : (o : Option ℕ) → is_place p (or_else (option_map (place_at p.tree) o) (host_of f p.tree)) ≡ is_id p.node o
    go None = not_host f p p.tree (λ h. no_cycle f p d 0 (up_one f p.tree p h))
    go (Some z) =
        let self : eqb p.tree p.tree ≡ true = grind (arith, eqb_tells p.tree p.tree) in
        rw self (by_go (z == p.node)
        (λ q. let e : p.node == z ≡ true = grind (arith, q, eqb_tells z p.node, eqb_tells p.node z) in e ∙ sym q)
        (λ q. let e : p.node == z ≡ false = false_from_ne_true (p.node == z) (λ g. grind (arith, g, q, eqb_tells z p.node, eqb_tells p.node z)) in e ∙ sym q))

-- a place at least two trees below p's
deep_kid : (f : Forest) (p : Place) → Deep f p → (k : ℕ) (q : Place) → up (suc (suc k)) f q.tree ≡ Some p.tree → is_kid f p q ≡ false
deep_kid f p d k q h =
    not_kid f p q
    (λ e. no_cycle f p d (suc k) (ap (up (suc (suc k)) f) (sym e) ∙ h))
    (not_host f p q.tree (λ g.
    let a = up_on f 1 d.steps (1 + d.steps) q.tree p.tree refl (up_one f q.tree p g) ∙ d.climbs in
    let b = up_on f (suc (suc k)) d.steps (suc (suc k) + d.steps) q.tree p.tree refl h ∙ d.climbs in
    let same = up_once f (1 + d.steps) (suc (suc k) + d.steps) q.tree d.first d.stop a b in
    omega arith))

-- what hangs at another node of p's tree
other_hung : (f : Forest) (p : Place) → Deep f p → (n i : ℕ) → eqb i p.node ≡ false → filter (is_kid f p) (hung_to n f (place_at p.tree i)) ≡ []
other_hung f p d n i other = filter_none (is_kid f p) (hung_to n f (place_at p.tree i)) (below (hosted_by f (place_at p.tree i)) refl)
  where
    apart : (c : ℕ) → host_of f c ≡ Some (place_at p.tree i) → (q : Place) → (s : ℕ) → up s f q.tree ≡ Some c → is_kid f p q ≡ false
    apart c g q zero h =
        let same : q.tree ≡ c = cc in
        let host : host_of f q.tree ≡ Some (place_at p.tree i) = ap (host_of f) same ∙ g in
        not_kid f p q
        (λ e. no_cycle f p d 0 (ap (up 1 f) (sym e) ∙ up_one f q.tree (place_at p.tree i) host))
        (not_host f p q.tree (λ k.
        let both : ◌≡◌ {A = Option Place} (Some (place_at p.tree i)) (Some p) = sym host ∙ k in
        let place : place_at p.tree i ≡ p = cc in
        let node : i ≡ p.node = ap (λ (v : Place). v.node) place in
        absurd (grind (arith, other, node, eqb_tells i p.node))))
    apart c g q (suc s) h = deep_kid f p d s q (up_on f (suc s) 1 (suc (suc s)) q.tree c (omega arith) h ∙ up_one f c (place_at p.tree i) g)

    below : (o : Option ℕ) → hosted_by f (place_at p.tree i) ≡ o → AllOf (λ q. is_kid f p q ≡ false) (at_hung (shown_from n f) o)
    below None e = tt
    below (Some c) e =
        all_weaker (Reaches n f c) (λ q. is_kid f p q ≡ false) (shown_from n f c) (λ q r. apart c (hung_host f (place_at p.tree i) c e) q r.steps r.climbs) (reached n f c)

-- in the tree that hangs at p the root alone
inner_parent : {X : Type 0} (i : ℕ) (x : X) (k r : Trees X) (z : ℕ) → IsDistinct (tree i x k r) → has k z ≡ true → parent (tree i x k r) z ≡ None → ⊥
inner_parent i x k r z d g h = by_go (has_root k z)
    (λ t. let e : ◌≡◌ {A = Option ℕ} (Some i) None = rw t at h in cc)
    (λ t. let up : parent k z ≡ None = rw (t, g) at h in absurd (false≢true (sym t ∙ root_from_none k z d.3 g up)))

filter_blocks : (r : Place → Bool) (h : Place → List Place) (t : ℕ) (xs : List ℕ) → ((i : ℕ) → contains xs i ≡ true → filter r (block h t i) ≡ []) → filter r (blocks h t xs) ≡ []
filter_blocks r h t [] e = refl
filter_blocks r h t (x ∷ xs) e =
    let self : eqb x x ≡ true = grind (arith, eqb_tells x x) in
    filter-append r (block h t x) (blocks h t xs)
    ∙ (ap (λ l. l ++ filter r (blocks h t xs)) (e x (grind (arith, self))) ∙ filter_blocks r h t xs (λ i c. e i (grind (arith, c))))

hung_kids : (f : Forest) (p : Place) → Deep f p → (n c : ℕ) → host_of f c ≡ Some p → (m : Tree) → live_tree f c ≡ Some m → IsSingle m.trees → IsDistinct m.trees
    → filter (is_kid f p) (blocks (hung_to n f) c (ids m.trees)) ≡ option_to_list (option_map (place_at c) (root_of m.trees))
hung_kids f p d n c g m l s w = go m.trees refl s w
  where
    apart_tree : c ≡ p.tree → ⊥
    apart_tree e = no_cycle f p d 0 (ap (up 1 f) (sym e) ∙ up_one f c p g)

    deeper : (i : ℕ) → filter (is_kid f p) (hung_to n f (place_at c i)) ≡ []
    deeper i = filter_none (is_kid f p) (hung_to n f (place_at c i)) (below (hosted_by f (place_at c i)) refl)
      where
        below : (o : Option ℕ) → hosted_by f (place_at c i) ≡ o → AllOf (λ q. is_kid f p q ≡ false) (at_hung (shown_from n f) o)
        below None e = tt
        below (Some b) e =
            all_weaker (Reaches n f b) (λ q. is_kid f p q ≡ false) (shown_from n f b)
            (λ q r. deep_kid f p d r.steps q (up_on f r.steps 2 (suc (suc r.steps)) q.tree b (omega arith) r.climbs
            ∙ (up_on f 1 1 2 b c refl (up_one f b (place_at c i) (hung_host f (place_at c i) b e)) ∙ up_one f c p g)))
            (reached n f b)

    none : (w : Trees Look) → m.trees ≡ w → (i : ℕ) → (parent w i ≡ None → ⊥) → is_kid f p (place_at c i) ≡ false
    none w e i h = ap (λ o. is_place p (kin_in f (place_at c i) o)) l ∙ inner (parent m.trees i) (λ k. h (ap (λ v. parent v i) (sym e) ∙ k))
      where
        inner : (o : Option ℕ) → (o ≡ None → ⊥) → is_place p (or_else (option_map (place_at c) o) (host_of f c)) ≡ false
        inner None k = absurd (k refl)
        inner (Some y) k = other_tree p c y apart_tree

    go : (w : Trees Look) → m.trees ≡ w → IsSingle w → IsDistinct w → filter (is_kid f p) (blocks (hung_to n f) c (ids w)) ≡ option_to_list (option_map (place_at c) (root_of w))
    go bare e s w = refl
    go (tree i x k r) e s w =
        let top : parent (tree i x k r) i ≡ None = root_parent (tree i x k r) i w (grind (arith, eqb_tells i i)) in
        let up : parent m.trees i ≡ None = ap (λ v. parent v i) e ∙ top in
        let kid : is_kid f p (place_at c i) ≡ true =
        ap (λ o. is_place p (kin_in f (place_at c i) o)) l ∙ (ap (λ o. is_place p (or_else (option_map (place_at c) o) (host_of f c))) up ∙ (ap (is_place p) g ∙ self)) in
        let first : filter (is_kid f p) (block (hung_to n f) c i) ≡ place_at c i ∷ [] = rw kid (ap (λ l. place_at c i ∷ l) (deeper i)) in
        let rest : ids k ++ ids r ≡ ids k = ap (λ v. ids k ++ ids v) s ∙ append-nil (ids k) in
        filter-append (is_kid f p) (block (hung_to n f) c i) (blocks (hung_to n f) c (ids k ++ ids r))
        ∙ (ap (λ l. l ++ filter (is_kid f p) (blocks (hung_to n f) c (ids k ++ ids r))) first
        ∙ ap (λ l. place_at c i ∷ l)
        (ap (λ xs. filter (is_kid f p) (blocks (hung_to n f) c xs)) rest
        ∙ filter_blocks (is_kid f p) (hung_to n f) c (ids k) (λ j b.
        let no : is_kid f p (place_at c j) ≡ false = none (tree i x k r) e j (inner_parent i x k r j w (sym (contains-ids k j) ∙ b)) in
        rw no (deeper j))))
      where
        self : is_place p (Some p) ≡ true
        self = grind (arith, eqb_tells p.tree p.tree, eqb_tells p.node p.node)

-- where nothing hangs
own_filter : (f : Forest) (p : Place) (m : Tree) → Deep f p → live_tree f p.tree ≡ Some m → (h : Place → List Place) (xs : List ℕ) → ((i : ℕ) → filter (is_kid f p) (h (place_at p.tree i)) ≡ [])
    → filter (is_kid f p) (blocks h p.tree xs) ≡ map (place_at p.tree) (filter (λ i. is_id p.node (parent m.trees i)) xs)
own_filter f p m d l h [] e = refl
own_filter f p m d l h (x ∷ xs) e =
    filter-append (is_kid f p) (block h p.tree x) (blocks h p.tree xs)
    ∙ (ap (λ v. filter (is_kid f p) (block h p.tree x) ++ v) (own_filter f p m d l h xs e)
    ∙ by_go (is_id p.node (parent m.trees x))
    (λ q. let a : is_kid f p (place_at p.tree x) ≡ true = own_kid f p m d l x ∙ q in let b = e x in rw (q, a, b) refl)
    (λ q. let a : is_kid f p (place_at p.tree x) ≡ false = own_kid f p m d l x ∙ q in let b = e x in rw (q, a, b) refl))

formed_single : (m : Tree) (o : Option Tree) → o ≡ Some m → IfSome o IsWellFormed → IsSingle m.trees
formed_single m o e h = let w : IsWellFormed m = subst (λ p. IfSome p IsWellFormed) e h in w.one_root

hung_filter : (n : ℕ) (f : Forest) (p : Place) (c : ℕ) → Deep f p → hosted_by f p ≡ Some c → HungFormed f p → filter (is_kid f p) (hung_to n f p) ≡ option_to_list (hung_root n f p)
hung_filter zero f p c d h w = ap (λ o. filter (is_kid f p) (at_hung (shown_from 0 f) o)) h
hung_filter (suc n) f p c d h w =
    ap (λ o. filter (is_kid f p) (at_hung (shown_from (suc n) f) o)) h
    ∙ (go (live_tree f c) refl (subst (λ o. IfSome o (λ c. IfSome (live_tree f c) IsWellFormed)) h w) ∙ ap (λ o. option_to_list (option_and_then (root_at f) o)) (sym h))
  where
    go : (o : Option Tree) → live_tree f c ≡ o → IfSome (live_tree f c) IsWellFormed
        → filter (is_kid f p) (spread_of (hung_to n f) c o) ≡ option_to_list (option_and_then (λ (m : Tree). option_map (place_at c) (root_of m.trees)) o)
    go None e v = refl
    go (Some m) e v =
        let q : IsDistinct m.trees = formed_distinct m (live_tree f c) e v in
        ap (filter (is_kid f p)) (sym (ap (spread_of (hung_to n f) c) e) ∙ shown_blocks n f c m e q)
        ∙ hung_kids f p d n c (hung_host f p c h) m e (formed_single m (live_tree f c) e v) q

-- p's own tree
tree_filter : (n : ℕ) (f : Forest) (p : Place) (m : Tree) → Deep f p → live_tree f p.tree ≡ Some m → IsDistinct m.trees → has m.trees p.node ≡ true → HungFormed f p
    → filter (is_kid f p) (blocks (hung_to n f) p.tree (ids m.trees)) ≡ map (place_at p.tree) (children m.trees p.node) ++ option_to_list (hung_root n f p)
tree_filter n f p m d l w there v = go (hosted_by f p) refl
  where
    no_root : hosted_by f p ≡ None → hung_root n f p ≡ None
    no_root e = at n
      where
        at : (n : ℕ) → hung_root n f p ≡ None
        at zero = refl
        at (suc n) = ap (option_and_then (root_at f)) e

    alone : hosted_by f p ≡ None → (i : ℕ) → filter (is_kid f p) (hung_to n f (place_at p.tree i)) ≡ []
    alone e i = by_go (i == p.node)
        (λ q. let same : i ≡ p.node = eqb-true i p.node q in
        ap (λ z. filter (is_kid f p) (hung_to n f (place_at p.tree z))) same ∙ ap (λ o. filter (is_kid f p) (at_hung (shown_from n f) o)) e)
        (λ q. other_hung f p d n i q)

    around_it : (c : ℕ) → hosted_by f p ≡ Some c → children m.trees p.node ≡ [] → (i : ℕ) → contains (ids m.trees) i ≡ true → eqb i p.node ≡ false → filter (is_kid f p) (block (hung_to n f) p.tree i) ≡ []
    around_it c e none i b q =
        let a : is_kid f p (place_at p.tree i) ≡ false = own_kid f p m d l i ∙ childless none i b in
        rw a (other_hung f p d n i q)
      where
        childless : children m.trees p.node ≡ [] → (i : ℕ) → contains (ids m.trees) i ≡ true → is_id p.node (parent m.trees i) ≡ false
        childless none i b = by_go (is_id p.node (parent m.trees i)) (λ q. absurd (kept (ids m.trees) i b q (children_by m.trees p.node w ∙ none))) (λ q. q)
          where
            kept : (xs : List ℕ) (i : ℕ) → contains xs i ≡ true → is_id p.node (parent m.trees i) ≡ true → filter (λ j. is_id p.node (parent m.trees j)) xs ≡ [] → ⊥
            kept [] i b q e = false≢true b
            kept (x ∷ xs) i b q e = by_go (is_id p.node (parent m.trees x))
                (λ t. let z : x ∷ filter (λ j. is_id p.node (parent m.trees j)) xs ≡ [] = rw t at e in cc)
                (λ t. let other : eqb x i ≡ false = false_from_ne_true (eqb x i) (λ s. false≢true (sym t ∙ (ap (λ j. is_id p.node (parent m.trees j)) (eqb-true x i s) ∙ q))) in
                kept xs i (grind (arith, b, other)) q (rw t at e))

    go : (o : Option ℕ) → hosted_by f p ≡ o
        → filter (is_kid f p) (blocks (hung_to n f) p.tree (ids m.trees)) ≡ map (place_at p.tree) (children m.trees p.node) ++ option_to_list (hung_root n f p)
    go None e =
        own_filter f p m d l (hung_to n f) (ids m.trees) (alone e)
        ∙ (ap (map (place_at p.tree)) (children_by m.trees p.node w)
        ∙ (sym (append-nil (map (place_at p.tree) (children m.trees p.node))) ∙ ap (λ o. map (place_at p.tree) (children m.trees p.node) ++ option_to_list o) (sym (no_root e))))
    go (Some c) e =
        let host = host_is f c p (hung_host f p c e) in
        let same : ◌≡◌ {A = Option Tree} (Some host.over) (Some m) = sym host.over_live ∙ l in
        let over : host.over ≡ m = cc in
        let none : children m.trees p.node ≡ [] = ap (λ (v : Tree). children v.trees p.node) (sym over) ∙ (host_node f c p host (subst (λ (v : Tree). IsDistinct v.trees) (sym over) w)).lone in
        let inside : contains (ids m.trees) p.node ≡ true = contains-ids m.trees p.node ∙ there in
        let self : is_kid f p p ≡ false = own_kid f p m d l p.node ∙ not_own none in
        let xs = ahead (ids m.trees) p.node in
        let ys = past (ids m.trees) p.node in
        ap (λ zs. filter (is_kid f p) (blocks (hung_to n f) p.tree zs)) (split_at (ids m.trees) p.node inside)
        ∙ (ap (filter (is_kid f p)) (flat_map-append (block (hung_to n f) p.tree) xs (p.node ∷ ys))
        ∙ (filter-append (is_kid f p) (blocks (hung_to n f) p.tree xs) (block (hung_to n f) p.tree p.node ++ blocks (hung_to n f) p.tree ys)
        ∙ (ap (λ v. v ++ filter (is_kid f p) (block (hung_to n f) p.tree p.node ++ blocks (hung_to n f) p.tree ys))
        (filter_blocks (is_kid f p) (hung_to n f) p.tree xs (λ i b. around_it c e none i (ahead_in (ids m.trees) p.node i b) (ahead_other (ids m.trees) p.node i b)))
        ∙ (filter-append (is_kid f p) (block (hung_to n f) p.tree p.node) (blocks (hung_to n f) p.tree ys)
        ∙ (ap (λ v. filter (is_kid f p) (block (hung_to n f) p.tree p.node) ++ v)
        (filter_blocks (is_kid f p) (hung_to n f) p.tree ys (λ i b. around_it c e none i (past_in (ids m.trees) p.node i b) (past_other m.trees p.node i w there b)))
        ∙ (append-nil (filter (is_kid f p) (block (hung_to n f) p.tree p.node))
        ∙ ((rw self (hung_filter n f p c d e v)) ∙ ap (λ js. map (place_at p.tree) js ++ option_to_list (hung_root n f p)) (sym none))))))))
      where
        not_own : children m.trees p.node ≡ [] → is_id p.node (parent m.trees p.node) ≡ false
        not_own none = at (parent m.trees p.node) refl
          where
            at : (o : Option ℕ) → parent m.trees p.node ≡ o → is_id p.node o ≡ false
            at None h = refl
            at (Some y) h = false_from_ne_true (y == p.node) (λ q.
                let same : y ≡ p.node = eqb-true y p.node q in
                let root : has_root (below m.trees p.node) p.node ≡ true = child_of_parent m.trees p.node p.node w (h ∙ ap Some same) in
                false≢true (sym (not_below_self m.trees p.node w) ∙ root_in (below m.trees p.node) p.node root))

pub kids : (f : Forest) (p : Place) (m : Tree) (n : ℕ) → Some n ≡ levels_below 8 f p.tree → AreFormed 8 f p.tree → has_place (stitched f) p ≡ true → Some m ≡ live_tree f p.tree → HungFormed f p
    → children_of (stitched f) p ≡ map (place_at p.tree) (children m.trees p.node) ++ option_to_list (hung_root n f p)
kids f p m n e w h l v =
    let level = level_is 8 n f p.tree (sym e) in
    let stop : host_of f level.first ≡ None = first_hangs_nowhere f level.first level.is_first in
    let s = stands f p h in
    let both : ◌≡◌ {A = Option Tree} (Some s.tree) (Some m) = sym s.live ∙ sym l in
    let same : s.tree ≡ m = cc in
    let there : has m.trees p.node ≡ true = ap (λ (v : Tree). has v.trees p.node) (sym same) ∙ s.there in
    let q : IsDistinct m.trees = formed_distinct m (live_tree f p.tree) (sym l) w.0 in
    let formed : AreFormed (suc level.steps) f p.tree = formed_less (suc level.steps) 8 f p.tree (let a = level.sum in omega arith) w in
    let deep : Deep f p = record { steps = level.steps; first = level.first; stop = stop; climbs = level.climbs } in
    let front = ahead_of level.steps n f p.tree in
    let back = behind_of level.steps n f p.tree in
    kids_filter f level.first p m level.is_first (sym l) (all_formed level.steps f p.tree level.first stop level.climbs formed) v
    ∙ (ap (filter (is_kid f p)) (around level.steps n 8 f p.tree level.first level.climbs level.sum formed)
    ∙ (filter-append (is_kid f p) front (shown_from (suc n) f p.tree ++ back)
    ∙ (ap (λ v. v ++ filter (is_kid f p) (shown_from (suc n) f p.tree ++ back))
    (filter_none (is_kid f p) front (all_weaker (Avoids f p.tree) (λ q. is_kid f p q ≡ false) front (avoid_kid f p) (ahead_avoids level.steps n f p.tree level.first stop level.climbs)))
    ∙ (filter-append (is_kid f p) (shown_from (suc n) f p.tree) back
    ∙ (ap (λ v. filter (is_kid f p) (shown_from (suc n) f p.tree) ++ v)
    (filter_none (is_kid f p) back (all_weaker (Avoids f p.tree) (λ q. is_kid f p q ≡ false) back (avoid_kid f p) (behind_avoids level.steps n f p.tree level.first stop level.climbs formed)))
    ∙ (append-nil (filter (is_kid f p) (shown_from (suc n) f p.tree))
    ∙ (ap (filter (is_kid f p)) (shown_blocks n f p.tree m (sym l) q) ∙ tree_filter n f p m deep (sym l) q there v)))))))

-- what the walk asks
pub kids_told : (f : Forest) (p : Place) (m : Tree) (n : ℕ) (xs : List ℕ) (own : List Place) (root : Option Place) → Some n ≡ levels_below 8 f p.tree → AreFormed 8 f p.tree → has_place (stitched f) p ≡ true
    → Some m ≡ live_tree f p.tree → HungFormed f p → xs ≡ children m.trees p.node → own ≡ map (place_at p.tree) xs → root ≡ hung_root n f p → own ++ option_to_list root ≡ children_of (stitched f) p
kids_told f p m n xs own root e w h l v x o r =
    ap (λ a. a ++ option_to_list root) (o ∙ ap (map (place_at p.tree)) x)
    ∙ (ap (λ a. map (place_at p.tree) (children m.trees p.node) ++ option_to_list a) r ∙ sym (kids f p m n e w h l v))
