-- The bounds of the leaves of the joined list ascend, so that the first above an offset is the least, and the last below it the greatest.
use Rattle.std.proofs.Common.{ℕ, suc, ◌+◌, ◌≤◌, ◌<◌, ◌≡◌, Bool, List, [], ◌∷◌, ◌++◌, map, filter, flat_map, find, length, refl, sym, ap, ◌∙◌, subst, arith, length-append, Option, Some, None}
use Rattle.std.specs.Prelude.{nat_lt}
use Rattle.std.specs.List.{Contains}
use Rattle.std.proofs.lemmas.Bool.{ltb-true, ltb-false}
use Rattle.std.proofs.lemmas.List.Elements.{All-nil, All-cons}
use Rattle.std.proofs.lemmas.List.Folds.{flat_map-map}
use Rattle.ax_base.specs.declared.position.Unit as position
use Rattle.ax_trees.proofs.Trees.{by_go}
use Rattle.ax_tree.specs.Forest.{Forest, IsSound}
use Rattle.ax_rules.specs.Sequences.{last_of}
use Rattle.ax_rules.specs.Looks.{name_text}
use Rattle.ax_rules.specs.Stitched.{Placed, stitched, is_leaf, leaves}
use Rattle.ax_rules.specs.Texts.{capped, joined, document}
use Rattle.ax_rules.specs.Moves.{bounds_within, bounds_of, bound_after, bound_before}
use Rattle.ax_stitch.proofs.Places.{last_none}
use Rattle.ax_stitch.proofs.Lists.{last_of-after}
use Rattle.ax_place_laws.specs.Lists.{EachOf, NoPlaceTwice, NamesAreText, Ascends, TheLeastAbove, TheGreatestBelow}
use Rattle.ax_place_laws.proofs.Each.{each_append, each_weaker, all_of_each}
use Rattle.ax_place_laws.proofs.Starts.{Begun, begun_leaves, begun_at, list_once, starts}
use Rattle.ax_place_laws.proofs.Pieces.{bounds_ascend_within, bounds_are_within}

-- ---- the bounds of leaves, one after the other

-- those of a leaf that begins somewhere
abbrev pub leaf_bounds : position.Unit → Begun → List ℕ
leaf_bounds u m = map (λ b. capped (m.start + b)) (bounds_within u (name_text m.leaf.look))

pub bounds_are : (l : List Placed) (u : position.Unit) → NoPlaceTwice l → bounds_of l u ≡ flat_map (leaf_bounds u) (begun_leaves (is_leaf l) 0 l)
unfolding bounds_of leaves
bounds_are l u d = sym (ap (flat_map (leaf_bounds u)) (starts l d) ∙ flat_map-map (leaf_bounds u) (begun_at l) (filter (is_leaf l) l))

-- ---- they ascend, from n on and up to m

record Climb (n m : ℕ) (xs : List ℕ) : Type 0 where
  ascends : Ascends xs
  from : EachOf (λ b. n ≤ b) xs
  upto : EachOf (λ b. b ≤ m) xs

ascends_append : (k : ℕ) (xs ys : List ℕ) → Ascends xs → Ascends ys → EachOf (λ b. b ≤ k) xs → EachOf (λ b. k ≤ b) ys → Ascends (xs ++ ys)
ascends_append k [] ys a b h g = b
ascends_append k (x ∷ xs) ys a b h g =
    let x_is = h.0 in
    (each_append (λ y. x ≤ y) xs ys a.0 (each_weaker (λ y. k ≤ y) (λ y. x ≤ y) ys (λ y e. omega (arith, e, x_is)) g), ascends_append k xs ys a.1 b h.1 g)

climb_append : (n k m : ℕ) (xs ys : List ℕ) → n ≤ k → k ≤ m → Climb n k xs → Climb k m ys → Climb n m (xs ++ ys)
climb_append n k m xs ys h g a b = record {
  ascends = ascends_append k xs ys a.ascends b.ascends a.upto b.from;
  from = each_append (λ y. n ≤ y) xs ys a.from (each_weaker (λ y. k ≤ y) (λ y. n ≤ y) ys (λ y e. omega (arith, e, h)) b.from);
  upto = each_append (λ y. y ≤ m) xs ys (each_weaker (λ y. y ≤ k) (λ y. y ≤ m) xs (λ y e. omega (arith, e, g)) a.upto) b.upto;
}

each_mapped : (P Q : ℕ → Type 0) (f : ℕ → ℕ) (xs : List ℕ) → ((x : ℕ) → P x → Q (f x)) → EachOf P xs → EachOf Q (map f xs)
each_mapped P Q f [] h e = tt
each_mapped P Q f (x ∷ xs) h e = (h x e.0, each_mapped P Q f xs h e.1)

ascends_mapped : (n : ℕ) (ws : List ℕ) → Ascends ws → Ascends (map (λ b. capped (n + b)) ws)
ascends_mapped n [] a = tt
ascends_mapped n (w ∷ ws) a = (each_mapped (λ b. w ≤ b) (λ y. capped (n + w) ≤ y) (λ b. capped (n + b)) ws (λ b e. omega (arith, e)) a.0, ascends_mapped n ws a.1)

every : (P : ℕ → Type 0) (xs : List ℕ) → ((x : ℕ) → P x) → EachOf P xs
every P [] h = tt
every P (x ∷ xs) h = (h x, every P xs h)

climb_mapped : (n len : ℕ) (ws : List ℕ) → n ≤ 18446744073709551615 → Ascends ws → EachOf (λ b. b ≤ len) ws → Climb n (capped (n + len)) (map (λ b. capped (n + b)) ws)
climb_mapped n len ws h a e = record {
  ascends = ascends_mapped n ws a;
  from = each_mapped (λ b. b ≤ len) (λ y. n ≤ y) (λ b. capped (n + b)) ws (λ b g. omega (arith, h)) e;
  upto = each_mapped (λ b. b ≤ len) (λ y. y ≤ capped (n + len)) (λ b. capped (n + b)) ws (λ b g. omega (arith, g)) e;
}

climb_from : (leaf : Placed → Bool) (u : position.Unit) (n : ℕ) (b : List Placed) → n ≤ 18446744073709551615 → NamesAreText b
    → Climb n (capped (n + length (joined (filter leaf b)))) (flat_map (leaf_bounds u) (begun_leaves leaf n b))
unfolding joined
climb_from leaf u n [] h t = record { ascends = tt; from = tt; upto = tt }
climb_from leaf u n (x ∷ b) h t =
    let text = name_text x.look in
    let next = capped (n + length text) in
    by_go (leaf x)
    (λ q. let whole : length (joined (filter leaf (x ∷ b))) ≡ length text + length (joined (filter leaf b)) = rw q (length-append text (joined (filter leaf b))) in
    let top : capped (n + length (joined (filter leaf (x ∷ b)))) ≡ capped (next + length (joined (filter leaf b))) = omega (arith, whole) in
    let own = climb_mapped n (length text) (bounds_within u text) h (bounds_ascend_within u text) (bounds_are_within u text t.0) in
    let rest = climb_from leaf u next b (omega arith) t.1 in
    let all =
    climb_append n next (capped (next + length (joined (filter leaf b)))) (map (λ b. capped (n + b)) (bounds_within u text)) (flat_map (leaf_bounds u) (begun_leaves leaf next b)) (omega (arith, h)) (omega arith) own rest in
    subst (λ m. Climb n m (flat_map (leaf_bounds u) (begun_leaves leaf n (x ∷ b)))) (sym top) (rw q all))
    (λ q. rw q (climb_from leaf u n b h t.1))

climb_of : (f : Forest) (u : position.Unit) → IsSound f → NamesAreText (stitched f) → Climb 0 (capped (length (document (stitched f)))) (bounds_of (stitched f) u)
unfolding document leaves
climb_of f u s t =
    let l = stitched f in
    let top : capped (0 + length (joined (filter (is_leaf l) l))) ≡ capped (length (joined (filter (is_leaf l) l))) = omega arith in
    subst (λ m. Climb 0 m (bounds_of l u)) top
    (subst (λ v. Climb 0 (capped (0 + length (joined (filter (is_leaf l) l)))) v) (sym (bounds_are l u (list_once f s))) (climb_from (is_leaf l) u 0 l (omega arith) t))

pub bounds_climb : (f : Forest) (u : position.Unit) → IsSound f → NamesAreText (stitched f) → Ascends (bounds_of (stitched f) u)
bounds_climb f u s t = (climb_of f u s t).ascends

pub bounds_inside : (f : Forest) (u : position.Unit) → IsSound f → NamesAreText (stitched f) → EachOf (λ b. b ≤ capped (length (document (stitched f)))) (bounds_of (stitched f) u)
bounds_inside f u s t = (climb_of f u s t).upto

-- ---- in a list that ascends the first above is the least

here : (x : ℕ) (xs : List ℕ) → Contains (x ∷ xs) x
here x xs = (0, omega arith, refl)

further : (x b : ℕ) (xs : List ℕ) → Contains xs b → Contains (x ∷ xs) b
further x b xs h = (suc h.0, (let n = h.1 in omega (arith, n)), h.2)

not_above : (g x : ℕ) (xs : List ℕ) (o : Option ℕ) → x ≤ g → TheLeastAbove g xs o → TheLeastAbove g (x ∷ xs) o
not_above g x xs None h e = All-cons (λ c. c ≤ g) x xs h e
not_above g x xs (Some b) h e = record {
  listed = further x b xs e.listed;
  above = e.above;
  least = All-cons (λ c. g < c → b ≤ c) x xs (λ k. absurd (omega (arith, h, k))) e.least;
}

least_above : (g : ℕ) (xs : List ℕ) → Ascends xs → TheLeastAbove g xs (find (nat_lt g) xs)
least_above g [] a = All-nil (λ c. c ≤ g)
least_above g (x ∷ xs) a = by_go (nat_lt g x)
    (λ q. let found : find (nat_lt g) (x ∷ xs) ≡ Some x = rw q refl in
    subst (TheLeastAbove g (x ∷ xs)) (sym found)
    (record {
      listed = here x xs;
      above = ltb-true g x q;
      least = All-cons (λ c. g < c → x ≤ c) x xs (λ _. omega arith) (all_of_each (λ c. g < c → x ≤ c) xs (each_weaker (λ c. x ≤ c) (λ c. g < c → x ≤ c) xs (λ c e _. e) a.0));
    }))
    (λ q. let found : find (nat_lt g) (x ∷ xs) ≡ find (nat_lt g) xs = rw q refl in
    subst (TheLeastAbove g (x ∷ xs)) (sym found) (not_above g x xs (find (nat_lt g) xs) (ltb-false g x q) (least_above g xs a.1)))

pub first_is_least : (f : Forest) (u : position.Unit) (g : ℕ) → IsSound f → NamesAreText (stitched f) → TheLeastAbove g (bounds_of (stitched f) u) (bound_after (stitched f) u g)
unfolding bound_after
first_is_least f u g s t = least_above g (bounds_of (stitched f) u) (bounds_climb f u s t)

-- ---- and the last below is the greatest

abbrev below : ℕ → List ℕ → List ℕ
below g xs = filter (λ b. nat_lt b g) xs

not_below : (g x : ℕ) (xs : List ℕ) (o : Option ℕ) → g ≤ x → TheGreatestBelow g xs o → TheGreatestBelow g (x ∷ xs) o
not_below g x xs None h e = All-cons (λ c. g ≤ c) x xs h e
not_below g x xs (Some b) h e = record {
  listed = further x b xs e.listed;
  below = e.below;
  greatest = All-cons (λ c. c < g → c ≤ b) x xs (λ k. absurd (omega (arith, h, k))) e.greatest;
}

at_least : (x b : ℕ) (xs : List ℕ) → EachOf (λ c. x ≤ c) xs → Contains xs b → x ≤ b
at_least x b xs e h = let all = all_of_each (λ c. x ≤ c) xs e h.0 b h.1 in subst (λ c. x ≤ c) h.2 all

-- x is below g, and those behind it are at least x
one_below : (g x : ℕ) (xs : List ℕ) (o : Option ℕ) → x < g → EachOf (λ c. x ≤ c) xs → last_of (below g xs) ≡ o → TheGreatestBelow g xs o → TheGreatestBelow g (x ∷ xs) (last_of (x ∷ below g xs))
one_below g x xs None h a e k =
    let alone : last_of (x ∷ below g xs) ≡ Some x = ap (λ ys. last_of (x ∷ ys)) (last_none (below g xs) e) in
    subst (TheGreatestBelow g (x ∷ xs)) (sym alone)
    (record {
      listed = here x xs;
      below = h;
      greatest = All-cons (λ c. c < g → c ≤ x) x xs (λ _. omega arith) (λ i d l c. absurd (let above = k i d l in omega (arith, above, c)));
    })
one_below g x xs (Some b) h a e k =
    let later : last_of (x ∷ below g xs) ≡ Some b = last_of-after (x ∷ []) (below g xs) b e in
    subst (TheGreatestBelow g (x ∷ xs)) (sym later)
    (record {
      listed = further x b xs k.listed;
      below = k.below;
      greatest = All-cons (λ c. c < g → c ≤ b) x xs (λ _. at_least x b xs a k.listed) k.greatest;
    })

greatest_below : (g : ℕ) (xs : List ℕ) → Ascends xs → TheGreatestBelow g xs (last_of (below g xs))
greatest_below g [] a = All-nil (λ c. g ≤ c)
greatest_below g (x ∷ xs) a = by_go (nat_lt x g)
    (λ q. let found : last_of (below g (x ∷ xs)) ≡ last_of (x ∷ below g xs) = rw q refl in
    subst (TheGreatestBelow g (x ∷ xs)) (sym found) (one_below g x xs (last_of (below g xs)) (ltb-true x g q) a.0 refl (greatest_below g xs a.1)))
    (λ q. let found : last_of (below g (x ∷ xs)) ≡ last_of (below g xs) = rw q refl in
    subst (TheGreatestBelow g (x ∷ xs)) (sym found) (not_below g x xs (last_of (below g xs)) (ltb-false x g q) (greatest_below g xs a.1)))

pub last_is_greatest : (f : Forest) (u : position.Unit) (g : ℕ) → IsSound f → NamesAreText (stitched f) → TheGreatestBelow g (bounds_of (stitched f) u) (bound_before (stitched f) u g)
unfolding bound_before
last_is_greatest f u g s t = greatest_below g (bounds_of (stitched f) u) (bounds_climb f u s t)
