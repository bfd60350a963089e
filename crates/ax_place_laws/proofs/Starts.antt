-- Where each leaf starts: the texts of the leaves before it.
use Rattle.std.proofs.Common.{ℕ, ◌+◌, ◌≡◌, Bool, true, false, List, [], ◌∷◌, ◌++◌, map, filter, length, refl, sym, ap, ◌∙◌, subst, arith, append_assoc, append-nil, length-append}
use Rattle.std.specs.Prelude.{if◌then◌else◌}
use Rattle.std.proofs.lemmas.Bool.{false≢true, false_from_ne_true}
use Rattle.std.proofs.lemmas.List.Elements.{filter-append}
use Rattle.std.proofs.lemmas.List.Concat.{flat_map-append}
use Rattle.ax_base.specs.declared.position.Place.{Place}
use Rattle.ax_trees.specs.Trees.{Trees, bare, tree}
use Rattle.ax_trees.proofs.Trees.{by_go}
use Rattle.ax_tree.specs.Forest.{Forest, IsSound}
use Rattle.ax_rules.specs.Looks.{same_place, name_text}
use Rattle.ax_rules.specs.Stitched.{Placed, stitched, before, is_leaf}
use Rattle.ax_rules.specs.StitchedTree.{PlacedLook, tree_placed, stitched_tree}
use Rattle.ax_rules.specs.Texts.{capped, joined, start_of}
use Rattle.ax_rules.proofs.StitchedTreeLemmas.{stitched-tree}
use Rattle.ax_stitch.proofs.Places.{same_is, same_self}
use Rattle.ax_place_laws.specs.Lists.{EachOf, NoPlaceTwice}
use Rattle.ax_place_laws.proofs.Each.{each_append, each_weaker}
use Rattle.ax_place_laws.proofs.Joined.{is_in, IsOnce}
use Rattle.ax_place_laws.proofs.Once.{once}

each_in : (above : List Place) (t : Trees PlacedLook) → EachOf (λ (s : Placed). is_in s.place t ≡ true) (tree_placed above t)
each_in above bare = tt
each_in above (tree i x k r) =
    let self = same_self x.place in (
      grind (arith, self),
      each_append (λ (s : Placed). is_in s.place (tree i x k r) ≡ true) (tree_placed (x.place ∷ above) k) (tree_placed above r)
          (each_weaker (λ (s : Placed). is_in s.place k ≡ true) (λ (s : Placed). is_in s.place (tree i x k r) ≡ true) (tree_placed (x.place ∷ above) k) (λ s h. grind (arith, h)) (each_in (x.place ∷ above) k))
          (each_weaker (λ (s : Placed). is_in s.place r ≡ true) (λ (s : Placed). is_in s.place (tree i x k r) ≡ true) (tree_placed above r) (λ s h. grind (arith, h)) (each_in above r)),
    )

apart_from : (p : Place) (above : List Place) (t : Trees PlacedLook) → is_in p t ≡ false → EachOf (λ (s : Placed). same_place p s.place ≡ false) (tree_placed above t)
apart_from p above t n =
    each_weaker (λ (s : Placed). is_in s.place t ≡ true) (λ (s : Placed). same_place p s.place ≡ false) (tree_placed above t)
    (λ s h. false_from_ne_true (same_place p s.place) (λ q. false≢true (sym n ∙ (ap (λ v. is_in v t) (same_is p s.place q) ∙ h)))) (each_in above t)

none_twice_append : (a b : List Placed) → NoPlaceTwice a → NoPlaceTwice b → EachOf (λ (x : Placed). EachOf (λ (s : Placed). same_place x.place s.place ≡ false) b) a → NoPlaceTwice (a ++ b)
none_twice_append [] b d e h = e
none_twice_append (x ∷ a) b d e h = (each_append (λ (s : Placed). same_place x.place s.place ≡ false) a b d.0 h.0, none_twice_append a b d.1 e h.1)

pub none_twice : (above : List Place) (t : Trees PlacedLook) → IsOnce t → NoPlaceTwice (tree_placed above t)
none_twice above bare d = tt
none_twice above (tree i x k r) d = (
  each_append (λ (s : Placed). same_place x.place s.place ≡ false) (tree_placed (x.place ∷ above) k) (tree_placed above r) (apart_from x.place (x.place ∷ above) k d.0) (apart_from x.place above r d.1),
  none_twice_append (tree_placed (x.place ∷ above) k) (tree_placed above r) (none_twice (x.place ∷ above) k d.3) (none_twice above r d.4)
      (each_weaker (λ (s : Placed). is_in s.place k ≡ true) (λ (y : Placed). EachOf (λ (s : Placed). same_place y.place s.place ≡ false) (tree_placed above r)) (tree_placed (x.place ∷ above) k)
      (λ s h. apart_from s.place above r (d.2.apart s.place h)) (each_in (x.place ∷ above) k)),
)

pub list_once : (f : Forest) → IsSound f → NoPlaceTwice (stitched f)
list_once f h = subst NoPlaceTwice (sym (stitched-tree f)) (none_twice [] (stitched_tree f) (once f h))

-- ---- before an element

pub before_clear : (a : List Placed) (x : Placed) (b : List Placed) → NoPlaceTwice (a ++ x ∷ b) → before (a ++ x ∷ b) x.place ≡ a
unfolding before
before_clear [] x b d = let self = same_self x.place in rw self refl
before_clear (y ∷ a) x b d =
    let n : same_place y.place x.place ≡ false = at a d.0 in
    rw n (ap (λ l. y ∷ l) (before_clear a x b d.1))
  where
    at : (a : List Placed) → EachOf (λ (s : Placed). same_place y.place s.place ≡ false) (a ++ x ∷ b) → same_place y.place x.place ≡ false
    at [] h = h.0
    at (z ∷ a) h = at a h.1

-- ---- starts

pub record Begun : Type 0 where
  pub leaf : Placed
  pub start : ℕ

-- the leaves with their starts, where the first begins at n
abbrev pub begun_leaves : (Placed → Bool) → ℕ → List Placed → List Begun
begun_leaves leaf n [] = []
begun_leaves leaf n (x ∷ l) = if leaf x then record { leaf = x; start = n } ∷ begun_leaves leaf (capped (n + length (name_text x.look))) l else begun_leaves leaf n l

abbrev pub begun_at : List Placed → Placed → Begun
begun_at l s = record { leaf = s; start = start_of l s.place }

sum_more : (leaf : Placed → Bool) (a : List Placed) (x : Placed) → leaf x ≡ true → capped (capped (length (joined (filter leaf a))) + length (name_text x.look)) ≡ capped (length (joined (filter leaf (a ++ x ∷ []))))
unfolding joined
sum_more leaf a x h =
    let one : filter leaf (x ∷ []) ≡ x ∷ [] = rw h refl in
    let e : joined (filter leaf (a ++ x ∷ [])) ≡ joined (filter leaf a) ++ name_text x.look =
    ap joined (filter-append leaf a (x ∷ []) ∙ ap (λ l. filter leaf a ++ l) one) ∙ (flat_map-append (λ (s : Placed). name_text s.look) (filter leaf a) (x ∷ []) ∙ ap (λ l. joined (filter leaf a) ++ l) (append-nil (name_text x.look))) in
    let n = ap (λ (v : List ℕ). length v) e in
    let m = length-append (joined (filter leaf a)) (name_text x.look) in
    omega (arith, n, m)

sum_same : (leaf : Placed → Bool) (a : List Placed) (x : Placed) → leaf x ≡ false → capped (length (joined (filter leaf a))) ≡ capped (length (joined (filter leaf (a ++ x ∷ []))))
sum_same leaf a x h = ap (λ l. capped (length (joined l))) (sym (filter-append leaf a (x ∷ []) ∙ ((rw h (append-nil (filter leaf a))))))

-- of a part b of the list, between a and c
pub starts_between : (l a b c : List Placed) → l ≡ a ++ (b ++ c) → NoPlaceTwice l
    → begun_leaves (is_leaf l) (capped (length (joined (filter (is_leaf l) a)))) b ≡ map (begun_at l) (filter (is_leaf l) b)
unfolding start_of
starts_between l a [] c e d = refl
starts_between l a (x ∷ b) c e d =
    let here : before l x.place ≡ a = ap (λ v. before v x.place) e ∙ before_clear a x (b ++ c) (subst NoPlaceTwice e d) in
    let next = starts_between l (a ++ x ∷ []) b c (e ∙ sym (append_assoc a (x ∷ []) (b ++ c))) d in
    by_go (is_leaf l x)
    (λ q. let m = sum_more (is_leaf l) a x q in
    rw q (ap (λ n. record { leaf = x; start = n } ∷ begun_leaves (is_leaf l) (capped (capped (length (joined (filter (is_leaf l) a))) + length (name_text x.look))) b) (ap (λ v. capped (length (joined (filter (is_leaf l) v)))) (sym here))
    ∙ ap (λ v. begun_at l x ∷ v) (ap (λ n. begun_leaves (is_leaf l) n b) m ∙ next)))
    (λ q. let m = sum_same (is_leaf l) a x q in rw q (ap (λ n. begun_leaves (is_leaf l) n b) m ∙ next))

pub starts : (l : List Placed) → NoPlaceTwice l → begun_leaves (is_leaf l) 0 l ≡ map (begun_at l) (filter (is_leaf l) l)
unfolding joined
starts l d = starts_between l [] l [] (sym (append-nil l)) d
