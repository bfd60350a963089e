-- The joined list as the pre-order of one tree in which no place stands twice: the children of a place, and which places are leaves.
use Rattle.std.proofs.Common.{◌≡◌, Bool, true, false, ◌||◌, if◌then◌else◌, List, [], ◌∷◌, ◌++◌, filter, refl, sym, ap, ◌∙◌, arith, append-nil}
use Rattle.std.specs.List.{list_any}
use Rattle.std.proofs.lemmas.List.{map-append}
use Rattle.std.proofs.lemmas.List.Elements.{filter-append}
use Rattle.std.proofs.lemmas.Bool.{false≢true, false_from_ne_true}
use Rattle.ax_base.specs.declared.position.Place.{Place}
use Rattle.ax_trees.specs.Trees.{Trees, bare, tree, is_bare}
use Rattle.ax_trees.specs.Lists.{is_nil}
use Rattle.ax_trees.proofs.Trees.{by_go}
use Rattle.ax_rules.specs.Sequences.{front_of}
use Rattle.ax_rules.specs.Looks.{same_place}
use Rattle.ax_rules.specs.Stitched.{Placed, places, is_child, children_of}
use Rattle.ax_rules.specs.StitchedTree.{PlacedLook, tree_placed}
use Rattle.ax_stitch.proofs.Places.{same_is, same_self}

-- p is one of the places
abbrev pub is_in : Place → Trees PlacedLook → Bool
is_in p bare = false
is_in p (tree i x k r) = same_place p x.place || (is_in p k || is_in p r)

-- no place of one is one of the other
pub record AreApart (a b : Trees PlacedLook) : Type 0 where
  pub apart : (p : Place) → is_in p a ≡ true → is_in p b ≡ false

-- no place stands twice
abbrev pub IsOnce : Trees PlacedLook → Type 0
IsOnce bare = Unit {0}
IsOnce (tree i x k r) = (is_in x.place k ≡ false) × (is_in x.place r ≡ false) × AreApart k r × IsOnce k × IsOnce r

abbrev pub root_places : Trees PlacedLook → List Place
root_places bare = []
root_places (tree i x k r) = x.place ∷ root_places r

abbrev pub entry : List Place → PlacedLook → Placed
entry above x = record { place = x.place; above = above; look = x.look }

-- ---- children

-- those whose parent is p
abbrev pub kids_among : Place → List Placed → List Place
kids_among p l = places (filter (is_child p) l)

kids_append : (p : Place) (a b : List Placed) → kids_among p (a ++ b) ≡ kids_among p a ++ kids_among p b
kids_append p a b = ap places (filter-append (is_child p) a b) ∙ map-append (λ (s : Placed). s.place) (filter (is_child p) a) (filter (is_child p) b)

abbrev pub is_over : Place → List Place → Bool
is_over p above = list_any (same_place p) (front_of above)

no_kids : (p : Place) (above : List Place) (t : Trees PlacedLook) → is_over p above ≡ false → is_in p t ≡ false → kids_among p (tree_placed above t) ≡ []
no_kids p above bare h n = refl
no_kids p above (tree i x k r) h n =
    let a : same_place p x.place ≡ false = false_from_ne_true (same_place p x.place) (λ q. grind (arith, q, n)) in
    let b : is_in p k ≡ false = false_from_ne_true (is_in p k) (λ q. grind (arith, q, n)) in
    let c : is_in p r ≡ false = false_from_ne_true (is_in p r) (λ q. grind (arith, q, n)) in
    let inner = no_kids p (x.place ∷ above) k (rw a refl) b in
    let later = no_kids p above r h c in
    rw h (kids_append p (tree_placed (x.place ∷ above) k) (tree_placed above r) ∙ (rw (inner, later) refl))

own_kids : (p : Place) (above : List Place) (t : Trees PlacedLook) → is_over p above ≡ true → is_in p t ≡ false → kids_among p (tree_placed above t) ≡ root_places t
own_kids p above bare h n = refl
own_kids p above (tree i x k r) h n =
    let a : same_place p x.place ≡ false = false_from_ne_true (same_place p x.place) (λ q. grind (arith, q, n)) in
    let b : is_in p k ≡ false = false_from_ne_true (is_in p k) (λ q. grind (arith, q, n)) in
    let c : is_in p r ≡ false = false_from_ne_true (is_in p r) (λ q. grind (arith, q, n)) in
    let inner = no_kids p (x.place ∷ above) k (rw a refl) b in
    let later = own_kids p above r h c in
    rw h (ap (λ l. x.place ∷ l) (kids_append p (tree_placed (x.place ∷ above) k) (tree_placed above r) ∙ (rw (inner, later) refl)))

-- the children of p
abbrev pub kids_at : Place → Trees PlacedLook → List Place
kids_at p bare = []
kids_at p (tree i x k r) = if same_place p x.place then root_places k else (kids_at p k ++ kids_at p r)

pub kids_are : (p : Place) (above : List Place) (t : Trees PlacedLook) → IsOnce t → is_over p above ≡ false → kids_among p (tree_placed above t) ≡ kids_at p t
kids_are p above bare d h = refl
kids_are p above (tree i x k r) d h = by_go (same_place p x.place)
    (λ q. let same = same_is p x.place q in
    let b : is_in p k ≡ false = ap (λ v. is_in v k) same ∙ d.0 in
    let c : is_in p r ≡ false = ap (λ v. is_in v r) same ∙ d.1 in
    let inner = own_kids p (x.place ∷ above) k (rw q refl) b in
    let later = no_kids p above r h c in
    rw (h, q) (kids_append p (tree_placed (x.place ∷ above) k) (tree_placed above r) ∙ ((rw (inner, later) (append-nil (root_places k))))))
    (λ q. let inner = kids_are p (x.place ∷ above) k d.3 (rw q refl) in
    let later = kids_are p above r d.4 h in
    rw (h, q) (kids_append p (tree_placed (x.place ∷ above) k) (tree_placed above r) ∙ (rw (inner, later) refl)))

pub kids_none : (p : Place) (t : Trees PlacedLook) → is_in p t ≡ false → kids_at p t ≡ []
kids_none p bare n = refl
kids_none p (tree i x k r) n =
    let a : same_place p x.place ≡ false = false_from_ne_true (same_place p x.place) (λ q. grind (arith, q, n)) in
    let b : is_in p k ≡ false = false_from_ne_true (is_in p k) (λ q. grind (arith, q, n)) in
    let c : is_in p r ≡ false = false_from_ne_true (is_in p r) (λ q. grind (arith, q, n)) in
    let inner = kids_none p k b in
    let later = kids_none p r c in
    rw (a, inner, later) refl

-- ---- leaves

-- the leaves of l among a tree's places are those without trees below
abbrev pub LeavesAre : List Placed → Trees PlacedLook → Type 0
LeavesAre l bare = Unit {0}
LeavesAre l (tree i x k r) = (is_nil (children_of l x.place) ≡ is_bare k) × LeavesAre l k × LeavesAre l r

nil_roots : (k : Trees PlacedLook) → is_nil (root_places k) ≡ is_bare k
nil_roots bare = refl
nil_roots (tree i x a b) = refl

pub leaves_are : (l : List Placed) (t : Trees PlacedLook) → IsOnce t → ((p : Place) → is_in p t ≡ true → children_of l p ≡ kids_at p t) → LeavesAre l t
leaves_are l bare d h = tt
leaves_are l (tree i x k r) d h = (
  (let self = same_self x.place in ap is_nil (h x.place (grind (arith, self)) ∙ (rw self refl)) ∙ nil_roots k),
  leaves_are l k d.3 (λ p g. h p (grind (arith, g)) ∙ (let a : same_place p x.place ≡ false = other p k d.0 g in let b = kids_none p r (d.2.apart p g) in rw (a, b) (append-nil (kids_at p k)))),
  leaves_are l r d.4 (λ p g. h p (grind (arith, g)) ∙ (let a : same_place p x.place ≡ false = other p r d.1 g in let b = kids_none p k (absent p g) in rw (a, b) refl)),
)
  where
    other : (p : Place) (u : Trees PlacedLook) → is_in x.place u ≡ false → is_in p u ≡ true → same_place p x.place ≡ false
    other p u n g = false_from_ne_true (same_place p x.place) (λ q. false≢true (sym n ∙ (ap (λ v. is_in v u) (sym (same_is p x.place q)) ∙ g)))

    absent : (p : Place) → is_in p r ≡ true → is_in p k ≡ false
    absent p g = false_from_ne_true (is_in p k) (λ q. false≢true (sym (d.2.apart p q) ∙ g))
