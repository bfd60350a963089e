-- The text of a place without the ignored nodes is that of its tree among the joined trees.
use Rattle.std.proofs.Common.{◌≡◌, Bool, true, false, ◌||◌, ◌&&◌, ℕ, filter, flat_map, List, [], ◌∷◌, ◌++◌, refl, sym, ap, ◌∙◌, append-nil}
use Rattle.std.specs.Prelude.{if◌then◌else◌}
use Rattle.std.specs.List.{list_any}
use Rattle.std.proofs.lemmas.List.Concat.{flat_map-append}
use Rattle.std.proofs.lemmas.List.Elements.{filter-append}
use Rattle.ax_base.specs.declared.position.Place.{Place}
use Rattle.ax_trees.specs.Trees.{Trees, bare, tree}
use Rattle.ax_trees.specs.Lists.{is_nil}
use Rattle.ax_trees.proofs.Trees.{by_go}
use Rattle.ax_tree.specs.Forest.{Forest, IsSound}
use Rattle.ax_rules.specs.Looks.{same_place, name_text}
use Rattle.ax_rules.specs.Stitched.{Placed, stitched, is_within}
use Rattle.ax_rules.specs.StitchedTree.{PlacedLook, stitched_tree, tree_places, tree_placed}
use Rattle.ax_rules.specs.Texts.{joined}
use Rattle.ax_rules.specs.Unignored.{is_unignored, unignored, is_shown_place, shown_children, is_shown_leaf, shown_text}
use Rattle.ax_rules.proofs.StitchedTreeLemmas.{stitched-tree}
use Rattle.ax_stitch.proofs.Places.{same_is, same_self}
use Rattle.ax_unignored.specs.Shows.{is_lit}
use Rattle.ax_unignored.specs.Tops.{tops, texts}
use Rattle.ax_unignored.proofs.Subs.{sub_at}
use Rattle.ax_unignored.proofs.Tops.{same_sym, entry, Agrees, agrees, inner_of, children_are}
use Rattle.ax_unignored.proofs.Unique.{among, Unique, among-append, Parts, parted, not_both, other_place, outside, unique_tree}

-- ---- shown leaves

-- the shown places of trees are leaves where nothing shown is below
abbrev LeavesAre : (Place → Bool) → Trees PlacedLook → Type 0
LeavesAre leaf bare = Unit {0}
LeavesAre leaf (tree i x a b) = (is_lit x.look ≡ true → leaf x.place ≡ is_nil (tops a)) × LeavesAre leaf a × LeavesAre leaf b

leaves_are : (sh leaf : Place → Bool) (t : Trees PlacedLook) → Agrees sh t → Unique (tree_places t) → ((p : Place) → among p (tree_places t) ≡ true → sh p ≡ true → leaf p ≡ is_nil (tops (inner_of (sub_at p t)))) → LeavesAre leaf t
leaves_are sh leaf bare g u h = tt
leaves_are sh leaf (tree i x a b) g u h = (
  λ v. let s = same_self x.place in h x.place (rw s refl) (g.0 ∙ v) ∙ (rw s refl),
  leaves_are sh leaf a g.1 k.inner (λ p e v. let n = other_place x.place p (tree_places a) k.not_inner e in h p (inner p e) v ∙ (rw (n, e) refl)),
  leaves_are sh leaf b g.2 k.later (λ p e v. let n = other_place x.place p (tree_places b) k.not_later e in let m = not_both x.place p (tree_places a) (tree_places b) k e in h p (later p e) v ∙ (rw (n, m) refl)),
)
  where
    k : Parts x.place (tree_places a) (tree_places b)
    k = parted x.place (tree_places a) (tree_places b) u

    inner : (p : Place) → among p (tree_places a) ≡ true → among p (tree_places (tree i x a b)) ≡ true
    inner p e =
        let m : among p (tree_places a ++ tree_places b) ≡ true = among-append p (tree_places a) (tree_places b) ∙ (rw e refl) in
        by_go (same_place x.place p) (λ q. rw q refl) (λ q. rw q m)

    later : (p : Place) → among p (tree_places b) ≡ true → among p (tree_places (tree i x a b)) ≡ true
    later p e =
        let m : among p (tree_places a ++ tree_places b) ≡ true = among-append p (tree_places a) (tree_places b) ∙ by_go (among p (tree_places a)) (λ q. rw q refl) (λ q. rw (q, e) refl) in
        by_go (same_place x.place p) (λ q. rw q refl) (λ q. rw q m)

-- ---- texts of entries

abbrev in_place : Place → Placed → Bool
in_place p s = same_place p s.place || list_any (same_place p) s.above

-- the texts of the shown leaves at p and below it
abbrev text_among : (Place → Bool) → Place → List Placed → List ℕ
text_among leaf p l = flat_map (λ (s : Placed). name_text s.look) (filter (in_place p) (filter (λ (s : Placed). leaf s.place) (filter (λ (s : Placed). is_lit s.look) l)))

text_append : (leaf : Place → Bool) (p : Place) (a b : List Placed) → text_among leaf p (a ++ b) ≡ text_among leaf p a ++ text_among leaf p b
text_append leaf p a b =
    ap (λ l. flat_map (λ (s : Placed). name_text s.look) (filter (in_place p) (filter (λ (s : Placed). leaf s.place) l))) (filter-append (λ (s : Placed). is_lit s.look) a b)
    ∙ (ap (λ l. flat_map (λ (s : Placed). name_text s.look) (filter (in_place p) l)) (filter-append (λ (s : Placed). leaf s.place) (filter (λ (s : Placed). is_lit s.look) a) (filter (λ (s : Placed). is_lit s.look) b))
    ∙ (ap (flat_map (λ (s : Placed). name_text s.look)) (filter-append (in_place p) (filter (λ (s : Placed). leaf s.place) (filter (λ (s : Placed). is_lit s.look) a)) (filter (λ (s : Placed). leaf s.place) (filter (λ (s : Placed). is_lit s.look) b)))
    ∙ flat_map-append (λ (s : Placed). name_text s.look) (filter (in_place p) (filter (λ (s : Placed). leaf s.place) (filter (λ (s : Placed). is_lit s.look) a))) (filter (in_place p) (filter (λ (s : Placed). leaf s.place) (filter (λ (s : Placed). is_lit s.look) b)))))

text_head : (leaf : Place → Bool) (p : Place) (s : Placed) (l : List Placed) → text_among leaf p (s ∷ l) ≡ (if is_lit s.look && (leaf s.place && in_place p s) then name_text s.look else []) ++ text_among leaf p l
text_head leaf p s l = by_go (is_lit s.look)
    (λ a. by_go (leaf s.place) (λ b. by_go (in_place p s) (λ c. rw (a, b, c) refl) (λ c. rw (a, b, c) refl)) (λ b. rw (a, b) refl))
    (λ a. rw a refl)

-- the same of trees; w: they stand within p
abbrev text_in : Place → Bool → Trees PlacedLook → List ℕ
text_in p w bare = []
text_in p w (tree i x a b) =
    (if is_lit x.look && (is_nil (tops a) && (same_place p x.place || w)) then name_text x.look else []) ++ (text_in p (same_place p x.place || w) a ++ text_in p w b)

text_from : (leaf : Place → Bool) (p : Place) (above : List Place) (t : Trees PlacedLook) → LeavesAre leaf t → text_among leaf p (tree_placed above t) ≡ text_in p (list_any (same_place p) above) t
text_from leaf p above bare h = refl
text_from leaf p above (tree i x a b) h =
    let inner = text_from leaf p (x.place ∷ above) a h.1 in
    let later = text_from leaf p above b h.2 in
    text_head leaf p (entry above x) (tree_placed (x.place ∷ above) a ++ tree_placed above b)
    ∙ (ap (λ l. (if is_lit x.look && (leaf x.place && in_place p (entry above x)) then name_text x.look else []) ++ l) (text_append leaf p (tree_placed (x.place ∷ above) a) (tree_placed above b) ∙ (rw (inner, later) refl))
    ∙ ap (λ l. l ++ (text_in p (same_place p x.place || list_any (same_place p) above) a ++ text_in p (list_any (same_place p) above) b)) (by_go (is_lit x.look)
    (λ q. ap (λ c. if is_lit x.look && (c && in_place p (entry above x)) then name_text x.look else []) (h.0 q)) (λ q. rw q refl)))

never : (a b : Bool) → (a && (b && false)) ≡ false
never true true = refl
never true false = refl
never false b = refl

text_out : (p : Place) (t : Trees PlacedLook) → among p (tree_places t) ≡ false → text_in p false t ≡ []
text_out p bare n = refl
text_out p (tree i x a b) n =
    let o = outside p x.place (tree_places a) (tree_places b) n in
    let m : same_place p x.place ≡ false = same_sym p x.place ∙ o.here in
    let inner = text_out p a o.inner in
    let later = text_out p b o.later in
    let c = never (is_lit x.look) (is_nil (tops a)) in
    rw m (rw (c, inner, later) refl)

and_true : (b : Bool) → (b && true) ≡ b
and_true true = refl
and_true false = refl

or_true : (b : Bool) → (b || true) ≡ true
or_true true = refl
or_true false = refl

text_within : (p : Place) (t : Trees PlacedLook) → text_in p true t ≡ texts t
text_within p bare = refl
text_within p (tree i x a b) =
    let inner = text_within p a in
    let later = text_within p b in
    ap (λ c. (if is_lit x.look && (is_nil (tops a) && c) then name_text x.look else []) ++ (text_in p c a ++ text_in p true b)) (or_true (same_place p x.place))
    ∙ (ap (λ c. (if is_lit x.look && c then name_text x.look else []) ++ (text_in p true a ++ text_in p true b)) (and_true (is_nil (tops a))) ∙ (rw (inner, later) refl))

text_at : (p : Place) (t : Trees PlacedLook) → Unique (tree_places t) → text_in p false t ≡ texts (sub_at p t)
text_at p bare u = refl
text_at p (tree i x a b) u = by_go (same_place x.place p)
    (λ q. let same = same_is x.place p q in
    let m : same_place p x.place ≡ true = same_sym p x.place ∙ q in
    let inner = text_within p a in
    let later = text_out p b (ap (λ r. among r (tree_places b)) (sym same) ∙ k.not_later) in
    let c = and_true (is_nil (tops a)) in
    rw (q, m) (rw (c, inner, later) refl))
    (λ q. let m : same_place p x.place ≡ false = same_sym p x.place ∙ q in
    let c = never (is_lit x.look) (is_nil (tops a)) in
    by_go (among p (tree_places a))
    (λ r. let inner = text_at p a k.inner in let later = text_out p b (k.apart p r) in rw (q, r, m) (rw (c, inner, later) (append-nil (texts (sub_at p a)))))
    (λ r. let inner = text_out p a r in let later = text_at p b k.later in rw (q, r, m) (rw (c, inner, later) refl)))
  where
    k : Parts x.place (tree_places a) (tree_places b)
    k = parted x.place (tree_places a) (tree_places b) u

pub text_is : (f : Forest) (p : Place) → IsSound f → shown_text (stitched f) p ≡ texts (sub_at p (stitched_tree f))
unfolding shown_text joined is_within is_shown_leaf unignored is_unignored
text_is f p s =
    let leaf : Place → Bool = λ q. is_nil (shown_children (stitched f) q) in
    ap (text_among leaf p) (stitched-tree f)
    ∙ (text_from leaf p [] (stitched_tree f)
    (leaves_are (is_shown_place (stitched f)) leaf (stitched_tree f) (agrees f s) (unique_tree f s) (λ q e v. ap is_nil (children_are f q s v)))
    ∙ text_at p (stitched_tree f) (unique_tree f s))
