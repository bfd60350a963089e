-- The shown children of a place are the nearest shown places below it in the joined trees.
use Rattle.std.proofs.Common.{◌≡◌, Bool, true, false, find, filter, List, [], ◌∷◌, ◌++◌, refl, sym, ap, ◌∙◌, subst, arith, append-nil, option_to_list}
use Rattle.std.specs.List.{list_any}
use Rattle.std.proofs.lemmas.List.{map-append}
use Rattle.std.proofs.lemmas.List.Elements.{filter-append}
use Rattle.std.proofs.lemmas.Bool.Decides.{eqb_tells}
use Rattle.ax_base.specs.declared.position.Place.{Place}
use Rattle.ax_trees.specs.Trees.{Trees, bare, tree}
use Rattle.ax_trees.proofs.Trees.{by_go}
use Rattle.ax_tree.specs.Forest.{Forest, IsSound}
use Rattle.ax_rules.specs.Looks.{same_place}
use Rattle.ax_rules.specs.Stitched.{Placed, places, stitched, stands_at, has_place}
use Rattle.ax_rules.specs.StitchedTree.{PlacedLook, stitched_tree, tree_places, tree_placed}
use Rattle.ax_rules.specs.Unignored.{is_unignored, unignored, is_shown_place, shown_parent, shown_children}
use Rattle.ax_rules.proofs.StitchedTreeLemmas.{stitched-tree}
use Rattle.ax_stitch.proofs.Hosts.{AllOf}
use Rattle.ax_stitch.proofs.Places.{same_is, same_self}
use Rattle.ax_unignored.specs.Shows.{is_lit, shows}
use Rattle.ax_unignored.specs.Tops.{tops}
use Rattle.ax_unignored.proofs.Lit.{lit_placed, shown_is}
use Rattle.ax_unignored.proofs.Subs.{sub_at}
use Rattle.ax_unignored.proofs.Unique.{among, Unique, Parts, parted, outside, unique_tree}

pub same_sym : (p q : Place) → same_place p q ≡ same_place q p
same_sym p q = grind (arith, eqb_tells p.tree q.tree, eqb_tells q.tree p.tree, eqb_tells p.node q.node, eqb_tells q.node p.node)

abbrev pub entry : List Place → PlacedLook → Placed
entry above x = record { place = x.place; above = above; look = x.look }

-- the nearest shown place above is p; sh: which places are shown
abbrev pub is_over : (Place → Bool) → Place → List Place → Bool
is_over sh p above = list_any (same_place p) (option_to_list (find sh above))

-- the shown places whose nearest shown place above is p
abbrev pub kids_among : (Place → Bool) → Place → List Placed → List Place
kids_among sh p l = places (filter (λ (s : Placed). is_over sh p s.above) (filter (λ (s : Placed). is_lit s.look) l))

kids_append : (sh : Place → Bool) (p : Place) (a b : List Placed) → kids_among sh p (a ++ b) ≡ kids_among sh p a ++ kids_among sh p b
kids_append sh p a b =
    ap (λ l. places (filter (λ (s : Placed). is_over sh p s.above) l)) (filter-append (λ (s : Placed). is_lit s.look) a b)
    ∙ (ap places (filter-append (λ (s : Placed). is_over sh p s.above) (filter (λ (s : Placed). is_lit s.look) a) (filter (λ (s : Placed). is_lit s.look) b))
    ∙ map-append (λ (s : Placed). s.place) (filter (λ (s : Placed). is_over sh p s.above) (filter (λ (s : Placed). is_lit s.look) a)) (filter (λ (s : Placed). is_over sh p s.above) (filter (λ (s : Placed). is_lit s.look) b)))

-- one entry before others
kids_skip : (sh : Place → Bool) (p : Place) (s : Placed) (l : List Placed) → is_over sh p s.above ≡ false → kids_among sh p (s ∷ l) ≡ kids_among sh p l
kids_skip sh p s l h = by_go (is_lit s.look) (λ q. rw (q, h) refl) (λ q. rw q refl)

kids_dark : (sh : Place → Bool) (p : Place) (s : Placed) (l : List Placed) → is_lit s.look ≡ false → kids_among sh p (s ∷ l) ≡ kids_among sh p l
kids_dark sh p s l h = rw h refl

kids_take : (sh : Place → Bool) (p : Place) (s : Placed) (l : List Placed) → is_lit s.look ≡ true → is_over sh p s.above ≡ true → kids_among sh p (s ∷ l) ≡ s.place ∷ kids_among sh p l
kids_take sh p s l h k = rw (h, k) refl

-- the places of trees are shown where their looks are
abbrev pub Agrees : (Place → Bool) → Trees PlacedLook → Type 0
Agrees sh bare = Unit {0}
Agrees sh (tree i x a b) = (sh x.place ≡ is_lit x.look) × Agrees sh a × Agrees sh b

over_other : (sh : Place → Bool) (p q : Place) (above : List Place) → same_place q p ≡ false → is_over sh p above ≡ false → is_over sh p (q ∷ above) ≡ false
over_other sh p q above n h = let m : same_place p q ≡ false = same_sym p q ∙ n in by_go (sh q) (λ b. rw (b, m) refl) (λ b. rw b h)

over_shown : (sh : Place → Bool) (p q : Place) (above : List Place) → sh q ≡ true → same_place q p ≡ false → is_over sh p (q ∷ above) ≡ false
over_shown sh p q above b n = let m : same_place p q ≡ false = same_sym p q ∙ n in rw (b, m) refl

over_dark : (sh : Place → Bool) (p q : Place) (above : List Place) → sh q ≡ false → is_over sh p (q ∷ above) ≡ is_over sh p above
over_dark sh p q above b = rw b refl

over_self : (sh : Place → Bool) (p q : Place) (above : List Place) → sh q ≡ true → q ≡ p → is_over sh p (q ∷ above) ≡ true
over_self sh p q above b e = let m : same_place p q ≡ true = ap (same_place p) e ∙ same_self p in rw (b, m) refl

-- where p isn't above
kids_none : (sh : Place → Bool) (p : Place) (above : List Place) (t : Trees PlacedLook) → is_over sh p above ≡ false → among p (tree_places t) ≡ false → kids_among sh p (tree_placed above t) ≡ []
kids_none sh p above bare h n = refl
kids_none sh p above (tree i x a b) h n =
    let o = outside p x.place (tree_places a) (tree_places b) n in
    let inner = kids_none sh p (x.place ∷ above) a (over_other sh p x.place above o.here h) o.inner in
    let later = kids_none sh p above b h o.later in
    kids_skip sh p (entry above x) (tree_placed (x.place ∷ above) a ++ tree_placed above b) h
    ∙ (kids_append sh p (tree_placed (x.place ∷ above) a) (tree_placed above b) ∙ (rw (inner, later) refl))

-- right below p, or below ignored places that stand there
kids_tops : (sh : Place → Bool) (p : Place) (above : List Place) (t : Trees PlacedLook) → Agrees sh t → is_over sh p above ≡ true → among p (tree_places t) ≡ false → kids_among sh p (tree_placed above t) ≡ tops t
kids_tops sh p above bare g h n = refl
kids_tops sh p above (tree i x a b) g h n =
    let o = outside p x.place (tree_places a) (tree_places b) n in
    let later = kids_tops sh p above b g.2 h o.later in
    by_go (is_lit x.look)
    (λ q. let inner = kids_none sh p (x.place ∷ above) a (over_shown sh p x.place above (g.0 ∙ q) o.here) o.inner in
    let both : kids_among sh p (tree_placed (x.place ∷ above) a) ++ kids_among sh p (tree_placed above b) ≡ tops b = rw (inner, later) refl in
    kids_take sh p (entry above x) (tree_placed (x.place ∷ above) a ++ tree_placed above b) q h
    ∙ (ap (λ l. x.place ∷ l) (kids_append sh p (tree_placed (x.place ∷ above) a) (tree_placed above b) ∙ both) ∙ (rw q refl)))
    (λ q. let inner = kids_tops sh p (x.place ∷ above) a g.1 (over_dark sh p x.place above (g.0 ∙ q) ∙ h) o.inner in
    let both : kids_among sh p (tree_placed (x.place ∷ above) a) ++ kids_among sh p (tree_placed above b) ≡ tops a ++ tops b = rw (inner, later) refl in
    kids_dark sh p (entry above x) (tree_placed (x.place ∷ above) a ++ tree_placed above b) q
    ∙ (kids_append sh p (tree_placed (x.place ∷ above) a) (tree_placed above b) ∙ (both ∙ (rw q refl))))

abbrev pub inner_of : Trees PlacedLook → Trees PlacedLook
inner_of bare = bare
inner_of (tree i x a b) = a

kids_are : (sh : Place → Bool) (p : Place) (above : List Place) (t : Trees PlacedLook) → Agrees sh t → Unique (tree_places t) → sh p ≡ true → is_over sh p above ≡ false → kids_among sh p (tree_placed above t) ≡ tops (inner_of (sub_at p t))
kids_are sh p above bare g u v h = refl
kids_are sh p above (tree i x a b) g u v h =
    kids_skip sh p (entry above x) (tree_placed (x.place ∷ above) a ++ tree_placed above b) h
    ∙ (kids_append sh p (tree_placed (x.place ∷ above) a) (tree_placed above b) ∙ by_go (same_place x.place p) (λ q. here q)
    (λ q. by_go (among p (tree_places a)) (λ r. within q r (kids_are sh p (x.place ∷ above) a g.1 k.inner v (over_other sh p x.place above q h))) (λ r. after q r (kids_are sh p above b g.2 k.later v h))))
  where
    k : Parts x.place (tree_places a) (tree_places b)
    k = parted x.place (tree_places a) (tree_places b) u

    here : same_place x.place p ≡ true → kids_among sh p (tree_placed (x.place ∷ above) a) ++ kids_among sh p (tree_placed above b) ≡ tops (inner_of (sub_at p (tree i x a b)))
    here q =
        let same = same_is x.place p q in
        let inner = kids_tops sh p (x.place ∷ above) a g.1 (over_self sh p x.place above (ap sh same ∙ v) same) (ap (λ r. among r (tree_places a)) (sym same) ∙ k.not_inner) in
        let later = kids_none sh p above b h (ap (λ r. among r (tree_places b)) (sym same) ∙ k.not_later) in
        rw q ((rw (inner, later) refl) ∙ append-nil (tops a))

    within : same_place x.place p ≡ false → among p (tree_places a) ≡ true → kids_among sh p (tree_placed (x.place ∷ above) a) ≡ tops (inner_of (sub_at p a))
        → kids_among sh p (tree_placed (x.place ∷ above) a) ++ kids_among sh p (tree_placed above b) ≡ tops (inner_of (sub_at p (tree i x a b)))
    within q r inner =
        let later = kids_none sh p above b h (k.apart p r) in
        rw (q, r) ((rw (inner, later) refl) ∙ append-nil (tops (inner_of (sub_at p a))))

    after : same_place x.place p ≡ false → among p (tree_places a) ≡ false → kids_among sh p (tree_placed above b) ≡ tops (inner_of (sub_at p b))
        → kids_among sh p (tree_placed (x.place ∷ above) a) ++ kids_among sh p (tree_placed above b) ≡ tops (inner_of (sub_at p (tree i x a b)))
    after q r later =
        let inner = kids_none sh p (x.place ∷ above) a (over_other sh p x.place above q h) r in
        rw (q, r) (rw (inner, later) refl)

-- ---- the list

each_there : (l m : List Placed) → ((p : Place) → list_any (stands_at p) m ≡ true → list_any (stands_at p) l ≡ true) → AllOf (λ (s : Placed). list_any (stands_at s.place) l ≡ true) m
each_there l [] h = tt
each_there l (s ∷ m) h = (
  h s.place (let e = same_self s.place in rw e refl),
  each_there l m (λ p g. h p (by_go (stands_at p s) (λ q. rw q refl) (λ q. rw q g))),
)

all_parts : {A : Type 0} (P : A → Type 0) (xs ys : List A) → AllOf P (xs ++ ys) → AllOf P xs × AllOf P ys
all_parts P [] ys a = (tt, a)
all_parts P (x ∷ xs) ys a = let r = all_parts P xs ys a.1 in ((a.0, r.0), r.1)

all_pairs : {A : Type 0} (P Q R : A → Type 0) (xs : List A) → ((x : A) → P x → Q x → R x) → AllOf P xs → AllOf Q xs → AllOf R xs
all_pairs P Q R [] h a b = tt
all_pairs P Q R (x ∷ xs) h a b = (h x a.0 b.0, all_pairs P Q R xs h a.1 b.1)

agrees_from : (sh : Place → Bool) (above : List Place) (t : Trees PlacedLook) → AllOf (λ (s : Placed). sh s.place ≡ is_lit s.look) (tree_placed above t) → Agrees sh t
agrees_from sh above bare a = tt
agrees_from sh above (tree i x a b) h =
    let r = all_parts (λ (s : Placed). sh s.place ≡ is_lit s.look) (tree_placed (x.place ∷ above) a) (tree_placed above b) h.1 in
    (h.0, agrees_from sh (x.place ∷ above) a r.0, agrees_from sh above b r.1)

shown_all : (f : Forest) → IsSound f → AllOf (λ (s : Placed). is_shown_place (stitched f) s.place ≡ is_lit s.look) (stitched f)
unfolding is_unignored has_place
shown_all f s =
    all_pairs (λ (r : Placed). is_unignored r ≡ shows f r.place) (λ (r : Placed). list_any (stands_at r.place) (stitched f) ≡ true) (λ (r : Placed). is_shown_place (stitched f) r.place ≡ is_lit r.look) (stitched f)
    (λ r e h. shown_is f r.place s h ∙ sym e) (lit_placed f s) (each_there (stitched f) (stitched f) (λ p h. h))

pub agrees : (f : Forest) → IsSound f → Agrees (is_shown_place (stitched f)) (stitched_tree f)
agrees f s = agrees_from (is_shown_place (stitched f)) [] (stitched_tree f) (subst (AllOf (λ (r : Placed). is_shown_place (stitched f) r.place ≡ is_lit r.look)) (stitched-tree f) (shown_all f s))

pub children_are : (f : Forest) (p : Place) → IsSound f → is_shown_place (stitched f) p ≡ true → shown_children (stitched f) p ≡ tops (inner_of (sub_at p (stitched_tree f)))
unfolding shown_children unignored is_unignored shown_parent
children_are f p s v =
    ap (kids_among (is_shown_place (stitched f)) p) (stitched-tree f)
    ∙ kids_are (is_shown_place (stitched f)) p [] (stitched_tree f) (agrees f s) (unique_tree f s) v refl
