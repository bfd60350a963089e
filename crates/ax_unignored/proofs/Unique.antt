-- No place stands twice in the list, nor in the joined trees.
use Rattle.std.proofs.Common.{◌≡◌, Bool, true, false, ◌||◌, List, [], ◌∷◌, ◌++◌, refl, sym, ap, ◌∙◌, subst}
use Rattle.std.specs.List.{list_any}
use Rattle.std.proofs.lemmas.List.Folds.{list_any-append}
use Rattle.std.proofs.lemmas.List.{map-append}
use Rattle.std.proofs.lemmas.Bool.{false≢true, false_from_ne_true, or_parts}
use Rattle.ax_base.specs.declared.position.Place.{Place}
use Rattle.ax_trees.specs.Trees.{Trees, bare, tree}
use Rattle.ax_trees.proofs.Trees.{by_go}
use Rattle.ax_tree.specs.Forest.{Forest, IsSound}
use Rattle.ax_rules.specs.Looks.{same_place}
use Rattle.ax_rules.specs.Stitched.{Placed, places, stitched}
use Rattle.ax_rules.specs.StitchedTree.{PlacedLook, stitched_tree, tree_places, tree_placed}
use Rattle.ax_rules.proofs.StitchedTreeLemmas.{stitched-tree}
use Rattle.ax_stitch.proofs.Hosts.{AllOf}
use Rattle.ax_stitch.proofs.Blocks.{stitched_places}
use Rattle.ax_stitch.proofs.Places.{has_is, same_is, same_self}
use Rattle.ax_stitch.proofs.Sound.{sound_formed}
use Rattle.ax_unignored.proofs.Once.{Once, once}

abbrev pub among : Place → List Place → Bool
among p l = list_any (λ q. same_place q p) l

abbrev pub Unique : List Place → Type 0
Unique [] = Unit {0}
Unique (x ∷ xs) = (among x xs ≡ false) × Unique xs

clear_none : (p : Place) (l : List Place) → AllOf (λ q. same_place q p ≡ false) l → among p l ≡ false
clear_none p [] a = refl
clear_none p (x ∷ xs) a = let h = a.0 in rw h (clear_none p xs a.1)

-- ---- from a cut at each place

unique_from : (l : List Place) → ((p : Place) → among p l ≡ true → Once p l) → Unique l
unique_from [] h = tt
unique_from (x ∷ xs) h = (head, unique_from xs (λ p g. tail p g (h p (later p g))))
  where
    later : (p : Place) → among p xs ≡ true → among p (x ∷ xs) ≡ true
    later p g = by_go (same_place x p) (λ q. rw q refl) (λ q. rw q g)

    at_front : (front rest : List Place) → x ∷ xs ≡ front ++ (x ∷ rest) → AllOf (λ q. same_place q x ≡ false) front → AllOf (λ q. same_place q x ≡ false) rest → among x xs ≡ false
    at_front [] rest e a b = let same : xs ≡ rest = cc in ap (among x) same ∙ clear_none x rest b
    at_front (y ∷ ys) rest e a b = let same : x ≡ y = cc in absurd (false≢true (sym a.0 ∙ (ap (λ q. same_place q x) (sym same) ∙ same_self x)))

    head : among x xs ≡ false
    head = let o = h x (let s = same_self x in rw s refl) in at_front o.front o.rest o.whole o.none_ahead o.none_behind

    cut : (p : Place) (front rest : List Place) → among p xs ≡ true → x ∷ xs ≡ front ++ (p ∷ rest) → AllOf (λ q. same_place q p ≡ false) front → AllOf (λ q. same_place q p ≡ false) rest → Once p xs
    cut p [] rest g e a b = let same : x ≡ p = cc in absurd (false≢true (sym head ∙ (ap (λ q. among q xs) same ∙ g)))
    cut p (y ∷ ys) rest g e a b = let same : xs ≡ ys ++ (p ∷ rest) = cc in record { front = ys; rest = rest; whole = same; none_ahead = a.1; none_behind = b }

    tail : (p : Place) → among p xs ≡ true → Once p (x ∷ xs) → Once p xs
    tail p g o = cut p o.front o.rest g o.whole o.none_ahead o.none_behind

pub unique_list : (f : Forest) → IsSound f → Unique (places (stitched f))
unique_list f s = unique_from (places (stitched f)) (λ p g. once f p (has_is f p ∙ (ap (among p) (sym (stitched_places f)) ∙ g)) (sound_formed 8 f p.tree s))

places_placed : (above : List Place) (t : Trees PlacedLook) → places (tree_placed above t) ≡ tree_places t
places_placed above bare = refl
places_placed above (tree i x a b) =
    ap (λ l. x.place ∷ l)
    (map-append (λ (s : Placed). s.place) (tree_placed (x.place ∷ above) a) (tree_placed above b)
    ∙ (λ k. places_placed (x.place ∷ above) a k ++ places_placed above b k))

pub unique_tree : (f : Forest) → IsSound f → Unique (tree_places (stitched_tree f))
unique_tree f s = subst Unique (ap places (stitched-tree f) ∙ places_placed [] (stitched_tree f)) (unique_list f s)

-- ---- a tree, its inner trees and the others

pub record Parts (x : Place) (a b : List Place) : Type 0 where
  pub not_inner : among x a ≡ false
  pub not_later : among x b ≡ false
  pub apart : (p : Place) → among p a ≡ true → among p b ≡ false
  pub inner : Unique a
  pub later : Unique b

record Both (a b : List Place) : Type 0 where
  apart : (p : Place) → among p a ≡ true → among p b ≡ false
  inner : Unique a
  later : Unique b

pub among-append : (p : Place) (a b : List Place) → among p (a ++ b) ≡ (among p a || among p b)
among-append p a b = list_any-append (λ q. same_place q p) a b

both : (a b : List Place) → Unique (a ++ b) → Both a b
both [] b u = record { apart = λ p g. absurd (false≢true g); inner = tt; later = u }
both (x ∷ a) b u =
    let rest = both a b u.1 in
    let n = or_parts (among x a) (among x b) (sym (among-append x a b) ∙ u.0) in
    record {
      apart = λ p g. by_go (same_place x p)
          (λ q. ap (λ r. among r b) (sym (same_is x p q)) ∙ n.1)
          (λ q. rest.apart p (rw q at g));
      inner = (n.0, rest.inner);
      later = rest.later;
    }

pub parted : (x : Place) (a b : List Place) → Unique (x ∷ (a ++ b)) → Parts x a b
parted x a b u =
    let n = or_parts (among x a) (among x b) (sym (among-append x a b) ∙ u.0) in
    let r = both a b u.1 in
    record { not_inner = n.0; not_later = n.1; apart = r.apart; inner = r.inner; later = r.later }

pub not_both : (x p : Place) (a b : List Place) → Parts x a b → among p b ≡ true → among p a ≡ false
not_both x p a b u g = false_from_ne_true (among p a) (λ q. false≢true (sym (u.apart p q) ∙ g))

pub other_place : (x p : Place) (l : List Place) → among x l ≡ false → among p l ≡ true → same_place x p ≡ false
other_place x p l n g = false_from_ne_true (same_place x p) (λ q. false≢true (sym n ∙ (ap (λ r. among r l) (same_is x p q) ∙ g)))

-- p stands nowhere in a tree and the others
pub record Outside (p x : Place) (a b : List Place) : Type 0 where
  pub here : same_place x p ≡ false
  pub inner : among p a ≡ false
  pub later : among p b ≡ false

pub outside : (p x : Place) (a b : List Place) → among p (x ∷ (a ++ b)) ≡ false → Outside p x a b
outside p x a b n =
    let h = or_parts (same_place x p) (among p (a ++ b)) n in
    let r = or_parts (among p a) (among p b) (sym (among-append p a b) ∙ h.1) in
    record { here = h.0; inner = r.0; later = r.1 }
