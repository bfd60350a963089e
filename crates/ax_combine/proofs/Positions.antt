-- The first place of a list that is a given place, and numbers of places.
use Rattle.std.proofs.Common.{ℕ, zero, suc, ◌+◌, ◌<◌, ◌≡◌, Bool, true, false, ◌||◌, cond, nat_lt, List, [], ◌∷◌, ◌++◌, length, Option, Some, None, refl, sym, ap, ◌∙◌, subst, arith, append_assoc, length-append, option_map, lt→ltb, ltb→lt}
use Rattle.std.specs.List.{position, position_or_len, prefix_len, list_any}
use Rattle.std.proofs.lemmas.Bool.{false≢true, false_from_ne_true}
use Rattle.ax_base.proofs.EntryLemmas.{as_T, of_T}
use Rattle.ax_base.specs.declared.position.Place.{Place}
use Rattle.ax_trees.proofs.Trees.{by_go}
use Rattle.ax_rules.specs.Looks.{same_place}
use Rattle.ax_rules.specs.Combined.{number_of}
use Rattle.ax_stitch.proofs.Places.{same_is, same_self}

lt_true : (a b : ℕ) → a < b → nat_lt a b ≡ true
lt_true a b h = of_T (nat_lt a b) (lt→ltb a b h)

lt_false : (a b : ℕ) → (a < b → ⊥) → nat_lt a b ≡ false
lt_false a b never = false_from_ne_true (nat_lt a b) (λ q. never (ltb→lt a b (as_T (nat_lt a b) q)))

at_front : (n : ℕ) → cond {A = Option ℕ} (nat_lt 0 (suc n)) (Some 0) None ≡ Some 0
at_front n = let h = lt_true 0 (suc n) (omega arith) in rw h refl

shifted : (a n : ℕ) → cond {A = Option ℕ} (nat_lt (1 + a) (suc n)) (Some (1 + a)) None ≡ option_map suc (cond (nat_lt a n) (Some a) None)
shifted a n = by_go (nat_lt a n)
    (λ q. let l = ltb→lt a n (as_T (nat_lt a n) q) in
    let h = lt_true (1 + a) (suc n) (omega (arith, l)) in
    let e : 1 + a ≡ suc a = omega arith in
    rw (q, h) (ap Some e))
    (λ q. let h = lt_false (1 + a) (suc n) (λ l. false≢true (sym q ∙ lt_true a n (omega (arith, l)))) in rw (q, h) refl)

pub position-cons : {A : Type 0} (p : A → Bool) (x : A) (xs : List A) → position p (x ∷ xs) ≡ cond (p x) (Some 0) (option_map suc (position p xs))
position-cons p x xs = by_go (p x) (λ q. rw q (at_front (length xs))) (λ q. rw q (shifted (position_or_len p xs) (length xs)))

pub number_cons : (p x : Place) (xs : List Place) → number_of (x ∷ xs) p ≡ cond (same_place p x) (Some 1) (option_map suc (number_of xs p))
unfolding number_of
number_cons p x xs = ap (option_map suc) (position-cons (same_place p) x xs) ∙ by_go (same_place p x) (λ q. rw q refl) (λ q. rw q refl)

pub number_none : (p : Place) → number_of [] p ≡ None
unfolding number_of
number_none p = refl

-- the number of a place behind others
pub number_behind : (p : Place) (front rest : List Place) → list_any (same_place p) front ≡ false → number_of (front ++ p ∷ rest) p ≡ Some (suc (length front))
number_behind p [] rest n = number_cons p p rest ∙ (let s = same_self p in rw s refl)
number_behind p (x ∷ front) rest n =
    let a : same_place p x ≡ false = false_from_ne_true (same_place p x) (λ q. grind (arith, q, n)) in
    let b : list_any (same_place p) front ≡ false = false_from_ne_true (list_any (same_place p) front) (λ q. grind (arith, q, n)) in
    number_cons p x (front ++ p ∷ rest) ∙ (rw a (ap (option_map suc) (number_behind p front rest b)))
