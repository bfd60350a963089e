-- Lists of ids, and choices.
use Rattle.std.proofs.Common.{Bool, List, Ok, Result, [], ap, arith, cond, eqb, false, length, not, refl, subst, sym, true, ℕ, ◌++◌, ◌||◌, ◌∷◌, ◌≡◌, ◌≤◌, ◌<◌, ◌+◌, drop, take, get_or, ◌∙◌}
use Rattle.std.proofs.lemmas.Bool.{eqb-true, false_from_ne_true, false≢true}
use Rattle.std.proofs.lemmas.Bool.Decides.{eqb_tells}
use Rattle.std.specs.List.{filter}
use Rattle.ax_trees.specs.Lists.{NoneTwice, any_that, common_prefix, contains, first_that, last_that}
use Rattle.ax_trees.specs.Nodes.{tree_at}
use Rattle.ax_trees.proofs.Trees.{by_go}
use Rattle.std.proofs.lemmas.List.{drop_more, take_more}

pub first_that_ext : (p q : ℕ → Bool) (cs : List ℕ) → ((z : ℕ) → p z ≡ q z) → first_that p cs ≡ first_that q cs
first_that_ext p q [] h = refl
first_that_ext p q (c ∷ cs) h = grind (arith, h c, first_that_ext p q cs h)

pub or_right : (o i k p : Bool) → (o || (i || (k || p))) ≡ ((o || (i || k)) || p)
or_right o i k p = grind arith

pub or_left : (o i k p : Bool) → (o || (i || (k || p))) ≡ ((o || (i || p)) || k)
or_left o i k p = grind arith

pub swap_left : (o i p r : Bool) → ((o || (i || r)) || p) ≡ (o || (i || (p || r)))
swap_left o i p r = grind arith

pub swap_right : (o i k p : Bool) → ((o || (i || k)) || p) ≡ (o || (i || (k || p)))
swap_right o i k p = grind arith

pub common_left : (xs ys : List ℕ) (x : ℕ) → contains (common_prefix xs ys) x ≡ true → contains xs x ≡ true
common_left [] ys x h = h
common_left (a ∷ xs) [] x h = absurd (false≢true h)
common_left (a ∷ xs) (b ∷ ys) x h = grind (arith, common_left xs ys x)

pub common_right : (xs ys : List ℕ) (x : ℕ) → contains (common_prefix xs ys) x ≡ true → contains ys x ≡ true
common_right [] ys x h = absurd (false≢true h)
common_right (a ∷ xs) [] x h = h
common_right (a ∷ xs) (b ∷ ys) x h = grind (arith, common_right xs ys x, eqb_tells a b)

pub last_in : (p : ℕ → Bool) (xs ys : List ℕ) (d : ℕ) → ((z : ℕ) → contains xs z ≡ true → contains ys z ≡ true) → contains ys d ≡ true → contains ys (last_that p xs d) ≡ true
last_in p [] ys d tree_at h = h
last_in p (x ∷ xs) ys d tree_at h =
    by_go (p x)
    (λ q. rw q (last_in p xs ys x (λ z c. tree_at z (grind (arith, c))) (tree_at x (grind (arith, eqb_tells x x)))))
    (λ q. rw q (last_in p xs ys d (λ z c. tree_at z (grind (arith, c))) h))

pub last_passes : (p : ℕ → Bool) (xs : List ℕ) (d : ℕ) → p d ≡ true → p (last_that p xs d) ≡ true
last_passes p [] d h = h
last_passes p (x ∷ xs) d h = by_go (p x) (λ q. rw q (last_passes p xs x q)) (λ q. rw q (last_passes p xs d h))

pub common_front : (xs ys : List ℕ) → (qs : List ℕ) × (common_prefix xs ys ++ qs ≡ xs)
common_front [] ys = ([], refl)
common_front (a ∷ xs) [] = (a ∷ xs, refl)
common_front (a ∷ xs) (b ∷ ys) =
    by_go (eqb a b)
    (λ q. rw q ((common_front xs ys).0, ap (λ l. a ∷ l) (common_front xs ys).1))
    (λ q. rw q (a ∷ xs, refl))

pub last_default : (p : ℕ → Bool) (xs : List ℕ) (d e : ℕ) → any_that p xs ≡ true → last_that p xs d ≡ last_that p xs e
last_default p [] d e h = absurd (false≢true h)
last_default p (x ∷ xs) d e h = by_go (p x) (λ q. rw q refl) (λ q. rw q (last_default p xs d e (grind (arith, h, q))))

pub last_none : (p : ℕ → Bool) (xs : List ℕ) (d : ℕ) → any_that p xs ≡ false → last_that p xs d ≡ d
last_none p [] d h = refl
last_none p (x ∷ xs) d h = let q : p x ≡ false = grind (arith, h) in rw q (last_none p xs d (grind (arith, h)))

pub last_some : (p : ℕ → Bool) (xs : List ℕ) (d : ℕ) → any_that p xs ≡ true → contains xs (last_that p xs d) ≡ true
last_some p [] d h = absurd (false≢true h)
last_some p (x ∷ xs) d h =
    by_go (any_that p xs)
    (λ q. grind (arith, last_some p xs (cond (p x) x d) q))
    (λ q. let px : p x ≡ true = grind (arith, h, q) in rw (px, last_none p xs x q) (grind (arith, eqb_tells x x)))

pub common_head : (i : ℕ) (xs ys us vs : List ℕ) → us ≡ i ∷ xs → vs ≡ i ∷ ys → common_prefix us vs ≡ i ∷ common_prefix xs ys
common_head i xs ys us vs p q = rw (p, q) (grind (arith, eqb_tells i i))

pub filter_in : (p : ℕ → Bool) (m : List ℕ) (z : ℕ) → contains (filter p m) z ≡ true → (contains m z ≡ true) × (p z ≡ true)
filter_in p [] z h = absurd (false≢true h)
filter_in p (x ∷ m) z h =
    by_go (p x)
    (λ q. let h' : (eqb x z || contains (filter p m) z) ≡ true = rw q at h in
    by_go (eqb x z)
    (λ q'. (grind (arith, q'), subst (λ y. p y ≡ true) (eqb-true x z q') q))
    (λ q'. let ih : (contains m z ≡ true) × (p z ≡ true) = filter_in p m z (grind (arith, h', q')) in (grind (arith, ih.0), ih.1)))
    (λ q. let ih : (contains m z ≡ true) × (p z ≡ true) = filter_in p m z (rw q at h) in (grind (arith, ih.0), ih.1))

pub filter_kept : (p : ℕ → Bool) (m : List ℕ) (z : ℕ) → contains m z ≡ true → p z ≡ true → contains (filter p m) z ≡ true
filter_kept p [] z h g = h
filter_kept p (x ∷ m) z h g = grind (arith, eqb_tells x z, filter_kept p m z)

pub once_filter : (p : ℕ → Bool) (m : List ℕ) → NoneTwice m → NoneTwice (filter p m)
once_filter p [] o = tt
once_filter p (x ∷ m) o =
    by_go (p x)
    (λ q. rw q (false_from_ne_true (contains (filter p m) x) (λ g. grind (arith, filter_in p m x g, o.0)), once_filter p m o.1))
    (λ q. rw q (once_filter p m o.1))

pub length-filter : (p : ℕ → Bool) (m : List ℕ) → length (filter p m) ≤ length m
length-filter p [] = grind arith
length-filter p (x ∷ m) = grind (arith, length-filter p m)

pub has_any : (p : ℕ → Bool) (xs ys : List ℕ) (x : ℕ) → xs ≡ x ∷ ys → p x ≡ true → any_that p xs ≡ true
has_any p xs ys x e h = rw (e, h) refl

pub same_Ok : {A E : Type 0} (x y : A) → ◌≡◌ {A = Result A E} (Ok x) (Ok y) → x ≡ y
same_Ok x y h = cc

pub contains-push : (m : List ℕ) (x z : ℕ) → contains (m ++ (x ∷ [])) z ≡ (contains m z || eqb x z)
contains-push [] x z = grind arith
contains-push (y ∷ m) x z = grind (arith, contains-push m x z)

pub once_push : (m : List ℕ) (x : ℕ) → NoneTwice m → contains m x ≡ false → NoneTwice (m ++ (x ∷ []))
once_push [] x o n = (refl, tt)
once_push (y ∷ m) x o n = (grind (arith, contains-push m x y, eqb_tells x y, eqb_tells y x, o.0, n), once_push m x o.1 (grind (arith, n)))

pub not_false : (b : Bool) → not b ≡ true → b ≡ false
not_false b h = grind (arith, h)

pub same_bool : (a b : Bool) → (a ≡ true → b ≡ true) → (b ≡ true → a ≡ true) → a ≡ b
same_bool true b f g = sym (f refl)
same_bool false true f g = g refl
same_bool false false f g = refl

pub split : {X : Type 0} (b : Bool) (n : X) (xs ys : List X) → cond b (n ∷ (xs ++ ys)) ys ≡ cond b (n ∷ xs) [] ++ ys
split true n xs ys = refl
split false n xs ys = refl

pub contains-append : (xs ys : List ℕ) (z : ℕ) → contains (xs ++ ys) z ≡ (contains xs z || contains ys z)
contains-append [] ys z = refl
contains-append (x ∷ xs) ys z = grind (arith, contains-append xs ys z)

-- ---- what loops over a list of ids meet

-- the item at an index
pub record IsAt (xs : List ℕ) (i x : ℕ) : Type 0 where
  pub low : i < length xs
  pub item : x ≡ get_or xs i x

pub drop_at : (xs : List ℕ) (i x : ℕ) → IsAt xs i x → drop i xs ≡ x ∷ drop (i + 1) xs
drop_at xs i x a = drop_more xs i x a.low ∙ ap (λ y. y ∷ drop (i + 1) xs) (sym a.item)

pub take_at : (xs : List ℕ) (i x : ℕ) → IsAt xs i x → take (i + 1) xs ≡ take i xs ++ x ∷ []
take_at xs i x a = take_more xs i x a.low ∙ ap (λ y. take i xs ++ y ∷ []) (sym a.item)

pub contains_push : (xs : List ℕ) (x z : ℕ) → contains (xs ++ x ∷ []) z ≡ cond (eqb x z) true (contains xs z)
contains_push [] x z = grind arith
contains_push (y ∷ ys) x z = grind (arith, contains_push ys x z)

pub contains_next : (xs : List ℕ) (i x z : ℕ) → IsAt xs i x → contains (take (i + 1) xs) z ≡ cond (eqb x z) true (contains (take i xs) z)
contains_next xs i x z a = ap (λ ys. contains ys z) (take_at xs i x a) ∙ contains_push (take i xs) x z

-- two lists that share no id, one after the other
pub once_append : (xs ys : List ℕ) → NoneTwice xs → NoneTwice ys → ((z : ℕ) → contains xs z ≡ true → contains ys z ≡ false) → NoneTwice (xs ++ ys)
once_append [] ys o p h = p
once_append (x ∷ xs) ys o p h = (grind (arith, contains-append xs ys x, o.0, h x, eqb_tells x x), once_append xs ys o.1 p (λ z g. h z (grind (arith, g))))
