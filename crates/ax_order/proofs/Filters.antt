-- Those items of a list that pass a test, and what items give.
use Rattle.std.proofs.Common.{ℕ, ◌≡◌, ◌+◌, Bool, true, false, ◌||◌, eqb, List, [], ◌∷◌, ◌++◌, drop, Option, Some, None, refl, sym, ap, ◌∙◌, arith, append_assoc}
use Rattle.std.specs.Prelude.{filter, filter_map}
use Rattle.std.specs.List.{cons_option}
use Rattle.std.proofs.lemmas.Bool.Decides.{eqb_tells}
use Rattle.std.proofs.lemmas.Bool.{eqb-true, false_from_ne_true, false≢true}
use Rattle.ax_trees.specs.Lists.{contains, NoneTwice}
use Rattle.ax_trees.proofs.Trees.{by_go}
use Rattle.ax_trees.proofs.Lists.{drop_at, IsAt}

pub filter_in : {X : Type 0} (p : X → Bool) (x : X) (xs : List X) → p x ≡ true → filter p (x ∷ xs) ≡ x ∷ filter p xs
filter_in p x xs h = rw h refl

pub filter_out : {X : Type 0} (p : X → Bool) (x : X) (xs : List X) → p x ≡ false → filter p (x ∷ xs) ≡ filter p xs
filter_out p x xs h = rw h refl

pub filter_ext : {X : Type 0} (p q : X → Bool) (xs : List X) → ((z : X) → p z ≡ q z) → filter p xs ≡ filter q xs
filter_ext p q [] h = refl
filter_ext p q (x ∷ xs) h = rw (h x, filter_ext p q xs h) refl

pub filter_none : (p : ℕ → Bool) (xs : List ℕ) → ((z : ℕ) → contains xs z ≡ true → p z ≡ false) → filter p xs ≡ []
filter_none p [] h = refl
filter_none p (x ∷ xs) h =
    filter_out p x xs (h x (grind (arith, eqb_tells x x))) ∙ filter_none p xs (λ z g. h z (grind (arith, g)))

-- a single one passes
pub filter_one : (p : ℕ → Bool) (c : ℕ) (xs : List ℕ) → NoneTwice xs → contains xs c ≡ true → p c ≡ true → ((z : ℕ) → contains xs z ≡ true → p z ≡ true → eqb c z ≡ true) → filter p xs ≡ c ∷ []
filter_one p c [] o h t one = absurd (false≢true h)
filter_one p c (x ∷ xs) o h t one =
    by_go (eqb x c)
    (λ q. let at : x ≡ c = eqb-true x c q in
    filter_in p x xs (ap p at ∙ t)
    ∙ ap (λ ys. x ∷ ys) (filter_none p xs (λ z g. false_from_ne_true (p z) (λ s.
    let same : c ≡ z = eqb-true c z (one z (grind (arith, g)) s) in
    false≢true (sym o.0 ∙ ap (contains xs) (at ∙ same) ∙ g))))
    ∙ ap (λ y. y ∷ []) at)
    (λ q. let no : p x ≡ false = false_from_ne_true (p x) (λ s. let e : eqb c x ≡ true = one x (grind (arith, eqb_tells x x)) s in grind (arith, eqb_tells c x, eqb_tells x c, e, q)) in
    filter_out p x xs no ∙ filter_one p c xs o.1 (grind (arith, h, q)) t (λ z g s. one z (grind (arith, g)) s))

-- of those that pass p, those that pass q
pub filter_within : (p q r : ℕ → Bool) (xs : List ℕ) → ((z : ℕ) → q z ≡ r z) → ((z : ℕ) → contains xs z ≡ true → r z ≡ true → p z ≡ true) → filter q (filter p xs) ≡ filter r xs
filter_within p q r [] e h = refl
filter_within p q r (x ∷ xs) e h =
    let rest : filter q (filter p xs) ≡ filter r xs = filter_within p q r xs e (λ z g. h z (grind (arith, g))) in
    by_go (r x)
    (λ s. let in' : p x ≡ true = h x (grind (arith, eqb_tells x x)) s in
    ap (filter q) (filter_in p x xs in') ∙ (filter_in q x (filter p xs) (e x ∙ s) ∙ (ap (λ ys. x ∷ ys) rest ∙ sym (filter_in r x xs s))))
    (λ s. by_go (p x)
    (λ t. ap (filter q) (filter_in p x xs t) ∙ (filter_out q x (filter p xs) (e x ∙ s) ∙ (rest ∙ sym (filter_out r x xs s))))
    (λ t. ap (filter q) (filter_out p x xs t) ∙ (rest ∙ sym (filter_out r x xs s))))

-- ---- what the items of a list give

pub contains_map : (h : ℕ → Option ℕ) (zs : List ℕ) (z l : ℕ) → contains zs z ≡ true → h z ≡ Some l → contains (filter_map h zs) l ≡ true
contains_map h [] z l c e = absurd (false≢true c)
contains_map h (y ∷ ys) z l c e =
    by_go (eqb y z)
    (λ q. let at : h y ≡ Some l = ap h (eqb-true y z q) ∙ e in let self : eqb l l ≡ true = grind (arith, eqb_tells l l) in rw at (rw self refl))
    (λ q. let rest : contains (filter_map h ys) l ≡ true = contains_map h ys z l (grind (arith, c, q)) e in later (h y) rest)
  where
    later : (o : Option ℕ) → contains (filter_map h ys) l ≡ true → contains (cons_option o (filter_map h ys)) l ≡ true
    later None r = r
    later (Some x) r = grind (arith, r)

-- some id of the list gives it
pub record GivenBy (h : ℕ → Option ℕ) (zs : List ℕ) (l : ℕ) : Type 0 where
  pub by : ℕ
  pub listed : contains zs by ≡ true
  pub gives : h by ≡ Some l

pub map_contains : (h : ℕ → Option ℕ) (zs : List ℕ) (l : ℕ) → contains (filter_map h zs) l ≡ true → GivenBy h zs l
map_contains h [] l c = absurd (false≢true c)
map_contains h (y ∷ ys) l c = go (h y) refl c (λ g. map_contains h ys l g)
  where
    more : GivenBy h ys l → GivenBy h (y ∷ ys) l
    more g = record { by = g.by; listed = let k = g.listed in grind (arith, k); gives = g.gives }

    go : (o : Option ℕ) → h y ≡ o → contains (filter_map h (y ∷ ys)) l ≡ true → (contains (filter_map h ys) l ≡ true → GivenBy h ys l) → GivenBy h (y ∷ ys) l
    go None e g ih = more (ih (rw e at g))
    go (Some x) e g ih =
        let g' : (eqb x l || contains (filter_map h ys) l) ≡ true = rw e at g in
        by_go (eqb x l)
        (λ q. record { by = y; listed = grind (arith, eqb_tells y y); gives = e ∙ ap Some (eqb-true x l q) })
        (λ q. more (ih (grind (arith, g', q))))

-- ---- a loop over the items

pub takes : (p : ℕ → Bool) (xs out next : List ℕ) (i x : ℕ) → IsAt xs i x → p x ≡ true → out ++ filter p (drop i xs) ≡ filter p xs → next ≡ out ++ x ∷ [] → next ++ filter p (drop (i + 1) xs) ≡ filter p xs
takes p xs out next i x a h e n =
    let w : filter p (drop i xs) ≡ x ∷ filter p (drop (i + 1) xs) = ap (filter p) (drop_at xs i x a) ∙ filter_in p x (drop (i + 1) xs) h in
    ap (λ ys. ys ++ filter p (drop (i + 1) xs)) n ∙ append_assoc out (x ∷ []) (filter p (drop (i + 1) xs)) ∙ ap (λ ys. out ++ ys) (sym w) ∙ e

pub passes : (p : ℕ → Bool) (xs out : List ℕ) (i x : ℕ) → IsAt xs i x → p x ≡ false → out ++ filter p (drop i xs) ≡ filter p xs → out ++ filter p (drop (i + 1) xs) ≡ filter p xs
passes p xs out i x a h e =
    let w : filter p (drop i xs) ≡ filter p (drop (i + 1) xs) = ap (filter p) (drop_at xs i x a) ∙ filter_out p x (drop (i + 1) xs) h in
    ap (λ ys. out ++ ys) (sym w) ∙ e
