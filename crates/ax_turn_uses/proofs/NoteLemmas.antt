-- The numbers of one maker in lists that grow.
use Rattle.std.proofs.Common.{◌≡◌, ℕ, ◌+◌, eqb, Bool, true, false, if◌then◌else◌, List, [], ◌∷◌, ◌++◌, refl, ap, ◌∙◌, subst, arith, eq-eqb, ne_eqb, append-nil, add-one}
use Rattle.ax_turn_uses.specs.declared.notes.Note.{Note}
use Rattle.ax_turn_uses.specs.Numbers.{numbers_by, first_numbers}
use Rattle.ax_turn.specs.Makers.{NoneOwn, GrowsByOthers}

pub numbers_by-append : (k : ℕ) (xs ys : List Note) → numbers_by k (xs ++ ys) ≡ numbers_by k xs ++ numbers_by k ys
numbers_by-append k [] ys = refl
numbers_by-append k (x ∷ xs) ys = go (eqb x.by k) (numbers_by-append k xs ys)
  where
    go : (b : Bool) → numbers_by k (xs ++ ys) ≡ numbers_by k xs ++ numbers_by k ys → (if b then x.number ∷ numbers_by k (xs ++ ys) else numbers_by k (xs ++ ys)) ≡ (if b then x.number ∷ numbers_by k xs else numbers_by k xs) ++ numbers_by k ys
    go true e = ap (λ l. x.number ∷ l) e
    go false e = e

none_of : (k : ℕ) (xs : List Note) → NoneOwn (λ (e : Note). e.by) k (k + 1) xs → numbers_by k xs ≡ []
none_of k [] h = refl
none_of k (x ∷ xs) h = ap (λ (b : Bool). if b then x.number ∷ numbers_by k xs else numbers_by k xs) (ne_eqb x.by k (λ e. h.0 (omega arith, omega arith))) ∙ none_of k xs h.1

-- what others add changes nothing
pub others_add : (k low high : ℕ) (xs ys : List Note) → low ≡ k → high ≡ k + 1 → GrowsByOthers (λ (e : Note). e.by) low high xs ys → numbers_by k ys ≡ numbers_by k xs
others_add k low high xs ys from to g = ap (numbers_by k) g.1 ∙ (numbers_by-append k xs g.0 ∙ (ap (λ l. numbers_by k xs ++ l) (none_of k g.0 (subst (λ (z : ℕ × ℕ). NoneOwn (λ (e : Note). e.by) z.0 z.1 g.0) (λ i. (from i, to i)) g.2)) ∙ append-nil (numbers_by k xs)))

pub first_none : first_numbers 0 ≡ []
unfolding first_numbers
first_none = refl

pub first_more : (n : ℕ) → first_numbers (n + 1) ≡ first_numbers n ++ n ∷ []
unfolding first_numbers
first_more n = rw add-one refl

pub own_adds : (k n : ℕ) (xs : List Note) (x : Note) → x.by ≡ k → x.number ≡ n → numbers_by k (xs ++ x ∷ []) ≡ numbers_by k xs ++ n ∷ []
own_adds k n xs x by is = numbers_by-append k xs (x ∷ []) ∙ ap (λ l. numbers_by k xs ++ l) (ap (λ (b : Bool). if b then x.number ∷ [] else []) (eq-eqb x.by k by) ∙ ap (λ m. m ∷ []) is)
