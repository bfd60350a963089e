-- Lists that are read from the back, and lists by places.
use Rattle.std.proofs.Common.{◌≡◌, ℕ, zero, suc, ◌<◌, List, [], ◌∷◌, ◌++◌, length, get_or, map, reverse, slice_get, set, Some, sym, refl, ap, ◌∙◌, subst, arith}
use Rattle.std.proofs.lemmas.List.{reverse-append}

module _ {A : Type 0} where
  pub slice_at_end : (xs : List A) (x : A) → slice_get (xs ++ x ∷ []) (length xs) ≡ Some x
  slice_at_end [] x = refl
  slice_at_end (y ∷ xs) x = slice_at_end xs x

  pub reverse_push : (xs : List A) (x : A) → reverse (xs ++ x ∷ []) ≡ x ∷ reverse xs
  reverse_push xs x = reverse-append xs (x ∷ [])

  -- what was popped comes first in the reversed list
  pub reverse_popped : (xs ys : List A) (x : A) → xs ≡ ys ++ x ∷ [] → reverse xs ≡ x ∷ reverse ys
  reverse_popped xs ys x e = ap reverse e ∙ reverse_push ys x

  pub first_same : (x y : A) (xs ys : List A) → x ∷ xs ≡ y ∷ ys → x ≡ y
  first_same x y xs ys e = cc

  pub rest_same : (x y : A) (xs ys : List A) → x ∷ xs ≡ y ∷ ys → xs ≡ ys
  rest_same x y xs ys e = cc

  pub there : (xs : List A) (i : ℕ) (x : A) → i < length xs → x ≡ get_or xs i x → slice_get xs i ≡ Some x
  there [] i x l e = absurd (omega arith)
  there (y ∷ xs) zero x l e = ap Some (sym e)
  there (y ∷ xs) (suc i) x l e = there xs i x (omega arith) e

  pub within : (xs : List A) (i : ℕ) (x : A) → slice_get xs i ≡ Some x → i < length xs
  within [] i x h = absurd (cc)
  within (y ∷ xs) zero x h = omega arith
  within (y ∷ xs) (suc i) x h = let w = within xs i x h in omega arith

  pub or_there : (xs : List A) (i : ℕ) (x d : A) → slice_get xs i ≡ Some x → get_or xs i d ≡ x
  or_there [] i x d h = absurd (cc)
  or_there (y ∷ xs) zero x d h = cc
  or_there (y ∷ xs) (suc i) x d h = or_there xs i x d h

  pub set_here : (xs : List A) (i : ℕ) (x : A) → i < length xs → slice_get (set xs i x) i ≡ Some x
  set_here [] i x h = absurd (omega arith)
  set_here (y ∷ xs) zero x h = refl
  set_here (y ∷ xs) (suc i) x h = set_here xs i x (omega arith)

  pub set_there : (xs : List A) (i j : ℕ) (x : A) → (i ≡ j → ⊥) → slice_get (set xs i x) j ≡ slice_get xs j
  set_there [] i j x h = refl
  set_there (y ∷ xs) zero zero x h = absurd (h refl)
  set_there (y ∷ xs) zero (suc j) x h = refl
  set_there (y ∷ xs) (suc i) zero x h = refl
  set_there (y ∷ xs) (suc i) (suc j) x h = set_there xs i j x (λ e. h (ap suc e))

  -- a fact of each item is one of each item after a write
  pub each_set : (P : A → Type 0) (xs : List A) (i : ℕ) (x : A) → ((j : ℕ) (y : A) → slice_get xs j ≡ Some y → P y) → P x → (j : ℕ) (y : A) → slice_get (set xs i x) j ≡ Some y → P y
  each_set P [] i x all here j y h = absurd (cc)
  each_set P (z ∷ xs) zero x all here zero y h = let e : x ≡ y = cc in subst P e here
  each_set P (z ∷ xs) zero x all here (suc j) y h = all (suc j) y h
  each_set P (z ∷ xs) (suc i) x all here zero y h = all zero y h
  each_set P (z ∷ xs) (suc i) x all here (suc j) y h = each_set P xs i x (λ k w e. all (suc k) w e) here j y h

module _ {A B : Type 0} (f : A → B) where
  pub mapped_there : (xs : List A) (i : ℕ) (y : B) → slice_get (map f xs) i ≡ Some y → (x : A) × (slice_get xs i ≡ Some x) × (f x ≡ y)
  mapped_there [] i y h = absurd (cc)
  mapped_there (x ∷ xs) zero y h = (x, refl, cc)
  mapped_there (x ∷ xs) (suc i) y h = mapped_there xs i y h

  pub there_mapped : (xs : List A) (i : ℕ) (x : A) → slice_get xs i ≡ Some x → slice_get (map f xs) i ≡ Some (f x)
  there_mapped [] i x h = absurd (cc)
  there_mapped (y ∷ xs) zero x h = let e : y ≡ x = cc in ap (λ z. Some (f z)) e
  there_mapped (y ∷ xs) (suc i) x h = there_mapped xs i x h

  -- a write that leaves what f sees
  pub set_unseen : (xs : List A) (i : ℕ) (old new : A) → slice_get xs i ≡ Some old → f new ≡ f old → map f (set xs i new) ≡ map f xs
  set_unseen [] i old new h e = absurd (cc)
  set_unseen (y ∷ xs) zero old new h e = let s : y ≡ old = cc in λ i. (e ∙ ap f (sym s)) i ∷ map f xs
  set_unseen (y ∷ xs) (suc i) old new h e = ap (λ l. f y ∷ l) (set_unseen xs i old new h e)

pub some_of : {A : Type 0} (xs : List A) → (xs ≡ [] → ⊥) → 0 < length xs
some_of [] h = absurd (h refl)
some_of (x ∷ xs) h = omega arith

pub none_of : {A : Type 0} (xs : List A) → length xs ≡ 0 → xs ≡ []
none_of [] e = refl
none_of (x ∷ xs) e = absurd (omega arith)
