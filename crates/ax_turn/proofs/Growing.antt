-- Lists of entries that grow.
use Rattle.std.proofs.Common.{◌≡◌, ℕ, ◌<◌, ◌≤◌, ◌⊎◌, List, [], ◌∷◌, ◌++◌, length, sym, refl, ap, ◌∙◌, subst, ⊎_elim, append_assoc, append-nil, arith}
use Rattle.ax_turn.specs.Makers.{AllOwn, NoneOwn, GrowsByOthers}

module _ {E : Type 0} where
  cons-head : (x y : E) (xs ys : List E) → x ∷ xs ≡ y ∷ ys → x ≡ y
  cons-head x y xs ys e = cc

  cons-tail : (x y : E) (xs ys : List E) → x ∷ xs ≡ y ∷ ys → xs ≡ ys
  cons-tail x y xs ys e = cc

  -- of two beginnings of one list the shorter begins the longer
  pub between : (xs ys r s : List E) → xs ++ r ≡ ys ++ s → length xs ≤ length ys → (mid : List E) × (ys ≡ xs ++ mid) × (r ≡ mid ++ s)
  between [] ys r s e h = (ys, refl, e)
  between (x ∷ xs) [] r s e h = absurd (omega arith)
  between (x ∷ xs) (y ∷ ys) r s e h = let t = between xs ys r s (cons-tail x y (xs ++ r) (ys ++ s) e) (omega arith) in (t.0, (λ i. sym (cons-head x y (xs ++ r) (ys ++ s) e) i ∷ t.1 i), t.2)

module _ {E : Type 0} (maker : E → ℕ) (low high : ℕ) where
  pub NoneOwn-append : (xs ys : List E) → NoneOwn maker low high xs → NoneOwn maker low high ys → NoneOwn maker low high (xs ++ ys)
  NoneOwn-append [] ys p q = q
  NoneOwn-append (x ∷ xs) ys p q = (p.0, NoneOwn-append xs ys p.1 q)

  pub NoneOwn-left : (xs ys : List E) → NoneOwn maker low high (xs ++ ys) → NoneOwn maker low high xs
  NoneOwn-left [] ys p = tt
  NoneOwn-left (x ∷ xs) ys p = (p.0, NoneOwn-left xs ys p.1)

  pub NoneOwn-right : (xs ys : List E) → NoneOwn maker low high (xs ++ ys) → NoneOwn maker low high ys
  NoneOwn-right [] ys p = p
  NoneOwn-right (x ∷ xs) ys p = NoneOwn-right xs ys p.1

  pub AllOwn-append : (xs ys : List E) → AllOwn maker low high xs → AllOwn maker low high ys → AllOwn maker low high (xs ++ ys)
  AllOwn-append [] ys p q = q
  AllOwn-append (x ∷ xs) ys p q = (p.0, AllOwn-append xs ys p.1 q)

  pub AllOwn-right : (xs ys : List E) → AllOwn maker low high (xs ++ ys) → AllOwn maker low high ys
  AllOwn-right [] ys p = p
  AllOwn-right (x ∷ xs) ys p = AllOwn-right xs ys p.1

  -- entries of these makers alone are none
  pub no_entries : (xs : List E) → AllOwn maker low high xs → NoneOwn maker low high xs → xs ≡ []
  no_entries [] p q = refl
  no_entries (x ∷ xs) p q = absurd (q.0 p.0)

  pub none_of_empty : (xs : List E) → high ≡ 0 → NoneOwn maker low high xs
  none_of_empty [] e = tt
  none_of_empty (x ∷ xs) e = ((λ own. let b = own.1 in absurd (omega arith)), none_of_empty xs e)

  pub grows-refl : (xs : List E) → GrowsByOthers maker low high xs xs
  grows-refl xs = ([], sym (append-nil xs), tt)

  pub grows-trans : (xs ys zs : List E) → GrowsByOthers maker low high xs ys → GrowsByOthers maker low high ys zs → GrowsByOthers maker low high xs zs
  grows-trans xs ys zs p q = (p.0 ++ q.0, q.1 ∙ (ap (λ l. l ++ q.0) p.1 ∙ append_assoc xs p.0 q.0), NoneOwn-append p.0 q.0 p.2 q.2)

  -- a wider range of makers
  pub AllOwn-wider : (below above : ℕ) (xs : List E) → below ≤ low → high ≤ above → AllOwn maker low high xs → AllOwn maker below above xs
  AllOwn-wider below above [] l h p = tt
  AllOwn-wider below above (x ∷ xs) l h p = let a = p.0 in ((omega arith, omega arith), AllOwn-wider below above xs l h p.1)

  -- what is these makers' is not of others
  pub of_others : (below above : ℕ) (xs : List E) → ((n : ℕ) → low ≤ n → n < high → below ≤ n → n < above → ⊥) → AllOwn maker low high xs → NoneOwn maker below above xs
  of_others below above [] apart p = tt
  of_others below above (x ∷ xs) apart p = ((λ own. apart (maker x) p.0.0 p.0.1 own.0 own.1), of_others below above xs apart p.1)

  -- none of the makers of a union
  pub of_neither : (below above from to : ℕ) (xs : List E) → ((n : ℕ) → from ≤ n → n < to → ((low ≤ n) × (n < high)) ⊎ ((below ≤ n) × (n < above))) → NoneOwn maker low high xs → NoneOwn maker below above xs → NoneOwn maker from to xs
  of_neither below above from to [] cover p q = tt
  of_neither below above from to (x ∷ xs) cover p q = ((λ own. ⊎_elim p.0 q.0 (cover (maker x) own.0 own.1)), of_neither below above from to xs cover p.1 q.1)

  -- two beginnings of one list: the shorter grows to the longer by others, if it grows so to the whole
  pub grows_between : (xs ys log : List E) → GrowsByOthers maker low high xs log → (rest : List E) → log ≡ ys ++ rest → length xs ≤ length ys → GrowsByOthers maker low high xs ys
  grows_between xs ys log p rest e h = let t = between xs ys p.0 rest (sym p.1 ∙ e) h in (t.0, t.1, NoneOwn-left t.0 rest (subst (NoneOwn maker low high) t.2 p.2))

  -- and what follows the longer is of others too
  pub none_after : (xs ys log : List E) → GrowsByOthers maker low high xs log → (rest : List E) → log ≡ ys ++ rest → length xs ≤ length ys → NoneOwn maker low high rest
  none_after xs ys log p rest e h = let t = between xs ys p.0 rest (sym p.1 ∙ e) h in NoneOwn-right t.0 rest (subst (NoneOwn maker low high) t.2 p.2)
