-- Entries that were changed at one id after the other.
use Rattle.std.proofs.Common.{ℕ, ◌≡◌, ◌≤◌, Bool, true, false, cond, not, eqb, List, [], ◌∷◌, length, Option, Some, None, refl, sym, ap, ◌∙◌, subst, arith}
use Rattle.std.specs.Result.{is_err}
use Rattle.std.specs.Prelude.{Result, Ok, Err, OnOk, OnErr, option_map, filter, IfSome}
use Rattle.std.proofs.lemmas.Bool.{eqb-true, eqb-false, false≢true}
use Rattle.ax_trees.specs.Spots.{removed}
use Rattle.ax_trees.proofs.Trees.{by_go}
use Rattle.ax_source.specs.declared.entries.Entry.{Entry}
use Rattle.ax_source.specs.Changes.{above_set, child_added, child_dropped, child_moved, relinked, Relinks}

-- a clause on one variant
pub on_ok : {T E : Type 0} (r : Result T E) (P Q : Type 0) → OnOk r P → (P → Q) → OnOk r Q
on_ok (Ok x) P Q h f = f h
on_ok (Err e) P Q h f = tt

pub on_err : {T E : Type 0} (r : Result T E) (P Q : Type 0) → OnErr r P → (P → Q) → OnErr r Q
on_err (Ok x) P Q h f = tt
on_err (Err e) P Q h f = f h

pub err_at : {T E : Type 0} (r : Result T E) (P : Type 0) → is_err r ≡ true → OnErr r P → P
err_at (Ok x) P e h = absurd (cc)
err_at (Err x) P e h = h

pub ok_at : {T E : Type 0} (r : Result T E) (P : Type 0) → is_err r ≡ false → OnOk r P → P
ok_at (Ok x) P e h = h
ok_at (Err x) P e h = absurd (cc)

pub same_back : {E : Type 0} (b : Bool) (x y : Option E) → (b ≡ true → x ≡ y) → cond b x y ≡ y
same_back true x y h = h refl
same_back false x y h = refl

-- what changed at p alone
pub at_one : {E : Type 0} (m n : ℕ → Option E) (p : ℕ) (f : E → E) → n p ≡ option_map f (m p) → ((z : ℕ) → (p ≡ z → ⊥) → n z ≡ m z)
    → (z : ℕ) → n z ≡ cond (eqb p z) (option_map f (m z)) (m z)
at_one m n p f h o z =
    by_go (eqb p z)
    (λ q. subst (λ y. n y ≡ option_map f (m y)) (eqb-true p z q) h ∙ ap (λ b. cond b (option_map f (m z)) (m z)) (sym q))
    (λ q. o z (eqb-false p z q) ∙ ap (λ b. cond b (option_map f (m z)) (m z)) (sym q))

pub relinks_within : (m k n : ℕ → Option Entry) (moved old new index : ℕ) → eqb old new ≡ true
    → ((z : ℕ) → k z ≡ cond (eqb new z) (option_map (child_moved index moved) (m z)) (m z))
    → ((z : ℕ) → n z ≡ cond (eqb moved z) (option_map (above_set new) (k z)) (k z))
    → Relinks m n moved old new index
relinks_within m k n moved old new index e a b =
    subst (λ o. Relinks m n moved o new index) (sym (eqb-true old new e))
    (record { at = λ z. b z ∙ (ap (λ o. cond (eqb moved z) (option_map (above_set new) o) o) (a z) ∙ both (eqb new z) (eqb moved z) z refl refl (m z)) })
  where
    both : (s t : Bool) (z : ℕ) → eqb new z ≡ s → eqb moved z ≡ t → (o : Option Entry)
        → cond t (option_map (above_set new) (cond s (option_map (child_moved index moved) o) o)) (cond s (option_map (child_moved index moved) o) o) ≡ option_map (relinked moved new new index z) o
    both true true z p q None = refl
    both true false z p q None = refl
    both false true z p q None = refl
    both false false z p q None = refl
    both true true z p q (Some x) = rw (p, q) refl
    both true false z p q (Some x) = rw (p, q) refl
    both false true z p q (Some x) = rw (p, q) refl
    both false false z p q (Some x) = rw (p, q) refl

pub relinks_across : (m k l n : ℕ → Option Entry) (moved old new index : ℕ) → eqb old new ≡ false
    → ((z : ℕ) → k z ≡ cond (eqb new z) (option_map (child_added index moved) (m z)) (m z))
    → ((z : ℕ) → l z ≡ cond (eqb old z) (option_map (child_dropped moved) (k z)) (k z))
    → ((z : ℕ) → n z ≡ cond (eqb moved z) (option_map (above_set new) (l z)) (l z))
    → Relinks m n moved old new index
relinks_across m k l n moved old new index e a b c = record {
  at = λ z. c z ∙ (ap (λ o. cond (eqb moved z) (option_map (above_set new) o) o) (b z ∙ ap (λ o. cond (eqb old z) (option_map (child_dropped moved) o) o) (a z))
      ∙ all (eqb new z) (eqb old z) (eqb moved z) z refl refl refl (m z));
}
  where
    clash : (z : ℕ) → eqb new z ≡ true → eqb old z ≡ true → ⊥
    clash z p q = false≢true (sym e ∙ subst (λ y. eqb old y ≡ true) (sym (eqb-true new z p)) q)

    step : Bool → Bool → Bool → Option Entry → Option Entry
    step s u t o =
        let k' = cond s (option_map (child_added index moved) o) o in
        let l' = cond u (option_map (child_dropped moved) k') k' in
        cond t (option_map (above_set new) l') l'

    all : (s u t : Bool) (z : ℕ) → eqb new z ≡ s → eqb old z ≡ u → eqb moved z ≡ t → (o : Option Entry) → step s u t o ≡ option_map (relinked moved old new index z) o
    all s u t z p v q None = none s u t
      where
        none : (s u t : Bool) → step s u t None ≡ None
        none true true true = refl
        none true true false = refl
        none true false true = refl
        none true false false = refl
        none false true true = refl
        none false true false = refl
        none false false true = refl
        none false false false = refl
    all true true t z p v q (Some x) = absurd (clash z p v)
    all true false true z p v q (Some x) = rw (p, v, q) refl
    all true false false z p v q (Some x) = rw (p, v, q) refl
    all false true true z p v q (Some x) = rw (p, v, q) refl
    all false true false z p v q (Some x) = rw (p, v, q) refl
    all false false true z p v q (Some x) = rw (p, v, q) refl
    all false false false z p v q (Some x) = rw (p, v, q) refl

-- ---- lengths

length-removed : (z : ℕ) (js : List ℕ) → length (removed z js) ≤ length js
length-removed z [] = omega arith
length-removed z (j ∷ js) = by_go (eqb j z) (λ q. rw q (omega arith)) (λ q. rw q (omega (arith, length-removed z js)))

-- taking all out takes no fewer than taking one out
pub length-others : (z : ℕ) (js : List ℕ) → length (filter (λ c. not (eqb c z)) js) ≤ length (removed z js)
length-others z [] = omega arith
length-others z (j ∷ js) =
    by_go (eqb j z)
    (λ q. rw q (all_less js))
    (λ q. rw q (omega (arith, length-others z js)))
  where
    all_less : (ks : List ℕ) → length (filter (λ c. not (eqb c z)) ks) ≤ length ks
    all_less [] = omega arith
    all_less (k ∷ ks) = by_go (eqb k z) (λ q. rw q (omega (arith, all_less ks))) (λ q. rw q (omega (arith, all_less ks)))

pub within_longer : (z index : ℕ) (o : Option Entry) → IfSome o (λ e. index ≤ length (removed z e.node.children)) → IfSome o (λ e. index ≤ length e.node.children)
within_longer z index None h = tt
within_longer z index (Some e) h = omega (arith, h, length-removed z e.node.children)
