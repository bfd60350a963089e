-- What a map has and how long it is after a change.
use Rattle.std.proofs.Common.{◌≡◌, ℕ, zero, suc, ◌+◌, ◌-◌, ◌≤◌, Bool, true, false, cond, eqb, Option, Some, None, refl, sym, ap, ◌∙◌, arith}
use Rattle.std.specs.Prelude.{is_some, not, option_map, IsSome}
use Rattle.std.proofs.lemmas.Bool.{eqb-true}
use Rattle.std.specs.Ordering.{nat_cmp}
use Rattle.std.specs.Cmp.{nat_cmp_total}
use Rattle.std.specs.FinMap.{FinMap, get, insert, remove, contains_key, len, get-remove, get-empty, len-insert, len-remove, empty_of_len, same_map, nat_cmp-IsAntisymmetric}
use Rattle.ax_pages.proofs.TableLemmas.{cmp_is}

module _ {X : Type 0} where
  -- an id that has no value is taken out by nothing
  pub remove_absent : (s : FinMap nat_cmp X) (id : ℕ) → get s id ≡ None → s ≡ remove s id
  remove_absent s id h =
      same_map nat_cmp_total nat_cmp-IsAntisymmetric _ _ (λ q. sym (get-remove nat_cmp_total s id q ∙ ap (λ b. cond b None (get s q)) (cmp_is q id) ∙ go q (eqb id q) refl))
    where
      go : (q : ℕ) (b : Bool) → eqb id q ≡ b → cond b None (get s q) ≡ get s q
      go q true e = sym (ap (get s) (sym (eqb-true id q e)) ∙ h)
      go q false e = refl

  -- a map with a value isn't empty
  pub one_le_len : (s : FinMap nat_cmp X) (id : ℕ) → IsSome (get s id) → 1 ≤ len s
  one_le_len s id h = go (len s) refl
    where
      go : (n : ℕ) → len s ≡ n → 1 ≤ n
      go zero e =
          let none : get s id ≡ None = ap (λ m. get m id) (empty_of_len s e) ∙ get-empty nat_cmp id in
          absurd (cc)
      go (suc n) e = omega arith

  -- what was read, and whether there was anything
  pub absent : {A : Type 0} (f : A → X) (o : Option A) (p : Option X) (b : Bool) → option_map f o ≡ p → is_some o ≡ not b → b ≡ true → p ≡ None
  absent f None p b e n t = sym e
  absent f (Some x) p b e n t = absurd (cc)

  pub present : {A : Type 0} (f : A → X) (o : Option A) (p : Option X) (b : Bool) → option_map f o ≡ p → is_some o ≡ not b → b ≡ false → IsSome p
  present f None p b e n t = absurd (cc)
  present f (Some x) p b e n t = ap is_some (sym e)

  pub len_put : (s t u : FinMap nat_cmp X) (id n : ℕ) (v : X) → s ≡ u → n ≡ cond (contains_key u id) (len u) (len u + 1) → t ≡ insert s id v → n ≡ len t
  len_put s t u id n v same e f = e ∙ sym (ap len (f ∙ ap (λ m. insert m id v) same) ∙ len-insert nat_cmp_total u id v)

  pub len_out : (s t : FinMap nat_cmp X) (id n : ℕ) → n ≡ len s → IsSome (get s id) → t ≡ remove s id → n - 1 ≡ len t
  len_out s t id n e there f = ap (λ k. k - 1) e ∙ sym (ap len f ∙ len-remove nat_cmp_total s id ∙ ap (λ b. cond b (len s - 1) (len s)) there)
