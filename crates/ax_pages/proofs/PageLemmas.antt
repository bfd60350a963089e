-- What a block has once a page goes with its single value.
use Rattle.std.proofs.Common.{◌≡◌, ℕ, ◌/◌, ◌%◌, Bool, true, false, cond, eqb, List, Option, Some, None, refl, sym, ap, ◌∙◌, arith}
use Rattle.std.specs.Prelude.{option_and_then, nat_eq, is_some, IsSome}
use Rattle.std.proofs.lemmas.Bool.{eqb-true, eqb-false}
use Rattle.ax_pages.specs.Slots.{slot, used_count}
use Rattle.ax_pages.specs.Table.{value_in, PutsIn}
use Rattle.ax_pages.proofs.SlotLemmas.{none_beside}

module _ {X : Type 0} where
  -- the value at a place of a page that may be there
  abbrev in_page : ℕ → Option (List (Option X)) → Option X
  in_page l v = option_and_then (λ page. slot page l) v

  pub page_gone : (b c : List (Option (List (Option X)))) (place id : ℕ) (page : List (Option X)) → slot b place ≡ Some page → place ≡ id / 64 % 64
      → ((j : ℕ) → slot c j ≡ cond (nat_eq place j) None (slot b j)) → used_count page ≡ 1 → IsSome (value_in b id) → PutsIn b c id None
  page_gone b c place id page had its gone one there q same = ap (in_page (q % 64)) (gone (q / 64 % 64)) ∙ go (eqb place (q / 64 % 64)) refl (eqb id q) refl
    where
      here : IsSome (slot page (id % 64))
      here = sym (ap (λ v. is_some (in_page (id % 64) v)) (ap (slot b) (sym its) ∙ had)) ∙ there

      beside : place ≡ q / 64 % 64 → eqb id q ≡ false → value_in b q ≡ None
      beside p apart =
          ap (in_page (q % 64)) (ap (slot b) (sym p) ∙ had)
          ∙ none_beside page (id % 64) (q % 64) one here (λ r. eqb-false id q apart (omega (arith, same, its, p, r)))

      go : (t : Bool) → eqb place (q / 64 % 64) ≡ t → (u : Bool) → eqb id q ≡ u → in_page (q % 64) (cond t None (slot b (q / 64 % 64))) ≡ cond u None (value_in b q)
      go false e false f = refl
      go false e true f = absurd (eqb-false place (q / 64 % 64) e (its ∙ ap (λ n. n / 64 % 64) (eqb-true id q f)))
      go true e true f = refl
      go true e false f = sym (beside (eqb-true place (q / 64 % 64) e) f)
