-- Attributes after a change, and what a call asked of the place of a key.
use Rattle.std.proofs.Common.{◌≡◌, ℕ, zero, suc, ◌<◌, Bool, true, false, cond, ◌==◌, nat_lt, List, [], ◌∷◌, Option, Some, None, is_some, IfSome, length, insert, remove, slice_get, slice_set, refl, sym, ap, subst, ◌∙◌, arith}
use Rattle.std.specs.List.{prefix_len}
use Rattle.std.specs.Option.{unwrap_or}
use Rattle.std.specs.Ordering.{nat_cmp}
use Rattle.std.specs.FinMap.Entries.{find, put}
use Rattle.std.proofs.lemmas.Bool.{eqb-true}
use Rattle.ax_base.specs.Entries.{without, has_key, value_at}
use Rattle.ax_base.proofs.EntryLemmas.{place, place_is, find-place, is_some-find, find-put-nat, find-without, put-there, put-absent, without-there, without-absent, IsMap-put, IsMap-without}
use Rattle.ax_node.specs.declared.value.Value.{Value}
use Rattle.ax_node.specs.Attrs.{AreAttrs, IsOfKind}

if_some : {X : Type 0} {P : X → Type 0} (o : Option X) → ((x : X) → o ≡ Some x → P x) → IfSome o P
if_some None h = tt
if_some (Some x) h = h x refl

same_value : {X : Type 0} (x y : X) → Some x ≡ Some y → x ≡ y
same_value x y e = ap (λ o. unwrap_or o x) e

nothing : {X : Type 0} {x : X} → None ≡ Some x → ⊥
nothing h = cc

pub AreAttrs-put : (k : ℕ) (v : Value) (es : List (ℕ × Value)) → IsOfKind k v → AreAttrs es → AreAttrs (put nat_cmp k v es)
AreAttrs-put k v es fits h = record {
  keys = IsMap-put k v es h.keys;
  kinds = λ q w f.
      elim (q == k) as (λ b. (q == k) ≡ b → cond b (Some v) (find nat_cmp q es) ≡ Some w → IsOfKind q w) [
        | true ↦ λ e s. subst (λ x. IsOfKind x w) (sym (eqb-true q k e)) (subst (IsOfKind k) (same_value v w s) fits)
        | false ↦ λ e s. h.kinds q w s
      ] refl (sym (find-put-nat q k v es) ∙ f);
}

pub AreAttrs-without : (k : ℕ) (es : List (ℕ × Value)) → AreAttrs es → AreAttrs (without k es)
AreAttrs-without k es h = record {
  keys = IsMap-without k es h.keys;
  kinds = λ q w f.
      elim (q == k) as (λ b. cond b None (find nat_cmp q es) ≡ Some w → IsOfKind q w) [
        | true ↦ λ s. absurd (nothing s)
        | false ↦ λ s. h.kinds q w s
      ] (sym (find-without q k es) ∙ f);
}

-- What a call learns of attributes es by asking lists that are equal to it.
module _ (k : ℕ) (es one two : List (ℕ × Value)) (p : ℕ) (first : one ≡ es) (second : two ≡ es) (here : p ≡ prefix_len (λ e. nat_lt e.0 k) one) where
  pub is_place : p ≡ place k es
  is_place = here ∙ ap (prefix_len (λ e. nat_lt e.0 k)) first ∙ place_is k es

  pub found : (o : Option Value) → AreAttrs es → o ≡ value_at k (slice_get two p) → o ≡ find nat_cmp k es
  found o h e = e ∙ ap (λ xs. value_at k (slice_get xs p)) second ∙ ap (λ n. value_at k (slice_get es n)) is_place ∙ sym (find-place k es h.keys)

  pub found_kind : (o : Option Value) → AreAttrs es → o ≡ value_at k (slice_get two p) → IfSome o (IsOfKind k)
  found_kind o h e = if_some o (λ v s. h.kinds k v (sym (found o h e) ∙ s))

  pub asked : (b : Bool) → b ≡ has_key k (slice_get two p) → b ≡ has_key k (slice_get es (place k es))
  asked b e = e ∙ ap (λ xs. has_key k (slice_get xs p)) second ∙ ap (λ n. has_key k (slice_get es n)) is_place

  module _ (b : Bool) (answer : b ≡ has_key k (slice_get two p)) where
    pub set_there : (v : Value) → b ≡ true → slice_set es p (k, v) ≡ put nat_cmp k v es
    set_there v t = ap (λ n. slice_set es n (k, v)) is_place ∙ sym (put-there k v es (sym (asked b answer) ∙ t))

    pub set_absent : (v : Value) → b ≡ false → insert es p (k, v) ≡ put nat_cmp k v es
    set_absent v t = ap (λ n. insert es n (k, v)) is_place ∙ sym (put-absent k v es (sym (asked b answer) ∙ t))

    pub is_there : AreAttrs es → b ≡ is_some (find nat_cmp k es)
    is_there h = asked b answer ∙ sym (is_some-find k es h.keys)

    pub unset_there : AreAttrs es → b ≡ true → remove es p ≡ without k es
    unset_there h t = ap (remove es) is_place ∙ sym (without-there k es h.keys (sym (asked b answer) ∙ t))

    pub unset_absent : AreAttrs es → b ≡ false → es ≡ without k es
    unset_absent h t = sym (without-absent k es h.keys (sym (asked b answer) ∙ t))

-- a place with a key is one of the list's
pub key_within : {X : Type 0} (k : ℕ) (es : List (ℕ × X)) (p : ℕ) → has_key k (slice_get es p) ≡ true → p < length es
key_within k [] p h = absurd (no_key h)
  where
    no_key : false ≡ true → ⊥
    no_key h = cc
key_within k (e ∷ es) zero h = omega arith
key_within k (e ∷ es) (suc p) h = omega (arith, key_within k es p h)
