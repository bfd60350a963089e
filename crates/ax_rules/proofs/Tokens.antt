-- The token after one more entry.
use Rattle.std.proofs.Common.{ℕ, ◌+◌, ◌≡◌, Bool, true, false, cond, List, [], ◌∷◌, ◌++◌, length, filter, refl, arith}
use Rattle.std.specs.List.{list_any}
use Rattle.ax_tree.specs.declared.packet.HEntry.{HEntry}
use Rattle.ax_rules.specs.Sequences.{until}
use Rattle.ax_rules.specs.Histories.{ends, asks, is_gone, token_of}

in_front : {A : Type 0} (p q : A → Bool) (x e : A) (xs : List A) (b c : Bool) → p x ≡ b → q x ≡ c
    → length (filter q (until p (xs ++ e ∷ []))) ≡ cond (list_any p xs) (length (filter q (until p xs))) (length (filter q (until p xs)) + length (filter q (until p (e ∷ []))))
    → length (filter q (until p (x ∷ (xs ++ e ∷ [])))) ≡ cond (list_any p (x ∷ xs)) (length (filter q (until p (x ∷ xs)))) (length (filter q (until p (x ∷ xs))) + length (filter q (until p (e ∷ []))))
in_front p q x e xs true c h k ih = rw h refl
in_front p q x e xs false true h k ih = grind (arith, h, k, ih)
in_front p q x e xs false false h k ih = grind (arith, h, k, ih)

-- how many pass q before the first that passes p, after one more element
pub counted-append : {A : Type 0} (p q : A → Bool) (xs : List A) (e : A)
    → length (filter q (until p (xs ++ e ∷ []))) ≡ cond (list_any p xs) (length (filter q (until p xs))) (length (filter q (until p xs)) + length (filter q (until p (e ∷ []))))
counted-append p q [] e = omega arith
counted-append p q (x ∷ xs) e = in_front p q x e xs (p x) (q x) refl refl (counted-append p q xs e)

-- an entry that asks raises the token of a tree that isn't gone
pub token-append : (h : List HEntry) (e : HEntry) (t : ℕ) → token_of (h ++ e ∷ []) t ≡ cond (is_gone h t) (token_of h t) (token_of h t + length (filter (asks t) (until (ends t) (e ∷ []))))
unfolding token_of is_gone
token-append h e t = counted-append (ends t) (asks t) h e
