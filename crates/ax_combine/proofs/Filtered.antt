-- Lists that are filtered one element after the other.
use Rattle.std.proofs.Common.{ℕ, ◌+◌, ◌<◌, ◌≤◌, ◌≡◌, List, [], ◌∷◌, ◌++◌, take, length, get_or, filter_map, Option, Some, None, refl, sym, ap, ◌∙◌}
use Rattle.std.specs.Prelude.{option_to_list}
use Rattle.std.proofs.lemmas.List.{take_more, take_all}
use Rattle.std.proofs.lemmas.List.Elements.{filter_map-append}

one_of : {A B : Type 0} (f : A → Option B) (x : A) (o : Option B) → f x ≡ o → filter_map f (x ∷ []) ≡ option_to_list o
one_of f x None e = rw e refl
one_of f x (Some y) e = rw e refl

pub filtered_more : {A B : Type 0} (f : A → Option B) (xs : List A) (i : ℕ) (x : A) (out later : List B) → i < length xs → x ≡ get_or xs i x → out ≡ filter_map f (take i xs) → later ≡ out ++ option_to_list (f x)
    → later ≡ filter_map f (take (i + 1) xs)
filtered_more f xs i x out later l g h k =
    k
    ∙ (ap (λ r. r ++ option_to_list (f x)) h
    ∙ (ap (λ r. filter_map f (take i xs) ++ r) (sym (one_of f x (f x) refl))
    ∙ (sym (filter_map-append f (take i xs) (x ∷ [])) ∙ ap (filter_map f) (sym (take_more xs i x l ∙ ap (λ y. take i xs ++ y ∷ []) (sym g))))))

pub filtered_all : {A B : Type 0} (f : A → Option B) (xs ys : List A) (i : ℕ) (out : List B) → length xs ≤ i → xs ≡ ys → out ≡ filter_map f (take i xs) → out ≡ filter_map f ys
filtered_all f xs ys i out l e h = h ∙ ap (filter_map f) (take_all i xs l ∙ e)
