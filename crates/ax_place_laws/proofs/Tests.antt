-- Lists in which an element passes a test. Belongs beside the words of ax_rules/specs/Sequences.
use Rattle.std.proofs.Common.{◌≡◌, Bool, true, false, ◌||◌, ◌&&◌, List, [], ◌∷◌, map, filter, refl, ap, Option, Some, None, option_map}
use Rattle.std.specs.Prelude.{is_some}
use Rattle.std.specs.List.{list_any}
use Rattle.std.proofs.lemmas.Bool.{false≢true}
use Rattle.ax_trees.proofs.Trees.{by_go}
use Rattle.ax_rules.specs.Sequences.{first_of, last_of}
use Rattle.ax_stitch.proofs.Lists.{last_of-cons}

pub later_passes : (a b : Bool) → b ≡ true → (a || b) ≡ true
later_passes true b h = refl
later_passes false b h = h

pub any_map : {A B : Type 0} (q : B → Bool) (f : A → B) (xs : List A) → list_any q (map f xs) ≡ list_any (λ x. q (f x)) xs
any_map q f [] = refl
any_map q f (x ∷ xs) = ap (λ b. q (f x) || b) (any_map q f xs)

pub any_kept : {A : Type 0} (q keep : A → Bool) (xs : List A) → list_any q (filter keep xs) ≡ list_any (λ x. q x && keep x) xs
any_kept q keep [] = refl
any_kept q keep (x ∷ xs) =
    let e = any_kept q keep xs in
    by_go (keep x)
    (λ k. by_go (q x) (λ h. rw (k, h) refl) (λ h. rw (k, h) e))
    (λ k. by_go (q x) (λ h. rw (k, h) e) (λ h. rw (k, h) e))

-- where one passes there is a first and a last that does
pub first_passes : {A : Type 0} (q : A → Bool) (xs : List A) → list_any q xs ≡ true → is_some (first_of (filter q xs)) ≡ true
first_passes q [] h = absurd (false≢true h)
first_passes q (x ∷ xs) h = by_go (q x) (λ k. rw k refl) (λ k. rw k (first_passes q xs (rw k at h)))

pub passes_first : {A : Type 0} (q : A → Bool) (xs : List A) → is_some (first_of (filter q xs)) ≡ true → list_any q xs ≡ true
passes_first q [] h = absurd (false≢true h)
passes_first q (x ∷ xs) h = by_go (q x) (λ k. rw k refl) (λ k. rw k (passes_first q xs (rw k at h)))

some_last : {A : Type 0} (xs : List A) → is_some (first_of xs) ≡ true → is_some (last_of xs) ≡ true
some_last [] h = absurd (false≢true h)
some_last (x ∷ xs) h = ap is_some (last_of-cons x xs)

pub last_passes : {A : Type 0} (q : A → Bool) (xs : List A) → list_any q xs ≡ true → is_some (last_of (filter q xs)) ≡ true
last_passes q xs h = some_last (filter q xs) (first_passes q xs h)

pub some_mapped : {A B : Type 0} (f : A → B) (o : Option A) → is_some o ≡ true → is_some (option_map f o) ≡ true
some_mapped f None h = absurd (false≢true h)
some_mapped f (Some x) h = refl
