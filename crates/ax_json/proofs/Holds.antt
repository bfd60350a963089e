-- What holds of each value that is read.
use Rattle.std.proofs.Common.{◌+◌, ℕ, List, ◌∷◌, Bool, true, false, cond, Option, Some, None, Result, Ok, Err, IfOk, IfSome, All}
use Rattle.std.proofs.lemmas.List.Elements.{All-nil, All-cons}
use Rattle.serde_json.specs.Data.{Data, Items, no_items, item}
use Rattle.ax_json.specs.Refused.{Refusal, ◌>>=◌, within}
use Rattle.ax_json.specs.Walk.{required, optional, list_of, each, dot, place, array_of}

pub then : {A B : Type 0} (P : B → Type 0) (r : Result A Refusal) (f : A → Result B Refusal) → ((x : A) → IfOk (f x) P) → IfOk (r >>= f) P
then P (Ok x) f h = h x
then P (Err e) f h = tt

pub then_with : {A B : Type 0} (Q : A → Type 0) (P : B → Type 0) (r : Result A Refusal) (f : A → Result B Refusal) → IfOk r Q → ((x : A) → Q x → IfOk (f x) P) → IfOk (r >>= f) P
then_with Q P (Ok x) f q h = h x q
then_with Q P (Err e) f q h = tt

pub inside : {A : Type 0} (P : A → Type 0) (step : List ℕ) (r : Result A Refusal) → IfOk r P → IfOk (within step r) P
inside P step (Ok x) h = h
inside P step (Err e) h = tt

pub either : {A E : Type 0} (P : A → Type 0) (b : Bool) (r s : Result A E) → IfOk r P → IfOk s P → IfOk (cond b r s) P
either P true r s hr hs = hr
either P false r s hr hs = hs

-- ---- members

pub member_holds : {A : Type 0} (P : A → Type 0) (f : Data → Result A Refusal) (name : List ℕ) (found : Option Data) → ((d : Data) → IfOk (f d) P) → IfOk (required f name found) P
unfolding required
member_holds P f name None h = tt
member_holds P f name (Some d) h = inside P (dot name) (f d) (h d)

pub option_holds : {A : Type 0} (P : A → Type 0) (f : Data → Result A Refusal) (name : List ℕ) (found : Option Data) → ((d : Data) → IfOk (f d) P) → IfOk (optional f name found) (λ o. IfSome o P)
unfolding optional
option_holds P f name None h = tt
option_holds P f name (Some d) h = then_with P (λ o. IfSome o P) (within (dot name) (f d)) (λ x. Ok (Some x)) (inside P (dot name) (f d) (h d)) (λ x p. p)

-- ---- items

pub each_holds : {A : Type 0} (P : A → Type 0) (f : Data → Result A Refusal) (i : ℕ) (items : Items) → ((d : Data) → IfOk (f d) P) → IfOk (each f i items) (λ xs. All P xs)
each_holds P f i no_items h = All-nil P
each_holds P f i (item d ds) h =
    then_with P (λ xs. All P xs) (within (place i) (f d)) (λ x. each f (i + 1) ds >>= λ xs. Ok (x ∷ xs)) (inside P (place i) (f d) (h d))
    (λ x p. then_with (λ xs. All P xs) (λ xs. All P xs) (each f (i + 1) ds) (λ xs. Ok (x ∷ xs)) (each_holds P f (i + 1) ds h) (λ xs ps. All-cons P x xs p ps))

pub list_holds : {A : Type 0} (P : A → Type 0) (f : Data → Result A Refusal) (d : Data) → ((d : Data) → IfOk (f d) P) → IfOk (list_of f d) (λ xs. All P xs)
unfolding list_of
list_holds P f d h = then (λ xs. All P xs) (array_of d) (λ items. each f 0 items) (λ items. each_holds P f 0 items h)
