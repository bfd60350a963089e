-- How an error of a part is seen from the whole, and how a walk over an array goes on.
use Rattle.std.proofs.Common.{◌≡◌, ℕ, ◌+◌, List, [], ◌∷◌, ◌++◌, append_assoc, refl, ap, sym, Result, Ok, Err, IfSome}
use Rattle.serde_json.specs.Data.{Data, Items, item}
use Rattle.ax_json.specs.declared.refusal.WalkErr.{WalkErr}
use Rattle.ax_json.specs.declared.refusal.WalkErr.TheVariants.{Refused, NoMemory}
use Rattle.ax_json.specs.Refused.{Refusal, ◌>>=◌, within, within_step, IsUnder, refusal_of}
use Rattle.ax_json.specs.Walk.{each, place}

pub under_gives : {A : Type 0} (step : List ℕ) (part whole : WalkErr) (read : Result A Refusal) → IsUnder step part whole → IfSome (refusal_of part) (λ r. read ≡ Err r) → IfSome (refusal_of whole) (λ r. within step read ≡ Err r)
under_gives step NoMemory whole read u h = rw u tt
under_gives step (Refused fault path) NoMemory read u h = tt
under_gives step (Refused fault path) (Refused fault' path') read u h = rw h (ap Err (sym u))

-- what was read before stands before what is read
abbrev pub with_front : {A : Type 0} → List A → Result (List A) Refusal → Result (List A) Refusal
with_front front read = read >>= λ xs. Ok (front ++ xs)

front_moves : {A : Type 0} (front : List A) (x : A) (r : Result (List A) Refusal) → with_front (front ++ x ∷ []) r ≡ with_front front (r >>= λ xs. Ok (x ∷ xs))
front_moves front x (Ok xs) = ap Ok (append_assoc front (x ∷ []) xs)
front_moves front x (Err r) = refl

-- one item more was read
pub each_ok : {A : Type 0} (f : Data → Result A Refusal) (i : ℕ) (front : List A) (d : Data) (ds : Items) (x : A) → f d ≡ Ok x → with_front (front ++ x ∷ []) (each f (i + 1) ds) ≡ with_front front (each f i (item d ds))
each_ok f i front d ds x e = rw e (front_moves front x (each f (i + 1) ds))

-- an item was refused
pub each_err : {A : Type 0} (f : Data → Result A Refusal) (i : ℕ) (front : List A) (d : Data) (ds : Items) (r : Refusal) → f d ≡ Err r → with_front front (each f i (item d ds)) ≡ Err (within_step (place i) r)
each_err f i front d ds r e = rw e
