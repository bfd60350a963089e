-- What a refusal says, and what a reader answers beside what reading gives.
use Rattle.std.specs.Prelude.{◌≡◌, ℕ, List, ◌++◌, Option, Some, None, Result, Ok, Err, IfSome, string_bytes}
use Rattle.ax_json.specs.declared.refusal.Fault.{Fault}
use Rattle.ax_json.specs.declared.refusal.WalkErr.{WalkErr}
use Rattle.ax_json.specs.declared.refusal.WalkErr.TheVariants.{Refused, NoMemory}

-- what is wrong, and the way to it from the value that was read
pub record Refusal : Type 0 where
  pub fault : Fault
  pub path : List ℕ

-- the refusal that an error is, unless memory ran out
abbrev pub refusal_of : WalkErr → Option Refusal
refusal_of (Refused fault path) = Some (record { fault = fault; path = string_bytes path })
refusal_of NoMemory = None

infixl 10 ◌>>=◌
abbrev pub ◌>>=◌ : {A B : Type 0} → Result A Refusal → (A → Result B Refusal) → Result B Refusal
(Ok x) >>= f = f x
(Err r) >>= f = Err r

-- What a function returned, seen by `seen`, is what reading gives, unless memory ran out.
abbrev pub Gives : {X Y : Type 0} → (X → Y) → Result X WalkErr → Result Y Refusal → Type 0
Gives seen (Ok x) read = read ≡ Ok (seen x)
Gives seen (Err e) read = IfSome (refusal_of e) (λ r. read ≡ Err r)

-- the refusal of a part, seen from the whole
abbrev pub within_step : List ℕ → Refusal → Refusal
within_step step r = record { fault = r.fault; path = step ++ r.path }

-- what reading a part gives, seen from the whole
abbrev pub within : {A : Type 0} → List ℕ → Result A Refusal → Result A Refusal
within step (Ok x) = Ok x
within step (Err r) = Err (within_step step r)

-- an error seen from the whole is the part's
abbrev pub IsUnder : List ℕ → WalkErr → WalkErr → Type 0
IsUnder step NoMemory whole = refusal_of whole ≡ None
IsUnder step (Refused fault path) whole = IfSome (refusal_of whole) (λ r. r ≡ within_step step (record { fault = fault; path = string_bytes path }))
