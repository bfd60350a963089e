-- What buffers begin with.
use Rattle.std.proofs.Common.{ℕ, ◌≡◌, List, [], ◌++◌, length, take, sym, ap, subst, Ok, Err, Result, OnErr, ◌∙◌, append_assoc, append-nil}
use Rattle.std.proofs.Math.Seq.{take-append_seam}
use Rattle.std.specs.declared.alloc.AllocError.{AllocError}
use Rattle.ax_report.specs.Buffers.{Extends}

pub begins_same : (xs : List ℕ) → Extends xs xs
begins_same xs = record { more = []; whole = sym (append-nil xs) }

-- what begins with a longer text begins with its front
pub begins_front : (xs ys zs : List ℕ) → Extends (xs ++ ys) zs → Extends xs zs
begins_front xs ys zs b = record { more = ys ++ b.more; whole = b.whole ∙ append_assoc xs ys b.more }

pub begins_equal : (xs ys : List ℕ) → ys ≡ xs → Extends xs ys
begins_equal xs ys e = record { more = []; whole = e ∙ sym (append-nil xs) }

-- what a goal about a front of a buffer is shown by
pub ruleset begins = (begins_same, begins_front, begins_equal)

-- the front of what begins with a text
pub front_of : (xs ys : List ℕ) → Extends xs ys → take (length xs) ys ≡ xs
front_of xs ys b = ap (take (length xs)) b.whole ∙ take-append_seam xs b.more

-- where a call behind a text gave an error
pub on_err : (r : Result (Unit {0}) AllocError) (xs ys ws zs : List ℕ) → ws ≡ xs ++ ys → OnErr r (Extends ws zs) → OnErr r (Extends xs zs)
on_err (Ok u) xs ys ws zs e h = tt
on_err (Err f) xs ys ws zs e h = begins_front xs ys zs (subst (λ vs. Extends vs zs) e h)

pub extends_on : (xs ys zs : List ℕ) → Extends xs ys → Extends ys zs → Extends xs zs
extends_on xs ys zs a b = record { more = a.more ++ b.more; whole = b.whole ∙ (ap (λ vs. vs ++ b.more) a.whole ∙ append_assoc xs a.more b.more) }

-- where a call gave an error behind what was appended
pub err_more : (r : Result (Unit {0}) AllocError) (xs ys zs : List ℕ) → Extends xs ys → Extends ys zs → OnErr r (Extends xs zs)
err_more (Ok u) xs ys zs a b = tt
err_more (Err f) xs ys zs a b = extends_on xs ys zs a b
