-- Lists of ids from which one is taken, or in which one is moved.
use Rattle.std.proofs.Common.{ℕ, zero, suc, ◌+◌, ◌≤◌, ◌<◌, ◌≡◌, List, [], ◌∷◌, ◌++◌, length, take, drop, get_or, refl, ap, ◌∙◌, arith, drop-cons}
use Rattle.std.specs.Prelude.{insert, remove}
use Rattle.std.proofs.lemmas.Bool.{eq-eqb}
use Rattle.ax_trees.specs.Spots.{inserted, removed}

pub removed_here : (z : ℕ) (js : List ℕ) (i d : ℕ) → i < length js → get_or js i d ≡ z → take i js ++ removed z (drop i js) ≡ remove js i
removed_here z js i d h e = ap (λ ks. take i js ++ removed z ks) (drop-cons js i d h) ∙ (rw (eq-eqb _ _ e) refl)

pub insert-inserted : (i z : ℕ) (js : List ℕ) → insert js i z ≡ inserted i z js
insert-inserted zero z js = refl
insert-inserted (suc i) z [] = refl
insert-inserted (suc i) z (j ∷ js) = ap (λ ks. j ∷ ks) (insert-inserted i z js)

-- put in after its place and then taken out there, and put in before it and taken out one later
pub moved_on : (js : List ℕ) (at index z : ℕ) → at ≤ index → at < length js → remove (insert js (suc index) z) at ≡ insert (remove js at) index z
moved_on [] at index z l h = absurd (omega arith)
moved_on (j ∷ js) zero index z l h = refl
moved_on (j ∷ js) (suc at) zero z l h = absurd (omega arith)
moved_on (j ∷ js) (suc at) (suc index) z l h = ap (λ ks. j ∷ ks) (moved_on js at index z (omega arith) (omega arith))

pub moved_back : (js : List ℕ) (at index z : ℕ) → index ≤ at → at < length js → remove (insert js index z) (suc at) ≡ insert (remove js at) index z
moved_back [] at index z l h = absurd (omega arith)
moved_back (j ∷ js) at zero z l h = refl
moved_back (j ∷ js) zero (suc index) z l h = absurd (omega arith)
moved_back (j ∷ js) (suc at) (suc index) z l h = ap (λ ks. j ∷ ks) (moved_back js at index z (omega arith) (omega arith))

pub length-remove : (js : List ℕ) (at : ℕ) → at < length js → suc (length (remove js at)) ≡ length js
length-remove [] at h = absurd (omega arith)
length-remove (j ∷ js) zero h = refl
length-remove (j ∷ js) (suc at) h = ap suc (length-remove js at (omega arith))

pub one_more : (n : ℕ) → n + 1 ≡ suc n
one_more n = omega arith
