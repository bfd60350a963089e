-- Two lists without ids that stand in both: what is left of them, and the loop that finds it.
use Rattle.std.proofs.Common.{ℕ, ◌≡◌, ◌≤◌, ◌<◌, ◌+◌, true, false, eqb, List, [], ◌∷◌, ◌++◌, length, drop, get_or, ◌⊎◌, inl, inr, Some, refl, sym, ap, subst, ◌∙◌, arith, append_assoc}
use Rattle.std.specs.Prelude.{slice_get, slice_range}
use Rattle.std.proofs.lemmas.Bool.{eqb-true, false≢true}
use Rattle.std.proofs.lemmas.List.{append-nil, drop_all, drop_more}
use Rattle.std.proofs.lemmas.List.Edits.{between_more}
use Rattle.std.proofs.lemmas.List.Folds.{drop_split}
use Rattle.std.proofs.lemmas.Slice.{between_to_end}
use Rattle.std.proofs.lemmas.Option.{get_or_from_slice_get, slice_get_within}
use Rattle.ax_trees.specs.Lists.{NoneTwice, contains}
use Rattle.ax_trees.proofs.Trees.{by_go}
use Rattle.ax_trees.proofs.Lists.{contains-push}
use Rattle.ax_client.specs.Parted.{AreParts, none, both, goes, comes}
use Rattle.ax_client.proofs.Taking.{drop_at}

-- ---- what is left of them

pub come_new : {o n g c : List ℕ} (z : ℕ) → AreParts o n g c → contains c z ≡ true → contains n z ≡ true
come_new z none h = h
come_new z (both x p) h = let more = come_new z p h in grind (arith, more)
come_new z (goes x p) h = come_new z p h
come_new z (comes x p) h = grind (arith, h, come_new z p)

pub gone_old : {o n g c : List ℕ} (z : ℕ) → AreParts o n g c → contains g z ≡ true → contains o z ≡ true
gone_old z none h = h
gone_old z (both x p) h = let more = gone_old z p h in grind (arith, more)
gone_old z (goes x p) h = grind (arith, h, gone_old z p)
gone_old z (comes x p) h = gone_old z p h

-- what isn't left of the one stands in the other
pub new_come : {o n g c : List ℕ} (z : ℕ) → AreParts o n g c → contains n z ≡ true → contains o z ≡ false → contains c z ≡ true
new_come z none h a = h
new_come z (both x p) h a = grind (arith, h, a, new_come z p)
new_come z (goes x p) h a = new_come z p h (grind (arith, a))
new_come z (comes x p) h a = grind (arith, h, a, new_come z p)

pub old_gone : {o n g c : List ℕ} (z : ℕ) → AreParts o n g c → contains o z ≡ true → contains n z ≡ false → contains g z ≡ true
old_gone z none h a = h
old_gone z (both x p) h a = grind (arith, h, a, old_gone z p)
old_gone z (goes x p) h a = grind (arith, h, a, old_gone z p)
old_gone z (comes x p) h a = old_gone z p h (grind (arith, a))

-- what is left of the old and stands in the new is left of the new
pub moved : {o n g c : List ℕ} (z : ℕ) → AreParts o n g c → NoneTwice o → contains g z ≡ true → contains n z ≡ true → contains c z ≡ true
moved z none once a b = b
moved z (both {old = o} x p) once a b =
    by_go (eqb x z)
    (λ q. absurd (false≢true (sym once.0 ∙ subst (λ v. contains o v ≡ true) (sym (eqb-true x z q)) (gone_old z p a))))
    (λ q. moved z p once.1 a (grind (arith, b, q)))
moved z (goes {old = o} x p) once a b =
    by_go (eqb x z)
    (λ q. new_come z p b (subst (λ v. contains o v ≡ false) (eqb-true x z q) once.0))
    (λ q. moved z p once.1 (grind (arith, a, q)) b)
moved z (comes x p) once a b = grind (arith, b, moved z p once a)

pub come_short : {o n g c : List ℕ} → AreParts o n g c → length c ≤ length n
come_short none = omega arith
come_short (both x p) = omega (arith, come_short p)
come_short (goes x p) = come_short p
come_short (comes x p) = omega (arith, come_short p)

-- ---- the loop

all_come : (n : List ℕ) → AreParts [] n [] n
all_come [] = none
all_come (x ∷ n) = comes x (all_come n)

-- two lists of which nothing is left out
pub apart : (o n : List ℕ) → AreParts o n o n
apart [] n = all_come n
apart (x ∷ o) n = goes x (apart o n)

all_gone : (o : List ℕ) → AreParts o [] o []
all_gone [] = none
all_gone (x ∷ o) = goes x (all_gone o)

run_gone : {o n g c : List ℕ} (xs : List ℕ) → AreParts o n g c → AreParts (xs ++ o) n (xs ++ g) c
run_gone [] p = p
run_gone (x ∷ xs) p = goes x (run_gone xs p)

-- what is left of the lists' ends goes behind what was left before
abbrev pub IsParting : List ℕ → List ℕ → ℕ → ℕ → List ℕ → List ℕ → Type 0
IsParting o n i j gone come = (g c : List ℕ) → AreParts (drop i o) (drop j n) g c → AreParts o n (gone ++ g) (come ++ c)

pub parting_begins : (o n gone come : List ℕ) → gone ≡ [] → come ≡ [] → IsParting o n 0 0 gone come
parting_begins o n gone come eg ec g c p =
    subst (λ ys. AreParts o n (ys ++ g) (come ++ c)) (sym eg) (subst (λ ys. AreParts o n g (ys ++ c)) (sym ec) p)

pub parting_found : (o n : List ℕ) (i j k x : ℕ) (gone next come : List ℕ) → i ≤ k → slice_get o k ≡ Some x → j < length n → x ≡ get_or n j x → next ≡ gone ++ slice_range o i k
    → IsParting o n i j gone come → IsParting o n (k + 1) (j + 1) next come
parting_found o n i j k x gone next come le at low is e before g c p =
    let old : drop k o ≡ x ∷ drop (k + 1) o = drop_more o k x (slice_get_within o k x at) ∙ ap (λ y. y ∷ drop (k + 1) o) (get_or_from_slice_get o k x x at) in
    let new : drop j n ≡ x ∷ drop (j + 1) n = drop_at n j x low is in
    let one : AreParts (drop k o) (drop j n) g c = subst (λ ys. AreParts ys (drop j n) g c) (sym old) (subst (λ ys. AreParts (x ∷ drop (k + 1) o) ys g c) (sym new) (both x p)) in
    let run : AreParts (drop i o) (drop j n) (slice_range o i k ++ g) c = subst (λ ys. AreParts ys (drop j n) (slice_range o i k ++ g) c) (sym (drop_split o i k le)) (run_gone (slice_range o i k) one) in
    subst (λ ys. AreParts o n ys (come ++ c)) (sym (ap (λ ys. ys ++ g) e ∙ append_assoc gone (slice_range o i k) g)) (before (slice_range o i k ++ g) c run)

pub parting_new : (o n : List ℕ) (i j x : ℕ) (gone come next : List ℕ) → j < length n → x ≡ get_or n j x → next ≡ come ++ x ∷ [] → IsParting o n i j gone come → IsParting o n i (j + 1) gone next
parting_new o n i j x gone come next low is e before g c p =
    let new : drop j n ≡ x ∷ drop (j + 1) n = drop_at n j x low is in
    let one : AreParts (drop i o) (drop j n) g (x ∷ c) = subst (λ ys. AreParts (drop i o) ys g (x ∷ c)) (sym new) (comes x p) in
    subst (λ ys. AreParts o n (gone ++ g) ys) (sym (ap (λ ys. ys ++ c) e ∙ append_assoc come (x ∷ []) c)) (before g (x ∷ c) one)

pub parting_ends : (o n : List ℕ) (i j : ℕ) (gone last come : List ℕ) → length n ≤ j → last ≡ gone ++ slice_range o i (length o) → IsParting o n i j gone come → AreParts o n last come
parting_ends o n i j gone last come low e before =
    let rest : AreParts (drop i o) (drop j n) (drop i o) [] = subst (λ ys. AreParts (drop i o) ys (drop i o) []) (sym (drop_all j n low)) (all_gone (drop i o)) in
    subst (λ ys. AreParts o n ys come) (sym (e ∙ ap (λ ys. gone ++ ys) (between_to_end o i (length o) (omega arith)))) (subst (λ ys. AreParts o n (gone ++ drop i o) ys) (append-nil come) (before (drop i o) [] rest))

-- ---- the next ids from a place on

pub not_next : (ids : List ℕ) (from at x z : ℕ) → from ≤ at → at < length ids → x ≡ get_or ids at x → eqb x z ≡ false → contains (slice_range ids from at) z ≡ false → contains (slice_range ids from (at + 1)) z ≡ false
not_next ids from at x z le low is other before =
    ap (λ js. contains js z) (between_more ids from at x le low ∙ ap (λ y. slice_range ids from at ++ y ∷ []) (sym is))
    ∙ contains-push (slice_range ids from at) x z ∙ (rw (before, other) refl)

pub not_near : (ids : List ℕ) (from end at z : ℕ) → end ≤ at → at ≤ end → end ≤ from + 32 → (end ≡ length ids) ⊎ (end ≡ from + 32) → contains (slice_range ids from at) z ≡ false → contains (slice_range ids from (from + 32)) z ≡ false
not_near ids from end at z ge le near (inl e) before =
    ap (λ js. contains js z) (between_to_end ids from (from + 32) (omega (arith, e, near)) ∙ sym (between_to_end ids from at (omega (arith, e, ge)))) ∙ before
not_near ids from end at z ge le near (inr e) before = subst (λ k. contains (slice_range ids from k) z ≡ false) (let same : at ≡ from + 32 = omega (arith, e, ge, le) in same) before
