-- The parts of a list around an id.
use Rattle.std.proofs.Common.{ℕ, suc, ◌+◌, ◌-◌, ◌<◌, ◌≡◌, eqb, List, [], ◌∷◌, length, take, drop, refl, sym, ap, ◌∙◌, arith, length-drop}
use Rattle.std.proofs.lemmas.List.{take_all}
use Rattle.ax_trees.proofs.Trees.{by_go}
use Rattle.ax_stitch.specs.Orders.{ahead, past}

take_ahead : (xs : List ℕ) (z : ℕ) → take (length (ahead xs z)) xs ≡ ahead xs z
take_ahead [] z = refl
take_ahead (x ∷ xs) z = by_go (eqb x z) (λ q. rw q refl) (λ q. rw q (ap (λ l. x ∷ l) (take_ahead xs z)))

past_none : (xs : List ℕ) (z : ℕ) → length (ahead xs z) ≡ length xs → past xs z ≡ []
past_none [] z e = refl
past_none (x ∷ xs) z e = by_go (eqb x z)
    (λ q. absurd (let f : 0 ≡ suc (length xs) = rw q at e in omega (arith, f)))
    (λ q. let f : suc (length (ahead xs z)) ≡ suc (length xs) = rw q at e in rw q (past_none xs z (omega (arith, f))))

past_drop : (xs : List ℕ) (z : ℕ) → length (ahead xs z) < length xs → drop (suc (length (ahead xs z))) xs ≡ past xs z
past_drop [] z l = absurd (omega (arith, l))
past_drop (x ∷ xs) z l = by_go (eqb x z)
    (λ q. rw q refl)
    (λ q. let f : suc (length (ahead xs z)) < suc (length xs) = rw q at l in rw q (past_drop xs z (omega (arith, f))))

pub front_is : (xs : List ℕ) (z c : ℕ) → c ≡ length (ahead xs z) → take c xs ≡ ahead xs z
front_is xs z c e = ap (λ n. take n xs) e ∙ take_ahead xs z

pub rest_none : (xs : List ℕ) (z c : ℕ) → c ≡ length (ahead xs z) → c ≡ length xs → take (length xs - c) (drop c xs) ≡ past xs z
rest_none xs z c e l =
    let n : length xs - c ≡ 0 = omega (arith, l) in
    ap (λ n. take n (drop c xs)) n ∙ sym (past_none xs z (sym e ∙ l))

pub rest_is : (xs : List ℕ) (z c : ℕ) → c ≡ length (ahead xs z) → c < length xs → take (length xs - (c + 1)) (drop (c + 1) xs) ≡ past xs z
rest_is xs z c e l =
    let one : c + 1 ≡ suc (length (ahead xs z)) = omega (arith, e) in
    let whole = length-drop (c + 1) xs in
    take_all (length xs - (c + 1)) (drop (c + 1) xs) (omega (arith, whole)) ∙ (ap (λ n. drop n xs) one ∙ past_drop xs z (let k = e in omega (arith, k, l)))
