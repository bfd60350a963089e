-- What `parse` reads of a word that is a numeral.
use Rattle.std.proofs.Common.{◌≡◌, ℕ, ◌^◌, ◌<◌, ◌≤◌, Bool, true, false, ◌&&◌, nat_le, List, [], ◌∷◌, length, Some, None, Ok, Err, refl, arith, rules, if◌then◌else◌}
use Rattle.std.specs.Char.{is_ascii_digit}
use Rattle.std.specs.List.{list_all}
use Rattle.std.specs.Str.Parse.{digits_value, ParsesUnsigned}
use Rattle.std.proofs.lemmas.Bool.{leb-true}
use Rattle.std.proofs.lemmas.Str.Parse.{IsNumeralModel, IsDigitsTest, numerals_by_value, parse_digits}
use Rattle.ax_words.specs.Words.{is_numeral, in_range, number_in}

abbrev AreDigits : List ℕ → Type 0
AreDigits ds = list_all is_ascii_digit ds ≡ true

tells : IsDigitsTest AreDigits
tells = search rules

own : IsNumeralModel AreDigits (digits_value 10)
own = numerals_by_value AreDigits tells

first_of_both : (a b : Bool) → a && b ≡ true → a ≡ true
first_of_both true b e = refl
first_of_both false b e = e

numerals_are_digits : (w : List ℕ) → is_numeral w ≡ true → AreDigits w
numerals_are_digits [] e = refl
numerals_are_digits (d ∷ ds) e = first_of_both _ _ e

some_digit : (w : List ℕ) → is_numeral w ≡ true → 1 ≤ length w
some_digit [] e = let bad : false ≡ true = e in cc
some_digit (d ∷ ds) e = omega arith

neither : (n : ℕ) (a : Bool) → None ≡ (if a && false then Some n else None)
neither n true = refl
neither n false = refl

not_below : (low high n : ℕ) (t : Bool) → nat_le n high ≡ t → ¬ (n ≤ high) → None ≡ in_range low high n
not_below low high n true e above = absurd (above (leb-true n high e))
not_below low high n false e above = rw e (neither n (nat_le low n))

-- a numeral that was parsed
pub parsed_in : (low high n : ℕ) (w : List ℕ) → is_numeral w ≡ true → ParsesUnsigned {E = ℕ} 32 10 w (Ok n) → in_range low high n ≡ number_in low high w
parsed_in low high n w is h = let d = parse_digits own {E = ℕ} 32 w (Ok n) h (numerals_are_digits w is) in rw (is, d.1) refl

-- a numeral that wasn't
pub not_parsed_in : (E : Type 0) (e : E) (low high : ℕ) (w : List ℕ) → high < 2 ^ 32 → is_numeral w ≡ true → ParsesUnsigned {E = E} 32 10 w (Err e) → None ≡ number_in low high w
not_parsed_in E e low high w small is h =
    let d = parse_digits own {E = E} 32 w (Err e) h (numerals_are_digits w is) in
    let above : ¬ (digits_value 10 w ≤ high) = λ below. d (some_digit w is, omega arith) in
    rw is (not_below low high (digits_value 10 w) _ refl above)
