-- Escapes byte by byte are escapes scalar by scalar.
use Rattle.std.proofs.Common.{ℕ, ◌+◌, ◌≡◌, ◌==◌, ◌<◌, ◌≤◌, ◌/◌, ◌%◌, nat_lt, Bool, true, false, if◌then◌else◌, List, [], ◌∷◌, ◌++◌, refl, sym, ap, ap₂, ◌∙◌, arith, append-nil, flat_map, encode_utf8_all}
use Rattle.std.specs.Str.{chars, IsUtf8}
use Rattle.std.specs.Fmt.{digit_glyph, decimal, digits}
use Rattle.std.proofs.Math.Utf8.{encode}
use Rattle.std.proofs.lemmas.Grind.{flat_map-append}
use Rattle.std.proofs.lemmas.Bool.Decides.{nat_tests}
use Rattle.std.proofs.lemmas.Str.{encode_ascii, encodes-append, encodes-chars}
use Rattle.std.specs.Prelude.{codes}
use Rattle.ax_run_rules.specs.Writing.{control_text, quoted_scalar}
use Rattle.ax_report.specs.Strings.{byte_text}

-- ---- zero

pub zero_text : decimal 0 ≡ codes "0"
unfolding digits
zero_text = refl

-- ---- a scalar below 128

glyph_low : (b : Bool) (d : ℕ) → d < 16 → (if b then 48 + d else 87 + d) < 128
glyph_low true d h = omega arith
glyph_low false d h = omega arith

ascii_two : (x y : ℕ) → x < 128 → y < 128 → encode_utf8_all (x ∷ y ∷ []) ≡ x ∷ y ∷ []
ascii_two x y h k = rw (encode_ascii x h, encode_ascii y k) refl

control_spelled : (c : ℕ) → c < 128 → encode_utf8_all (control_text c) ≡ control_text c
unfolding lib.Utf8.encode
control_spelled c h =
    let high : c / 16 < 16 = omega arith in
    let low : c % 16 < 16 = omega arith in
    ap (λ xs. 92 ∷ 117 ∷ 48 ∷ 48 ∷ xs)
    (ascii_two (digit_glyph false (c / 16)) (digit_glyph false (c % 16)) (glyph_low (nat_lt (c / 16) 10) (c / 16) high) (glyph_low (nat_lt (c % 16) 10) (c % 16) low))

chosen : (b : Bool) (x y : List ℕ) → encode_utf8_all x ≡ x → encode_utf8_all y ≡ y → encode_utf8_all (if b then x else y) ≡ (if b then x else y)
chosen true x y h k = h
chosen false x y h k = k

one_spelled : (c : ℕ) → c < 128 → encode_utf8_all (c ∷ []) ≡ c ∷ []
one_spelled c h = ap (λ xs. xs ++ []) (encode_ascii c h)

low_spelled : (c : ℕ) → c < 128 → encode_utf8_all (quoted_scalar c) ≡ quoted_scalar c
unfolding lib.Utf8.encode
low_spelled c h =
    chosen (c == 34) _ _ refl
    (chosen (c == 92) _ _ refl
    (chosen (c == 8) _ _ refl
    (chosen (c == 12) _ _ refl
    (chosen (c == 10) _ _ refl
    (chosen (c == 13) _ _ refl
    (chosen (c == 9) _ _ refl
    (chosen (nat_lt c 32) _ _ (control_spelled c h) (one_spelled c h))))))))

-- ---- from 128 on

differs : (c k : ℕ) → k < 128 → 128 ≤ c → (c == k) ≡ false
differs c k h j = grind arith

not_control : (c : ℕ) → 128 ≤ c → nat_lt c 32 ≡ false
not_control c h = grind arith

high_plain : (c : ℕ) → 128 ≤ c → quoted_scalar c ≡ c ∷ []
high_plain c h =
    simp (differs c 34 (omega arith) h, differs c 92 (omega arith) h, differs c 8 (omega arith) h, differs c 12 (omega arith) h, differs c 10 (omega arith) h, differs c 13 (omega arith) h, differs c 9 (omega arith) h, not_control c h) refl

byte_high : (b : ℕ) → 128 ≤ b → byte_text b ≡ b ∷ []
unfolding byte_text
byte_high b h = high_plain b h

two_high : (x y : ℕ) → 128 ≤ x → 128 ≤ y → flat_map byte_text (x ∷ y ∷ []) ≡ x ∷ y ∷ []
two_high x y h k = rw (byte_high x h, byte_high y k) refl

three_high : (x y z : ℕ) → 128 ≤ x → 128 ≤ y → 128 ≤ z → flat_map byte_text (x ∷ y ∷ z ∷ []) ≡ x ∷ y ∷ z ∷ []
three_high x y z h k l = rw (byte_high x h, byte_high y k, byte_high z l) refl

four_high : (x y z w : ℕ) → 128 ≤ x → 128 ≤ y → 128 ≤ z → 128 ≤ w → flat_map byte_text (x ∷ y ∷ z ∷ w ∷ []) ≡ x ∷ y ∷ z ∷ w ∷ []
four_high x y z w h k l m = rw (byte_high x h, byte_high y k, byte_high z l, byte_high w m) refl

-- one of four lists of bytes
one_of : (a b d : Bool) (p q r s : List ℕ) → flat_map byte_text p ≡ p → flat_map byte_text q ≡ q → flat_map byte_text r ≡ r → flat_map byte_text s ≡ s
    → flat_map byte_text (if a then p else if b then q else if d then r else s) ≡ (if a then p else if b then q else if d then r else s)
one_of true b d p q r s h k l m = h
one_of false true d p q r s h k l m = k
one_of false false true p q r s h k l m = l
one_of false false false p q r s h k l m = m

high_bytes : (c : ℕ) → 128 ≤ c → flat_map byte_text (encode c) ≡ encode c
unfolding lib.Utf8.encode
high_bytes c h =
    one_of (nat_lt c 128) (nat_lt c 2048) (nat_lt c 65536) _ _ _ _
    (rw (byte_high c h) refl)
    (two_high (192 + c / 64) (128 + c % 64) (omega arith) (omega arith))
    (three_high (224 + c / 4096) (128 + c / 64 % 64) (128 + c % 64) (omega arith) (omega arith) (omega arith))
    (four_high (240 + c / 262144) (128 + c / 4096 % 64) (128 + c / 64 % 64) (128 + c % 64) (omega arith) (omega arith) (omega arith) (omega arith))

-- ---- every scalar, and a text

low_bytes : (c : ℕ) → c < 128 → flat_map byte_text (encode c) ≡ encode_utf8_all (quoted_scalar c)
unfolding byte_text
low_bytes c h = ap (flat_map byte_text) (encode_ascii c h) ∙ (append-nil (quoted_scalar c) ∙ sym (low_spelled c h))

scalar_bytes : (c : ℕ) → flat_map byte_text (encode c) ≡ encode_utf8_all (quoted_scalar c)
scalar_bytes c = go (nat_lt c 128) refl
  where
    go : (b : Bool) → nat_lt c 128 ≡ b → flat_map byte_text (encode c) ≡ encode_utf8_all (quoted_scalar c)
    go true e = low_bytes c (grind (arith, nat_tests))
    go false e = let h : 128 ≤ c = grind (arith, nat_tests) in high_bytes c h ∙ (sym (append-nil (encode c)) ∙ ap encode_utf8_all (sym (high_plain c h)))

spelled : (cs : List ℕ) → flat_map byte_text (encode_utf8_all cs) ≡ encode_utf8_all (flat_map quoted_scalar cs)
spelled [] = refl
spelled (c ∷ cs) =
    flat_map-append byte_text (encode c) (encode_utf8_all cs)
    ∙ (ap₂ (λ xs ys. xs ++ ys) (scalar_bytes c) (spelled cs) ∙ sym (encodes-append (quoted_scalar c) (flat_map quoted_scalar cs)))

-- the bytes of a text, escaped, spell its scalars, escaped
pub escaped_bytes : (bs cs : List ℕ) → IsUtf8 bs → chars bs ≡ cs → flat_map byte_text bs ≡ encode_utf8_all (flat_map quoted_scalar cs)
escaped_bytes bs cs u e = ap (flat_map byte_text) (sym (encodes-chars bs u)) ∙ (spelled (chars bs) ∙ ap (λ xs. encode_utf8_all (flat_map quoted_scalar xs)) e)
