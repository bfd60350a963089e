-- Text that is appended as UTF-8, as scalars.
use Rattle.std.proofs.Common.{ℕ, ◌≡◌, List, [], ◌∷◌, ◌++◌, refl, sym, ap, ap₂, ◌∙◌, append_assoc, encode_utf8, encode_utf8_all}
use Rattle.std.specs.Prelude.{String}
use Rattle.std.specs.Str.{chars, IsUtf8}
use Rattle.std.specs.String.{string_bytes}
use Rattle.std.proofs.lemmas.Str.{encodes-chars, IsUtf8-string_bytes}
use Rattle.ax_base.proofs.TextLemmas.{chars-spelled, bytes-of-chars}

encode-append : (xs ys : List ℕ) → encode_utf8_all (xs ++ ys) ≡ encode_utf8_all xs ++ encode_utf8_all ys
encode-append [] ys = refl
encode-append (x ∷ xs) ys = ap (λ l. encode_utf8 x ++ l) (encode-append xs ys) ∙ sym (append_assoc (encode_utf8 x) (encode_utf8_all xs) (encode_utf8_all ys))

pub appended : {A : Type 0} (s t : String A) (now text bytes : List ℕ) → chars (string_bytes s) ≡ now → chars bytes ≡ text → IsUtf8 bytes → string_bytes t ≡ string_bytes s ++ bytes → chars (string_bytes t) ≡ now ++ text
appended s t now text bytes v e u h =
    chars-spelled t (now ++ text)
    (h ∙ (ap₂ (λ a b. a ++ b) (sym (bytes-of-chars (string_bytes s) now (IsUtf8-string_bytes s) v)) (sym (ap encode_utf8_all (sym e) ∙ encodes-chars bytes u)) ∙ sym (encode-append now text)))
