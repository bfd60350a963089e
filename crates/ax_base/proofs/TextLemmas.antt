-- Texts as lists of scalars.
use Rattle.std.proofs.Common.{◌≡◌, ◌==◌, ◌≤◌, ◌+◌, ℕ, Bool, true, List, [], ◌∷◌, length, encode_utf8_all, refl, sym, ap, ◌∙◌, arith}
use Rattle.std.specs.Str.{chars, IsUtf8}
use Rattle.std.specs.List.{concat}
use Rattle.std.specs.Prelude.{String}
use Rattle.std.specs.String.{string_bytes}
use Rattle.std.proofs.lemmas.Bool.{eqb-true}
use Rattle.std.proofs.lemmas.Str.{chars_from_encodes, encodes-chars, IsUtf8-string_bytes}
use Rattle.unicode_segmentation.specs.Segments.{Rule, segments}
use Rattle.unicode_segmentation.proofs.SegmentsLemmas.{concat-segments}

-- a string that was spelled from scalars has just these
pub chars-spelled : {A : Type 0} (s : String A) (cs : List ℕ) → string_bytes s ≡ encode_utf8_all cs → chars (string_bytes s) ≡ cs
chars-spelled s cs e = sym (chars_from_encodes cs (string_bytes s) (IsUtf8-string_bytes s) (sym e))

-- the bytes of a text, from its scalars
pub bytes-of-chars : (bs cs : List ℕ) → IsUtf8 bs → chars bs ≡ cs → encode_utf8_all cs ≡ bs
bytes-of-chars bs cs u e = ap encode_utf8_all (sym e) ∙ encodes-chars bs u

-- the pieces are no longer than the text
pub room-segments : (rule : Rule) (s : List ℕ) (pieces : List (List ℕ)) → IsUtf8 s → pieces ≡ segments rule s → 0 + length (concat pieces) ≤ length s
room-segments rule s pieces u e = let f : length (concat pieces) ≡ length s = ap (λ ps. length (concat ps)) e ∙ ap length (concat-segments rule s u) in omega arith

pub no_items : {X : Type 0} (xs : List X) → length xs ≡ 0 → xs ≡ []
no_items [] e = refl
no_items (x ∷ xs) e = absurd (omega (arith, e))

-- a text without bytes has no scalars
pub no-chars : (bs : List ℕ) (empty : Bool) → empty ≡ (length bs == 0) → empty ≡ true → [] ≡ chars bs
unfolding chars
no-chars bs empty e t = sym (ap chars (no_items bs (eqb-true _ _ (sym e ∙ t))))
