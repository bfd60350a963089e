-- The document's text between two offsets.
use Rattle.std.specs.Prelude.{ℕ, ◌-◌, nat_le, if◌then◌else◌, List, ◌++◌, take, drop}
use Rattle.std.specs.Prelude.{◌≡◌, Result, Ok, Err}
use Rattle.ax_base.specs.declared.position.PosErr.{PosErr}
use Rattle.ax_base.specs.declared.position.PosErr.TheVariants.{NoMemory}
use Rattle.ax_rules.specs.Stitched.{Placed}
use Rattle.ax_rules.specs.Texts.{document}
use Rattle.ax_position.specs.Walks.{Row}
use Rattle.ax_position.specs.Surveys.{counted}
use Rattle.ax_position.specs.declared.between.Between.{Between}

-- the part of a text that starts at n which lies between two offsets
abbrev pub part : ℕ → ℕ → ℕ → List ℕ → List ℕ
part low high n text = drop (low - n) (take (high - n) text)

-- the part of one more leaf, where there may be one
abbrev pub gathered_on : Between → Row → Between
gathered_on s r = record {
  low = s.low;
  high = s.high;
  at = counted r.leaf s.at r.text;
  text = if r.leaf then s.text ++ part s.low s.high s.at r.text else s.text;
}

abbrev pub gathered : Between → Row → Between
gathered s r = if nat_le s.high s.at then s else gathered_on s r

-- the document's text from one offset to another
unfoldable pub text_between : List Placed → ℕ → ℕ → List ℕ
text_between l low high = take (high - low) (drop low (document l))

-- the text or its refusal; want of memory comes only where there is a text
abbrev pub is_text : Result (List ℕ) PosErr → Result (List ℕ) PosErr → Type 0
is_text (Ok t) r = r ≡ Ok t
is_text (Err NoMemory) (Ok t) = Unit {0}
is_text (Err e) r = r ≡ Err e
