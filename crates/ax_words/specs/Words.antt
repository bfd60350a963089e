-- Which words are a command.
use Rattle.std.specs.Prelude.{ℕ, ◌&&◌, ◌||◌, ◌==◌, length, not, nat_le, List, [], ◌∷◌, Bool, false, map, codes, encode_utf8_all, bytes_eq, if◌then◌else◌, Option, Some, None, option_and_then}
use Rattle.std.specs.Char.{is_ascii_digit}
use Rattle.std.specs.List.{list_all}
use Rattle.std.specs.Str.Parse.{digits_value}
use Rattle.ax_words.specs.declared.Command.{Command}
use Rattle.ax_words.specs.declared.Command.TheVariants.{Replay, Race, Combine, Act, Gen}

infixl 10 ◌>>=◌
abbrev pub ◌>>=◌ : {A B : Type 0} → Option A → (A → Option B) → Option B
o >>= f = option_and_then f o

-- decimal digits, of which a zero leads only alone
abbrev pub is_numeral : List ℕ → Bool
is_numeral [] = false
is_numeral (d ∷ ds) = list_all is_ascii_digit (d ∷ ds) && (not (d == 48) || length ds == 0)

abbrev pub in_range : ℕ → ℕ → ℕ → Option ℕ
in_range low high n = if nat_le low n && nat_le n high then Some n else None

-- the number that a word writes, where it lies between these
abbrev pub number_in : ℕ → ℕ → List ℕ → Option ℕ
number_in low high word = if is_numeral word then in_range low high (digits_value 10 word) else None

unfoldable pub gen_words : List ℕ → List ℕ → List ℕ → Option Command
gen_words a b c = do
  seed ← number_in 0 4294967295 a
  frames ← number_in 1 1000 b
  ops ← number_in 1 900000 c
  Some (Gen seed frames ops)

-- the command of this name that takes no values
abbrev pub lone_word : List ℕ → Option Command
lone_word w = if bytes_eq w (codes "replay") then Some Replay
    else (if bytes_eq w (codes "race") then Some Race
    else (if bytes_eq w (codes "combine") then Some Combine
    else (if bytes_eq w (codes "act") then Some Act else None)))

-- the command that words are, given as their bytes
abbrev pub command_spelled : List (List ℕ) → Option Command
command_spelled [] = None
command_spelled (w ∷ []) = lone_word w
command_spelled (w ∷ a ∷ []) = None
command_spelled (w ∷ a ∷ b ∷ []) = None
command_spelled (w ∷ a ∷ b ∷ c ∷ []) = if bytes_eq w (codes "gen") then gen_words a b c else None
command_spelled (w ∷ a ∷ b ∷ c ∷ d ∷ ws) = None

-- the command that words are, given as their scalars
abbrev pub command_of : List (List ℕ) → Option Command
command_of words = command_spelled (map encode_utf8_all words)
