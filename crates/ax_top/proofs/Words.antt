-- The numbers of the words `gen SEED FRAMES OPS`.
use Rattle.std.proofs.Common.{ℕ, ◌≡◌, ◌≤◌, ◌<◌, Bool, true, false, ◌&&◌, List, [], ◌∷◌, map, refl, sym, ap, ◌∙◌, arith, Option, Some, None, option_and_then, cond, leb-true}
use Rattle.std.specs.Prelude.{nat_le, bytes_eq, codes, encode_utf8_all}
use Rattle.std.specs.Str.Parse.{digits_value}
use Rattle.ax_words.specs.declared.Command.{Command}
use Rattle.ax_words.specs.declared.Command.TheVariants.{Replay, Race, Combine, Act, Gen}
use Rattle.ax_words.specs.Words.{is_numeral, in_range, number_in, gen_words, lone_word, command_spelled, command_of}

-- a command's numbers are those that it may have
abbrev pub InRange : Option Command → Type 0
InRange None = Unit {0}
InRange (Some Replay) = Unit {0}
InRange (Some Race) = Unit {0}
InRange (Some Combine) = Unit {0}
InRange (Some Act) = Unit {0}
InRange (Some (Gen seed frames ops)) = (0 < frames) × ((frames ≤ 1000) × (ops ≤ 900000))

abbrev Within : ℕ → ℕ → Option ℕ → Type 0
Within low high None = Unit {0}
Within low high (Some n) = (low ≤ n) × (n ≤ high)

range_within : (low high n : ℕ) → Within low high (in_range low high n)
range_within low high n = go (nat_le low n) (nat_le n high) refl refl
  where
    go : (a b : Bool) → nat_le low n ≡ a → nat_le n high ≡ b → Within low high (cond (a && b) (Some n) None)
    go true true h k = (leb-true low n h, leb-true n high k)
    go true false h k = tt
    go false b h k = tt

number_within : (low high : ℕ) (word : List ℕ) → Within low high (number_in low high word)
number_within low high word = go (is_numeral word)
  where
    go : (b : Bool) → Within low high (cond b (in_range low high (digits_value 10 word)) None)
    go true = range_within low high (digits_value 10 word)
    go false = tt

gen_within : (a b c : List ℕ) → InRange (gen_words a b c)
unfolding gen_words
gen_within a b c = go (number_in 0 4294967295 a) (number_in 1 1000 b) (number_in 1 900000 c) (number_within 1 1000 b) (number_within 1 900000 c)
  where
    go : (s f o : Option ℕ) → Within 1 1000 f → Within 1 900000 o
        → InRange (option_and_then (λ seed. option_and_then (λ frames. option_and_then (λ ops. Some (Gen seed frames ops)) o) f) s)
    go None f o h k = tt
    go (Some s) None o h k = tt
    go (Some s) (Some f) None h k = tt
    go (Some s) (Some f) (Some o) h k = (omega (arith, h.0), (h.1, k.1))

lone_within : (w : List ℕ) → InRange (lone_word w)
lone_within w = go (bytes_eq w (codes "replay")) (bytes_eq w (codes "race")) (bytes_eq w (codes "combine")) (bytes_eq w (codes "act"))
  where
    go : (a b c d : Bool) → InRange (cond a (Some Replay) (cond b (Some Race) (cond c (Some Combine) (cond d (Some Act) None))))
    go true b c d = tt
    go false true c d = tt
    go false false true d = tt
    go false false false true = tt
    go false false false false = tt

spelled_within : (ws : List (List ℕ)) → InRange (command_spelled ws)
spelled_within [] = tt
spelled_within (w ∷ []) = lone_within w
spelled_within (w ∷ a ∷ []) = tt
spelled_within (w ∷ a ∷ b ∷ []) = tt
spelled_within (w ∷ a ∷ b ∷ c ∷ []) = go (bytes_eq w (codes "gen"))
  where
    go : (t : Bool) → InRange (cond t (gen_words a b c) None)
    go true = gen_within a b c
    go false = tt
spelled_within (w ∷ a ∷ b ∷ c ∷ d ∷ ws) = tt

pub numbers_within : (words : List (List ℕ)) (o : Option Command) → o ≡ command_of words → InRange o
numbers_within words o e = rw e (spelled_within (map encode_utf8_all words))

-- those of words that are `gen`
pub gen_range : (words : List (List ℕ)) (o : Option Command) (c : Command) (seed frames ops : ℕ) → o ≡ command_of words → o ≡ Some c → c ≡ Gen seed frames ops → (0 < frames) × ((frames ≤ 1000) × (ops ≤ 900000))
gen_range words o c seed frames ops e i j = numbers_within words (Some (Gen seed frames ops)) (ap Some (sym j) ∙ (sym i ∙ e))
