-- The rule of a turn, and what each of its steps tells.
-- Word 0 is 1 while a seat is inside, and else 0. The slot holds the value, or nothing while it is out.
use Rattle.std.specs.Prelude.{◌≡◌, ℕ, ◌+◌, ◌<◌, ◌≤◌, true, false, List, [], ◌∷◌, length, slice_index, Option, Some, nat_lt, if◌then◌else◌}
use mathlib.Core.Option.{some}
use lib.ListN.{get_elem?}
use Rattle.atomic_table.specs.Table.{State, Me, Step}
use Rattle.ax_turn.specs.declared.known.Known.{Known}
use Rattle.ax_turn.specs.Makers.{AllOwn, GrowsByOthers, longer, shorter}

module _ {E : Type 0} where
  -- what the first seat knows
  abbrev pub newcomer : List E → ℕ → List ℕ → Known E
  newcomer seen makers name = record { inside = false; seen = seen; told = []; told_low = 0; told_high = 0; low = 0; high = makers; enters = 0; makers = makers; name = name }

  -- what is left of a seat that was joined to another
  abbrev pub spent : Known E
  spent = newcomer [] 0 []

  abbrev pub entered : Known E → List E → Known E
  entered v log = record v { inside = true; seen = log; enters = v.enters + 1 }

  abbrev pub left_with : Known E → List E → Known E
  left_with v log = record v { inside = false; seen = log }

  -- the two parts of a seat that is split
  abbrev pub cut_below : ℕ → Known E → Known E
  cut_below at v = record v { high = at }

  abbrev pub cut_above : ℕ → Known E → Known E
  cut_above at v = record v { inside = false; told = []; told_low = 0; told_high = 0; low = at; enters = 0 }

  -- the first number that is not one of either
  abbrev pub end_of : Known E → Known E → ℕ
  end_of v w = if nat_lt w.low w.high then w.high else v.high

  -- the numbers of both, and both lists
  abbrev pub joined : Known E → Known E → Known E
  joined v w = record v {
    seen = longer v.seen w.seen;
    told = shorter v.seen w.seen;
    told_low = if nat_lt (length v.seen) (length w.seen) then v.low else w.low;
    told_high = if nat_lt (length v.seen) (length w.seen) then v.high else w.high;
    high = end_of v w;
    enters = v.enters + w.enters;
  }

  -- the same once the shorter list was shown to begin the longer
  abbrev pub settled : Known E → Known E
  settled v = record v { told = []; told_low = 0; told_high = 0 }

  -- no number is in both
  abbrev pub SeatsApart : Known E → Known E → Type 0
  SeatsApart v w = (n : ℕ) → v.low ≤ n → n < v.high → w.low ≤ n → n < w.high → ⊥

-- What the rule says of one seat. `log` is the list of entries at home, or that of the seat inside, which is `holder`.
-- A seat inside has seen just that list, and stands for a number. Every seat has seen a beginning of the list, and
-- beyond it stand no entries of its numbers. A joined seat has been told such a beginning too. `makers` and `name` are
-- the same in all seats but spent ones.
pub record SeatFits {E : Type 0} (maker : E → ℕ) (word holder makers : ℕ) (name : List ℕ) (log : List E) (seat : ℕ) (v : Known E) : Type 0 where
  pub inside : v.inside ≡ true → (word ≡ 1) × (seat ≡ holder) × (v.seen ≡ log) × (v.low < v.high)
  pub seen : GrowsByOthers maker v.low v.high v.seen log
  pub told : GrowsByOthers maker v.told_low v.told_high v.told log
  pub within : (n : ℕ) → v.told_low ≤ n → n < v.told_high → (v.low ≤ n) × (n < v.high)
  pub order : v.low ≤ v.high
  pub below : v.high ≤ makers
  pub fixed : 0 < v.makers → (v.makers ≡ makers) × (v.name ≡ name)

-- The rule. The word is 0 or 1. At 0 the value is at home, has the name, and its entries are `log`. At 1 one seat is
-- inside. Each entry has a maker below `makers`, each seat fits, and no number is in two seats.
pub record Turned {T E : Type 0} (entries : T → List E) (maker : E → ℕ) (name_of : T → List ℕ) (makers : ℕ) (name : List ℕ) (s : State (Option T) (Known E)) : Type 0 where
  pub log : List E
  pub holder : ℕ
  pub one : length s.words ≡ 1
  pub bit : slice_index s.words 0 ≤ 1
  pub home : slice_index s.words 0 ≡ 0 → (value : T) × (get_elem? s.homes 0 ≡ some (some (Some value))) × (entries value ≡ log) × (name_of value ≡ name)
  pub out : slice_index s.words 0 ≡ 1 → (v : Known E) × (get_elem? s.views holder ≡ some v) × (v.inside ≡ true)
  pub made : AllOwn maker 0 makers log
  pub each : (seat : ℕ) (v : Known E) → get_elem? s.views seat ≡ some v → SeatFits maker (slice_index s.words 0) holder makers name log seat v
  pub apart : (i j : ℕ) (v w : Known E) → ¬ (i ≡ j) → get_elem? s.views i ≡ some v → get_elem? s.views j ≡ some w → SeatsApart v w

module _ {T E : Type 0} (entries : T → List E) (maker : E → ℕ) (name_of : T → List ℕ) where
  -- what a seat knows, and what it holds
  abbrev Sat : Type 0
  Sat = Me (Option T) (Known E)

  -- the seat is inside with the value, which begins with what it had seen, and goes on with entries of others
  abbrev pub Enters : Known E → T → Known E → Type 0
  Enters v value w = (w ≡ entered v (entries value)) × GrowsByOthers maker v.low v.high v.seen (entries value) × (name_of value ≡ v.name)

  -- 0 was found, and the slot came with the turn; or nothing was done
  abbrev pub took : Step (Option T) → Sat → ℕ → Sat → Type 0
  took st m r n = (r ≡ 0 → (value : T) × (n.1 ≡ (0, Some value) ∷ m.1) × Enters m.0 value n.0) × (¬ (r ≡ 0) → n ≡ m)

  -- the value that the seat held is at home
  abbrev pub released : Step (Option T) → Sat → ℕ → Sat → Type 0
  released st m r n = (value : T) → m.1 ≡ (0, Some value) ∷ [] → n ≡ (left_with m.0 (entries value), [])

  -- what was told begins what was seen
  abbrev pub learned : Step (Option T) → Sat → ℕ → Sat → Type 0
  learned st m r n = (n ≡ (settled m.0, m.1)) × (length m.0.told ≤ length m.0.seen → GrowsByOthers maker m.0.told_low m.0.told_high m.0.told m.0.seen)
