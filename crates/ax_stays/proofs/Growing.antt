-- What a stay in a turn adds.
use Rattle.std.proofs.Common.{◌≡◌, ℕ, ◌+◌, true, false, List, [], ◌∷◌, ◌++◌, sym, ap, ◌∙◌, subst}
use Rattle.ax_tree.specs.declared.packet.JEntry.{JEntry}
use Rattle.ax_turn.specs.Makers.{AllOwn, GrowsByOwn, GrowsByOthers}
use Rattle.ax_turn.specs.Seats.{SeatView}
use Rattle.ax_frame.specs.Frames.{Journaled}
use Rattle.ax_stays.specs.FrameCalls.{grown}
use Rattle.ax_stays.specs.Makers.{maker_of, IsSeatFor}
use Rattle.ax_stays.specs.Stays.{Stay}

-- ---- the seat's way through the turn

module _ {E : Type 0} (seat inside out : SeatView E) (entered left : List E) (came : inside ≡ record seat { inside = true; seen = entered; enters = seat.enters + 1 }) where
  pub low_inside : (n : ℕ) → IsSeatFor n seat → inside.low ≡ n
  low_inside n s = ap (λ v. v.low) came ∙ s.low

  pub high_inside : (n : ℕ) → IsSeatFor n seat → inside.high ≡ n + 1
  high_inside n s = ap (λ v. v.high) came ∙ s.high

  pub out_is : seat.inside ≡ false → out ≡ record inside { inside = false; seen = left } → out ≡ record seat { seen = out.seen; enters = seat.enters + 1 }
  out_is idle went =
      went ∙ (ap (λ (v : SeatView E). record v { inside = false; seen = left }) came ∙ λ i. record seat { inside = sym idle i; seen = ap (λ v. v.seen) (sym went) i; enters = seat.enters + 1 })

-- ---- what is given back, and what was added

module _ {E : Type 0} (maker : E → ℕ) where
  -- the same numbers, said otherwise
  pub grows_at : (low high m n : ℕ) (xs ys : List E) → low ≡ m → high ≡ n → GrowsByOthers maker low high xs ys → GrowsByOthers maker m n xs ys
  grows_at low high m n xs ys from to g = subst (λ (z : ℕ × ℕ). GrowsByOthers maker z.0 z.1 xs ys) (λ i. (from i, to i)) g

  own_at : (low high m n : ℕ) (xs : List E) → low ≡ m → high ≡ n → AllOwn maker m n xs → AllOwn maker low high xs
  own_at low high m n xs from to g = subst (λ (z : ℕ × ℕ). AllOwn maker z.0 z.1 xs) (λ i. (sym from i, sym to i)) g

  -- what is given back begins with what was taken, and goes on by own entries
  pub leaves : (low high m n : ℕ) (seen entered left added : List E) → low ≡ m → high ≡ n → seen ≡ entered → left ≡ entered ++ added → AllOwn maker m n added → GrowsByOwn maker low high seen left
  leaves low high m n seen entered left added from to same more own = (added, more ∙ ap (λ l. l ++ added) (sym same), own_at low high m n added from to own)

  pub stays : (low high m n : ℕ) (old entered left seen added : List E) (fact : List E → Type 0) → low ≡ m → high ≡ n → GrowsByOthers maker low high old entered → left ≡ entered ++ added
      → seen ≡ left → fact entered → Stay maker m n old added seen fact
  stays low high m n old entered left seen added fact from to others more same answer =
      record { before = entered; others = grows_at low high m n old entered from to others; grown = same ∙ more; answer = answer }

-- ---- in a frame's turn

module _ (m : ℕ) (seat inside out : SeatView JEntry) (frame new : Journaled) (added : List JEntry) (stands : IsSeatFor m seat)
    (came : inside ≡ record seat { inside = true; seen = frame.journal; enters = seat.enters + 1 }) (more : new ≡ grown added frame) where
  pub frame_leaves : AllOwn maker_of m (m + 1) added → GrowsByOwn maker_of inside.low inside.high inside.seen new.journal
  frame_leaves own =
      leaves maker_of inside.low inside.high m (m + 1) inside.seen frame.journal new.journal added (ap (λ v. v.low) came ∙ stands.low) (ap (λ v. v.high) came ∙ stands.high) (ap (λ v. v.seen) came)
      (ap (λ (j : Journaled). j.journal) more) own

  pub frame_named : (name : List ℕ) → frame.tree ∷ [] ≡ name → new.tree ∷ [] ≡ name
  frame_named name is = ap (λ (j : Journaled). j.tree ∷ []) more ∙ is

  pub frame_stays : (fact : List JEntry → Type 0) → GrowsByOthers maker_of seat.low seat.high seat.seen frame.journal → out ≡ record inside { inside = false; seen = new.journal } → fact frame.journal
      → Stay maker_of m (m + 1) seat.seen added out.seen fact
  frame_stays fact others went answer =
      stays maker_of seat.low seat.high m (m + 1) seat.seen frame.journal new.journal out.seen added fact stands.low stands.high others (ap (λ (j : Journaled). j.journal) more) (ap (λ v. v.seen) went) answer
