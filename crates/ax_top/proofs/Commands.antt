-- Words that aren't a command that is built.
use Rattle.std.proofs.Common.{ℕ, ◌≡◌, false, List, refl, Option, Some, None}
use Rattle.ax_io.specs.Parts.{AppendsFront}
use Rattle.ax_words.specs.declared.Command.{Command}
use Rattle.ax_words.specs.declared.Command.TheVariants.{Replay, Race, Combine, Act, Gen}
use Rattle.ax_top.specs.Answer.{is_built, usage_text}
use Rattle.ax_top.specs.Ends.{WritesPart}

pub not_built : (o : Option Command) → (o ≡ Some Replay → ⊥) → (o ≡ Some Combine → ⊥) → ((s f n : ℕ) → o ≡ Some (Gen s f n) → ⊥) → is_built o ≡ false
not_built None replay combine gen = refl
not_built (Some Replay) replay combine gen = absurd (replay refl)
not_built (Some Race) replay combine gen = refl
not_built (Some Combine) replay combine gen = absurd (combine refl)
not_built (Some Act) replay combine gen = refl
not_built (Some (Gen s f n)) replay combine gen = absurd (gen s f n refl)

pub writes_usage : (o : Option Command) (left held now : Option (List ℕ)) → is_built o ≡ false → AppendsFront held now usage_text → WritesPart o left held now
writes_usage None left held now n h = h
writes_usage (Some Replay) left held now n h = cc
writes_usage (Some Race) left held now n h = h
writes_usage (Some Combine) left held now n h = cc
writes_usage (Some Act) left held now n h = h
writes_usage (Some (Gen s f k)) left held now n h = cc
