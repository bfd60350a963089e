-- Two lists without ids that stand in both.
use Rattle.std.specs.Prelude.{ℕ, List, [], ◌∷◌}

-- `gone` and `come` are what is left of an old and of a new list without ids that stand in both, in the same order
pub data AreParts : List ℕ → List ℕ → List ℕ → List ℕ → Type 0 where
  none : AreParts [] [] [] []
  both : {old new gone come : List ℕ} (x : ℕ) → AreParts old new gone come → AreParts (x ∷ old) (x ∷ new) gone come
  goes : {old new gone come : List ℕ} (x : ℕ) → AreParts old new gone come → AreParts (x ∷ old) new (x ∷ gone) come
  comes : {old new gone come : List ℕ} (x : ℕ) → AreParts old new gone come → AreParts old (x ∷ new) gone (x ∷ come)
