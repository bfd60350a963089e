-- What a buffer has beside what it had.
use Rattle.std.specs.Prelude.{ℕ, ◌≡◌, List, ◌++◌}

-- the bytes begin with those that were there before
pub record Extends (old new : List ℕ) : Type 0 where
  pub more : List ℕ
  pub whole : new ≡ old ++ more
