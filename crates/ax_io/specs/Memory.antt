-- What a source and a sink in memory stand for.
use Rattle.std.specs.Prelude.{ℕ, List}

-- `failing` has the numbers, from 1, of the calls that fail, and `calls` counts the calls so far
pub record SourceMeaning : Type 0 where
  pub left : List ℕ
  pub chunk : ℕ
  pub failing : List ℕ
  pub calls : ℕ
  pub faults : ℕ

-- the same, and `room` is how many bytes it can hold
pub record SinkMeaning : Type 0 where
  pub held : List ℕ
  pub room : ℕ
  pub chunk : ℕ
  pub failing : List ℕ
  pub calls : ℕ
  pub faults : ℕ
