-- The bytes of a text that stands at most once.
use Rattle.std.specs.Prelude.{ℕ, List, [], Option, Some, None}
use Rattle.std.specs.declared.sync.ArcStr.{ArcStr}
use Rattle.std.specs.Arc.{arc_str_bytes}

-- no bytes where there is no block
abbrev pub bytes_of : {Z : Type 0} → Option (ArcStr Z) → List ℕ
bytes_of None = []
bytes_of (Some block) = arc_str_bytes block
