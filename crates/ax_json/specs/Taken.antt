-- An object's members as they are taken from it.
use Rattle.std.specs.Prelude.{ℕ, List, Bool, true, false, bytes_eq, if◌then◌else◌}
use Rattle.serde_json.specs.Data.{Members, no_members, member}

-- the members but those of this name
abbrev pub without : List ℕ → Members → Members
without k no_members = no_members
without k (member l d ms) = if bytes_eq k l then without k ms else member l d (without k ms)

abbrev pub is_none_left : Members → Bool
is_none_left no_members = true
is_none_left (member k d ms) = false
