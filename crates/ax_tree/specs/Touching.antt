-- Touched ids: a list in which none stands twice.
use Rattle.std.specs.Prelude.{ℕ, List, [], ◌∷◌, ◌++◌, if◌then◌else◌}
use Rattle.ax_trees.specs.Lists.{contains}

-- the list with an id at its end, where it isn't there already
abbrev pub with_id : List ℕ → ℕ → List ℕ
with_id ids z = if contains ids z then ids else ids ++ z ∷ []
