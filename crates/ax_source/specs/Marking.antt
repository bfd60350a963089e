-- Marks that are taken back.
use Rattle.std.specs.Prelude.{ℕ, Bool, not, filter, if◌then◌else◌, List}
use Rattle.ax_marks.specs.MarkList.{without}
use Rattle.ax_trees.specs.Lists.{contains}

-- the marks without z, where it was new
abbrev pub taken_back : Bool → ℕ → List ℕ → List ℕ
taken_back new z m = if new then without m z else m

-- the marks without the listed ids
abbrev pub less : List ℕ → List ℕ → List ℕ
less gone m = filter (λ z. not (contains gone z)) m
