-- Which ids a list of touched ids must have, that tells of two trees. It belongs beside touched ids, in `ax_tree`.
use Rattle.std.specs.Prelude.{ℕ, ◌≡◌, false, List}
use Rattle.ax_trees.specs.Lists.{contains}
use Rattle.ax_tree.specs.Tree.{Tree, node}

-- each id whose node differs is listed
abbrev pub NamesChanges : Tree → Tree → List ℕ → Type 0
NamesChanges old new touched = (z : ℕ) → contains touched z ≡ false → node new z ≡ node old z
