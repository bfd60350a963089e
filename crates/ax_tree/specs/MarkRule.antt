-- The marks of a source: what an accepted edit and a touch make of them.
use Rattle.std.specs.Prelude.{ℕ, if◌then◌else◌, List, [], ◌∷◌, ◌++◌, filter}
use Rattle.ax_trees.specs.Trees.{Trees, has}
use Rattle.ax_trees.specs.Nodes.{parent_or}
use Rattle.ax_trees.specs.Lists.{contains}
use Rattle.ax_tree.specs.EditRule.{NodeEdit, SetRoot, InsertLeaf, RemoveTree, MoveTree, SetKnown, trees_edited}

-- the ids that an edit marks, in order
abbrev pub marked_by : {X : Type 0} → NodeEdit X → Trees X → List ℕ
marked_by (SetRoot n x) f = n ∷ []
marked_by (InsertLeaf p i n x) f = p ∷ (n ∷ [])
marked_by (RemoveTree n) f = parent_or f n n ∷ []
marked_by (MoveTree n p i) f = parent_or f n n ∷ (p ∷ [])
marked_by (SetKnown n g) f = n ∷ []

-- a mark that is there already keeps its place
abbrev pub add_mark : List ℕ → ℕ → List ℕ
add_mark m z = if contains m z then m else m ++ (z ∷ [])

abbrev pub add_marks : List ℕ → List ℕ → List ℕ
add_marks m [] = m
add_marks m (z ∷ zs) = add_marks (add_mark m z) zs

-- the marks that stay: a new root drops all, any other edit those of ids that are gone
abbrev pub marks_kept : {X : Type 0} → NodeEdit X → List ℕ → Trees X → List ℕ
marks_kept (SetRoot n x) m g = []
marks_kept (InsertLeaf p i n x) m g = filter (has g) m
marks_kept (RemoveTree n) m g = filter (has g) m
marks_kept (MoveTree n p i) m g = filter (has g) m
marks_kept (SetKnown n h) m g = filter (has g) m

-- the marks after an accepted edit of f
abbrev pub trees_marks : {X : Type 0} → NodeEdit X → Trees X → List ℕ → List ℕ
trees_marks e f m = add_marks (marks_kept e m (trees_edited e f)) (marked_by e f)
