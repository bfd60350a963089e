-- The trees that a script's frames have.
use Rattle.std.specs.Prelude.{ℕ, ◌||◌, Bool, List}
use Rattle.std.specs.List.{list_any}
use Rattle.std.specs.Ordering.{nat_cmp, is_eq}
use Rattle.std.specs.BTreeSet.{BTreeSet, contains}
use Rattle.ax_script.specs.declared.script.FrameScript.{FrameScript}

-- a frame has the tree
unfoldable pub has_tree : List FrameScript → ℕ → Bool
has_tree frames = λ t. list_any (λ f. is_eq (nat_cmp f.tree t)) frames

-- the set has the tree
unfoldable pub knows : BTreeSet ℕ → ℕ → Bool
knows set = λ t. contains nat_cmp set t

-- the tree, or one that passes the test
unfoldable pub tree_or : ℕ → (ℕ → Bool) → ℕ → Bool
tree_or tree test = λ t. test t || is_eq (nat_cmp tree t)
