-- What one node's data make of a map of nodes, id by id.
use Rattle.std.specs.Prelude.{ℕ, Bool, not, ◌&&◌, ◌==◌, if◌then◌else◌, [], Option, Some, None}
use Rattle.ax_trees.specs.Nodes.{Node}
use Rattle.ax_trees.specs.Lists.{contains}

-- `old` tells the old children, and `kept` the ids that stay once those that aren't listed are gone; d stands for the data of a new leaf
abbrev pub stepped : {X : Type 0} → X → (ℕ → Option (Node X)) → Node X → (ℕ → Bool) → (ℕ → Bool) → ℕ → Option (Node X)
stepped d m n old kept z =
    if n.id == z then Some n else
    if contains n.children z && not (old z) then Some (record { id = z; known = d; children = [] }) else
    if kept z then m z else None
