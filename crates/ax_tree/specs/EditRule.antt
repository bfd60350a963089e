-- The edit rule on trees: what an edit of nodes makes of them, and the first refusal that stands.
use Rattle.std.specs.Prelude.{ℕ, Bool, not, ◌||◌, ◌==◌, nat_le, if◌then◌else◌, length, filter, Option, Some, None}
use Rattle.ax_trees.specs.Trees.{Trees, bare, tree, is_bare, has, count, height, is_root}
use Rattle.ax_trees.specs.Nodes.{below, children, tree_at}
use Rattle.ax_trees.specs.Changes.{with_below, with_known, planted, pruned}
use Rattle.ax_tree.specs.declared.edit.EditErr.{EditErr}
use Rattle.ax_tree.specs.declared.edit.EditErr.TheVariants.{NoRoot, UnknownNode, IdTaken, BadIndex, IsRoot, IntoItself, TooMany, TooDeep}

-- an edit of nodes, where X is what is known of a node
pub data NodeEdit (X : Type 0) : Type 0 where
  SetRoot : ℕ → X → NodeEdit X
  -- the parent, the index, the new node, and what is known of it
  InsertLeaf : ℕ → ℕ → ℕ → X → NodeEdit X
  RemoveTree : ℕ → NodeEdit X
  -- the node, its new parent, the index
  MoveTree : ℕ → ℕ → ℕ → NodeEdit X
  SetKnown : ℕ → (X → X) → NodeEdit X

-- the trees after an edit that nothing stands against
abbrev pub trees_edited : {X : Type 0} → NodeEdit X → Trees X → Trees X
trees_edited (SetRoot n x) f = tree n x bare bare
trees_edited (InsertLeaf p i n x) f = with_below (planted i (tree n x bare bare)) f p
trees_edited (RemoveTree n) f = pruned f n
trees_edited (MoveTree n p i) f = with_below (planted i (tree_at f n)) (pruned f n) p
trees_edited (SetKnown n g) f = with_known g f n

-- this refusal unless the test holds, and else what comes after
abbrev pub unless : Bool → EditErr → Option EditErr → Option EditErr
unless holds e after = if holds then after else Some e

-- at most 100,000 nodes, and at most 256 of them on a chain
abbrev pub sized : {X : Type 0} → Trees X → Option EditErr
sized f = unless (nat_le (count f) 100000) (TooMany (count f)) (unless (nat_le (height f) 256) (TooDeep (height f)) None)

-- the first refusal that stands
abbrev pub trees_refusal : {X : Type 0} → NodeEdit X → Trees X → Option EditErr
trees_refusal (SetRoot n x) f = None
trees_refusal (InsertLeaf p i n x) f =
    let len = length (children f p) in
    unless (not (is_bare f)) NoRoot
    (unless (has f p) (UnknownNode p)
    (unless (not (has f n)) (IdTaken n)
    (unless (nat_le i len) (BadIndex i len)
    (sized (trees_edited (InsertLeaf p i n x) f)))))
trees_refusal (RemoveTree n) f =
    unless (not (is_bare f)) NoRoot
    (unless (has f n) (UnknownNode n)
    (unless (not (is_root f n)) (IsRoot n) None))
trees_refusal (MoveTree n p i) f =
    let len = length (filter (λ c. not (c == n)) (children f p)) in
    unless (not (is_bare f)) NoRoot
    (unless (has f n) (UnknownNode n)
    (unless (has f p) (UnknownNode p)
    (unless (nat_le i len) (BadIndex i len)
    (unless (not (is_root f n)) (IsRoot n)
    (unless (not (n == p || has (below f n) p)) (IntoItself n)
    (sized (trees_edited (MoveTree n p i) f)))))))
trees_refusal (SetKnown n g) f = unless (not (is_bare f)) NoRoot (unless (has f n) (UnknownNode n) None)
