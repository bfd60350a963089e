-- The edit rule, worked out: each refusal, the first that stands. What is known of a node is a number here.
use Rattle.std.proofs.Common.{ℕ, zero, suc, ◌≡◌, refl, Option, None, Some}
use Rattle.ax_trees.specs.Trees.{Trees, bare, tree, count}
use Rattle.ax_tree.specs.declared.edit.EditErr.{EditErr}
use Rattle.ax_tree.specs.declared.edit.EditErr.TheVariants.{NoRoot, UnknownNode, IdTaken, BadIndex, IsRoot, IntoItself, TooMany, TooDeep}
use Rattle.ax_tree.specs.EditRule.{NodeEdit, SetRoot, InsertLeaf, RemoveTree, MoveTree, SetKnown, trees_edited, trees_refusal, sized}

abbrev refused : NodeEdit ℕ → Trees ℕ → Option EditErr
refused e f = trees_refusal e f

abbrev made : NodeEdit ℕ → Trees ℕ → Trees ℕ
made e f = trees_edited e f

-- 1 over 2
abbrev two : Trees ℕ
two = tree 1 0 (tree 2 0 bare bare) bare

remove_on_empty : refused (RemoveTree 1) bare ≡ Some NoRoot
remove_on_empty = refl

root_is_accepted : refused (SetRoot 1 0) two ≡ None
root_is_accepted = refl

insert_is_accepted : refused (InsertLeaf 1 0 2 0) (tree 1 0 bare bare) ≡ None
insert_is_accepted = refl

insert_below_absent : refused (InsertLeaf 9 0 3 0) two ≡ Some (UnknownNode 9)
insert_below_absent = refl

insert_of_taken : refused (InsertLeaf 1 0 2 0) two ≡ Some (IdTaken 2)
insert_of_taken = refl

insert_past_end : refused (InsertLeaf 1 5 3 0) two ≡ Some (BadIndex 5 1)
insert_past_end = refl

remove_of_root : refused (RemoveTree 1) two ≡ Some (IsRoot 1)
remove_of_root = refl

move_of_root : refused (MoveTree 1 2 0) two ≡ Some (IsRoot 1)
move_of_root = refl

move_into_itself : refused (MoveTree 2 2 0) two ≡ Some (IntoItself 2)
move_into_itself = refl

-- the other children are counted: 2 may move to the end of 1's children at 0 and no further
move_counts_others : refused (MoveTree 2 1 1) two ≡ Some (BadIndex 1 0)
move_counts_others = refl

move_among_siblings : made (MoveTree 2 1 1) (tree 1 0 (tree 2 0 bare (tree 3 0 bare bare)) bare) ≡ tree 1 0 (tree 3 0 bare (tree 2 0 bare bare)) bare
move_among_siblings = refl

set_of_absent : refused (SetKnown 9 (λ x. x)) two ≡ Some (UnknownNode 9)
set_of_absent = refl

-- a chain of n nodes from i on, and one node more
abbrev descent : ℕ → ℕ → Trees ℕ
descent i zero = tree i 0 bare bare
descent i (suc n) = tree i 0 (descent (suc i) n) bare

leaf_at_256 : refused (InsertLeaf 255 0 256 0) (descent 1 254) ≡ None
leaf_at_256 = refl

leaf_at_257 : refused (InsertLeaf 256 0 257 0) (descent 1 255) ≡ Some (TooDeep 257)
leaf_at_257 = refl

-- no tree of 100,001 nodes is accepted, whatever its form
too_many : (f : Trees ℕ) → count f ≡ 100001 → sized f ≡ Some (TooMany 100001)
too_many f h = rw h refl
