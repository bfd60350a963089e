-- The update rule, worked out: each kind of refusal, and what is accepted. What is known of a node is a number here.
use Rattle.std.proofs.Common.{ℕ, zero, suc, ◌≡◌, List, [], ◌∷◌, refl, Option, None, Some, Result, Ok, Err}
use Rattle.ax_trees.specs.Trees.{Trees, bare, tree, count}
use Rattle.ax_trees.specs.Nodes.{Node}
use Rattle.ax_tree.specs.declared.update.Refusal.{Refusal}
use Rattle.ax_tree.specs.declared.update.Refusal.TheVariants.{BadClear, NotInTree, DuplicateChild, Reparented, Pending, TooDeep}
use Rattle.ax_tree.specs.UpdateRule.{trees_after}

-- 1 over 2 and 3, and 4 below 3
abbrev four : Trees ℕ
four = tree 1 0 (tree 2 0 bare (tree 3 0 (tree 4 0 bare bare) bare)) bare

abbrev as_node : ℕ → List ℕ → Node ℕ
as_node i cs = record { id = i; known = 0; children = cs }

abbrev after : Option ℕ → Option ℕ → List (Node ℕ) → Trees ℕ → Result (Trees ℕ) Refusal
after clear root nodes f = trees_after 0 (record { clear = clear; root = root; nodes = nodes }) f

-- how many nodes the result has
abbrev how_many : Result (Trees ℕ) Refusal → Result ℕ Refusal
how_many (Ok f) = Ok (count f)
how_many (Err e) = Err e

new_child_without_data : after None None (as_node 1 (2 ∷ 3 ∷ 9 ∷ []) ∷ []) four ≡ Err (Pending 9)
new_child_without_data = refl

child_of_another : after None None (as_node 2 (4 ∷ []) ∷ []) four ≡ Err (Reparented 4)
child_of_another = refl

child_twice : after None None (as_node 1 (2 ∷ 2 ∷ []) ∷ []) four ≡ Err (DuplicateChild 2)
child_twice = refl

clear_of_absent : after (Some 9) None [] four ≡ Err (BadClear 9)
clear_of_absent = refl

cleared_without_data : after (Some 3) None [] four ≡ Err (Pending 3)
cleared_without_data = refl

data_of_absent : after None None (as_node 9 [] ∷ []) four ≡ Err (NotInTree 9)
data_of_absent = refl

-- 3 goes with 4 below it, so 4 may come back under 2
freed_id_comes_back : after None None (as_node 1 (2 ∷ []) ∷ as_node 2 (4 ∷ []) ∷ as_node 4 [] ∷ []) four ≡ Ok (tree 1 0 (tree 2 0 (tree 4 0 bare bare) bare) bare)
freed_id_comes_back = refl

nothing_changes : after None None [] four ≡ Ok four
nothing_changes = refl

new_root_alone : after None (Some 5) (as_node 5 [] ∷ []) four ≡ Ok (tree 5 0 bare bare)
new_root_alone = refl

new_root_without_data : after None (Some 5) [] four ≡ Err (Pending 5)
new_root_without_data = refl

-- a new root stands alone whatever is cleared
clear_beside_new_root : after (Some 2) (Some 9) (as_node 9 [] ∷ []) four ≡ Ok (tree 9 0 bare bare)
clear_beside_new_root = refl

-- the old root named again is no new root
clear_beside_old_root : after (Some 4) (Some 1) (as_node 1 (2 ∷ 3 ∷ []) ∷ []) four ≡ Err (Pending 4)
clear_beside_old_root = refl

child_of_itself : after None None (as_node 1 (1 ∷ []) ∷ []) four ≡ Err (Reparented 1)
child_of_itself = refl

child_of_another_twice : after None None (as_node 1 (4 ∷ 4 ∷ []) ∷ []) four ≡ Err (DuplicateChild 4)
child_of_another_twice = refl

given_up_and_taken : how_many (after None None (as_node 3 [] ∷ as_node 2 (4 ∷ []) ∷ as_node 4 [] ∷ []) four) ≡ Ok 4
given_up_and_taken = refl

-- 2 goes with its pending child 7
pending_child_goes : after None None (as_node 2 (7 ∷ []) ∷ as_node 1 (3 ∷ []) ∷ []) four ≡ Ok (tree 1 0 (tree 3 0 (tree 4 0 bare bare) bare) bare)
pending_child_goes = refl

data_on_empty : after None None (as_node 1 [] ∷ []) bare ≡ Err (NotInTree 1)
data_on_empty = refl

clear_on_empty : after (Some 1) None [] bare ≡ Err (BadClear 1)
clear_on_empty = refl

-- a chain of n new ids from i on, each listed
abbrev descent : ℕ → ℕ → List (Node ℕ)
descent i zero = as_node i [] ∷ []
descent i (suc n) = as_node i (suc i ∷ []) ∷ descent (suc i) n

chain_of_256 : how_many (after None None (as_node 2 (10 ∷ []) ∷ descent 10 253) four) ≡ Ok 258
chain_of_256 = refl

chain_of_257 : how_many (after None None (as_node 2 (10 ∷ []) ∷ descent 10 254) four) ≡ Err (TooDeep 257)
chain_of_257 = refl
