-- The serialisation rule, worked out. What is known of a node is a number here.
use Rattle.std.proofs.Common.{ℕ, ◌≡◌, List, [], ◌∷◌, map, refl, Option, None, Some}
use Rattle.ax_trees.specs.Trees.{Trees, bare}
use Rattle.ax_trees.specs.Nodes.{Node}
use Rattle.ax_trees.specs.Shape.{shape}
use Rattle.ax_tree.specs.EditRule.{NodeEdit, SetRoot, InsertLeaf, RemoveTree, MoveTree, SetKnown, trees_edited}
use Rattle.ax_tree.specs.MarkRule.{trees_marks}
use Rattle.ax_tree.specs.UpdateRule.{Update}
use Rattle.ax_tree.specs.Bundles.{trees_updates}

abbrev pub all_edited : List (NodeEdit ℕ) → Trees ℕ → Trees ℕ
all_edited [] f = f
all_edited (e ∷ es) f = all_edited es (trees_edited e f)

abbrev all_marked : List (NodeEdit ℕ) → Trees ℕ → List ℕ → List ℕ
all_marked [] f m = m
all_marked (e ∷ es) f m = all_marked es (trees_edited e f) (trees_marks e f m)

-- an update without data: clear, root, and the listed ids
record Note : Type 0 where
  clear : Option ℕ
  root : Option ℕ
  ids : List ℕ

abbrev note : Update ℕ → Note
note u = record { clear = u.clear; root = u.root; ids = map (λ (n : Node ℕ). n.id) u.nodes }

-- what is sent after the later edits to a client that has what the first ones made
abbrev sent_after : List (NodeEdit ℕ) → List (NodeEdit ℕ) → List Note
sent_after first later =
    let before = all_edited first bare in
    map note (trees_updates (shape before) (all_edited later before) (all_marked later before []))

-- an update that clears nothing and names no root
abbrev listing : List ℕ → Note
listing zs = record { clear = None; root = None; ids = zs }

-- the first packet of 1 with the child 2
whole_tree_first : sent_after [] (SetRoot 1 0 ∷ InsertLeaf 1 0 2 0 ∷ []) ≡ record { clear = None; root = Some 1; ids = 1 ∷ 2 ∷ [] } ∷ []
whole_tree_first = refl

-- of the children 2 3 4 5, 2 is removed and 6 added
list_of_parent_and_new_child :
    sent_after (SetRoot 1 0 ∷ InsertLeaf 1 0 2 0 ∷ InsertLeaf 1 1 3 0 ∷ InsertLeaf 1 2 4 0 ∷ InsertLeaf 1 3 5 0 ∷ []) (RemoveTree 2 ∷ InsertLeaf 1 3 6 0 ∷ [])
    ≡ listing (1 ∷ 6 ∷ []) ∷ []
list_of_parent_and_new_child = refl

-- 1 over 2 and 3, and 4 below 2
abbrev two_below_one : List (NodeEdit ℕ)
two_below_one = SetRoot 1 0 ∷ InsertLeaf 1 0 2 0 ∷ InsertLeaf 1 1 3 0 ∷ InsertLeaf 2 0 4 0 ∷ []

-- 4 moves from 2 to 3
move_gives_two_updates : sent_after two_below_one (MoveTree 4 3 0 ∷ []) ≡ listing (2 ∷ []) ∷ listing (3 ∷ 4 ∷ []) ∷ []
move_gives_two_updates = refl

-- the same after 3 was changed
changed_target_clears_parent : sent_after two_below_one (SetKnown 3 (λ _. 7) ∷ MoveTree 4 3 0 ∷ []) ≡ record { clear = Some 1; root = None; ids = 1 ∷ 2 ∷ 3 ∷ 4 ∷ [] } ∷ []
changed_target_clears_parent = refl

-- 2 goes and comes back as another node
reused_id_is_listed : sent_after (SetRoot 1 0 ∷ InsertLeaf 1 0 2 0 ∷ []) (RemoveTree 2 ∷ InsertLeaf 1 0 2 5 ∷ []) ≡ listing (1 ∷ 2 ∷ []) ∷ []
reused_id_is_listed = refl

-- 2 isn't closed, since 8 is held under 7
widens_past_what_is_not_closed :
    sent_after
    (SetRoot 1 0 ∷ InsertLeaf 1 0 2 0 ∷ InsertLeaf 1 1 7 0 ∷ InsertLeaf 2 0 3 0 ∷ InsertLeaf 2 1 6 0 ∷ InsertLeaf 3 0 4 0 ∷ InsertLeaf 6 0 5 0 ∷ InsertLeaf 7 0 8 0 ∷ [])
    (SetKnown 4 (λ _. 1) ∷ MoveTree 5 4 0 ∷ MoveTree 8 6 0 ∷ [])
    ≡ record { clear = Some 1; root = None; ids = 1 ∷ 2 ∷ 3 ∷ 4 ∷ 5 ∷ 6 ∷ 8 ∷ 7 ∷ [] } ∷ []
widens_past_what_is_not_closed = refl

-- 3 becomes the root, over the old root 1
new_root_above_old :
    sent_after (SetRoot 1 0 ∷ InsertLeaf 1 0 2 0 ∷ InsertLeaf 1 1 3 0 ∷ []) (SetRoot 3 0 ∷ InsertLeaf 3 0 1 0 ∷ []) ≡ record { clear = Some 1; root = Some 3; ids = 3 ∷ 1 ∷ [] } ∷ []
new_root_above_old = refl

-- 2 is the lowest closed node, and 9 beside it isn't sent
lowest_closed_alone_is_sent :
    sent_after
    (SetRoot 1 0 ∷ InsertLeaf 1 0 2 0 ∷ InsertLeaf 1 1 9 0 ∷ InsertLeaf 2 0 3 0 ∷ InsertLeaf 2 1 4 0 ∷ InsertLeaf 3 0 5 0 ∷ [])
    (SetKnown 4 (λ _. 1) ∷ MoveTree 5 4 0 ∷ [])
    ≡ record { clear = Some 2; root = None; ids = 2 ∷ 3 ∷ 4 ∷ 5 ∷ [] } ∷ []
lowest_closed_alone_is_sent = refl
