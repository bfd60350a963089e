-- The law that the updates of a bundle take all marks.
use Rattle.std.specs.Prelude.{ℕ, zero, suc, ◌≡◌, ◌≤◌, List, [], ◌∷◌, length}
use Rattle.ax_node.specs.Look.{Look}
use Rattle.ax_trees.specs.Trees.{Trees}
use Rattle.ax_tree.specs.SerialRule.{trees_update}
use Rattle.ax_tree.specs.InStep.{marks_left}
use Rattle.ax_tree.specs.Bundles.{Client, client_after, rounds}

-- the marks that are left after the updates at the first mark
abbrev pub marks_after_rounds : ℕ → Client → Trees Look → List ℕ → List ℕ
marks_after_rounds zero c s m = m
marks_after_rounds (suc n) c s [] = []
marks_after_rounds (suc n) c s (d ∷ m) =
    marks_after_rounds n (client_after c (trees_update c s (d ∷ m) d)) s (marks_left (trees_update c s (d ∷ m) d) d (d ∷ m))

-- As many updates as there are marks leave no mark, and more make no difference.
abbrev pub EachBundleTakesAllMarks : Type 0
EachBundleTakesAllMarks =
    (n k : ℕ) (c : Client) (s : Trees Look) (m : List ℕ) → length m ≤ n → length m ≤ k
    → (marks_after_rounds n c s m ≡ []) × (rounds n c s m ≡ rounds k c s m)
