-- The updates that bring a client to the source: the update at the first mark, until no mark is left.
use Rattle.std.specs.Prelude.{ℕ, zero, suc, List, [], ◌∷◌, length, Result, Ok, Err}
use Rattle.ax_trees.specs.Trees.{Trees, bare, tree}
use Rattle.ax_tree.specs.declared.update.Refusal.{Refusal}
use Rattle.ax_tree.specs.UpdateRule.{Update, and_then, trees_after}
use Rattle.ax_tree.specs.UpdateShape.{mapped_update}
use Rattle.ax_tree.specs.SerialRule.{trees_update}
use Rattle.ax_tree.specs.InStep.{marks_left}

-- what a serializer knows of its receiver: ids and child lists
abbrev pub Client : Type 0
Client = Trees (Unit {0})

abbrev pub result_or : {X : Type 0} → Trees X → Result (Trees X) Refusal → Trees X
result_or f (Ok g) = g
result_or f (Err e) = f

-- the client after an update: the update rule on ids and child lists alone
abbrev pub client_after : {X : Type 0} → Client → Update X → Client
client_after c u = result_or c (trees_after tt (mapped_update (λ _. tt) u) c)

-- Each update takes its mark at least, so n, the number of marks, is enough.
abbrev pub rounds : {X : Type 0} → ℕ → Client → Trees X → List ℕ → List (Update X)
rounds zero c s m = []
rounds (suc n) c s [] = []
rounds (suc n) c s (d ∷ m) =
    trees_update c s (d ∷ m) d ∷ rounds n (client_after c (trees_update c s (d ∷ m) d)) s (marks_left (trees_update c s (d ∷ m) d) d (d ∷ m))

-- the update at d, then those at the first mark
abbrev pub first_update : {X : Type 0} → Client → Trees X → List ℕ → ℕ → List (Update X)
first_update c s m d = trees_update c s m d ∷ rounds (length m) (client_after c (trees_update c s m d)) s (marks_left (trees_update c s m d) d m)

-- an empty client gets the update at the source's root first
abbrev pub trees_updates : {X : Type 0} → Client → Trees X → List ℕ → List (Update X)
trees_updates bare bare m = []
trees_updates bare (tree i x inner others) m = first_update bare (tree i x inner others) m i
trees_updates (tree i x inner others) s m = rounds (length m) (tree i x inner others) s m

-- what updates make of trees, one after the other
abbrev pub trees_after_all : {X : Type 0} → X → List (Update X) → Trees X → Result (Trees X) Refusal
trees_after_all blank [] f = Ok f
trees_after_all blank (u ∷ us) f = and_then (trees_after blank u f) (trees_after_all blank us)
