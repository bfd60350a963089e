-- The packets of one tree among others, and the trees of a lane.
use Rattle.std.specs.Prelude.{◌≡◌, ℕ, suc, List, [], ◌∷◌, ◌⊎◌, ◌==◌, if◌then◌else◌}
use Rattle.ax_tree.specs.declared.packet.Packet.{Packet}

-- the packets of one tree, in order
abbrev pub of_tree : ℕ → List Packet → List Packet
of_tree t [] = []
of_tree t (p ∷ ps) = if p.tree == t then p ∷ of_tree t ps else of_tree t ps

-- where they stand, counted from a number
abbrev pub places_of : ℕ → ℕ → List Packet → List ℕ
places_of t from [] = []
places_of t from (p ∷ ps) = if p.tree == t then from ∷ places_of t (suc from) ps else places_of t (suc from) ps

-- the tree is one of these
abbrev pub Includes : List ℕ → ℕ → Type 0
Includes [] t = ⊥
Includes (x ∷ xs) t = (x ≡ t) ⊎ Includes xs t

-- no tree stands twice
abbrev pub AllDiffer : List ℕ → Type 0
AllDiffer [] = Unit {0}
AllDiffer (x ∷ xs) = ¬ (Includes xs x) × AllDiffer xs

-- each packet is of one of these trees
abbrev pub AllOf : List ℕ → List Packet → Type 0
AllOf trees [] = Unit {0}
AllOf trees (p ∷ ps) = Includes trees p.tree × AllOf trees ps
