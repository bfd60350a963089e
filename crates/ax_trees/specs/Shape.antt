-- Trees with something else known of each node, and with nothing known: the shape.
use Rattle.ax_trees.specs.Trees.{Trees, bare, tree}

abbrev pub mapped : {X E : Type 0} → (X → E) → Trees X → Trees E
mapped g bare = bare
mapped g (tree i x inner others) = tree i (g x) (mapped g inner) (mapped g others)

-- the ids and child lists alone: what a client keeps of a tree
abbrev pub shape : {X : Type 0} → Trees X → Trees (Unit {0})
shape f = mapped (λ _. tt) f
