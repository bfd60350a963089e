-- Trees with one node changed, one tree put in, or one taken out.
use Rattle.std.specs.Prelude.{ℕ, zero, suc, ◌==◌, if◌then◌else◌}
use Rattle.ax_trees.specs.Trees.{Trees, bare, tree, has}

-- of z the known becomes e, and the trees below it become c
abbrev pub with_node : {X : Type 0} → Trees X → ℕ → X → Trees X → Trees X
with_node bare z e c = bare
with_node (tree i x inner others) z e c =
    if i == z then tree i e c others else
    if has inner z then tree i x (with_node inner z e c) others else tree i x inner (with_node others z e c)

-- the trees below z become g of them
abbrev pub with_below : {X : Type 0} → (Trees X → Trees X) → Trees X → ℕ → Trees X
with_below g bare z = bare
with_below g (tree i x inner others) z =
    if i == z then tree i x (g inner) others else
    if has inner z then tree i x (with_below g inner z) others else tree i x inner (with_below g others z)

-- what is known of z becomes g of it
abbrev pub with_known : {X : Type 0} → (X → X) → Trees X → ℕ → Trees X
with_known g bare z = bare
with_known g (tree i x inner others) z =
    if i == z then tree i (g x) inner others else
    if has inner z then tree i x (with_known g inner z) others else tree i x inner (with_known g others z)

-- the first tree of t stands at the place n among the trees of f, or at their end
abbrev pub planted : {X : Type 0} → ℕ → Trees X → Trees X → Trees X
planted n bare f = f
planted zero (tree i x inner others) f = tree i x inner f
planted (suc n) (tree i x inner others) bare = tree i x inner bare
planted (suc n) (tree i x inner others) (tree j y below after) = tree j y below (planted n (tree i x inner others) after)

-- without the tree of z
abbrev pub pruned : {X : Type 0} → Trees X → ℕ → Trees X
pruned bare z = bare
pruned (tree i x inner others) z =
    if i == z then others else
    if has inner z then tree i x (pruned inner z) others else tree i x inner (pruned others z)
