-- What the reached nodes of a source make of a receiver's trees, and when they fit them. The lemmas alone speak of it.
use Rattle.std.specs.Prelude.{ℕ, ◌≡◌, Bool, true, if◌then◌else◌}
use Rattle.ax_trees.specs.Trees.{Trees, bare, tree, has_root}
use Rattle.ax_trees.specs.Nodes.{root_known, root_below}

-- the source's roots, each with the source's data and the merge below it where it is reached, else with what stood there (d where nothing did)
abbrev pub merged : {X : Type 0} → X → (ℕ → Bool) → Trees X → Trees X → Trees X
merged d go bare f = bare
merged d go (tree i x inner others) f =
    if go i then tree i x (merged d go inner (root_below f i)) (merged d go others f)
    else tree i (root_known d f i) (root_below f i) (merged d go others f)

-- each root of s that is held is a root of f
pub record RootsFit {X : Type 0} (held : ℕ → Bool) (s f : Trees X) : Type 0 where
  pub stands : (z : ℕ) → has_root s z ≡ true → held z ≡ true → has_root f z ≡ true

-- each held child of a reached node stands under it
abbrev pub ReachFits : {X : Type 0} → (ℕ → Bool) → (ℕ → Bool) → Trees X → Trees X → Type 0
ReachFits go held bare f = Unit {0}
ReachFits go held (tree i x inner others) f =
    (go i ≡ true → RootsFit held inner (root_below f i) × ReachFits go held inner (root_below f i)) × ReachFits go held others f
