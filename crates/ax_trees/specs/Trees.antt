-- Lists of trees of named nodes: which ids stand in them, and when they are one tree.
use Rattle.std.specs.Prelude.{ℕ, ◌+◌, max, ◌≡◌, Bool, true, false, ◌||◌, ◌&&◌, ◌==◌, if◌then◌else◌, List, [], ◌∷◌, ◌++◌, Option, Some, None}

-- No tree, or a first tree and the others. The first tree is the id of its root, what is known of it, and the trees below it.
pub data Trees (X : Type 0) : Type 0 where
  bare : Trees X
  tree : ℕ → X → Trees X → Trees X → Trees X

abbrev pub is_bare : {X : Type 0} → Trees X → Bool
is_bare bare = true
is_bare (tree i x inner others) = false

-- z is one of the ids
abbrev pub has : {X : Type 0} → Trees X → ℕ → Bool
has bare z = false
has (tree i x inner others) z = i == z || (has inner z || has others z)

-- all ids, in pre-order
abbrev pub ids : {X : Type 0} → Trees X → List ℕ
ids bare = []
ids (tree i x inner others) = i ∷ (ids inner ++ ids others)

-- how often z stands there
abbrev pub times : {X : Type 0} → Trees X → ℕ → ℕ
times bare z = 0
times (tree i x inner others) z = (if i == z then 1 else 0) + (times inner z + times others z)

-- how many nodes there are
abbrev pub count : {X : Type 0} → Trees X → ℕ
count bare = 0
count (tree i x inner others) = 1 + count inner + count others

-- how many nodes the longest chain has
abbrev pub height : {X : Type 0} → Trees X → ℕ
height bare = 0
height (tree i x inner others) = max (1 + height inner) (height others)

-- the roots, in order
abbrev pub roots : {X : Type 0} → Trees X → List ℕ
roots bare = []
roots (tree i x inner others) = i ∷ roots others

-- z is the root of one of the trees
abbrev pub has_root : {X : Type 0} → Trees X → ℕ → Bool
has_root bare z = false
has_root (tree i x inner others) z = i == z || has_root others z

-- the root of the first tree
abbrev pub root_of : {X : Type 0} → Trees X → Option ℕ
root_of bare = None
root_of (tree i x inner others) = Some i

abbrev pub is_root : {X : Type 0} → Trees X → ℕ → Bool
is_root bare z = false
is_root (tree i x inner others) z = i == z

-- a test of each id, and of each root
abbrev pub all_ids : {X : Type 0} → (ℕ → Bool) → Trees X → Bool
all_ids p bare = true
all_ids p (tree i x inner others) = p i && (all_ids p inner && all_ids p others)

abbrev pub all_roots : {X : Type 0} → (ℕ → Bool) → Trees X → Bool
all_roots p bare = true
all_roots p (tree i x inner others) = p i && all_roots p others

-- one tree at most
abbrev pub IsSingle : {X : Type 0} → Trees X → Type 0
IsSingle bare = Unit {0}
IsSingle (tree i x inner others) = others ≡ bare

-- no id of f is one of g
pub record AreApart {X : Type 0} (f g : Trees X) : Type 0 where
  pub apart : (z : ℕ) → has f z ≡ true → has g z ≡ false

-- no id stands twice
abbrev pub IsDistinct : {X : Type 0} → Trees X → Type 0
IsDistinct bare = Unit {0}
IsDistinct (tree i x inner others) = (has inner i ≡ false) × (has others i ≡ false) × AreApart inner others × IsDistinct inner × IsDistinct others

-- A tree: one root at most, and no id stands twice. That each id has one parent and is reached from the root holds by the form of the type.
pub record IsTree {X : Type 0} (f : Trees X) : Type 0 where
  pub one_root : IsSingle f
  pub distinct : IsDistinct f
