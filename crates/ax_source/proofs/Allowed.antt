-- What is known where nothing stands against an edit, and what stands first.
use Rattle.std.proofs.Common.{ℕ, suc, ◌+◌, ◌≡◌, ◌≤◌, ◌<◌, max, Bool, true, false, not, ◌||◌, eqb, length, Option, Some, None, refl, sym, ap, ◌∙◌, subst, arith}
use Rattle.std.specs.Prelude.{nat_le, filter}
use Rattle.std.proofs.lemmas.Bool.{leb-true, false_from_ne_true}
use Rattle.std.proofs.lemmas.Bool.Decides.{leb_tells}
use Rattle.ax_trees.specs.Trees.{Trees, bare, tree, is_bare, has, count, height, is_root, root_of, IsDistinct}
use Rattle.ax_trees.specs.Nodes.{below, children, depth, tree_at}
use Rattle.ax_trees.specs.Changes.{with_below, planted, pruned}
use Rattle.ax_trees.specs.Spots.{or_else}
use Rattle.ax_trees.proofs.Trees.{by_go}
use Rattle.ax_trees.proofs.Sizes.{count_plant, height_plant, count_pruned, depth_pruned}
use Rattle.ax_trees.proofs.Nodes.{tree_at_is}
use Rattle.ax_trees.proofs.Moved.{height_pruned}
use Rattle.ax_views.proofs.Spotting.{stays_there}
use Rattle.ax_tree.specs.declared.edit.EditErr.{EditErr}
use Rattle.ax_tree.specs.declared.edit.EditErr.TheVariants.{NoRoot, UnknownNode, IdTaken, BadIndex, IsRoot, IntoItself, TooMany, TooDeep}
use Rattle.ax_tree.specs.EditRule.{InsertLeaf, RemoveTree, MoveTree, SetKnown, trees_refusal, sized, unless}

past : (b : Bool) (e : EditErr) (o : Option EditErr) → unless b e o ≡ None → (b ≡ true) × (o ≡ None)
past true e o h = (refl, h)
past false e o h = absurd (cc)

pub first_none : (o p : Option EditErr) → or_else o p ≡ None → o ≡ None
first_none None p h = refl
first_none (Some e) p h = absurd (cc)

not_true : (b : Bool) → not b ≡ true → b ≡ false
not_true b h = grind (arith, h)

within_size : {X : Type 0} (f : Trees X) → sized f ≡ None → (count f ≤ 100000) × (height f ≤ 256)
within_size f h =
    let a = past (nat_le (count f) 100000) (TooMany (count f)) _ h in
    let b = past (nat_le (height f) 256) (TooDeep (height f)) _ a.1 in
    (leb-true (count f) 100000 a.0, leb-true (height f) 256 b.0)

-- ---- a leaf

pub record MayInsert {X : Type 0} (p i n : ℕ) (x : X) (f : Trees X) : Type 0 where
  pub there : has f p ≡ true
  pub new : has f n ≡ false
  pub within : i ≤ length (children f p)
  pub few : count (with_below (planted i (tree n x bare bare)) f p) ≤ 100000
  pub low : height (with_below (planted i (tree n x bare bare)) f p) ≤ 256

pub may_insert : {X : Type 0} (p i n : ℕ) (x : X) (f : Trees X) → trees_refusal (InsertLeaf p i n x) f ≡ None → MayInsert p i n x f
may_insert p i n x f h =
    let a = past (not (is_bare f)) NoRoot _ h in
    let b = past (has f p) (UnknownNode p) _ a.1 in
    let c = past (not (has f n)) (IdTaken n) _ b.1 in
    let d = past (nat_le i (length (children f p))) (BadIndex i (length (children f p))) _ c.1 in
    let s = within_size (with_below (planted i (tree n x bare bare)) f p) d.1 in
    record { there = b.0; new = not_true (has f n) c.0; within = leb-true i (length (children f p)) d.0; few = s.0; low = s.1 }

pub insert_sizes : {X : Type 0} (p i n : ℕ) (x : X) (f : Trees X) → has f p ≡ true
    → (count (with_below (planted i (tree n x bare bare)) f p) ≡ count f + 1) × (height (with_below (planted i (tree n x bare bare)) f p) ≡ max (height f) (depth f p + 1))
insert_sizes p i n x f h = (omega (arith, count_plant f p i n x bare h), omega (arith, height_plant f p i n x bare h))

-- ---- a removal

pub may_remove : {X : Type 0} (n : ℕ) (f : Trees X) → trees_refusal (RemoveTree n) f ≡ None → (has f n ≡ true) × (is_root f n ≡ false)
may_remove n f h =
    let a = past (not (is_bare f)) NoRoot _ h in
    let b = past (has f n) (UnknownNode n) _ a.1 in
    let c = past (not (is_root f n)) (IsRoot n) _ b.1 in
    (b.0, not_true (is_root f n) c.0)

-- ---- a move

pub record MayMove {X : Type 0} (n p i : ℕ) (f : Trees X) : Type 0 where
  pub there : has f n ≡ true
  pub place : has f p ≡ true
  pub within : i ≤ length (filter (λ c. not (eqb c n)) (children f p))
  pub no_root : is_root f n ≡ false
  pub outside : (eqb n p || has (below f n) p) ≡ false
  pub few : count (with_below (planted i (tree_at f n)) (pruned f n) p) ≤ 100000
  pub low : height (with_below (planted i (tree_at f n)) (pruned f n) p) ≤ 256

pub may_move : {X : Type 0} (n p i : ℕ) (f : Trees X) → trees_refusal (MoveTree n p i) f ≡ None → MayMove n p i f
may_move n p i f h =
    let len : ℕ = length (filter (λ c. not (eqb c n)) (children f p)) in
    let a = past (not (is_bare f)) NoRoot _ h in
    let b = past (has f n) (UnknownNode n) _ a.1 in
    let c = past (has f p) (UnknownNode p) _ b.1 in
    let d = past (nat_le i len) (BadIndex i len) _ c.1 in
    let r = past (not (is_root f n)) (IsRoot n) _ d.1 in
    let o = past (not (eqb n p || has (below f n) p)) (IntoItself n) _ r.1 in
    let s = within_size (with_below (planted i (tree_at f n)) (pruned f n) p) o.1 in
    record {
      there = b.0;
      place = c.0;
      within = leb-true i len d.0;
      no_root = not_true (is_root f n) r.0;
      outside = not_true (eqb n p || has (below f n) p) o.0;
      few = s.0;
      low = s.1;
    }

pub move_sizes : {X : Type 0} (n p i : ℕ) (f : Trees X) → IsDistinct f → has f n ≡ true → has f p ≡ true → (eqb n p || has (below f n) p) ≡ false
    → (count (with_below (planted i (tree_at f n)) (pruned f n) p) ≡ count f)
    × (height (with_below (planted i (tree_at f n)) (pruned f n) p) ≡ max (height (pruned f n)) (depth f p + suc (height (below f n))))
move_sizes {X} n p i f d h hp o =
    let is : tree_at f n ≡ tree n (tree_at_is f n h).0 (below f n) bare = (tree_at_is f n h).1 in
    let hr : has (pruned f n) p ≡ true = stays_there f n p hp o in
    let fewer : count (pruned f n) + count (tree_at f n) ≡ count f = count_pruned f n h in
    let alone : count (tree_at f n) ≡ count (tree n (tree_at_is f n h).0 (below f n) bare) = ap count is in
    let deep : depth (pruned f n) p ≡ depth f p = depth_pruned f n p d hr in
    subst (λ t. (count (with_below (planted i t) (pruned f n) p) ≡ count f) × (height (with_below (planted i t) (pruned f n) p) ≡ max (height (pruned f n)) (depth f p + suc (height (below f n))))) (sym is) (
      omega (arith, count_plant (pruned f n) p i n (tree_at_is f n h).0 (below f n) hr, fewer, alone),
      omega (arith, height_plant (pruned f n) p i n (tree_at_is f n h).0 (below f n) hr, deep),
    )

-- ---- a change

pub may_change : {X : Type 0} (n : ℕ) (g : X → X) (f : Trees X) → trees_refusal (SetKnown n g) f ≡ None → has f n ≡ true
may_change n g f h =
    let a = past (not (is_bare f)) NoRoot _ h in
    (past (has f n) (UnknownNode n) _ a.1).0

-- ---- the first refusal, from what the tests told

pub bare_from : {X : Type 0} (f : Trees X) → root_of f ≡ None → is_bare f ≡ true
bare_from bare h = refl
bare_from (tree i x k r) h = absurd (cc)

pub rooted_from : {X : Type 0} (f : Trees X) (r : ℕ) → root_of f ≡ Some r → (is_bare f ≡ false) × ((n : ℕ) → is_root f n ≡ eqb r n)
rooted_from bare r h = absurd (cc)
rooted_from (tree i x k q) r h = let same : i ≡ r = cc in (refl, λ n. ap (λ j. eqb j n) same)

too_large : (a b : ℕ) → b < a → nat_le a b ≡ false
too_large a b h = false_from_ne_true (nat_le a b) (λ q. omega (arith, leb-true a b q, h))

not_large : (a b : ℕ) → a ≤ b → nat_le a b ≡ true
not_large a b h = by_go (nat_le a b) (λ q. q) (λ q. absurd (grind (arith, leb_tells a b, q, h)))

sized_many : {X : Type 0} (g : Trees X) (c : ℕ) → count g ≡ c → 100000 < c → sized g ≡ Some (TooMany c)
sized_many g c e m = ap (λ t. unless t (TooMany (count g)) (unless (nat_le (height g) 256) (TooDeep (height g)) None)) (too_large (count g) 100000 (omega (arith, e, m))) ∙ ap (λ k. Some (TooMany k)) e

sized_deep : {X : Type 0} (g : Trees X) (h : ℕ) → count g ≤ 100000 → height g ≡ h → 256 < h → sized g ≡ Some (TooDeep h)
sized_deep g h m e l =
    ap (λ t. unless t (TooMany (count g)) (unless (nat_le (height g) 256) (TooDeep (height g)) None)) (not_large (count g) 100000 m)
    ∙ (ap (λ t. unless t (TooDeep (height g)) None) (too_large (height g) 256 (omega (arith, e, l))) ∙ ap (λ k. Some (TooDeep k)) e)

sized_fits : {X : Type 0} (g : Trees X) → count g ≤ 100000 → height g ≤ 256 → sized g ≡ None
sized_fits g m l =
    ap (λ t. unless t (TooMany (count g)) (unless (nat_le (height g) 256) (TooDeep (height g)) None)) (not_large (count g) 100000 m)
    ∙ ap (λ t. unless t (TooDeep (height g)) None) (not_large (height g) 256 l)

module _ {X : Type 0} (p i n : ℕ) (x : X) (f : Trees X) where
  pub insert_no_root : is_bare f ≡ true → trees_refusal (InsertLeaf p i n x) f ≡ Some NoRoot
  insert_no_root a = rw a refl

  pub insert_unknown : is_bare f ≡ false → has f p ≡ false → trees_refusal (InsertLeaf p i n x) f ≡ Some (UnknownNode p)
  insert_unknown a b = rw (a, b) refl

  pub insert_taken : is_bare f ≡ false → has f p ≡ true → has f n ≡ true → trees_refusal (InsertLeaf p i n x) f ≡ Some (IdTaken n)
  insert_taken a b c = rw (a, b, c) refl

  insert_to_index : is_bare f ≡ false → has f p ≡ true → has f n ≡ false
      → trees_refusal (InsertLeaf p i n x) f ≡ unless (nat_le i (length (children f p))) (BadIndex i (length (children f p))) (sized (with_below (planted i (tree n x bare bare)) f p))
  insert_to_index a b c = rw (a, b, c) refl

  pub insert_index : is_bare f ≡ false → has f p ≡ true → has f n ≡ false → length (children f p) < i → trees_refusal (InsertLeaf p i n x) f ≡ Some (BadIndex i (length (children f p)))
  insert_index a b c d = insert_to_index a b c ∙ ap (λ t. unless t (BadIndex i (length (children f p))) (sized (with_below (planted i (tree n x bare bare)) f p))) (too_large i (length (children f p)) d)

  insert_to_size : is_bare f ≡ false → has f p ≡ true → has f n ≡ false → i ≤ length (children f p) → trees_refusal (InsertLeaf p i n x) f ≡ sized (with_below (planted i (tree n x bare bare)) f p)
  insert_to_size a b c d = insert_to_index a b c ∙ ap (λ t. unless t (BadIndex i (length (children f p))) (sized (with_below (planted i (tree n x bare bare)) f p))) (not_large i (length (children f p)) d)

  pub insert_many : is_bare f ≡ false → has f p ≡ true → has f n ≡ false → i ≤ length (children f p) → 100000 < count f + 1 → trees_refusal (InsertLeaf p i n x) f ≡ Some (TooMany (count f + 1))
  insert_many a b c d m =
      let s : count (with_below (planted i (tree n x bare bare)) f p) ≡ count f + 1 = (insert_sizes p i n x f b).0 in
      insert_to_size a b c d ∙ sized_many (with_below (planted i (tree n x bare bare)) f p) (count f + 1) s m

  pub insert_deep : is_bare f ≡ false → has f p ≡ true → has f n ≡ false → i ≤ length (children f p) → count f + 1 ≤ 100000 → height f ≤ 256 → 256 < depth f p + 1
      → trees_refusal (InsertLeaf p i n x) f ≡ Some (TooDeep (depth f p + 1))
  insert_deep a b c d m l h =
      let s = insert_sizes p i n x f b in
      let high : height (with_below (planted i (tree n x bare bare)) f p) ≡ depth f p + 1 = omega (arith, s.1) in
      insert_to_size a b c d ∙ sized_deep (with_below (planted i (tree n x bare bare)) f p) (depth f p + 1) (omega (arith, s.0)) high h

  pub insert_fits : is_bare f ≡ false → has f p ≡ true → has f n ≡ false → i ≤ length (children f p) → count f + 1 ≤ 100000 → height f ≤ 256 → depth f p + 1 ≤ 256
      → trees_refusal (InsertLeaf p i n x) f ≡ None
  insert_fits a b c d m l h =
      let s = insert_sizes p i n x f b in
      insert_to_size a b c d ∙ sized_fits (with_below (planted i (tree n x bare bare)) f p) (omega (arith, s.0)) (omega (arith, s.1))

module _ {X : Type 0} (n p i : ℕ) (f : Trees X) where
  pub move_no_root : is_bare f ≡ true → trees_refusal (MoveTree n p i) f ≡ Some NoRoot
  move_no_root a = rw a refl

  pub move_unknown : is_bare f ≡ false → has f n ≡ false → trees_refusal (MoveTree n p i) f ≡ Some (UnknownNode n)
  move_unknown a b = rw (a, b) refl

  pub move_unknown_place : is_bare f ≡ false → has f n ≡ true → has f p ≡ false → trees_refusal (MoveTree n p i) f ≡ Some (UnknownNode p)
  move_unknown_place a b c = rw (a, b, c) refl

  -- what comes after the index
  abbrev after_index : Option EditErr
  after_index =
      unless (not (is_root f n)) (IsRoot n)
      (unless (not (eqb n p || has (below f n) p)) (IntoItself n)
      (sized (with_below (planted i (tree_at f n)) (pruned f n) p)))

  move_to_index : is_bare f ≡ false → has f n ≡ true → has f p ≡ true
      → trees_refusal (MoveTree n p i) f ≡ unless (nat_le i (length (filter (λ c. not (eqb c n)) (children f p)))) (BadIndex i (length (filter (λ c. not (eqb c n)) (children f p)))) after_index
  move_to_index a b c =
      ap (λ t. unless (not t) NoRoot (unless (has f n) (UnknownNode n) (unless (has f p) (UnknownNode p) rest))) a
      ∙ (ap (λ t. unless t (UnknownNode n) (unless (has f p) (UnknownNode p) rest)) b ∙ ap (λ t. unless t (UnknownNode p) rest) c)
    where
      rest : Option EditErr
      rest = unless (nat_le i (length (filter (λ c. not (eqb c n)) (children f p)))) (BadIndex i (length (filter (λ c. not (eqb c n)) (children f p)))) after_index

  pub move_index : is_bare f ≡ false → has f n ≡ true → has f p ≡ true → length (filter (λ c. not (eqb c n)) (children f p)) < i
      → trees_refusal (MoveTree n p i) f ≡ Some (BadIndex i (length (filter (λ c. not (eqb c n)) (children f p))))
  move_index a b c d = move_to_index a b c ∙ ap (λ t. unless t (BadIndex i (length (filter (λ c. not (eqb c n)) (children f p)))) after_index) (too_large i _ d)

  move_after : is_bare f ≡ false → has f n ≡ true → has f p ≡ true → i ≤ length (filter (λ c. not (eqb c n)) (children f p)) → trees_refusal (MoveTree n p i) f ≡ after_index
  move_after a b c d = move_to_index a b c ∙ ap (λ t. unless t (BadIndex i (length (filter (λ c. not (eqb c n)) (children f p)))) after_index) (not_large i _ d)

  pub move_root : is_bare f ≡ false → has f n ≡ true → has f p ≡ true → i ≤ length (filter (λ c. not (eqb c n)) (children f p)) → is_root f n ≡ true → trees_refusal (MoveTree n p i) f ≡ Some (IsRoot n)
  move_root a b c d r = move_after a b c d ∙ rw r refl

  pub move_inside : is_bare f ≡ false → has f n ≡ true → has f p ≡ true → i ≤ length (filter (λ c. not (eqb c n)) (children f p)) → is_root f n ≡ false → (eqb n p || has (below f n) p) ≡ true
      → trees_refusal (MoveTree n p i) f ≡ Some (IntoItself n)
  move_inside a b c d r o = move_after a b c d ∙ rw (r, o) refl

  move_to_size : is_bare f ≡ false → has f n ≡ true → has f p ≡ true → i ≤ length (filter (λ c. not (eqb c n)) (children f p)) → is_root f n ≡ false → (eqb n p || has (below f n) p) ≡ false
      → trees_refusal (MoveTree n p i) f ≡ sized (with_below (planted i (tree_at f n)) (pruned f n) p)
  move_to_size a b c d r o = move_after a b c d ∙ rw (r, o) refl

  pub move_deep : is_bare f ≡ false → has f n ≡ true → has f p ≡ true → i ≤ length (filter (λ c. not (eqb c n)) (children f p)) → is_root f n ≡ false → (eqb n p || has (below f n) p) ≡ false
      → IsDistinct f → count f ≤ 100000 → height f ≤ 256 → 256 < depth f p + 1 + height (below f n) → trees_refusal (MoveTree n p i) f ≡ Some (TooDeep (depth f p + 1 + height (below f n)))
  move_deep a b c d r o t m l h =
      let s = move_sizes n p i f t b c o in
      let high : height (with_below (planted i (tree_at f n)) (pruned f n) p) ≡ depth f p + 1 + height (below f n) = omega (arith, s.1, height_pruned f n) in
      move_to_size a b c d r o ∙ sized_deep (with_below (planted i (tree_at f n)) (pruned f n) p) (depth f p + 1 + height (below f n)) (omega (arith, s.0)) high h

  pub move_fits : is_bare f ≡ false → has f n ≡ true → has f p ≡ true → i ≤ length (filter (λ c. not (eqb c n)) (children f p)) → is_root f n ≡ false → (eqb n p || has (below f n) p) ≡ false
      → IsDistinct f → count f ≤ 100000 → height f ≤ 256 → depth f p + 1 + height (below f n) ≤ 256 → trees_refusal (MoveTree n p i) f ≡ None
  move_fits a b c d r o t m l h =
      let s = move_sizes n p i f t b c o in
      move_to_size a b c d r o ∙ sized_fits (with_below (planted i (tree_at f n)) (pruned f n) p) (omega (arith, s.0)) (omega (arith, s.1, height_pruned f n))
