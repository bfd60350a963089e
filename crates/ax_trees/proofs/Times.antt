-- How often an id stands in trees, and how many there are.
use Rattle.std.proofs.Common.{ℕ, ◌+◌, ◌≡◌, ◌≤◌, Bool, true, false, ◌||◌, eqb, length, refl, arith, length-append, Some}
use Rattle.std.proofs.lemmas.Bool.Decides.{eqb_tells}
use Rattle.std.proofs.lemmas.Bool.{false_from_ne_true, false≢true}
use Rattle.std.specs.Prelude.{is_some}
use Rattle.ax_trees.specs.Trees.{Trees, bare, tree, has, ids, times, count, IsDistinct}
use Rattle.ax_trees.specs.Nodes.{Node, node_at}
use Rattle.ax_trees.specs.Spots.{spot}
use Rattle.ax_trees.specs.Lists.{contains}
use Rattle.ax_trees.proofs.Trees.{by_go}
use Rattle.ax_trees.proofs.Lists.{contains-append}
use Rattle.ax_trees.proofs.Grown.{node_none, node_some}

pub times_absent : {X : Type 0} (f : Trees X) (z : ℕ) → has f z ≡ false → times f z ≡ 0
times_absent bare z h = refl
times_absent (tree i x k r) z h = grind (arith, times_absent k z, times_absent r z)

pub times_there : {X : Type 0} (f : Trees X) (z : ℕ) → has f z ≡ true → 1 ≤ times f z
times_there bare z h = absurd (false≢true h)
times_there (tree i x k r) z h = grind (arith, times_there k z, times_there r z)

-- no id stands twice where each stands there once at most, and back
pub distinct_once : {X : Type 0} (f : Trees X) (z : ℕ) → IsDistinct f → times f z ≤ 1
distinct_once bare z d = omega arith
distinct_once (tree i x k r) z d =
    grind (arith, eqb_tells i z, times_absent k z, times_absent r z, distinct_once k z d.3, distinct_once r z d.4, d.0, d.1, d.2.apart z)

pub once_distinct : {X : Type 0} (f : Trees X) → ((z : ℕ) → times f z ≤ 1) → IsDistinct f
once_distinct bare h = tt
once_distinct (tree i x k r) h = (
  false_from_ne_true (has k i) (λ g. root_twice i x k r (h i) (has k i || has r i) (grind (arith, g)) (λ _. grind (arith, times_there k i, times_there r i, g))),
  false_from_ne_true (has r i) (λ g. root_twice i x k r (h i) (has k i || has r i) (grind (arith, g)) (λ _. grind (arith, times_there k i, times_there r i, g))),
  record { apart = λ z g. false_from_ne_true (has r z) (λ g'. twice i x k r z (h z) (times_there k z g) (times_there r z g')) },
  once_distinct k (λ z. omega (arith, h z)),
  once_distinct r (λ z. omega (arith, h z)),
)
  where
    twice : {E : Type 0} (i : ℕ) (x : E) (k r : Trees E) (z : ℕ) → times (tree i x k r) z ≤ 1 → 1 ≤ times k z → 1 ≤ times r z → ⊥
    twice i x k r z h a b = omega (arith, h, a, b)

    root_twice : {E : Type 0} (i : ℕ) (x : E) (k r : Trees E) → times (tree i x k r) i ≤ 1 → (b : Bool) → b ≡ true → (b ≡ true → 1 ≤ times k i + times r i) → ⊥
    root_twice i x k r h b p q =
        let self : eqb i i ≡ true = grind (arith, eqb_tells i i) in
        let h' : 1 + (times k i + times r i) ≤ 1 = rw self at h in
        omega (arith, h', q p)

-- the list of ids has those that stand there, as many as there are nodes
pub contains-ids : {X : Type 0} (f : Trees X) (z : ℕ) → contains (ids f) z ≡ has f z
contains-ids bare z = refl
contains-ids (tree i x k r) z = grind (arith, contains-append (ids k) (ids r) z, contains-ids k z, contains-ids r z)

pub length-ids : {X : Type 0} (f : Trees X) → length (ids f) ≡ count f
length-ids bare = refl
length-ids (tree i x k r) = omega (arith, length-append (ids k) (ids r), length-ids k, length-ids r)

-- an id stands there where it has a node, and where it has a spot
pub has-node : {X : Type 0} (f : Trees X) (z : ℕ) → has f z ≡ is_some (node_at f z)
has-node {X} f z =
    by_go (has f z)
    (λ q. let n : (u : Node X) × (node_at f z ≡ Some u) = node_some f z q in rw (q, n.1) refl)
    (λ q. rw (q, node_none f z q) refl)

pub has-spot : {X : Type 0} (f : Trees X) (z : ℕ) → has f z ≡ is_some (spot f z)
has-spot {X} f z =
    by_go (has f z)
    (λ q. let n : (u : Node X) × (node_at f z ≡ Some u) = node_some f z q in rw (q, n.1) refl)
    (λ q. rw (q, node_none f z q) refl)
