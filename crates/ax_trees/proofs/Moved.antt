-- Trees with one put in, or taken out.
use Rattle.std.proofs.Common.{arith, eqb, false, refl, suc, true, zero, ℕ, ◌||◌, ◌≡◌, ◌≤◌}
use Rattle.std.proofs.lemmas.Bool.Decides.{eqb_tells}
use Rattle.std.proofs.lemmas.Bool.{false_from_ne_true, false≢true}
use Rattle.ax_trees.specs.Changes.{planted, pruned}
use Rattle.ax_trees.specs.Nodes.{below, node_at, parent_or}
use Rattle.ax_trees.specs.Trees.{IsDistinct, IsSingle, Trees, bare, has, has_root, height, is_root, root_of, roots, tree}
use Rattle.ax_trees.proofs.Trees.{below_in, by_go, parent_of_root, root_in}

pub has-planted : {X : Type 0} (i c : ℕ) (e : X) (k q w : Trees X) (z : ℕ) → has (planted i (tree c e k q) w) z ≡ ((eqb c z || has k z) || has w z)
has-planted zero c e k q bare z = grind arith
has-planted zero c e k q (tree x a l r) z = grind arith
has-planted (suc i) c e k q bare z = grind arith
has-planted (suc i) c e k q (tree x a l r) z = grind (arith, has-planted i c e k q r z)

pub distinct_planted : {X : Type 0} (i c : ℕ) (e : X) (k q w : Trees X) → has k c ≡ false → IsDistinct k → IsDistinct w → ((z : ℕ) → (eqb c z || has k z) ≡ true → has w z ≡ false) → IsDistinct (planted i (tree c e k q) w)
distinct_planted zero c e k q w n dk dw apart = (n, apart c (grind (arith, eqb_tells c c)), record { apart = λ z h. apart z (grind (arith, h)) }, dk, dw)
distinct_planted (suc i) c e k q bare n dk dw apart = (n, refl, record { apart = λ z h. refl }, dk, tt)
distinct_planted (suc i) c e k q (tree x a l r) n dk dw apart = (
  dw.0,
  grind (arith, has-planted i c e k q r x, dw.1, apart x, eqb_tells x x),
  record { apart = λ z h. grind (arith, has-planted i c e k q r z, dw.2.apart z h, apart z) },
  dw.3,
  distinct_planted i c e k q r n dk dw.4 (λ z h. grind (arith, apart z h)),
)

pub node_planted_old : {X : Type 0} (i c : ℕ) (e : X) (k q w : Trees X) (z : ℕ) → (eqb c z || has k z) ≡ false → node_at (planted i (tree c e k q) w) z ≡ node_at w z
node_planted_old zero c e k q w z h = grind (arith, h)
node_planted_old (suc i) c e k q bare z h = grind (arith, h)
node_planted_old (suc i) c e k q (tree x a l r) z h = rw (node_planted_old i c e k q r z h) refl

pub node_planted_new : {X : Type 0} (i c : ℕ) (e : X) (k q w : Trees X) (z : ℕ) → (eqb c z || has k z) ≡ true → has w z ≡ false → node_at (planted i (tree c e k q) w) z ≡ node_at (tree c e k bare) z
node_planted_new zero c e k q w z h n = grind (arith, h, n)
node_planted_new (suc i) c e k q bare z h n = refl
node_planted_new (suc i) c e k q (tree x a l r) z h n = grind (arith, node_planted_new i c e k q r z h, n)

pub pruned_in : {X : Type 0} (w : Trees X) (n z : ℕ) → has (pruned w n) z ≡ true → has w z ≡ true
pruned_in bare n z h = h
pruned_in (tree i e k r) n z h = grind (arith, pruned_in k n z, pruned_in r n z)

pub pruned_rest : {X : Type 0} (w : Trees X) (n z : ℕ) → has w z ≡ true → (has (pruned w n) z || (eqb n z || has (below w n) z)) ≡ true
pruned_rest bare n z h = absurd (false≢true h)
pruned_rest (tree i e k r) n z h = grind (arith, eqb_tells i n, eqb_tells i z, eqb_tells n z, pruned_rest k n z, pruned_rest r n z)

pub pruned_gone : {X : Type 0} (w : Trees X) (n z : ℕ) → IsDistinct w → has w n ≡ true → (eqb n z || has (below w n) z) ≡ true → has (pruned w n) z ≡ false
pruned_gone bare n z d h g = refl
pruned_gone (tree i e k r) n z d h g =
    false_from_ne_true (has (pruned (tree i e k r) n) z) (λ c.
    grind (arith, c, h, g, eqb_tells i n, eqb_tells i z, eqb_tells n z, d.0, d.1, d.2.apart z, d.2.apart n, pruned_gone k n z d.3, pruned_gone r n z d.4, below_in k n z, below_in r n z, pruned_in k n z, pruned_in r n z))

pub distinct_pruned : {X : Type 0} (w : Trees X) (n : ℕ) → IsDistinct w → IsDistinct (pruned w n)
distinct_pruned bare n d = d
distinct_pruned (tree i e k r) n d =
    by_go (eqb i n)
    (λ q. rw q d.4)
    (λ q. by_go (has k n)
    (λ q'. rw (q, q') (
      false_from_ne_true (has (pruned k n) i) (λ g. grind (arith, pruned_in k n i g, d.0)),
      d.1,
      record { apart = λ z g. d.2.apart z (pruned_in k n z g) },
      distinct_pruned k n d.3,
      d.4,
    ))
    (λ q'. rw (q, q') (
      d.0,
      false_from_ne_true (has (pruned r n) i) (λ g. grind (arith, pruned_in r n i g, d.1)),
      record { apart = λ z g. false_from_ne_true (has (pruned r n) z) (λ g'. grind (arith, pruned_in r n z g', d.2.apart z g)) },
      d.3,
      distinct_pruned r n d.4,
    )))

pub single_pruned : {X : Type 0} (w : Trees X) (n : ℕ) → is_root w n ≡ false → IsSingle w → (IsSingle (pruned w n)) × (root_of (pruned w n) ≡ root_of w)
single_pruned bare n q s = (tt, refl)
single_pruned (tree i e k bare) n q s = by_go (has k n) (λ q'. rw (q, q') (refl, refl)) (λ q'. rw (q, q') (refl, refl))
single_pruned (tree i e k (tree x a l r)) n q s = absurd (cc)

pub roots-pruned : {X : Type 0} (w : Trees X) (n : ℕ) → has_root w n ≡ false → roots (pruned w n) ≡ roots w
roots-pruned bare n t = refl
roots-pruned (tree i e k r) n t = grind (arith, t, roots-pruned r n)

pub node_pruned : {X : Type 0} (w : Trees X) (n d z : ℕ) → IsDistinct w → has (pruned w n) z ≡ true → eqb (parent_or w n d) z ≡ false → node_at (pruned w n) z ≡ node_at w z
node_pruned bare n d z dw h p = refl
node_pruned {X} (tree i e k r) n d z dw h p =
    by_go (eqb i n)
    (λ q. let h' : has r z ≡ true = grind (arith, h, q) in rw q (grind (arith, h', eqb_tells i z, dw.1, dw.2.apart z)))
    (λ q. by_go (has k n)
    (λ q'. let h' : (eqb i z || (has (pruned k n) z || has r z)) ≡ true = rw (q, q') at h in
    by_go (has_root k n)
    (λ t. let p' : eqb i z ≡ false = grind (arith, p, t) in
    let at_i : eqb (parent_or k n i) z ≡ false = rw (parent_of_root k n i dw.3 t) p' in
    rw (q, q') (grind (arith, h', p', pruned_in k n z, dw.2.apart z, node_pruned k n i z dw.3, at_i)))
    (λ t. let at_d : eqb (parent_or k n d) z ≡ false = grind (arith, p, t, q') in
    rw (q, q', roots-pruned k n t) (grind (arith, h', pruned_in k n z, dw.2.apart z, node_pruned k n d z dw.3, at_d))))
    (λ q'. let h' : (eqb i z || (has k z || has (pruned r n) z)) ≡ true = rw (q, q') at h in
    let at_d : eqb (parent_or r n d) z ≡ false = grind (arith, p, q', root_in k n) in
    rw (q, q') (grind (arith, h', node_pruned r n d z dw.4, at_d))))

pub parent_pruned : {X : Type 0} (w : Trees X) (n d : ℕ) → IsDistinct w → has w n ≡ true → has_root w n ≡ false → has (pruned w n) (parent_or w n d) ≡ true
parent_pruned bare n d dw h t = absurd (false≢true h)
parent_pruned (tree i e k r) n d dw h t =
    by_go (has k n)
    (λ q'. by_go (has_root k n)
    (λ s. grind (arith, t, q', s, eqb_tells i i))
    (λ s. grind (arith, t, q', s, parent_pruned k n d dw.3)))
    (λ q'. grind (arith, t, h, q', root_in k n, parent_pruned r n d dw.4))

pub height_pruned : {X : Type 0} (w : Trees X) (n : ℕ) → height (pruned w n) ≤ height w
height_pruned bare n = omega arith
height_pruned (tree i e k r) n = grind (arith, height_pruned k n, height_pruned r n)
