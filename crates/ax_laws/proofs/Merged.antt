-- The merge: its nodes, and that no id stands twice in it.
use Rattle.std.proofs.Common.{Bool, ap, arith, eqb, false, max, refl, subst, sym, true, ℕ, ◌&&◌, ◌||◌, ◌∙◌, ◌≡◌, ◌≤◌, ◌⊎◌}
use Rattle.std.proofs.lemmas.Bool.{cases_Bool, eqb-true, false_from_ne_true, false≢true}
use Rattle.std.proofs.lemmas.Bool.Decides.{eqb_tells}
use Rattle.ax_laws.specs.Merge.{ReachFits, RootsFit, merged}
use Rattle.ax_tree.specs.InStep.{lists}
use Rattle.ax_tree.specs.UpdateRule.{arranged}
use Rattle.ax_tree.specs.SerialRule.{listed}
use Rattle.ax_trees.specs.Changes.{with_node}
use Rattle.ax_trees.specs.Nodes.{below, node_at, root_below, root_known}
use Rattle.ax_trees.specs.Trees.{IsDistinct, Trees, bare, has, has_root, height, roots, tree}
use Rattle.ax_tree.proofs.Arranged.{arranged_from, distinct_arranged}
use Rattle.ax_laws.proofs.Listed.{listed_has, lists-append}
use Rattle.ax_trees.proofs.Changed.{outside, with_node_from}
use Rattle.ax_trees.proofs.Nodes.{height_root_below, node_root, node_root_below}
use Rattle.ax_trees.proofs.Trees.{by_go, contains_roots, distinct_root_below, root_below_in, root_in}

pub height_merged : {X : Type 0} (f : X) (go : ℕ → Bool) (w k : Trees X) → height (merged f go w k) ≤ max (height w) (height k)
height_merged f go bare k = grind arith
height_merged f go (tree c e w r) k = grind (arith, height_merged f go w (root_below k c), height_merged f go r k, height_root_below k c)

pub merged_all : {X : Type 0} (f : X) (w k : Trees X) → merged f (λ _. true) w k ≡ w
merged_all f bare k = refl
merged_all f (tree c e w r) k = rw (merged_all f w (root_below k c), merged_all f r k)

pub roots_fit_none : {X : Type 0} (held : ℕ → Bool) (w k : Trees X) → ((z : ℕ) → has w z ≡ true → held z ≡ false) → RootsFit held w k
roots_fit_none held w k h = record { stands = λ z t g. absurd (false≢true (sym (h z (root_in w z t)) ∙ g)) }

pub reach_fits_none : {X : Type 0} (go held : ℕ → Bool) (w k : Trees X) → ((z : ℕ) → has w z ≡ true → held z ≡ false) → ReachFits go held w k
reach_fits_none go held bare k h = tt
reach_fits_none go held (tree c e w r) k h = (
  λ g. (roots_fit_none held w (root_below k c) (λ z t. h z (grind (arith, t))), reach_fits_none go held w (root_below k c) (λ z t. h z (grind (arith, t)))),
  reach_fits_none go held r k (λ z t. h z (grind (arith, t))),
)

pub listed_merged : {X : Type 0} (f : X) (go : ℕ → Bool) (w k : Trees X) (z : ℕ) → lists (listed go w) z ≡ true → has (merged f go w k) z ≡ true
listed_merged f go bare k z h = absurd (false≢true h)
listed_merged f go (tree c e w r) k z h = grind (arith, listed_merged f go w (root_below k c) z, listed_merged f go r k z, lists-append (listed go w) (listed go r) z)

pub roots-merged : {X : Type 0} (f : X) (go : ℕ → Bool) (w k : Trees X) → roots (merged f go w k) ≡ roots w
roots-merged f go bare k = refl
roots-merged f go (tree c e w r) k = grind (arith, roots-merged f go r k)

-- a listed id has the source's node
pub merged_new : {X : Type 0} (f : X) (go : ℕ → Bool) (w k : Trees X) (z : ℕ) → IsDistinct w → IsDistinct (merged f go w k) → lists (listed go w) z ≡ true
    → node_at (merged f go w k) z ≡ node_at w z
merged_new f go bare k z dw dm h = refl
merged_new f go (tree c e w r) k z dw dm h =
    by_go (go c)
    (λ g. let dm' : IsDistinct (tree c e (merged f go w (root_below k c)) (merged f go r k)) = rw g at dm in
    rw (g, roots-merged f go w (root_below k c))
    (grind (
      arith,
      h,
      g,
      lists-append (listed go w) (listed go r) z,
      listed_has go w z,
      listed_has go r z,
      listed_merged f go w (root_below k c) z,
      listed_merged f go r k z,
      merged_new f go w (root_below k c) z dw.3 dm'.3,
      merged_new f go r k z dw.4 dm'.4,
      dw.2.apart z,
      dm'.2.apart z,
    )))
    (λ g. let dm' : IsDistinct (tree c (root_known f k c) (root_below k c) (merged f go r k)) = rw g at dm in
    rw g (grind (arith, h, g, eqb_tells c z, listed_has go r z, listed_merged f go r k z, merged_new f go r k z dw.4 dm'.4, dw.1, dw.2.apart z, dm'.2.apart z)))

-- an id of the merge that is not listed has its old node
pub merged_old : {X : Type 0} (f : X) (go held : ℕ → Bool) (w k : Trees X) (z : ℕ) → IsDistinct w → IsDistinct k → IsDistinct (merged f go w k)
    → ((y : ℕ) → go y ≡ false → held y ≡ true) → RootsFit held w k → ReachFits go held w k
    → has (merged f go w k) z ≡ true → lists (listed go w) z ≡ false
    → (has k z ≡ true) × (node_at (merged f go w k) z ≡ node_at k z)
merged_old f go held bare k z dw dk dm stay fits deeper h n = absurd (false≢true h)
merged_old f go held (tree c e w r) k z dw dk dm stay fits deeper h n =
    let rest : RootsFit held r k = record { stands = λ y t g. fits.stands y (grind (arith, t)) g } in
    by_go (go c)
    (λ g. let dm' : IsDistinct (tree c e (merged f go w (root_below k c)) (merged f go r k)) = rw g at dm in
    let h₀ : has (tree c e (merged f go w (root_below k c)) (merged f go r k)) z ≡ true = rw g at h in
    let n₀ : (eqb c z ≡ false) × (lists (listed go w) z ≡ false) × (lists (listed go r) z ≡ false) = grind (arith, n, g, lists-append (listed go w) (listed go r) z) in
    by_go (has (merged f go w (root_below k c)) z)
    (λ q. let old : (has (root_below k c) z ≡ true) × (node_at (merged f go w (root_below k c)) z ≡ node_at (root_below k c) z) =
    merged_old f go held w (root_below k c) z dw.3 (distinct_root_below k c dk) dm'.3 stay (deeper.0 g).0 (deeper.0 g).1 q n₀.1 in
    (root_below_in k c z old.0, let b : eqb c z ≡ false = n₀.0 in rw (g, b, q) (old.1 ∙ node_root_below k c z dk old.0)))
    (λ q. let old : (has k z ≡ true) × (node_at (merged f go r k) z ≡ node_at k z) =
    merged_old f go held r k z dw.4 dk dm'.4 stay rest deeper.1 (grind (arith, h₀, n₀.0, q)) n₀.2 in
    (old.0, let b : eqb c z ≡ false = n₀.0 in rw (g, b, q) old.1)))
    (λ g. let dm' : IsDistinct (tree c (root_known f k c) (root_below k c) (merged f go r k)) = rw g at dm in
    let h₀ : has (tree c (root_known f k c) (root_below k c) (merged f go r k)) z ≡ true = rw g at h in
    let n₀ : lists (listed go r) z ≡ false = grind (arith, n, g) in
    let t : has_root k c ≡ true = fits.stands c (grind (arith, eqb_tells c c)) (stay c g) in
    by_go (eqb c z)
    (λ b. (subst (λ y. has k y ≡ true) (eqb-true c z b) (root_in k c t), rw (g, b) (sym (node_root f k c dk t) ∙ ap (node_at k) (eqb-true c z b))))
    (λ b. by_go (has (root_below k c) z)
    (λ q. (root_below_in k c z q, rw (g, b, q) (node_root_below k c z dk q)))
    (λ q. let old : (has k z ≡ true) × (node_at (merged f go r k) z ≡ node_at k z) =
    merged_old f go held r k z dw.4 dk dm'.4 stay rest deeper.1 (grind (arith, h₀, b, q)) n₀ in
    (old.0, rw (g, b, q) old.1))))

-- a root, or a child of a reached node
abbrev pub exposed : {X : Type 0} → (ℕ → Bool) → Trees X → ℕ → Bool
exposed go bare z = false
exposed go (tree c e w r) z = eqb c z || ((go c && exposed go w z) || exposed go r z)

pub exposed_has : {X : Type 0} (go : ℕ → Bool) (w : Trees X) (z : ℕ) → exposed go w z ≡ true → has w z ≡ true
exposed_has go bare z h = h
exposed_has go (tree c e w r) z h = grind (arith, exposed_has go w z, exposed_has go r z)

pub merged_in : {X : Type 0} (f : X) (go : ℕ → Bool) (w k : Trees X) (z : ℕ) → has (merged f go w k) z ≡ true → (exposed go w z || has (arranged f (roots w) k) z) ≡ true
merged_in f go bare k z h = absurd (false≢true h)
merged_in f go (tree c e w r) k z h =
    grind (arith, merged_in f go w (root_below k c) z, merged_in f go r k z, arranged_from f (roots w) (root_below k c) z, contains_roots w z, top_exposed go w z)
  where
    top_exposed : {E : Type 0} (go : ℕ → Bool) (v : Trees E) (y : ℕ) → has_root v y ≡ true → exposed go v y ≡ true
    top_exposed go bare y t = t
    top_exposed go (tree i a v s) y t = grind (arith, top_exposed go s y)

-- an exposed id that is held stands in the picked trees
pub exposed_located : {X : Type 0} (f : X) (go held : ℕ → Bool) (w k : Trees X) (z : ℕ) → RootsFit held w k → ReachFits go held w k
    → held z ≡ true → exposed go w z ≡ true → has (arranged f (roots w) k) z ≡ true
exposed_located f go held bare k z fits deeper h l = l
exposed_located f go held (tree c e w r) k z fits deeper h l =
    let rest : RootsFit held r k = record { stands = λ y t g. fits.stands y (grind (arith, t)) g } in
    let right : exposed go r z ≡ true → has (arranged f (roots r) k) z ≡ true = exposed_located f go held r k z rest deeper.1 h in
    let left : go c ≡ true → exposed go w z ≡ true → has (arranged f (roots w) (root_below k c)) z ≡ true =
    λ g. exposed_located f go held w (root_below k c) z (deeper.0 g).0 (deeper.0 g).1 h in
    let stands : go c ≡ true → has_root w z ≡ true → has_root (root_below k c) z ≡ true = λ g t. (deeper.0 g).0.stands z t h in
    grind (arith, arranged_from f (roots w) (root_below k c) z, contains_roots w z, root_in (root_below k c) z)

-- where an id of the merge comes from: an old child's tree, or the source, and then the client had it not
pub merged_from : {X : Type 0} (f : X) (go held : ℕ → Bool) (w k : Trees X) (z : ℕ) → RootsFit held w k → ReachFits go held w k → has (merged f go w k) z ≡ true
    → (has (arranged f (roots w) k) z ≡ true) ⊎ ((has w z ≡ true) × (held z ≡ false))
merged_from f go held w k z fits deeper h =
    let located : held z ≡ true → exposed go w z ≡ true → has (arranged f (roots w) k) z ≡ true = exposed_located f go held w k z fits deeper in
    grind (arith, merged_in f go w k z h, located, exposed_has go w z, cases_Bool (held z))

pub merged_from_below : {X : Type 0} (f : X) (go held : ℕ → Bool) (w k : Trees X) (z : ℕ) → RootsFit held w k → ReachFits go held w k → has (merged f go w k) z ≡ true
    → (has k z ≡ true) ⊎ ((has w z ≡ true) × (held z ≡ false))
merged_from_below f go held w k z fits deeper h =
    grind (arith, merged_from f go held w k z fits deeper h, arranged_from f (roots w) k z, contains_roots w z, root_in w z, root_in k z, fits.stands z, cases_Bool (held z))

pub distinct_merged : {X : Type 0} (f : X) (go held : ℕ → Bool) (w k : Trees X) → IsDistinct w → IsDistinct (arranged f (roots w) k)
    → ((z : ℕ) → has k z ≡ true → held z ≡ true) → RootsFit held w k → ReachFits go held w k → IsDistinct (merged f go w k)
distinct_merged f go held bare k dw dp hk fits deeper = tt
distinct_merged f go held (tree c e w r) k dw dp hk fits deeper =
    let rest : RootsFit held r k = record { stands = λ y t g. fits.stands y (grind (arith, t)) g } in
    let hkk : (z : ℕ) → has (root_below k c) z ≡ true → held z ≡ true = λ z h. hk z (root_below_in k c z h) in
    let right : (z : ℕ) → has (merged f go r k) z ≡ true → (has (arranged f (roots r) k) z ≡ true) ⊎ ((has r z ≡ true) × (held z ≡ false)) =
    λ z h. merged_from f go held r k z rest deeper.1 h in
    let past : has (merged f go r k) c ≡ false = false_from_ne_true (has (merged f go r k) c) (λ h. grind (arith, right c h, dp.1, dw.1)) in
    let later : IsDistinct (merged f go r k) = distinct_merged f go held r k dw.4 dp.4 hk rest deeper.1 in
    let picked : (z : ℕ) → has (arranged f (roots r) k) z ≡ true → (has r z || has k z) ≡ true =
    λ z h. grind (arith, arranged_from f (roots r) k z h, contains_roots r z, root_in r z) in
    by_go (go c)
    (λ g. let left : (z : ℕ) → has (merged f go w (root_below k c)) z ≡ true → (has (root_below k c) z ≡ true) ⊎ ((has w z ≡ true) × (held z ≡ false)) =
    λ z h. merged_from_below f go held w (root_below k c) z (deeper.0 g).0 (deeper.0 g).1 h in
    rw g (
      false_from_ne_true (has (merged f go w (root_below k c)) c) (λ h. grind (arith, left c h, dp.0, dw.0)),
      past,
      record { apart = λ z h. false_from_ne_true (has (merged f go r k) z) (λ h'. grind (arith, left z h, right z h', dp.2.apart z, dw.2.apart z, hkk z, hk z, picked z)) },
      distinct_merged f go held w (root_below k c) dw.3
          (distinct_arranged f w (root_below k c) dw.3 dp.3 (λ z t h. (deeper.0 g).0.stands z t (hkk z h))) hkk (deeper.0 g).0 (deeper.0 g).1,
      later,
    ))
    (λ g. rw g (
      dp.0,
      past,
      record { apart = λ z h. false_from_ne_true (has (merged f go r k) z) (λ h'. grind (arith, right z h', dp.2.apart z, hkk z)) },
      dp.3,
      later,
    ))

-- what stands outside x stands not in the merge below x
pub merged_inside : {X : Type 0} (f : X) (go : ℕ → Bool) (t : Trees X) (x : ℕ) (d : X) (w : Trees X) (z : ℕ) → IsDistinct t → has t x ≡ true
    → RootsFit (has t) w (below t x) → ReachFits go (has t) w (below t x)
    → has (merged f go w (below t x)) z ≡ true → has (with_node t x d bare) z ≡ false
merged_inside f go t x d w z dt h fits deeper g =
    false_from_ne_true (has (with_node t x d bare) z) (λ o.
    grind (arith, merged_from_below f go (has t) w (below t x) z fits deeper g, outside t x d z dt h, with_node_from t x d bare z o))
