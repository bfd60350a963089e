-- The tests of reached, plain and closed say what the sets say.
use Rattle.std.proofs.Common.{Bool, List, arith, eqb, false, not, refl, subst, sym, true, ℕ, ◌&&◌, ◌||◌, ◌∙◌, ◌≡◌}
use Rattle.std.proofs.lemmas.Bool.{and_parts, eqb-true, false_from_ne_true, false≢true}
use Rattle.std.proofs.lemmas.Bool.Decides.{eqb_tells}
use Rattle.ax_tree.specs.InStep.{lists}
use Rattle.ax_tree.specs.Reach.{FitsReached, IsClosed, IsReached, child, start}
use Rattle.ax_tree.specs.SerialRule.{from_root, is_closed, listed, reached_fit, stand_under, goes_on, is_plain, last_common}
use Rattle.ax_trees.specs.Nodes.{below, root_below, tree_at}
use Rattle.ax_trees.specs.Trees.{IsDistinct, Trees, bare, has, has_root, tree}
use Rattle.ax_laws.proofs.Listed.{listed_has, lists-append}
use Rattle.ax_trees.proofs.Nodes.{tree_at_is}
use Rattle.ax_trees.proofs.Trees.{all_ids_at, all_ids_from, all_roots_at, all_roots_from, below_child, below_of_below, by_go, distinct_below, root_in}

pub root_listed : {X : Type 0} (go : ℕ → Bool) (w : Trees X) (z : ℕ) → has_root w z ≡ true → go z ≡ true → lists (listed go w) z ≡ true
root_listed go bare z t g = absurd (false≢true t)
root_listed go (tree c e k r) z t g = grind (arith, t, g, eqb_tells c z, lists-append (listed go k) (listed go r) z, root_listed go r z)

pub listed_child : {X : Type 0} (go : ℕ → Bool) (w : Trees X) (y z : ℕ) → IsDistinct w → lists (listed go w) y ≡ true → has_root (below w y) z ≡ true → go z ≡ true → lists (listed go w) z ≡ true
listed_child go bare y z d l t g = absurd (false≢true l)
listed_child go (tree c e k r) y z d l t g =
    grind (
      arith,
      l,
      t,
      g,
      eqb_tells c y,
      lists-append (listed go k) (listed go r) y,
      lists-append (listed go k) (listed go r) z,
      listed_has go k y,
      listed_has go r y,
      d.0,
      d.1,
      d.2.apart y,
      root_listed go k z,
      listed_child go k y z d.3,
      listed_child go r y z d.4,
    )

-- what is listed below a reached node is reached
pub listed_reached : {X : Type 0} (s : Trees X) (go : ℕ → Bool) (x y : ℕ) (w : Trees X) (z : ℕ) → IsDistinct s → IsDistinct w → IsReached s go x y
    → ((c : ℕ) → has_root w c ≡ true → has_root (below s y) c ≡ true) → ((c : ℕ) → has_root w c ≡ true → root_below w c ≡ below s c)
    → lists (listed go w) z ≡ true → IsReached s go x z
listed_reached s go x y bare z ds dw reached tops same l = absurd (false≢true l)
listed_reached {X} s go x y (tree c e k r) z ds dw reached tops same l =
    let self : eqb c c ≡ true = grind (arith, eqb_tells c c) in
    let kc : k ≡ below s c = rw self at (same c (grind (arith, self))) in
    let later : lists (listed go r) z ≡ true → IsReached s go x z =
    λ m. listed_reached s go x y r z ds dw.4 reached (λ v t. tops v (grind (arith, t)))
    (λ v t. let no : eqb c v ≡ false = grind (arith, eqb_tells c v, dw.1, root_in r v, t) in rw no at (same v (grind (arith, t)))) m in
    by_go (go c)
    (λ g. let at : IsReached s go x c = child c reached (tops c (grind (arith, self))) g in
    by_go (eqb c z)
    (λ q. subst (λ v. IsReached s go x v) (eqb-true c z q) at)
    (λ q. by_go (lists (listed go k) z)
    (λ m. listed_reached s go x c k z ds dw.3 at (λ v t. rw kc at t)
    (λ v t. rw kc (below_child s c v ds (rw kc at t))) m)
    (λ m. later (grind (arith, l, g, q, m, lists-append (listed go k) (listed go r) z)))))
    (λ g. later (grind (arith, l, g)))

pub lists_root : {X : Type 0} (s : Trees X) (go : ℕ → Bool) (x z : ℕ) → has s x ≡ true → lists (from_root go (tree_at s x)) z ≡ (eqb x z || lists (listed go (below s x)) z)
lists_root s go x z h = rw (tree_at_is s x h).1 refl

-- The listed nodes are the reached nodes.
pub reached_listed : {X : Type 0} (s : Trees X) (go : ℕ → Bool) (x z : ℕ) → IsDistinct s → has s x ≡ true → lists (from_root go (tree_at s x)) z ≡ true → IsReached s go x z
reached_listed s go x z d h l =
    let l' : (eqb x z || lists (listed go (below s x)) z) ≡ true = sym (lists_root s go x z h) ∙ l in
    by_go (eqb x z)
    (λ q. subst (λ v. IsReached s go x v) (eqb-true x z q) start)
    (λ q. listed_reached s go x x (below s x) z d (distinct_below s x d) start (λ c t. t) (λ c t. below_child s x c d t) (grind (arith, l', q)))

pub listed_is_reached : {X : Type 0} (s : Trees X) (go : ℕ → Bool) (x : ℕ) → IsDistinct s → has s x ≡ true → {z : ℕ} → IsReached s go x z → lists (from_root go (tree_at s x)) z ≡ true
listed_is_reached s go x d h start = lists_root s go x x h ∙ grind (arith, eqb_tells x x)
listed_is_reached s go x d h (child {y = y} z p t g) = next s go x y z d h (listed_is_reached s go x d h p) t g
  where
    next : {E : Type 0} (s : Trees E) (go : ℕ → Bool) (x y z : ℕ) → IsDistinct s → has s x ≡ true → lists (from_root go (tree_at s x)) y ≡ true → has_root (below s y) z ≡ true → go z ≡ true
        → lists (from_root go (tree_at s x)) z ≡ true
    next s go x y z d h l₀ t g =
        let ih : (eqb x y || lists (listed go (below s x)) y) ≡ true = sym (lists_root s go x y h) ∙ l₀ in
        lists_root s go x z h ∙
        by_go (eqb x y)
        (λ q. let t' : has_root (below s x) z ≡ true = subst (λ v. has_root (below s v) z ≡ true) (sym (eqb-true x y q)) t in grind (arith, root_listed go (below s x) z t' g))
        (λ q. let l : lists (listed go (below s x)) y ≡ true = grind (arith, ih, q) in
        let t' : has_root (below (below s x) y) z ≡ true = rw (below_of_below s x y d (listed_has go (below s x) y l)) t in
        grind (arith, listed_child go (below s x) y z (distinct_below s x d) l t' g))

pub fit_at : {X E : Type 0} (c : Trees E) (go : ℕ → Bool) (w : Trees X) (y : ℕ) → IsDistinct w → reached_fit c go w ≡ true → lists (listed go w) y ≡ true → stand_under c y (below w y) ≡ true
fit_at c go bare y d f l = absurd (false≢true l)
fit_at c go (tree i e k r) y d f l =
    grind (arith, f, l, eqb_tells i y, lists-append (listed go k) (listed go r) y, listed_has go k y, listed_has go r y, d.0, d.1, d.2.apart y, fit_at c go k y d.3, fit_at c go r y d.4)

pub fit_from : {X E : Type 0} (c : Trees E) (go : ℕ → Bool) (w : Trees X) → IsDistinct w → ((y : ℕ) → lists (listed go w) y ≡ true → stand_under c y (below w y) ≡ true) → reached_fit c go w ≡ true
fit_from c go bare d h = refl
fit_from c go (tree i e k r) d h =
    let self : eqb i i ≡ true = grind (arith, eqb_tells i i) in
    let later : reached_fit c go r ≡ true = fit_from c go r d.4 (λ y l.
    let y' : has r y ≡ true = listed_has go r y l in
    let no : eqb i y ≡ false = grind (arith, eqb_tells i y, d.1, y') in
    let no' : has k y ≡ false = false_from_ne_true (has k y) (λ g. grind (arith, d.2.apart y g, y')) in
    rw (no, no') at (h y (grind (arith, l, no, lists-append (listed go k) (listed go r) y)))) in
    by_go (go i)
    (λ g. let here : stand_under c i k ≡ true = rw self at (h i (grind (arith, g, self))) in
    let deeper : reached_fit c go k ≡ true = fit_from c go k d.3 (λ y l.
    let y' : has k y ≡ true = listed_has go k y l in
    let no : eqb i y ≡ false = grind (arith, eqb_tells i y, d.0, y') in
    rw (no, y') at (h y (grind (arith, l, g, lists-append (listed go k) (listed go r) y)))) in
    rw (g, here, deeper, later) refl)
    (λ g. rw (g, later) refl)

-- The serializer's test of a, below its chain, against the words of reach, plain and closed.
pub fits_reached : {X E : Type 0} (c : Trees E) (s : Trees X) (go : ℕ → Bool) (x : ℕ) → IsDistinct s → has s x ≡ true
    → (stand_under c x (below s x) && reached_fit c go (below s x)) ≡ true → FitsReached c s go x
fits_reached c s go x d h f =
    let parts : (stand_under c x (below s x) ≡ true) × (reached_fit c go (below s x) ≡ true) = and_parts (stand_under c x (below s x)) (reached_fit c go (below s x)) f in
    record {
      under = λ y z p t g.
          let l : (eqb x y || lists (listed go (below s x)) y) ≡ true = sym (lists_root s go x y h) ∙ listed_is_reached s go x d h p in
          let at : stand_under c y (below s y) ≡ true =
          by_go (eqb x y)
          (λ q. subst (λ v. stand_under c v (below s v) ≡ true) (eqb-true x y q) parts.0)
          (λ q. let l' : lists (listed go (below s x)) y ≡ true = grind (arith, l, q) in
          rw (below_of_below s x y d (listed_has go (below s x) y l')) at (fit_at c go (below s x) y (distinct_below s x d) parts.1 l')) in
          grind (arith, all_roots_at (λ v. not (has c v) || has_root (below c y) v) (below s y) z at t, g);
    }

pub reached_fits : {X E : Type 0} (c : Trees E) (s : Trees X) (go : ℕ → Bool) (x : ℕ) → IsDistinct s → has s x ≡ true
    → FitsReached c s go x → (stand_under c x (below s x) && reached_fit c go (below s x)) ≡ true
reached_fits c s go x d h f =
    let at : (y : ℕ) → IsReached s go x y → stand_under c y (below s y) ≡ true =
    λ y p. all_roots_from (λ v. not (has c v) || has_root (below c y) v) (below s y) (λ z t. by_go (has c z) (λ g. grind (arith, f.under y z p t g, g)) (λ g. grind (arith, g))) in
    let deeper : reached_fit c go (below s x) ≡ true = fit_from c go (below s x) (distinct_below s x d) (λ y l.
    rw (below_of_below s x y d (listed_has go (below s x) y l)) (at y (reached_listed s go x y d h (lists_root s go x y h ∙ grind (arith, l))))) in
    rw (at x start, deeper) refl

pub closed_is : {X E : Type 0} (c : Trees E) (s : Trees X) (x : ℕ) → is_closed c s x ≡ true → IsClosed c s x
closed_is c s x f = record { within = λ z h g. grind (arith, all_ids_at (λ v. not (has c v) || has (below c x) v) (below s x) z f h, g) }

pub closed_back : {X E : Type 0} (c : Trees E) (s : Trees X) (x : ℕ) → IsClosed c s x → is_closed c s x ≡ true
closed_back c s x f = all_ids_from (λ v. not (has c v) || has (below c x) v) (below s x) (λ z h. by_go (has c z) (λ g. grind (arith, f.within z h g)) (λ g. grind (arith, g)))

-- plain: the chains agree, and the reached nodes fit
pub plain_is : {X E : Type 0} (c : Trees E) (s : Trees X) (m : List ℕ) (r a : ℕ) → IsDistinct s → has s a ≡ true → is_plain c s m r a ≡ true
    → (last_common c s r a ≡ a) × FitsReached c s (goes_on c m) a
plain_is c s m r a d h p =
    let parts : (eqb (last_common c s r a) a ≡ true) × ((stand_under c a (below s a) && reached_fit c (goes_on c m) (below s a)) ≡ true) = grind (arith, p) in
    (eqb-true (last_common c s r a) a parts.0, fits_reached c s (goes_on c m) a d h parts.1)

pub plain_back : {X E : Type 0} (c : Trees E) (s : Trees X) (m : List ℕ) (r a : ℕ) → IsDistinct s → has s a ≡ true → last_common c s r a ≡ a → FitsReached c s (goes_on c m) a
    → is_plain c s m r a ≡ true
plain_back c s m r a d h e f =
    let same : eqb (last_common c s r a) a ≡ true = grind (arith, eqb_tells (last_common c s r a) a, e) in
    let fit : (stand_under c a (below s a) && reached_fit c (goes_on c m) (below s a)) ≡ true = reached_fits c s (goes_on c m) a d h f in
    rw (same, fit) refl
