-- Chains, and what two of them have in common.
use Rattle.std.proofs.Common.{List, [], ap, arith, eqb, false, refl, subst, suc, sym, true, ℕ, ◌++◌, ◌||◌, ◌∙◌, ◌∷◌, ◌≡◌}
use Rattle.std.proofs.lemmas.Bool.{eqb-true, false_from_ne_true, false≢true}
use Rattle.std.proofs.lemmas.Bool.Decides.{eqb_tells}
use Rattle.ax_trees.specs.Lists.{common_prefix, contains, last_that}
use Rattle.ax_trees.specs.Nodes.{below, chain, depth, parent_or}
use Rattle.ax_trees.specs.Trees.{IsDistinct, IsTree, Trees, bare, has, has_root, tree}
use Rattle.ax_trees.proofs.Trees.{below_in, by_go, not_below_self, root_in}

pub chain_in : {X : Type 0} (w : Trees X) (z x : ℕ) → contains (chain w z) x ≡ true → has w x ≡ true
chain_in bare z x h = h
chain_in (tree i e k r) z x h = grind (arith, chain_in k z x, chain_in r z x)

-- the numbers that f gives are n + 1, n + 2 and so on
abbrev pub Depths : (ℕ → ℕ) → ℕ → List ℕ → Type 0
Depths f n [] = Unit {0}
Depths f n (x ∷ xs) = (f x ≡ suc n) × Depths f (suc n) xs

pub depths_up : (f g : ℕ → ℕ) (n : ℕ) (xs : List ℕ) → Depths f n xs → ((x : ℕ) → contains xs x ≡ true → g x ≡ suc (f x)) → Depths g (suc n) xs
depths_up f g n [] l h = tt
depths_up f g n (x ∷ xs) l h = (h x (grind (arith, eqb_tells x x)) ∙ ap suc l.0, depths_up f g (suc n) xs l.1 (λ y c. h y (grind (arith, c))))

pub depths_same : (f g : ℕ → ℕ) (n : ℕ) (xs : List ℕ) → Depths f n xs → ((x : ℕ) → contains xs x ≡ true → g x ≡ f x) → Depths g n xs
depths_same f g n [] l h = tt
depths_same f g n (x ∷ xs) l h = (h x (grind (arith, eqb_tells x x)) ∙ l.0, depths_same f g (suc n) xs l.1 (λ y c. h y (grind (arith, c))))

pub chain_depths : {X : Type 0} (w : Trees X) (z : ℕ) → IsDistinct w → Depths (depth w) 0 (chain w z)
chain_depths bare z d = tt
chain_depths (tree i e k r) z d =
    by_go (eqb i z)
    (λ q. rw q (grind (arith, eqb_tells i i), tt))
    (λ q. by_go (has k z)
    (λ q'. rw (q, q') (
      grind (arith, eqb_tells i i),
      depths_up (depth k) (depth (tree i e k r)) 0 (chain k z) (chain_depths k z d.3)
          (λ x c. grind (arith, chain_in k z x, d.0, eqb_tells i x)),
    ))
    (λ q'. rw (q, q') (depths_same (depth r) (depth (tree i e k r)) 0 (chain r z) (chain_depths r z d.4)
    (λ x c. grind (arith, chain_in r z x, d.1, d.2.apart x, eqb_tells i x)))))

pub common_depths : (f g : ℕ → ℕ) (n : ℕ) (xs ys : List ℕ) (x : ℕ) → Depths f n xs → Depths g n ys → contains (common_prefix xs ys) x ≡ true → f x ≡ g x
common_depths f g n [] ys x l m h = absurd (false≢true h)
common_depths f g n (a ∷ xs) [] x l m h = absurd (false≢true h)
common_depths f g n (a ∷ xs) (b ∷ ys) x l m h = grind (arith, eqb_tells a b, eqb_tells a x, l.0, m.0, common_depths f g (suc n) xs ys x l.1 m.1)

pub chain_some : {X : Type 0} (w : Trees X) (z y : ℕ) (ys : List ℕ) → chain w z ≡ y ∷ ys → has w z ≡ true
chain_some bare z y ys h = grind (arith, h)
chain_some (tree i e k r) z y ys h = grind (arith, chain_some r z y ys)

-- a chain, cut off, is the chain of its last id
pub chain_front : {X : Type 0} (w : Trees X) (z : ℕ) (p : ℕ) (ps qs : List ℕ) → IsDistinct w → p ∷ (ps ++ qs) ≡ chain w z → chain w (last_that (λ _. true) ps p) ≡ p ∷ ps
chain_front bare z p ps qs dw h = grind (arith, h)
chain_front (tree i e k r) z p [] qs dw h =
    grind (arith, eqb_tells i z, eqb_tells i p, chain_front r z p [] qs dw.4, chain_some r p p [], dw.1, dw.2.apart p)
chain_front (tree i e k r) z p (y ∷ ys) qs dw h =
    grind (
      arith,
      eqb_tells i z,
      eqb_tells i (last_that (λ _. true) ys y),
      chain_front k z y ys qs dw.3,
      chain_front r z p (y ∷ ys) qs dw.4,
      chain_some k (last_that (λ _. true) ys y) y ys,
      chain_some r (last_that (λ _. true) ys y) p (y ∷ ys),
      dw.0,
      dw.1,
      dw.2.apart (last_that (λ _. true) ys y),
    )

-- what is on the chain of z is z or above it
pub chain_below : {X : Type 0} (w : Trees X) (z x : ℕ) → IsDistinct w → contains (chain w z) x ≡ true → (eqb x z || has (below w x) z) ≡ true
chain_below bare z x d h = absurd (false≢true h)
chain_below (tree i e k r) z x d h =
    grind (arith, h, eqb_tells i z, eqb_tells i x, eqb_tells x z, chain_below k z x d.3, chain_below r z x d.4, chain_in k z x, chain_in r z x, d.0, d.1, d.2.apart x)

pub chain_head : {X : Type 0} (i : ℕ) (e : X) (k : Trees X) (z : ℕ) → has (tree i e k bare) z ≡ true → (xs : List ℕ) × (chain (tree i e k bare) z ≡ i ∷ xs)
chain_head i e k z h = by_go (eqb i z) (λ q. rw q ([], refl)) (λ q. by_go (has k z) (λ q'. rw (q, q') (chain k z, refl)) (λ q'. absurd (grind (arith, h, q, q'))))

pub chain_root : {X : Type 0} (i : ℕ) (e : X) (k : Trees X) (z : ℕ) → has (tree i e k bare) z ≡ true → contains (chain (tree i e k bare) z) i ≡ true
chain_root i e k z h = rw (chain_head i e k z h).1 (grind (arith, eqb_tells i i))

pub chain_absent : {X : Type 0} (w : Trees X) (z : ℕ) → has w z ≡ false → chain w z ≡ []
chain_absent bare z h = refl
chain_absent (tree i e k r) z h = grind (arith, h, chain_absent r z)

-- what stands above z is on its chain
pub below_chain : {X : Type 0} (w : Trees X) (x z : ℕ) → IsDistinct w → has (below w x) z ≡ true → contains (chain w z) x ≡ true
below_chain bare x z d h = absurd (false≢true h)
below_chain (tree i e k r) x z d h =
    grind (arith, h, eqb_tells i z, eqb_tells i x, below_in k x z, below_in r x z, d.0, d.1, d.2.apart z, below_chain k x z d.3, below_chain r x z d.4)

pub below_one : {X E : Type 0} (c : Trees X) (k : Trees E) (x z : ℕ) → IsTree c → IsTree k → chain c z ≡ chain k z → has (below c x) z ≡ true → has (below k x) z ≡ true
below_one c k x z tc tk e h =
    let on : contains (chain k z) x ≡ true = rw e at (below_chain c x z tc.distinct h) in
    let no : eqb x z ≡ false = false_from_ne_true (eqb x z) (λ q. absurd (false≢true (sym (not_below_self c x tc.distinct) ∙ subst (λ v. has (below c x) v ≡ true) (sym (eqb-true x z q)) h))) in
    grind (arith, chain_below k z x tk.distinct on, no)

pub chain_of_root : {X : Type 0} (w : Trees X) (z : ℕ) → IsDistinct w → has_root w z ≡ true → chain w z ≡ z ∷ []
chain_of_root bare z d t = absurd (false≢true t)
chain_of_root (tree i e k r) z d t =
    by_go (eqb i z)
    (λ q. rw q (ap (λ y. y ∷ []) (eqb-true i z q)))
    (λ q. let t' : has_root r z ≡ true = grind (arith, t, q) in
    let none : has k z ≡ false = false_from_ne_true (has k z) (λ g. grind (arith, d.2.apart z g, root_in r z t')) in
    rw (q, none) (chain_of_root r z d.4 t'))

-- the chain of a node is its parent's chain and the node
pub chain_step : {X : Type 0} (w : Trees X) (z f : ℕ) → IsDistinct w → has w z ≡ true → has_root w z ≡ false → chain w z ≡ chain w (parent_or w z f) ++ (z ∷ [])
chain_step bare z f d h t = absurd (false≢true h)
chain_step (tree i e k r) z f d h t =
    let q : eqb i z ≡ false = grind (arith, t) in
    by_go (has k z)
    (λ q'. by_go (has_root k z)
    (λ s. let self : eqb i i ≡ true = grind (arith, eqb_tells i i) in rw (q, q', s, self) (ap (λ xs. i ∷ xs) (chain_of_root k z d.3 s)))
    (λ s. let up : has k (parent_or k z f) ≡ true = parent_in k z f q' s in
    let no : eqb i (parent_or k z f) ≡ false = grind (arith, eqb_tells i (parent_or k z f), up, d.0) in
    rw (q, q', s, no, up) (ap (λ xs. i ∷ xs) (chain_step k z f d.3 q' s))))
    (λ q'. let s : has_root k z ≡ false = false_from_ne_true (has_root k z) (λ g. grind (arith, root_in k z g, q')) in
    let h' : has r z ≡ true = grind (arith, h, q, q') in
    let t' : has_root r z ≡ false = grind (arith, t, q) in
    let up : has r (parent_or r z f) ≡ true = parent_in r z f h' t' in
    let no : eqb i (parent_or r z f) ≡ false = grind (arith, eqb_tells i (parent_or r z f), up, d.1) in
    let no' : has k (parent_or r z f) ≡ false = false_from_ne_true (has k (parent_or r z f)) (λ g. grind (arith, d.2.apart (parent_or r z f) g, up)) in
    rw (q, q', s, no, no') (chain_step r z f d.4 h' t'))
  where
    parent_in : {E : Type 0} (w : Trees E) (z f : ℕ) → has w z ≡ true → has_root w z ≡ false → has w (parent_or w z f) ≡ true
    parent_in bare z f h t = absurd (false≢true h)
    parent_in (tree i e k r) z f h t = grind (arith, h, t, eqb_tells i i, root_in k z, parent_in k z f, parent_in r z f)
