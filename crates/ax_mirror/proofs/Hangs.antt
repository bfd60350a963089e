-- What the kept places of nodes tell of parents and chains.
use Rattle.std.proofs.Common.{◌≡◌, ℕ, suc, ◌+◌, ◌≤◌, ◌<◌, true, false, cond, eqb, ◌||◌, List, [], ◌∷◌, Option, Some, None, refl, sym, ap, subst, ◌∙◌, arith}
use Rattle.std.proofs.lemmas.Bool.{eqb-true, false_from_ne_true, false≢true}
use Rattle.std.proofs.lemmas.Bool.Decides.{eqb_tells}
use Rattle.ax_trees.specs.Trees.{Trees, bare, tree, has, has_root, height, IsDistinct}
use Rattle.ax_trees.specs.Nodes.{below, root_below, parent}
use Rattle.ax_trees.specs.Changes.{with_node}
use Rattle.ax_trees.specs.Lists.{contains}
use Rattle.ax_trees.proofs.Trees.{by_go, root_in}
use Rattle.ax_trees.proofs.PlacedParents.{parent_none}
use Rattle.ax_tree.specs.UpdateRule.{arranged}
use Rattle.ax_mirror.specs.Kept.{Hung}

abbrev At : Type 0
At = ℕ → Option (Option ℕ × ℕ)

pub same_level : (p q : Option ℕ) (n l : ℕ) (o : Option (Option ℕ × ℕ)) → o ≡ Some (p, n) → o ≡ Some (q, l) → n ≡ l
same_level p q n l o a b = let e : ◌≡◌ {A = Option ℕ × ℕ} (p, n) (q, l) = cc in ap (λ (x : Option ℕ × ℕ). x.1) e

module _ {D : Type 0} where
  -- no level above b: no chain longer than b
  pub low : (at : At) (p : Option ℕ) (n b : ℕ) (w : Trees D) → Hung at p n w → ((z : ℕ) (q : Option ℕ) (l : ℕ) → has w z ≡ true → at z ≡ Some (q, l) → l ≤ b) → n ≤ suc b → height w + n ≤ suc b
  low at p n b bare g h m = omega (arith, m)
  low at p n b (tree i e k r) g h m =
      let here : n ≤ b = h i p n (grind (arith, eqb_tells i i)) g.0 in
      let a : height k + suc n ≤ suc b = low at (Some i) (suc n) b k g.1 (λ z q l t. h z q l (grind (arith, t))) (omega arith) in
      let c : height r + n ≤ suc b = low at p n b r g.2 (λ z q l t. h z q l (grind (arith, t))) m in
      omega (arith, a, c)

  -- a level is the length of a chain
  pub reached : (at : At) (p : Option ℕ) (n : ℕ) (w : Trees D) (z : ℕ) (q : Option ℕ) (l : ℕ) → Hung at p n w → has w z ≡ true → at z ≡ Some (q, l) → l < height w + n
  reached at p n bare z q l g h a = absurd (false≢true h)
  reached at p n (tree i e k r) z q l g h a =
      by_go (eqb i z)
      (λ s. let same : n ≡ l = same_level p q n l (at z) (ap at (sym (eqb-true i z s)) ∙ g.0) a in omega (arith, same))
      (λ s. by_go (has k z)
      (λ b. let c : l < height k + suc n = reached at (Some i) (suc n) k z q l g.1 b a in omega (arith, c))
      (λ b. let c : l < height r + n = reached at p n r z q l g.2 (grind (arith, h, s, b)) a in omega (arith, c)))

  pub hung_same : (at to : At) (p : Option ℕ) (n : ℕ) (w : Trees D) → Hung at p n w → ((z : ℕ) → has w z ≡ true → to z ≡ at z) → Hung to p n w
  hung_same at to p n bare g h = tt
  hung_same at to p n (tree i e k r) g h = (
    h i (grind (arith, eqb_tells i i)) ∙ g.0,
    hung_same at to (Some i) (suc n) k g.1 (λ z t. h z (grind (arith, t))),
    hung_same at to p n r g.2 (λ z t. h z (grind (arith, t))),
  )

  pub hung_below : (at : At) (p : Option ℕ) (n : ℕ) (w : Trees D) (y : ℕ) (q : Option ℕ) (l : ℕ) → Hung at p n w → has w y ≡ true → at y ≡ Some (q, l) → Hung at (Some y) (suc l) (below w y)
  hung_below at p n bare y q l g t a = absurd (false≢true t)
  hung_below at p n (tree i e k r) y q l g t a =
      by_go (eqb i y)
      (λ s. let same : i ≡ y = eqb-true i y s in
      let level : n ≡ l = same_level p q n l (at y) (ap at (sym same) ∙ g.0) a in
      rw s (subst (λ m. Hung at (Some y) (suc m) k) level (subst (λ j. Hung at (Some j) (suc n) k) same g.1)))
      (λ s. by_go (has k y)
      (λ b. rw (s, b) (hung_below at (Some i) (suc n) k y q l g.1 b a))
      (λ b. rw (s, b) (hung_below at p n r y q l g.2 (grind (arith, t, s, b)) a)))

  pub hung_with : (at to : At) (p : Option ℕ) (n : ℕ) (w : Trees D) (y : ℕ) (q : Option ℕ) (l : ℕ) (e : D) (j : Trees D) → Hung at p n w → has w y ≡ true → at y ≡ Some (q, l)
      → ((z : ℕ) → has (with_node w y e bare) z ≡ true → to z ≡ at z) → Hung to (Some y) (suc l) j → Hung to p n (with_node w y e j)
  hung_with at to p n bare y q l e j g t a h lj = tt
  hung_with at to p n (tree i x k r) y q l e j g t a h lj =
      by_go (eqb i y)
      (λ s. let same : i ≡ y = eqb-true i y s in
      let level : n ≡ l = same_level p q n l (at y) (ap at (sym same) ∙ g.0) a in
      let lj' : Hung to (Some i) (suc n) j = subst (λ m. Hung to (Some i) (suc m) j) (sym level) (subst (λ v. Hung to (Some v) (suc l) j) (sym same) lj) in
      let h' : (z : ℕ) → (eqb i z || (false || has r z)) ≡ true → to z ≡ at z = rw s at h in
      rw s (h' i (grind (arith, eqb_tells i i)) ∙ g.0, lj', hung_same at to p n r g.2 (λ z c. h' z (grind (arith, c)))))
      (λ s. by_go (has k y)
      (λ b. let h' : (z : ℕ) → (eqb i z || (has (with_node k y e bare) z || has r z)) ≡ true → to z ≡ at z = rw (s, b) at h in
      rw (s, b) (h' i (grind (arith, eqb_tells i i)) ∙ g.0, hung_with at to (Some i) (suc n) k y q l e j g.1 b a (λ z c. h' z (grind (arith, c))) lj, hung_same at to p n r g.2 (λ z c. h' z (grind (arith, c)))))
      (λ b. let h' : (z : ℕ) → (eqb i z || (has k z || has (with_node r y e bare) z)) ≡ true → to z ≡ at z = rw (s, b) at h in
      rw (s, b) (h' i (grind (arith, eqb_tells i i)) ∙ g.0, hung_same at to (Some i) (suc n) k g.1 (λ z c. h' z (grind (arith, c))), hung_with at to p n r y q l e j g.2 (grind (arith, t, s, b)) a (λ z c. h' z (grind (arith, c))) lj)))

  hung_root : (at : At) (p : Option ℕ) (n : ℕ) (k : Trees D) (c : ℕ) → Hung at p n k → has_root k c ≡ true → at c ≡ Some (p, n)
  hung_root at p n bare c g t = absurd (false≢true t)
  hung_root at p n (tree i e k r) c g t = by_go (eqb i c) (λ s. ap at (sym (eqb-true i c s)) ∙ g.0) (λ s. hung_root at p n r c g.2 (grind (arith, t, s)))

  hung_root_below : (at : At) (p : Option ℕ) (n : ℕ) (k : Trees D) (c : ℕ) → Hung at p n k → Hung at (Some c) (suc n) (root_below k c)
  hung_root_below at p n bare c g = tt
  hung_root_below at p n (tree i e k r) c g = by_go (eqb i c) (λ s. rw s (subst (λ j. Hung at (Some j) (suc n) k) (eqb-true i c s) g.1)) (λ s. rw s (hung_root_below at p n r c g.2))

  pub hung_arranged : (at to : At) (p : Option ℕ) (n : ℕ) (d : D) (cs : List ℕ) (k : Trees D) → Hung at p n k → ((z : ℕ) → contains cs z ≡ true → has_root k z ≡ false → to z ≡ Some (p, n))
      → ((z : ℕ) → contains cs z ≡ true → has_root k z ≡ true → to z ≡ at z) → ((c z : ℕ) → contains cs c ≡ true → has (root_below k c) z ≡ true → to z ≡ at z) → Hung to p n (arranged d cs k)
  hung_arranged at to p n d [] k g new old under = tt
  hung_arranged at to p n d (c ∷ cs) k g new old under =
      let here : contains (c ∷ cs) c ≡ true = grind (arith, eqb_tells c c) in (
        by_go (has_root k c) (λ t. old c here t ∙ hung_root at p n k c g t) (λ t. new c here t),
        hung_same at to (Some c) (suc n) (root_below k c) (hung_root_below at p n k c g) (λ z h. under c z here h),
        hung_arranged at to p n d cs k g (λ z a. new z (grind (arith, a))) (λ z a. old z (grind (arith, a))) (λ b z a. under b z (grind (arith, a))),
      )

  root_has_none : (w : Trees D) (z : ℕ) → IsDistinct w → has_root w z ≡ true → parent w z ≡ None
  root_has_none bare z d t = refl
  root_has_none (tree i e k r) z d t =
      grind (arith, t, eqb_tells i z, root_in k z, root_in r z, d.0, d.1, d.2.apart z, root_has_none r z d.4, parent_none r z)

  hung_parent : (at : At) (p : Option ℕ) (n : ℕ) (w : Trees D) (z : ℕ) → IsDistinct w → Hung at p n w → has w z ≡ true → (l : ℕ) × (at z ≡ Some (cond (has_root w z) p (parent w z), l))
  hung_parent at p n bare z d g h = absurd (false≢true h)
  hung_parent at p n (tree i e k r) z d g h =
      by_go (eqb i z)
      (λ s. rw s (n, ap at (sym (eqb-true i z s)) ∙ g.0))
      (λ s. by_go (has k z)
      (λ b. let no : has_root r z ≡ false = false_from_ne_true (has_root r z) (λ t. grind (arith, root_in r z t, d.2.apart z b)) in
      let ih : (l : ℕ) × (at z ≡ Some (cond (has_root k z) (Some i) (parent k z), l)) = hung_parent at (Some i) (suc n) k z d.3 g.1 b in
      rw (s, b, no) ih)
      (λ b. let no : has_root k z ≡ false = false_from_ne_true (has_root k z) (λ t. grind (arith, root_in k z t, b)) in
      let ih : (l : ℕ) × (at z ≡ Some (cond (has_root r z) p (parent r z), l)) = hung_parent at p n r z d.4 g.2 (grind (arith, h, s, b)) in
      rw (s, b, no) ih))

  -- what is kept above a node is its parent
  pub above_is_parent : (at : At) (n : ℕ) (w : Trees D) (z : ℕ) → IsDistinct w → Hung at None n w → has w z ≡ true → (l : ℕ) × (at z ≡ Some (parent w z, l))
  above_is_parent at n w z d g h =
      let it : (l : ℕ) × (at z ≡ Some (cond (has_root w z) None (parent w z), l)) = hung_parent at None n w z d g h in
      let same : cond (has_root w z) None (parent w z) ≡ parent w z = by_go (has_root w z) (λ t. rw t (sym (root_has_none w z d t))) (λ t. rw t refl) in
      (it.0, it.1 ∙ ap (λ (o : Option ℕ). Some (o, it.0)) same)
