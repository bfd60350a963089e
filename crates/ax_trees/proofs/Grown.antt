-- The trees that a map stands for.
use Rattle.std.proofs.Common.{ℕ, zero, suc, ◌≡◌, ◌≤◌, true, false, eqb, List, [], ◌∷◌, refl, sym, ap, ◌∙◌, subst, arith, Option, None, Some}
use Rattle.std.proofs.lemmas.Bool.Decides.{eqb_tells}
use Rattle.std.proofs.lemmas.Bool.{false≢true}
use Rattle.ax_trees.specs.Trees.{Trees, bare, tree, has, roots, height, IsDistinct, IsTree}
use Rattle.ax_trees.specs.Nodes.{Node, node_at}
use Rattle.ax_trees.specs.Spots.{Stands, Shown, grown, grown_one, grown_level}
use Rattle.ax_trees.proofs.Trees.{by_go}

-- a map that has the nodes of trees gives these trees back
pub told : {X : Type 0} (g : ℕ → Option (Node X)) (n : ℕ) (w : Trees X) → IsDistinct w → height w ≤ n → ((z : ℕ) → has w z ≡ true → g z ≡ node_at w z)
    → grown g n (roots w) ≡ w
told g zero bare d l h = refl
told g (suc n) bare d l h = refl
told g zero (tree i e k r) d l h = absurd (omega arith)
told {X} g (suc n) (tree i e k r) d l h =
    let at : g i ≡ Some (record { id = i; known = e; children = roots k }) = h i (grind (arith, eqb_tells i i)) ∙ (let self : eqb i i ≡ true = grind (arith, eqb_tells i i) in rw self refl) in
    let deeper : grown g n (roots k) ≡ k = told g n k d.3 (omega arith) (λ z t. h z (grind (arith, t)) ∙ grind (arith, eqb_tells i z, d.0, t)) in
    let after : grown_level g (grown g n) (roots r) ≡ r = told g (suc n) r d.4 (omega arith) (λ z t. h z (grind (arith, t)) ∙ grind (arith, eqb_tells i z, d.1, d.2.apart z, t)) in
    rw (at, deeper, after) refl

pub node_none : {X : Type 0} (w : Trees X) (z : ℕ) → has w z ≡ false → node_at w z ≡ None
node_none bare z h = refl
node_none (tree i e k r) z h = grind (arith, node_none r z)

pub node_some : {X : Type 0} (w : Trees X) (z : ℕ) → has w z ≡ true → (u : Node X) × (node_at w z ≡ Some u)
node_some bare z h = absurd (false≢true h)
node_some (tree i e k r) z h =
    by_go (eqb i z)
    (λ q. rw q (record { id = i; known = e; children = roots k }, refl))
    (λ q. by_go (has k z) (λ q'. rw (q, q') (node_some k z q')) (λ q'. rw (q, q') (node_some r z (grind (arith, h)))))

pub height_grown_level : {X : Type 0} (g : ℕ → Option (Node X)) (deeper : List ℕ → Trees X) (n : ℕ) (xs : List ℕ) → ((ys : List ℕ) → height (deeper ys) ≤ n) → height (grown_level g deeper xs) ≤ suc n
height_grown_level g deeper n [] h = omega arith
height_grown_level {X} g deeper n (x ∷ xs) h = go (g x) (height_grown_level g deeper n xs h)
  where
    go : (o : Option (Node X)) → height (grown_level g deeper xs) ≤ suc n → height (grown_one deeper x o (grown_level g deeper xs)) ≤ suc n
    go None ih = ih
    go (Some u) ih = omega (arith, ih, h u.children)

pub height_grown : {X : Type 0} (g : ℕ → Option (Node X)) (n : ℕ) (xs : List ℕ) → height (grown g n xs) ≤ n
height_grown g zero xs = omega arith
height_grown g (suc n) xs = height_grown_level g (grown g n) n xs (height_grown g n)

-- The way back: a map that stands for the tree w of this depth with these roots shows it.
pub shown : {X : Type 0} (g : ℕ → Option (Node X)) (n : ℕ) (xs : List ℕ) (w : Trees X) → IsTree w → height w ≤ n → Stands g w → roots w ≡ xs
    → (grown g n xs ≡ w) × Shown g n xs
shown {X} g n xs w is_tree low st tops =
    let same : grown g n xs ≡ w = subst (λ ys. grown g n ys ≡ w) tops (told g n w is_tree.distinct low (λ z h. st.at z)) in (
      same,
      record {
        is_tree = subst (λ v. IsTree v) (sym same) is_tree;
        stands = subst (λ v. Stands g v) (sym same) st;
        tops = ap roots same ∙ tops;
      },
    )
