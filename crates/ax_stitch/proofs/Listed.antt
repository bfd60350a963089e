-- A child that stands in its node's list: it is a node, and lower. Belongs in ax_trees.
use Rattle.std.proofs.Common.{ℕ, zero, suc, ◌<◌, ◌≡◌, true, List, [], ◌∷◌, length, get_or, sym, ap, ◌∙◌, arith}
use Rattle.std.proofs.lemmas.Bool.Decides.{eqb_tells}
use Rattle.ax_trees.specs.Trees.{Trees, has, has_root, height, IsDistinct}
use Rattle.ax_trees.specs.Nodes.{below, children}
use Rattle.ax_trees.specs.Lists.{contains}
use Rattle.ax_trees.proofs.Trees.{root_in, below_in, contains_roots}
use Rattle.ax_views.proofs.Walking.{height_is, heights_at}

listed_at : (xs : List ℕ) (j x : ℕ) → j < length xs → x ≡ get_or xs j x → contains xs x ≡ true
listed_at [] j x l e = absurd (omega (arith, l))
listed_at (y ∷ ys) zero x l e = let same : x ≡ y = e in grind (arith, same, eqb_tells y x)
listed_at (y ∷ ys) (suc j) x l e = let rest = listed_at ys j x (omega (arith, l)) e in grind (arith, rest)

pub child_root : {X : Type 0} (w : Trees X) (z c i : ℕ) (xs : List ℕ) → xs ≡ children w z → i < length xs → c ≡ get_or xs i c → has_root (below w z) c ≡ true
child_root w z c i xs e l g = sym (contains_roots (below w z) c) ∙ (ap (λ ys. contains ys c) (sym e) ∙ listed_at xs i c l g)

pub child_there : {X : Type 0} (w : Trees X) (z c i : ℕ) (xs : List ℕ) → xs ≡ children w z → i < length xs → c ≡ get_or xs i c → has w c ≡ true
child_there w z c i xs e l g = below_in w z c (root_in (below w z) c (child_root w z c i xs e l g))

pub child_lower : {X : Type 0} (w : Trees X) (z c i : ℕ) (xs : List ℕ) → IsDistinct w → xs ≡ children w z → i < length xs → c ≡ get_or xs i c → height (below w c) < height (below w z)
child_lower w z c i xs d e l g =
    let less = heights_at w (children w z) i c (let n = ap (λ ys. length ys) e in omega (arith, n, l)) (g ∙ ap (λ ys. get_or ys i c) e) in
    let whole = height_is w z d in
    omega (arith, less, whole)
