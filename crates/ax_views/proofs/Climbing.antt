-- A climb from an id to the root.
use Rattle.std.proofs.lemmas.List.{append-nil, reverse-append}
use Rattle.std.proofs.Common.{ℕ, suc, ◌≡◌, ◌≤◌, true, false, ◌||◌, eqb, List, [], ◌∷◌, ◌++◌, reverse, append_assoc, Some, None, sym, ap, ◌∙◌, subst, arith}
use Rattle.std.specs.Prelude.{unwrap_or}
use Rattle.std.proofs.lemmas.Bool.Decides.{eqb_tells}
use Rattle.std.proofs.lemmas.Bool.{false_from_ne_true, false≢true, eqb-true}
use Rattle.ax_trees.specs.Trees.{Trees, bare, tree, has, has_root, count, height, IsDistinct}
use Rattle.ax_trees.specs.Nodes.{below, chain, depth, parent, parent_or}
use Rattle.ax_trees.specs.Lists.{contains}
use Rattle.ax_trees.proofs.Trees.{by_go, root_in, below_in, below_trans, not_below_self, parent_has, parent_of_root}
use Rattle.ax_trees.proofs.Lists.{contains-push, same_bool}
use Rattle.ax_trees.proofs.Chains.{below_chain, chain_below, chain_of_root, chain_step}
use Rattle.ax_trees.proofs.Sizes.{depth_root, depth_step}
use Rattle.ax_trees.proofs.Parents.{parent_or-parent, parent_of_child, child_of_parent}
use Rattle.ax_trees.proofs.PlacedParents.{parent_none}

pub parent_there : {X : Type 0} (f : Trees X) (z y : ℕ) → parent f z ≡ Some y → has f z ≡ true
parent_there f z y p = by_go (has f z) (λ q. q) (λ q. absurd (let n : parent f z ≡ None = parent_none f z q in cc))

pub child_no_root : {X : Type 0} (f : Trees X) (z y : ℕ) → IsDistinct f → parent f z ≡ Some y → has_root f z ≡ false
child_no_root f z y d p = false_from_ne_true (has_root f z) (λ q.
    let a : parent_or f z (suc y) ≡ suc y = parent_of_root f z (suc y) d q in
    let b : parent_or f z (suc y) ≡ y = parent_or-parent f z (suc y) ∙ ap (λ o. unwrap_or o (suc y)) p in
    omega (arith, a, b))

pub root_from_none : {X : Type 0} (f : Trees X) (z : ℕ) → IsDistinct f → has f z ≡ true → parent f z ≡ None → has_root f z ≡ true
root_from_none f z d h p = by_go (has_root f z) (λ q. q) (λ q.
    absurd (let c : parent f z ≡ Some (parent_or f z 0) = parent_of_child f (parent_or f z 0) z d (parent_has f z 0 d h q).1 in cc))

-- y is the id above z
pub record IsAbove {X : Type 0} (f : Trees X) (z y : ℕ) : Type 0 where
  pub there : has f z ≡ true
  pub up : has f y ≡ true
  pub child : has_root (below f y) z ≡ true
  pub deep : depth f z ≡ suc (depth f y)
  pub on : chain f z ≡ chain f y ++ z ∷ []
  pub under : (x : ℕ) → has (below f x) z ≡ (eqb y x || has (below f x) y)

pub is_above : {X : Type 0} (f : Trees X) (z y : ℕ) → IsDistinct f → parent f z ≡ Some y → IsAbove f z y
is_above {X} f z y d p = record {
  there = h;
  up = subst (λ v. has f v ≡ true) at (depth_step f z 0 d h t).0;
  child = child_of_parent f y z d p;
  deep = (depth_step f z 0 d h t).1 ∙ ap (λ v. suc (depth f v)) at;
  on = line;
  under = λ x. same_bool (has (below f x) z) (eqb y x || has (below f x) y) (upward x) (downward x);
}
  where
    h : has f z ≡ true
    h = parent_there f z y p

    t : has_root f z ≡ false
    t = child_no_root f z y d p

    at : parent_or f z 0 ≡ y
    at = parent_or-parent f z 0 ∙ ap (λ o. unwrap_or o 0) p

    line : chain f z ≡ chain f y ++ z ∷ []
    line = chain_step f z 0 d h t ∙ ap (λ v. chain f v ++ z ∷ []) at

    upward : (x : ℕ) → has (below f x) z ≡ true → (eqb y x || has (below f x) y) ≡ true
    upward x g =
        let on_it : (contains (chain f y) x || eqb z x) ≡ true = sym (ap (λ zs. contains zs x) line ∙ contains-push (chain f y) z x) ∙ below_chain f x z d g in
        let no : eqb z x ≡ false = false_from_ne_true (eqb z x) (λ q. absurd (false≢true (sym (not_below_self f x d) ∙ subst (λ v. has (below f x) v ≡ true) (eqb-true z x q) g))) in
        let before : contains (chain f y) x ≡ true = grind (arith, on_it, no) in
        grind (arith, chain_below f y x d before, eqb_tells x y, eqb_tells y x)

    downward : (x : ℕ) → (eqb y x || has (below f x) y) ≡ true → has (below f x) z ≡ true
    downward x g =
        let under_y : has (below f y) z ≡ true = root_in (below f y) z (child_of_parent f y z d p) in
        by_go (eqb y x)
        (λ q. subst (λ v. has (below f v) z ≡ true) (eqb-true y x q) under_y)
        (λ q. below_trans f x y z d (grind (arith, g, q)) under_y)

-- nothing is above z
pub depth_top : {X : Type 0} (f : Trees X) (z : ℕ) → IsDistinct f → has f z ≡ true → parent f z ≡ None → depth f z ≡ 1
depth_top f z d h p = depth_root f z d (root_from_none f z d h p)

pub chain_top : {X : Type 0} (f : Trees X) (z : ℕ) → IsDistinct f → has f z ≡ true → parent f z ≡ None → chain f z ≡ z ∷ []
chain_top f z d h p = chain_of_root f z d (root_from_none f z d h p)

pub none_over_top : {X : Type 0} (f : Trees X) (x z : ℕ) → IsDistinct f → parent f z ≡ None → has (below f x) z ≡ false
none_over_top f x z d p = false_from_ne_true (has (below f x) z) (λ g.
    let alone : chain f z ≡ z ∷ [] = chain_top f z d (below_in f x z g) p in
    let on_it : (eqb z x || false) ≡ true = sym (ap (λ zs. contains zs x) alone) ∙ below_chain f x z d g in
    let same : z ≡ x = eqb-true z x (grind (arith, on_it)) in
    false≢true (sym (not_below_self f x d) ∙ subst (λ v. has (below f x) v ≡ true) same g))

-- no chain has more nodes than there are
pub height_count : {X : Type 0} (f : Trees X) → height f ≤ count f
height_count bare = omega arith
height_count (tree i x k r) = omega (arith, height_count k, height_count r)

-- what was climbed from z up to y is the end of the chain of z, the last id first
pub record IsClimbed {X : Type 0} (f : Trees X) (z y : ℕ) (climbed : List ℕ) : Type 0 where
  pub there : has f y ≡ true
  pub rest : List ℕ
  pub is : reverse climbed ≡ y ∷ rest
  pub whole : chain f y ++ rest ≡ chain f z

pub climb_begins : {X : Type 0} (f : Trees X) (z : ℕ) (none climbed : List ℕ) → has f z ≡ true → none ≡ [] → climbed ≡ none ++ z ∷ [] → IsClimbed f z z climbed
climb_begins f z none climbed h e s = record { there = h; rest = []; is = ap reverse (s ∙ ap (λ zs. zs ++ z ∷ []) e); whole = append-nil (chain f z) }

pub climb_next : {X : Type 0} (f : Trees X) (z y x : ℕ) (climbed more : List ℕ) → IsClimbed f z y climbed → IsAbove f y x → more ≡ climbed ++ x ∷ [] → IsClimbed f z x more
climb_next f z y x climbed more c a s = record {
  there = a.up;
  rest = y ∷ c.rest;
  is = ap reverse s ∙ reverse-append climbed (x ∷ []) ∙ ap (λ zs. x ∷ zs) c.is;
  whole = sym (append_assoc (chain f x) (y ∷ []) c.rest) ∙ ap (λ zs. zs ++ c.rest) (sym a.on) ∙ c.whole;
}

pub climb_ends : {X : Type 0} (f : Trees X) (z y : ℕ) (climbed none out : List ℕ) → IsDistinct f → IsClimbed f z y climbed → parent f y ≡ None → none ≡ [] → out ≡ none ++ reverse climbed → out ≡ chain f z
climb_ends f z y climbed none out d c p e s = s ∙ ap (λ zs. zs ++ reverse climbed) e ∙ c.is ∙ sym (ap (λ zs. zs ++ c.rest) (chain_top f y d c.there p)) ∙ c.whole

pub height_below_count : {X : Type 0} (f : Trees X) (z : ℕ) → height (below f z) ≤ count f
height_below_count bare z = omega arith
height_below_count (tree i x k r) z = grind (arith, height_count k, height_below_count k z, height_below_count r z)
