-- The trees at a node's children, one after the other, and what stands before and behind a child in pre-order. Belongs in ax_trees.
use Rattle.std.proofs.Common.{ℕ, ◌≡◌, true, false, eqb, List, [], ◌∷◌, ◌++◌, flat_map, Some, refl, sym, ap, ◌∙◌, subst, arith, append_assoc, append-nil}
use Rattle.std.proofs.lemmas.List.{append_cancel_left}
use Rattle.std.proofs.lemmas.List.Concat.{flat_map-append}
use Rattle.std.proofs.lemmas.Bool.Decides.{eqb_tells}
use Rattle.std.proofs.lemmas.Bool.{false≢true, false_from_ne_true, eqb-true}
use Rattle.ax_node.specs.Look.{Look, blank_look}
use Rattle.ax_trees.specs.Trees.{Trees, bare, tree, has, has_root, ids, roots, root_of, IsDistinct, IsSingle}
use Rattle.ax_trees.specs.Nodes.{below, children, parent, pre, tree_at}
use Rattle.ax_trees.specs.Lists.{contains, NoneTwice}
use Rattle.ax_trees.proofs.Trees.{root_in, distinct_below, contains_roots}
use Rattle.ax_trees.proofs.Nodes.{tree_at_child, tree_at_root}
use Rattle.ax_trees.proofs.Parents.{child_of_parent}
use Rattle.ax_trees.proofs.Times.{contains-ids}
use Rattle.ax_views.proofs.Counting.{once_ids}
use Rattle.ax_stitch.specs.Orders.{ahead, past, behind}
use Rattle.ax_stitch.proofs.Lists.{split_at}
use Rattle.ax_stitch.proofs.Orders.{parent_in, child_in, past_ids, pre_is}

-- what r reads of the trees at the roots, one after the other
parts : {A : Type 0} (r : Trees Look → List A) → r bare ≡ [] → ((i : ℕ) (x : Look) (a b : Trees Look) → r (tree i x a b) ≡ r (tree i x a bare) ++ r b) → (w u : Trees Look) → IsDistinct u
    → ((c : ℕ) → has_root u c ≡ true → tree_at w c ≡ tree_at u c) → flat_map (λ c. r (tree_at w c)) (roots u) ≡ r u
parts r e s w bare d h = sym e
parts r e s w (tree i x k b) d h =
    let self : eqb i i ≡ true = grind (arith, eqb_tells i i) in
    let head : tree_at w i ≡ tree i x k bare = h i (grind (arith, self)) ∙ (rw self refl) in
    let rest = parts r e s w b d.4 (λ c t. h c (grind (arith, t)) ∙ later c t) in
    ap (λ v. r v ++ flat_map (λ c. r (tree_at w c)) (roots b)) head ∙ (ap (λ l. r (tree i x k bare) ++ l) rest ∙ sym (s i x k b))
  where
    later : (c : ℕ) → has_root b c ≡ true → tree_at (tree i x k b) c ≡ tree_at b c
    later c t =
        let there : has b c ≡ true = root_in b c t in
        let no : eqb i c ≡ false = false_from_ne_true (eqb i c) (λ q. grind (arith, q, eqb_tells i c, there, d.1)) in
        let none : has k c ≡ false = false_from_ne_true (has k c) (λ q. false≢true (sym (d.2.apart c q) ∙ there)) in
        rw (no, none) refl

pub child_parts : {A : Type 0} (r : Trees Look → List A) → r bare ≡ [] → ((i : ℕ) (x : Look) (a b : Trees Look) → r (tree i x a b) ≡ r (tree i x a bare) ++ r b) → (w : Trees Look) (z : ℕ) → IsDistinct w
    → flat_map (λ c. r (tree_at w c)) (children w z) ≡ r (below w z)
child_parts r e s w z d =
    parts r e s w (below w z) (distinct_below w z d)
    (λ c t. tree_at_child blank_look w z c d t ∙ sym (tree_at_root blank_look (below w z) c (distinct_below w z d) t))

pub whole_tree : {X : Type 0} (w : Trees X) (r : ℕ) → IsSingle w → root_of w ≡ Some r → tree_at w r ≡ w
whole_tree bare r s e = absurd (cc)
whole_tree (tree i x k b) r s e =
    let same : i ≡ r = cc in
    let q : eqb i r ≡ true = grind (arith, eqb_tells i r, same) in
    rw q (ap (tree i x k) (sym s))

-- ---- before and behind a child

listed_there : (a b : List ℕ) (z : ℕ) → contains (a ++ (z ∷ b)) z ≡ true
listed_there [] b z = grind (arith, eqb_tells z z)
listed_there (x ∷ a) b z = let rest = listed_there a b z in grind (arith, rest)

-- a list in which no id stands twice is cut at an id in one way
cut_once : (a b : List ℕ) (z : ℕ) → NoneTwice (a ++ (z ∷ b)) → (ahead (a ++ (z ∷ b)) z ≡ a) × (past (a ++ (z ∷ b)) z ≡ b)
cut_once [] b z n = let self : eqb z z ≡ true = grind (arith, eqb_tells z z) in (rw self refl, rw self refl)
cut_once (x ∷ a) b z n =
    let rest = cut_once a b z n.1 in
    let other : eqb x z ≡ false = false_from_ne_true (eqb x z) (λ q. false≢true (sym n.0 ∙ (ap (contains (a ++ (z ∷ b))) (eqb-true x z q) ∙ listed_there a b z))) in
    (rw other (ap (λ l. x ∷ l) rest.0), rw other rest.1)

regroup : (h f g u v : List ℕ) (y z : ℕ) → h ++ (y ∷ ((f ++ ((z ∷ g) ++ u)) ++ v)) ≡ (h ++ (y ∷ f)) ++ (z ∷ (g ++ (u ++ v)))
regroup h f g u v y z = simp append_assoc

-- z among the children of y
pub record IsStep (w : Trees Look) (z y : ℕ) : Type 0 where
  pub before : ahead (ids w) z ≡ ahead (ids w) y ++ (y ∷ flat_map (pre w) (ahead (children w y) z))
  pub after : behind w z ≡ flat_map (pre w) (past (children w y) z) ++ behind w y

pub child_step : (w : Trees Look) (z y : ℕ) → IsDistinct w → parent w z ≡ Some y → IsStep w z y
child_step w z y d e = record {
  before = ap (λ l. ahead l z) whole ∙ cut.0;
  after = append_cancel_left (ids (below w z)) (behind w z) (flat_map (pre w) ys ++ behind w y) (sym (past_ids w z d there_z) ∙ (ap (λ l. past l z) whole ∙ cut.1));
}
  where
    there_y : has w y ≡ true
    there_y = parent_in w z y e

    there_z : has w z ≡ true
    there_z = child_in w z y e

    xs : List ℕ
    xs = ahead (children w y) z

    ys : List ℕ
    ys = past (children w y) z

    listed : children w y ≡ xs ++ (z ∷ ys)
    listed = split_at (children w y) z (contains_roots (below w y) z ∙ child_of_parent w y z d e)

    under : ids (below w y) ≡ flat_map (pre w) xs ++ ((z ∷ ids (below w z)) ++ flat_map (pre w) ys)
    under =
        sym (child_parts ids refl (λ i x a b. simp append-nil) w y d)
        ∙ (ap (flat_map (pre w)) listed ∙ (flat_map-append (pre w) xs (z ∷ ys) ∙ ap (λ l. flat_map (pre w) xs ++ (l ++ flat_map (pre w) ys)) (pre_is w z there_z)))

    a : List ℕ
    a = ahead (ids w) y ++ (y ∷ flat_map (pre w) xs)

    b : List ℕ
    b = ids (below w z) ++ (flat_map (pre w) ys ++ behind w y)

    whole : ids w ≡ a ++ (z ∷ b)
    whole =
        split_at (ids w) y (contains-ids w y ∙ there_y)
        ∙ (ap (λ l. ahead (ids w) y ++ (y ∷ l)) (past_ids w y d there_y ∙ ap (λ l. l ++ behind w y) under)
        ∙ regroup (ahead (ids w) y) (flat_map (pre w) xs) (ids (below w z)) (flat_map (pre w) ys) (behind w y) y z)

    cut : (ahead (a ++ (z ∷ b)) z ≡ a) × (past (a ++ (z ∷ b)) z ≡ b)
    cut = cut_once a b z (subst NoneTwice whole (once_ids w d))
