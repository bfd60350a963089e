-- Trees with the same root and parents refuse the same updates, and what an update makes of them has the same root and parents.
use Rattle.std.proofs.Common.{ℕ, ◌≡◌, Bool, true, false, cond, not, eqb, ◌&&◌, ◌||◌, List, [], ◌∷◌, refl, sym, ap, ◌∙◌, subst, arith, Option, None, Some, Result, Ok, Err, is_some}
use Rattle.std.specs.Prelude.{is_none}
use Rattle.std.proofs.lemmas.Bool.{false_from_ne_true, false≢true, eqb-true}
use Rattle.ax_trees.specs.Trees.{Trees, bare, has, has_root, root_of, IsDistinct, IsTree}
use Rattle.ax_trees.specs.Nodes.{Node, node_at, below, root_below}
use Rattle.ax_trees.specs.Changes.{with_node}
use Rattle.ax_trees.specs.Lists.{contains, first_that}
use Rattle.ax_tree.specs.declared.update.Refusal.{Refusal}
use Rattle.ax_tree.specs.declared.update.Refusal.TheVariants.{DuplicateChild, NotInTree, Reparented}
use Rattle.ax_tree.specs.UpdateRule.{and_then, arranged, bad_child, first_repeated, node_taken, nodes_taken, only, refuse_or}
use Rattle.ax_tree.specs.UpdateShape.{SameShape}
use Rattle.ax_tree.specs.NodeSteps.{stepped}
use Rattle.ax_trees.proofs.Trees.{by_go, below_child, distinct_below}
use Rattle.ax_trees.proofs.Times.{has-node}
use Rattle.ax_trees.proofs.Lists.{first_that_ext, same_bool}
use Rattle.ax_trees.proofs.Parents.{listed_children, child_listed}
use Rattle.ax_trees.proofs.Changed.{outside, has_with_node_more, has_with_node_in, has_with_node_cases, has_with_node_split, with_node_from, single_with_node, root_of-with_node}
use Rattle.ax_tree.proofs.NodeSteps.{stands_step, only_below, only_root}
use Rattle.ax_tree.proofs.Taken.{none_that, only_cases, distinct_taken}
use Rattle.ax_laws.proofs.SameShapes.{below-same}

-- ---- alike while an update is applied

-- nothing is known of the node yet
abbrev pub pends_at : {X : Type 0} → Option (Node (Option X)) → Bool
pends_at None = false
pends_at (Some n) = is_none n.known

-- the same children, whatever their order, and both pending or neither
pub record SameNode {X : Type 0} (o p : Option (Node (Option X))) : Type 0 where
  pub there : is_some o ≡ is_some p
  pub lists : (z : ℕ) → contains (listed_children o) z ≡ contains (listed_children p) z
  pub pends : pends_at o ≡ pends_at p

pub record Alike {X : Type 0} (f k : Trees (Option X)) : Type 0 where
  pub left : IsTree f
  pub right : IsTree k
  pub root : root_of f ≡ root_of k
  pub at : (z : ℕ) → SameNode (node_at f z) (node_at k z)

pub same_self : {X : Type 0} (o : Option (Node (Option X))) → SameNode o o
same_self o = record { there = refl; lists = λ z. refl; pends = refl }

pub alike_shape : {X : Type 0} (f k : Trees (Option X)) → Alike f k → SameShape f k
alike_shape f k a = record {
  held = λ z. has-node f z ∙ ((a.at z).there ∙ sym (has-node k z));
  under = λ y z. child_listed f y z ∙ ((a.at y).lists z ∙ sym (child_listed k y z));
  root = a.root;
}

-- ---- one node's data

-- what stays of the one once the children that aren't listed are gone stays of the other
kept_one : {X E : Type 0} (f : Trees X) (k : Trees E) (x : ℕ) (e : X) (d : E) (cs : List ℕ) (z : ℕ) → IsTree f → IsTree k → SameShape f k → has f x ≡ true
    → has (with_node f x e (only (below f x) cs)) z ≡ true → has (with_node k x d (only (below k x) cs)) z ≡ true
kept_one f k x e d cs z tf tk same hf h =
    let hk : has k x ≡ true = sym (same.held x) ∙ hf in
    by_go (has (with_node f x e bare) z)
    (λ a. let out : has (below f x) z ≡ false = false_from_ne_true (has (below f x) z) (λ g. false≢true (sym (outside f x e z tf.distinct hf g) ∙ a)) in
    let there : has f z ≡ true = grind (arith, with_node_from f x e bare z a) in
    let away : has (below k x) z ≡ false = sym (below-same f k x z tf tk same) ∙ out in
    has_with_node_more k x d (only (below k x) cs) z (grind (arith, has_with_node_split k x d z (sym (same.held z) ∙ there), away)))
    (λ a. let inner : has (only (below f x) cs) z ≡ true = grind (arith, has_with_node_cases f x e (only (below f x) cs) z h, a) in
    has_with_node_in k x d (only (below k x) cs) z hk (go (only_cases (below f x) cs z (distinct f x tf) inner)))
  where
    distinct : {X : Type 0} (f : Trees X) (x : ℕ) → IsTree f → IsDistinct (below f x)
    distinct f x t = distinct_below f x t.distinct

    go : (c : ℕ) × (contains cs c ≡ true) × (has_root (below f x) c ≡ true) × ((eqb c z || has (root_below (below f x) c) z) ≡ true) → has (only (below k x) cs) z ≡ true
    go w =
        let rk : has_root (below k x) w.0 ≡ true = sym (same.under x w.0) ∙ w.2 in
        by_go (eqb w.0 z)
        (λ q. subst (λ y. has (only (below k x) cs) y ≡ true) (eqb-true w.0 z q) (only_root (below k x) cs w.0 w.1 rk))
        (λ q. let part = w.3 in
        let un : has (root_below (below f x) w.0) z ≡ true = grind (arith, part, q) in
        let uf : has (below f w.0) z ≡ true = ap (λ v. has v z) (sym (below_child f x w.0 tf.distinct w.2)) ∙ un in
        let uk : has (below k w.0) z ≡ true = sym (below-same f k w.0 z tf tk same) ∙ uf in
        only_below (below k x) cs w.0 z w.1 (ap (λ v. has v z) (below_child k x w.0 tk.distinct rk) ∙ uk))

pub same_turned : {X E : Type 0} (f : Trees X) (k : Trees E) → SameShape f k → SameShape k f
same_turned f k s = record { held = λ z. sym (s.held z); under = λ y z. sym (s.under y z); root = sym s.root }

kept-same : {X E : Type 0} (f : Trees X) (k : Trees E) (x : ℕ) (e : X) (d : E) (cs : List ℕ) (z : ℕ) → IsTree f → IsTree k → SameShape f k → has f x ≡ true
    → has (with_node f x e (only (below f x) cs)) z ≡ has (with_node k x d (only (below k x) cs)) z
kept-same f k x e d cs z tf tk same hf =
    same_bool (has (with_node f x e (only (below f x) cs)) z) (has (with_node k x d (only (below k x) cs)) z)
    (kept_one f k x e d cs z tf tk same hf)
    (kept_one k f x d e cs z tk tf (same_turned f k same) (sym (same.held x) ∙ hf))

stepped_same : {X : Type 0} (m n : ℕ → Option (Node (Option X))) (u : Node (Option X)) (old was kept stays : ℕ → Bool) (z : ℕ) → old z ≡ was z → kept z ≡ stays z
    → SameNode (m z) (n z) → SameNode (stepped None m u old kept z) (stepped None n u was stays z)
stepped_same {X} m n u old was kept stays z e h s = rw (e, h) (go (eqb u.id z) (contains u.children z && not (was z)) (stays z))
  where
    go : (a b c : Bool) → SameNode (cond a (Some u) (cond b (Some (record { id = z; known = None; children = [] })) (cond c (m z) None)))
        (cond a (Some u) (cond b (Some (record { id = z; known = None; children = [] })) (cond c (n z) None)))
    go true b c = same_self (Some u)
    go false true c = same_self (Some (record { id = z; known = None; children = [] }))
    go false false true = s
    go false false false = same_self None

-- the ids that stay once the children that aren't listed are gone; the trees after the data; the first bad child
abbrev stays_of : {X : Type 0} → Trees (Option X) → Node (Option X) → ℕ → Bool
stays_of f u z = has (with_node f u.id u.known (only (below f u.id) u.children)) z

abbrev taken_of : {X : Type 0} → Trees (Option X) → Node (Option X) → Trees (Option X)
taken_of f u = with_node f u.id u.known (arranged None u.children (below f u.id))

abbrev bad_of : {X : Type 0} → Trees (Option X) → Node (Option X) → Option ℕ
bad_of f u = first_that (bad_child (λ z. false) f u) u.children

-- the data of a node make alike of alike
pub taken_alike : {X : Type 0} (f k : Trees (Option X)) (u : Node (Option X)) → Alike f k → has f u.id ≡ true → first_repeated [] u.children ≡ None
    → ((z : ℕ) → contains u.children z ≡ true → has_root (below f u.id) z ≡ false → stays_of f u z ≡ false)
    → Alike (taken_of f u) (taken_of k u)
taken_alike {X} f k u a hf once good =
    let same : SameShape f k = alike_shape f k a in
    let hk : has k u.id ≡ true = sym (same.held u.id) ∙ hf in
    let stay : (z : ℕ) → stays_of f u z ≡ stays_of k u z =
    λ z. kept-same f k u.id u.known u.known u.children z a.left a.right same hf in
    let good' : (z : ℕ) → contains u.children z ≡ true → has_root (below k u.id) z ≡ false → stays_of k u z ≡ false =
    λ z c t. sym (stay z) ∙ good z c (same.under u.id z ∙ t) in
    let sf = stands_step None (node_at f) f u a.left.distinct (record { at = λ z. refl }) hf good in
    let sk = stands_step None (node_at k) k u a.right.distinct (record { at = λ z. refl }) hk good' in
    record {
      left = record {
        one_root = single_with_node f u.id u.known (arranged None u.children (below f u.id)) a.left.one_root;
        distinct = distinct_taken None f u a.left.distinct hf once good;
      };
      right = record {
        one_root = single_with_node k u.id u.known (arranged None u.children (below k u.id)) a.right.one_root;
        distinct = distinct_taken None k u a.right.distinct hk once good';
      };
      root = root_of-with_node f u.id u.known (arranged None u.children (below f u.id)) ∙ (a.root ∙ sym (root_of-with_node k u.id u.known (arranged None u.children (below k u.id))));
      at = λ z.
          subst (λ o. SameNode o (node_at (taken_of k u) z)) (sf.at z)
          (subst (λ o. SameNode (stepped None (node_at f) u (has_root (below f u.id)) (stays_of f u) z) o) (sk.at z)
          (stepped_same (node_at f) (node_at k) u (has_root (below f u.id)) (has_root (below k u.id))
          (stays_of f u) (stays_of k u) z
          (same.under u.id z) (stay z) (a.at z)));
    }

-- ---- results

-- the same refusal, or results of which R holds
abbrev pub SameResult : {A : Type 0} → (A → A → Type 0) → Result A Refusal → Result A Refusal → Type 0
SameResult R (Ok a) (Ok b) = R a b
SameResult R (Ok a) (Err e) = ⊥
SameResult R (Err e) (Ok b) = ⊥
SameResult R (Err e) (Err d) = e ≡ d

pub then_same : {A B : Type 0} (R : A → A → Type 0) (Q : B → B → Type 0) (o p : Result A Refusal) (g h : A → Result B Refusal) → ((a b : A) → R a b → SameResult Q (g a) (h b))
    → SameResult R o p → SameResult Q (and_then o g) (and_then p h)
then_same R Q (Ok a) (Ok b) g h s r = s a b r
then_same R Q (Ok a) (Err e) g h s r = absurd r
then_same R Q (Err e) (Ok b) g h s r = absurd r
then_same R Q (Err e) (Err d) g h s r = r

pub refuse_same : {A : Type 0} (R : A → A → Type 0) (e : ℕ → Refusal) (o : Option ℕ) (x y : Result A Refusal) → SameResult R x y → SameResult R (refuse_or e o x) (refuse_or e o y)
refuse_same R e None x y r = r
refuse_same R e (Some z) x y r = refl

abbrev outcome : {A : Type 0} → Bool → Option ℕ → Option ℕ → A → ℕ → Result A Refusal
outcome there twice bad made x = cond there (refuse_or DuplicateChild twice (refuse_or Reparented bad (Ok made))) (Err (NotInTree x))

outcome_same : {A : Type 0} (R : A → A → Type 0) (b : Bool) (t g : Option ℕ) (x : ℕ) (v w : A) → (b ≡ true → t ≡ None → g ≡ None → R v w)
    → SameResult R (outcome b t g v x) (outcome b t g w x)
outcome_same R true None None x v w h = h refl refl refl
outcome_same R true None (Some c) x v w h = refl
outcome_same R true (Some c) g x v w h = refl
outcome_same R false t g x v w h = refl

node_alike : {X : Type 0} (f k : Trees (Option X)) (u : Node (Option X)) → Alike f k
    → SameResult Alike (node_taken None (λ z. false) f u) (node_taken None (λ z. false) k u)
node_alike {X} f k u a =
    let same : SameShape f k = alike_shape f k a in
    let twice : Option ℕ = first_repeated [] u.children in
    let fm : Trees (Option X) = taken_of f u in
    let km : Trees (Option X) = taken_of k u in
    by_go (has f u.id)
    (λ hf. let bad : bad_of f u ≡ bad_of k u =
    first_that_ext (bad_child (λ z. false) f u) (bad_child (λ z. false) k u) u.children
    (λ c. both (same.under u.id c) (kept-same f k u.id u.known u.known u.children c a.left a.right same hf)) in
    subst (λ b. SameResult Alike (outcome (has f u.id) twice (bad_of f u) fm u.id) (outcome b twice (bad_of k u) km u.id)) (same.held u.id)
    (subst (λ g. SameResult Alike (outcome (has f u.id) twice (bad_of f u) fm u.id) (outcome (has f u.id) twice g km u.id)) bad
    (outcome_same Alike (has f u.id) twice (bad_of f u) u.id fm km
    (λ _ once none. taken_alike f k u a hf once (λ z c t. free (has_root (below f u.id) z) (stays_of f u z) t
    (none_that (bad_child (λ z. false) f u) u.children z none c))))))
    (λ hf. let hk : has k u.id ≡ false = sym (same.held u.id) ∙ hf in rw (hf, hk) refl)
  where
    both : {a b p q : Bool} → a ≡ b → p ≡ q → (not a && (false || p)) ≡ (not b && (false || q))
    both e h = rw (e, h) refl

    free : (a p : Bool) → a ≡ false → (not a && (false || p)) ≡ false → p ≡ false
    free a p t h = grind (arith, t, h)

pub nodes_alike : {X : Type 0} (us : List (Node (Option X))) (f k : Trees (Option X)) → Alike f k
    → SameResult Alike (nodes_taken None (λ z. false) f us) (nodes_taken None (λ z. false) k us)
nodes_alike [] f k a = a
nodes_alike (u ∷ us) f k a =
    then_same Alike Alike (node_taken None (λ z. false) f u) (node_taken None (λ z. false) k u) (λ g. nodes_taken None (λ z. false) g us) (λ g. nodes_taken None (λ z. false) g us)
    (λ v w r. nodes_alike us v w r) (node_alike f k u a)
