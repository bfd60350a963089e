-- Parents and spots after a tree is put in, taken out, or changed at one node.
use Rattle.std.proofs.Common.{ℕ, ◌≡◌, Bool, true, false, cond, ◌||◌, eqb, List, [], refl, sym, ap, ◌∙◌, subst, arith, Option, None, Some}
use Rattle.std.specs.Prelude.{option_map, is_some}
use Rattle.std.proofs.lemmas.Bool.Decides.{eqb_tells}
use Rattle.std.proofs.lemmas.Bool.{false_from_ne_true, false≢true, eqb-true}
use Rattle.ax_trees.specs.Trees.{Trees, bare, tree, has, has_root, IsDistinct}
use Rattle.ax_trees.specs.Nodes.{Node, node_at, below, parent}
use Rattle.ax_trees.specs.Changes.{with_below, with_known, planted, pruned}
use Rattle.ax_trees.specs.Lists.{contains}
use Rattle.ax_trees.specs.Spots.{inserted, removed, with_children}
use Rattle.ax_trees.proofs.Trees.{by_go, root_in, below_in, below_trans}
use Rattle.ax_trees.proofs.Changed.{has-with_known}
use Rattle.ax_trees.proofs.Moved.{pruned_rest, pruned_gone, distinct_pruned}
use Rattle.ax_trees.proofs.Grown.{node_none}
use Rattle.ax_trees.proofs.Times.{has-node}
use Rattle.ax_trees.proofs.Parents.{listed_children, child_listed, parent_of_child, parent-same}
use Rattle.ax_trees.proofs.Placed.{contains-inserted, contains-removed, node_plant, distinct_plant, node_prune}

-- what isn't there has no parent
pub parent_none : {X : Type 0} (f : Trees X) (z : ℕ) → has f z ≡ false → parent f z ≡ None
parent_none bare z h = refl
parent_none (tree i x k r) z h =
    let no : has k z ≡ false = grind (arith, h) in
    let no' : has_root k z ≡ false = false_from_ne_true (has_root k z) (λ g. grind (arith, root_in k z g, no)) in
    rw (no', no) (parent_none r z (grind (arith, h)))

-- an id in a child list is there
listed_there : {X : Type 0} (f : Trees X) (y z : ℕ) → contains (listed_children (node_at f y)) z ≡ true → has f z ≡ true
listed_there f y z c = below_in f y z (root_in (below f y) z (child_listed f y z ∙ c))

absent_list : {X : Type 0} (f : Trees X) (y z : ℕ) → has f z ≡ false → contains (listed_children (node_at f y)) z ≡ false
absent_list f y z h = false_from_ne_true (contains (listed_children (node_at f y)) z) (λ c. absurd (false≢true (sym h ∙ listed_there f y z c)))

with_list : {X : Type 0} (g : List ℕ → List ℕ) (o : Option (Node X)) (z : ℕ) → contains (g []) z ≡ false → ((js : List ℕ) → contains (g js) z ≡ contains js z)
    → contains (listed_children (option_map (with_children g) o)) z ≡ contains (listed_children o) z
with_list g None z e h = refl
with_list g (Some u) z e h = h u.children

second_of : {A : Type 0} (a b : Bool) (x y z : A) → a ≡ false → b ≡ true → cond a x (cond b y z) ≡ y
second_of a b x y z p q = rw (p, q) refl

third_of : {A : Type 0} (a b : Bool) (x y z : A) → a ≡ false → b ≡ false → cond a x (cond b y z) ≡ z
third_of a b x y z p q = rw (p, q) refl

-- after the tree of c was put in below p
pub parent_plant : {X : Type 0} (f : Trees X) (p i c : ℕ) (e : X) (k : Trees X) (z : ℕ) → IsDistinct f → has f p ≡ true → has k c ≡ false → IsDistinct k
    → ((y : ℕ) → (eqb c y || has k y) ≡ true → has f y ≡ false)
    → parent (with_below (planted i (tree c e k bare)) f p) z ≡ cond (eqb c z) (Some p) (cond (has k z) (parent (tree c e k bare) z) (parent f z))
parent_plant {X} f p i c e k z d h n dk apart =
    let t : Trees X = tree c e k bare in
    let g : Trees X = with_below (planted i (tree c e k bare)) f p in
    let dt : IsDistinct (tree c e k bare) = (n, refl, record { apart = λ y a. refl }, dk, tt) in
    let dg : IsDistinct g = distinct_plant f p i c e k d h n dk apart in
    let on_new : (y : ℕ) → (eqb c y || has k y) ≡ true → node_at g y ≡ node_at (tree c e k bare) y = λ y a. node_plant f p i c e k y d h apart ∙ rw a refl in
    let on_old : (y : ℕ) → (eqb c y || has k y) ≡ false → node_at g y ≡ cond (eqb p y) (option_map (with_children (inserted i c)) (node_at f y)) (node_at f y) =
    λ y a. node_plant f p i c e k y d h apart ∙ rw a refl in
    by_go (eqb c z)
    (λ q. let at : c ≡ z = eqb-true c z q in
    let old : (eqb c p || has k p) ≡ false = false_from_ne_true (eqb c p || has k p) (λ a. absurd (false≢true (sym (apart p a) ∙ h))) in
    let self : eqb p p ≡ true = grind (arith, eqb_tells p p) in
    let node : node_at g p ≡ option_map (with_children (inserted i c)) (node_at f p) = node_plant f p i c e k p d h apart ∙ rw (old, self) refl in
    let listed : contains (listed_children (node_at g p)) c ≡ true = ap (λ o. contains (listed_children o) c) node ∙ in_list f p i c h in
    rw q (subst (λ y. parent g y ≡ Some p) at (parent_of_child g p c dg (child_listed g p c ∙ listed))))
    (λ q. by_go (has k z)
    (λ new. let gone : has f z ≡ false = apart z (grind (arith, new)) in
    parent-same (tree c e k bare) g z dt dg (λ y. by_go (eqb c y || has k y)
    (λ a. ap (λ o. contains (listed_children o) z) (on_new y a))
    (λ a. ap (λ o. contains (listed_children o) z) (on_old y a)
    ∙ (at_old f p i c z y q (absent_list f y z gone) ∙ sym (ap (λ o. contains (listed_children o) z) (node_none (tree c e k bare) y (grind (arith, a)))))))
    ∙ sym (second_of (eqb c z) (has k z) (Some p) (parent (tree c e k bare) z) (parent f z) q new))
    (λ new. let off : has (tree c e k bare) z ≡ false = grind (arith, q, new) in
    parent-same f g z d dg (λ y. by_go (eqb c y || has k y)
    (λ a. ap (λ o. contains (listed_children o) z) (on_new y a)
    ∙ (absent_list (tree c e k bare) y z off ∙ sym (ap (λ o. contains (listed_children o) z) (node_none f y (apart y a)))))
    (λ a. ap (λ o. contains (listed_children o) z) (on_old y a) ∙ at_any f p i c z y q))
    ∙ sym (third_of (eqb c z) (has k z) (Some p) (parent (tree c e k bare) z) (parent f z) q new)))
  where
    at_any : {E : Type 0} (f : Trees E) (p i c z y : ℕ) → eqb c z ≡ false
        → contains (listed_children (cond (eqb p y) (option_map (with_children (inserted i c)) (node_at f y)) (node_at f y))) z ≡ contains (listed_children (node_at f y)) z
    at_any f p i c z y q =
        by_go (eqb p y)
        (λ s. rw s (with_list (inserted i c) (node_at f y) z (contains-inserted i c [] z ∙ rw q refl) (λ js. contains-inserted i c js z ∙ rw q refl)))
        (λ s. rw s refl)

    at_old : {E : Type 0} (f : Trees E) (p i c z y : ℕ) → eqb c z ≡ false → contains (listed_children (node_at f y)) z ≡ false
        → contains (listed_children (cond (eqb p y) (option_map (with_children (inserted i c)) (node_at f y)) (node_at f y))) z ≡ false
    at_old f p i c z y q none = at_any f p i c z y q ∙ none

    in_list : {E : Type 0} (f : Trees E) (p i c : ℕ) → has f p ≡ true → contains (listed_children (option_map (with_children (inserted i c)) (node_at f p))) c ≡ true
    in_list {E} f p i c h = go (node_at f p) refl
      where
        go : (o : Option (Node E)) → node_at f p ≡ o → contains (listed_children (option_map (with_children (inserted i c)) o)) c ≡ true
        go None a = absurd (false≢true (sym (has-node f p ∙ ap is_some a) ∙ h))
        go (Some u) a = contains-inserted i c u.children c ∙ grind (arith, eqb_tells c c)

-- after the tree of n was taken out
pub parent_prune : {X : Type 0} (f : Trees X) (n z : ℕ) → IsDistinct f → has f n ≡ true → parent (pruned f n) z ≡ cond (eqb n z || has (below f n) z) None (parent f z)
parent_prune {X} f n z d h =
    let dg : IsDistinct (pruned f n) = distinct_pruned f n d in
    by_go (eqb n z || has (below f n) z)
    (λ q. rw q (parent_none (pruned f n) z (pruned_gone f n z d h q)))
    (λ q. rw q (parent-same f (pruned f n) z d dg (λ y. by_go (has (pruned f n) y)
    (λ s. ap (λ o. contains (listed_children o) z) (node_prune f n y d s)
    ∙ with_list (removed n) (node_at f y) z refl (λ js. contains-removed n js z (grind (arith, q))))
    (λ s. ap (λ o. contains (listed_children o) z) (node_none (pruned f n) y s)
    ∙ sym (false_from_ne_true (contains (listed_children (node_at f y)) z) (λ c.
    let child : has_root (below f y) z ≡ true = child_listed f y z ∙ c in
    let under : has (below f y) z ≡ true = root_in (below f y) z child in
    by_go (has f y)
    (λ t. let rest : (eqb n y || has (below f n) y) ≡ true = grind (arith, pruned_rest f n y t, s) in
    by_go (eqb n y)
    (λ v. let at : has (below f n) z ≡ true = subst (λ w. has (below f w) z ≡ true) (sym (eqb-true n y v)) under in grind (arith, at, q))
    (λ v. grind (arith, below_trans f n y z d (grind (arith, rest, v)) under, q)))
    (λ t. absurd (false≢true (sym (ap (λ o. contains (listed_children o) z) (node_none f y t)) ∙ c)))))))))

-- after what is known of n was changed
pub parent_known : {X : Type 0} (g : X → X) (f : Trees X) (n z : ℕ) → IsDistinct f → parent (with_known g f n) z ≡ parent f z
parent_known g bare n z d = refl
parent_known g (tree i x k r) n z d =
    by_go (eqb i n)
    (λ q. rw q refl)
    (λ q. by_go (has k n)
    (λ p. rw (q, p, has_root-with_known g k n z, has-with_known g k n z, parent_known g k n z d.3) refl)
    (λ p. rw (q, p, parent_known g r n z d.4) refl))
  where
    has_root-with_known : {E : Type 0} (g : E → E) (f : Trees E) (n z : ℕ) → has_root (with_known g f n) z ≡ has_root f z
    has_root-with_known g bare n z = refl
    has_root-with_known g (tree i x k r) n z = grind (arith, has_root-with_known g r n z)
