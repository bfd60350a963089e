-- What stands where after a tree is put in or taken out, id by id: nodes and parents.
use Rattle.std.proofs.Common.{ℕ, zero, suc, ◌≡◌, true, false, cond, ◌||◌, eqb, List, [], ◌∷◌, refl, sym, ap, ◌∙◌, subst, arith, Option, None, Some}
use Rattle.std.specs.Prelude.{option_map}
use Rattle.std.proofs.lemmas.Bool.Decides.{eqb_tells}
use Rattle.std.proofs.lemmas.Bool.{false_from_ne_true, false≢true, eqb-true}
use Rattle.ax_trees.specs.Trees.{Trees, bare, tree, has, has_root, roots, IsDistinct}
use Rattle.ax_trees.specs.Nodes.{Node, node_at, below}
use Rattle.ax_trees.specs.Changes.{with_node, with_below, planted, pruned}
use Rattle.ax_trees.specs.Lists.{contains}
use Rattle.ax_trees.specs.Spots.{inserted, removed, with_children}
use Rattle.ax_trees.proofs.Trees.{by_go, root_in, below_in, contains_roots, distinct_below}
use Rattle.ax_trees.proofs.Changed.{with_node_from, outside, node_with_node_same, node_with_node_inside, node_with_node_outside, has_with_node_cases, has_with_node_split, with_below_is, distinct_with_node}
use Rattle.ax_trees.proofs.Nodes.{node_below}
use Rattle.ax_trees.proofs.Moved.{has-planted, distinct_planted, node_planted_old, node_planted_new, pruned_in}
use Rattle.ax_trees.proofs.Grown.{node_none}
use Rattle.ax_trees.proofs.Parents.{listed_children, child_listed}

-- ---- lists

pub contains-inserted : (n z : ℕ) (js : List ℕ) (y : ℕ) → contains (inserted n z js) y ≡ (eqb z y || contains js y)
contains-inserted zero z js y = refl
contains-inserted (suc n) z [] y = refl
contains-inserted (suc n) z (j ∷ js) y = grind (arith, contains-inserted n z js y)

pub contains-removed : (z : ℕ) (js : List ℕ) (y : ℕ) → eqb z y ≡ false → contains (removed z js) y ≡ contains js y
contains-removed z [] y h = refl
contains-removed z (j ∷ js) y h =
    by_go (eqb j z)
    (λ q. let no : eqb j y ≡ false = grind (arith, eqb_tells j z, eqb_tells z y, eqb_tells j y, q, h) in rw (q, no) refl)
    (λ q. rw (q, contains-removed z js y h) refl)

pub removed_absent : (z : ℕ) (js : List ℕ) → contains js z ≡ false → removed z js ≡ js
removed_absent z [] h = refl
removed_absent z (j ∷ js) h =
    let no : eqb j z ≡ false = grind (arith, h) in
    let ih : removed z js ≡ js = removed_absent z js (grind (arith, h)) in
    rw (no, ih) refl

pub roots-planted : {X : Type 0} (n c : ℕ) (e : X) (k q f : Trees X) → roots (planted n (tree c e k q) f) ≡ inserted n c (roots f)
roots-planted zero c e k q f = refl
roots-planted (suc n) c e k q bare = refl
roots-planted (suc n) c e k q (tree j y a b) = ap (λ js. j ∷ js) (roots-planted n c e k q b)

-- ---- a tree put in

-- the tree of c with k below it, put in below p
pub node_plant : {X : Type 0} (f : Trees X) (p i c : ℕ) (e : X) (k : Trees X) (z : ℕ) → IsDistinct f → has f p ≡ true → ((y : ℕ) → (eqb c y || has k y) ≡ true → has f y ≡ false)
    → node_at (with_below (planted i (tree c e k bare)) f p) z
    ≡ cond (eqb c z || has k z) (node_at (tree c e k bare) z) (cond (eqb p z) (option_map (with_children (inserted i c)) (node_at f z)) (node_at f z))
node_plant {X} f p i c e k z d h apart =
    let t : Trees X = tree c e k bare in
    let is : (x : X) × (with_below (planted i (tree c e k bare)) f p ≡ with_node f p x (planted i (tree c e k bare) (below f p))) × (node_at f p ≡ Some (record { id = p; known = x; children = roots (below f p) })) =
    with_below_is (planted i (tree c e k bare)) f p h in
    let j : Trees X = planted i (tree c e k bare) (below f p) in
    subst (λ g. node_at g z ≡ cond (eqb c z || has k z) (node_at (tree c e k bare) z) (cond (eqb p z) (option_map (with_children (inserted i c)) (node_at f z)) (node_at f z))) (sym is.1)
    (by_go (eqb p z)
    (λ q. let at : p ≡ z = eqb-true p z q in
    let old : (eqb c p || has k p) ≡ false = false_from_ne_true (eqb c p || has k p) (λ g. absurd (false≢true (sym (apart p g) ∙ h))) in
    subst (λ y. node_at (with_node f p is.0 j) y ≡ cond (eqb c y || has k y) (node_at (tree c e k bare) y) (cond (eqb p y) (option_map (with_children (inserted i c)) (node_at f y)) (node_at f y))) at
    (rw (old, is.2) (node_with_node_same f p is.0 j h ∙ (let self : eqb p p ≡ true = grind (arith, eqb_tells p p) in
    rw self (ap (λ js. Some (record { id = p; known = is.0; children = js })) (roots-planted i c e k bare (below f p)))))))
    (λ q. by_go (eqb c z || has k z)
    (λ new. let gone : has f z ≡ false = apart z new in
    let in' : has j z ≡ true = has-planted i c e k bare (below f p) z ∙ rw new refl in
    let out : has (with_node f p is.0 bare) z ≡ false = false_from_ne_true (has (with_node f p is.0 bare) z) (λ g. grind (arith, with_node_from f p is.0 bare z g, gone)) in
    let none : has (below f p) z ≡ false = false_from_ne_true (has (below f p) z) (λ g. grind (arith, below_in f p z g, gone)) in
    rw new (node_with_node_inside f p is.0 j z h q out in' ∙ node_planted_new i c e k bare (below f p) z new none))
    (λ old. rw (old, q) (by_go (has (below f p) z)
    (λ b. let in' : has j z ≡ true = has-planted i c e k bare (below f p) z ∙ rw (old, b) refl in
    node_with_node_inside f p is.0 j z h q (outside f p is.0 z d h b) in' ∙ (node_planted_old i c e k bare (below f p) z old ∙ node_below f p z d b))
    (λ b. let in' : has j z ≡ false = has-planted i c e k bare (below f p) z ∙ rw (old, b) refl in
    by_go (has (with_node f p is.0 bare) z)
    (λ o. node_with_node_outside f p is.0 j z d h q o in')
    (λ o. node_none (with_node f p is.0 j) z (false_from_ne_true (has (with_node f p is.0 j) z) (λ g. grind (arith, has_with_node_cases f p is.0 j z g, o, in')))
    ∙ sym (node_none f z (false_from_ne_true (has f z) (λ g. grind (arith, has_with_node_split f p is.0 z g, o, b))))))))))

pub distinct_plant : {X : Type 0} (f : Trees X) (p i c : ℕ) (e : X) (k : Trees X) → IsDistinct f → has f p ≡ true → has k c ≡ false → IsDistinct k → ((y : ℕ) → (eqb c y || has k y) ≡ true → has f y ≡ false)
    → IsDistinct (with_below (planted i (tree c e k bare)) f p)
distinct_plant {X} f p i c e k d h n dk apart =
    let is : (x : X) × (with_below (planted i (tree c e k bare)) f p ≡ with_node f p x (planted i (tree c e k bare) (below f p))) × (node_at f p ≡ Some (record { id = p; known = x; children = roots (below f p) })) =
    with_below_is (planted i (tree c e k bare)) f p h in
    subst (λ g. IsDistinct g) (sym is.1)
    (distinct_with_node f p is.0 (planted i (tree c e k bare) (below f p)) d h
    (distinct_planted i c e k bare (below f p) n dk (distinct_below f p d) (λ y g. false_from_ne_true (has (below f p) y) (λ b. grind (arith, below_in f p y b, apart y g))))
    (λ y g. false_from_ne_true (has (with_node f p is.0 bare) y) (λ o.
    grind (arith, sym (has-planted i c e k bare (below f p) y) ∙ g, with_node_from f p is.0 bare y o, apart y, outside f p is.0 y d h))))

-- ---- a tree taken out

-- what isn't there is in no child list
unlisted : {X : Type 0} (f : Trees X) (n z : ℕ) → has f n ≡ false → contains (listed_children (node_at f z)) n ≡ false
unlisted f n z h = sym (child_listed f z n) ∙ false_from_ne_true (has_root (below f z) n) (λ g. grind (arith, below_in f z n (root_in (below f z) n g), h))

same_node : {X : Type 0} (n : ℕ) (o : Option (Node X)) → contains (listed_children o) n ≡ false → option_map (with_children (removed n)) o ≡ o
same_node n None h = refl
same_node n (Some u) h = ap (λ js. Some (record { id = u.id; known = u.known; children = js })) (removed_absent n u.children h)

kept_node : {X : Type 0} (f : Trees X) (n z : ℕ) → has f n ≡ false → node_at f z ≡ option_map (with_children (removed n)) (node_at f z)
kept_node f n z h = sym (same_node n (node_at f z) (unlisted f n z h))

roots-pruned_any : {X : Type 0} (f : Trees X) (n : ℕ) → IsDistinct f → roots (pruned f n) ≡ removed n (roots f)
roots-pruned_any bare n d = refl
roots-pruned_any (tree i x k r) n d =
    by_go (eqb i n)
    (λ q. rw q refl)
    (λ q. by_go (has k n)
    (λ p. let none : contains (roots r) n ≡ false = contains_roots r n ∙ false_from_ne_true (has_root r n) (λ g. grind (arith, root_in r n g, d.2.apart n p)) in
    rw (q, p, removed_absent n (roots r) none) refl)
    (λ p. rw (q, p, roots-pruned_any r n d.4) refl))

-- a node that stays has lost n from its children
pub node_prune : {X : Type 0} (f : Trees X) (n z : ℕ) → IsDistinct f → has (pruned f n) z ≡ true → node_at (pruned f n) z ≡ option_map (with_children (removed n)) (node_at f z)
node_prune bare n z d h = absurd (false≢true h)
node_prune {X} (tree i x k r) n z d h =
    by_go (eqb i n)
    (λ q. let h' : has r z ≡ true = rw q at h in
    let no : eqb i z ≡ false = grind (arith, eqb_tells i z, d.1, h') in
    let no' : has k z ≡ false = false_from_ne_true (has k z) (λ g. grind (arith, d.2.apart z g, h')) in
    let gone : has r n ≡ false = grind (arith, eqb_tells i n, q, d.1) in
    rw (q, no, no') (kept_node r n z gone))
    (λ q. by_go (has k n)
    (λ p. let h' : (eqb i z || (has (pruned k n) z || has r z)) ≡ true = rw (q, p) at h in
    let gone : has r n ≡ false = d.2.apart n p in
    rw (q, p) (by_go (eqb i z)
    (λ s. rw s (ap (λ js. Some (record { id = i; known = x; children = js })) (roots-pruned_any k n d.3)))
    (λ s. by_go (has (pruned k n) z)
    (λ t. let there : has k z ≡ true = pruned_in k n z t in rw (s, t, there) (node_prune k n z d.3 t))
    (λ t. let late : has r z ≡ true = grind (arith, h', s, t) in
    let no : has k z ≡ false = false_from_ne_true (has k z) (λ g. grind (arith, d.2.apart z g, late)) in
    rw (s, t, no) (kept_node r n z gone)))))
    (λ p. let h' : (eqb i z || (has k z || has (pruned r n) z)) ≡ true = rw (q, p) at h in
    rw (q, p) (by_go (eqb i z)
    (λ s. rw s (ap (λ js. Some (record { id = i; known = x; children = js })) (sym (removed_absent n (roots k) (contains_roots k n ∙ false_from_ne_true (has_root k n) (λ g. grind (arith, root_in k n g, p)))))))
    (λ s. by_go (has k z)
    (λ t. rw (s, t) (kept_node k n z p))
    (λ t. rw (s, t) (node_prune r n z d.4 (grind (arith, h', s, t))))))))
