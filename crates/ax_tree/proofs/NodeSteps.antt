-- What one node's data make of a map of nodes, id by id.
use Rattle.std.proofs.Common.{ℕ, ◌≡◌, true, false, not, ◌||◌, ◌&&◌, eqb, List, [], ◌∷◌, refl, sym, ap, ◌∙◌, subst, arith, Option, Some}
use Rattle.std.proofs.lemmas.Bool.Decides.{eqb_tells}
use Rattle.std.proofs.lemmas.Bool.{false_from_ne_true, false≢true, eqb-true}
use Rattle.ax_trees.specs.Trees.{Trees, bare, tree, has, has_root, roots, IsDistinct}
use Rattle.ax_trees.specs.Nodes.{Node, node_at, below, root_known, root_below}
use Rattle.ax_trees.specs.Changes.{with_node}
use Rattle.ax_trees.specs.Lists.{contains}
use Rattle.ax_trees.specs.Spots.{Stands}
use Rattle.ax_tree.specs.UpdateRule.{only, arranged}
use Rattle.ax_tree.specs.NodeSteps.{stepped}
use Rattle.ax_trees.proofs.Trees.{by_go, root_in, distinct_below, root_below_absent}
use Rattle.ax_trees.proofs.Grown.{node_none}
use Rattle.ax_trees.proofs.Changed.{outside, has_with_node_more, has_with_node_in, has_with_node_cases, node_with_node_same, node_with_node_outside, node_with_node_inside}
use Rattle.ax_trees.proofs.Nodes.{node_root, node_root_below, node_below}
use Rattle.ax_tree.proofs.Arranged.{arranged_from, only_in}

pub root_known_absent : {X : Type 0} (f : X) (k : Trees X) (z : ℕ) → has_root k z ≡ false → root_known f k z ≡ f
root_known_absent f bare z h = refl
root_known_absent f (tree i e k r) z h = grind (arith, root_known_absent f r z)

-- the arranged trees, id by id: a fresh leaf, or what it was
pub node_arranged_fresh : {X : Type 0} (f : X) (cs : List ℕ) (k : Trees X) (z : ℕ) → contains cs z ≡ true → has_root k z ≡ false → ((x : ℕ) → contains cs x ≡ true → has (root_below k x) z ≡ false)
    → node_at (arranged f cs k) z ≡ Some (record { id = z; known = f; children = [] })
node_arranged_fresh f [] k z c t h = absurd (false≢true c)
node_arranged_fresh {X} f (x ∷ cs) k z c t h =
    by_go (eqb x z)
    (λ q. let e : x ≡ z = eqb-true x z q in
    rw q (ap (λ y. Some (record { id = y; known = root_known f k y; children = roots (root_below k y) })) e ∙ rw (root_known_absent f k z t, root_below_absent k z t) refl))
    (λ q. let no : has (root_below k x) z ≡ false = h x (grind (arith, eqb_tells x x)) in
    rw (q, no) (node_arranged_fresh f cs k z (grind (arith, c, q)) t (λ y g. h y (grind (arith, g)))))

pub node_arranged_old : {X : Type 0} (f : X) (cs : List ℕ) (k : Trees X) (z : ℕ) → IsDistinct k → (contains cs z ≡ true → has_root k z ≡ true) → has (arranged f cs k) z ≡ true → has k z ≡ true
    → node_at (arranged f cs k) z ≡ node_at k z
node_arranged_old f [] k z d t g h = absurd (false≢true g)
node_arranged_old {X} f (x ∷ cs) k z d t g h =
    by_go (eqb x z)
    (λ q. let e : x ≡ z = eqb-true x z q in
    rw q (ap (λ y. Some (record { id = y; known = root_known f k y; children = roots (root_below k y) })) e ∙ sym (node_root f k z d (t (grind (arith, q))))))
    (λ q. by_go (has (root_below k x) z)
    (λ q'. rw (q, q') (node_root_below k x z d q'))
    (λ q'. rw (q, q') (node_arranged_old f cs k z d (λ c. t (grind (arith, c))) (grind (arith, g, q, q')) h)))

pub roots-arranged : {X : Type 0} (f : X) (cs : List ℕ) (k : Trees X) → roots (arranged f cs k) ≡ cs
roots-arranged f [] k = refl
roots-arranged f (c ∷ cs) k = ap (λ xs. c ∷ xs) (roots-arranged f cs k)

pub only_below : {X : Type 0} (k : Trees X) (cs : List ℕ) (x z : ℕ) → contains cs x ≡ true → has (root_below k x) z ≡ true → has (only k cs) z ≡ true
only_below bare cs x z c h = h
only_below (tree i e k r) cs x z c h =
    by_go (eqb i x)
    (λ q. let c' : contains cs i ≡ true = subst (λ y. contains cs y ≡ true) (sym (eqb-true i x q)) c in grind (arith, h, q, c'))
    (λ q. grind (arith, h, q, only_below r cs x z c))

pub only_root : {X : Type 0} (k : Trees X) (cs : List ℕ) (z : ℕ) → contains cs z ≡ true → has_root k z ≡ true → has (only k cs) z ≡ true
only_root bare cs z c h = h
only_root (tree i e k r) cs z c h =
    by_go (eqb i z)
    (λ q. let c' : contains cs i ≡ true = subst (λ y. contains cs y ≡ true) (sym (eqb-true i z q)) c in grind (arith, q, c'))
    (λ q. grind (arith, h, q, only_root r cs z c))

pub only_arranged : {X : Type 0} (f : X) (k : Trees X) (cs : List ℕ) (z : ℕ) → IsDistinct k → has (only k cs) z ≡ true → has (arranged f cs k) z ≡ true
only_arranged f bare cs z d h = absurd (false≢true h)
only_arranged f (tree i e k r) cs z d h =
    by_go (contains cs i)
    (λ q. let h' : (eqb i z || (has k z || has (only r cs) z)) ≡ true = rw q at h in
    by_go (eqb i z)
    (λ b. pick_in f cs (tree i e k r) z (subst (λ y. contains cs y ≡ true) (eqb-true i z b) q))
    (λ b. by_go (has k z)
    (λ b'. pick_under f cs (tree i e k r) i z q (let self : eqb i i ≡ true = grind (arith, eqb_tells i i) in rw self b'))
    (λ b'. pick_more f cs i e k r z d (only_arranged f r cs z d.4 (grind (arith, h', b, b'))))))
    (λ q. pick_more f cs i e k r z d (only_arranged f r cs z d.4 (rw q at h)))
  where
    pick_in : {E : Type 0} (f : E) (cs : List ℕ) (k : Trees E) (z : ℕ) → contains cs z ≡ true → has (arranged f cs k) z ≡ true
    pick_in f [] k z c = c
    pick_in f (x ∷ cs) k z c = grind (arith, c, pick_in f cs k z)

    pick_under : {E : Type 0} (f : E) (cs : List ℕ) (k : Trees E) (x z : ℕ) → contains cs x ≡ true → has (root_below k x) z ≡ true → has (arranged f cs k) z ≡ true
    pick_under f [] k x z c h = absurd (false≢true c)
    pick_under f (y ∷ cs) k x z c h =
        by_go (eqb y x)
        (λ q. let h' : has (root_below k y) z ≡ true = subst (λ v. has (root_below k v) z ≡ true) (sym (eqb-true y x q)) h in grind (arith, h'))
        (λ q. grind (arith, pick_under f cs k x z (grind (arith, c, q)) h))

    pick_more : {E : Type 0} (f : E) (cs : List ℕ) (i : ℕ) (e : E) (k r : Trees E) (z : ℕ) → IsDistinct (tree i e k r) → has (arranged f cs r) z ≡ true → has (arranged f cs (tree i e k r)) z ≡ true
    pick_more f [] i e k r z d h = h
    pick_more f (y ∷ cs) i e k r z d h =
        by_go (eqb i y)
        (λ q. let none : has (root_below r y) z ≡ false = false_from_ne_true (has (root_below r y) z) (λ g.
        let t : has_root r y ≡ true = under_top r y z g in grind (arith, root_in r y t, eqb-true i y q, d.1)) in
        grind (arith, h, none, pick_more f cs i e k r z d))
        (λ q. grind (arith, h, q, pick_more f cs i e k r z d))
      where
        under_top : {F : Type 0} (r : Trees F) (y z : ℕ) → has (root_below r y) z ≡ true → has_root r y ≡ true
        under_top bare y z h = h
        under_top (tree i e k r) y z h = grind (arith, h, under_top r y z)

pub arranged_cases : {X : Type 0} (f : X) (cs all : List ℕ) (k : Trees X) (z : ℕ) → ((x : ℕ) → contains cs x ≡ true → contains all x ≡ true) → has (arranged f cs k) z ≡ true
    → (contains cs z || has (only k all) z) ≡ true
arranged_cases f [] all k z tree_at h = absurd (false≢true h)
arranged_cases f (x ∷ cs) all k z tree_at h =
    by_go (eqb x z)
    (λ q. grind (arith, q))
    (λ q. by_go (has (root_below k x) z)
    (λ b. let kept : has (only k all) z ≡ true = only_below k all x z (tree_at x (grind (arith, eqb_tells x x))) b in grind (arith, kept))
    (λ b. grind (arith, q, arranged_cases f cs all k z (λ y g. tree_at y (grind (arith, g))) (grind (arith, h, q, b)))))

-- After a node data that is not refused, the map is `stepped`.
pub stands_step : {X : Type 0} (f : X) (g : ℕ → Option (Node X)) (w : Trees X) (u : Node X) → IsDistinct w → Stands g w → has w u.id ≡ true
    → ((z : ℕ) → contains u.children z ≡ true → has_root (below w u.id) z ≡ false → has (with_node w u.id u.known (only (below w u.id) u.children)) z ≡ false)
    → Stands (stepped f g u (has_root (below w u.id)) (has (with_node w u.id u.known (only (below w u.id) u.children)))) (with_node w u.id u.known (arranged f u.children (below w u.id)))
stands_step {X} f g w u d st h good =
    let y : ℕ = u.id in
    let cs : List ℕ = u.children in
    let k : Trees X = below w y in
    let dk : IsDistinct k = distinct_below w y d in
    let kept : Trees X = with_node w y u.known (only k cs) in
    let j : Trees X = arranged f cs k in
    record {
      at = λ z.
          by_go (eqb y z)
          (λ q. rw q (subst (λ v. ◌≡◌ {A = Option (Node X)} (Some u) (node_at (with_node w y u.known j) v)) (eqb-true y z q)
          (sym (node_with_node_same w y u.known j h ∙ rw (roots-arranged f cs k) refl))))
          (λ q. by_go (contains cs z && not (has_root k z))
          (λ b. let parts : (contains cs z ≡ true) × (has_root k z ≡ false) = grind (arith, b) in
          let gone : has kept z ≡ false = good z parts.0 parts.1 in
          let o : has (with_node w y u.known bare) z ≡ false = false_from_ne_true (has (with_node w y u.known bare) z) (λ o. grind (arith, has_with_node_more w y u.known (only k cs) z o, gone)) in
          let in' : has j z ≡ true = grind (arith, has_pick_listed f cs k z parts.0) in
          rw (q, b) (sym (node_with_node_inside w y u.known j z h q o in' ∙ node_arranged_fresh f cs k z parts.0 parts.1
          (λ x c. false_from_ne_true (has (root_below k x) z) (λ b'. grind (arith, has_with_node_in w y u.known (only k cs) z h (only_below k cs x z c b'), gone))))))
          (λ b. by_go (has kept z)
          (λ v. rw (q, b, v) (st.at z ∙ sym (by_go (has (with_node w y u.known bare) z)
          (λ o. let no : has j z ≡ false = false_from_ne_true (has j z) (λ i. grind (arith, b, arranged_from f cs k z i, root_in k z, outside w y u.known z d h, o)) in
          node_with_node_outside w y u.known j z d h q o no)
          (λ o. let v' : has (only k cs) z ≡ true = grind (arith, has_with_node_cases w y u.known (only k cs) z v, o) in
          let in' : has j z ≡ true = only_arranged f k cs z dk v' in
          let old : has k z ≡ true = only_in k cs z v' in
          node_with_node_inside w y u.known j z h q o in' ∙ (node_arranged_old f cs k z dk (λ c. grind (arith, b, c)) in' old ∙ node_below w y z d old)))))
          (λ v. rw (q, b, v) (sym (node_none (with_node w y u.known j) z (false_from_ne_true (has (with_node w y u.known j) z) (λ i.
          by_go (has (with_node w y u.known bare) z)
          (λ o. grind (arith, has_with_node_more w y u.known (only k cs) z o, v))
          (λ o. let in' : has j z ≡ true = grind (arith, has_with_node_cases w y u.known j z i, o) in
          by_go (has (only k cs) z)
          (λ v'. grind (arith, has_with_node_in w y u.known (only k cs) z h v', v))
          (λ v'. let c : contains cs z ≡ true = grind (arith, arranged_cases f cs cs k z (λ x c. c) in', v') in
          let t : has_root k z ≡ true = grind (arith, b, c) in
          grind (arith, only_root k cs z c t, v'))))))))));
    }
  where
    has_pick_listed : {E : Type 0} (f : E) (cs : List ℕ) (k : Trees E) (z : ℕ) → contains cs z ≡ true → has (arranged f cs k) z ≡ true
    has_pick_listed f [] k z c = c
    has_pick_listed f (x ∷ cs) k z c = grind (arith, c, has_pick_listed f cs k z)
