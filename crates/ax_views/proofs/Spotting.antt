-- What stands at each id, with the id above it, after trees were changed; and that they are a tree still.
use Rattle.std.proofs.Common.{ℕ, ◌≡◌, Bool, true, false, cond, ◌||◌, eqb, List, [], Option, Some, None, refl, sym, ap, ◌∙◌, subst, arith}
use Rattle.std.specs.Prelude.{option_map}
use Rattle.std.proofs.lemmas.Bool.{false_from_ne_true, false≢true, eqb-true}
use Rattle.ax_trees.specs.Trees.{Trees, bare, tree, has, has_root, is_root, roots, IsDistinct, IsSingle, IsTree}
use Rattle.ax_trees.specs.Nodes.{Node, node_at, below, parent, parent_or, tree_at}
use Rattle.ax_trees.specs.Changes.{with_below, with_known, planted, pruned}
use Rattle.ax_trees.specs.Lists.{contains}
use Rattle.ax_trees.specs.Spots.{Spot, spot, inserted, removed, with_children}
use Rattle.ax_trees.proofs.Trees.{by_go, root_in, below_trans, distinct_below, not_below_self, not_root, parent_has}
use Rattle.ax_trees.proofs.Nodes.{tree_at_is, distinct_tree_at, node_tree_at, has-tree_at}
use Rattle.ax_trees.proofs.Changed.{with_below_is, with_known_is, single_with_node, roots-with_node, has-with_known, node_known}
use Rattle.ax_trees.proofs.Moved.{distinct_pruned, single_pruned, roots-pruned, pruned_gone, pruned_rest}
use Rattle.ax_trees.proofs.Grown.{node_none}
use Rattle.ax_trees.proofs.Parents.{listed_children, child_listed, parent_of_child}
use Rattle.ax_trees.proofs.Placed.{node_plant, distinct_plant, node_prune, removed_absent}
use Rattle.ax_trees.proofs.PlacedParents.{parent_plant, parent_prune, parent_known}

first_or_second : {A : Type 0} (s b : Bool) (x y z w : A) → (s ≡ false → (b ≡ true) × (y ≡ w)) → cond s x (cond b y z) ≡ cond s x w
first_or_second true b x y z w h = refl
first_or_second false b x y z w h = ap (λ t. cond t y z) (h refl).0 ∙ (h refl).1

module _ {X : Type 0} where
  -- a spot with other children, and with something else known
  abbrev pub spot_children : (List ℕ → List ℕ) → Spot X → Spot X
  spot_children g s = record { above = s.above; known = s.known; children = g s.children }

  abbrev pub spot_known : (X → X) → Spot X → Spot X
  spot_known g s = record { above = s.above; known = g s.known; children = s.children }

  abbrev seen_spot : Option ℕ → Option (Node X) → Option (Spot X)
  seen_spot a o = option_map (λ (n : Node X). record { above = a; known = n.known; children = n.children }) o

  seen_children : (a : Option ℕ) (g : List ℕ → List ℕ) (o : Option (Node X)) → seen_spot a (option_map (with_children g) o) ≡ option_map (spot_children g) (seen_spot a o)
  seen_children a g None = refl
  seen_children a g (Some n) = refl

  seen_known : (a : Option ℕ) (g : X → X) (o : Option (Node X))
      → seen_spot a (option_map (λ (u : Node X). record { id = u.id; known = g u.known; children = u.children }) o) ≡ option_map (spot_known g) (seen_spot a o)
  seen_known a g None = refl
  seen_known a g (Some n) = refl

  -- ---- one node

  pub spot_alone : (n : ℕ) (e : X) (z : ℕ) → spot (tree n e bare bare) z ≡ cond (eqb n z) (Some (record { above = None; known = e; children = [] })) None
  spot_alone n e z = by_go (eqb n z) (λ q. rw q refl) (λ q. rw q refl)

  pub tree_alone : (n : ℕ) (e : X) → IsTree (tree n e bare bare)
  tree_alone n e = record { one_root = refl; distinct = (refl, refl, record { apart = λ z h. refl }, tt, tt) }

  -- ---- a leaf put in

  only : (f : Trees X) (c : ℕ) → has f c ≡ false → (y : ℕ) → (eqb c y || false) ≡ true → has f y ≡ false
  only f c h y g = subst (λ v. has f v ≡ false) (eqb-true c y (grind (arith, g))) h

  pub spot_planted : (f : Trees X) (p i c : ℕ) (e : X) (z : ℕ) → IsDistinct f → has f p ≡ true → has f c ≡ false
      → spot (with_below (planted i (tree c e bare bare)) f p) z
      ≡ cond (eqb c z) (Some (record { above = Some p; known = e; children = [] })) (cond (eqb p z) (option_map (spot_children (inserted i c)) (spot f z)) (spot f z))
  spot_planted f p i c e z d h n =
      let g : Trees X = with_below (planted i (tree c e bare bare)) f p in
      let up : parent g z ≡ cond (eqb c z) (Some p) (parent f z) = parent_plant f p i c e bare z d h refl tt (only f c n) in
      let at : node_at g z ≡ cond (eqb c z || false) (node_at (tree c e bare bare) z) (cond (eqb p z) (option_map (with_children (inserted i c)) (node_at f z)) (node_at f z)) =
      node_plant f p i c e bare z d h (only f c n) in
      ap (λ a. seen_spot a (node_at g z)) up
      ∙ (ap (λ o. seen_spot (cond (eqb c z) (Some p) (parent f z)) o) at
      ∙ by_go (eqb c z)
      (λ q. rw q refl)
      (λ q. rw q (by_go (eqb p z) (λ t. rw t (seen_children (parent f z) (inserted i c) (node_at f z))) (λ t. rw t refl))))

  -- trees below a node don't change the roots
  pub roots-with_below : (g : Trees X → Trees X) (f : Trees X) (p : ℕ) → has f p ≡ true → roots (with_below g f p) ≡ roots f
  roots-with_below g f p h = ap roots (with_below_is g f p h).1 ∙ roots-with_node f p (with_below_is g f p h).0 (g (below f p))

  pub single_with_below : (g : Trees X → Trees X) (f : Trees X) (p : ℕ) → has f p ≡ true → IsSingle f → IsSingle (with_below g f p)
  single_with_below g f p h s = subst (λ v. IsSingle v) (sym (with_below_is g f p h).1) (single_with_node f p (with_below_is g f p h).0 (g (below f p)) s)

  pub tree_planted : (f : Trees X) (p i c : ℕ) (e : X) → IsTree f → has f p ≡ true → has f c ≡ false → IsTree (with_below (planted i (tree c e bare bare)) f p)
  tree_planted f p i c e t h n = record {
    one_root = single_with_below (planted i (tree c e bare bare)) f p h t.one_root;
    distinct = distinct_plant f p i c e bare t.distinct h refl tt (only f c n);
  }

  -- ---- a tree taken out

  pub spot_pruned : (f : Trees X) (n z : ℕ) → IsDistinct f → has f n ≡ true
      → spot (pruned f n) z ≡ cond (eqb n z || has (below f n) z) None (option_map (spot_children (removed n)) (spot f z))
  spot_pruned f n z d h =
      by_go (eqb n z || has (below f n) z)
      (λ q. rw q (ap (seen_spot (parent (pruned f n) z)) (node_none (pruned f n) z (pruned_gone f n z d h q))))
      (λ q. rw q (by_go (has (pruned f n) z)
      (λ s. let up : parent (pruned f n) z ≡ parent f z = parent_prune f n z d h ∙ rw q refl in
      ap (λ a. seen_spot a (node_at (pruned f n) z)) up ∙ (ap (seen_spot (parent f z)) (node_prune f n z d s) ∙ seen_children (parent f z) (removed n) (node_at f z)))
      (λ s. let gone : has f z ≡ false = false_from_ne_true (has f z) (λ g. grind (arith, pruned_rest f n z g, s, q)) in
      ap (seen_spot (parent (pruned f n) z)) (node_none (pruned f n) z s)
      ∙ sym (ap (λ o. option_map (spot_children (removed n)) (seen_spot (parent f z) o)) (node_none f z gone)))))

  pub tree_pruned : (f : Trees X) (n : ℕ) → IsTree f → is_root f n ≡ false → IsTree (pruned f n)
  tree_pruned f n t r = record { one_root = (single_pruned f n r t.one_root).0; distinct = distinct_pruned f n t.distinct }

  pub roots_pruned : (f : Trees X) (n : ℕ) → IsTree f → is_root f n ≡ false → roots (pruned f n) ≡ roots f
  roots_pruned f n t r = roots-pruned f n (not_root f n t.one_root r)

  -- ---- a node changed

  pub spot_changed : (g : X → X) (f : Trees X) (n z : ℕ) → IsDistinct f → spot (with_known g f n) z ≡ cond (eqb n z) (option_map (spot_known g) (spot f z)) (spot f z)
  spot_changed g f n z d =
      ap (λ a. seen_spot a (node_at (with_known g f n) z)) (parent_known g f n z d)
      ∙ (ap (seen_spot (parent f z)) (node_known g f n z d)
      ∙ by_go (eqb n z) (λ q. rw q (seen_known (parent f z) g (node_at f z))) (λ q. rw q refl))

  distinct_changed : (g : X → X) (f : Trees X) (n : ℕ) → IsDistinct f → IsDistinct (with_known g f n)
  distinct_changed g bare n d = d
  distinct_changed g (tree i x k r) n d =
      by_go (eqb i n)
      (λ q. rw q d)
      (λ q. by_go (has k n)
      (λ p. rw (q, p) (
        has-with_known g k n i ∙ d.0,
        d.1,
        record { apart = λ z h. d.2.apart z (sym (has-with_known g k n z) ∙ h) },
        distinct_changed g k n d.3,
        d.4,
      ))
      (λ p. rw (q, p) (
        d.0,
        has-with_known g r n i ∙ d.1,
        record { apart = λ z h. has-with_known g r n z ∙ d.2.apart z h },
        d.3,
        distinct_changed g r n d.4,
      )))

  pub tree_changed : (g : X → X) (f : Trees X) (n : ℕ) → IsTree f → has f n ≡ true → IsTree (with_known g f n)
  tree_changed g f n t h = record {
    one_root = subst (λ v. IsSingle v) (sym (with_known_is g f n h).1) (single_with_node f n (with_known_is g f n h).0 (below f n) t.one_root);
    distinct = distinct_changed g f n t.distinct;
  }

  -- ---- a tree moved

  -- what stands at z after n has moved to the place i below p
  abbrev pub spot_after_move : ℕ → ℕ → ℕ → ℕ → Spot X → Spot X
  spot_after_move n p i z s = record {
    above = cond (eqb n z) (Some p) s.above;
    known = s.known;
    children = cond (eqb p z) (inserted i n (removed n s.children)) (removed n s.children);
  }

  -- what stands below n has the parent there that it has in the whole
  parent_inside : (f : Trees X) (n z : ℕ) → IsDistinct f → has f n ≡ true → has (below f n) z ≡ true → parent (tree_at f n) z ≡ parent f z
  parent_inside f n z d h g =
      let t : Trees X = tree_at f n in
      let dt : IsDistinct (tree_at f n) = distinct_tree_at f n d in
      let in' : has (tree_at f n) z ≡ true = has-tree_at f n z h ∙ grind (arith, g) in
      let no : eqb n z ≡ false = false_from_ne_true (eqb n z) (λ q. false≢true (sym (not_below_self f n d) ∙ subst (λ v. has (below f n) v ≡ true) (sym (eqb-true n z q)) g)) in
      let top : has_root (tree_at f n) z ≡ false = ap (λ (v : Trees X). has_root v z) (tree_at_is f n h).1 ∙ grind (arith, no) in
      let y : ℕ = parent_or (tree_at f n) z 0 in
      let up : (has (tree_at f n) (parent_or (tree_at f n) z 0) ≡ true) × (has_root (below (tree_at f n) (parent_or (tree_at f n) z 0)) z ≡ true) = parent_has (tree_at f n) z 0 dt in' top in
      let listed : has_root (below f (parent_or (tree_at f n) z 0)) z ≡ true =
      child_listed f (parent_or (tree_at f n) z 0) z
      ∙ (ap (λ o. contains (listed_children o) z) (sym (node_tree_at f n (parent_or (tree_at f n) z 0) d h up.0)) ∙ (sym (child_listed (tree_at f n) (parent_or (tree_at f n) z 0) z) ∙ up.1)) in
      parent_of_child (tree_at f n) (parent_or (tree_at f n) z 0) z dt up.1 ∙ sym (parent_of_child f (parent_or (tree_at f n) z 0) z d listed)

  -- n is no child of itself, nor of what stands below it
  no_child_inside : (f : Trees X) (n z : ℕ) → IsDistinct f → (eqb n z || has (below f n) z) ≡ true → contains (listed_children (node_at f z)) n ≡ false
  no_child_inside f n z d g = sym (child_listed f z n) ∙ false_from_ne_true (has_root (below f z) n) (λ t.
      let under : has (below f z) n ≡ true = root_in (below f z) n t in
      by_go (eqb n z)
      (λ q. false≢true (sym (not_below_self f n d) ∙ subst (λ v. has (below f v) n ≡ true) (sym (eqb-true n z q)) under))
      (λ q. false≢true (sym (not_below_self f n d) ∙ below_trans f n z n d (grind (arith, g, q)) under)))

  not_moved_children : (n p i z : ℕ) (a : Option ℕ) (o : Option (Node X)) → eqb p z ≡ false → contains (listed_children o) n ≡ false
      → seen_spot (cond (eqb n z) (Some p) a) o ≡ option_map (spot_after_move n p i z) (seen_spot a o)
  not_moved_children n p i z a None q h = refl
  not_moved_children n p i z a (Some u) q h = rw q (ap (λ js. Some (record { above = cond (eqb n z) (Some p) a; known = u.known; children = js })) (sym (removed_absent n u.children h)))

  moved_outside : (n p i z : ℕ) (o : Option (Spot X)) → eqb n z ≡ false
      → cond (eqb p z) (option_map (spot_children (inserted i n)) (option_map (spot_children (removed n)) o)) (option_map (spot_children (removed n)) o) ≡ option_map (spot_after_move n p i z) o
  moved_outside n p i z None q = by_go (eqb p z) (λ t. rw t refl) (λ t. rw t refl)
  moved_outside n p i z (Some s) q = by_go (eqb p z) (λ t. rw (q, t) refl) (λ t. rw (q, t) refl)

  pub stays_there : (f : Trees X) (n p : ℕ) → has f p ≡ true → (eqb n p || has (below f n) p) ≡ false → has (pruned f n) p ≡ true
  stays_there f n p h o = grind (arith, pruned_rest f n p h, o)

  moved_at : (f : Trees X) (n p i z : ℕ) (e : X) → tree_at f n ≡ tree n e (below f n) bare → IsDistinct f → has f n ≡ true → has f p ≡ true → (eqb n p || has (below f n) p) ≡ false
      → spot (with_below (planted i (tree n e (below f n) bare)) (pruned f n) p) z ≡ option_map (spot_after_move n p i z) (spot f z)
  moved_at f n p i z e is d h hp o =
      let k : Trees X = below f n in
      let r : Trees X = pruned f n in
      let g : Trees X = with_below (planted i (tree n e (below f n) bare)) (pruned f n) p in
      let dr : IsDistinct (pruned f n) = distinct_pruned f n d in
      let hr : has (pruned f n) p ≡ true = stays_there f n p hp o in
      let apart : (y : ℕ) → (eqb n y || has (below f n) y) ≡ true → has (pruned f n) y ≡ false = λ y q. pruned_gone f n y d h q in
      let at : node_at g z ≡ cond (eqb n z || has (below f n) z) (node_at (tree n e (below f n) bare) z) (cond (eqb p z) (option_map (with_children (inserted i n)) (node_at (pruned f n) z)) (node_at (pruned f n) z)) =
      node_plant (pruned f n) p i n e (below f n) z dr hr apart in
      let up : parent g z ≡ cond (eqb n z) (Some p) (cond (has (below f n) z) (parent (tree n e (below f n) bare) z) (parent (pruned f n) z)) =
      parent_plant (pruned f n) p i n e (below f n) z dr hr (not_below_self f n d) (distinct_below f n d) apart in
      by_go (eqb n z || has (below f n) z)
      (λ q. let nodes : node_at g z ≡ node_at f z = at ∙ rw q (ap (λ t. node_at t z) (sym is) ∙ node_tree_at f n z d h (has-tree_at f n z h ∙ q)) in
      let parents : parent g z ≡ cond (eqb n z) (Some p) (parent f z) =
      up ∙ first_or_second (eqb n z) (has (below f n) z) (Some p) (parent (tree n e (below f n) bare) z) (parent (pruned f n) z) (parent f z)
      (λ s. let b : has (below f n) z ≡ true = grind (arith, q, s) in (b, ap (λ t. parent t z) (sym is) ∙ parent_inside f n z d h b)) in
      let no : eqb p z ≡ false = false_from_ne_true (eqb p z) (λ s. false≢true (sym (subst (λ v. (eqb n v || has (below f n) v) ≡ false) (eqb-true p z s) o) ∙ q)) in
      ap (λ a. seen_spot a (node_at g z)) parents ∙ (ap (seen_spot (cond (eqb n z) (Some p) (parent f z))) nodes ∙ not_moved_children n p i z (parent f z) (node_at f z) no (no_child_inside f n z d q)))
      (λ q. let no : eqb n z ≡ false = grind (arith, q) in
      let out : has (below f n) z ≡ false = grind (arith, q) in
      let nodes : node_at g z ≡ cond (eqb p z) (option_map (with_children (inserted i n)) (node_at (pruned f n) z)) (node_at (pruned f n) z) = at ∙ rw q refl in
      let parents : parent g z ≡ parent (pruned f n) z = up ∙ rw (no, out) refl in
      let spots : spot g z ≡ cond (eqb p z) (option_map (spot_children (inserted i n)) (spot (pruned f n) z)) (spot (pruned f n) z) =
      ap (λ a. seen_spot a (node_at g z)) parents ∙ (ap (seen_spot (parent (pruned f n) z)) nodes
      ∙ by_go (eqb p z) (λ t. rw t (seen_children (parent (pruned f n) z) (inserted i n) (node_at (pruned f n) z))) (λ t. rw t refl)) in
      let old : spot (pruned f n) z ≡ option_map (spot_children (removed n)) (spot f z) = spot_pruned f n z d h ∙ rw q refl in
      spots ∙ (ap (λ s. cond (eqb p z) (option_map (spot_children (inserted i n)) s) s) old ∙ moved_outside n p i z (spot f z) no))

  pub spot_moved : (f : Trees X) (n p i z : ℕ) → IsDistinct f → has f n ≡ true → has f p ≡ true → (eqb n p || has (below f n) p) ≡ false
      → spot (with_below (planted i (tree_at f n)) (pruned f n) p) z ≡ option_map (spot_after_move n p i z) (spot f z)
  spot_moved f n p i z d h hp o =
      let is : tree_at f n ≡ tree n (tree_at_is f n h).0 (below f n) bare = (tree_at_is f n h).1 in
      subst (λ t. spot (with_below (planted i t) (pruned f n) p) z ≡ option_map (spot_after_move n p i z) (spot f z)) (sym is)
      (moved_at f n p i z (tree_at_is f n h).0 is d h hp o)

  pub tree_moved : (f : Trees X) (n p i : ℕ) → IsTree f → has f n ≡ true → has f p ≡ true → (eqb n p || has (below f n) p) ≡ false → is_root f n ≡ false
      → IsTree (with_below (planted i (tree_at f n)) (pruned f n) p)
  tree_moved f n p i t h hp o r =
      let is : tree_at f n ≡ tree n (tree_at_is f n h).0 (below f n) bare = (tree_at_is f n h).1 in
      let rest : IsTree (pruned f n) = tree_pruned f n t r in
      let hr : has (pruned f n) p ≡ true = stays_there f n p hp o in
      subst (λ v. IsTree (with_below (planted i v) (pruned f n) p)) (sym is) (record {
        one_root = single_with_below (planted i (tree n (tree_at_is f n h).0 (below f n) bare)) (pruned f n) p hr rest.one_root;
        distinct = distinct_plant (pruned f n) p i n (tree_at_is f n h).0 (below f n) rest.distinct hr (not_below_self f n t.distinct) (distinct_below f n t.distinct) (λ y q. pruned_gone f n y t.distinct h q);
      })
