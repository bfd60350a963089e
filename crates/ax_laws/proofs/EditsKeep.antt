-- An accepted edit, a touch and a delivery keep a receiver in step.
use Rattle.std.proofs.Common.{Bool, List, None, Option, Some, [], arith, eqb, false, leb, length, not, refl, subst, sym, true, ℕ, ◌||◌, ◌∙◌, ◌∷◌, ◌≡◌, ◌≤◌}
use Rattle.std.proofs.lemmas.Bool.{eqb-true, false_from_ne_true, false≢true, leb-true}
use Rattle.std.proofs.lemmas.Bool.Decides.{eqb_tells}
use Rattle.std.specs.List.{filter}
use Rattle.ax_tree.specs.declared.edit.EditErr.{EditErr}
use Rattle.ax_tree.specs.declared.edit.EditErr.TheVariants.{BadIndex, IdTaken, IntoItself, IsRoot, TooMany, UnknownNode, TooDeep}
use Rattle.ax_tree.specs.EditRule.{InsertLeaf, MoveTree, NodeEdit, RemoveTree, SetKnown, SetRoot, sized, trees_edited, trees_refusal, unless}
use Rattle.ax_tree.specs.InStep.{TreesInStep}
use Rattle.ax_tree.specs.MarkRule.{add_mark, add_marks, trees_marks}
use Rattle.ax_trees.specs.Changes.{planted, pruned, with_below, with_known, with_node}
use Rattle.ax_trees.specs.Lists.{NoneTwice, contains}
use Rattle.ax_trees.specs.Nodes.{below, node_at, parent_or, tree_at}
use Rattle.ax_trees.specs.Trees.{IsDistinct, IsTree, Trees, bare, count, has, height, is_bare, is_root, root_of, roots, tree}
use Rattle.ax_trees.proofs.Changed.{distinct_with_node, has_with_node, has_with_node_cases, has_with_node_in, has_with_node_more, has_with_node_split, height_known, node_with_node_inside, node_with_node_outside, outside, root_of-with_node, single_with_node, with_below_is, with_known_is, with_node_from}
use Rattle.ax_trees.proofs.Lists.{contains-push, filter_in, filter_kept, not_false, once_filter, once_push}
use Rattle.ax_trees.proofs.Moved.{distinct_planted, distinct_pruned, has-planted, height_pruned, node_planted_new, node_planted_old, node_pruned, parent_pruned, pruned_gone, pruned_in, pruned_rest, single_pruned}
use Rattle.ax_trees.proofs.Nodes.{distinct_tree_at, has-tree_at, node_below, node_tree_at, tree_at_is}
use Rattle.ax_trees.proofs.Trees.{below_in, by_go, distinct_below, not_root, root_of_in}

-- what an edit that touches the ids t makes of s
pub record EditFits {X : Type 0} (s s' : Trees X) (t : List ℕ) : Type 0 where
  pub is_tree : IsTree s'
  pub here : (z : ℕ) → contains t z ≡ true → has s' z ≡ true
  pub same : (z : ℕ) → has s' z ≡ true → contains t z ≡ false → (has s z ≡ true) × (node_at s' z ≡ node_at s z)
  pub root : root_of s' ≡ root_of s

pub once_add : (m : List ℕ) (x : ℕ) → NoneTwice m → NoneTwice (add_mark m x)
once_add m x o = by_go (contains m x) (λ q. rw q o) (λ q. rw q (once_push m x o q))

pub once_adds : (m t : List ℕ) → NoneTwice m → NoneTwice (add_marks m t)
once_adds m [] o = o
once_adds m (x ∷ t) o = once_adds (add_mark m x) t (once_add m x o)

pub contains_add : (m : List ℕ) (x z : ℕ) → contains (add_mark m x) z ≡ (contains m z || eqb x z)
contains_add m x z = by_go (contains m x) (λ q. rw q (grind (arith, eqb_tells x z, q))) (λ q. rw q (contains-push m x z))

pub contains_adds : (m t : List ℕ) (z : ℕ) → contains (add_marks m t) z ≡ (contains m z || contains t z)
contains_adds m [] z = grind arith
contains_adds m (x ∷ t) z = grind (arith, contains_adds (add_mark m x) t z, contains_add m x z)

pub edit_kept : {X : Type 0} (r s s' : Trees X) (m t : List ℕ) → TreesInStep r s m → EditFits s s' t → height s' ≤ 256 → TreesInStep r s' (add_marks (filter (has s') m) t)
edit_kept r s s' m t st fits low =
    let old : (z : ℕ) → has s' z ≡ true → contains (add_marks (filter (has s') m) t) z ≡ false → contains m z ≡ false =
    λ z h n. false_from_ne_true (contains m z) (λ c. grind (arith, contains_adds (filter (has s') m) t z, filter_kept (has s') m z c h, n)) in
    record {
      receiver = st.receiver;
      source = fits.is_tree;
      receiver_low = st.receiver_low;
      source_low = low;
      marks_in = λ z c. by_go (contains t z)
          (λ q. fits.here z q)
          (λ q. (filter_in (has s') m z (grind (arith, contains_adds (filter (has s') m) t z, c, q))).1);
      once = once_adds (filter (has s') m) t (once_filter (has s') m st.once);
      root_fits = λ x e. let y : ℕ = (st.root_fits x e).0 in
          let at : root_of s' ≡ Some (st.root_fits x e).0 = fits.root ∙ (st.root_fits x e).1 in
          ((st.root_fits x e).0, at, λ n. (st.root_fits x e).2 (old (st.root_fits x e).0 (root_of_in s' (st.root_fits x e).0 at) n));
      same = λ z g g' n. let apart : contains t z ≡ false = grind (arith, contains_adds (filter (has s') m) t z, n) in
          let was : (has s z ≡ true) × (node_at s' z ≡ node_at s z) = fits.same z g' apart in
          st.same z g was.0 (old z g' n) ∙ sym was.1;
    }

pub root_kept : {X : Type 0} (r s : Trees X) (m : List ℕ) (n : ℕ) (d : X) → TreesInStep r s m → TreesInStep r (tree n d bare bare) (n ∷ [])
root_kept r s m n d st = record {
  receiver = st.receiver;
  source = record { one_root = refl; distinct = (refl, refl, record { apart = λ z g. refl }, tt, tt) };
  receiver_low = st.receiver_low;
  source_low = omega arith;
  marks_in = λ z c. grind (arith, c);
  once = (refl, tt);
  root_fits = λ x e. (n, refl, λ h. grind (arith, h, eqb_tells n n));
  same = λ z g g' h. grind (arith, g', h);
}

-- touches
pub touch_kept : {X : Type 0} (r s : Trees X) (m t : List ℕ) → TreesInStep r s m → ((z : ℕ) → contains t z ≡ true → has s z ≡ true) → TreesInStep r s (add_marks m t)
touch_kept r s m t st here = record {
  receiver = st.receiver;
  source = st.source;
  receiver_low = st.receiver_low;
  source_low = st.source_low;
  marks_in = λ z c. by_go (contains t z) (λ q. here z q) (λ q. st.marks_in z (grind (arith, contains_adds m t z, c, q)));
  once = once_adds m t st.once;
  root_fits = λ x e. ((st.root_fits x e).0, (st.root_fits x e).1, λ n. (st.root_fits x e).2 (grind (arith, contains_adds m t (st.root_fits x e).0, n)));
  same = λ z g g' n. st.same z g g' (grind (arith, contains_adds m t z, n));
}

-- a delivery empties the receiver
pub delivery_kept : {X : Type 0} (r s : Trees X) (m : List ℕ) → TreesInStep r s m → TreesInStep bare s m
delivery_kept r s m st = record {
  receiver = record { one_root = tt; distinct = tt };
  source = st.source;
  receiver_low = omega arith;
  source_low = st.source_low;
  marks_in = st.marks_in;
  once = st.once;
  root_fits = λ x e. absurd (cc);
  same = λ z g g' n. absurd (false≢true g);
}

-- a node of s₁ is given other children or data, where s₁ came from s₀ by a change at t
pub with_node_fits : {X : Type 0} (s₀ s₁ : Trees X) (p : ℕ) (d : X) (j : Trees X) (t : List ℕ) → IsTree s₁ → has s₁ p ≡ true → contains t p ≡ true
    → IsDistinct j → ((z : ℕ) → has j z ≡ true → has (with_node s₁ p d bare) z ≡ false)
    → ((z : ℕ) → contains t z ≡ true → has (with_node s₁ p d j) z ≡ true)
    → ((z : ℕ) → has s₁ z ≡ true → contains t z ≡ false → (has s₀ z ≡ true) × (node_at s₁ z ≡ node_at s₀ z))
    → ((z : ℕ) → has j z ≡ true → contains t z ≡ false → (has s₀ z ≡ true) × (node_at j z ≡ node_at s₀ z))
    → root_of s₁ ≡ root_of s₀
    → EditFits s₀ (with_node s₁ p d j) t
with_node_fits s₀ s₁ p d j t is_tree h tp dj apart here outer inner root = record {
  is_tree = record { one_root = single_with_node s₁ p d j is_tree.one_root; distinct = distinct_with_node s₁ p d j is_tree.distinct h dj apart };
  here = here;
  same = λ z g n.
      let q : eqb p z ≡ false = grind (arith, eqb_tells p z, tp, n) in
      by_go (has j z)
      (λ in'. ((inner z in' n).0, node_with_node_inside s₁ p d j z h q (apart z in') in' ∙ (inner z in' n).1))
      (λ out. let o : has (with_node s₁ p d bare) z ≡ true = grind (arith, has_with_node_cases s₁ p d j z g, out) in
      let was : (has s₀ z ≡ true) × (node_at s₁ z ≡ node_at s₀ z) = outer z (grind (arith, with_node_from s₁ p d bare z o)) n in
      (was.0, node_with_node_outside s₁ p d j z is_tree.distinct h q o out ∙ was.1));
  root = root_of-with_node s₁ p d j ∙ root;
}

pub set_fits : {X : Type 0} (s : Trees X) (n : ℕ) (g : X → X) → IsTree s → has s n ≡ true → EditFits s (with_known g s n) (n ∷ [])
set_fits {X} s n g is_tree h =
    let d : X = (with_known_is g s n h).0 in
    rw (with_known_is g s n h).1
    (with_node_fits s s n d (below s n) (n ∷ []) is_tree h (grind (arith, eqb_tells n n)) (distinct_below s n is_tree.distinct) (λ z g'. outside s n d z is_tree.distinct h g')
    (λ z c. subst (λ y. has (with_node s n d (below s n)) y ≡ true) (eqb-true n z (grind (arith, c))) (has_with_node s n d (below s n) h))
    (λ z g' c. (g', refl))
    (λ z g' c. (below_in s n z g', node_below s n z is_tree.distinct g'))
    refl)

pub insert_fits : {X : Type 0} (s : Trees X) (p i n : ℕ) (d : X) → IsTree s → has s p ≡ true → has s n ≡ false
    → EditFits s (with_below (planted i (tree n d bare bare)) s p) (p ∷ (n ∷ []))
insert_fits {X} s p i n d is_tree h fresh =
    let j : Trees X = planted i (tree n d bare bare) (below s p) in
    let e : X = (with_below_is (planted i (tree n d bare bare)) s p h).0 in
    let new : (z : ℕ) → eqb n z ≡ true → has s z ≡ false = λ z q. subst (λ y. has s y ≡ false) (eqb-true n z q) fresh in
    rw (with_below_is (planted i (tree n d bare bare)) s p h).1
    (with_node_fits s s p e j (p ∷ (n ∷ [])) is_tree h (grind (arith, eqb_tells p p))
    (distinct_planted i n d bare bare (below s p) refl tt (distinct_below s p is_tree.distinct)
    (λ z g. false_from_ne_true (has (below s p) z) (λ g'. grind (arith, g, new z, below_in s p z g'))))
    (λ z g. false_from_ne_true (has (with_node s p e bare) z) (λ o. grind (arith, has-planted i n d bare bare (below s p) z, g, new z, with_node_from s p e bare z o, outside s p e z is_tree.distinct h)))
    (λ z c. by_go (eqb p z)
    (λ q. subst (λ y. has (with_node s p e j) y ≡ true) (eqb-true p z q) (has_with_node s p e j h))
    (λ q. has_with_node_in s p e j z h (grind (arith, c, q, has-planted i n d bare bare (below s p) z))))
    (λ z g c. (g, refl))
    (λ z g c. let old : has (below s p) z ≡ true = grind (arith, has-planted i n d bare bare (below s p) z, g, c) in
    (below_in s p z old, node_planted_old i n d bare bare (below s p) z (grind (arith, c)) ∙ node_below s p z is_tree.distinct old))
    refl)

pub remove_fits : {X : Type 0} (s : Trees X) (n : ℕ) → IsTree s → has s n ≡ true → is_root s n ≡ false → EditFits s (pruned s n) (parent_or s n n ∷ [])
remove_fits s n is_tree h q = record {
  is_tree = record { one_root = (single_pruned s n q is_tree.one_root).0; distinct = distinct_pruned s n is_tree.distinct };
  here = λ z c. subst (λ y. has (pruned s n) y ≡ true) (eqb-true (parent_or s n n) z (grind (arith, c))) (parent_pruned s n n is_tree.distinct h (not_root s n is_tree.one_root q));
  same = λ z g c. (pruned_in s n z g, node_pruned s n n z is_tree.distinct g (grind (arith, c)));
  root = (single_pruned s n q is_tree.one_root).1;
}

pub move_fits : {X : Type 0} (s : Trees X) (n p i : ℕ) → IsTree s → has s n ≡ true → has s p ≡ true → is_root s n ≡ false → (eqb n p || has (below s n) p) ≡ false
    → EditFits s (with_below (planted i (tree_at s n)) (pruned s n) p) (parent_or s n n ∷ (p ∷ []))
move_fits {X} s n p i is_tree h hp q apart =
    let d : X = (tree_at_is s n h).0 in
    let t : List ℕ = parent_or s n n ∷ (p ∷ []) in
    let k : Trees X = below s n in
    let s₁ : Trees X = pruned s n in
    let cutted : EditFits s (pruned s n) (parent_or s n n ∷ []) = remove_fits s n is_tree h q in
    let hp₁ : has (pruned s n) p ≡ true = grind (arith, pruned_rest s n p hp, apart) in
    let j : Trees X = planted i (tree n d k bare) (below s₁ p) in
    let e : X = (with_below_is (planted i (tree n d k bare)) s₁ p hp₁).0 in
    let alone : IsDistinct (tree n d k bare) = rw (tree_at_is s n h).1 at (distinct_tree_at s n is_tree.distinct) in
    let gone : (z : ℕ) → (eqb n z || has (below s n) z) ≡ true → has (pruned s n) z ≡ false = λ z g. pruned_gone s n z is_tree.distinct h g in
    let parts : (z : ℕ) → has j z ≡ ((eqb n z || has k z) || has (below s₁ p) z) = has-planted i n d k bare (below s₁ p) in
    rw ((tree_at_is s n h).1, (with_below_is (planted i (tree n d k bare)) s₁ p hp₁).1)
    (with_node_fits s s₁ p e j t cutted.is_tree hp₁ (grind (arith, eqb_tells p p))
    (distinct_planted i n d k bare (below s₁ p) alone.0 alone.3 (distinct_below s₁ p cutted.is_tree.distinct)
    (λ z g. false_from_ne_true (has (below s₁ p) z) (λ g'. grind (arith, gone z g, below_in s₁ p z g'))))
    (λ z g. false_from_ne_true (has (with_node s₁ p e bare) z) (λ o.
    grind (arith, parts z, g, gone z, with_node_from s₁ p e bare z o, outside s₁ p e z cutted.is_tree.distinct hp₁)))
    (λ z c. by_go (eqb p z)
    (λ b. subst (λ y. has (with_node s₁ p e j) y ≡ true) (eqb-true p z b) (has_with_node s₁ p e j hp₁))
    (λ b. let at : has s₁ z ≡ true = cutted.here z (grind (arith, c, b)) in
    by_go (has (below s₁ p) z)
    (λ g. has_with_node_in s₁ p e j z hp₁ (grind (arith, parts z, g)))
    (λ g. has_with_node_more s₁ p e j z (grind (arith, has_with_node_split s₁ p e z at, g)))))
    (λ z g c. cutted.same z g (grind (arith, c)))
    (λ z g c. by_go (eqb n z || has k z)
    (λ b. let in' : has (tree_at s n) z ≡ true = has-tree_at s n z h ∙ b in
    let none : has (below s₁ p) z ≡ false = false_from_ne_true (has (below s₁ p) z) (λ g'. grind (arith, gone z b, below_in s₁ p z g')) in (
      grind (arith, b, below_in s n z, eqb_tells n z, h),
      node_planted_new i n d k bare (below s₁ p) z b none ∙ ((rw (tree_at_is s n h).1 at (node_tree_at s n z is_tree.distinct h in'))),
    ))
    (λ b. let old : has (below s₁ p) z ≡ true = grind (arith, parts z, g, b) in
    let was : (has s z ≡ true) × (node_at s₁ z ≡ node_at s z) = cutted.same z (below_in s₁ p z old) (grind (arith, c)) in
    (was.0, node_planted_old i n d k bare (below s₁ p) z b ∙ (node_below s₁ p z cutted.is_tree.distinct old ∙ was.1))))
    cutted.root)

pub passed : (b : Bool) (e : EditErr) (o : Option EditErr) → unless b e o ≡ None → (b ≡ true) × (o ≡ None)
passed true e o h = (refl, h)
passed false e o h = absurd (cc)

pub sized_low : {X : Type 0} (w : Trees X) → sized w ≡ None → height w ≤ 256
sized_low w h =
    let a : (leb (count w) 100000 ≡ true) × (unless (leb (height w) 256) (TooDeep (height w)) None ≡ None) = passed (leb (count w) 100000) (TooMany (count w)) (unless (leb (height w) 256) (TooDeep (height w)) None) h in
    leb-true (height w) 256 (passed (leb (height w) 256) (TooDeep (height w)) None a.1).0

-- Each accepted edit keeps a receiver in step.
pub edit_keeps : {X : Type 0} (e : NodeEdit X) (r s : Trees X) (m : List ℕ) → TreesInStep r s m → trees_refusal e s ≡ None → TreesInStep r (trees_edited e s) (trees_marks e s m)
edit_keeps (SetRoot n d) r s m st h = root_kept r s m n d st
edit_keeps {X} (InsertLeaf p i n d) r s m st h =
    let w : Trees X = trees_edited (InsertLeaf p i n d) s in
    let len : ℕ = length (roots (below s p)) in
    let a : (not (is_bare s) ≡ true) × (unless (has s p) (UnknownNode p) (unless (not (has s n)) (IdTaken n) (unless (leb i len) (BadIndex i len) (sized w))) ≡ None) = passed _ _ _ h in
    let b : (has s p ≡ true) × (unless (not (has s n)) (IdTaken n) (unless (leb i len) (BadIndex i len) (sized w)) ≡ None) = passed _ _ _ a.1 in
    let c : (not (has s n) ≡ true) × (unless (leb i len) (BadIndex i len) (sized w) ≡ None) = passed _ _ _ b.1 in
    let f : (leb i len ≡ true) × (sized w ≡ None) = passed _ _ _ c.1 in
    edit_kept r s w m (p ∷ (n ∷ [])) st (insert_fits s p i n d st.source b.0 (not_false (has s n) c.0)) (sized_low w f.1)
edit_keeps (RemoveTree n) r s m st h =
    let a : (not (is_bare s) ≡ true) × (unless (has s n) (UnknownNode n) (unless (not (is_root s n)) (IsRoot n) None) ≡ None) = passed _ _ _ h in
    let b : (has s n ≡ true) × (unless (not (is_root s n)) (IsRoot n) None ≡ None) = passed _ _ _ a.1 in
    let c : (not (is_root s n) ≡ true) × (◌≡◌ {A = Option EditErr} None None) = passed (not (is_root s n)) (IsRoot n) None b.1 in
    edit_kept r s (pruned s n) m (parent_or s n n ∷ []) st (remove_fits s n st.source b.0 (not_false (is_root s n) c.0)) (omega (arith, height_pruned s n, st.source_low))
edit_keeps {X} (MoveTree n p i) r s m st h =
    let w : Trees X = trees_edited (MoveTree n p i) s in
    let len : ℕ = length (filter (λ c. not (eqb c n)) (roots (below s p))) in
    let q₁ : Option EditErr = unless (not (eqb n p || has (below s n) p)) (IntoItself n) (sized w) in
    let q₂ : Option EditErr = unless (not (is_root s n)) (IsRoot n) q₁ in
    let q₃ : Option EditErr = unless (leb i len) (BadIndex i len) q₂ in
    let q₄ : Option EditErr = unless (has s p) (UnknownNode p) q₃ in
    let q₅ : Option EditErr = unless (has s n) (UnknownNode n) q₄ in
    let a : (not (is_bare s) ≡ true) × (q₅ ≡ None) = passed _ _ _ h in
    let b : (has s n ≡ true) × (q₄ ≡ None) = passed (has s n) (UnknownNode n) q₄ a.1 in
    let c : (has s p ≡ true) × (q₃ ≡ None) = passed (has s p) (UnknownNode p) q₃ b.1 in
    let f : (leb i len ≡ true) × (q₂ ≡ None) = passed (leb i len) (BadIndex i len) q₂ c.1 in
    let g : (not (is_root s n) ≡ true) × (q₁ ≡ None) = passed (not (is_root s n)) (IsRoot n) q₁ f.1 in
    let k : (not (eqb n p || has (below s n) p) ≡ true) × (sized w ≡ None) = passed (not (eqb n p || has (below s n) p)) (IntoItself n) (sized w) g.1 in
    edit_kept r s w m (parent_or s n n ∷ (p ∷ [])) st
    (move_fits s n p i st.source b.0 c.0 (not_false (is_root s n) g.0) (not_false (eqb n p || has (below s n) p) k.0)) (sized_low w k.1)
edit_keeps (SetKnown n g) r s m st h =
    let a : (not (is_bare s) ≡ true) × (unless (has s n) (UnknownNode n) None ≡ None) = passed _ _ _ h in
    let b : (has s n ≡ true) × (◌≡◌ {A = Option EditErr} None None) = passed (has s n) (UnknownNode n) None a.1 in
    edit_kept r s (with_known g s n) m (n ∷ []) st (set_fits s n g st.source b.0) (omega (arith, height_known g s n, st.source_low))
