-- A node that gets something else below it.
use Rattle.std.proofs.Common.{Some, ap, arith, cond, eqb, false, max, refl, true, ℕ, ◌+◌, ◌||◌, ◌≡◌, ◌≤◌}
use Rattle.std.proofs.lemmas.Bool.{eqb-true, false_from_ne_true, false≢true}
use Rattle.std.proofs.lemmas.Bool.Decides.{eqb_tells}
use Rattle.std.specs.Option.{option_map}
use Rattle.ax_trees.specs.Changes.{with_below, with_known, with_node}
use Rattle.ax_trees.specs.Nodes.{Node, below, depth, node_at}
use Rattle.ax_trees.specs.Trees.{IsDistinct, IsSingle, Trees, bare, has, height, root_of, roots, tree}
use Rattle.ax_trees.proofs.Trees.{below_in, by_go}

pub with_node_other : {X : Type 0} (w : Trees X) (z : ℕ) (e : X) (c : Trees X) → has w z ≡ false → with_node w z e c ≡ w
with_node_other bare z e c h = refl
with_node_other (tree i e₀ k r) z e c h = grind (arith, with_node_other k z e c, with_node_other r z e c)

pub with_node_from : {X : Type 0} (w : Trees X) (x : ℕ) (e : X) (c : Trees X) (z : ℕ) → has (with_node w x e c) z ≡ true → (has w z || has c z) ≡ true
with_node_from bare x e c z h = grind arith
with_node_from (tree i e₀ k r) x e c z h = grind (arith, with_node_from k x e c z, with_node_from r x e c z)

-- what stands below x stands not outside
pub outside : {X : Type 0} (w : Trees X) (x : ℕ) (e : X) (z : ℕ) → IsDistinct w → has w x ≡ true → has (below w x) z ≡ true → has (with_node w x e bare) z ≡ false
outside bare x e z d h g = refl
outside (tree i e₀ k r) x e z d h g = grind (arith, eqb_tells i z, eqb_tells i x, outside k x e z, outside r x e z, below_in k x z, below_in r x z, with_node_from k x e bare z, with_node_from r x e bare z)

pub height_with_node : {X : Type 0} (t : Trees X) (x : ℕ) (e : X) (j : Trees X) → has t x ≡ true → height (with_node t x e j) ≤ max (height t) (depth t x + height j)
height_with_node bare x e j h = grind arith
height_with_node (tree i a k r) x e j h = grind (arith, height_with_node k x e j, height_with_node r x e j)

pub has_with_node : {X : Type 0} (t : Trees X) (x : ℕ) (e : X) (j : Trees X) → has t x ≡ true → has (with_node t x e j) x ≡ true
has_with_node bare x e j h = h
has_with_node (tree i a k r) x e j h = grind (arith, has_with_node k x e j, has_with_node r x e j)

pub below-with_node : {X : Type 0} (t : Trees X) (x : ℕ) (e : X) (j : Trees X) → has t x ≡ true → below (with_node t x e j) x ≡ j
below-with_node bare x e j h = absurd (false≢true h)
below-with_node (tree i a k r) x e j h = grind (arith, below-with_node k x e j, below-with_node r x e j, has_with_node k x e j, has_with_node r x e j)

pub with_node-with_node : {X : Type 0} (t : Trees X) (x : ℕ) (e : X) (j : Trees X) (e' : X) (j' : Trees X) → has t x ≡ true → with_node (with_node t x e j) x e' j' ≡ with_node t x e' j'
with_node-with_node bare x e j e' j' h = refl
with_node-with_node (tree i a k r) x e j e' j' h = grind (arith, with_node-with_node k x e j e' j', with_node-with_node r x e j e' j', has_with_node k x e j, has_with_node r x e j)

pub distinct_with_node : {X : Type 0} (t : Trees X) (x : ℕ) (e : X) (j : Trees X) → IsDistinct t → has t x ≡ true → IsDistinct j → ((z : ℕ) → has j z ≡ true → has (with_node t x e bare) z ≡ false) → IsDistinct (with_node t x e j)
distinct_with_node bare x e j d h dj apart = d
distinct_with_node (tree i a k r) x e j d h dj apart =
    by_go (eqb i x)
    (λ q. rw q (
      false_from_ne_true (has j i) (λ g. grind (arith, apart i g, eqb_tells i i)),
      d.1,
      record { apart = λ z g. grind (arith, apart z g) },
      dj,
      d.4,
    ))
    (λ q. by_go (has k x)
    (λ q'. rw (q, q') (
      false_from_ne_true (has (with_node k x e j) i) (λ g. grind (arith, d.0, with_node_from k x e j i, apart i, eqb_tells i i)),
      d.1,
      record { apart = λ z g. false_from_ne_true (has r z) (λ g'. grind (arith, with_node_from k x e j z, d.2.apart z, apart z)) },
      distinct_with_node k x e j d.3 q' dj (λ z g. grind (arith, apart z g)),
      d.4,
    ))
    (λ q'. rw (q, q') (
      d.0,
      false_from_ne_true (has (with_node r x e j) i) (λ g. grind (arith, d.1, with_node_from r x e j i, apart i, eqb_tells i i)),
      record { apart = λ z g. false_from_ne_true (has (with_node r x e j) z) (λ g'. grind (arith, with_node_from r x e j z, d.2.apart z, apart z)) },
      d.3,
      distinct_with_node r x e j d.4 (grind (arith, h)) dj (λ z g. grind (arith, apart z g)),
    )))

-- which ids stand in it is the same whatever the data
pub has-with_node_known : {X : Type 0} (t : Trees X) (x : ℕ) (e e' : X) (j : Trees X) (z : ℕ) → has (with_node t x e j) z ≡ has (with_node t x e' j) z
has-with_node_known bare x e e' j z = refl
has-with_node_known (tree i a k r) x e e' j z = grind (arith, has-with_node_known k x e e' j z, has-with_node_known r x e e' j z)

pub with_node_right : {X : Type 0} (i : ℕ) (e : X) (k r : Trees X) (x : ℕ) (d : X) (c : Trees X) → eqb i x ≡ false → has k x ≡ false → with_node (tree i e k r) x d c ≡ tree i e k (with_node r x d c)
with_node_right i e k r x d c a b = grind arith

pub with_node_left : {X : Type 0} (i : ℕ) (e : X) (k r : Trees X) (x : ℕ) (d : X) (c : Trees X) → eqb i x ≡ false → has k x ≡ true → with_node (tree i e k r) x d c ≡ tree i e (with_node k x d c) r
with_node_left i e k r x d c a b = grind arith

pub with_node_self : {X : Type 0} (c : ℕ) (l e : X) (k r j : Trees X) → with_node (tree c l k r) c e j ≡ tree c e j r
with_node_self c l e k r j = grind (arith, eqb_tells c c)

pub with_node_here : {X : Type 0} (i : ℕ) (a : X) (k r : Trees X) (x : ℕ) (e : X) (j : Trees X) → eqb i x ≡ true → with_node (tree i a k r) x e j ≡ tree i e j r
with_node_here i a k r x e j h = rw h

pub with_node_in : {X : Type 0} (i : ℕ) (a : X) (k r : Trees X) (x : ℕ) (e : X) (j : Trees X) → eqb i x ≡ false → has k x ≡ true → with_node (tree i a k r) x e j ≡ tree i a (with_node k x e j) r
with_node_in i a k r x e j h g = rw (h, g)

pub with_node_past : {X : Type 0} (i : ℕ) (a : X) (k r : Trees X) (x : ℕ) (e : X) (j : Trees X) → eqb i x ≡ false → has k x ≡ false → with_node (tree i a k r) x e j ≡ tree i a k (with_node r x e j)
with_node_past i a k r x e j h g = rw (h, g)

pub roots-with_node : {X : Type 0} (t : Trees X) (x : ℕ) (e : X) (j : Trees X) → roots (with_node t x e j) ≡ roots t
roots-with_node bare x e j = refl
roots-with_node (tree i a k r) x e j = grind (arith, roots-with_node r x e j)

pub node_with_node_same : {X : Type 0} (t : Trees X) (x : ℕ) (e : X) (j : Trees X) → has t x ≡ true → node_at (with_node t x e j) x ≡ Some (record { id = x; known = e; children = roots j })
node_with_node_same bare x e j h = absurd (false≢true h)
node_with_node_same (tree i a k r) x e j h =
    by_go (eqb i x)
    (λ q. rw (q, q) (ap (λ y. Some (record { id = y; known = e; children = roots j })) (eqb-true i x q)))
    (λ q. by_go (has k x)
    (λ q'. let at : has (with_node k x e j) x ≡ true = has_put' k x e j q' in rw (q, q', q, at) (node_with_node_same k x e j q'))
    (λ q'. rw (q, q', q, q') (node_with_node_same r x e j (grind (arith, h)))))
  where
    has_put' : {E : Type 0} (t : Trees E) (x : ℕ) (e : E) (j : Trees E) → has t x ≡ true → has (with_node t x e j) x ≡ true
    has_put' bare x e j h = h
    has_put' (tree i a k r) x e j h = grind (arith, has_put' k x e j, has_put' r x e j)

pub has_with_node_more : {X : Type 0} (t : Trees X) (x : ℕ) (e : X) (j : Trees X) (z : ℕ) → has (with_node t x e bare) z ≡ true → has (with_node t x e j) z ≡ true
has_with_node_more bare x e j z h = h
has_with_node_more (tree i a k r) x e j z h = grind (arith, has_with_node_more k x e j z, has_with_node_more r x e j z)

pub has_with_node_in : {X : Type 0} (t : Trees X) (x : ℕ) (e : X) (j : Trees X) (z : ℕ) → has t x ≡ true → has j z ≡ true → has (with_node t x e j) z ≡ true
has_with_node_in bare x e j z h g = absurd (false≢true h)
has_with_node_in (tree i a k r) x e j z h g = grind (arith, has_with_node_in k x e j z, has_with_node_in r x e j z)

-- an id outside keeps its node
pub node_with_node_outside : {X : Type 0} (t : Trees X) (x : ℕ) (e : X) (j : Trees X) (z : ℕ) → IsDistinct t → has t x ≡ true → eqb x z ≡ false → has (with_node t x e bare) z ≡ true → has j z ≡ false
    → node_at (with_node t x e j) z ≡ node_at t z
node_with_node_outside bare x e j z d h n o f = refl
node_with_node_outside (tree i a k r) x e j z d h n o f =
    by_go (eqb i x)
    (λ q. rw q (grind (arith, o, q, eqb_tells i z, eqb_tells i x, eqb_tells x z, d.2.apart z)))
    (λ q. by_go (has k x)
    (λ q'. let kept : has (with_node k x e bare) z ≡ true → node_at (with_node k x e j) z ≡ node_at k z = λ g. node_with_node_outside k x e j z d.3 q' n g f in
    rw (q, q') (grind (arith, o, q, q', kept, roots-with_node k x e j, has_with_node_more k x e j z, with_node_from k x e bare z, with_node_from k x e j z, d.2.apart z)))
    (λ q'. let h' : has r x ≡ true = grind (arith, h) in
    let kept : has (with_node r x e bare) z ≡ true → node_at (with_node r x e j) z ≡ node_at r z = λ g. node_with_node_outside r x e j z d.4 h' n g f in
    rw (q, q') (grind (arith, o, q, q', kept))))

-- an id of the new children has its node there
pub node_with_node_inside : {X : Type 0} (t : Trees X) (x : ℕ) (e : X) (j : Trees X) (z : ℕ) → has t x ≡ true → eqb x z ≡ false → has (with_node t x e bare) z ≡ false → has j z ≡ true
    → node_at (with_node t x e j) z ≡ node_at j z
node_with_node_inside bare x e j z h n o f = absurd (false≢true h)
node_with_node_inside (tree i a k r) x e j z h n o f =
    by_go (eqb i x)
    (λ q. rw q (grind (arith, f, q, eqb_tells i z, eqb_tells i x, eqb_tells x z)))
    (λ q. by_go (has k x)
    (λ q'. rw (q, q') (grind (arith, o, q, q', node_with_node_inside k x e j z q' n, has_with_node_in k x e j z q' f)))
    (λ q'. let h' : has r x ≡ true = grind (arith, h) in
    rw (q, q') (grind (arith, o, q, q', node_with_node_inside r x e j z h' n))))

pub has_with_node_cases : {X : Type 0} (t : Trees X) (x : ℕ) (e : X) (j : Trees X) (z : ℕ) → has (with_node t x e j) z ≡ true → (has (with_node t x e bare) z || has j z) ≡ true
has_with_node_cases bare x e j z h = absurd (false≢true h)
has_with_node_cases (tree i a k r) x e j z h =
    by_go (eqb i x)
    (λ q. rw q (grind (arith, h, q)))
    (λ q. by_go (has k x)
    (λ q'. rw (q, q') (grind (arith, h, q, q', has_with_node_cases k x e j z)))
    (λ q'. rw (q, q') (grind (arith, h, q, q', has_with_node_cases r x e j z))))

pub single_with_node : {X : Type 0} (t : Trees X) (x : ℕ) (e : X) (j : Trees X) → IsSingle t → IsSingle (with_node t x e j)
single_with_node bare x e j h = tt
single_with_node (tree i a k bare) x e j h =
    by_go (eqb i x) (λ q. rw q refl) (λ q. by_go (has k x) (λ q'. rw (q, q') refl) (λ q'. rw (q, q') refl))
single_with_node (tree i a k (tree i' a' k' r')) x e j h = absurd (cc)

pub root_of-with_node : {X : Type 0} (t : Trees X) (x : ℕ) (e : X) (j : Trees X) → root_of (with_node t x e j) ≡ root_of t
root_of-with_node bare x e j = refl
root_of-with_node (tree i a k r) x e j = grind arith

-- a change of one node is a put
pub with_below_is : {X : Type 0} (g : Trees X → Trees X) (w : Trees X) (x : ℕ) → has w x ≡ true
    → (d : X) × (with_below g w x ≡ with_node w x d (g (below w x))) × (node_at w x ≡ Some (record { id = x; known = d; children = roots (below w x) }))
with_below_is g bare x h = absurd (false≢true h)
with_below_is g (tree i e k r) x h =
    by_go (eqb i x)
    (λ q. rw q (e, refl, ap (λ y. Some (record { id = y; known = e; children = roots k })) (eqb-true i x q)))
    (λ q. by_go (has k x)
    (λ q'. let ih : (d : _) × (with_below g k x ≡ with_node k x d (g (below k x))) × (node_at k x ≡ Some (record { id = x; known = d; children = roots (below k x) })) = with_below_is g k x q' in
    rw (q, q') (ih.0, ap (λ v. tree i e v r) ih.1, ih.2))
    (λ q'. let ih : (d : _) × (with_below g r x ≡ with_node r x d (g (below r x))) × (node_at r x ≡ Some (record { id = x; known = d; children = roots (below r x) })) = with_below_is g r x (grind (arith, h)) in
    rw (q, q') (ih.0, ap (λ v. tree i e k v) ih.1, ih.2)))

pub with_known_is : {X : Type 0} (g : X → X) (w : Trees X) (x : ℕ) → has w x ≡ true → (d : X) × (with_known g w x ≡ with_node w x d (below w x))
with_known_is g bare x h = absurd (false≢true h)
with_known_is g (tree i e k r) x h =
    by_go (eqb i x)
    (λ q. rw q (g e, refl))
    (λ q. by_go (has k x)
    (λ q'. let ih : (d : _) × (with_known g k x ≡ with_node k x d (below k x)) = with_known_is g k x q' in rw (q, q') (ih.0, ap (λ v. tree i e v r) ih.1))
    (λ q'. let ih : (d : _) × (with_known g r x ≡ with_node r x d (below r x)) = with_known_is g r x (grind (arith, h)) in rw (q, q') (ih.0, ap (λ v. tree i e k v) ih.1)))

pub has_with_node_split : {X : Type 0} (t : Trees X) (x : ℕ) (e : X) (z : ℕ) → has t z ≡ true → (has (with_node t x e bare) z || has (below t x) z) ≡ true
has_with_node_split bare x e z h = absurd (false≢true h)
has_with_node_split (tree i a k r) x e z h = grind (arith, h, has_with_node_split k x e z, has_with_node_split r x e z)

pub height_known : {X : Type 0} (g : X → X) (w : Trees X) (n : ℕ) → height (with_known g w n) ≡ height w
height_known g bare n = refl
height_known g (tree i e k r) n = grind (arith, height_known g k n, height_known g r n)

pub has-with_known : {X : Type 0} (g : X → X) (w : Trees X) (x z : ℕ) → has (with_known g w x) z ≡ has w z
has-with_known g bare x z = refl
has-with_known g (tree i e k r) x z = grind (arith, has-with_known g k x z, has-with_known g r x z)

pub roots-with_known : {X : Type 0} (g : X → X) (w : Trees X) (x : ℕ) → roots (with_known g w x) ≡ roots w
roots-with_known g bare x = refl
roots-with_known g (tree i e k r) x = grind (arith, roots-with_known g r x)

-- new data at x, id by id
pub node_known : {X : Type 0} (g : X → X) (w : Trees X) (x z : ℕ) → IsDistinct w
    → node_at (with_known g w x) z ≡ cond (eqb x z) (option_map (λ (u : Node X). record { id = u.id; known = g u.known; children = u.children }) (node_at w z)) (node_at w z)
node_known g bare x z d = by_go (eqb x z) (λ q. rw q refl) (λ q. rw q refl)
node_known {X} g (tree i e k r) x z d =
    by_go (eqb i x)
    (λ q. by_go (eqb i z)
    (λ s. let t : eqb x z ≡ true = grind (arith, eqb_tells i x, eqb_tells i z, eqb_tells x z, q, s) in rw (q, s, t) refl)
    (λ s. let t : eqb x z ≡ false = grind (arith, eqb_tells i x, eqb_tells i z, eqb_tells x z, q, s) in rw (q, s, t) refl))
    (λ q. by_go (has k x)
    (λ q'. by_go (eqb i z)
    (λ s. let t : eqb x z ≡ false = grind (arith, eqb_tells i z, eqb_tells x z, s, q', d.0) in rw (q, q', s, t, roots-with_known g k x) refl)
    (λ s. by_go (has k z)
    (λ s'. rw (q, q', s, has-with_known g k x z, s') (node_known g k x z d.3))
    (λ s'. let t : eqb x z ≡ false = grind (arith, eqb_tells x z, s', q') in rw (q, q', s, has-with_known g k x z, s', t) refl)))
    (λ q'. by_go (eqb i z)
    (λ s. let t : eqb x z ≡ false = grind (arith, eqb_tells i z, eqb_tells x z, eqb_tells i x, s, q) in rw (q, q', s, t) refl)
    (λ s. by_go (has k z)
    (λ s'. let t : eqb x z ≡ false = grind (arith, eqb_tells x z, s', q') in rw (q, q', s, s', t) refl)
    (λ s'. rw (q, q', s, s') (node_known g r x z d.4)))))
