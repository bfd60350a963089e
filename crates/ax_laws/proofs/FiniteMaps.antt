-- Each tree shows as one finite map of the written definition, and each such map is shown by one tree.
use Rattle.std.proofs.Common.{ℕ, zero, suc, ◌+◌, ◌≡◌, ◌≤◌, max, true, false, eqb, List, [], ◌∷◌, refl, sym, ap, ◌∙◌, subst, arith, Option, None, Some}
use Rattle.std.specs.Prelude.{is_some}
use Rattle.std.proofs.lemmas.Bool.Decides.{eqb_tells}
use Rattle.std.proofs.lemmas.Bool.{false_from_ne_true, false≢true, eqb-true}
use Rattle.std.proofs.lemmas.Option.{same_Some}
use Rattle.ax_trees.specs.Trees.{Trees, bare, tree, has, has_root, ids, roots, root_of, IsSingle, IsDistinct, IsTree}
use Rattle.ax_trees.specs.Nodes.{Node, node_at, below}
use Rattle.ax_trees.specs.Lists.{contains, NoneTwice}
use Rattle.ax_trees.specs.Spots.{grown, grown_one, grown_level}
use Rattle.ax_laws.specs.FiniteMap.{Steps, IsTreeMap}
use Rattle.ax_trees.proofs.Trees.{by_go, root_in, below_in, contains_roots, root_of_in, distinct_below, agree, not_both}
use Rattle.ax_trees.proofs.Times.{contains-ids, has-node}
use Rattle.ax_trees.proofs.Parents.{listed_children, node_children, child_listed, parent_of_child, node_named, roots_once}
use Rattle.ax_trees.proofs.Grown.{node_none}

-- ---- a tree shows as a finite map

children_of : {X : Type 0} (f : Trees X) (y z : ℕ) (n : Node X) → node_at f y ≡ Some n → contains n.children z ≡ has_root (below f y) z
children_of f y z n h = sym (child_listed f y z ∙ ap (λ o. contains (listed_children o) z) h)

is_node : {X : Type 0} (f : Trees X) (z : ℕ) → is_some (node_at f z) ≡ true → has f z ≡ true
is_node f z h = has-node f z ∙ h

-- all of a part is reached in the whole once its roots are
part_reached : {X : Type 0} (m : ℕ → Option (Node X)) (r : ℕ) (f : Trees X) → IsDistinct f → ((z : ℕ) → has f z ≡ true → m z ≡ node_at f z)
    → ((z : ℕ) → has_root f z ≡ true → (k : ℕ) × Steps m k r z) → (z : ℕ) → has f z ≡ true → (k : ℕ) × Steps m k r z
part_reached m r bare d part tops z h = absurd (false≢true h)
part_reached {X} m r (tree i x k o) d part tops z h =
    let self : eqb i i ≡ true = grind (arith, eqb_tells i i) in
    let here : (j : ℕ) × Steps m j r i = tops i (grind (arith, self)) in
    let own : m i ≡ Some (record { id = i; known = x; children = roots k }) = part i (grind (arith, self)) ∙ rw self refl in
    by_go (eqb i z)
    (λ q. subst (λ y. (j : ℕ) × Steps m j r y) (eqb-true i z q) here)
    (λ q. by_go (has k z)
    (λ p. part_reached m r k d.3
    (λ y g. let no : eqb i y ≡ false = grind (arith, eqb_tells i y, d.0, g) in part y (grind (arith, g)) ∙ rw (no, g) refl)
    (λ y t. (suc here.0, (i, record { id = i; known = x; children = roots k }, here.1, own, contains_roots k y ∙ t)))
    z p)
    (λ p. part_reached m r o d.4
    (λ y g. let no : eqb i y ≡ false = grind (arith, eqb_tells i y, d.1, g) in
    let no' : has k y ≡ false = false_from_ne_true (has k y) (λ a. grind (arith, d.2.apart y a, g)) in part y (grind (arith, g)) ∙ rw (no, no') refl)
    (λ y t. tops y (grind (arith, t)))
    z (grind (arith, h, q, p))))

single_root : {X : Type 0} (f : Trees X) (r z : ℕ) → IsSingle f → root_of f ≡ Some r → has_root f z ≡ true → r ≡ z
single_root bare r z s e t = absurd (false≢true t)
single_root (tree i x k bare) r z s e t = sym (same_Some i r e) ∙ eqb-true i z (grind (arith, t))
single_root (tree i x k (tree j y l q)) r z s e t = absurd (cc)

root_is_root : {X : Type 0} (f : Trees X) (r : ℕ) → root_of f ≡ Some r → has_root f r ≡ true
root_is_root bare r e = absurd (cc)
root_is_root (tree i x k o) r e = grind (arith, eqb_tells i r, same_Some i r e)

no_root_bare : {X : Type 0} (f : Trees X) (z : ℕ) → root_of f ≡ None → has f z ≡ false
no_root_bare bare z e = refl
no_root_bare (tree i x k o) z e = absurd (cc)

pub shows_map : {X : Type 0} (f : Trees X) → IsTree f → IsTreeMap (node_at f) (root_of f)
shows_map {X} f t = record {
  finite = (ids f, λ z h. contains-ids f z ∙ is_node f z h);
  named = λ z n h. node_named f z n h;
  none = λ e z. sym (has-node f z) ∙ no_root_bare f z e;
  root_in = λ r e. sym (has-node f r) ∙ root_of_in f r e;
  root_free = λ r y n e h. children_of f y r n h ∙ not_both f y r t.distinct (root_is_root f r e);
  child_in = λ y z n h c. sym (has-node f z) ∙ below_in f y z (root_in (below f y) z (sym (children_of f y z n h) ∙ c));
  one_list = λ y x z n p h g c d. same_Some y x (sym (parent_of_child f y z t.distinct (sym (children_of f y z n h) ∙ c)) ∙ parent_of_child f x z t.distinct (sym (children_of f x z p g) ∙ d));
  once = λ y n h. subst (λ l. NoneTwice l) (node_children f y ∙ ap listed_children h) (roots_once (below f y) (distinct_below f y t.distinct));
  reached = λ r z e h. part_reached (node_at f) r f t.distinct (λ y g. refl) (λ y g. (0, single_root f r y t.one_root e g)) z (is_node f z h);
}

-- ---- trees that show the same map are one

pub same_map : {X : Type 0} (f g : Trees X) → IsTree f → IsTree g → root_of f ≡ root_of g → ((z : ℕ) → node_at f z ≡ node_at g z) → f ≡ g
same_map f g tf tg e h = agree f g tf.distinct tg.distinct (same_roots f g tf.one_root tg.one_root e) (λ z a b. h z)
  where
    same_roots : {E : Type 0} (f g : Trees E) → IsSingle f → IsSingle g → root_of f ≡ root_of g → roots f ≡ roots g
    same_roots bare bare sf sg e = refl
    same_roots bare (tree j y l q) sf sg e = absurd (cc)
    same_roots (tree i x k r) bare sf sg e = absurd (cc)
    same_roots (tree i x k r) (tree j y l q) sf sg e = rw (sf, sg, same_Some i j e) refl

-- ---- each map is shown

-- steps, one before and one after
steps_then : {X : Type 0} (m : ℕ → Option (Node X)) (a b : ℕ) (x y z : ℕ) → Steps m a x y → Steps m b y z → Steps m (a + b) x z
steps_then m a zero x y z p q = let e : a ≡ a + 0 = omega arith in subst (λ n. Steps m n x z) e (subst (λ v. Steps m a x v) q p)
steps_then m a (suc b) x y z p (v, n, q, e, c) = let s : suc (a + b) ≡ a + suc b = omega arith in subst (λ j. Steps m j x z) s (v, n, steps_then m a b x y v p q, e, c)

-- what stands k steps above z is one
steps_one : {X : Type 0} (m : ℕ → Option (Node X)) (root : Option ℕ) → IsTreeMap m root → (k x y z : ℕ) → Steps m k x z → Steps m k y z → x ≡ y
steps_one m root t zero x y z p q = p ∙ sym q
steps_one m root t (suc k) x y z (v, n, p, e, c) (w, o, q, f, d) =
    let same : w ≡ v = sym (t.one_list v w z n o e f c d) in
    steps_one m root t k x y v p (subst (λ u. Steps m k y u) same q)

-- an id is reached from the root in one number of steps
level_one : {X : Type 0} (m : ℕ → Option (Node X)) (r : ℕ) → IsTreeMap m (Some r) → (k j z : ℕ) → Steps m k r z → Steps m j r z → k ≡ j
level_one m r t zero zero z p q = refl
level_one m r t zero (suc j) z p (w, o, q, f, d) = absurd (false≢true (sym (t.root_free r w o refl f) ∙ (ap (contains o.children) p ∙ d)))
level_one m r t (suc k) zero z (v, n, p, e, c) q = absurd (false≢true (sym (t.root_free r v n refl e) ∙ (ap (contains n.children) q ∙ c)))
level_one m r t (suc k) (suc j) z (v, n, p, e, c) (w, o, q, f, d) =
    let same : w ≡ v = sym (t.one_list v w z n o e f c d) in
    ap suc (level_one m r t k j v p (subst (λ u. Steps m j r u) same q))

-- no id of a finite map is deeper than some number
pub record Bound {X : Type 0} (m : ℕ → Option (Node X)) (r : ℕ) (ids : List ℕ) : Type 0 where
  pub most : ℕ
  pub reached : (z : ℕ) → contains ids z ≡ true → is_some (m z) ≡ true → (k : ℕ) × Steps m k r z × (k ≤ most)

bound : {X : Type 0} (m : ℕ → Option (Node X)) (r : ℕ) → IsTreeMap m (Some r) → (ids : List ℕ) → Bound m r ids
bound m r t [] = record { most = 0; reached = λ z c h. absurd (false≢true c) }
bound m r t (y ∷ ids) =
    let rest : Bound m r ids = bound m r t ids in
    by_go (is_some (m y))
    (λ q. let own : (k : ℕ) × Steps m k r y = t.reached r y refl q in
    record {
      most = max own.0 rest.most;
      reached = λ z c h. by_go (eqb y z)
          (λ p. subst (λ v. (k : ℕ) × Steps m k r v × (k ≤ max own.0 rest.most)) (eqb-true y z p) (own.0, own.1, omega arith))
          (λ p. let old : (k : ℕ) × Steps m k r z × (k ≤ rest.most) = rest.reached z (grind (arith, c, p)) h in (old.0, old.1, omega (arith, old.2)));
    })
    (λ q. record {
      most = rest.most;
      reached = λ z c h. by_go (eqb y z)
          (λ p. absurd (false≢true (sym q ∙ (ap (λ v. is_some (m v)) (eqb-true y z p) ∙ h))))
          (λ p. rest.reached z (grind (arith, c, p)) h);
    })

-- what is grown from a list of ids stands below one of them
grown_from : {X : Type 0} (m : ℕ → Option (Node X)) (n : ℕ) (is : List ℕ) (z : ℕ) → has (grown m n is) z ≡ true → (x : ℕ) × (k : ℕ) × (contains is x ≡ true) × Steps m k x z
grown_from m zero is z h = absurd (false≢true h)
grown_from m (suc n) [] z h = absurd (false≢true h)
grown_from {X} m (suc n) (i ∷ is) z h = go (m i) refl h (λ js g. grown_from m n js z g) (λ g. grown_from m (suc n) is z g)
  where
    go : (o : Option (Node X)) → m i ≡ o → has (grown_one (grown m n) i o (grown_level m (grown m n) is)) z ≡ true
        → ((js : List ℕ) → has (grown m n js) z ≡ true → (x : ℕ) × (k : ℕ) × (contains js x ≡ true) × Steps m k x z)
        → (has (grown m (suc n) is) z ≡ true → (x : ℕ) × (k : ℕ) × (contains is x ≡ true) × Steps m k x z)
        → (x : ℕ) × (k : ℕ) × (contains (i ∷ is) x ≡ true) × Steps m k x z
    go None e g ih jh =
        let later : (x : ℕ) × (k : ℕ) × (contains is x ≡ true) × Steps m k x z = jh g in
        (later.0, later.1, grind (arith, later.2), later.3)
    go (Some u) e g ih jh =
        by_go (eqb i z)
        (λ q. (i, 0, grind (arith, eqb_tells i i), eqb-true i z q))
        (λ q. by_go (has (grown m n u.children) z)
        (λ p. let deeper : (x : ℕ) × (k : ℕ) × (contains u.children x ≡ true) × Steps m k x z = ih u.children p in
        (i, 1 + deeper.1, grind (arith, eqb_tells i i), steps_then m 1 deeper.1 i deeper.0 z (i, u, refl, e, deeper.2) deeper.3))
        (λ p. let later : (x : ℕ) × (k : ℕ) × (contains is x ≡ true) × Steps m k x z = jh (grind (arith, g, q, p)) in
        (later.0, later.1, grind (arith, later.2), later.3)))

-- the first of some steps
steps_front : {X : Type 0} (m : ℕ → Option (Node X)) (k x z : ℕ) (u : Node X) → m x ≡ Some u → Steps m (suc k) x z → (y : ℕ) × (contains u.children y ≡ true) × Steps m k y z
steps_front m zero x z u h (v, n, q, e, c) =
    let same : n ≡ u = same_Some n u (sym e ∙ (ap m (sym q) ∙ h)) in
    (z, subst (λ (w : Node _). contains w.children z ≡ true) same c, refl)
steps_front m (suc k) x z u h (v, n, q, e, c) =
    let first : (y : ℕ) × (contains u.children y ≡ true) × Steps m k y v = steps_front m k x v u h q in
    (first.0, first.1, (v, n, first.2, e, c))

some_of : {A : Type 0} (o : Option A) → is_some o ≡ true → (a : A) × (o ≡ Some a)
some_of None h = absurd (false≢true h)
some_of (Some a) h = (a, refl)

-- what is grown from a list of ids: it has them as roots, its nodes are the map's, and it has all that is reached from them
pub record Shows {X : Type 0} (m : ℕ → Option (Node X)) (f : Trees X) (is : List ℕ) : Type 0 where
  pub tops : roots f ≡ is
  pub distinct : IsDistinct f
  pub nodes : (z : ℕ) → has f z ≡ true → node_at f z ≡ m z
  pub all : (x k z : ℕ) → contains is x ≡ true → Steps m k x z → has f z ≡ true

-- one root more
shows_more : {X : Type 0} (m : ℕ → Option (Node X)) (r : ℕ) (t : IsTreeMap m (Some r)) (n l i : ℕ) (is : List ℕ) (u : Node X) → m i ≡ Some u → contains is i ≡ false
    → Steps m l r i → ((x : ℕ) → contains is x ≡ true → Steps m l r x)
    → Shows m (grown m n u.children) u.children → Shows m (grown m (suc n) is) is
    → Shows m (tree i u.known (grown m n u.children) (grown m (suc n) is)) (i ∷ is)
shows_more {X} m r t n l i is u e new up ups inner later =
    let self : eqb i i ≡ true = grind (arith, eqb_tells i i) in
    let k : Trees X = grown m n u.children in
    let o : Trees X = grown m (suc n) is in
    record {
      tops = ap (λ js. i ∷ js) later.tops;
      distinct = (
        false_from_ne_true (has k i) (λ g. let from : (x : ℕ) × (j : ℕ) × (contains u.children x ≡ true) × Steps m j x i = grown_from m n u.children i g in
            let down : Steps m (suc l + from.1) r i = steps_then m (suc l) from.1 r from.0 i (i, u, up, e, from.2) from.3 in
            let same : l ≡ suc l + from.1 = level_one m r t l (suc l + from.1) i up down in absurd (omega (arith, same))),
        false_from_ne_true (has o i) (λ g. let from : (x : ℕ) × (j : ℕ) × (contains is x ≡ true) × Steps m j x i = grown_from m (suc n) is i g in
            let down : Steps m (l + from.1) r i = steps_then m l from.1 r from.0 i (ups from.0 from.2) from.3 in
            let same : l ≡ l + from.1 = level_one m r t l (l + from.1) i up down in
            let none : from.1 ≡ 0 = omega (arith, same) in
            let at : from.0 ≡ i = subst (λ j. Steps m j from.0 i) none from.3 in
            absurd (false≢true (sym new ∙ (ap (contains is) (sym at) ∙ from.2)))),
        record {
          apart = λ z g. false_from_ne_true (has o z) (λ h.
              let from : (x : ℕ) × (j : ℕ) × (contains u.children x ≡ true) × Steps m j x z = grown_from m n u.children z g in
              let other : (x : ℕ) × (j : ℕ) × (contains is x ≡ true) × Steps m j x z = grown_from m (suc n) is z h in
              let below_i : Steps m (1 + from.1) i z = steps_then m 1 from.1 i from.0 z (i, u, refl, e, from.2) from.3 in
              let a : Steps m (l + (1 + from.1)) r z = steps_then m l (1 + from.1) r i z up below_i in
              let b : Steps m (l + other.1) r z = steps_then m l other.1 r other.0 z (ups other.0 other.2) other.3 in
              let same : l + (1 + from.1) ≡ l + other.1 = level_one m r t (l + (1 + from.1)) (l + other.1) z a b in
              let level : other.1 ≡ 1 + from.1 = omega (arith, same) in
              let at : i ≡ other.0 = steps_one m (Some r) t (1 + from.1) i other.0 z below_i (subst (λ j. Steps m j other.0 z) level other.3) in
              absurd (false≢true (sym new ∙ (ap (contains is) at ∙ other.2))));
        },
        inner.distinct,
        later.distinct,
      );
      nodes = λ z h. by_go (eqb i z)
          (λ q. rw q (ap (λ js. Some (record { id = i; known = u.known; children = js })) inner.tops
          ∙ (ap (λ j. Some (record { id = j; known = u.known; children = u.children })) (sym (t.named i u e)) ∙ (sym e ∙ ap m (eqb-true i z q)))))
          (λ q. by_go (has k z) (λ p. rw (q, p) (inner.nodes z p)) (λ p. rw (q, p) (later.nodes z (grind (arith, h, q, p)))));
      all = λ x j z c s. by_go (eqb i x)
          (λ q. below_first (eqb-true i x q) j z s)
          (λ q. grind (arith, later.all x j z (grind (arith, c, q)) s));
    }
  where
    below_first : {x : ℕ} → i ≡ x → (j z : ℕ) → Steps m j x z → has (tree i u.known (grown m n u.children) (grown m (suc n) is)) z ≡ true
    below_first at zero z s = grind (arith, eqb_tells i z, at ∙ s)
    below_first {x} at (suc j) z s =
        let first : (y : ℕ) × (contains u.children y ≡ true) × Steps m j y z = steps_front m j i z u e (subst (λ v. Steps m (suc j) v z) (sym at) s) in
        grind (arith, inner.all first.0 j z first.1 first.2)

shows : {X : Type 0} (m : ℕ → Option (Node X)) (r : ℕ) (t : IsTreeMap m (Some r)) (most : ℕ) → ((z k : ℕ) → is_some (m z) ≡ true → Steps m k r z → k ≤ most)
    → (n l : ℕ) (is : List ℕ) → l + n ≡ suc most → NoneTwice is → ((x : ℕ) → contains is x ≡ true → Steps m l r x × (is_some (m x) ≡ true)) → Shows m (grown m n is) is
shows m r t most deep zero l [] e o h = record { tops = refl; distinct = tt; nodes = λ z g. absurd (false≢true g); all = λ x k z c s. absurd (false≢true c) }
shows m r t most deep zero l (i ∷ is) e o h =
    let here : Steps m l r i × (is_some (m i) ≡ true) = h i (grind (arith, eqb_tells i i)) in
    absurd (omega (arith, deep i l here.1 here.0, e))
shows m r t most deep (suc n) l [] e o h = record { tops = refl; distinct = tt; nodes = λ z g. absurd (false≢true g); all = λ x k z c s. absurd (false≢true c) }
shows {X} m r t most deep (suc n) l (i ∷ is) e o h =
    let here : Steps m l r i × (is_some (m i) ≡ true) = h i (grind (arith, eqb_tells i i)) in
    let u : Node X = (some_of (m i) here.1).0 in
    let at : m i ≡ Some (some_of (m i) here.1).0 = (some_of (m i) here.1).1 in
    let inner : Shows m (grown m n (some_of (m i) here.1).0.children) (some_of (m i) here.1).0.children =
    shows m r t most deep n (suc l) (some_of (m i) here.1).0.children (omega (arith, e)) (t.once i (some_of (m i) here.1).0 at)
    (λ x c. ((i, (some_of (m i) here.1).0, here.0, at, c), t.child_in i x (some_of (m i) here.1).0 at c)) in
    let later : Shows m (grown m (suc n) is) is = shows m r t most deep (suc n) l is e o.1 (λ x c. h x (grind (arith, c))) in
    let whole : grown m (suc n) (i ∷ is) ≡ tree i (some_of (m i) here.1).0.known (grown m n (some_of (m i) here.1).0.children) (grown m (suc n) is) =
    ap (λ p. grown_one (grown m n) i p (grown m (suc n) is)) at in
    subst (λ f. Shows m f (i ∷ is)) (sym whole)
    (shows_more m r t n l i is (some_of (m i) here.1).0 at o.0 here.0 (λ x c. (h x (grind (arith, c))).0) inner later)

-- the tree of a finite map
pub record TellsMap {X : Type 0} (m : ℕ → Option (Node X)) (root : Option ℕ) : Type 0 where
  pub trees : Trees X
  pub is_tree : IsTree trees
  pub root_same : root_of trees ≡ root
  pub nodes : (z : ℕ) → node_at trees z ≡ m z

one_tree : {X : Type 0} (f : Trees X) (r : ℕ) → roots f ≡ r ∷ [] → IsSingle f × (root_of f ≡ Some r)
one_tree bare r e = absurd (cc)
one_tree (tree i x k bare) r e = (refl, cc)
one_tree (tree i x k (tree j y l q)) r e = absurd (cc)

not_some : {A : Type 0} (o : Option A) → is_some o ≡ false → o ≡ None
not_some None h = refl
not_some (Some a) h = absurd (false≢true (sym h))

pub map_shown : {X : Type 0} (m : ℕ → Option (Node X)) (root : Option ℕ) → IsTreeMap m root → TellsMap m root
map_shown m None t = record { trees = bare; is_tree = record { one_root = tt; distinct = tt }; root_same = refl; nodes = λ z. sym (not_some (m z) (t.none refl z)) }
map_shown {X} m (Some r) t =
    let b : Bound m r t.finite.0 = bound m r t t.finite.0 in
    let deep : (z k : ℕ) → is_some (m z) ≡ true → Steps m k r z → k ≤ b.most =
    λ z k h s. (let own : (j : ℕ) × Steps m j r z × (j ≤ b.most) = b.reached z (t.finite.1 z h) h in
    let same : k ≡ own.0 = level_one m r t k own.0 z s own.1 in omega (arith, same, own.2)) in
    let sh : Shows m (grown m (suc b.most) (r ∷ [])) (r ∷ []) =
    shows m r t b.most deep (suc b.most) 0 (r ∷ []) (omega arith) (refl, tt)
    (λ x c. (eqb-true r x (grind (arith, c)), subst (λ v. is_some (m v) ≡ true) (eqb-true r x (grind (arith, c))) (t.root_in r refl))) in
    let one : IsSingle (grown m (suc b.most) (r ∷ [])) × (root_of (grown m (suc b.most) (r ∷ [])) ≡ Some r) = one_tree (grown m (suc b.most) (r ∷ [])) r sh.tops in
    record {
      trees = grown m (suc b.most) (r ∷ []);
      is_tree = record { one_root = one.0; distinct = sh.distinct };
      root_same = one.1;
      nodes = λ z. by_go (has (grown m (suc b.most) (r ∷ [])) z)
          (λ q. sh.nodes z q)
          (λ q. node_none (grown m (suc b.most) (r ∷ [])) z q
          ∙ sym (not_some (m z) (false_from_ne_true (is_some (m z)) (λ h.
          let way : (k : ℕ) × Steps m k r z = t.reached r z refl h in
          absurd (false≢true (sym q ∙ sh.all r way.0 z (grind (arith, eqb_tells r r)) way.1))))));
    }
