-- Alike drafts end alike: the least pending id and the height are the same, and so are root and parents of what is completed.
use Rattle.std.proofs.Common.{ℕ, ◌+◌, ◌≡◌, ◌≤◌, Bool, true, false, cond, leb, eqb, ◌-◌, ◌⊎◌, inl, inr, List, [], length, map, refl, sym, ap, ◌∙◌, subst, arith, Option, None, Some, Result, Ok, Err}
use Rattle.std.specs.Prelude.{is_none, unwrap_or, min}
use Rattle.std.proofs.lemmas.Bool.Decides.{eqb_tells}
use Rattle.std.proofs.lemmas.Bool.{false_from_ne_true, false≢true, eqb-true}
use Rattle.std.proofs.lemmas.Option.{same_Some}
use Rattle.ax_trees.specs.Trees.{Trees, bare, tree, has, has_root, height, is_root, root_of, IsDistinct, IsSingle, IsTree}
use Rattle.ax_trees.specs.Nodes.{Node, node_at, below, depth}
use Rattle.ax_trees.specs.Shape.{mapped}
use Rattle.ax_trees.specs.Changes.{with_node}
use Rattle.ax_tree.specs.declared.update.Refusal.{Refusal}
use Rattle.ax_tree.specs.declared.update.Refusal.TheVariants.{BadClear, Pending, TooDeep}
use Rattle.ax_tree.specs.declared.update.TreeUpdate.{TreeUpdate}
use Rattle.ax_tree.specs.UpdateRule.{Update, and_then, cleared, completed, draft_node, draft_of, finished, least, least_pending, missing, nodes_taken, own_pending, refuse_or, started, trees_after}
use Rattle.ax_tree.specs.UpdateShape.{SameShape}
use Rattle.ax_node.specs.Look.{Look, blank_look}
use Rattle.ax_tree.specs.Tree.{Tree, IsWellFormed}
use Rattle.ax_tree.specs.Updates.{nodes_part, told, applied}
use Rattle.ax_trees.proofs.Trees.{by_go}
use Rattle.ax_trees.proofs.Times.{has-node}
use Rattle.ax_trees.proofs.Grown.{node_none}
use Rattle.ax_trees.proofs.Parents.{child_listed}
use Rattle.ax_trees.proofs.Sizes.{depth-chain, depth_height, depth_none}
use Rattle.ax_trees.proofs.Shapes.{has-mapped, root_under}
use Rattle.ax_trees.proofs.Changed.{with_node_other}
use Rattle.ax_tree.proofs.Drafts.{has-draft, has_root-draft, below-draft, distinct-draft}
use Rattle.ax_laws.specs.Laws.{SameOutcome}
use Rattle.ax_laws.proofs.SameShapes.{chain-same}
use Rattle.ax_laws.proofs.Alike.{Alike, SameResult, pends_at, alike_shape, same_self, taken_alike, then_same, refuse_same, nodes_alike}

-- ---- the height

-- no chain is longer than n, so the trees aren't higher
height_from : {X : Type 0} (f : Trees X) (n : ℕ) → IsDistinct f → ((z : ℕ) → depth f z ≤ n) → height f ≤ n
height_from bare n d h = omega arith
height_from {X} (tree i x k r) n d h =
    let self : eqb i i ≡ true = grind (arith, eqb_tells i i) in
    let one : 1 ≤ n = rw self at (h i) in
    let inner : height k ≤ n - 1 = height_from k (n - 1) d.3 (λ z. by_go (has k z)
    (λ q. let no : eqb i z ≡ false = false_from_ne_true (eqb i z) (λ g. grind (arith, g, eqb_tells i z, d.0, q)) in
    let deep : 1 + depth k z ≤ n = rw (no, q) at (h z) in omega (arith, deep))
    (λ q. omega (arith, depth_none k z q))) in
    let later : height r ≤ n = height_from r n d.4 (λ z. by_go (has r z)
    (λ q. let no : eqb i z ≡ false = false_from_ne_true (eqb i z) (λ g. grind (arith, g, eqb_tells i z, d.1, q)) in
    let out : has k z ≡ false = false_from_ne_true (has k z) (λ g. false≢true (sym (d.2.apart z g) ∙ q)) in
    rw (no, out) at (h z))
    (λ q. omega (arith, depth_none r z q))) in
    omega (arith, one, inner, later)

height_no_more : {X E : Type 0} (f : Trees X) (k : Trees E) → IsTree f → IsTree k → SameShape f k → height f ≤ height k
height_no_more f k tf tk same =
    height_from f (height k) tf.distinct
    (λ z. omega (arith, depth-chain f z, depth-chain k z, ap length (chain-same f k z tf tk same), depth_height k z))

turned : {X E : Type 0} (f : Trees X) (k : Trees E) → SameShape f k → SameShape k f
turned f k s = record { held = λ z. sym (s.held z); under = λ y z. sym (s.under y z); root = sym s.root }

height-same : {X E : Type 0} (f : Trees X) (k : Trees E) → IsTree f → IsTree k → SameShape f k → height f ≡ height k
height-same f k tf tk same = omega (arith, height_no_more f k tf tk same, height_no_more k f tk tf (turned f k same))

-- ---- the least pending id

abbrev pends : {X : Type 0} → Trees (Option X) → ℕ → Bool
pends f z = pends_at (node_at f z)

own_is : {X : Type 0} (i z : ℕ) (o : Option X) → own_pending i o ≡ Some z → (i ≡ z) × (is_none o ≡ true)
own_is i z None h = (same_Some i z h, refl)
own_is i z (Some x) h = absurd (cc)

either_min : (x y : ℕ) → (min x y ≡ x) ⊎ (min x y ≡ y)
either_min x y = by_go (leb x y) (λ q. inl (grind (arith, q))) (λ q. inr (grind (arith, q)))

least_one : (a b : Option ℕ) (z : ℕ) → least a b ≡ Some z → (a ≡ Some z) ⊎ (b ≡ Some z)
least_one None b z h = inr h
least_one (Some x) None z h = inl h
least_one (Some x) (Some y) z h = go (either_min x y)
  where
    go : (min x y ≡ x) ⊎ (min x y ≡ y) → (Some x ≡ Some z) ⊎ (Some y ≡ Some z)
    go (inl q) = inl (ap Some (sym q) ∙ h)
    go (inr q) = inr (ap Some (sym q) ∙ h)

least_left : (a b : Option ℕ) (z : ℕ) → a ≡ Some z → (y : ℕ) × (least a b ≡ Some y) × (y ≤ z)
least_left a b z e = subst (λ o. (y : ℕ) × (least o b ≡ Some y) × (y ≤ z)) (sym e) (go b)
  where
    go : (b : Option ℕ) → (y : ℕ) × (least (Some z) b ≡ Some y) × (y ≤ z)
    go None = (z, refl, omega arith)
    go (Some x) = (min z x, refl, omega arith)

least_right : (a b : Option ℕ) (z x : ℕ) → b ≡ Some x → x ≤ z → (y : ℕ) × (least a b ≡ Some y) × (y ≤ z)
least_right a b z x e l = subst (λ o. (y : ℕ) × (least a o ≡ Some y) × (y ≤ z)) (sym e) (go a)
  where
    go : (a : Option ℕ) → (y : ℕ) × (least a (Some x) ≡ Some y) × (y ≤ z)
    go None = (x, refl, l)
    go (Some y) = (min y x, refl, omega (arith, l))

-- it is pending
least_pends : {X : Type 0} (f : Trees (Option X)) (z : ℕ) → IsDistinct f → least_pending f ≡ Some z → pends f z ≡ true
least_pends bare z d h = absurd (cc)
least_pends {X} (tree i o k r) z d h = go (least_pends k z d.3) (least_pends r z d.4) (least_one (own_pending i o) (least (least_pending k) (least_pending r)) z h)
  where
    in_of : {E : Type 0} (w : Trees (Option E)) (y : ℕ) → pends w y ≡ true → has w y ≡ true
    in_of w y p = by_go (has w y) (λ q. q) (λ q. absurd (false≢true (sym (ap pends_at (node_none w y q)) ∙ p)))

    inner : pends k z ≡ true → pends (tree i o k r) z ≡ true
    inner p =
        let t : has k z ≡ true = in_of k z p in
        let no : eqb i z ≡ false = false_from_ne_true (eqb i z) (λ g. grind (arith, g, eqb_tells i z, d.0, t)) in
        rw (no, t) p

    later : pends r z ≡ true → pends (tree i o k r) z ≡ true
    later p =
        let t : has r z ≡ true = in_of r z p in
        let no : eqb i z ≡ false = false_from_ne_true (eqb i z) (λ g. grind (arith, g, eqb_tells i z, d.1, t)) in
        let out : has k z ≡ false = false_from_ne_true (has k z) (λ g. false≢true (sym (d.2.apart z g) ∙ t)) in
        rw (no, out) p

    below_it : (least_pending k ≡ Some z → pends k z ≡ true) → (least_pending r ≡ Some z → pends r z ≡ true)
        → (least_pending k ≡ Some z) ⊎ (least_pending r ≡ Some z) → pends (tree i o k r) z ≡ true
    below_it a b (inl e) = inner (a e)
    below_it a b (inr e) = later (b e)

    go : (least_pending k ≡ Some z → pends k z ≡ true) → (least_pending r ≡ Some z → pends r z ≡ true)
        → (own_pending i o ≡ Some z) ⊎ (least (least_pending k) (least_pending r) ≡ Some z) → pends (tree i o k r) z ≡ true
    go a b (inl e) = let w = own_is i z o e in let self : eqb i z ≡ true = grind (arith, eqb_tells i z, w.0) in rw self w.1
    go a b (inr e) = below_it a b (least_one (least_pending k) (least_pending r) z e)

-- and no pending id is less
pends_least : {X : Type 0} (f : Trees (Option X)) (z : ℕ) → pends f z ≡ true → (y : ℕ) × (least_pending f ≡ Some y) × (y ≤ z)
pends_least bare z p = absurd (false≢true p)
pends_least {X} (tree i o k r) z p =
    by_go (eqb i z)
    (λ q. let own : is_none o ≡ true = rw q at p in
    least_left (own_pending i o) (least (least_pending k) (least_pending r)) z (owned o own ∙ ap Some (eqb-true i z q)))
    (λ q. by_go (has k z)
    (λ t. let w = pends_least k z (rw (q, t) at p) in
    let v = least_left (least_pending k) (least_pending r) w.0 w.1 in
    let lower = w.2 in let low = v.2 in
    least_right (own_pending i o) (least (least_pending k) (least_pending r)) z v.0 v.1 (omega (arith, lower, low)))
    (λ t. let w = pends_least r z (rw (q, t) at p) in
    let v = least_right (least_pending k) (least_pending r) z w.0 w.1 w.2 in
    least_right (own_pending i o) (least (least_pending k) (least_pending r)) z v.0 v.1 v.2))
  where
    owned : (o : Option X) → is_none o ≡ true → own_pending i o ≡ Some i
    owned None h = refl
    owned (Some x) h = absurd (false≢true h)

least-same : {X : Type 0} (f k : Trees (Option X)) → IsDistinct f → IsDistinct k → ((z : ℕ) → pends f z ≡ pends k z) → least_pending f ≡ least_pending k
least-same {X} f k df dk h = go (least_pending f) (least_pending k) refl refl
  where
    go : (a b : Option ℕ) → least_pending f ≡ a → least_pending k ≡ b → least_pending f ≡ least_pending k
    go None None p q = p ∙ sym q
    go (Some x) None p q = let w = pends_least k x (sym (h x) ∙ least_pends f x df p) in absurd (let e : None ≡ Some w.0 = sym q ∙ w.1 in cc)
    go None (Some y) p q = let w = pends_least f y (h y ∙ least_pends k y dk q) in absurd (let e : None ≡ Some w.0 = sym p ∙ w.1 in cc)
    go (Some x) (Some y) p q =
        let w = pends_least k x (sym (h x) ∙ least_pends f x df p) in
        let v = pends_least f y (h y ∙ least_pends k y dk q) in
        let a : y ≡ w.0 = same_Some y w.0 (sym q ∙ w.1) in
        let b : x ≡ v.0 = same_Some x v.0 (sym p ∙ v.1) in
        let c = w.2 in let d = v.2 in
        p ∙ (ap Some (omega (arith, a, b, c, d)) ∙ sym q)

-- ---- the end of an update

completed-mapped : {X : Type 0} (b : X) (f : Trees (Option X)) → completed b f ≡ mapped (λ o. unwrap_or o b) f
completed-mapped b bare = refl
completed-mapped b (tree i o k r) = rw (completed-mapped b k, completed-mapped b r) refl

root_of-mapped : {X E : Type 0} (g : X → E) (f : Trees X) → root_of (mapped g f) ≡ root_of f
root_of-mapped g bare = refl
root_of-mapped g (tree i x k r) = refl

completed_shape : {X : Type 0} (b : X) (f k : Trees (Option X)) → SameShape f k → SameShape (completed b f) (completed b k)
completed_shape {X} b f k s =
    let g : Option X → X = λ o. unwrap_or o b in
    rw (completed-mapped b f, completed-mapped b k) record {
      held = λ z. has-mapped g f z ∙ (s.held z ∙ sym (has-mapped g k z));
      under = λ y z. root_under g f y z ∙ (s.under y z ∙ sym (root_under g k y z));
      root = root_of-mapped g f ∙ (s.root ∙ sym (root_of-mapped g k));
    }

-- as a relation of results
abbrev pub ShapesAgree : {X : Type 0} → Trees X → Trees X → Type 0
ShapesAgree f k = SameShape f k

abbrev ended : {X : Type 0} → Option ℕ → ℕ → Trees X → Result (Trees X) Refusal
ended p h made = refuse_or Pending p (cond (leb h 256) (Ok made) (Err (TooDeep h)))

ended_same : {X : Type 0} (p : Option ℕ) (h : ℕ) (v w : Trees X) → SameShape v w → SameResult ShapesAgree (ended p h v) (ended p h w)
ended_same {X} p h v w s = refuse_same ShapesAgree Pending p (cond (leb h 256) (Ok v) (Err (TooDeep h))) (cond (leb h 256) (Ok w) (Err (TooDeep h))) (go (leb h 256))
  where
    go : (b : Bool) → SameResult ShapesAgree (cond b (Ok v) (Err (TooDeep h))) (cond b (Ok w) (Err (TooDeep h)))
    go true = s
    go false = refl

finished_alike : {X : Type 0} (b : X) (f k : Trees (Option X)) → Alike f k → SameResult ShapesAgree (finished b f) (finished b k)
finished_alike {X} b f k a =
    let same : SameShape f k = alike_shape f k a in
    subst (λ p. SameResult ShapesAgree (ended (least_pending f) (height f) (completed b f)) (ended p (height k) (completed b k)))
    (least-same f k a.left.distinct a.right.distinct (λ z. (a.at z).pends))
    (subst (λ h. SameResult ShapesAgree (ended (least_pending f) (height f) (completed b f)) (ended (least_pending f) h (completed b k)))
    (height-same f k a.left a.right same)
    (ended_same (least_pending f) (height f) (completed b f) (completed b k) (completed_shape b f k same)))

-- ---- the start of an update

single_draft : {X : Type 0} (w : Trees X) → IsSingle w → IsSingle (draft_of w)
single_draft bare h = tt
single_draft (tree i x k r) h = ap draft_of h

root_of-draft : {X : Type 0} (w : Trees X) → root_of (draft_of w) ≡ root_of w
root_of-draft bare = refl
root_of-draft (tree i x k r) = refl

draft_pends : {X : Type 0} (w : Trees X) (z : ℕ) → pends (draft_of w) z ≡ false
draft_pends bare z = refl
draft_pends (tree i x k r) z =
    by_go (eqb i z) (λ q. rw q refl) (λ q. by_go (has (draft_of k) z) (λ p. rw (q, p) (draft_pends k z)) (λ p. rw (q, p) (draft_pends r z)))

child-draft : {X : Type 0} (w : Trees X) (y z : ℕ) → has_root (below (draft_of w) y) z ≡ has_root (below w y) z
child-draft w y z = ap (λ v. has_root v z) (below-draft w y) ∙ has_root-draft (below w y) z

draft_alike : {X : Type 0} (f k : Trees X) → IsTree f → IsTree k → SameShape f k → Alike (draft_of f) (draft_of k)
draft_alike f k tf tk s = record {
  left = record { one_root = single_draft f tf.one_root; distinct = distinct-draft f tf.distinct };
  right = record { one_root = single_draft k tk.one_root; distinct = distinct-draft k tk.distinct };
  root = root_of-draft f ∙ (s.root ∙ sym (root_of-draft k));
  at = λ z. record {
    there = sym (has-node (draft_of f) z) ∙ (has-draft f z ∙ (s.held z ∙ (sym (has-draft k z) ∙ has-node (draft_of k) z)));
    lists = λ y. sym (child_listed (draft_of f) z y) ∙ (child-draft f z y ∙ (s.under z y ∙ (sym (child-draft k z y) ∙ child_listed (draft_of k) z y)));
    pends = draft_pends f z ∙ sym (draft_pends k z);
  };
}

cleared_alike : {X : Type 0} (c : Option ℕ) (f k : Trees (Option X)) → Alike f k → Alike (cleared c f) (cleared c k)
cleared_alike None f k a = a
cleared_alike {X} (Some z) f k a =
    let same : SameShape f k = alike_shape f k a in
    by_go (has f z)
    (λ h. taken_alike f k (record { id = z; known = None; children = [] }) a h refl (λ y c. absurd (false≢true c)))
    (λ h. let ef : with_node f z None bare ≡ f = with_node_other f z None bare h in
    let ek : with_node k z None bare ≡ k = with_node_other k z None bare (sym (same.held z) ∙ h) in
    subst (λ v. Alike v (with_node k z None bare)) (sym ef) (subst (λ v. Alike f v) (sym ek) a))

is_root-same : {X E : Type 0} (f : Trees X) (k : Trees E) (r : ℕ) → root_of f ≡ root_of k → is_root f r ≡ is_root k r
is_root-same bare bare r e = refl
is_root-same bare (tree j y l q) r e = absurd (cc)
is_root-same (tree i x l q) bare r e = absurd (cc)
is_root-same (tree i x l q) (tree j y m p) r e = ap (λ v. eqb v r) (same_Some i j e)

alone_alike : {X : Type 0} (r : ℕ) → Alike {X = X} (tree r None bare bare) (tree r None bare bare)
alone_alike {X} r = record { left = one; right = one; root = refl; at = λ z. same_self (node_at (tree r None bare bare) z) }
  where
    one : IsTree {X = Option X} (tree r None bare bare)
    one = record { one_root = refl; distinct = (refl, refl, record { apart = λ z h. absurd (false≢true h) }, tt, tt) }

started_alike : {X : Type 0} (root clear : Option ℕ) (f k : Trees (Option X)) → Alike f k → Alike (started root clear f) (started root clear k)
started_alike None clear f k a = cleared_alike clear f k a
started_alike {X} (Some r) clear f k a =
    subst (λ b. Alike (cond (is_root f r) (cleared clear f) (tree r None bare bare)) (cond b (cleared clear k) (tree r None bare bare))) (is_root-same f k r a.root)
    (go (is_root f r))
  where
    go : (b : Bool) → Alike (cond b (cleared clear f) (tree r None bare bare)) (cond b (cleared clear k) (tree r None bare bare))
    go true = cleared_alike clear f k a
    go false = alone_alike r

missing-same : {X E : Type 0} (f : Trees X) (k : Trees E) (o : Option ℕ) → SameShape f k → missing f o ≡ missing k o
missing-same f k None s = refl
missing-same f k (Some z) s = ap (λ b. cond b None (Some z)) (s.held z)

-- ---- the whole update

trees_after_alike : {X : Type 0} (b : X) (u : Update X) (f k : Trees X) → IsTree f → IsTree k → SameShape f k → SameResult ShapesAgree (trees_after b u f) (trees_after b u k)
trees_after_alike {X} b u f k tf tk s =
    let ns : List (Node (Option X)) = map draft_node u.nodes in
    let fs : Trees (Option X) = started u.root u.clear (draft_of f) in
    let ks : Trees (Option X) = started u.root u.clear (draft_of k) in
    let rest : SameResult ShapesAgree (and_then (nodes_taken None (λ z. false) fs ns) (finished b)) (and_then (nodes_taken None (λ z. false) ks ns) (finished b)) =
    then_same Alike ShapesAgree (nodes_taken None (λ z. false) fs ns) (nodes_taken None (λ z. false) ks ns) (finished b) (finished b)
    (λ v w a. finished_alike b v w a)
    (nodes_alike ns fs ks (started_alike u.root u.clear (draft_of f) (draft_of k) (draft_alike f k tf tk s))) in
    subst (λ o. SameResult ShapesAgree (trees_after b u f) (refuse_or BadClear o (and_then (nodes_taken None (λ z. false) ks ns) (finished b)))) (missing-same f k u.clear s)
    (refuse_same ShapesAgree BadClear (missing f u.clear) (and_then (nodes_taken None (λ z. false) fs ns) (finished b)) (and_then (nodes_taken None (λ z. false) ks ns) (finished b)) rest)

pub applied_alike : (u : TreeUpdate) (r q : Tree) → IsWellFormed r → IsWellFormed q → SameShape r.trees q.trees → SameOutcome (applied u r) (applied u q)
applied_alike u r q tr tq s =
    go (trees_after blank_look (nodes_part u) r.trees) (trees_after blank_look (nodes_part u) q.trees) (trees_after_alike blank_look (nodes_part u) r.trees q.trees tr tq s)
  where
    go : (x y : Result (Trees Look) Refusal) → SameResult ShapesAgree x y
        → SameOutcome (and_then x (λ f. Ok (record { about = told u.tree_data r.about; trees = f }))) (and_then y (λ f. Ok (record { about = told u.tree_data q.about; trees = f })))
    go (Ok v) (Ok w) h = h
    go (Ok v) (Err e) h = absurd h
    go (Err e) (Ok w) h = absurd h
    go (Err e) (Err d) h = h
