-- The entries after a change of children keep the changed tree.
use Rattle.std.proofs.Common.{ℕ, ◌≡◌, Bool, true, false, cond, not, ◌&&◌, eqb, List, [], Option, Some, None, refl, sym, ap, subst, ◌∙◌, arith}
use Rattle.std.specs.Prelude.{option_map}
use Rattle.std.proofs.lemmas.Bool.{eqb-true, false_from_ne_true, false≢true}
use Rattle.std.proofs.lemmas.Bool.Decides.{eqb_tells}
use Rattle.ax_trees.specs.Trees.{bare, tree, has, has_root, roots, IsDistinct}
use Rattle.ax_trees.specs.Nodes.{Node, node_at, below, children, parent}
use Rattle.ax_trees.specs.Changes.{with_node}
use Rattle.ax_trees.specs.Lists.{contains}
use Rattle.ax_trees.specs.Spots.{spot}
use Rattle.ax_trees.proofs.Trees.{by_go, root_in, below_in, distinct_below, contains_roots, not_below_self, below_of_below}
use Rattle.ax_trees.proofs.Grown.{node_none, node_some}
use Rattle.ax_trees.proofs.Nodes.{node_below}
use Rattle.ax_trees.proofs.Parents.{listed_children, node_children, child_listed, parent_of_child, parent-same}
use Rattle.ax_trees.proofs.Changed.{has_with_node, has_with_node_in, below-with_node}
use Rattle.ax_tree.specs.UpdateRule.{only, arranged}
use Rattle.ax_tree.specs.Bundles.{Client}
use Rattle.ax_tree.specs.NodeSteps.{stepped}
use Rattle.ax_tree.proofs.NodeSteps.{stands_step, roots-arranged, only_root}
use Rattle.ax_client.specs.declared.held.Held.{Held}
use Rattle.ax_client.specs.Known.{entry_of}
use Rattle.ax_client.specs.Steps.{StandUnder, is_tied, is_under, tied, untied, unlisted, with_list, list_of}
use Rattle.ax_client.proofs.Taking.{Map}
use Rattle.ax_client.proofs.Arranging.{unlisted_below, kept_is, kept_there}

-- the entry of what stands at an id
abbrev pub entry_at : Client → ℕ → Option Held
entry_at f z = option_map (entry_of z) (spot f z)

pub entry_there : (f : Client) (z : ℕ) → has f z ≡ true → entry_at f z ≡ Some (record { above = parent f z; children = children f z })
entry_there f z h =
    let s = node_some f z h in
    let c : children f z ≡ s.0.children = node_children f z ∙ ap listed_children s.1 in
    rw s.1 (ap (λ js. Some (record { above = parent f z; children = js })) (sym c))

pub entry_none : (f : Client) (z : ℕ) → has f z ≡ false → entry_at f z ≡ None
entry_none f z h = rw (node_none f z h) refl

-- an entry from a node and the id above
entry_from : (f : Client) (z : ℕ) (a : Option ℕ) (n : Node (Unit {0})) → node_at f z ≡ Some n → parent f z ≡ a → entry_at f z ≡ Some (record { above = a; children = n.children })
entry_from f z a n h p = rw h (ap (λ o. Some (record { above = o; children = n.children })) p)

entry_gone : (f : Client) (z : ℕ) → node_at f z ≡ None → entry_at f z ≡ None
entry_gone f z h = rw h refl

self_under : (y : ℕ) → eqb y y ≡ true
self_under y = grind (arith, eqb_tells y y)

-- what the parts of the change make of the entries m0 of the tree f
pub record Changed (f : Client) (y : ℕ) (cs : List ℕ) (m0 m1 m2 m3 m4 m5 : Map) : Type 0 where
  pub first : (z : ℕ) → m0 z ≡ entry_at f z
  pub emptied : m1 y ≡ option_map (with_list []) (m0 y)
  pub emptied_else : (z : ℕ) → eqb y z ≡ false → m1 z ≡ m0 z
  pub loose : (z : ℕ) → m2 z ≡ cond (contains cs z) (option_map (untied y) (m1 z)) (m1 z)
  pub out : (z : ℕ) → m3 z ≡ cond (has (unlisted (below f y) cs) z) None (m2 z)
  pub bound : (z : ℕ) → m4 z ≡ cond (contains cs z) (Some (tied y (m3 z))) (m3 z)
  pub filled : m5 y ≡ option_map (with_list cs) (m4 y)
  pub filled_else : (z : ℕ) → eqb y z ≡ false → m5 z ≡ m4 z

module _ (f : Client) (y : ℕ) (cs : List ℕ) (d : IsDistinct f) (h : has f y ≡ true) where
  -- the children of y stand under it, and the entries have their child lists
  pub stand : (m0 m1 : Map) (old : List ℕ) → ((z : ℕ) → m0 z ≡ entry_at f z) → ((z : ℕ) → eqb y z ≡ false → m1 z ≡ m0 z) → old ≡ list_of [] (m0 y) → StandUnder m1 y (below f y) old
  stand m0 m1 old first else o = record {
    tops = sym (o ∙ ap (list_of []) (first y ∙ entry_there f y h));
    distinct = distinct_below f y d;
    lists = record { at = λ z g. ap (option_map (λ (e : Held). e.children)) (entry z g) ∙ ap (λ js. Some js) (same_list z g) };
    tie = λ z g. ap (is_tied y) (entry z (root_in (below f y) z g)) ∙ ap (is_under y) (parent_of_child f y z d g) ∙ self_under y;
  }
    where
      other : (z : ℕ) → has (below f y) z ≡ true → eqb y z ≡ false
      other z g = false_from_ne_true (eqb y z) (λ q. false≢true (sym (not_below_self f y d) ∙ subst (λ v. has (below f y) v ≡ true) (sym (eqb-true y z q)) g))

      entry : (z : ℕ) → has (below f y) z ≡ true → m1 z ≡ Some (record { above = parent f z; children = children f z })
      entry z g = else z (other z g) ∙ first z ∙ entry_there f z (below_in f y z g)

      same_list : (z : ℕ) → has (below f y) z ≡ true → children f z ≡ children (below f y) z
      same_list z g = node_children f z ∙ ap listed_children (sym (node_below f y z d g)) ∙ sym (node_children (below f y) z)

  abbrev new : Client
  new = with_node f y tt (arranged tt cs (below f y))

  abbrev kept : ℕ → Bool
  kept z = has (with_node f y tt (only (below f y) cs)) z

  abbrev self : Node (Unit {0})
  self = record { id = y; known = tt; children = cs }

  module _ (e : IsDistinct (with_node f y tt (arranged tt cs (below f y))))
      (good : (z : ℕ) → contains cs z ≡ true → has_root (below f y) z ≡ false → has (with_node f y tt (only (below f y) cs)) z ≡ false) where
    node_new : (z : ℕ) → node_at new z ≡ stepped tt (node_at f) self (has_root (below f y)) kept z
    node_new z = sym ((stands_step tt (node_at f) f self d (record { at = λ v. refl }) h good).at z)

    node_self : node_at new y ≡ Some self
    node_self = node_new y ∙ rw (self_under y) refl

    node_kept : (z : ℕ) → eqb y z ≡ false → (contains cs z && not (has_root (below f y) z)) ≡ false → kept z ≡ true → node_at new z ≡ node_at f z
    node_kept z q b k = node_new z ∙ rw (q, b, k) refl

    node_fresh : (z : ℕ) → eqb y z ≡ false → (contains cs z && not (has_root (below f y) z)) ≡ true → node_at new z ≡ Some (record { id = z; known = tt; children = [] })
    node_fresh z q b = node_new z ∙ rw (q, b) refl

    node_out : (z : ℕ) → eqb y z ≡ false → (contains cs z && not (has_root (below f y) z)) ≡ false → kept z ≡ false → node_at new z ≡ None
    node_out z q b k = node_new z ∙ rw (q, b, k) refl

    -- an old child that isn't listed doesn't stay
    child_goes : (z : ℕ) → has_root (below f y) z ≡ true → contains cs z ≡ false → kept z ≡ false
    child_goes z t c =
        kept_is f y tt cs z d h (below_in f y z (root_in (below f y) z t)) ∙ ap not (loose_root (below f y) t)
      where
        loose_root : (k : Client) → has_root k z ≡ true → has (unlisted k cs) z ≡ true
        loose_root bare g = g
        loose_root (tree i x k r) g = by_go (eqb i z)
            (λ q. let n : contains cs i ≡ false = subst (λ v. contains cs v ≡ false) (sym (eqb-true i z q)) c in rw n (grind (arith, q)))
            (λ q. grind (arith, g, q, loose_root r))

    -- nothing that stays stands under an id that doesn't
    none_under : (x z : ℕ) → kept x ≡ false → kept z ≡ true → has_root (below f x) z ≡ false
    none_under x z n k = false_from_ne_true (has_root (below f x) z) (λ t.
        let b : has (below f x) z ≡ true = root_in (below f x) z t in
        let hx : has f x ≡ true = has_of x z b in
        let u : has (unlisted (below f y) cs) x ≡ true = turned (has (unlisted (below f y) cs) x) (sym (kept_is f y tt cs x d h hx) ∙ n) in
        let under : has (below f y) x ≡ true = unlisted_has (below f y) x u in
        let v : has (unlisted (below f y) cs) z ≡ true = unlisted_below (below f y) cs x z (distinct_below f y d) u (same_below x z under b) in
        let out : kept z ≡ false = kept_is f y tt cs z d h (below_in f x z b) ∙ ap not v in
        false≢true (sym out ∙ k))
      where
        has_of : (x z : ℕ) → has (below f x) z ≡ true → has f x ≡ true
        has_of x z b = by_go (has f x) (λ q. q) (λ q. absurd (false≢true (ap (λ v. has v z) (sym (absent f x q)) ∙ b)))
          where
            absent : (w : Client) (x : ℕ) → has w x ≡ false → below w x ≡ bare
            absent bare x q = refl
            absent (tree i a k r) x q = grind (arith, q, absent k x, absent r x)

        turned : (b : Bool) → not b ≡ false → b ≡ true
        turned true p = refl
        turned false p = absurd (false≢true (sym p))

        unlisted_has : (k : Client) (x : ℕ) → has (unlisted k cs) x ≡ true → has k x ≡ true
        unlisted_has bare x g = g
        unlisted_has (tree i a k r) x g = grind (arith, g, unlisted_has r x)

        same_below : (x z : ℕ) → has (below f y) x ≡ true → has (below f x) z ≡ true → has (below (below f y) x) z ≡ true
        same_below x z u b = ap (λ v. has v z) (below_of_below f y x d u) ∙ b

    -- of what stays and isn't listed the parent is the old one
    parent_kept : (z : ℕ) → contains cs z ≡ false → kept z ≡ true → parent new z ≡ parent f z
    parent_kept z c k = parent-same f new z d e (λ x. by_go (eqb y x)
        (λ q. let at : y ≡ x = eqb-true y x q in
        subst (λ v. contains (listed_children (node_at new v)) z ≡ contains (listed_children (node_at f v)) z) at
        (ap (λ o. contains (listed_children o) z) node_self ∙ c
        ∙ sym (sym (child_listed f y z) ∙ false_from_ne_true (has_root (below f y) z) (λ t. false≢true (sym (child_goes z t c) ∙ k)))))
        (λ q. by_go (contains cs x && not (has_root (below f y) x))
        (λ b. ap (λ o. contains (listed_children o) z) (node_fresh x q b)
        ∙ sym (sym (child_listed f x z) ∙ none_under x z (good x (grind (arith, b)) (grind (arith, b))) k))
        (λ b. by_go (kept x)
        (λ kx. ap (λ o. contains (listed_children o) z) (node_kept x q b kx))
        (λ kx. ap (λ o. contains (listed_children o) z) (node_out x q b kx) ∙ sym (sym (child_listed f x z) ∙ none_under x z kx k)))))

    -- of what is listed it is y
    parent_listed : (z : ℕ) → contains cs z ≡ true → parent new z ≡ Some y
    parent_listed z c = parent_of_child new y z e (ap (λ v. has_root v z) (below-with_node f y tt (arranged tt cs (below f y)) h) ∙ sym (contains_roots (arranged tt cs (below f y)) z) ∙ ap (λ js. contains js z) (roots-arranged tt cs (below f y)) ∙ c)

    kept_self : kept y ≡ true
    kept_self = has_with_node f y tt (only (below f y) cs) h

    no_self : contains cs y ≡ false
    no_self = false_from_ne_true (contains cs y) (λ c. false≢true (sym (good y c (false_from_ne_true (has_root (below f y) y) (λ t. false≢true (sym (not_below_self f y d) ∙ root_in (below f y) y t)))) ∙ kept_self))

    module _ (m0 m1 m2 m3 m4 m5 : Map) (s : Changed f y cs m0 m1 m2 m3 m4 m5) where
      loose_none : (z : ℕ) → kept z ≡ true → has (unlisted (below f y) cs) z ≡ false
      loose_none z k = turned (has (unlisted (below f y) cs) z) (sym (kept_is f y tt cs z d h (kept_there f y tt cs z k)) ∙ k)
        where
          turned : (b : Bool) → not b ≡ true → b ≡ false
          turned true p = absurd (false≢true p)
          turned false p = refl

      -- what doesn't stay has no entry
      third_none : (z : ℕ) → kept z ≡ false → m3 z ≡ None
      third_none z k = s.out z ∙ by_go (has (unlisted (below f y) cs) z)
          (λ q. rw q refl)
          (λ q. rw q (s.loose z ∙ nothing (m1 z) (absent q)))
        where
          nothing : (o : Option Held) → ◌≡◌ {A = Option Held} o None → cond (contains cs z) (option_map (untied y) o) o ≡ None
          nothing o p = rw p (either (contains cs z))
            where
              either : (b : Bool) → ◌≡◌ {A = Option Held} (cond b None None) None
              either true = refl
              either false = refl

          absent : has (unlisted (below f y) cs) z ≡ false → m1 z ≡ None
          absent q =
              let n : has f z ≡ false = false_from_ne_true (has f z) (λ g. false≢true (sym k ∙ kept_is f y tt cs z d h g ∙ ap not q)) in
              let o : eqb y z ≡ false = false_from_ne_true (eqb y z) (λ p. false≢true (sym n ∙ subst (λ v. has f v ≡ true) (eqb-true y z p) h)) in
              s.emptied_else z o ∙ s.first z ∙ entry_none f z n

      old_entry : (z : ℕ) → eqb y z ≡ false → kept z ≡ true → m1 z ≡ Some (record { above = parent f z; children = children f z })
      old_entry z o k = s.emptied_else z o ∙ s.first z ∙ entry_there f z (kept_there f y tt cs z k)

      third_kept : (z : ℕ) → kept z ≡ true → m3 z ≡ m2 z
      third_kept z k = s.out z ∙ rw (loose_none z k) refl

      children_kept : (z : ℕ) (n : Node (Unit {0})) → node_at f z ≡ Some n → children f z ≡ n.children
      children_kept z n p = node_children f z ∙ ap listed_children p

      at_self : m5 y ≡ entry_at new y
      at_self =
          let first : m1 y ≡ Some (record { above = parent f y; children = [] }) = s.emptied ∙ ap (option_map (with_list [])) (s.first y ∙ entry_there f y h) in
          let fourth : m4 y ≡ m1 y = s.bound y ∙ rw no_self (third_kept y kept_self ∙ s.loose y ∙ rw no_self refl) in
          s.filled ∙ ap (option_map (with_list cs)) (fourth ∙ first) ∙ sym (entry_from new y (parent f y) self node_self (parent_kept y no_self kept_self))

      at_other : (z : ℕ) → eqb y z ≡ false → m4 z ≡ entry_at new z
      at_other z o = by_go (contains cs z)
          (λ c. by_go (has_root (below f y) z)
          (λ t. let k : kept z ≡ true = has_with_node_in f y tt (only (below f y) cs) z h (only_root (below f y) cs z c t) in
          let n = node_some f z (kept_there f y tt cs z k) in
          let two : m3 z ≡ Some (untied y (record { above = parent f z; children = children f z })) = third_kept z k ∙ s.loose z ∙ rw c (ap (option_map (untied y)) (old_entry z o k)) in
          s.bound z ∙ rw c (ap (λ v. Some (tied y v)) two ∙ ap (λ js. Some (record { above = Some y; children = js })) (children_kept z n.0 n.1))
          ∙ sym (entry_from new z (Some y) n.0 (node_kept z o (grind (arith, t)) k ∙ n.1) (parent_listed z c)))
          (λ t. s.bound z ∙ rw c (ap (λ v. Some (tied y v)) (third_none z (good z c t)))
          ∙ sym (entry_from new z (Some y) (record { id = z; known = tt; children = [] }) (node_fresh z o (grind (arith, c, t))) (parent_listed z c))))
          (λ c. by_go (kept z)
          (λ k. let n = node_some f z (kept_there f y tt cs z k) in
          s.bound z ∙ rw c (third_kept z k ∙ s.loose z ∙ rw c (old_entry z o k)) ∙ ap (λ js. Some (record { above = parent f z; children = js })) (children_kept z n.0 n.1)
          ∙ sym (entry_from new z (parent f z) n.0 (node_kept z o (grind (arith, c)) k ∙ n.1) (parent_kept z c k)))
          (λ k. s.bound z ∙ rw c (third_none z k) ∙ sym (entry_gone new z (node_out z o (grind (arith, c)) k))))

      -- each entry is that of the changed tree
      pub changed_at : (z : ℕ) → m5 z ≡ entry_at new z
      changed_at z = by_go (eqb y z)
          (λ q. subst (λ v. m5 v ≡ entry_at new v) (eqb-true y z q) at_self)
          (λ q. s.filled_else z q ∙ at_other z q)

-- ---- child lists

pub listed_is : (f : Client) (z : ℕ) (e : Held) (o : Option Held) → Some e ≡ o → o ≡ entry_at f z → e.children ≡ children f z
listed_is f z e o h k = by_go (has f z)
    (λ q. let s : ◌≡◌ {A = Option (List ℕ)} (Some e.children) (Some (children f z)) = ap (option_map (λ (x : Held). x.children)) (h ∙ k ∙ entry_there f z q) in cc)
    (λ q. absurd (let no : ◌≡◌ {A = Option Held} (Some e) None = h ∙ k ∙ entry_none f z q in cc))

below_absent : (f : Client) (z : ℕ) → has f z ≡ false → below f z ≡ bare
below_absent bare z h = refl
below_absent (tree i x k r) z h = grind (arith, h, below_absent k z, below_absent r z)

pub none_listed : (f : Client) (z : ℕ) (o : Option Held) → None ≡ o → o ≡ entry_at f z → [] ≡ children f z
none_listed f z o h k = by_go (has f z)
    (λ q. absurd (let no : ◌≡◌ {A = Option Held} None (Some (record { above = parent f z; children = children f z })) = h ∙ k ∙ entry_there f z q in cc))
    (λ q. ap roots (sym (below_absent f z q)))
