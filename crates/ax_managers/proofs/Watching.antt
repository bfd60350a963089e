-- What stays as long as no watched id is touched: which node is the first to name a tree, and what is to be watched.
use Rattle.std.proofs.Common.{ℕ, ◌≡◌, Bool, true, false, eqb, nat_eq, length, List, [], ◌∷◌, Option, Some, None, refl, sym, ap, ◌∙◌, arith}
use Rattle.std.specs.Prelude.{filter, is_some}
use Rattle.std.specs.Map.{lookup}
use Rattle.std.specs.HashMap.{HashMap, get, hash_map_len}
use Rattle.std.proofs.lemmas.Option.{same_Some}
use Rattle.std.proofs.lemmas.Bool.{eqb-true, false≢true, false_from_ne_true}
use Rattle.ax_trees.specs.Trees.{Trees, bare, tree, has, ids, root_of, IsTree}
use Rattle.ax_trees.specs.Nodes.{node_at, below, children, parent}
use Rattle.ax_trees.specs.Lists.{contains, first_that}
use Rattle.ax_trees.proofs.Trees.{by_go, contains_roots, is_root_has_root, has_root_is_root}
use Rattle.ax_trees.proofs.Times.{contains-ids, has-node}
use Rattle.ax_trees.proofs.Parents.{listed_children, node_children, parent_of_child, child_of_parent}
use Rattle.ax_views.proofs.Climbing.{child_no_root, root_from_none}
use Rattle.ax_tree.specs.Tree.{Tree, empty}
use Rattle.ax_order.specs.declared.marks.Branches.{Branches}
use Rattle.ax_order.specs.Marks.{is_marked}
use Rattle.ax_order.specs.Touched.{NamesChanges}
use Rattle.ax_order.proofs.Nodes.{same_node}
use Rattle.ax_order.proofs.Agreeing.{agreeing_order, single_roots}
use Rattle.ax_managers.specs.Naming.{named_at, first_naming, is_id}
use Rattle.ax_managers.specs.Watching.{IsWatching, IsCalm}
use Rattle.ax_managers.proofs.Namings.{is_some_id, named_there, first_filter, first_passes, first_none, first_is}
use Rattle.ax_managers.proofs.Lists.{first_same}

none_rootless : {X : Type 0} (f : Trees X) (z : ℕ) → root_of f ≡ None → has f z ≡ true → ⊥
none_rootless bare z e h = false≢true h
none_rootless (tree i x k r) z e h = cc

-- a map without entries has no marks
lookup_none : {X : Type 0} (es : List (ℕ × X)) (z : ℕ) → length es ≡ 0 → lookup (nat_eq z) es ≡ None
lookup_none [] z e = refl
lookup_none (x ∷ es) z e = absurd (omega (arith, e))

pub none_watched : {S : Type 0} (m : HashMap ℕ Branches S) → hash_map_len m ≡ 0 → (z : ℕ) → is_marked (get nat_eq m) z ≡ false
none_watched m e z = ap is_some (lookup_none m.entries z e)

-- nothing is watched of a tree without nodes
pub watching_none : (t : ℕ) (w : ℕ → Bool) → ((z : ℕ) → w z ≡ false) → IsWatching (empty t) w
watching_none t w h = record {
  well_formed = record { one_root = tt; distinct = tt };
  there = λ z e. absurd (false≢true (sym (h z) ∙ e));
  upward = λ z y e p. absurd (false≢true (sym (h z) ∙ e));
  contested = λ z y u a b d. absurd (let no : ◌≡◌ {A = Option ℕ} None (Some u) = a in cc);
}

-- nothing is watched, or the root is and nothing watched is touched
pub calm_none : (m : Tree) (w : ℕ → Bool) (touched : List ℕ) → ((z : ℕ) → w z ≡ false) → IsCalm m w touched
calm_none m w touched h = record { untouched = λ z c. h z; root = λ r z e a. absurd (false≢true (sym (h z) ∙ a)) }

pub calm_rooted : (m : Tree) (w : ℕ → Bool) (touched : List ℕ) (r : ℕ) → root_of m.trees ≡ Some r → w r ≡ true → ((z : ℕ) → contains touched z ≡ true → w z ≡ false) → IsCalm m w touched
calm_rooted m w touched r e h u = record { untouched = u; root = λ s z i a. ap w (same_Some s r (sym i ∙ e)) ∙ h }

-- the tree n becomes m
module _ (n m : Tree) (w : ℕ → Bool) (touched : List ℕ) (k : IsWatching n w) (t : IsTree m.trees) (h : NamesChanges n m touched) (rests : IsCalm m w touched) where
  same : (z : ℕ) → w z ≡ true → node_at m.trees z ≡ node_at n.trees z
  same z a = same_node n m touched z h (false_from_ne_true (contains touched z) (λ c. false≢true (sym (rests.untouched z c) ∙ a)))

  there : (z : ℕ) → w z ≡ true → has m.trees z ≡ true
  there z a = has-node m.trees z ∙ (ap is_some (same z a) ∙ (sym (has-node n.trees z) ∙ k.there z a))

  kids : (y : ℕ) → w y ≡ true → children m.trees y ≡ children n.trees y
  kids y a = node_children m.trees y ∙ (ap listed_children (same y a) ∙ sym (node_children n.trees y))

  parent_stays : (z y : ℕ) → w z ≡ true → parent n.trees z ≡ Some y → parent m.trees z ≡ Some y
  parent_stays z y a p =
      parent_of_child m.trees y z t.distinct (sym (contains_roots (below m.trees y) z)
      ∙ (ap (λ xs. contains xs z) (kids y (k.upward z y a p)) ∙ (contains_roots (below n.trees y) z ∙ child_of_parent n.trees y z k.well_formed.distinct p)))

  -- the root of both
  record Root : Type 0 where
    id : ℕ
    before : root_of n.trees ≡ Some id
    now : root_of m.trees ≡ Some id

  was_root : (r : ℕ) → w r ≡ true → root_of m.trees ≡ Some r → (o : Option ℕ) → parent n.trees r ≡ o → root_of n.trees ≡ Some r
  was_root r b e None p = is_root_has_root n.trees r k.well_formed.one_root (root_from_none n.trees r k.well_formed.distinct (k.there r b) p)
  was_root r b e (Some y) p = absurd (false≢true (sym (child_no_root m.trees r y t.distinct (parent_stays r y b p)) ∙ has_root_is_root m.trees r e))

  root_stays : (z : ℕ) → w z ≡ true → Root
  root_stays z a = go (root_of m.trees) refl
    where
      go : (o : Option ℕ) → root_of m.trees ≡ o → Root
      go None e = absurd (none_rootless m.trees z e (there z a))
      go (Some r) e = let b = rests.root r z e a in record { id = r; before = was_root r b e (parent n.trees r) refl; now = e }

  upward : (z y : ℕ) → w z ≡ true → parent m.trees z ≡ Some y → w y ≡ true
  upward z y a p = go (parent n.trees z) refl
    where
      go : (o : Option ℕ) → parent n.trees z ≡ o → w y ≡ true
      go (Some x) q = let at : x ≡ y = same_Some x y (sym (parent_stays z x a q) ∙ p) in ap w (sym at) ∙ k.upward z x a q
      go None q =
          let r = root_stays z a in
          let top : root_of n.trees ≡ Some z = is_root_has_root n.trees z k.well_formed.one_root (root_from_none n.trees z k.well_formed.distinct (k.there z a) q) in
          let at : r.id ≡ z = same_Some r.id z (sym r.before ∙ top) in
          absurd (false≢true (sym (child_no_root m.trees z y t.distinct p) ∙ has_root_is_root m.trees z (r.now ∙ ap Some at)))

  order : (z : ℕ) → w z ≡ true → filter w (ids n.trees) ≡ filter w (ids m.trees)
  order z a =
      let r = root_stays z a in
      agreeing_order n.trees m.trees w (λ y b. sym (same y b)) k.well_formed.distinct t.distinct
      (single_roots n.trees r.id k.well_formed.one_root r.before ∙ sym (single_roots m.trees r.id t.one_root r.now)) k.upward upward

  module _ (names : (z : ℕ) → named_at n z ≡ named_at m z) where
    pub still_watching : IsWatching m w
    still_watching = record { well_formed = t; there = there; upward = upward; contested = λ z y u a b c. k.contested z y u (names z ∙ a) (names y ∙ b) c }

    module _ (u : ℕ) where
      abbrev test : ℕ → Bool
      test z = is_id (named_at m z) u

      passing : (z : ℕ) → test z ≡ true → named_at m z ≡ Some u
      passing z p = is_some_id (named_at m z) u p

      in_old : (z : ℕ) → test z ≡ true → contains (ids n.trees) z ≡ true
      in_old z p = contains-ids n.trees z ∙ named_there n z u (names z ∙ passing z p)

      in_new : (z : ℕ) → test z ≡ true → contains (ids m.trees) z ≡ true
      in_new z p = contains-ids m.trees z ∙ named_there m z u (passing z p)

      -- two nodes name it, so each that names it is watched
      all_watched : (z y : ℕ) → test z ≡ true → test y ≡ true → eqb z y ≡ false → (x : ℕ) → test x ≡ true → w x ≡ true
      all_watched z y p q c x s =
          by_go (eqb x z)
          (λ e. ap w (eqb-true x z e) ∙ k.contested z y u (names z ∙ passing z p) (names y ∙ passing y q) c)
          (λ e. k.contested x z u (names x ∙ passing x s) (names z ∙ passing z p) e)

      same_first : (z y : ℕ) → test z ≡ true → test y ≡ true → eqb z y ≡ false → first_that test (ids n.trees) ≡ first_that test (ids m.trees)
      same_first z y p q c =
          let all = all_watched z y p q c in
          sym (first_filter test w (ids n.trees) all) ∙ (ap (first_that test) (order z (all z p)) ∙ first_filter test w (ids m.trees) all)

      first_rests : first_that test (ids n.trees) ≡ first_that test (ids m.trees)
      first_rests = go (first_that test (ids n.trees)) refl (first_that test (ids m.trees)) refl
        where
          go : (o : Option ℕ) → first_that test (ids n.trees) ≡ o → (q : Option ℕ) → first_that test (ids m.trees) ≡ q → first_that test (ids n.trees) ≡ first_that test (ids m.trees)
          go None e None f = e ∙ sym f
          go None e (Some z) f = let p = first_passes test (ids m.trees) z f in absurd (false≢true (sym (first_none test (ids n.trees) z e (in_old z p.0)) ∙ p.0))
          go (Some z) e None f = let p = first_passes test (ids n.trees) z e in absurd (false≢true (sym (first_none test (ids m.trees) z f (in_new z p.0)) ∙ p.0))
          go (Some z) e (Some y) f =
              let p = first_passes test (ids n.trees) z e in
              let q = first_passes test (ids m.trees) y f in
              by_go (eqb z y) (λ c. e ∙ (ap Some (eqb-true z y c) ∙ sym f)) (λ c. same_first z y p.0 q.0 c)

      pub naming_rests : first_naming n u ≡ first_naming m u
      naming_rests =
          sym (first_is n u k.well_formed.distinct)
          ∙ (first_same (λ z. is_id (named_at n z) u) test (ids n.trees) (λ z _. ap (λ o. is_id o u) (names z)) ∙ (first_rests ∙ first_is m u t.distinct))
