-- What a walk that goes into marked branches alone has still to visit.
use Rattle.std.proofs.Common.{ℕ, ◌≡◌, ◌-◌, ◌<◌, Bool, true, false, cond, ◌||◌, eqb, List, [], ◌∷◌, ◌++◌, length, reverse, Option, Some, None, refl, sym, ap, ◌∙◌, subst, arith, append_assoc, length-append}
use Rattle.std.specs.Prelude.{filter, is_some}
use Rattle.std.proofs.lemmas.List.{append-nil, reverse-append, reverse-reverse}
use Rattle.std.proofs.lemmas.List.Elements.{filter-append}
use Rattle.std.proofs.lemmas.Bool.Decides.{eqb_tells}
use Rattle.std.proofs.lemmas.Bool.{false_from_ne_true, false≢true, eqb-true}
use Rattle.ax_trees.specs.Trees.{Trees, bare, tree, has, has_root, ids, roots, root_of, all_roots, IsDistinct, IsSingle, IsTree}
use Rattle.ax_trees.specs.Nodes.{node_at, below, children, parent}
use Rattle.ax_trees.specs.Lists.{contains}
use Rattle.ax_trees.proofs.Trees.{by_go, root_in, contains_roots, distinct_below, is_root_has_root}
use Rattle.ax_trees.proofs.Parents.{parent_of_child, child_of_parent, listed_children, node_children, roots_once}
use Rattle.ax_views.proofs.Climbing.{parent_there, child_no_root}
use Rattle.ax_views.proofs.Walking.{beside, roots-beside, ids-beside, has-beside, node_beside, distinct_beside, IsPart}
use Rattle.ax_order.specs.declared.marks.Branches.{Branches}
use Rattle.ax_order.specs.declared.marks.Branches.TheVariants.{One}
use Rattle.ax_order.specs.Marks.{is_marked, may_be, IsMarking}
use Rattle.ax_order.proofs.Filters.{filter_in, filter_out, filter_none, filter_one}

module _ {X : Type 0} where
  -- With an id its parent passes; and with a root, `up`.
  abbrev pub Upward : (ℕ → Bool) → Bool → Trees X → Type 0
  Upward p up bare = Unit {0}
  Upward p up (tree i x k r) = (p i ≡ true → up ≡ true) × Upward p (p i) k × Upward p up r

  -- the trees whose roots pass
  abbrev pub kept : (ℕ → Bool) → Trees X → Trees X
  kept p bare = bare
  kept p (tree i x k r) = cond (p i) (tree i x k (kept p r)) (kept p r)

  kept_in : (p : ℕ → Bool) (i : ℕ) (x : X) (k r : Trees X) → p i ≡ true → kept p (tree i x k r) ≡ tree i x k (kept p r)
  kept_in p i x k r h = rw h refl

  kept_out : (p : ℕ → Bool) (i : ℕ) (x : X) (k r : Trees X) → p i ≡ false → kept p (tree i x k r) ≡ kept p r
  kept_out p i x k r h = rw h refl

  -- ---- where no root passes, nothing does

  pub upward_none : (p : ℕ → Bool) (f : Trees X) → Upward p false f → filter p (ids f) ≡ []
  upward_none p bare u = refl
  upward_none p (tree i x k r) u =
      let no : p i ≡ false = false_from_ne_true (p i) (λ h. false≢true (u.0 h)) in
      let inner : filter p (ids k) ≡ [] = upward_none p k (subst (λ b. Upward p b k) no u.1) in
      filter_out p i (ids k ++ ids r) no ∙ (filter-append p (ids k) (ids r) ∙ (ap (λ ys. ys ++ filter p (ids r)) inner ∙ upward_none p r u.2))

  filter_kept : (p : ℕ → Bool) (up : Bool) (f : Trees X) → Upward p up f → filter p (ids (kept p f)) ≡ filter p (ids f)
  filter_kept p up bare u = refl
  filter_kept p up (tree i x k r) u =
      let rest : filter p (ids (kept p r)) ≡ filter p (ids r) = filter_kept p up r u.2 in
      by_go (p i)
      (λ h. ap (λ g. filter p (ids g)) (kept_in p i x k r h)
      ∙ (filter_in p i (ids k ++ ids (kept p r)) h
      ∙ (ap (λ ys. i ∷ ys) (filter-append p (ids k) (ids (kept p r)) ∙ (ap (λ ys. filter p (ids k) ++ ys) rest ∙ sym (filter-append p (ids k) (ids r))))
      ∙ sym (filter_in p i (ids k ++ ids r) h))))
      (λ h. ap (λ g. filter p (ids g)) (kept_out p i x k r h)
      ∙ (rest ∙ sym (filter_out p i (ids k ++ ids r) h
      ∙ (filter-append p (ids k) (ids r) ∙ ap (λ ys. ys ++ filter p (ids r)) (upward_none p k (subst (λ b. Upward p b k) h u.1))))))

  upward_kept : (p : ℕ → Bool) (f : Trees X) → Upward p true f → Upward p true (kept p f)
  upward_kept p bare u = tt
  upward_kept p (tree i x k r) u =
      by_go (p i)
      (λ h. subst (λ g. Upward p true g) (sym (kept_in p i x k r h)) ((λ _. refl), u.1, upward_kept p r u.2))
      (λ h. subst (λ g. Upward p true g) (sym (kept_out p i x k r h)) (upward_kept p r u.2))

  upward_beside : (p : ℕ → Bool) (f g : Trees X) → Upward p true f → Upward p true g → Upward p true (beside f g)
  upward_beside p bare g u v = v
  upward_beside p (tree i x k r) g u v = (u.0, u.1, upward_beside p r g u.2 v)

  pub upward_from : (p : ℕ → Bool) (up : Bool) (f : Trees X) → IsDistinct f → ((z y : ℕ) → p z ≡ true → parent f z ≡ Some y → p y ≡ true) → ((z : ℕ) → has_root f z ≡ true → p z ≡ true → up ≡ true) → Upward p up f
  upward_from p up bare d h t = tt
  upward_from p up (tree i x k r) d h t = (
    (λ g. t i (grind (arith, eqb_tells i i)) g),
    upward_from p (p i) k d.3
        (λ z y g e. let here : has k z ≡ true = parent_there k z y e in
        let no : has_root k z ≡ false = child_no_root k z y d.3 e in
        h z y g (rw (no, here) e))
        (λ z s g. h z i g (rw s refl)),
    upward_from p up r d.4
        (λ z y g e. let there : has r z ≡ true = parent_there r z y e in
        let none : has k z ≡ false = false_from_ne_true (has k z) (λ q. false≢true (sym (d.2.apart z q) ∙ there)) in
        let no : has_root k z ≡ false = false_from_ne_true (has_root k z) (λ q. false≢true (sym none ∙ root_in k z q)) in
        h z y g (rw (no, none) e))
        (λ z s g. t z (grind (arith, s)) g),
  )

  -- ---- the kept trees are a part

  has_kept : (p : ℕ → Bool) (f : Trees X) (z : ℕ) → has (kept p f) z ≡ true → has f z ≡ true
  has_kept p bare z h = h
  has_kept p (tree i x k r) z h =
      by_go (p i)
      (λ q. let h' : (eqb i z || (has k z || has (kept p r) z)) ≡ true = ap (λ g. has g z) (sym (kept_in p i x k r q)) ∙ h in grind (arith, h', has_kept p r z))
      (λ q. let h' : has (kept p r) z ≡ true = ap (λ g. has g z) (sym (kept_out p i x k r q)) ∙ h in grind (arith, has_kept p r z h'))

  distinct_kept : (p : ℕ → Bool) (f : Trees X) → IsDistinct f → IsDistinct (kept p f)
  distinct_kept p bare d = tt
  distinct_kept p (tree i x k r) d =
      by_go (p i)
      (λ q. subst IsDistinct (sym (kept_in p i x k r q)) (
        d.0,
        false_from_ne_true (has (kept p r) i) (λ g. false≢true (sym d.1 ∙ has_kept p r i g)),
        record { apart = λ z g. false_from_ne_true (has (kept p r) z) (λ s. false≢true (sym (d.2.apart z g) ∙ has_kept p r z s)) },
        d.3,
        distinct_kept p r d.4,
      ))
      (λ q. subst IsDistinct (sym (kept_out p i x k r q)) (distinct_kept p r d.4))

  node_kept : (p : ℕ → Bool) (f : Trees X) (z : ℕ) → IsDistinct f → has (kept p f) z ≡ true → node_at (kept p f) z ≡ node_at f z
  node_kept p bare z d h = refl
  node_kept p (tree i x k r) z d h =
      by_go (p i)
      (λ q. let h' : (eqb i z || (has k z || has (kept p r) z)) ≡ true = ap (λ g. has g z) (sym (kept_in p i x k r q)) ∙ h in
      ap (λ g. node_at g z) (kept_in p i x k r q)
      ∙ by_go (eqb i z) (λ s. rw s refl) (λ s. by_go (has k z) (λ t. rw (s, t) refl)
      (λ t. let late : has (kept p r) z ≡ true = grind (arith, h', s, t) in rw (s, t) (node_kept p r z d.4 late))))
      (λ q. let h' : has (kept p r) z ≡ true = ap (λ g. has g z) (sym (kept_out p i x k r q)) ∙ h in
      let there : has r z ≡ true = has_kept p r z h' in
      let s : eqb i z ≡ false = false_from_ne_true (eqb i z) (λ e. false≢true (sym d.1 ∙ ap (has r) (eqb-true i z e) ∙ there)) in
      let t : has k z ≡ false = false_from_ne_true (has k z) (λ e. false≢true (sym (d.2.apart z e) ∙ there)) in
      ap (λ g. node_at g z) (kept_out p i x k r q) ∙ (node_kept p r z d.4 h' ∙ rw (s, t) refl))

  roots_kept : (p : ℕ → Bool) (f : Trees X) → roots (kept p f) ≡ filter p (roots f)
  roots_kept p bare = refl
  roots_kept p (tree i x k r) =
      by_go (p i)
      (λ q. ap roots (kept_in p i x k r q) ∙ (ap (λ ys. i ∷ ys) (roots_kept p r) ∙ sym (filter_in p i (roots r) q)))
      (λ q. ap roots (kept_out p i x k r q) ∙ (roots_kept p r ∙ sym (filter_out p i (roots r) q)))

  tops_kept : (p : ℕ → Bool) (f : Trees X) → all_roots p (kept p f) ≡ true
  tops_kept p bare = refl
  tops_kept p (tree i x k r) =
      by_go (p i)
      (λ q. ap (all_roots p) (kept_in p i x k r q) ∙ rw (q, tops_kept p r) refl)
      (λ q. ap (all_roots p) (kept_out p i x k r q) ∙ tops_kept p r)

  tops_beside : (p : ℕ → Bool) (f g : Trees X) → all_roots p f ≡ true → all_roots p g ≡ true → all_roots p (beside f g) ≡ true
  tops_beside p bare g h t = t
  tops_beside p (tree i x k r) g h t = let later : all_roots p (beside r g) ≡ true = tops_beside p r g (grind (arith, h)) t in grind (arith, h, later)

  pub part_first : (i : ℕ) (x : X) (k r f : Trees X) → IsPart (tree i x k r) f → node_at f i ≡ Some (record { id = i; known = x; children = roots k })
  part_first i x k r f p = let self : eqb i i ≡ true = grind (arith, eqb_tells i i) in sym (p.same i (grind (arith, self))) ∙ (rw self refl)

  -- after its first node, a walk has those trees below it whose roots pass, and the others
  part_kept : (p : ℕ → Bool) (i : ℕ) (x : X) (k r f : Trees X) → IsPart (tree i x k r) f → IsPart (beside (kept p k) r) f
  part_kept p i x k r f w = record {
    distinct = distinct_beside (kept p k) r (distinct_kept p k w.distinct.3) w.distinct.4 (record { apart = λ z g. w.distinct.2.apart z (has_kept p k z g) });
    same = λ z h. node_beside (kept p k) r z ∙ by_go (has (kept p k) z)
        (λ q. let in' : has k z ≡ true = has_kept p k z q in
        let no : eqb i z ≡ false = false_from_ne_true (eqb i z) (λ e. false≢true (sym w.distinct.0 ∙ ap (has k) (eqb-true i z e) ∙ in')) in
        let at : node_at (tree i x k r) z ≡ node_at f z = w.same z (grind (arith, in')) in
        let at' : node_at k z ≡ node_at f z = rw (no, in') at at in
        rw q (node_kept p k z w.distinct.3 q ∙ at'))
        (λ q. let late : has r z ≡ true = grind (arith, has-beside (kept p k) r z, h, q) in
        let no : eqb i z ≡ false = false_from_ne_true (eqb i z) (λ e. false≢true (sym w.distinct.1 ∙ ap (has r) (eqb-true i z e) ∙ late)) in
        let none : has k z ≡ false = false_from_ne_true (has k z) (λ e. false≢true (sym (w.distinct.2.apart z e) ∙ late)) in
        let at : node_at (tree i x k r) z ≡ node_at f z = w.same z (grind (arith, late)) in
        let at' : node_at r z ≡ node_at f z = rw (no, none) at at in
        rw q at');
  }

-- ---- the walk

-- the trees that are still to be visited have their roots on the stack, the first on top
pub record MarksLeft {X : Type 0} (p : ℕ → Bool) (f : Trees X) (out stack : List ℕ) : Type 0 where
  pub left : Trees X
  pub part : IsPart left f
  pub top : roots left ≡ reverse stack
  pub tops : all_roots p left ≡ true
  pub upward : Upward p true left
  pub rest : out ++ filter p (ids left) ≡ filter p (ids f)

-- the first tree of what is left
pub record MarksNext {X : Type 0} (p : ℕ → Bool) (f : Trees X) (out stack : List ℕ) (next : ℕ) : Type 0 where
  pub known : X
  pub inner : Trees X
  pub others : Trees X
  pub part : IsPart (tree next known inner others) f
  pub top : roots others ≡ reverse stack
  pub tops : all_roots p (tree next known inner others) ≡ true
  pub upward : Upward p true (tree next known inner others)
  pub rest : out ++ filter p (ids (tree next known inner others)) ≡ filter p (ids f)

module _ {X : Type 0} (f : Trees X) (m : ℕ → Option Branches) where
  pub up_marked : IsMarking f m → (z y : ℕ) → is_marked m z ≡ true → parent f z ≡ Some y → is_marked m y ≡ true
  up_marked i z y g e = some_of (m y) (i.up z y g e)
    where
      some_of : (o : Option Branches) → may_be o z ≡ true → is_some o ≡ true
      some_of None h = h
      some_of (Some b) h = refl

  pub marks_begin : (root : ℕ) (out none stack : List ℕ) → IsTree f → IsMarking f m → root_of f ≡ Some root → is_marked m root ≡ true → out ≡ [] → none ≡ [] → stack ≡ none ++ root ∷ [] → MarksLeft (is_marked m) f out stack
  marks_begin root out none stack t i r h eo en es = record {
    left = f;
    part = record { distinct = t.distinct; same = λ z g. refl };
    top = one_root f t.one_root r ∙ sym (ap reverse (es ∙ ap (λ js. js ++ root ∷ []) en));
    tops = one_top f t.one_root r;
    upward = upward_from (is_marked m) true f t.distinct (up_marked i) (λ z s g. refl);
    rest = ap (λ js. js ++ filter (is_marked m) (ids f)) eo;
  }
    where
      one_root : (g : Trees X) → IsSingle g → root_of g ≡ Some root → roots g ≡ root ∷ []
      one_root bare s e = absurd (cc)
      one_root (tree j x k bare) s e = let at : j ≡ root = cc in ap (λ y. y ∷ []) at
      one_root (tree j x k (tree y a l q)) s e = absurd (cc)

      one_top : (g : Trees X) → IsSingle g → root_of g ≡ Some root → all_roots (is_marked m) g ≡ true
      one_top bare s e = absurd (cc)
      one_top (tree j x k bare) s e = let at : j ≡ root = cc in rw (at, h) refl
      one_top (tree j x k (tree y a l q)) s e = absurd (cc)

  -- the root isn't marked, or there is none
  pub none_in_order : IsTree f → IsMarking f m → ((z : ℕ) → root_of f ≡ Some z → is_marked m z ≡ false) → filter (is_marked m) (ids f) ≡ []
  none_in_order t i h = upward_none (is_marked m) f (upward_from (is_marked m) false f t.distinct (up_marked i) (λ z s g. sym (h z (is_root_has_root f z t.one_root s)) ∙ g))

module _ {X : Type 0} (p : ℕ → Bool) (f : Trees X) where
  pub marks_next : (out stack popped : List ℕ) (next : ℕ) → MarksLeft p f out stack → stack ≡ popped ++ next ∷ [] → MarksNext p f out popped next
  marks_next out stack popped next l e = go l.left l.part (l.top ∙ ap reverse e ∙ reverse-append popped (next ∷ [])) l.tops l.upward l.rest
    where
      go : (w : Trees X) → IsPart w f → roots w ≡ next ∷ reverse popped → all_roots p w ≡ true → Upward p true w → out ++ filter p (ids w) ≡ filter p (ids f) → MarksNext p f out popped next
      go bare w h t u r = absurd (cc)
      go (tree i x k o) w h t u r =
          let same : i ≡ next = cc in
          let top : roots o ≡ reverse popped = cc in
          let q = subst (λ j. IsPart (tree j x k o) f × (all_roots p (tree j x k o) ≡ true) × Upward p true (tree j x k o) × (out ++ filter p (ids (tree j x k o)) ≡ filter p (ids f))) same (w, t, u, r) in
          record { known = x; inner = k; others = o; part = q.0; top = top; tops = q.1; upward = q.2; rest = q.3 }

  marked_next : (out popped : List ℕ) (next : ℕ) → (w : MarksNext p f out popped next) → p next ≡ true
  marked_next out popped next w = let t = w.tops in grind (arith, t)

  rest_next : (out popped : List ℕ) (next : ℕ) → (w : MarksNext p f out popped next) → out ++ (next ∷ (filter p (ids w.inner) ++ filter p (ids w.others))) ≡ filter p (ids f)
  rest_next out popped next w =
      sym (ap (λ ys. out ++ ys) (filter_in p next (ids w.inner ++ ids w.others) (marked_next out popped next w) ∙ ap (λ ys. next ∷ ys) (filter-append p (ids w.inner) (ids w.others)))) ∙ w.rest

  next_children : (out popped : List ℕ) (next : ℕ) → (w : MarksNext p f out popped next) → children f next ≡ roots w.inner
  next_children out popped next w = node_children f next ∙ ap listed_children (part_first next w.known w.inner w.others f w.part)

  pub marks_go_on : (out popped stack out' : List ℕ) (next : ℕ) → MarksNext p f out popped next → out' ≡ out ++ next ∷ [] → stack ≡ popped ++ reverse (filter p (children f next)) → MarksLeft p f out' stack
  marks_go_on out popped stack out' next w eo es =
      let k = kept p w.inner in
      let inside : filter p (ids k) ≡ filter p (ids w.inner) = filter_kept p (p next) w.inner w.upward.1 in
      record {
        left = beside k w.others;
        part = part_kept p next w.known w.inner w.others f w.part;
        top = roots-beside k w.others ∙ (ap (λ js. js ++ roots w.others) (roots_kept p w.inner ∙ ap (filter p) (sym (next_children out popped next w)))
            ∙ (ap (λ js. filter p (children f next) ++ js) w.top
            ∙ sym (ap reverse es ∙ (reverse-append popped (reverse (filter p (children f next))) ∙ ap (λ js. js ++ reverse popped) (reverse-reverse (filter p (children f next)))))));
        tops = tops_beside p k w.others (tops_kept p w.inner) (let t = w.tops in grind (arith, t));
        upward = upward_beside p k w.others (upward_kept p w.inner (subst (λ b. Upward p b w.inner) (marked_next out popped next w) w.upward.1)) w.upward.2;
        rest = ap (λ js. out' ++ js) (ap (filter p) (ids-beside k w.others) ∙ (filter-append p (ids k) (ids w.others) ∙ ap (λ ys. ys ++ filter p (ids w.others)) inside))
            ∙ (ap (λ js. js ++ (filter p (ids w.inner) ++ filter p (ids w.others))) eo
            ∙ (append_assoc out (next ∷ []) (filter p (ids w.inner) ++ filter p (ids w.others)) ∙ rest_next out popped next w));
      }

  pub marks_fall : (out popped out' : List ℕ) (next : ℕ) → MarksNext p f out popped next → out' ≡ out ++ next ∷ [] → length (filter p (ids f)) - length out' < length (filter p (ids f)) - length out
  marks_fall out popped out' next w e =
      let a = ap length (rest_next out popped next w) in
      let b = ap length e in
      omega (arith, a, b, length-append out (next ∷ (filter p (ids w.inner) ++ filter p (ids w.others))), length-append out (next ∷ []))

  pub marks_end : (out stack : List ℕ) → MarksLeft p f out stack → stack ≡ [] → out ≡ filter p (ids f)
  marks_end out stack l e = go l.left (l.top ∙ ap reverse e) l.rest
    where
      go : (w : Trees X) → roots w ≡ [] → out ++ filter p (ids w) ≡ filter p (ids f) → out ≡ filter p (ids f)
      go bare h r = sym (append-nil out) ∙ r
      go (tree i x k o) h r = absurd (cc)

-- ---- the marked children of a node

module _ {X : Type 0} (f : Trees X) (m : ℕ → Option Branches) (id : ℕ) (d : IsDistinct f) (i : IsMarking f m) where
  may_child : (z : ℕ) → contains (children f id) z ≡ true → is_marked m z ≡ true → may_be (m id) z ≡ true
  may_child z c g = i.up z id g (parent_of_child f id z d (sym (contains_roots (below f id) z) ∙ c))

  pub no_branch : ((z : ℕ) → may_be (m id) z ≡ false) → filter (is_marked m) (children f id) ≡ []
  no_branch h = filter_none (is_marked m) (children f id) (λ z c. false_from_ne_true (is_marked m z) (λ g. false≢true (sym (h z) ∙ may_child z c g)))

  pub one_branch : (c : ℕ) → m id ≡ Some (One c) → filter (is_marked m) (children f id) ≡ c ∷ []
  one_branch c e =
      let own = i.one id c e in
      filter_one (is_marked m) c (children f id) (roots_once (below f id) (distinct_below f id d)) (contains_roots (below f id) c ∙ child_of_parent f id c d own.0) own.1
      (λ z g s. sym (ap (λ o. may_be o z) e) ∙ may_child z g s)
