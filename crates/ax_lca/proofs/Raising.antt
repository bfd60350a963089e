-- How the search for a closed id goes up.
use Rattle.std.proofs.Common.{ℕ, ◌≡◌, ◌<◌, ◌≤◌, ◌+◌, Bool, true, false, not, ◌||◌, ◌&&◌, eqb, List, [], ◌∷◌, drop, length, get_or, Option, Some, None, refl, sym, ap, subst, ◌∙◌, arith}
use Rattle.std.proofs.lemmas.Bool.{eqb-true, false_from_ne_true, false≢true}
use Rattle.std.proofs.lemmas.Bool.Decides.{eqb_tells}
use Rattle.std.proofs.lemmas.List.{drop_all}
use Rattle.ax_trees.specs.Trees.{Trees, bare, tree, has, has_root, roots, root_of, is_root, all_ids, IsDistinct, IsTree, IsSingle}
use Rattle.ax_trees.specs.Nodes.{below, chain, children, parent}
use Rattle.ax_trees.specs.Lists.{contains, last_that}
use Rattle.ax_trees.proofs.Trees.{by_go, below_trans, below_absent, root_in, not_both}
use Rattle.ax_trees.proofs.Lists.{same_bool}
use Rattle.ax_trees.proofs.Chains.{chain_of_root}
use Rattle.ax_views.proofs.Climbing.{IsAbove, is_above, none_over_top, root_from_none}
use Rattle.ax_tree.specs.SerialRule.{is_closed, lowest_closed}
use Rattle.ax_lca.specs.Closing.{is_at_or_over, fits_below, is_one, all_below_but, IsRaised}
use Rattle.ax_lca.proofs.Chains.{not_both_ways, over_same, chain_up, last_that-push}
use Rattle.ax_lca.proofs.Levels.{IsLevel, level_below, level_head, level_tail}
use Rattle.ax_client.proofs.Taking.{drop_at}

-- the climb from `from` has come to `at`, and the id stands below none before that
pub record IsClimbing {E : Type 0} (c : Trees E) (id from at : ℕ) : Type 0 where
  pub over : is_at_or_over c at from ≡ true
  pub held : has c at ≡ true
  pub passed : (y : ℕ) → is_at_or_over c y from ≡ true → has (below c y) id ≡ true → is_at_or_over c y at ≡ true

module _ {E : Type 0} (c : Trees E) (d : IsDistinct c) where
  pub over_self : (y : ℕ) → is_at_or_over c y y ≡ true
  over_self y = grind (arith, eqb_tells y y)

  pub over_trans : (x y z : ℕ) → is_at_or_over c x y ≡ true → is_at_or_over c y z ≡ true → is_at_or_over c x z ≡ true
  over_trans x y z a b = by_go (eqb x y)
      (λ q. subst (λ v. is_at_or_over c v z ≡ true) (sym (eqb-true x y q)) b)
      (λ q. by_go (eqb y z)
      (λ p. subst (λ v. is_at_or_over c x v ≡ true) (eqb-true y z p) a)
      (λ p. grind (arith, a, b, q, p, below_trans c x y z d)))

  -- two ids that stand at or over each other are the same
  pub over_both : (x y : ℕ) → is_at_or_over c x y ≡ true → is_at_or_over c y x ≡ true → eqb x y ≡ true
  over_both x y a b = by_go (eqb x y) (λ q. q) (λ q.
      let u : has (below c x) y ≡ true = grind (arith, a, q) in
      let v : has (below c y) x ≡ true = grind (arith, b, q, eqb_tells x y, eqb_tells y x) in
      absurd (not_both_ways c x y d u v))

  -- what stands below an id stands below all over that
  pub below_over : (x y z : ℕ) → is_at_or_over c x y ≡ true → has (below c y) z ≡ true → has (below c x) z ≡ true
  below_over x y z a b = by_go (eqb x y)
      (λ q. subst (λ v. has (below c v) z ≡ true) (sym (eqb-true x y q)) b)
      (λ q. grind (arith, a, b, q, below_trans c x y z d))

  pub held_over : (x y : ℕ) → is_at_or_over c x y ≡ true → has c y ≡ true → has c x ≡ true
  held_over x y a h = by_go (eqb x y)
      (λ q. subst (λ v. has c v ≡ true) (sym (eqb-true x y q)) h)
      (λ q. by_go (has c x) (λ t. t) (λ t. absurd (let n = below_absent c x t in let b : has (below c x) y ≡ true = grind (arith, a, q) in false≢true (ap (λ v. has v y) (sym n) ∙ b))))

  -- nothing needs to go up
  pub raised_none : (p from : ℕ) (test : ℕ → Bool) → ((y : ℕ) → is_at_or_over c y from ≡ true → (has c p ≡ true → is_at_or_over c y p ≡ true) → test y ≡ true) → IsRaised c p test from from
  raised_none p from test h = record { over = over_self from; lowest = λ y o g. h y o g ∙ sym o }

  -- one test after the other
  pub raised_both : (p q from mid up : ℕ) (test more : ℕ → Bool) → IsRaised c p test from mid → IsRaised c q more mid up
      → ((y : ℕ) → is_at_or_over c y from ≡ true → (has c p ≡ true → is_at_or_over c y p ≡ true) → test y ≡ true → has c q ≡ true → is_at_or_over c y q ≡ true)
      → IsRaised c p (λ y. test y && more y) from up
  raised_both p q from mid up test more a b h = record {
    over = over_trans up mid from b.over a.over;
    lowest = λ y o g. go y o g (test y) refl;
  }
    where
      go : (y : ℕ) → is_at_or_over c y from ≡ true → (has c p ≡ true → is_at_or_over c y p ≡ true) → (t : Bool) → test y ≡ t → (test y && more y) ≡ is_at_or_over c y up
      go y o g true e =
          let m : is_at_or_over c y mid ≡ true = sym (a.lowest y o g) ∙ e in
          rw e (b.lowest y m (h y o g e))
      go y o g false e =
          rw e (sym (false_from_ne_true (is_at_or_over c y up) (λ t. false≢true (sym e ∙ (a.lowest y o g ∙ over_trans y up mid t b.over)))))

  -- a test that says the same
  pub raised_as : (p from up : ℕ) (test other : ℕ → Bool) → IsRaised c p test from up → ((y : ℕ) → other y ≡ test y) → IsRaised c p other from up
  raised_as p from up test other a h = record { over = a.over; lowest = λ y o g. h y ∙ a.lowest y o g }

  -- ---- one id

  -- an id that is held and isn't the root stands below the root
  root_over : IsSingle c → (r z : ℕ) → has_root c r ≡ true → has c z ≡ true → is_root c z ≡ false → has (below c r) z ≡ true
  root_over s r z t h n = go c s t h n
    where
      go : (w : Trees E) → IsSingle w → has_root w r ≡ true → has w z ≡ true → is_root w z ≡ false → has (below w r) z ≡ true
      go bare s t h n = absurd (false≢true t)
      go (tree i x k (tree j y l q)) s t h n = absurd (cc s)
      go (tree i x k bare) s t h n = let i_r : eqb i r ≡ true = grind (arith, t) in rw i_r (grind (arith, h, n))

  pub no_top : IsSingle c → (at z : ℕ) → has c z ≡ true → is_root c z ≡ false → has c at ≡ true → parent c at ≡ None → has (below c at) z ≡ true
  no_top s at z h n there p = root_over s at z (root_from_none c at d there p) h n

  pub climb_starts : (id from : ℕ) → has c from ≡ true → IsClimbing c id from from
  climb_starts id from h = record { over = over_self from; held = h; passed = λ y o b. o }

  pub climb_goes_on : (id from at up : ℕ) → IsClimbing c id from at → has (below c at) id ≡ false → parent c at ≡ Some up → IsClimbing c id from up
  climb_goes_on id from at up k n p =
      let a : IsAbove c at up = is_above c at up d p in
      let step : is_at_or_over c up at ≡ true = let b : has (below c up) at ≡ true = root_in (below c up) at a.child in grind (arith, b) in
      record {
        over = over_trans up at from step k.over;
        held = a.up;
        passed = λ y o b.
            let at_over : is_at_or_over c y at ≡ true = k.passed y o b in
            let other : eqb y at ≡ false = false_from_ne_true (eqb y at) (λ q. false≢true (sym n ∙ subst (λ v. has (below c v) id ≡ true) (eqb-true y at q) b)) in
            let under : has (below c y) at ≡ true = grind (arith, at_over, other) in
            let or : (eqb up y || has (below c y) up) ≡ true = sym (a.under y) ∙ under in
            grind (arith, or, eqb_tells up y, eqb_tells y up);
      }

  pub climb_ends : (id from at : ℕ) → IsClimbing c id from at → has (below c at) id ≡ true → IsRaised c from (λ y. has (below c y) id) from at
  climb_ends id from at k h = record {
    over = k.over;
    lowest = λ y o g. same_bool (has (below c y) id) (is_at_or_over c y at) (λ b. k.passed y o b) (λ b. below_over y at id b h);
  }

  -- an id that isn't held, and one whose parent is the same, fit
  pub fits_absent : (p id from : ℕ) → has c id ≡ false → IsRaised c p (λ y. fits_below c y id) from from
  fits_absent p id from n = raised_none p from (λ y. fits_below c y id) (λ y o g. rw n refl)

  pub fits_parent : (p id from : ℕ) → parent c id ≡ Some p → IsRaised c p (λ y. fits_below c y id) from from
  fits_parent p id from e =
      let a : IsAbove c id p = is_above c id p d e in
      raised_none p from (λ y. fits_below c y id) (λ y o g.
      let b : has (below c y) id ≡ true = below_over y p id (g a.up) (root_in (below c p) id a.child) in
      rw b (or_true (not (has c id))))
    where
      or_true : (b : Bool) → (b || true) ≡ true
      or_true true = refl
      or_true false = refl

  pub fits_raised : (p id from up : ℕ) → has c id ≡ true → IsRaised c from (λ y. has (below c y) id) from up → IsRaised c p (λ y. fits_below c y id) from up
  fits_raised p id from up h a = record { over = a.over; lowest = λ y o g. rw h (a.lowest y o (λ _. o)) }

-- ---- the children of a node

pub one_is : (o : Option ℕ) (z : ℕ) → is_one o z ≡ true → ◌≡◌ {A = Option ℕ} o (Some z)
one_is None z h = absurd (false≢true h)
one_is (Some y) z h = ap (λ v. Some v) (eqb-true y z h)

all_but_none : {X E : Type 0} (c : Trees E) (y : ℕ) (w : Trees X) → all_below_but c y None w ≡ all_ids (fits_below c y) w
all_but_none c y bare = refl
all_but_none c y (tree i x k r) = rw (all_but_none c y r) (assoc (fits_below c y i) (all_ids (fits_below c y) k) (all_ids (fits_below c y) r))
  where
    assoc : (a b e : Bool) → ((a && b) && e) ≡ (a && (b && e))
    assoc true b e = refl
    assoc false b e = refl

pub closed_is : {X E : Type 0} (c : Trees E) (f : Trees X) (y : ℕ) → all_below_but c y None (below f y) ≡ is_closed c f y
closed_is c f y = all_but_none c y (below f y)

-- an id is closed where the search doesn't leave it
pub closed_same : {X E : Type 0} (c : Trees E) (f : Trees X) → IsDistinct c → (x up : ℕ) → IsRaised c x (λ y. all_below_but c y None (below f x)) x up → eqb up x ≡ is_closed c f x
closed_same c f d x up a =
    same_bool (eqb up x) (is_closed c f x)
    (λ q. sym (closed_is c f x) ∙ (at ∙ subst (λ v. is_at_or_over c x v ≡ true) (sym (eqb-true up x q)) (over_self c d x)))
    (λ q. over_both c d up x a.over (sym at ∙ (closed_is c f x ∙ q)))
  where
    at : all_below_but c x None (below f x) ≡ is_at_or_over c x up
    at = a.lowest x (over_self c d x) (λ _. over_self c d x)

-- the children before i are done
pub record IsWidening {X E : Type 0} (c : Trees E) (f : Trees X) (id : ℕ) (seen : Option ℕ) (ids : List ℕ) (i from at : ℕ) : Type 0 where
  pub rest : Trees X
  pub level : IsLevel f rest
  pub tops : roots rest ≡ drop i ids
  pub done : ℕ → Bool
  pub split : (y : ℕ) → all_below_but c y seen (below f id) ≡ (done y && all_below_but c y seen rest)
  pub raised : IsRaised c id done from at

module _ {X E : Type 0} (c : Trees E) (f : Trees X) (d : IsDistinct c) (df : IsDistinct f) where
  pub widening_starts : (id : ℕ) (seen : Option ℕ) (ids : List ℕ) (from : ℕ) → ids ≡ children f id → IsWidening c f id seen ids 0 from from
  widening_starts id seen ids from e = record {
    rest = below f id;
    level = level_below f id df;
    tops = sym e;
    done = λ y. true;
    split = λ y. refl;
    raised = raised_none c d id from (λ y. true) (λ y o g. refl);
  }

  pub widening_ends : (id : ℕ) (seen : Option ℕ) (ids : List ℕ) (i from at : ℕ) → IsWidening c f id seen ids i from at → length ids ≤ i
      → IsRaised c id (λ y. all_below_but c y seen (below f id)) from at
  widening_ends id seen ids i from at w low = raised_as c d id from at w.done (λ y. all_below_but c y seen (below f id)) w.raised
      (λ y. w.split y ∙ go y w.rest (w.tops ∙ drop_all i ids low))
    where
      go : (y : ℕ) (r : Trees X) → roots r ≡ [] → (w.done y && all_below_but c y seen r) ≡ w.done y
      go y bare h = and_true (w.done y)
        where
          and_true : (b : Bool) → (b && true) ≡ b
          and_true true = refl
          and_true false = refl
      go y (tree j x k r) h = absurd (cc)

  pub widening_none : (id : ℕ) (seen : Option ℕ) (from : ℕ) → has f id ≡ false → IsRaised c id (λ y. all_below_but c y seen (below f id)) from from
  widening_none id seen from n = raised_none c d id from (λ y. all_below_but c y seen (below f id)) (λ y o g. rw (below_absent f id n) refl)

  -- the next child was seen before
  pub widening_skips : (id : ℕ) (seen : Option ℕ) (ids : List ℕ) (i z from at : ℕ) → IsWidening c f id seen ids i from at → i < length ids → z ≡ get_or ids i z → is_one seen z ≡ true
      → IsWidening c f id seen ids (i + 1) from at
  widening_skips id seen ids i z from at w low is one = go w.rest w.level (w.tops ∙ drop_at ids i z low is) w.split
    where
      go : (r : Trees X) → IsLevel f r → roots r ≡ z ∷ drop (i + 1) ids → ((y : ℕ) → all_below_but c y seen (below f id) ≡ (w.done y && all_below_but c y seen r)) → IsWidening c f id seen ids (i + 1) from at
      go bare l t s = absurd (cc)
      go (tree j x k r) l t s =
          let same : j ≡ z = cc in
          let tops : roots r ≡ drop (i + 1) ids = cc in
          let one_j : is_one seen j ≡ true = subst (λ v. is_one seen v ≡ true) (sym same) one in
          record {
            rest = r;
            level = level_tail f j x k r l;
            tops = tops;
            done = w.done;
            split = λ y. s y ∙ rw one_j refl;
            raised = w.raised;
          }

  -- the next child is looked at, and then all below it
  pub widening_goes_on : (id : ℕ) (seen : Option ℕ) (ids : List ℕ) (i z from at mid up : ℕ) → IsWidening c f id seen ids i from at → i < length ids → z ≡ get_or ids i z → is_one seen z ≡ false
      → IsRaised c id (λ y. fits_below c y z) at mid → IsRaised c z (λ y. all_below_but c y None (below f z)) mid up → IsWidening c f id seen ids (i + 1) from up
  widening_goes_on id seen ids i z from at mid up w low is one a b = go w.rest w.level (w.tops ∙ drop_at ids i z low is) w.split
    where
      -- below an id over `at`, what is over the parent stays so
      here : IsRaised c id (λ y. fits_below c y z && all_below_but c y None (below f z)) at up
      here = raised_both c d id z at mid up (λ y. fits_below c y z) (λ y. all_below_but c y None (below f z)) a b (λ y o g t h.
          let u : (not (has c z) || has (below c y) z) ≡ true = t in
          let v : has (below c y) z ≡ true = grind (arith, u, h) in
          grind (arith, v))

      whole : IsRaised c id (λ y. w.done y && (fits_below c y z && all_below_but c y None (below f z))) from up
      whole = raised_both c d id id from at up w.done (λ y. fits_below c y z && all_below_but c y None (below f z)) w.raised here (λ y o g t h. g h)

      go : (r : Trees X) → IsLevel f r → roots r ≡ z ∷ drop (i + 1) ids → ((y : ℕ) → all_below_but c y seen (below f id) ≡ (w.done y && all_below_but c y seen r)) → IsWidening c f id seen ids (i + 1) from up
      go bare l t s = absurd (cc)
      go (tree j x k r) l t s =
          let same : j ≡ z = cc in
          let tops : roots r ≡ drop (i + 1) ids = cc in
          let one_j : is_one seen j ≡ false = subst (λ v. is_one seen v ≡ false) (sym same) one in
          let inner : below f z ≡ k = subst (λ v. below f v ≡ k) same (level_head f j x k r l).1 in
          record {
            rest = r;
            level = level_tail f j x k r l;
            tops = tops;
            done = λ y. w.done y && (fits_below c y z && all_below_but c y None (below f z));
            split = λ y. s y ∙ rw one_j (ap (λ v. w.done y && ((fits_below c y v && all_ids (fits_below c y) k) && all_below_but c y seen r)) same
                ∙ ap (λ v. w.done y && ((fits_below c y z && v) && all_below_but c y seen r)) (sym (all_but_none c y k) ∙ ap (λ v. all_below_but c y None v) (sym inner))
                ∙ assoc (w.done y) (fits_below c y z && all_below_but c y None (below f z)) (all_below_but c y seen r));
            raised = whole;
          }
        where
          assoc : (p q e : Bool) → (p && (q && e)) ≡ ((p && q) && e)
          assoc true q e = refl
          assoc false q e = refl

-- the child that was seen, and the others
but_seen : {X E : Type 0} (c : Trees E) (f : Trees X) (y seen : ℕ) (w : Trees X) → IsLevel f w → has_root w seen ≡ true
    → all_below_but c y None w ≡ (all_below_but c y (Some seen) w && (fits_below c y seen && all_below_but c y None (below f seen)))
but_seen c f y seen bare l t = absurd (false≢true t)
but_seen {X} {E} c f y seen (tree i x k r) l t =
    by_go (eqb seen i)
    (λ q. let at : seen ≡ i = eqb-true seen i q in
    let inner : below f seen ≡ k = ap (λ v. below f v) at ∙ (level_head f i x k r l).1 in
    let none : has_root r seen ≡ false = false_from_ne_true (has_root r seen) (λ g. false≢true (sym l.distinct.1 ∙ subst (λ v. has r v ≡ true) at (root_in r seen g))) in
    rw (q, inner, all_but_none c y k, without r none) (ap (λ v. (fits_below c y v && all_ids (fits_below c y) k) && all_below_but c y None r) (sym at) ∙ flip (fits_below c y seen && all_ids (fits_below c y) k) (all_below_but c y None r)))
    (λ q. rw (q, but_seen c f y seen r (level_tail f i x k r l) (grind (arith, t, eqb_tells seen i, eqb_tells i seen, q)))
    (assoc (fits_below c y i && all_ids (fits_below c y) k) (all_below_but c y (Some seen) r) (fits_below c y seen && all_below_but c y None (below f seen))))
  where
    without : (w : Trees X) → has_root w seen ≡ false → all_below_but c y (Some seen) w ≡ all_below_but c y None w
    without bare n = refl
    without (tree j a b e) n =
        let no : eqb seen j ≡ false = grind (arith, n, eqb_tells seen j, eqb_tells j seen) in
        rw (no, without e (grind (arith, n))) refl

    flip : (a b : Bool) → (a && b) ≡ (b && a)
    flip true true = refl
    flip true false = refl
    flip false true = refl
    flip false false = refl

    assoc : (a b e : Bool) → (a && (b && e)) ≡ ((a && b) && e)
    assoc true b e = refl
    assoc false b e = refl

-- a child isn't the root
pub child_no_root : {X E : Type 0} (c : Trees E) (f : Trees X) (y z : ℕ) → IsTree f → root_of c ≡ root_of f → has_root (below f y) z ≡ true → is_root c z ≡ false
child_no_root c f y z tf e t = false_from_ne_true (is_root c z) (λ r.
    let a : root_of c ≡ Some z = root_from c z r in
    let b : has_root f z ≡ true = root_has f z (sym e ∙ a) in
    false≢true (sym (not_both f y z tf.distinct b) ∙ t))
  where
    root_from : {Y : Type 0} (w : Trees Y) (v : ℕ) → is_root w v ≡ true → root_of w ≡ Some v
    root_from bare v h = absurd (false≢true h)
    root_from (tree i x k r) v h = ap (λ j. Some j) (eqb-true i v h)

    root_has : {Y : Type 0} (w : Trees Y) (v : ℕ) → root_of w ≡ Some v → has_root w v ≡ true
    root_has bare v h = absurd (cc)
    root_has (tree i x k r) v h = let s : i ≡ v = cc in grind (arith, s, eqb_tells i v)

-- ---- up the chain

-- all below `seen` were seen: of the ids at or over it, those below which the client has all of them are those at or over `lowest`; nothing below it is closed
pub record IsSeeking {X E : Type 0} (c : Trees E) (f : Trees X) (x seen lowest : ℕ) : Type 0 where
  pub there : has f seen ≡ true
  pub same : chain c seen ≡ chain f seen
  pub over : is_at_or_over c lowest seen ≡ true
  pub all : (y : ℕ) → is_at_or_over c y seen ≡ true → all_below_but c y None (below f seen) ≡ is_at_or_over c y lowest
  pub none : (r : ℕ) → lowest_closed c f r x ≡ lowest_closed c f r seen

module _ {X E : Type 0} (c : Trees E) (f : Trees X) (tc : IsTree c) (tf : IsTree f) where
  pub seeking_starts : (x lowest : ℕ) → has f x ≡ true → chain c x ≡ chain f x → IsRaised c x (λ y. all_below_but c y None (below f x)) x lowest → IsSeeking c f x x lowest
  seeking_starts x lowest h e a = record { there = h; same = e; over = a.over; all = λ y o. a.lowest y o (λ _. o); none = λ r. refl }

  -- held, since the chain isn't empty
  pub held_by_chain : (z : ℕ) → has f z ≡ true → chain c z ≡ chain f z → has c z ≡ true
  held_by_chain z h e = by_go (has c z) (λ q. q) (λ q. absurd (false≢true (ap (λ zs. contains zs z) (sym (sym e ∙ absent c z q)) ∙ own f z tf.distinct h)))
    where
      absent : {Y : Type 0} (w : Trees Y) (y : ℕ) → has w y ≡ false → chain w y ≡ []
      absent bare y t = refl
      absent (tree i b k r) y t = grind (arith, t, absent k y, absent r y)

      own : {Y : Type 0} (w : Trees Y) (y : ℕ) → IsDistinct w → has w y ≡ true → contains (chain w y) y ≡ true
      own bare y d g = g
      own (tree i b k r) y d g = by_go (eqb i y)
          (λ t. rw t (grind (arith, t)))
          (λ t. by_go (has k y)
          (λ u. rw (t, u) (grind (arith, own k y d.3 u)))
          (λ u. rw (t, u) (own r y d.4 (grind (arith, g, t, u)))))

  pub seeking_held : (x seen lowest : ℕ) → IsSeeking c f x seen lowest → has c lowest ≡ true
  seeking_held x seen lowest s = held_over c tc.distinct lowest seen s.over (held_by_chain seen s.there s.same)

  -- the chain of an id ends with it
  chain_last : (z : ℕ) → has f z ≡ true → (p : ℕ → Bool) (r : ℕ) → p z ≡ true → last_that p (chain f z) r ≡ z
  chain_last z h p r t = go (parent f z) refl
    where
      go : (o : Option ℕ) → parent f z ≡ o → last_that p (chain f z) r ≡ z
      go (Some y) q = ap (λ zs. last_that p zs r) (is_above f z y tf.distinct q).on ∙ (last_that-push p (chain f y) z r ∙ rw t refl)
      go None q = ap (λ zs. last_that p zs r) (chain_of_root f z tf.distinct (root_from_none f z tf.distinct h q)) ∙ rw t refl

  -- `seen` is closed
  pub seeking_ends : (x seen lowest : ℕ) → IsSeeking c f x seen lowest → eqb seen lowest ≡ true → (r : ℕ) → lowest ≡ lowest_closed c f r x
  seeking_ends x seen lowest s q r =
      let shut : is_closed c f seen ≡ true = sym (closed_is c f seen) ∙ (s.all seen (over_self c tc.distinct seen) ∙ (grind (arith, q))) in
      sym (s.none r ∙ (chain_last seen s.there (is_closed c f) r shut ∙ eqb-true seen lowest q))

  -- `seen` isn't closed
  not_closed : (x seen lowest : ℕ) → IsSeeking c f x seen lowest → eqb seen lowest ≡ false → is_closed c f seen ≡ false
  not_closed x seen lowest s n =
      sym (closed_is c f seen) ∙ (s.all seen (over_self c tc.distinct seen) ∙ false_from_ne_true (is_at_or_over c seen lowest) (λ o. false≢true (sym n ∙ over_both c tc.distinct seen lowest o s.over)))

  pub seeking_top : (x seen lowest : ℕ) → IsSeeking c f x seen lowest → eqb seen lowest ≡ false → parent f seen ≡ None → ⊥
  seeking_top x seen lowest s n p =
      let b : has (below c lowest) seen ≡ true = grind (arith, s.over, n, eqb_tells seen lowest, eqb_tells lowest seen) in
      false≢true (sym (none_over_top f lowest seen tf.distinct p) ∙ over_same c f lowest seen tc tf s.same b)

  -- one step up: the other children of `above` were looked at too
  pub seeking_goes_on : (x seen lowest above up : ℕ) → IsSeeking c f x seen lowest → eqb seen lowest ≡ false → parent f seen ≡ Some above
      → IsRaised c above (λ y. all_below_but c y (Some seen) (below f above)) lowest up → IsSeeking c f x above up
  seeking_goes_on x seen lowest above up s n p a =
      let b : IsAbove f seen above = is_above f seen above tf.distinct p in
      let same : chain c above ≡ chain f above = chain_up c f seen above tc tf s.same p in
      let low : has (below c lowest) seen ≡ true = grind (arith, s.over, n, eqb_tells seen lowest, eqb_tells lowest seen) in
      let child : has (below c above) seen ≡ true = over_same f c above seen tf tc (sym s.same) (root_in (below f above) seen b.child) in
      let lowest_over : is_at_or_over c lowest above ≡ true = up_one lowest b same low in
      record {
        there = b.up;
        same = same;
        over = over_trans c tc.distinct up lowest above a.over lowest_over;
        all = λ y o.
            let under : has (below c y) seen ≡ true = below_over c tc.distinct y above seen o child in
            let seen_over : is_at_or_over c y seen ≡ true = grind (arith, under) in
            let whole : all_below_but c y None (below f above) ≡ (all_below_but c y (Some seen) (below f above) && is_at_or_over c y lowest) =
            but_seen c f y seen (below f above) (level_below f above tf.distinct) b.child ∙ ap (λ v. all_below_but c y (Some seen) (below f above) && v) (rw under (or_true (not (has c seen)) (all_below_but c y None (below f seen)) ∙ s.all y seen_over)) in
            whole ∙ by_go (is_at_or_over c y lowest)
            (λ q. rw q (and_true (all_below_but c y (Some seen) (below f above)) ∙ a.lowest y q (λ _. o)))
            (λ q. rw q (and_false (all_below_but c y (Some seen) (below f above)) ∙ sym (false_from_ne_true (is_at_or_over c y up) (λ g. false≢true (sym q ∙ over_trans c tc.distinct y up lowest g a.over)))));
        none = λ r. s.none r ∙ ap (λ zs. last_that (is_closed c f) zs r) b.on ∙ (last_that-push (is_closed c f) (chain f above) seen r ∙ rw (not_closed x seen lowest s n) refl);
      }
    where
      or_true : (b e : Bool) → ((b || true) && e) ≡ e
      or_true true e = refl
      or_true false e = refl

      and_true : (b : Bool) → (b && true) ≡ b
      and_true true = refl
      and_true false = refl

      and_false : (b : Bool) → (b && false) ≡ false
      and_false true = refl
      and_false false = refl

      -- what stands over `seen` stands at or over its parent
      up_one : (y : ℕ) → IsAbove f seen above → chain c above ≡ chain f above → has (below c y) seen ≡ true → is_at_or_over c y above ≡ true
      up_one y b same h =
          let g : (eqb above y || has (below f y) above) ≡ true = sym (b.under y) ∙ over_same c f y seen tc tf s.same h in
          by_go (eqb above y)
          (λ q. grind (arith, q, eqb_tells above y, eqb_tells y above))
          (λ q. let h' : has (below c y) above ≡ true = over_same f c y above tf tc (sym same) (grind (arith, g, q)) in grind (arith, h'))
