-- What is told of the trees of a forest says where each tree hangs.
use Rattle.std.proofs.Common.{ℕ, ◌≡◌, Bool, true, false, cond, not, ◌||◌, ◌&&◌, ◌==◌, eqb, [], ◌∷◌, map, Option, Some, None, refl, sym, ap, ap₂, subst, ◌∙◌, arith}
use Rattle.std.specs.Prelude.{option_map, option_and_then}
use Rattle.std.specs.List.{find}
use Rattle.std.specs.FinMap as fin
use Rattle.std.proofs.lemmas.Option.{same_Some}
use Rattle.std.proofs.lemmas.Bool.Decides.{eqb_tells}
use Rattle.std.proofs.lemmas.Bool.{eqb-true, false≢true}
use Rattle.ax_base.specs.declared.position.Place.{Place}
use Rattle.ax_node.specs.Look.{Look}
use Rattle.ax_trees.specs.Trees.{is_bare}
use Rattle.ax_trees.specs.Nodes.{Node}
use Rattle.ax_trees.specs.Lists.{is_nil}
use Rattle.ax_trees.proofs.Trees.{by_go}
use Rattle.ax_tree.specs.SerialRule.{all_of}
use Rattle.ax_tree.specs.Tree.{Tree}
use Rattle.ax_tree.specs.Forest.{Forest, Standing, first_tree, is_first, live_tree, names_child, host_in, host_of, hosted_by, is_place}
use Rattle.ax_managers.specs.Managed.{LastTold, IsToldOf, IsTold}
use Rattle.ax_managers.specs.Telling.{with_tree, retold, dropped, AreOf}
use Rattle.ax_managers.specs.Shown.{Agrees}
use Rattle.ax_managers.specs.Hanging.{host_place, told_host_in, told_host_under, told_host_of, told_host, where_hosted, told_hosted_in, told_hosted}

first_is : (f : Forest) (first t : ℕ) → first_tree f ≡ Some first → is_first f t ≡ (first == t)
first_is [] first t e = absurd (let no : ◌≡◌ {A = Option ℕ} None (Some first) = e in cc)
first_is (s ∷ ss) first t e = ap (λ i. i == t) (same_Some s.id first e)

module _ (g : ℕ → Option LastTold) (f : Forest) (first : ℕ) (agree : (t : ℕ) (s : LastTold) → g t ≡ Some s → Agrees s) (at : AreOf g f) (head : first_tree f ≡ Some first) where
  place_is : (p : ℕ) (t : ℕ) (m : Tree) (o : Option (Node Look)) → host_place p (option_map (λ (n : Node Look). n.id) o) ≡ option_map (λ (n : Node Look). record { tree = p; node = n.id }) o
  place_is p t m None = refl
  place_is p t m (Some n) = refl

  in_is : (p t : ℕ) (s : Option LastTold) (m : Option Tree) → IsTold s m → told_host_in s p t ≡ option_and_then (host_in t p) m
  in_is p t None None h = refl
  in_is p t (Some s) (Some m) h = ap (host_place p) (h.firsts t) ∙ place_is p t m (find (λ (n : Node Look). is_nil n.children && names_child t n.known) (all_of m.trees))
  in_is p t None (Some m) h = absurd h
  in_is p t (Some s) None h = absurd h

  under_is : (o : Option ℕ) (t : ℕ) → told_host_under g o t ≡ option_and_then (λ p. option_and_then (host_in t p) (live_tree f p)) o
  under_is None t = refl
  under_is (Some p) t = in_is p t (g p) (live_tree f p) (at p)

  two_tests : {A : Type 0} (b c : Bool) (x : Option A) → cond (not b) (cond c None x) None ≡ cond (b || c) None x
  two_tests true c x = refl
  two_tests false c x = refl

  of_is : (t : ℕ) (s : Option LastTold) (m : Option Tree) → IsTold s m
      → told_host_of g first t s ≡ option_and_then (λ (n : Tree). cond (is_bare n.trees || is_first f t) None (option_and_then (λ p. option_and_then (host_in t p) (live_tree f p)) n.about.parent)) m
  of_is t None None h = refl
  of_is t (Some s) (Some m) h =
      ap₂ (λ b o. cond b (cond (first == t) None (told_host_under g o t)) None) h.rooted h.parent
      ∙ (ap (λ x. cond (not (is_bare m.trees)) (cond (first == t) None x) None) (under_is m.about.parent t)
      ∙ (two_tests (is_bare m.trees) (first == t) (option_and_then (λ p. option_and_then (host_in t p) (live_tree f p)) m.about.parent)
      ∙ ap (λ b. cond (is_bare m.trees || b) None (option_and_then (λ p. option_and_then (host_in t p) (live_tree f p)) m.about.parent)) (sym (first_is f first t head))))
  of_is t None (Some m) h = absurd h
  of_is t (Some s) None h = absurd h

  pub host_is : (t : ℕ) → told_host g first t ≡ host_of f t
  host_is t = of_is t (g t) (live_tree f t) (at t)

  -- ---- the other way

  -- the node at which t hangs names it
  record Hosts (p : Place) (t : ℕ) : Type 0 where
    told : LastTold
    there : g p.tree ≡ Some told
    names : fin.get told.named p.node ≡ Some t

  hosts_in : (q t : ℕ) (p : Place) → told_host_in (g q) q t ≡ Some p → Hosts p t
  hosts_in q t p e = go (g q) refl e
    where
      place : (s : LastTold) → g q ≡ Some s → (o : Option ℕ) → fin.get s.hosts t ≡ o → host_place q o ≡ Some p → Hosts p t
      place s w None v i = absurd (let no : ◌≡◌ {A = Option Place} None (Some p) = i in cc)
      place s w (Some z) v i =
          let same : record { tree = q; node = z } ≡ p = same_Some _ p i in
          let tree : q ≡ p.tree = ap (λ (r : Place). r.tree) same in
          let node : z ≡ p.node = ap (λ (r : Place). r.node) same in
          record { told = s; there = ap g (sym tree) ∙ w; names = ap (fin.get s.named) (sym node) ∙ agree q s w t z v }

      go : (o : Option LastTold) → g q ≡ o → told_host_in o q t ≡ Some p → Hosts p t
      go None w i = absurd (let no : ◌≡◌ {A = Option Place} None (Some p) = i in cc)
      go (Some s) w i = place s w (fin.get s.hosts t) refl i

  hosts_under : (o : Option ℕ) (t : ℕ) (p : Place) → told_host_under g o t ≡ Some p → Hosts p t
  hosts_under None t p e = absurd (let no : ◌≡◌ {A = Option Place} None (Some p) = e in cc)
  hosts_under (Some q) t p e = hosts_in q t p e

  hosts_of : (t : ℕ) (p : Place) → told_host g first t ≡ Some p → Hosts p t
  hosts_of t p e = go (g t) e
    where
      tests : (b c : Bool) (o : Option ℕ) → cond b (cond c None (told_host_under g o t)) None ≡ Some p → Hosts p t
      tests true false o i = hosts_under o t p i
      tests true true o i = absurd (let no : ◌≡◌ {A = Option Place} None (Some p) = i in cc)
      tests false c o i = absurd (let no : ◌≡◌ {A = Option Place} None (Some p) = i in cc)

      go : (o : Option LastTold) → told_host_of g first t o ≡ Some p → Hosts p t
      go None i = absurd (let no : ◌≡◌ {A = Option Place} None (Some p) = i in cc)
      go (Some s) i = tests s.rooted (first == t) s.parent i

  at_place : (p : Place) (o : Option Place) → is_place p o ≡ true → o ≡ Some p
  at_place p None h = absurd (false≢true h)
  at_place p (Some q) h =
      let tree : p.tree ≡ q.tree = eqb-true p.tree q.tree (grind (arith, h)) in
      let node : p.node ≡ q.node = eqb-true p.node q.node (grind (arith, h)) in
      λ i. Some (record { tree = sym tree i; node = sym node i })

  -- where t is hosted, it is live, and the search through the forest finds a tree
  none_found : (h : Forest) (t : ℕ) (m : Tree) (test : ℕ → Bool) → find (λ (s : Standing). test s.id) h ≡ None → option_and_then (λ (s : Standing). s.tree) (find (λ (s : Standing). s.id == t) h) ≡ Some m → test t ≡ false
  none_found [] t m test e l = absurd (let no : ◌≡◌ {A = Option Tree} None (Some m) = l in cc)
  none_found (s ∷ ss) t m test e l =
      by_go (test s.id)
      (λ q. absurd (let no : ◌≡◌ {A = Option Standing} (Some s) None = rw q at e in cc))
      (λ q. by_go (eqb s.id t)
      (λ w. ap test (sym (eqb-true s.id t w)) ∙ q)
      (λ w. none_found ss t m test (rw q at e) (rw w at l)))

  found_passes : (h : Forest) (test : ℕ → Bool) (s : Standing) → find (λ (x : Standing). test x.id) h ≡ Some s → test s.id ≡ true
  found_passes [] test s e = absurd (let no : ◌≡◌ {A = Option Standing} None (Some s) = e in cc)
  found_passes (x ∷ xs) test s e =
      by_go (test x.id)
      (λ q. let e' : ◌≡◌ {A = Option Standing} (Some x) (Some s) = rw q at e in let same : x ≡ s = same_Some x s e' in ap (λ (y : Standing). test y.id) (sym same) ∙ q)
      (λ q. found_passes xs test s (rw q at e))

  live_hosted : (t : ℕ) (p : Place) → told_host g first t ≡ Some p → (m : Tree) × (live_tree f t ≡ Some m)
  live_hosted t p e = go (g t) (live_tree f t) (at t) refl e
    where
      go : (o : Option LastTold) (m : Option Tree) → IsTold o m → live_tree f t ≡ m → told_host_of g first t o ≡ Some p → (n : Tree) × (live_tree f t ≡ Some n)
      go None m h w i = absurd (let no : ◌≡◌ {A = Option Place} None (Some p) = i in cc)
      go (Some s) None h w i = absurd h
      go (Some s) (Some m) h w i = (m, w)

  pub hosted_is : (p : Place) → told_hosted g first p ≡ hosted_by f p
  hosted_is p = go (find (λ (s : Standing). is_place p (host_of f s.id)) f) refl
    where
      -- a tree that the summaries give is hosted there
      none_hosted : find (λ (s : Standing). is_place p (host_of f s.id)) f ≡ None → (o : Option LastTold) → told_hosted_in g first p o ≡ None
      none_hosted e None = refl
      none_hosted e (Some s) = named (fin.get s.named p.node)
        where
          named : (o : Option ℕ) → where_hosted g first p o ≡ None
          named None = refl
          named (Some t) =
              by_go (is_place p (told_host g first t))
              (λ q. let l = live_hosted t p (at_place p (told_host g first t) q) in
              absurd (false≢true (sym (none_found f t l.0 (λ u. is_place p (host_of f u)) e l.1) ∙ (ap (is_place p) (sym (host_is t)) ∙ q))))
              (λ q. ap (λ b. cond b (Some t) None) q)

      go : (o : Option Standing) → find (λ (s : Standing). is_place p (host_of f s.id)) f ≡ o → told_hosted g first p ≡ hosted_by f p
      go None e = none_hosted e (g p.tree) ∙ sym (ap (option_map (λ (s : Standing). s.id)) e)
      go (Some s) e =
          let on : is_place p (told_host g first s.id) ≡ true = ap (is_place p) (host_is s.id) ∙ found_passes f (λ u. is_place p (host_of f u)) s e in
          let h = hosts_of s.id p (at_place p (told_host g first s.id) on) in
          ap (told_hosted_in g first p) h.there ∙ (ap (where_hosted g first p) h.names ∙ (ap (λ b. cond b (Some s.id) None) on ∙ sym (ap (option_map (λ (x : Standing). x.id)) e)))

-- ---- one tree told anew

first_with : (t : ℕ) (o : Option Tree) (f : Forest) → first_tree (map (with_tree t o) f) ≡ first_tree f
first_with t o [] = refl
first_with t o (s ∷ ss) = by_go (eqb s.id t) (λ q. rw q refl) (λ q. rw q refl)

pub first_retold : (t : ℕ) (m : Tree) (f : Forest) → first_tree (retold t m f) ≡ first_tree f
first_retold t m f = first_with t (Some m) f

pub first_dropped : (t : ℕ) (f : Forest) → first_tree (dropped t f) ≡ first_tree f
first_dropped t f = first_with t None f

with_id : (t : ℕ) (o : Option Tree) (s : Standing) → (with_tree t o s).id ≡ s.id
with_id t o s = by_go (eqb s.id t) (λ q. rw q refl) (λ q. rw q refl)

-- another tree stays
live_other : (t : ℕ) (o : Option Tree) (f : Forest) (u : ℕ) → eqb t u ≡ false → live_tree (map (with_tree t o) f) u ≡ live_tree f u
live_other t o [] u h = refl
live_other t o (s ∷ ss) u h =
    by_go (eqb s.id u)
    (λ q. let no : eqb s.id t ≡ false = grind (arith, eqb_tells s.id u, eqb_tells t u, eqb_tells s.id t, q, h) in
    ap (λ x. live_tree (x ∷ map (with_tree t o) ss) u) (ap (λ b. cond b (record { id = s.id; tree = o }) s) no) ∙ rw q refl)
    (λ q. let no : eqb (with_tree t o s).id u ≡ false = ap (λ i. eqb i u) (with_id t o s) ∙ q in rw (no, q) (live_other t o ss u h))

-- the tree itself is told, where it was there
live_itself : (t : ℕ) (m : Tree) (f : Forest) (n : Tree) → live_tree f t ≡ Some n → live_tree (retold t m f) t ≡ Some m
live_itself t m [] n e = absurd (let no : ◌≡◌ {A = Option Tree} None (Some n) = e in cc)
live_itself t m (s ∷ ss) n e =
    by_go (eqb s.id t)
    (λ q. ap (λ x. live_tree (x ∷ map (with_tree t (Some m)) ss) t) (ap (λ b. cond b (record { id = s.id; tree = Some m }) s) q) ∙ rw q refl)
    (λ q. let no : eqb (with_tree t (Some m) s).id t ≡ false = ap (λ i. eqb i t) (with_id t (Some m) s) ∙ q in rw no (live_itself t m ss n (rw q at e)))

live_gone : (t : ℕ) (f : Forest) → live_tree (dropped t f) t ≡ None
live_gone t [] = refl
live_gone t (s ∷ ss) =
    by_go (eqb s.id t)
    (λ q. ap (λ x. live_tree (x ∷ map (with_tree t None) ss) t) (ap (λ b. cond b (record { id = s.id; tree = None }) s) q) ∙ rw q refl)
    (λ q. let no : eqb (with_tree t None s).id t ≡ false = ap (λ i. eqb i t) (with_id t None s) ∙ q in rw no (live_gone t ss))

module _ (g h : ℕ → Option LastTold) (f : Forest) (t : ℕ) (at : (u : ℕ) → IsTold (g u) (live_tree f u)) where
  pub stands_retold : (m n : Tree) (s : LastTold) → live_tree f t ≡ Some n → IsToldOf m s → ((u : ℕ) → h u ≡ cond (eqb t u) (Some s) (g u)) → (u : ℕ) → IsTold (h u) (live_tree (retold t m f) u)
  stands_retold m n s l says e u =
      by_go (eqb t u)
      (λ q. let same : t ≡ u = eqb-true t u q in
      subst (λ o. IsTold o (live_tree (retold t m f) u)) (sym (e u ∙ ap (λ b. cond b (Some s) (g u)) q))
      (subst (IsTold (Some s)) (sym (ap (live_tree (retold t m f)) (sym same) ∙ live_itself t m f n l)) says))
      (λ q. subst (λ o. IsTold o (live_tree (retold t m f) u)) (sym (e u ∙ ap (λ b. cond b (Some s) (g u)) q)) (subst (IsTold (g u)) (sym (live_other t (Some m) f u q)) (at u)))

  pub stands_dropped : ((u : ℕ) → h u ≡ cond (eqb t u) None (g u)) → (u : ℕ) → IsTold (h u) (live_tree (dropped t f) u)
  stands_dropped e u =
      by_go (eqb t u)
      (λ q. let same : t ≡ u = eqb-true t u q in
      subst (λ o. IsTold o (live_tree (dropped t f) u)) (sym (e u ∙ ap (λ b. cond b None (g u)) q))
      (subst (IsTold None) (sym (ap (live_tree (dropped t f)) (sym same) ∙ live_gone t f)) tt))
      (λ q. subst (λ o. IsTold o (live_tree (dropped t f) u)) (sym (e u ∙ ap (λ b. cond b None (g u)) q)) (subst (IsTold (g u)) (sym (live_other t None f u q)) (at u)))

  -- something was told of a live tree, and it is of it
  pub record There (n : Tree) : Type 0 where
    pub told : LastTold
    pub is : g t ≡ Some told
    pub of : IsToldOf n told

  pub told_there : (n : Tree) → live_tree f t ≡ Some n → There n
  told_there n l = go (g t) refl
    where
      go : (o : Option LastTold) → g t ≡ o → There n
      go None e = absurd (subst (IsTold None) l (subst (λ o. IsTold o (live_tree f t)) e (at t)))
      go (Some s) e = record { told = s; is = e; of = subst (IsTold (Some s)) l (subst (λ o. IsTold o (live_tree f t)) e (at t)) }
