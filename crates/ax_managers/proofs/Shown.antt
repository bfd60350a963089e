-- What the managers keep, and what contracts see of it.
use Rattle.std.proofs.Common.{length, get_or, ◌≤◌, ℕ, zero, suc, ◌≡◌, Bool, true, false, cond, not, eqb, nat_eq, List, [], ◌∷◌, ◌++◌, map, Option, Some, None, refl, sym, ap, ap₂, subst, ◌∙◌, arith}
use Rattle.std.proofs.Math.ListN.{replicate}
use Rattle.std.specs.Prelude.{is_some}
use Rattle.std.specs.Map.{lookup}
use Rattle.std.specs.HashMap.{get}
use Rattle.std.specs.Ordering.{nat_cmp, eq_by_cmp}
use Rattle.std.specs.Cmp.{nat_cmp_total}
use Rattle.std.specs.FinMap as fin
use Rattle.std.specs.FinMap.Entries as entries
use Rattle.std.proofs.lemmas.Option.{same_Some}
use Rattle.std.proofs.lemmas.Bool.Decides.{eqb_tells, nat_tests}
use Rattle.std.proofs.lemmas.Bool.{eqb-true}
use Rattle.ax_trees.specs.Trees.{is_bare}
use Rattle.ax_trees.specs.Lists.{contains}
use Rattle.ax_trees.proofs.Trees.{by_go}
use Rattle.ax_trees.proofs.Lists.{contains_push}
use Rattle.ax_tree.specs.Tree.{Tree, empty}
use Rattle.ax_tree.specs.Forest.{Forest, first_tree, live_tree}
use Rattle.ax_order.specs.declared.marks.Branches.{Branches}
use Rattle.ax_order.specs.Marks.{is_marked}
use Rattle.ax_managers.specs.declared.gone.Gone.{Gone}
use Rattle.ax_managers.specs.declared.index.Index.{Index}
use Rattle.ax_managers.specs.Indexes.{IsOf}
use Rattle.ax_managers.specs.Managed.{LastTold, IsToldOf, IsTold, Tells}
use Rattle.ax_managers.specs.Telling.{AreOf, empty_forest}
use Rattle.ax_managers.specs.Watching.{IsWatching}
use Rattle.ax_managers.specs.Shown.{keyed, told_by, is_gone, told_at, shown, Agrees, AllAgree}

-- ---- what is watched

cmp_is : (a b : ℕ) → eq_by_cmp nat_cmp a b ≡ nat_eq a b
cmp_is a b = grind (arith, nat_tests, eqb_tells a b, eqb_tells b a)

module _ {X : Type 0} where
  find_lookup : (q : ℕ) (es : List (ℕ × X)) → entries.find nat_cmp q es ≡ lookup (nat_eq q) es
  find_lookup q [] = refl
  find_lookup q (e ∷ es) = ap (λ b. cond b (Some e.1) (entries.find nat_cmp q es)) (cmp_is q e.0) ∙ ap (cond (nat_eq q e.0) (Some e.1)) (find_lookup q es)

  made_get : (q : ℕ) (es : List (ℕ × X)) → fin.get (fin.from_entries {R = nat_cmp} es) q ≡ lookup (nat_eq q) es
  made_get q es = fin.get-from_entries nat_cmp_total es q ∙ find_lookup q es

lookup_keyed : (q : ℕ) (es : List (ℕ × Branches)) → is_some (lookup (nat_eq q) (map keyed es)) ≡ is_some (lookup (nat_eq q) es)
lookup_keyed q [] = refl
lookup_keyed q (e ∷ es) = by_go (nat_eq q e.0) (λ s. rw s refl) (λ s. rw s (lookup_keyed q es))

-- ids that are watched are the same by two tests that agree
watching_as : (n : Tree) (v w : ℕ → Bool) → ((z : ℕ) → v z ≡ w z) → IsWatching n v → IsWatching n w
watching_as n v w e k = record {
  well_formed = k.well_formed;
  there = λ z h. k.there z (e z ∙ h);
  upward = λ z y h p. sym (e y) ∙ k.upward z y (e z ∙ h) p;
  contested = λ z y u a b c. sym (e z) ∙ k.contested z y u a b c;
}

-- ---- a summary

module _ (n : Tree) (rooted : Bool) (parent : Option ℕ) (i : Index) where
  watched_is : (z : ℕ) → is_some (fin.get (told_by rooted parent i).watched z) ≡ is_marked (get nat_eq i.watched) z
  watched_is z = ap is_some (made_get z (map keyed i.watched.entries)) ∙ lookup_keyed z i.watched.entries

  -- its index is of the tree that it tells of
  pub index_of : IsToldOf n (told_by rooted parent i) → IsOf n i
  index_of k = record {
    names = k.names;
    firsts = k.firsts;
    watching = watching_as n (λ z. is_some (fin.get (told_by rooted parent i).watched z)) (is_marked (get nat_eq i.watched)) watched_is k.watching;
  }

  pub told_of : rooted ≡ not (is_bare n.trees) → parent ≡ n.about.parent → IsOf n i → IsToldOf n (told_by rooted parent i)
  told_of r p k = record {
    rooted = r;
    parent = p;
    names = k.names;
    firsts = k.firsts;
    watching = watching_as n (is_marked (get nat_eq i.watched)) (λ z. is_some (fin.get (told_by rooted parent i).watched z)) (λ z. sym (watched_is z)) k.watching;
  }

-- ---- what is told of all trees

-- no flag is set of a row of flags that aren't
pub none_flagged : (n i : ℕ) → get_or (replicate n false) i false ≡ false
none_flagged zero i = refl
none_flagged (suc n) zero = refl
none_flagged (suc n) (suc i) = none_flagged n i

turned : {A : Type 0} (b : Bool) (x y : A) → cond (not b) x y ≡ cond b y x
turned true x y = refl
turned false x y = refl

module _ (first : ℕ) (m : fin.FinMap nat_cmp LastTold) (gone : Gone) where
  shown_get : (t : ℕ) → fin.get (shown first m gone).trees t ≡ told_at m gone t
  shown_get t =
      fin.get-retain_keys m (λ x. not (is_gone gone x)) t (λ x e. ap (λ y. not (is_gone gone y)) (sym (fin.nat_cmp-IsAntisymmetric t x e)))
      ∙ turned (is_gone gone t) (fin.get m t) None

  pub are_of : (f : Forest) → Tells (shown first m gone) f → AreOf (told_at m gone) f
  are_of f t u = subst (λ x. IsTold x (live_tree f u)) (shown_get u) (t.trees u)

  pub tells : (f : Forest) → AreOf (told_at m gone) f → first_tree f ≡ Some first → Tells (shown first m gone) f
  tells f a h = record { first = h; trees = λ u. subst (λ x. IsTold x (live_tree f u)) (sym (shown_get u)) (a u) }

module _ (m : fin.FinMap nat_cmp LastTold) (gone : Gone) where
  -- something is told of no tree that is gone
  pub not_gone : (t : ℕ) (s : LastTold) → told_at m gone t ≡ Some s → is_gone gone t ≡ false
  not_gone t s e = by_go (is_gone gone t) (λ q. absurd (let no : ◌≡◌ {A = Option LastTold} None (Some s) = sym (ap (λ b. cond b None (fin.get m t)) q) ∙ e in cc)) (λ q. q)

  pub kept : (t : ℕ) (s : LastTold) → told_at m gone t ≡ Some s → fin.get m t ≡ Some s
  kept t s e = sym (ap (λ b. cond b None (fin.get m t)) (not_gone t s e)) ∙ e

  pub told_agree : AllAgree m → (t : ℕ) (s : LastTold) → told_at m gone t ≡ Some s → Agrees s
  told_agree a t s e = a t s (kept t s e)

module _ (m n : fin.FinMap nat_cmp LastTold) (t : ℕ) where
  -- one tree told anew
  pub told_retold : (gone : Gone) (s : LastTold) → is_gone gone t ≡ false → ((u : ℕ) → fin.get n u ≡ cond (eqb t u) (Some s) (fin.get m u)) → (u : ℕ) → told_at n gone u ≡ cond (eqb t u) (Some s) (told_at m gone u)
  told_retold gone s live puts u =
      by_go (eqb t u)
      (λ q. ap (λ b. cond b None (fin.get n u)) (ap (is_gone gone) (sym (eqb-true t u q)) ∙ live) ∙ (puts u ∙ (ap (λ b. cond b (Some s) (fin.get m u)) q ∙ sym (ap (λ b. cond b (Some s) (told_at m gone u)) q))))
      (λ q. ap (cond (is_gone gone u) None) (puts u ∙ ap (λ b. cond b (Some s) (fin.get m u)) q) ∙ sym (ap (λ b. cond b (Some s) (told_at m gone u)) q))

  -- one tree gone
  pub told_dropped : (before now : Gone) → ((u : ℕ) → is_gone now u ≡ cond (eqb t u) true (is_gone before u)) → ((u : ℕ) → eqb t u ≡ false → fin.get n u ≡ fin.get m u) → (u : ℕ) → told_at n now u ≡ cond (eqb t u) None (told_at m before u)
  told_dropped before now adds others u =
      by_go (eqb t u)
      (λ q. ap (λ b. cond b None (fin.get n u)) (adds u ∙ ap (λ b. cond b true (is_gone before u)) q) ∙ sym (ap (λ b. cond b None (told_at m before u)) q))
      (λ q. ap₂ (λ b o. cond b None o) (adds u ∙ ap (λ b. cond b true (is_gone before u)) q) (others u q) ∙ sym (ap (λ b. cond b None (told_at m before u)) q))

  pub agree_put : (s : LastTold) → AllAgree m → Agrees s → ((u : ℕ) → fin.get n u ≡ cond (eqb t u) (Some s) (fin.get m u)) → AllAgree n
  agree_put s a g puts u x e =
      by_go (eqb t u)
      (λ q. subst Agrees (same_Some s x (sym (puts u ∙ ap (λ b. cond b (Some s) (fin.get m u)) q) ∙ e)) g)
      (λ q. a u x (sym (puts u ∙ ap (λ b. cond b (Some s) (fin.get m u)) q) ∙ e))

  pub agree_out : AllAgree m → ((u : ℕ) → fin.get n u ≡ cond (eqb t u) None (fin.get m u)) → AllAgree n
  agree_out a outs u x e =
      by_go (eqb t u)
      (λ q. absurd (let no : ◌≡◌ {A = Option LastTold} None (Some x) = sym (outs u ∙ ap (λ b. cond b None (fin.get m u)) q) ∙ e in cc))
      (λ q. a u x (sym (outs u ∙ ap (λ b. cond b None (fin.get m u)) q) ∙ e))

-- nothing is told anew, since what was told is of the tree
pub still_told : (g : ℕ → Option LastTold) (t : ℕ) (s : LastTold) → g t ≡ Some s → (u : ℕ) → g u ≡ cond (eqb t u) (Some s) (g u)
still_told g t s e u = by_go (eqb t u)
    (λ q. ap g (sym (eqb-true t u q)) ∙ (e ∙ sym (ap (λ b. cond b (Some s) (g u)) q)))
    (λ q. sym (ap (λ b. cond b (Some s) (g u)) q))

-- ---- what is live

pub live_is : (o : Option LastTold) (n : Option Tree) → IsTold o n → is_some o ≡ is_some n
live_is None None h = refl
live_is (Some s) (Some m) h = refl
live_is None (Some m) h = absurd h
live_is (Some s) None h = absurd h

-- ---- empty trees

live_empty : (ts : List ℕ) (u : ℕ) → live_tree (empty_forest ts) u ≡ cond (contains ts u) (Some (empty u)) None
live_empty [] u = refl
live_empty (t ∷ ts) u = by_go (eqb t u) (λ q. rw q (ap (λ v. Some (empty v)) (eqb-true t u q))) (λ q. rw q (live_empty ts u))

pub told_empty : (g h : ℕ → Option LastTold) (ts : List ℕ) (t : ℕ) (s : LastTold) → AreOf g (empty_forest ts) → ((u : ℕ) → IsToldOf (empty u) s)
    → ((u : ℕ) → h u ≡ cond (eqb t u) (Some s) (g u)) → AreOf h (empty_forest (ts ++ t ∷ []))
told_empty g h ts t s at says e u =
    by_go (eqb t u)
    (λ q. subst (λ o. IsTold o (live_tree (empty_forest (ts ++ t ∷ [])) u)) (sym (e u ∙ ap (λ b. cond b (Some s) (g u)) q))
    (subst (IsTold (Some s)) (sym (live_empty (ts ++ t ∷ []) u ∙ ap (λ b. cond b (Some (empty u)) None) (contains_push ts t u ∙ ap (λ b. cond b true (contains ts u)) q))) (says u)))
    (λ q. subst (λ o. IsTold o (live_tree (empty_forest (ts ++ t ∷ [])) u)) (sym (e u ∙ ap (λ b. cond b (Some s) (g u)) q))
    (subst (IsTold (g u)) (live_empty ts u ∙ sym (live_empty (ts ++ t ∷ []) u ∙ ap (λ b. cond b (Some (empty u)) None) (contains_push ts t u ∙ ap (λ b. cond b true (contains ts u)) q))) (at u)))

-- the first tree of the empty forest
pub first_empty : (ts : List ℕ) (first : ℕ) → 1 ≤ length ts → first ≡ get_or ts 0 first → first_tree (empty_forest ts) ≡ Some first
first_empty [] first l e = absurd (omega arith)
first_empty (t ∷ ts) first l e = ap Some (sym e)
