-- Two trees that agree at some ids have these in the same pre-order, where with each of them all above it are among them.
use Rattle.std.proofs.Common.{ℕ, ◌≡◌, Bool, true, false, List, [], ◌∷◌, ◌++◌, Option, Some, refl, sym, ap, ap₂, ◌∙◌, subst, arith}
use Rattle.std.specs.Prelude.{filter}
use Rattle.std.proofs.lemmas.List.Elements.{filter-append}
use Rattle.ax_trees.specs.Trees.{Trees, bare, tree, has, ids, roots, root_of, IsDistinct, IsSingle, IsTree}
use Rattle.ax_trees.specs.Nodes.{node_at, parent}
use Rattle.ax_trees.proofs.Trees.{by_go}
use Rattle.ax_trees.proofs.Parents.{listed_children}
use Rattle.ax_views.proofs.Walking.{IsPart}
use Rattle.ax_order.proofs.Filters.{filter_in, filter_out}
use Rattle.ax_order.proofs.Nodes.{node_inner, node_later}
use Rattle.ax_order.proofs.Walks.{Upward, upward_none, upward_from, part_first}

pub single_roots : {X : Type 0} (f : Trees X) (r : ℕ) → IsSingle f → root_of f ≡ Some r → roots f ≡ r ∷ []
single_roots bare r s e = absurd (cc)
single_roots (tree j x k bare) r s e = let at : j ≡ r = cc in ap (λ y. y ∷ []) at
single_roots (tree j x k (tree y a l q)) r s e = absurd (cc)

module _ {X : Type 0} (f g : Trees X) (p : ℕ → Bool) (agree : (z : ℕ) → p z ≡ true → node_at f z ≡ node_at g z) where
  inner_part : (i : ℕ) (x : X) (k r h : Trees X) → IsPart (tree i x k r) h → IsPart k h
  inner_part i x k r h w = record {
    distinct = w.distinct.3;
    same = λ z s. sym (node_inner i x k r z w.distinct s) ∙ w.same z (grind (arith, s));
  }

  later_part : (i : ℕ) (x : X) (k r h : Trees X) → IsPart (tree i x k r) h → IsPart r h
  later_part i x k r h w = record {
    distinct = w.distinct.4;
    same = λ z s. sym (node_later i x k r z w.distinct s) ∙ w.same z (grind (arith, s));
  }

  filter_tree : (i : ℕ) (k r : List ℕ) → p i ≡ true → filter p (i ∷ (k ++ r)) ≡ i ∷ (filter p k ++ filter p r)
  filter_tree i k r h = filter_in p i (k ++ r) h ∙ ap (λ ys. i ∷ ys) (filter-append p k r)

  filter_late : (i : ℕ) (x : X) (k r : Trees X) → p i ≡ false → Upward p (p i) k → filter p (i ∷ (ids k ++ ids r)) ≡ filter p (ids r)
  filter_late i x k r h u =
      filter_out p i (ids k ++ ids r) h ∙ (filter-append p (ids k) (ids r) ∙ ap (λ ys. ys ++ filter p (ids r)) (upward_none p k (subst (λ b. Upward p b k) h u)))

  same_order : (a b : Trees X) → IsPart a f → IsPart b g → Upward p true a → Upward p true b → roots a ≡ roots b → filter p (ids a) ≡ filter p (ids b)
  same_order bare bare w v s t e = refl
  same_order bare (tree j y l q) w v s t e = absurd (cc)
  same_order (tree i x k r) bare w v s t e = absurd (cc)
  same_order (tree i x k r) (tree j y l q) w v s t e =
      let same : i ≡ j = cc in
      let rest : roots r ≡ roots q = cc in
      let others : filter p (ids r) ≡ filter p (ids q) = same_order r q (later_part i x k r f w) (later_part j y l q g v) s.2 t.2 rest in
      by_go (p i)
      (λ h. let h' : p j ≡ true = ap p (sym same) ∙ h in
      let kids : roots k ≡ roots l =
      sym (ap listed_children (part_first i x k r f w)) ∙ (ap listed_children (agree i h ∙ ap (node_at g) same) ∙ ap listed_children (part_first j y l q g v)) in
      let inner : filter p (ids k) ≡ filter p (ids l) =
      same_order k l (inner_part i x k r f w) (inner_part j y l q g v) (subst (λ b. Upward p b k) h s.1) (subst (λ b. Upward p b l) h' t.1) kids in
      filter_tree i (ids k) (ids r) h ∙ (ap₂ (λ c ys. c ∷ ys) same (ap₂ (λ ys zs. ys ++ zs) inner others) ∙ sym (filter_tree j (ids l) (ids q) h')))
      (λ h. let h' : p j ≡ false = ap p (sym same) ∙ h in filter_late i x k r h s.1 ∙ (others ∙ sym (filter_late j y l q h' t.1)))

  pub agreeing_order : IsDistinct f → IsDistinct g → roots f ≡ roots g → ((z y : ℕ) → p z ≡ true → parent f z ≡ Some y → p y ≡ true) → ((z y : ℕ) → p z ≡ true → parent g z ≡ Some y → p y ≡ true) → filter p (ids f) ≡ filter p (ids g)
  agreeing_order d c e u v =
      same_order f g (record { distinct = d; same = λ z h. refl }) (record { distinct = c; same = λ z h. refl })
      (upward_from p true f d u (λ z s h. refl)) (upward_from p true g c v (λ z s h. refl)) e
