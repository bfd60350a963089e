-- All nodes of a tree, and the nodes at its ids.
use Rattle.std.proofs.Common.{ℕ, ◌≡◌, Bool, true, false, ◌||◌, eqb, List, [], ◌∷◌, ◌++◌, Option, Some, None, flat_map, refl, sym, ap, ap₂, ◌∙◌, arith}
use Rattle.std.specs.Prelude.{option_map, filter}
use Rattle.std.specs.List.{list_any}
use Rattle.std.proofs.lemmas.Option.{same_Some}
use Rattle.std.proofs.lemmas.Bool.Decides.{eqb_tells}
use Rattle.std.proofs.lemmas.Bool.{false≢true}
use Rattle.std.proofs.lemmas.List.Concat.{flat_map-append}
use Rattle.ax_node.specs.Look.{Look}
use Rattle.ax_node.specs.declared.node.NodeData.{NodeData}
use Rattle.ax_trees.specs.Trees.{Trees, bare, tree, has, has_root, is_root, ids, roots, IsDistinct, IsSingle}
use Rattle.ax_trees.specs.Nodes.{Node, node_at}
use Rattle.ax_trees.specs.Lists.{contains}
use Rattle.ax_trees.proofs.Trees.{by_go}
use Rattle.ax_tree.specs.SerialRule.{all_of}
use Rattle.ax_tree.specs.Tree.{data_of, as_node}
use Rattle.ax_order.proofs.Nodes.{back, node_there, node_inner, node_later}

pub as_nodes : (o : Option NodeData) (p : Option (Node Look)) → o ≡ option_map data_of p → option_map as_node o ≡ p
as_nodes o p e = ap (option_map as_node) e ∙ back p

any-append : {A : Type 0} (p : A → Bool) (xs ys : List A) → list_any p (xs ++ ys) ≡ (list_any p xs || list_any p ys)
any-append p [] ys = refl
any-append p (x ∷ xs) ys = grind (arith, any-append p xs ys)

-- some node of the tree passes
pub record Passes {X : Type 0} (p : Node X → Bool) (f : Trees X) : Type 0 where
  pub one : Node X
  pub there : node_at f one.id ≡ Some one
  pub does : p one ≡ true

pub any_passes : {X : Type 0} (p : Node X → Bool) (f : Trees X) → IsDistinct f → list_any p (all_of f) ≡ true → Passes p f
any_passes p bare d h = absurd (false≢true h)
any_passes {X} p (tree i x k r) d h =
    let own : Node X = record { id = i; known = x; children = roots k } in
    by_go (p own)
    (λ q. record { one = own; there = let self : eqb i i ≡ true = grind (arith, eqb_tells i i) in rw self refl; does = q })
    (λ q. by_go (list_any p (all_of k))
    (λ s. let w = any_passes p k d.3 s in record { one = w.one; there = node_inner i x k r w.one.id d (node_there k w.one.id w.one w.there) ∙ w.there; does = w.does })
    (λ s. let late : list_any p (all_of r) ≡ true = grind (arith, h, q, s, any-append p (all_of k) (all_of r)) in
    let w = any_passes p r d.4 late in record { one = w.one; there = node_later i x k r w.one.id d (node_there r w.one.id w.one w.there) ∙ w.there; does = w.does }))

pub passes_any : {X : Type 0} (p : Node X → Bool) (f : Trees X) (z : ℕ) (n : Node X) → node_at f z ≡ Some n → p n ≡ true → list_any p (all_of f) ≡ true
passes_any {X} p bare z n e h = absurd (let no : ◌≡◌ {A = Option (Node X)} None (Some n) = e in cc)
passes_any {X} p (tree i x k r) z n e h =
    by_go (eqb i z)
    (λ q. let e' : ◌≡◌ {A = Option (Node X)} (Some (record { id = i; known = x; children = roots k })) (Some n) = rw q at e in
    let first : p (record { id = i; known = x; children = roots k }) ≡ true = ap p (same_Some _ _ e') ∙ h in rw first refl)
    (λ q. by_go (has k z)
    (λ s. let e' : node_at k z ≡ Some n = rw (q, s) at e in grind (arith, any-append p (all_of k) (all_of r), passes_any p k z n e' h))
    (λ s. let e' : node_at r z ≡ Some n = rw (q, s) at e in grind (arith, any-append p (all_of k) (all_of r), passes_any p r z n e' h)))

-- ---- what is listed node by node

abbrev pub at_some : {A B : Type 0} → (A → List B) → Option A → List B
at_some g None = []
at_some g (Some a) = g a

pub by_ids : {X B : Type 0} (g : Node X → List B) (m : ℕ → Option (Node X)) (f : Trees X) → IsDistinct f → ((z : ℕ) → has f z ≡ true → m z ≡ node_at f z)
    → flat_map (λ z. at_some g (m z)) (ids f) ≡ flat_map g (all_of f)
by_ids g m bare d h = refl
by_ids {X} g m (tree i x k r) d h =
    let self : eqb i i ≡ true = grind (arith, eqb_tells i i) in
    let at : m i ≡ Some (record { id = i; known = x; children = roots k }) = h i (rw self refl) ∙ rw self refl in
    let inner : flat_map (λ z. at_some g (m z)) (ids k) ≡ flat_map g (all_of k) = by_ids g m k d.3 (λ z t. h z (grind (arith, t)) ∙ node_inner i x k r z d t) in
    let later : flat_map (λ z. at_some g (m z)) (ids r) ≡ flat_map g (all_of r) = by_ids g m r d.4 (λ z t. h z (grind (arith, t)) ∙ node_later i x k r z d t) in
    ap₂ (λ (o : Option (Node X)) ns. at_some g o ++ ns) at
    (flat_map-append (λ z. at_some g (m z)) (ids k) (ids r) ∙ (ap₂ (λ xs ys. xs ++ ys) inner later ∙ sym (flat_map-append g (all_of k) (all_of r))))

-- those that tell nothing can be left out
pub without_quiet : {B : Type 0} (h : ℕ → List B) (p : ℕ → Bool) (xs : List ℕ) → ((z : ℕ) → contains xs z ≡ true → p z ≡ false → h z ≡ []) → flat_map h (filter p xs) ≡ flat_map h xs
without_quiet h p [] q = refl
without_quiet h p (x ∷ xs) q =
    let rest : flat_map h (filter p xs) ≡ flat_map h xs = without_quiet h p xs (λ z c. q z (grind (arith, c))) in
    by_go (p x)
    (λ s. rw s (ap (λ ys. h x ++ ys) rest))
    (λ s. rw s (rest ∙ ap (λ ys. ys ++ flat_map h xs) (sym (q x (grind (arith, eqb_tells x x)) s))))

pub flat_ext : {A B : Type 0} (g h : A → List B) (xs : List A) → ((x : A) → g x ≡ h x) → flat_map g xs ≡ flat_map h xs
flat_ext g h [] e = refl
flat_ext g h (x ∷ xs) e = ap₂ (λ ys zs. ys ++ zs) (e x) (flat_ext g h xs e)

-- ---- roots

pub root_has_root : {X : Type 0} (f : Trees X) (z : ℕ) → is_root f z ≡ true → has_root f z ≡ true
root_has_root bare z h = absurd (false≢true h)
root_has_root (tree i x k r) z h = rw h refl

pub single_root : {X : Type 0} (f : Trees X) (z : ℕ) → IsSingle f → has_root f z ≡ true → is_root f z ≡ true
single_root bare z s h = absurd (false≢true h)
single_root (tree i x k bare) z s h = grind (arith, h)
single_root (tree i x k (tree j y l q)) z s h = absurd (cc)

pub there_is : (f : Trees Look) (z : ℕ) (n : NodeData) → Some n ≡ option_map data_of (node_at f z) → node_at f z ≡ Some (as_node n)
there_is f z n e = sym (back (node_at f z)) ∙ ap (option_map as_node) (sym e)
