-- Nodes that name trees, by their ids.
use Rattle.std.proofs.Common.{ℕ, ◌≡◌, Bool, true, false, cond, ◌&&◌, eqb, List, [], ◌∷◌, ◌++◌, Option, Some, None, refl, sym, ap, ap₂, ◌∙◌, arith}
use Rattle.std.specs.Prelude.{option_map, option_and_then, filter}
use Rattle.std.specs.Option.{option_or}
use Rattle.std.specs.List.{find}
use Rattle.std.specs.Ordering.{nat_cmp}
use Rattle.std.specs.FinMap.Entries as entries
use Rattle.std.proofs.lemmas.List.Folds.{find-append}
use Rattle.std.proofs.lemmas.Option.{same_Some}
use Rattle.std.proofs.lemmas.Bool.Decides.{eqb_tells}
use Rattle.std.proofs.lemmas.Bool.{eqb-true, false≢true, false_from_ne_true}
use Rattle.ax_node.specs.Look.{Look}
use Rattle.ax_node.specs.declared.value.Value.{Value}
use Rattle.ax_node.specs.declared.value.Value.TheVariants as values
use Rattle.ax_trees.specs.Trees.{Trees, bare, tree, has, ids, roots, IsDistinct}
use Rattle.ax_trees.specs.Nodes.{Node, node_at}
use Rattle.ax_trees.specs.Lists.{is_nil, contains, first_that}
use Rattle.ax_trees.specs.Spots.{or_else}
use Rattle.ax_trees.proofs.Trees.{by_go}
use Rattle.ax_trees.proofs.Grown.{node_none}
use Rattle.ax_tree.specs.SerialRule.{all_of}
use Rattle.ax_tree.specs.Tree.{Tree}
use Rattle.ax_order.specs.Touched.{NamesChanges}
use Rattle.ax_order.proofs.Nodes.{same_node, node_inner, node_later}
use Rattle.ax_tree.specs.Forest.{child_tree_key, is_tree_value, names_child}
use Rattle.ax_managers.specs.Naming.{tree_in, named_by, named_at, first_naming, is_id}

value_names : (u : ℕ) (v : Option Value) → is_id (tree_in v) u ≡ is_tree_value u v
value_names u None = refl
value_names u (Some (values.Text s)) = refl
value_names u (Some (values.Int n)) = refl
value_names u (Some (values.Flag b)) = refl
value_names u (Some (values.Node n)) = refl
value_names u (Some (values.Tree t)) = refl

pub node_names : (u : ℕ) (n : Node Look) → is_id (named_by n) u ≡ (is_nil n.children && names_child u n.known)
node_names u n = go (is_nil n.children)
  where
    go : (b : Bool) → is_id (cond b (tree_in (entries.find nat_cmp child_tree_key n.known.attrs)) None) u ≡ (b && names_child u n.known)
    go true = value_names u (entries.find nat_cmp child_tree_key n.known.attrs)
    go false = refl

pub is_some_id : (o : Option ℕ) (u : ℕ) → is_id o u ≡ true → o ≡ Some u
is_some_id None u h = absurd (false≢true h)
is_some_id (Some v) u h = ap Some (eqb-true v u h)

pub some_is_id : (o : Option ℕ) (u : ℕ) → o ≡ Some u → is_id o u ≡ true
some_is_id None u h = absurd (let no : ◌≡◌ {A = Option ℕ} None (Some u) = h in cc)
some_is_id (Some v) u h = grind (arith, eqb_tells v u, same_Some v u h)

-- ---- a node that isn't touched

pub same_named : (old new : Tree) (touched : List ℕ) (z : ℕ) → NamesChanges old new touched → contains touched z ≡ false → named_at new z ≡ named_at old z
same_named old new touched z h c = ap (option_and_then named_by) (same_node old new touched z h c)

pub named_there : (m : Tree) (z u : ℕ) → named_at m z ≡ Some u → has m.trees z ≡ true
named_there m z u e = by_go (has m.trees z) (λ q. q) (λ q. absurd (let no : ◌≡◌ {A = Option ℕ} None (Some u) = sym (ap (option_and_then named_by) (node_none m.trees z q)) ∙ e in cc))

-- ---- the first that passes

pub first_append : (p : ℕ → Bool) (xs ys : List ℕ) → first_that p (xs ++ ys) ≡ or_else (first_that p xs) (first_that p ys)
first_append p [] ys = refl
first_append p (x ∷ xs) ys = by_go (p x) (λ q. rw q refl) (λ q. rw q (first_append p xs ys))

pub first_push : (p : ℕ → Bool) (xs : List ℕ) (x : ℕ) → first_that p (xs ++ x ∷ []) ≡ or_else (first_that p xs) (cond (p x) (Some x) None)
first_push p xs x = first_append p xs (x ∷ [])

map_or : {A B : Type 0} (g : A → B) (o p : Option A) → option_map g (option_or o p) ≡ or_else (option_map g o) (option_map g p)
map_or g None p = refl
map_or g (Some a) p = refl

pub first_filter : (p q : ℕ → Bool) (xs : List ℕ) → ((z : ℕ) → p z ≡ true → q z ≡ true) → first_that p (filter q xs) ≡ first_that p xs
first_filter p q [] h = refl
first_filter p q (x ∷ xs) h =
    by_go (q x)
    (λ s. rw s (by_go (p x) (λ t. rw t refl) (λ t. rw t (first_filter p q xs h))))
    (λ s. let no : p x ≡ false = false_from_ne_true (p x) (λ t. false≢true (sym s ∙ h x t)) in rw (s, no) (first_filter p q xs h))

pub first_passes : (p : ℕ → Bool) (xs : List ℕ) (z : ℕ) → first_that p xs ≡ Some z → (p z ≡ true) × (contains xs z ≡ true)
first_passes p [] z e = absurd (let no : ◌≡◌ {A = Option ℕ} None (Some z) = e in cc)
first_passes p (x ∷ xs) z e =
    by_go (p x)
    (λ q. let e' : ◌≡◌ {A = Option ℕ} (Some x) (Some z) = rw q at e in let same : x ≡ z = same_Some x z e' in (ap p (sym same) ∙ q, grind (arith, eqb_tells x z, same)))
    (λ q. let e' : first_that p xs ≡ Some z = rw q at e in let r = first_passes p xs z e' in (r.0, let c = r.1 in grind (arith, c)))

pub first_none : (p : ℕ → Bool) (xs : List ℕ) (z : ℕ) → first_that p xs ≡ None → contains xs z ≡ true → p z ≡ false
first_none p [] z e c = absurd (false≢true c)
first_none p (x ∷ xs) z e c =
    by_go (p x)
    (λ q. absurd (let no : ◌≡◌ {A = Option ℕ} (Some x) None = rw q at e in cc))
    (λ q. by_go (eqb x z) (λ s. ap p (sym (eqb-true x z s)) ∙ q) (λ s. first_none p xs z (rw q at e) (grind (arith, c, s))))

-- ---- by ids and by nodes

first_by_ids : (g : Node Look → Bool) (t : Option (Node Look) → Bool) (m : ℕ → Option (Node Look)) (w : Trees Look) → IsDistinct w → ((n : Node Look) → t (Some n) ≡ g n) → ((z : ℕ) → has w z ≡ true → m z ≡ node_at w z)
    → first_that (λ z. t (m z)) (ids w) ≡ option_map (λ (n : Node Look). n.id) (find g (all_of w))
first_by_ids g t m bare d e h = refl
first_by_ids g t m (tree i x k r) d e h =
    let own : Node Look = record { id = i; known = x; children = roots k } in
    let self : eqb i i ≡ true = grind (arith, eqb_tells i i) in
    let at : t (m i) ≡ g own = ap t (h i (rw self refl) ∙ rw self refl) ∙ e own in
    let inner : first_that (λ z. t (m z)) (ids k) ≡ option_map (λ (n : Node Look). n.id) (find g (all_of k)) = first_by_ids g t m k d.3 e (λ z s. h z (grind (arith, s)) ∙ node_inner i x k r z d s) in
    let later : first_that (λ z. t (m z)) (ids r) ≡ option_map (λ (n : Node Look). n.id) (find g (all_of r)) = first_by_ids g t m r d.4 e (λ z s. h z (grind (arith, s)) ∙ node_later i x k r z d s) in
    let rest : first_that (λ z. t (m z)) (ids k ++ ids r) ≡ option_map (λ (n : Node Look). n.id) (find g (all_of k ++ all_of r)) =
    first_append (λ z. t (m z)) (ids k) (ids r) ∙ (ap₂ or_else inner later ∙ (sym (map_or (λ (n : Node Look). n.id) (find g (all_of k)) (find g (all_of r))) ∙ ap (option_map (λ (n : Node Look). n.id)) (sym (find-append g (all_of k) (all_of r))))) in
    by_go (g own)
    (λ q. ap (λ b. cond b (Some i) (first_that (λ z. t (m z)) (ids k ++ ids r))) (at ∙ q) ∙ sym (ap (λ b. option_map (λ (n : Node Look). n.id) (cond b (Some own) (find g (all_of k ++ all_of r)))) q))
    (λ q. ap (λ b. cond b (Some i) (first_that (λ z. t (m z)) (ids k ++ ids r))) (at ∙ q) ∙ (rest ∙ sym (ap (λ b. option_map (λ (n : Node Look). n.id) (cond b (Some own) (find g (all_of k ++ all_of r)))) q)))

pub first_is : (m : Tree) (u : ℕ) → IsDistinct m.trees → first_that (λ z. is_id (named_at m z) u) (ids m.trees) ≡ first_naming m u
first_is m u d = first_by_ids (λ (n : Node Look). is_nil n.children && names_child u n.known) (λ o. is_id (option_and_then named_by o) u) (node_at m.trees) m.trees d (node_names u) (λ z h. refl)

pub contains_filter : (q : ℕ → Bool) (xs : List ℕ) (z : ℕ) → contains xs z ≡ true → q z ≡ true → contains (filter q xs) z ≡ true
contains_filter q [] z c h = c
contains_filter q (x ∷ xs) z c h =
    by_go (q x)
    (λ s. rw s (by_go (eqb x z) (λ t. rw t refl) (λ t. let r : contains (filter q xs) z ≡ true = contains_filter q xs z (grind (arith, c, t)) h in grind (arith, t, r))))
    (λ s. rw s (contains_filter q xs z (by_go (eqb x z) (λ t. absurd (false≢true (sym s ∙ (ap q (eqb-true x z t) ∙ h)))) (λ t. grind (arith, c, t))) h))
