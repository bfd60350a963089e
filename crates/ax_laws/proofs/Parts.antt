-- A node's data act in a part of the trees as on the part alone.
use Rattle.std.proofs.Common.{Bool, Err, List, None, Ok, Option, Result, Some, [], ap, arith, cond, eqb, false, refl, true, ℕ, ◌++◌, ◌||◌, ◌∷◌, ◌≡◌}
use Rattle.std.proofs.lemmas.Bool.Decides.{eqb_tells}
use Rattle.ax_tree.specs.InStep.{lists}
use Rattle.ax_tree.specs.UpdateRule.{and_then, arranged, bad_child, first_repeated, node_taken, nodes_taken, only, refuse_or}
use Rattle.ax_tree.specs.declared.update.Refusal.{Refusal}
use Rattle.ax_tree.specs.declared.update.Refusal.TheVariants.{DuplicateChild, NotInTree, Reparented}
use Rattle.ax_trees.specs.Changes.{with_node}
use Rattle.ax_trees.specs.Lists.{first_that}
use Rattle.ax_trees.specs.Nodes.{Node, below}
use Rattle.ax_trees.specs.Trees.{Trees, has, tree}
use Rattle.ax_trees.proofs.Changed.{with_node_left, with_node_right}
use Rattle.ax_trees.proofs.Lists.{first_that_ext, or_left, or_right}
use Rattle.ax_trees.proofs.Trees.{below_left, below_right, has_left, has_right}

abbrev pub over : {X : Type 0} → (Trees X → Trees X) → Result (Trees X) Refusal → Result (Trees X) Refusal
over g (Ok w) = Ok (g w)
over g (Err e) = Err e

pub bad_right : {X : Type 0} (out : ℕ → Bool) (i : ℕ) (e : X) (k r : Trees X) (u : Node X) (c : ℕ) → eqb i u.id ≡ false → has k u.id ≡ false
    → bad_child out (tree i e k r) u c ≡ bad_child (λ z. out z || (eqb i z || has k z)) r u c
bad_right out i e k r u c a b =
    rw (below_right i e k r u.id a b, with_node_right i e k r u.id u.known (only (below r u.id) u.children) a b, or_right (out c) (eqb i c) (has k c) (has (with_node r u.id u.known (only (below r u.id) u.children)) c))

pub bad_left : {X : Type 0} (out : ℕ → Bool) (i : ℕ) (e : X) (k r : Trees X) (u : Node X) (c : ℕ) → eqb i u.id ≡ false → has k u.id ≡ true
    → bad_child out (tree i e k r) u c ≡ bad_child (λ z. out z || (eqb i z || has r z)) k u c
bad_left out i e k r u c a b =
    rw (below_left i e k r u.id a b, with_node_left i e k r u.id u.known (only (below k u.id) u.children) a b, or_left (out c) (eqb i c) (has (with_node k u.id u.known (only (below k u.id) u.children)) c) (has r c))

-- a function on the trees goes past the tests
pub past_tests : {X : Type 0} (g : Trees X → Trees X) (b : Bool) (n m : ℕ → Refusal) (o p : Option ℕ) (x : Trees X) (e : Refusal)
    → cond b (refuse_or n o (refuse_or m p (Ok (g x)))) (Err e) ≡ over g (cond b (refuse_or n o (refuse_or m p (Ok x))) (Err e))
past_tests g true n m None None x e = refl
past_tests g true n m None (Some c) x e = refl
past_tests g true n m (Some c) p x e = refl
past_tests g false n m o p x e = refl

pub taken_right : {X : Type 0} (f : X) (out : ℕ → Bool) (i : ℕ) (e : X) (k r : Trees X) (u : Node X) → eqb i u.id ≡ false → has k u.id ≡ false
    → node_taken f out (tree i e k r) u ≡ over (tree i e k) (node_taken f (λ z. out z || (eqb i z || has k z)) r u)
taken_right f out i e k r u a b =
    rw (
      has_right i e k r u.id a b,
      first_that_ext (bad_child out (tree i e k r) u) (bad_child (λ z. out z || (eqb i z || has k z)) r u) u.children (λ c. bad_right out i e k r u c a b),
      below_right i e k r u.id a b,
      with_node_right i e k r u.id u.known (arranged f u.children (below r u.id)) a b,
    )
    (past_tests (tree i e k) (has r u.id) DuplicateChild Reparented (first_repeated [] u.children) (first_that (bad_child (λ z. out z || (eqb i z || has k z)) r u) u.children) (with_node r u.id u.known (arranged f u.children (below r u.id))) (NotInTree u.id))

pub taken_left : {X : Type 0} (f : X) (out : ℕ → Bool) (i : ℕ) (e : X) (k r : Trees X) (u : Node X) → eqb i u.id ≡ false → has k u.id ≡ true
    → node_taken f out (tree i e k r) u ≡ over (λ v. tree i e v r) (node_taken f (λ z. out z || (eqb i z || has r z)) k u)
taken_left f out i e k r u a b =
    rw (
      has_left i e k r u.id a b,
      first_that_ext (bad_child out (tree i e k r) u) (bad_child (λ z. out z || (eqb i z || has r z)) k u) u.children (λ c. bad_left out i e k r u c a b),
      below_left i e k r u.id a b,
      with_node_left i e k r u.id u.known (arranged f u.children (below k u.id)) a b,
    )
    (past_tests (λ v. tree i e v r) (has k u.id) DuplicateChild Reparented (first_repeated [] u.children) (first_that (bad_child (λ z. out z || (eqb i z || has r z)) k u) u.children) (with_node k u.id u.known (arranged f u.children (below k u.id))) (NotInTree u.id))

pub and_over : {X : Type 0} (g : Trees X → Trees X) (s : Result (Trees X) Refusal) (h j : Trees X → Result (Trees X) Refusal) → ((v : Trees X) → h (g v) ≡ over g (j v))
    → and_then (over g s) h ≡ over g (and_then s j)
and_over g (Ok w) h j e = e w
and_over g (Err x) h j e = refl

pub nodes_right : {X : Type 0} (f : X) (out : ℕ → Bool) (i : ℕ) (e : X) (k r : Trees X) (us : List (Node X))
    → ((z : ℕ) → lists us z ≡ true → (eqb i z ≡ false) × (has k z ≡ false))
    → nodes_taken f out (tree i e k r) us ≡ over (tree i e k) (nodes_taken f (λ z. out z || (eqb i z || has k z)) r us)
nodes_right f out i e k r [] h = refl
nodes_right f out i e k r (u ∷ us) h =
    let at : (eqb i u.id ≡ false) × (has k u.id ≡ false) = h u.id (grind (arith, eqb_tells u.id u.id)) in
    rw (taken_right f out i e k r u at.0 at.1)
    (and_over (tree i e k) (node_taken f (λ z. out z || (eqb i z || has k z)) r u) (λ v. nodes_taken f out v us) (λ v. nodes_taken f (λ z. out z || (eqb i z || has k z)) v us)
    (λ v. nodes_right f out i e k v us (λ z t. h z (grind (arith, t)))))

pub taken_ok : {X : Type 0} (f : X) (out : ℕ → Bool) (w : Trees X) (u : Node X) (h : Trees X → Result (Trees X) Refusal) (v : Trees X) → and_then (node_taken f out w u) h ≡ Ok v → has w u.id ≡ true
taken_ok f out w u h v q = grind (arith, q)

pub ok_over : {X : Type 0} (g : Trees X → Trees X) (s : Result (Trees X) Refusal) (h j : Trees X → Result (Trees X) Refusal) (w : Trees X) → ((v : Trees X) → j v ≡ Ok w → h (g v) ≡ Ok (g w))
    → and_then s j ≡ Ok w → and_then (over g s) h ≡ Ok (g w)
ok_over g (Ok v) h j w e q = e v q
ok_over g (Err x) h j w e q = grind (arith, q)

pub nodes_left : {X : Type 0} (f : X) (out : ℕ → Bool) (i : ℕ) (e : X) (k r : Trees X) (us : List (Node X)) (w : Trees X)
    → ((z : ℕ) → lists us z ≡ true → eqb i z ≡ false)
    → nodes_taken f (λ z. out z || (eqb i z || has r z)) k us ≡ Ok w
    → nodes_taken f out (tree i e k r) us ≡ Ok (tree i e w r)
nodes_left f out i e k r [] w h g = ap (over (λ v. tree i e v r)) g
nodes_left f out i e k r (u ∷ us) w h g =
    rw (taken_left f out i e k r u (h u.id (grind (arith, eqb_tells u.id u.id))) (taken_ok f (λ z. out z || (eqb i z || has r z)) k u (λ v. nodes_taken f (λ z. out z || (eqb i z || has r z)) v us) w g))
    (ok_over (λ v. tree i e v r) (node_taken f (λ z. out z || (eqb i z || has r z)) k u) (λ v. nodes_taken f out v us) (λ v. nodes_taken f (λ z. out z || (eqb i z || has r z)) v us) w
    (λ v q. nodes_left f out i e v r us w (λ z t. h z (grind (arith, t))) q) g)

pub nodes_taken-append : {X : Type 0} (f : X) (out : ℕ → Bool) (w : Trees X) (us vs : List (Node X))
    → nodes_taken f out w (us ++ vs) ≡ and_then (nodes_taken f out w us) (λ v. nodes_taken f out v vs)
nodes_taken-append f out w [] vs = refl
nodes_taken-append {X} f out w (u ∷ us) vs = go (node_taken f out w u) (λ v. nodes_taken-append f out v us vs)
  where
    go : (s : Result (Trees X) Refusal) → ((v : Trees X) → nodes_taken f out v (us ++ vs) ≡ and_then (nodes_taken f out v us) (λ x. nodes_taken f out x vs))
        → and_then s (λ v. nodes_taken f out v (us ++ vs)) ≡ and_then (and_then s (λ v. nodes_taken f out v us)) (λ v. nodes_taken f out v vs)
    go (Ok v) ih = ih v
    go (Err x) ih = refl
