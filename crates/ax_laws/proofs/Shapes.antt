-- The serialisation rule and the update rule see no data.
use Rattle.std.proofs.Common.{Bool, Err, List, None, Ok, Option, Result, Some, [], ap, cond, false, leb, map, refl, true, ℕ, ◌∙◌, ◌∷◌, ◌≡◌}
use Rattle.std.proofs.Math.Path.{fun_ext}
use Rattle.std.specs.Option.{option_map}
use Rattle.ax_tree.specs.UpdateRule.{and_then, arranged, bad_child, first_repeated, node_taken, nodes_taken, only, refuse_or}
use Rattle.ax_tree.specs.declared.update.Refusal.{Refusal}
use Rattle.ax_tree.specs.declared.update.Refusal.TheVariants.{BadClear, DuplicateChild, NotInTree, Pending, Reparented, TooDeep}
use Rattle.ax_tree.specs.SerialRule.{all_of, common_chain, goes_on, is_closed, is_plain, last_common, last_held, lowest_closed, partial_update, reached_fit, stand_under, trees_update}
use Rattle.ax_tree.specs.UpdateRule.{Update, cleared, completed, draft_node, draft_of, finished, least_pending, missing, own_pending, started, trees_after}
use Rattle.ax_tree.specs.UpdateShape.{mapped_node, mapped_result, mapped_update}
use Rattle.ax_trees.specs.Changes.{with_node}
use Rattle.ax_trees.specs.Lists.{common_prefix, contains, first_that, last_that}
use Rattle.ax_trees.specs.Nodes.{Node, below, chain}
use Rattle.ax_trees.specs.Shape.{mapped}
use Rattle.ax_trees.specs.Trees.{Trees, bare, has, height, is_root, root_of, tree, all_ids, all_roots}
use Rattle.ax_trees.proofs.Lists.{first_that_ext}
use Rattle.ax_trees.proofs.Shapes.{below-mapped, chain-mapped, has-mapped, has_fun, has_root-mapped, has_under, height-mapped, is_root-mapped, root_below-mapped, root_known-mapped, root_under, with_node-mapped}
use Rattle.ax_trees.proofs.Trees.{by_go}

pub stand_same : {X E S : Type 0} (f : X → E) (c : Trees X) (y : ℕ) (w : Trees S) → stand_under (mapped f c) y w ≡ stand_under c y w
stand_same f c y w = ap (λ (p : ℕ → Bool). all_roots p w) (fun_ext (λ z. rw (has-mapped f c z, root_under f c y z) refl))

pub goes_on_same : {X E : Type 0} (f : X → E) (c : Trees X) (m : List ℕ) → goes_on (mapped f c) m ≡ goes_on c m
goes_on_same f c m = fun_ext (λ z. rw (has-mapped f c z) refl)

pub fit_same : {X E S : Type 0} (f : X → E) (c : Trees X) (go : ℕ → Bool) (w : Trees S) → reached_fit (mapped f c) go w ≡ reached_fit c go w
fit_same f c go bare = refl
fit_same f c go (tree i e k r) = rw (stand_same f c i k, fit_same f c go k, fit_same f c go r) refl

pub closed_same : {X E S : Type 0} (f : X → E) (c : Trees X) (s : Trees S) → is_closed (mapped f c) s ≡ is_closed c s
closed_same f c s = fun_ext (λ x. ap (λ (p : ℕ → Bool). all_ids p (below s x)) (fun_ext (λ z. rw (has-mapped f c z, has_under f c x z) refl)))

pub common_chain_same : {X E S : Type 0} (f : X → E) (c : Trees X) (s : Trees S) (a : ℕ) → common_chain (mapped f c) s a ≡ common_chain c s a
common_chain_same f c s a = ap (λ ys. common_prefix (chain s a) ys) (chain-mapped f c a)

pub last_common_same : {X E S : Type 0} (f : X → E) (c : Trees X) (s : Trees S) (t a : ℕ) → last_common (mapped f c) s t a ≡ last_common c s t a
last_common_same f c s t a = ap (λ ys. last_that (λ _. true) ys t) (common_chain_same f c s a)

pub last_held_same : {X E S : Type 0} (f : X → E) (c : Trees X) (s : Trees S) (t d : ℕ) → last_held (mapped f c) s t d ≡ last_held c s t d
last_held_same f c s t d = ap (λ (p : ℕ → Bool). last_that p (chain s d) t) (has_fun f c)

pub plain_same : {X E S : Type 0} (f : X → E) (c : Trees X) (s : Trees S) (m : List ℕ) (t a : ℕ) → is_plain (mapped f c) s m t a ≡ is_plain c s m t a
plain_same f c s m t a = rw (last_common_same f c s t a, stand_same f c a (below s a), goes_on_same f c m, fit_same f c (goes_on c m) (below s a)) refl

pub lowest_same : {X E S : Type 0} (f : X → E) (c : Trees X) (s : Trees S) (t x : ℕ) → lowest_closed (mapped f c) s t x ≡ lowest_closed c s t x
lowest_same f c s t x = ap (λ (p : ℕ → Bool). last_that p (chain s x) t) (closed_same f c s)

pub partial_update_same : {X E S : Type 0} (f : X → E) (c : Trees X) (s : Trees S) (m : List ℕ) (t a : ℕ) → partial_update (mapped f c) s m t a ≡ partial_update c s m t a
partial_update_same f c s m t a = rw (plain_same f c s m t a, last_common_same f c s t a, lowest_same f c s t (last_common c s t a), goes_on_same f c m) refl

pub trees_update_same : {X E S : Type 0} (f : X → E) (c : Trees X) (s : Trees S) (m : List ℕ) (d : ℕ) → trees_update (mapped f c) s m d ≡ trees_update c s m d
trees_update_same f bare s m d = refl
trees_update_same f (tree i e k r) s m d = ap (λ (u : Update _). cond (is_root s i) u (record { clear = Some i; root = root_of s; nodes = all_of s }))
    (ap (λ a. partial_update (mapped f (tree i e k r)) s m i a) (last_held_same f (tree i e k r) s i d) ∙ partial_update_same f (tree i e k r) s m i (last_held (tree i e k r) s i d))

pub arranged-mapped : {X E : Type 0} (g : X → E) (f : X) (cs : List ℕ) (k : Trees X) → arranged (g f) cs (mapped g k) ≡ mapped g (arranged f cs k)
arranged-mapped g f [] k = refl
arranged-mapped g f (c ∷ cs) k = rw (root_known-mapped g f k c, root_below-mapped g k c, arranged-mapped g f cs k) refl

pub only-mapped : {X E : Type 0} (g : X → E) (k : Trees X) (cs : List ℕ) → only (mapped g k) cs ≡ mapped g (only k cs)
only-mapped g bare cs = refl
only-mapped g (tree i e k r) cs = by_go (contains cs i) (λ q. rw (q, only-mapped g r cs) refl) (λ q. rw (q, only-mapped g r cs) refl)

pub bad_same : {X E : Type 0} (g : X → E) (out : ℕ → Bool) (w : Trees X) (u : Node X) (c : ℕ) → bad_child out (mapped g w) (mapped_node g u) c ≡ bad_child out w u c
bad_same g out w u c =
    rw (
      below-mapped g w u.id,
      has_root-mapped g (below w u.id) c,
      only-mapped g (below w u.id) u.children,
      with_node-mapped g w u.id u.known (only (below w u.id) u.children),
      has-mapped g (with_node w u.id u.known (only (below w u.id) u.children)) c,
    ) refl

pub tests_past : {X E : Type 0} (g : X → E) (b : Bool) (n m : ℕ → Refusal) (o p : Option ℕ) (x : Trees X) (e : Refusal)
    → cond b (refuse_or n o (refuse_or m p (Ok (mapped g x)))) (Err e) ≡ mapped_result g (cond b (refuse_or n o (refuse_or m p (Ok x))) (Err e))
tests_past g true n m None None x e = refl
tests_past g true n m None (Some c) x e = refl
tests_past g true n m (Some c) p x e = refl
tests_past g false n m o p x e = refl

pub taken-mapped : {X E : Type 0} (g : X → E) (f : X) (out : ℕ → Bool) (w : Trees X) (u : Node X) → node_taken (g f) out (mapped g w) (mapped_node g u) ≡ mapped_result g (node_taken f out w u)
taken-mapped g f out w u =
    rw (
      has-mapped g w u.id,
      first_that_ext (bad_child out (mapped g w) (mapped_node g u)) (bad_child out w u) u.children (bad_same g out w u),
      below-mapped g w u.id,
      arranged-mapped g f u.children (below w u.id),
      with_node-mapped g w u.id u.known (arranged f u.children (below w u.id)),
    )
    (tests_past g (has w u.id) DuplicateChild Reparented (first_repeated [] u.children) (first_that (bad_child out w u) u.children) (with_node w u.id u.known (arranged f u.children (below w u.id))) (NotInTree u.id))

pub then-mapped : {X E : Type 0} (g : X → E) (s : Result (Trees X) Refusal) (h : Trees E → Result (Trees E) Refusal) (j : Trees X → Result (Trees X) Refusal) → ((v : Trees X) → h (mapped g v) ≡ mapped_result g (j v))
    → and_then (mapped_result g s) h ≡ mapped_result g (and_then s j)
then-mapped g (Ok w) h j e = e w
then-mapped g (Err x) h j e = refl

pub nodes_taken-mapped : {X E : Type 0} (g : X → E) (f : X) (out : ℕ → Bool) (w : Trees X) (us : List (Node X)) → nodes_taken (g f) out (mapped g w) (map (mapped_node g) us) ≡ mapped_result g (nodes_taken f out w us)
nodes_taken-mapped g f out w [] = refl
nodes_taken-mapped g f out w (u ∷ us) =
    rw (taken-mapped g f out w u) (then-mapped g (node_taken f out w u) (λ v. nodes_taken (g f) out v (map (mapped_node g) us)) (λ v. nodes_taken f out v us) (λ v. nodes_taken-mapped g f out v us))

pub draft-mapped : {X E : Type 0} (f : X → E) (w : Trees X) → draft_of (mapped f w) ≡ mapped (option_map f) (draft_of w)
draft-mapped f bare = refl
draft-mapped f (tree i e k r) = rw (draft-mapped f k, draft-mapped f r) refl

pub nodes-mapped : {X E : Type 0} (f : X → E) (us : List (Node X)) → map draft_node (map (mapped_node f) us) ≡ map (mapped_node (option_map f)) (map draft_node us)
nodes-mapped f [] = refl
nodes-mapped f (u ∷ us) = rw (nodes-mapped f us) refl

pub missing-mapped : {X E : Type 0} (f : X → E) (w : Trees X) (o : Option ℕ) → missing (mapped f w) o ≡ missing w o
missing-mapped f w None = refl
missing-mapped f w (Some x) = rw (has-mapped f w x) refl

pub cleared-mapped : {X E : Type 0} (f : X → E) (o : Option ℕ) (w : Trees (Option X)) → cleared o (mapped (option_map f) w) ≡ mapped (option_map f) (cleared o w)
cleared-mapped f None w = refl
cleared-mapped f (Some x) w = with_node-mapped (option_map f) w x None bare

pub started-mapped : {X E : Type 0} (f : X → E) (o c : Option ℕ) (w : Trees (Option X)) → started o c (mapped (option_map f) w) ≡ mapped (option_map f) (started o c w)
started-mapped f None c w = cleared-mapped f c w
started-mapped f (Some x) c w =
    by_go (is_root w x)
    (λ q. rw (is_root-mapped (option_map f) w x, q) (cleared-mapped f c w))
    (λ q. rw (is_root-mapped (option_map f) w x, q) refl)

pub own-mapped : {X E : Type 0} (f : X → E) (i : ℕ) (e : Option X) → own_pending i (option_map f e) ≡ own_pending i e
own-mapped f i None = refl
own-mapped f i (Some e) = refl

pub pending-mapped : {X E : Type 0} (f : X → E) (w : Trees (Option X)) → least_pending (mapped (option_map f) w) ≡ least_pending w
pending-mapped f bare = refl
pending-mapped f (tree i e k r) = rw (own-mapped f i e, pending-mapped f k, pending-mapped f r) refl

pub completed-mapped : {X E : Type 0} (f : X → E) (b : X) (w : Trees (Option X)) → completed (f b) (mapped (option_map f) w) ≡ mapped f (completed b w)
completed-mapped f b bare = refl
completed-mapped f b (tree i None k r) = rw (completed-mapped f b k, completed-mapped f b r) refl
completed-mapped f b (tree i (Some e) k r) = rw (completed-mapped f b k, completed-mapped f b r) refl

pub tests_over : {X E : Type 0} (f : X → E) (o : Option ℕ) (t : Bool) (w : Trees X) (e : Refusal) → refuse_or Pending o (cond t (Ok (mapped f w)) (Err e)) ≡ mapped_result f (refuse_or Pending o (cond t (Ok w) (Err e)))
tests_over f None true w e = refl
tests_over f None false w e = refl
tests_over f (Some x) t w e = refl

pub finished-mapped : {X E : Type 0} (f : X → E) (b : X) (w : Trees (Option X)) → finished (f b) (mapped (option_map f) w) ≡ mapped_result f (finished b w)
finished-mapped f b w =
    rw (pending-mapped f w, height-mapped (option_map f) w, completed-mapped f b w) (tests_over f (least_pending w) (leb (height w) 256) (completed b w) (TooDeep (height w)))

pub refuse_over : {X E : Type 0} (f : X → E) (o : Option ℕ) (s : Result (Trees X) Refusal) → refuse_or BadClear o (mapped_result f s) ≡ mapped_result f (refuse_or BadClear o s)
refuse_over f None s = refl
refuse_over f (Some x) s = refl

pub then_over : {X E : Type 0} (f : X → E) (b : X) (s : Result (Trees (Option X)) Refusal) → and_then (mapped_result (option_map f) s) (finished (f b)) ≡ mapped_result f (and_then s (finished b))
then_over f b (Ok w) = finished-mapped f b w
then_over f b (Err e) = refl

-- Acceptance, refusals and the new structure depend on the structure alone.
pub trees_after-mapped : {X E : Type 0} (f : X → E) (b : X) (u : Update X) (w : Trees X) → trees_after (f b) (mapped_update f u) (mapped f w) ≡ mapped_result f (trees_after b u w)
trees_after-mapped f b u w =
    rw (
      missing-mapped f w u.clear,
      draft-mapped f w,
      started-mapped f u.root u.clear (draft_of w),
      nodes-mapped f u.nodes,
      nodes_taken-mapped (option_map f) None (λ z. false) (started u.root u.clear (draft_of w)) (map draft_node u.nodes),
      then_over f b (nodes_taken None (λ z. false) (started u.root u.clear (draft_of w)) (map draft_node u.nodes)),
    )
    (refuse_over f (missing w u.clear) (and_then (nodes_taken None (λ z. false) (started u.root u.clear (draft_of w)) (map draft_node u.nodes)) (finished b)))
