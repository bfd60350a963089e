-- Listed nodes are the source's nodes, in pre-order.
use Rattle.std.proofs.Common.{ℕ, ◌≡◌, Bool, true, false, ◌||◌, eqb, List, [], ◌∷◌, ◌++◌, map, refl, sym, ap, ◌∙◌, subst, arith, Option, Some}
use Rattle.std.specs.List.{filter}
use Rattle.std.proofs.lemmas.Bool.Decides.{eqb_tells}
use Rattle.std.proofs.lemmas.Bool.{false_from_ne_true}
use Rattle.std.proofs.lemmas.List.{map-append, append-nil}
use Rattle.ax_trees.specs.Trees.{Trees, bare, tree, has, ids, roots, IsDistinct}
use Rattle.ax_trees.specs.Nodes.{Node, node_at, below, tree_at, pre}
use Rattle.ax_trees.specs.Lists.{contains}
use Rattle.ax_tree.specs.SerialRule.{listed, from_root}
use Rattle.ax_tree.specs.InStep.{lists}
use Rattle.ax_trees.proofs.Trees.{by_go}
use Rattle.ax_trees.proofs.Nodes.{tree_at_is, distinct_tree_at, node_tree_at}
use Rattle.ax_trees.proofs.Times.{contains-ids}
use Rattle.ax_laws.proofs.Listed.{lists-append, listed_has}

pub filter_same : (p q : ℕ → Bool) (xs : List ℕ) → ((z : ℕ) → contains xs z ≡ true → p z ≡ q z) → filter p xs ≡ filter q xs
filter_same p q [] h = refl
filter_same p q (x ∷ xs) h =
    let ih : filter p xs ≡ filter q xs = filter_same p q xs (λ z c. h z (grind (arith, c))) in
    let e : p x ≡ q x = h x (grind (arith, eqb_tells x x)) in
    rw (e, ih) refl

pub filter-append : (p : ℕ → Bool) (xs ys : List ℕ) → filter p (xs ++ ys) ≡ filter p xs ++ filter p ys
filter-append p [] ys = refl
filter-append p (x ∷ xs) ys = by_go (p x) (λ q. rw q (ap (λ l. x ∷ l) (filter-append p xs ys))) (λ q. rw q (filter-append p xs ys))

-- the nodes of those ids of f that are listed
abbrev pub nodes_of : {X : Type 0} → Trees X → List (Node X) → List ℕ → List (Option (Node X))
nodes_of s ns zs = map (node_at s) (filter (lists ns) zs)

pub listed_in_order : {X : Type 0} (go : ℕ → Bool) (s f : Trees X) → IsDistinct f → ((z : ℕ) → has f z ≡ true → node_at f z ≡ node_at s z)
    → map (λ n. Some n) (listed go f) ≡ nodes_of s (listed go f) (ids f)
listed_in_order go s bare d part = refl
listed_in_order {X} go s (tree i x k r) d part =
    let self : eqb i i ≡ true = grind (arith, eqb_tells i i) in
    let below_k : map (λ n. Some n) (listed go k) ≡ nodes_of s (listed go k) (ids k) =
    listed_in_order go s k d.3 (λ z h. let no : eqb i z ≡ false = grind (arith, eqb_tells i z, d.0, h) in rw (no, h) at (part z (grind (arith, h)))) in
    let after : map (λ n. Some n) (listed go r) ≡ nodes_of s (listed go r) (ids r) =
    listed_in_order go s r d.4 (λ z h. let no : eqb i z ≡ false = grind (arith, eqb_tells i z, d.1, h) in
    let no' : has k z ≡ false = false_from_ne_true (has k z) (λ g. grind (arith, d.2.apart z g, h)) in rw (no, no') at (part z (grind (arith, h)))) in
    let in_k : (z : ℕ) → contains (ids k) z ≡ true → has k z ≡ true = λ z c. sym (contains-ids k z) ∙ c in
    let in_r : (z : ℕ) → contains (ids r) z ≡ true → has r z ≡ true = λ z c. sym (contains-ids r z) ∙ c in
    by_go (go i)
    (λ q. let all : List (Node X) = record { id = i; known = x; children = roots k } ∷ (listed go k ++ listed go r) in
    let own : node_at s i ≡ Some (record { id = i; known = x; children = roots k }) = sym (rw self at (part i (grind (arith, self)))) in
    let on_k : filter (lists all) (ids k) ≡ filter (lists (listed go k)) (ids k) =
    filter_same (lists all) (lists (listed go k)) (ids k) (λ z c. grind (arith, in_k z c, eqb_tells i z, d.0, d.2.apart z, lists-append (listed go k) (listed go r) z, listed_has go r z)) in
    let on_r : filter (lists all) (ids r) ≡ filter (lists (listed go r)) (ids r) =
    filter_same (lists all) (lists (listed go r)) (ids r) (λ z c. grind (arith, in_r z c, eqb_tells i z, d.1, d.2.apart z, lists-append (listed go k) (listed go r) z, listed_has go k z)) in
    let tail : map (λ n. Some n) (listed go k ++ listed go r) ≡ map (node_at s) (filter (lists all) (ids k ++ ids r)) =
    map-append (λ n. Some n) (listed go k) (listed go r)
    ∙ (ap (λ l. l ++ map (λ n. Some n) (listed go r)) below_k
    ∙ (ap (λ l. nodes_of s (listed go k) (ids k) ++ l) after
    ∙ (sym (map-append (node_at s) (filter (lists (listed go k)) (ids k)) (filter (lists (listed go r)) (ids r)))
    ∙ (ap (λ l. map (node_at s) (l ++ filter (lists (listed go r)) (ids r))) (sym on_k)
    ∙ (ap (λ l. map (node_at s) (filter (lists all) (ids k) ++ l)) (sym on_r)
    ∙ ap (map (node_at s)) (sym (filter-append (lists all) (ids k) (ids r)))))))) in
    let here : listed go (tree i x k r) ≡ all = rw q refl in
    subst (λ ns. map (λ n. Some n) ns ≡ nodes_of s ns (ids (tree i x k r))) (sym here)
    (rw (self, own) (ap (λ l. Some (record { id = i; known = x; children = roots k }) ∷ l) tail)))
    (λ q. let none : lists (listed go r) i ≡ false = false_from_ne_true (lists (listed go r) i) (λ g. grind (arith, listed_has go r i g, d.1)) in
    let on_k : filter (lists (listed go r)) (ids k) ≡ [] = nothing (lists (listed go r)) (ids k) (λ z c. false_from_ne_true (lists (listed go r) z) (λ g. grind (arith, listed_has go r z g, in_k z c, d.2.apart z))) in
    let here : listed go (tree i x k r) ≡ listed go r = rw q refl in
    subst (λ ns. map (λ n. Some n) ns ≡ nodes_of s ns (ids (tree i x k r))) (sym here)
    (rw none (after ∙ ap (map (node_at s)) (sym (filter-append (lists (listed go r)) (ids k) (ids r) ∙ ap (λ l. l ++ filter (lists (listed go r)) (ids r)) on_k)))))
  where
    nothing : (p : ℕ → Bool) (xs : List ℕ) → ((z : ℕ) → contains xs z ≡ true → p z ≡ false) → filter p xs ≡ []
    nothing p [] h = refl
    nothing p (y ∷ xs) h = let e : p y ≡ false = h y (grind (arith, eqb_tells y y)) in rw e (nothing p xs (λ z c. h z (grind (arith, c))))

listed_ext : {X : Type 0} (p q : ℕ → Bool) (f : Trees X) → ((z : ℕ) → has f z ≡ true → p z ≡ q z) → listed p f ≡ listed q f
listed_ext p q bare h = refl
listed_ext p q (tree i x k r) h =
    let e : p i ≡ q i = h i (grind (arith, eqb_tells i i)) in
    let ih : listed p k ≡ listed q k = listed_ext p q k (λ z g. h z (grind (arith, g))) in
    let jh : listed p r ≡ listed q r = listed_ext p q r (λ z g. h z (grind (arith, g))) in
    rw (e, ih, jh) refl

from_root_listed : {X : Type 0} (go : ℕ → Bool) (a : ℕ) (e : X) (w : Trees X) → has w a ≡ false
    → from_root go (tree a e w bare) ≡ listed (λ z. go z || eqb a z) (tree a e w bare)
from_root_listed go a e w n =
    let here : (go a || eqb a a) ≡ true = grind (arith, eqb_tells a a) in
    let same : listed go w ≡ listed (λ z. go z || eqb a z) w = listed_ext go (λ z. go z || eqb a z) w (λ z g. grind (arith, eqb_tells a z, n, g)) in
    rw (here, append-nil (listed (λ z. go z || eqb a z) w), ← same) refl

-- the same from one node on
pub from_root_in_order : {X : Type 0} (go : ℕ → Bool) (s : Trees X) (a : ℕ) → IsDistinct s → has s a ≡ true
    → map (λ n. Some n) (from_root go (tree_at s a)) ≡ nodes_of s (from_root go (tree_at s a)) (pre s a)
from_root_in_order {X} go s a d h =
    let e : X = (tree_at_is s a h).0 in
    let is : tree_at s a ≡ tree a (tree_at_is s a h).0 (below s a) bare = (tree_at_is s a h).1 in
    let dt : IsDistinct (tree a (tree_at_is s a h).0 (below s a) bare) = subst (λ t. IsDistinct t) is (distinct_tree_at s a d) in
    let part : (z : ℕ) → has (tree a (tree_at_is s a h).0 (below s a) bare) z ≡ true → node_at (tree a (tree_at_is s a h).0 (below s a) bare) z ≡ node_at s z =
    subst (λ t. (z : ℕ) → has t z ≡ true → node_at t z ≡ node_at s z) is (λ z g. node_tree_at s a z d h g) in
    subst (λ t. map (λ n. Some n) (from_root go t) ≡ nodes_of s (from_root go t) (ids t)) (sym is)
    (subst (λ ns. map (λ n. Some n) ns ≡ nodes_of s ns (ids (tree a (tree_at_is s a h).0 (below s a) bare))) (sym (from_root_listed go a (tree_at_is s a h).0 (below s a) dt.0))
    (listed_in_order (λ z. go z || eqb a z) s (tree a (tree_at_is s a h).0 (below s a) bare) dt part))
