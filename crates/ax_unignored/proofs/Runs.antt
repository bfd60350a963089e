-- Runs of places: a node's place, what hangs there, and those of its children.
use Rattle.std.proofs.Common.{ℕ, zero, suc, ◌+◌, ◌-◌, ◌*◌, ◌<◌, ◌≤◌, ◌≡◌, true, flat_map, List, [], ◌∷◌, ◌++◌, length, get_or, Bor, Option, Some, None, refl, sym, ap, ◌∙◌, arith, append-nil}
use Rattle.std.specs.Option.{option_copied}
use Rattle.std.proofs.lemmas.List.Concat.{flat_map-append}
use Rattle.std.proofs.lemmas.Bool.Decides.{eqb_tells}
use Rattle.ax_base.specs.declared.position.Place.{Place}
use Rattle.ax_node.specs.Look.{Look}
use Rattle.ax_node.specs.declared.node.NodeData.{NodeData}
use Rattle.ax_trees.specs.Trees.{Trees, bare, tree, has, ids, roots, height, IsDistinct}
use Rattle.ax_trees.specs.Nodes.{below, children, pre}
use Rattle.ax_trees.specs.Lists.{contains}
use Rattle.ax_trees.proofs.Trees.{root_in, below_in, contains_roots}
use Rattle.ax_tree.specs.Tree.{Tree, node}
use Rattle.ax_tree.specs.Forest.{Forest, IsSound, live_tree, host_of}
use Rattle.ax_rules.specs.Stitched.{place_at}
use Rattle.ax_stitch.specs.Orders.{ahead, past, behind}
use Rattle.ax_stitch.specs.Levels.{ids_of, tree_ids, hung_to, hung_root}
use Rattle.ax_stitch.proofs.Lists.{ahead_in, past_in}
use Rattle.ax_stitch.proofs.Orders.{pre_is, past_ids}
use Rattle.ax_stitch.proofs.Hosts.{host_is, host_node}
use Rattle.ax_stitch.proofs.Sound.{sound_tree}
use Rattle.ax_stitch.proofs.Parts.{child_parts}
use Rattle.ax_stitch.proofs.Listed.{child_lower}
use Rattle.ax_stitch.proofs.Hung.{hung_less, hung_there, hung_lone, hung_places, none_hung, root_lower}
use Rattle.ax_stitch.proofs.Views.{children_told}
use Rattle.ax_unignored.specs.Runs.{AllThere, run, run_at, ids_below, ids_behind, below_place}

pub run-append : (n : ℕ) (f : Forest) (t : ℕ) (xs ys : List ℕ) → run n f t (xs ++ ys) ≡ run n f t xs ++ run n f t ys
run-append n f t xs ys = flat_map-append (λ j. place_at t j ∷ hung_to n f (place_at t j)) xs ys

pub flat_runs : (n : ℕ) (f : Forest) (t : ℕ) (w : Trees Look) (xs : List ℕ) → run n f t (flat_map (pre w) xs) ≡ flat_map (run_at n f t w) xs
flat_runs n f t w [] = refl
flat_runs n f t w (x ∷ xs) = run-append n f t (pre w x) (flat_map (pre w) xs) ∙ ap (λ l. run n f t (pre w x) ++ l) (flat_runs n f t w xs)

-- the runs of the children are what stands below in the tree
pub run_below : (n : ℕ) (f : Forest) (t : ℕ) (w : Trees Look) (z : ℕ) → IsDistinct w → flat_map (run_at n f t w) (children w z) ≡ run n f t (ids (below w z))
run_below n f t w z d = child_parts (λ u. run n f t (ids u)) refl (λ i x a b. split i (ids a) (ids b)) w z d
  where
    split : (i : ℕ) (xs ys : List ℕ) → run n f t (i ∷ (xs ++ ys)) ≡ run n f t (i ∷ (xs ++ [])) ++ run n f t ys
    split i xs ys = ap (λ l. run n f t (i ∷ l)) refl ∙ (run-append n f t (i ∷ xs) ys ∙ ap (λ l. run n f t (i ∷ l) ++ run n f t ys) (sym (append-nil xs)))

below_live : (n : ℕ) (f : Forest) (p : Place) (m : Tree) → Some m ≡ live_tree f p.tree → below_place n f p ≡ hung_to n f p ++ run n f p.tree (ids (below m.trees p.node))
below_live n f p m l = ap (λ o. hung_to n f p ++ run n f p.tree (ids_below o p.node)) (sym l)

-- a run is the place and what stands below it
pub run_is : (n : ℕ) (f : Forest) (p : Place) (m : Tree) → Some m ≡ live_tree f p.tree → has m.trees p.node ≡ true → run_at n f p.tree m.trees p.node ≡ p ∷ below_place n f p
run_is n f p m l h = ap (run n f p.tree) (pre_is m.trees p.node h) ∙ ap (λ l. p ∷ l) (sym (below_live n f p m l))

-- where a tree hangs, that is below the place; elsewhere the node's children
pub below_lone : (n : ℕ) (f : Forest) (p q : Place) (m h : Tree) → IsSound f → Some m ≡ live_tree f p.tree → Some q ≡ hung_root n f p → Some h ≡ live_tree f q.tree
    → below_place n f p ≡ run_at (n - 1) f q.tree h.trees q.node
below_lone n f p q m h s l e k =
    below_live n f p m l
    ∙ (ap (λ xs. hung_to n f p ++ xs) (sym (run_below n f p.tree m.trees p.node (sound_tree f p.tree m s (sym l)).distinct) ∙ ap (flat_map (run_at n f p.tree m.trees)) (hung_lone n f p q m s e l))
    ∙ (append-nil (hung_to n f p) ∙ hung_places n f p q h s e k))

pub below_own : (n : ℕ) (f : Forest) (p : Place) (m : Tree) → IsSound f → Some m ≡ live_tree f p.tree → None ≡ hung_root n f p → below_place n f p ≡ flat_map (run_at n f p.tree m.trees) (children m.trees p.node)
below_own n f p m s l e =
    below_live n f p m l
    ∙ (ap (λ xs. xs ++ run n f p.tree (ids (below m.trees p.node))) (none_hung n f p e) ∙ sym (run_below n f p.tree m.trees p.node (sound_tree f p.tree m s (sym l)).distinct))

-- ---- nodes in lists

pub all_there : (w : Trees Look) (xs : List ℕ) → ((c : ℕ) → contains xs c ≡ true → has w c ≡ true) → AllThere w xs
all_there w [] h = tt
all_there w (x ∷ xs) h = (h x (grind (arith, eqb_tells x x)), all_there w xs (λ c g. h c (grind (arith, g))))

pub there_at : (w : Trees Look) (xs : List ℕ) (i c : ℕ) → AllThere w xs → i < length xs → c ≡ get_or xs i c → has w c ≡ true
there_at w [] i c a l g = absurd (omega (arith, l))
there_at w (x ∷ xs) zero c a l g = ap (has w) g ∙ a.0
there_at w (x ∷ xs) (suc i) c a l g = there_at w xs i c a.1 (omega (arith, l)) g

children_in : (w : Trees Look) (z c : ℕ) → contains (children w z) c ≡ true → has w c ≡ true
children_in w z c g = below_in w z c (root_in (below w z) c (sym (contains_roots (below w z) c) ∙ g))

pub children_there : (m : Tree) (z : ℕ) (r : Option (Bor NodeData)) (b : Bor NodeData) (xs : List ℕ) → option_copied r ≡ node m z → r ≡ Some b → xs ≡ b.now.children → AllThere m.trees xs
children_there m z r b xs e s x = let k = children_told m z r b xs e s x in all_there m.trees xs (λ c g. children_in m.trees z c (ap (λ ys. contains ys c) (sym k) ∙ g))

pub past_there : (m : Tree) (z a : ℕ) (r : Option (Bor NodeData)) (b : Bor NodeData) (xs ys : List ℕ) → option_copied r ≡ node m z → r ≡ Some b → xs ≡ b.now.children → ys ≡ past xs a → AllThere m.trees ys
past_there m z a r b xs ys e s x p =
    let k = children_told m z r b xs e s x in
    all_there m.trees ys (λ c g. children_in m.trees z c (ap (λ ys. contains ys c) (sym k) ∙ past_in xs a c (ap (λ ys. contains ys c) (sym p) ∙ g)))

pub ahead_there : (m : Tree) (z a : ℕ) (r : Option (Bor NodeData)) (b : Bor NodeData) (xs ys : List ℕ) → option_copied r ≡ node m z → r ≡ Some b → xs ≡ b.now.children → ys ≡ ahead xs a → AllThere m.trees ys
ahead_there m z a r b xs ys e s x p =
    let k = children_told m z r b xs e s x in
    all_there m.trees ys (λ c g. children_in m.trees z c (ap (λ ys. contains ys c) (sym k) ∙ ahead_in xs a c (ap (λ ys. contains ys c) (sym p) ∙ g)))

-- ---- a walk down ends

pub hung_falls : (n t : ℕ) (f : Forest) (p q : Place) (w : Trees Look) (h : Tree) → IsSound f → Some q ≡ hung_root n f p → Some h ≡ live_tree f q.tree → n * 300 + height (below w p.node) ≤ t
    → (n - 1) * 300 + height (below h.trees q.node) < t
hung_falls n t f p q w h s e l b =
    let low = (s.live q.tree h (sym l)).low in
    let lower = root_lower h.trees q.node (hung_there n f p q h e l) in
    let less = hung_less n f p q e in
    omega (arith, low, lower, less, b)

pub child_falls : (n t : ℕ) (f : Forest) (p : Place) (m : Tree) (c i : ℕ) (r : Option (Bor NodeData)) (b : Bor NodeData) (xs : List ℕ) → IsSound f → Some m ≡ live_tree f p.tree → option_copied r ≡ node m p.node → r ≡ Some b
    → xs ≡ b.now.children → i < length xs → c ≡ get_or xs i c → n * 300 + height (below m.trees p.node) ≤ t → n * 300 + height (below m.trees c) < t
child_falls n t f p m c i r b xs s l e k x j g h =
    let lower = child_lower m.trees p.node c i xs (sound_tree f p.tree m s (sym l)).distinct (children_told m p.node r b xs e k x) j g in
    omega (arith, lower, h)

-- ---- hosts

bare_ids : {X : Type 0} (w : Trees X) → roots w ≡ [] → ids w ≡ []
bare_ids bare e = refl
bare_ids (tree i x a b) e = absurd (cc)

-- behind a host in its tree, nothing stands below it
pub host_past : (f : Forest) (t : ℕ) (q : Place) → IsSound f → host_of f t ≡ Some q → past (tree_ids f q.tree) q.node ≡ ids_behind (live_tree f q.tree) q.node
host_past f t q s h =
    let host = host_is f t q h in
    let w = host.over.trees in
    let d = (sound_tree f q.tree host.over s host.over_live).distinct in
    let n = host_node f t q host d in
    ap (λ o. past (ids_of o) q.node) host.over_live
    ∙ (past_ids w q.node d n.there
    ∙ (ap (λ xs. xs ++ behind w q.node) (bare_ids (below w q.node) n.lone) ∙ ap (λ o. ids_behind o q.node) (sym host.over_live)))
