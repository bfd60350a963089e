-- Runs of places: a node's place, what hangs there, and those of its children.
use Rattle.std.proofs.Common.{ℕ, zero, suc, ◌+◌, ◌-◌, ◌*◌, ◌<◌, ◌≤◌, ◌≡◌, true, flat_map, List, [], ◌∷◌, ◌++◌, length, get_or, Bor, Option, Some, None, refl, sym, ap, ◌∙◌, arith, append-nil, append_assoc, take}
use Rattle.std.specs.Option.{option_copied}
use Rattle.std.specs.Prelude.{Result, Ok, Err, IfOk}
use Rattle.std.proofs.lemmas.List.{take_more, take_all}
use Rattle.std.proofs.lemmas.List.Concat.{flat_map-append}
use Rattle.std.proofs.lemmas.Bool.Decides.{eqb_tells}
use Rattle.ax_base.specs.declared.position.Place.{Place}
use Rattle.ax_node.specs.Look.{Look}
use Rattle.ax_node.specs.declared.node.NodeData.{NodeData}
use Rattle.ax_trees.specs.Trees.{Trees, bare, tree, has, ids, roots, height, IsDistinct}
use Rattle.ax_trees.specs.Nodes.{below, children, pre}
use Rattle.ax_trees.specs.Lists.{contains}
use Rattle.ax_trees.proofs.Trees.{root_in, below_in, contains_roots}
use Rattle.ax_tree.specs.Tree.{Tree, node}
use Rattle.ax_tree.specs.Forest.{Forest, IsSound, live_tree, host_of}
use Rattle.ax_rules.specs.Stitched.{place_at}
use Rattle.ax_stitch.specs.Orders.{ahead, past, behind}
use Rattle.ax_stitch.specs.Levels.{ids_of, tree_ids, hung_to, hung_root}
use Rattle.ax_stitch.proofs.Lists.{ahead_in, past_in}
use Rattle.ax_stitch.proofs.Orders.{pre_is, past_ids}
use Rattle.ax_stitch.proofs.Hosts.{host_is, host_node}
use Rattle.ax_stitch.proofs.Sound.{sound_tree}
use Rattle.ax_stitch.proofs.Parts.{child_parts}
use Rattle.ax_stitch.proofs.Listed.{child_lower}
use Rattle.ax_stitch.proofs.Hung.{hung_less, hung_there, hung_lone, hung_places, none_hung, root_lower}
use Rattle.ax_stitch.proofs.Views.{children_told}
use Rattle.ax_combine.specs.Runs.{run, run_at, ids_below, below_place}

pub run-append : (n : ℕ) (f : Forest) (t : ℕ) (xs ys : List ℕ) → run n f t (xs ++ ys) ≡ run n f t xs ++ run n f t ys
run-append n f t xs ys = flat_map-append (λ j. place_at t j ∷ hung_to n f (place_at t j)) xs ys

-- the runs of the children are what stands below in the tree
pub run_below : (n : ℕ) (f : Forest) (t : ℕ) (w : Trees Look) (z : ℕ) → IsDistinct w → flat_map (run_at n f t w) (children w z) ≡ run n f t (ids (below w z))
run_below n f t w z d = child_parts (λ u. run n f t (ids u)) refl (λ i x a b. split i (ids a) (ids b)) w z d
  where
    split : (i : ℕ) (xs ys : List ℕ) → run n f t (i ∷ (xs ++ ys)) ≡ run n f t (i ∷ (xs ++ [])) ++ run n f t ys
    split i xs ys = ap (λ l. run n f t (i ∷ l)) refl ∙ (run-append n f t (i ∷ xs) ys ∙ ap (λ l. run n f t (i ∷ l) ++ run n f t ys) (sym (append-nil xs)))

below_live : (n : ℕ) (f : Forest) (p : Place) (m : Tree) → Some m ≡ live_tree f p.tree → below_place n f p ≡ hung_to n f p ++ run n f p.tree (ids (below m.trees p.node))
below_live n f p m l = ap (λ o. hung_to n f p ++ run n f p.tree (ids_below o p.node)) (sym l)

-- a run is the place and what stands below it
pub run_is : (n : ℕ) (f : Forest) (p : Place) (m : Tree) → Some m ≡ live_tree f p.tree → has m.trees p.node ≡ true → run_at n f p.tree m.trees p.node ≡ p ∷ below_place n f p
run_is n f p m l h = ap (run n f p.tree) (pre_is m.trees p.node h) ∙ ap (λ l. p ∷ l) (sym (below_live n f p m l))

-- where a tree hangs, that is below the place; elsewhere the node's children
pub below_lone : (n : ℕ) (f : Forest) (p q : Place) (m h : Tree) → IsSound f → Some m ≡ live_tree f p.tree → Some q ≡ hung_root n f p → Some h ≡ live_tree f q.tree
    → below_place n f p ≡ run_at (n - 1) f q.tree h.trees q.node
below_lone n f p q m h s l e k =
    below_live n f p m l
    ∙ (ap (λ xs. hung_to n f p ++ xs) (sym (run_below n f p.tree m.trees p.node (sound_tree f p.tree m s (sym l)).distinct) ∙ ap (flat_map (run_at n f p.tree m.trees)) (hung_lone n f p q m s e l))
    ∙ (append-nil (hung_to n f p) ∙ hung_places n f p q h s e k))

pub below_own : (n : ℕ) (f : Forest) (p : Place) (m : Tree) → IsSound f → Some m ≡ live_tree f p.tree → None ≡ hung_root n f p → below_place n f p ≡ flat_map (run_at n f p.tree m.trees) (children m.trees p.node)
below_own n f p m s l e =
    below_live n f p m l
    ∙ (ap (λ xs. xs ++ run n f p.tree (ids (below m.trees p.node))) (none_hung n f p e) ∙ sym (run_below n f p.tree m.trees p.node (sound_tree f p.tree m s (sym l)).distinct))

-- ---- a walk down ends

pub hung_falls : (n t : ℕ) (f : Forest) (p q : Place) (w : Trees Look) (h : Tree) → IsSound f → Some q ≡ hung_root n f p → Some h ≡ live_tree f q.tree → n * 300 + height (below w p.node) ≤ t
    → (n - 1) * 300 + height (below h.trees q.node) < t
hung_falls n t f p q w h s e l b =
    let low = (s.live q.tree h (sym l)).low in
    let lower = root_lower h.trees q.node (hung_there n f p q h e l) in
    let less = hung_less n f p q e in
    omega (arith, low, lower, less, b)

pub child_falls : (n t : ℕ) (f : Forest) (p : Place) (m : Tree) (c i : ℕ) (r : Option (Bor NodeData)) (b : Bor NodeData) (xs : List ℕ) → IsSound f → Some m ≡ live_tree f p.tree → option_copied r ≡ node m p.node → r ≡ Some b
    → xs ≡ b.now.children → i < length xs → c ≡ get_or xs i c → n * 300 + height (below m.trees p.node) ≤ t → n * 300 + height (below m.trees c) < t
child_falls n t f p m c i r b xs s l e k x j g h =
    let lower = child_lower m.trees p.node c i xs (sound_tree f p.tree m s (sym l)).distinct (children_told m p.node r b xs e k x) j g in
    omega (arith, lower, h)

-- ---- one part after the other

pub flat_more : {A : Type 0} (s : ℕ → List A) (xs : List ℕ) (i c : ℕ) → i < length xs → c ≡ get_or xs i c → flat_map s (take (i + 1) xs) ≡ flat_map s (take i xs) ++ s c
flat_more s xs i c l g =
    ap (flat_map s) (take_more xs i c l ∙ ap (λ y. take i xs ++ y ∷ []) (sym g))
    ∙ (flat_map-append s (take i xs) (c ∷ []) ∙ ap (λ l. flat_map s (take i xs) ++ l) (append-nil (s c)))

pub flat_all : {A : Type 0} (s : ℕ → List A) (xs : List ℕ) (i : ℕ) → length xs ≤ i → flat_map s (take i xs) ≡ flat_map s xs
flat_all s xs i l = ap (flat_map s) (take_all i xs l)

pub added_more : {A : Type 0} (s : ℕ → List A) (from now later : List A) (xs : List ℕ) (i c : ℕ) → i < length xs → c ≡ get_or xs i c → now ≡ from ++ flat_map s (take i xs) → later ≡ now ++ s c
    → later ≡ from ++ flat_map s (take (i + 1) xs)
added_more s from now later xs i c l g h k =
    k ∙ (ap (λ v. v ++ s c) h ∙ (append_assoc from (flat_map s (take i xs)) (s c) ∙ ap (λ v. from ++ v) (sym (flat_more s xs i c l g))))

pub added_all : {A : Type 0} (s : ℕ → List A) (from now : List A) (xs : List ℕ) (i : ℕ) → length xs ≤ i → now ≡ from ++ flat_map s (take i xs) → now ≡ from ++ flat_map s xs
added_all s from now xs i l h = h ∙ ap (λ v. from ++ v) (flat_all s xs i l)

pub ok_same : {A E X : Type 0} (r : Result A E) (new a b : X) → IfOk r (λ _. new ≡ a) → a ≡ b → IfOk r (λ _. new ≡ b)
ok_same (Ok u) new a b h e = h ∙ e
ok_same (Err x) new a b h e = tt
