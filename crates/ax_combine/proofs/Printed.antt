-- A combined tree as it is printed: each number is a node's, and the nodes and what stands above them are the rule's.
use Rattle.std.proofs.Common.{ℕ, zero, suc, ◌+◌, ◌<◌, ◌≡◌, true, List, [], ◌∷◌, map, length, Option, Some, None, is_some, refl, sym, ap, subst, ◌∙◌, arith, slice_get, option_map}
use Rattle.std.specs.List.{enumerate_from}
use Rattle.ax_base.specs.declared.position.Place.{Place}
use Rattle.ax_node.specs.Look.{Look}
use Rattle.ax_node.specs.declared.tree_data.TreeData.{TreeData}
use Rattle.ax_trees.specs.Nodes.{Node, node_at}
use Rattle.ax_tree.specs.Forest.{Forest}
use Rattle.ax_tree.specs.Tree.{Tree, as_node, data_of, node}
use Rattle.ax_tree.specs.SerialRule.{all_of}
use Rattle.ax_rules.specs.Stitched.{Placed, stitched}
use Rattle.ax_rules.specs.Combined.{combined_node, combined_nodes}
use Rattle.ax_stitch.proofs.Hosts.{AllOf, listed_nodes}
use Rattle.ax_report.specs.Combining.{AreNodes, IsCombined as IsPrinted}
use Rattle.ax_combine.specs.declared.nodes.Row.{Row}
use Rattle.ax_combine.specs.Joining.{IsCombined}
use Rattle.ax_combine.specs.Kept.{Joined, row_at, node_in, kept_trees, IsKept}
use Rattle.ax_combine.proofs.Rows.{got_there, mapped_at, kept_tree}

-- ---- each number is a node's

node_there : (about : TreeData) (rows : List Row) (ps : List Place) (k : ℕ) → IsKept rows ps (kept_trees rows) → k < length ps → is_some (node (kept_tree about rows) (k + 1)) ≡ true
node_there about rows ps k h low =
    let n = h.long in
    let r = got_there rows k (omega (arith, n, low)) in
    let z : k + 1 ≡ suc k = omega arith in
    let here : node_in rows (suc k) ≡ Some (as_node r.0.node) = ap (option_map (λ (x : Row). as_node x.node)) r.1 in
    ap (λ i. is_some (node (kept_tree about rows) i)) z ∙ ap (λ o. is_some (option_map data_of o)) (h.nodes (suc k) ∙ here)

pub nodes_there : (about : TreeData) (rows : List Row) (ps : List Place) → IsKept rows ps (kept_trees rows) → AreNodes ps (kept_tree about rows)
nodes_there about rows ps h = record { few = h.few; nodes = λ k low. node_there about rows ps k h low }

-- ---- the nodes in pre-order are those of the numbers

of_all : {A : Type 0} (F : A → Type 0) (l : List A) (k : ℕ) (x : A) → AllOf F l → slice_get l k ≡ Some x → F x
of_all F [] k x h e = absurd (cc)
of_all {A} F (y ∷ l) zero x h e = let same : y ≡ x = cc in subst F same h.0
of_all F (y ∷ l) (suc k) x h e = of_all F l k x h.1 e

named : (l : List Placed) (n : ℕ) (s : Placed) → (combined_node l (n, s)).id ≡ n
unfolding combined_node
named l n s = refl

node_is : (f : Forest) (ps : List Place) (m : Tree) (k : ℕ) (s : Placed) → IsCombined f ps m → slice_get (stitched f) k ≡ Some s → node m (k + 1) ≡ Some (data_of (combined_node (stitched f) (k + 1, s)))
unfolding combined_nodes
node_is f ps m k s c e =
    let all : AllOf (λ (n : Node Look). node_at m.trees n.id ≡ Some n) (combined_nodes f) =
    subst (AllOf (λ (n : Node Look). node_at m.trees n.id ≡ Some n)) c.nodes (listed_nodes m.trees c.formed.distinct) in
    let z : 1 + k ≡ k + 1 = omega arith in
    let at : slice_get (map (combined_node (stitched f)) (enumerate_from 1 (stitched f))) k ≡ Some (combined_node (stitched f) (k + 1, s)) =
    mapped_at (combined_node (stitched f)) 1 (stitched f) k ∙ (ap (option_map (λ x. combined_node (stitched f) (1 + k, x))) e ∙ ap (λ i. Some (combined_node (stitched f) (i, s))) z) in
    let here = of_all (λ (n : Node Look). node_at m.trees n.id ≡ Some n) (combined_nodes f) k (combined_node (stitched f) (k + 1, s)) all at in
    ap (λ i. option_map data_of (node_at m.trees i)) (sym (named (stitched f) (k + 1) s)) ∙ ap (option_map data_of) here

-- so the printed tree is the combined tree
pub is_printed : (f : Forest) (ps : List Place) (m : Tree) → IsCombined f ps m → IsPrinted f ps m
is_printed f ps m c = record { first = c.first; about = c.about; listed = c.listed; nodes = λ k s e. node_is f ps m k s c e; parents = c.parents }
