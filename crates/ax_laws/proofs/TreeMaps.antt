-- Trees of the program's types as finite maps.
use Rattle.std.proofs.Common.{ℕ, ◌≡◌, refl, sym, ap, ◌∙◌, subst, Option, None, Some}
use Rattle.std.proofs.Math.Path.{fun_ext}
use Rattle.std.specs.Prelude.{option_map}
use Rattle.ax_node.specs.declared.node.NodeData.{NodeData}
use Rattle.ax_node.specs.declared.tree_data.TreeData.{TreeData}
use Rattle.ax_trees.specs.Trees.{root_of}
use Rattle.ax_trees.specs.Nodes.{Node, node_at}
use Rattle.ax_node.specs.Look.{Look}
use Rattle.ax_tree.specs.Tree.{Tree, IsWellFormed, node, as_node, data_of}
use Rattle.ax_laws.specs.FiniteMap.{IsTreeMap}
use Rattle.ax_laws.specs.TreeLaws.{node_map, TreeTold}
use Rattle.ax_laws.proofs.FiniteMaps.{shows_map, same_map, TellsMap, map_shown}

node_of_data : (o : Option (Node Look)) → option_map as_node (option_map data_of o) ≡ o
node_of_data None = refl
node_of_data (Some n) = refl

data_of_node : (o : Option NodeData) → option_map data_of (option_map as_node o) ≡ o
data_of_node None = refl
data_of_node (Some n) = refl

nodes_are : (t : Tree) → node_map (node t) ≡ node_at t.trees
nodes_are t = fun_ext (λ z. node_of_data (node_at t.trees z))

pub tree_shows : (t : Tree) → IsWellFormed t → IsTreeMap (node_map (node t)) (root_of t.trees)
tree_shows t w = subst (λ m. IsTreeMap m (root_of t.trees)) (sym (nodes_are t)) (shows_map t.trees w)

pub tree_told : (about : TreeData) (m : ℕ → Option NodeData) (root : Option ℕ) → IsTreeMap (node_map m) root → TreeTold about m root
tree_told about m root h =
    let it : TellsMap (node_map m) root = map_shown (node_map m) root h in
    record {
      tree = record { about = about; trees = it.trees };
      well_formed = it.is_tree;
      about_same = refl;
      root_same = it.root_same;
      nodes = λ z. ap (option_map data_of) (it.nodes z) ∙ data_of_node (m z);
    }

pub tree_one : (t q : Tree) → IsWellFormed t → IsWellFormed q → t.about ≡ q.about → root_of t.trees ≡ root_of q.trees → ((z : ℕ) → node t z ≡ node q z) → t ≡ q
tree_one t q tw qw a e h =
    let nodes : (z : ℕ) → node_at t.trees z ≡ node_at q.trees z =
    λ z. sym (node_of_data (node_at t.trees z)) ∙ (ap (option_map as_node) (h z) ∙ node_of_data (node_at q.trees z)) in
    let same : t.trees ≡ q.trees = same_map t.trees q.trees tw qw e nodes in
    ap (λ x. record { about = x; trees = t.trees }) a ∙ ap (λ f. record { about = q.about; trees = f }) same
