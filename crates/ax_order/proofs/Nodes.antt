-- Nodes at ids, and those that two trees share. It belongs in `ax_trees` and beside touched ids.
use Rattle.std.proofs.Common.{ℕ, ◌≡◌, true, false, eqb, List, Option, Some, None, refl, sym, ap, ◌∙◌, arith}
use Rattle.std.specs.Prelude.{option_map}
use Rattle.std.proofs.lemmas.Bool.Decides.{eqb_tells}
use Rattle.std.proofs.lemmas.Bool.{false_from_ne_true}
use Rattle.ax_node.specs.Look.{Look}
use Rattle.ax_trees.specs.Trees.{Trees, tree, has, IsDistinct}
use Rattle.ax_trees.specs.Nodes.{Node, node_at}
use Rattle.ax_trees.specs.Lists.{contains}
use Rattle.ax_trees.proofs.Trees.{by_go}
use Rattle.ax_trees.proofs.Grown.{node_none}
use Rattle.ax_tree.specs.Tree.{Tree, data_of, as_node}
use Rattle.ax_order.specs.Touched.{NamesChanges}

pub node_there : {X : Type 0} (f : Trees X) (z : ℕ) (n : Node X) → node_at f z ≡ Some n → has f z ≡ true
node_there {X} f z n e = by_go (has f z) (λ q. q) (λ q. absurd (let no : ◌≡◌ {A = Option (Node X)} None (Some n) = sym (node_none f z q) ∙ e in cc))

-- a node that was read by its id
pub back : (o : Option (Node Look)) → option_map as_node (option_map data_of o) ≡ o
back None = refl
back (Some n) = refl

pub node_inner : {X : Type 0} (i : ℕ) (x : X) (k r : Trees X) (z : ℕ) → IsDistinct (tree i x k r) → has k z ≡ true → node_at (tree i x k r) z ≡ node_at k z
node_inner i x k r z d h = let no : eqb i z ≡ false = grind (arith, eqb_tells i z, d.0, h) in rw (no, h) refl

pub node_later : {X : Type 0} (i : ℕ) (x : X) (k r : Trees X) (z : ℕ) → IsDistinct (tree i x k r) → has r z ≡ true → node_at (tree i x k r) z ≡ node_at r z
node_later i x k r z d h =
    let no : eqb i z ≡ false = grind (arith, eqb_tells i z, d.1, h) in
    let none : has k z ≡ false = false_from_ne_true (has k z) (λ g. grind (arith, d.2.apart z g, h)) in
    rw (no, none) refl

-- ---- an id that isn't touched

pub same_node : (old new : Tree) (touched : List ℕ) (z : ℕ) → NamesChanges old new touched → contains touched z ≡ false → node_at new.trees z ≡ node_at old.trees z
same_node old new touched z h c = sym (back (node_at new.trees z)) ∙ (ap (option_map as_node) (h z c) ∙ back (node_at old.trees z))
