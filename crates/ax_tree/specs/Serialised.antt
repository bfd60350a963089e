-- The serialisation rule: the update at a node of the source, the bundle of a pass, and when a receiver is in step.
use Rattle.std.specs.Prelude.{ℕ, ◌≡◌, Bool, false, ◌||◌, if◌then◌else◌, List, [], ◌∷◌, ◌++◌, Some, None}
use Rattle.ax_node.specs.declared.tree_data.TreeData.{TreeData}
use Rattle.ax_trees.specs.Trees.{is_bare}
use Rattle.ax_tree.specs.declared.update.TreeUpdate.{TreeUpdate}
use Rattle.ax_tree.specs.UpdateRule.{Update}
use Rattle.ax_tree.specs.SerialRule.{trees_update}
use Rattle.ax_tree.specs.InStep.{TreesInStep, marks_left}
use Rattle.ax_tree.specs.Bundles.{Client, client_after, trees_updates}
use Rattle.ax_node.specs.Look.{Look}
use Rattle.ax_tree.specs.Tree.{Tree}
use Rattle.ax_tree.specs.Updates.{nodes_part, with_data}

-- the update at d, without tree data; the client after it; and the marks that it leaves
abbrev pub update_of : Client → Tree → List ℕ → ℕ → TreeUpdate
update_of c s m d = with_data (trees_update c s.trees m d) None

abbrev pub client_after_update : Client → TreeUpdate → Client
client_after_update c u = client_after c (nodes_part u)

abbrev pub marks_after_update : TreeUpdate → ℕ → List ℕ → List ℕ
marks_after_update u d m = marks_left (nodes_part u) d m

-- Tree data ride on the last update. Where there is none, the bundle is one update with tree data alone.
abbrev pub riding : TreeData → List (Update Look) → List TreeUpdate
riding d [] = with_data (record { clear = None; root = None; nodes = [] }) (Some d) ∷ []
riding d (u ∷ []) = with_data u (Some d) ∷ []
riding d (u ∷ (v ∷ us)) = with_data u None ∷ riding d (v ∷ us)

abbrev pub alone : List (Update Look) → List TreeUpdate
alone [] = []
alone (u ∷ us) = with_data u None ∷ alone us

abbrev pub with_tree_data : Bool → TreeData → List (Update Look) → List TreeUpdate
with_tree_data rides d us = if rides then riding d us else alone us

-- The bundle of a pass: the updates that earlier passes kept, then those that bring the client to the source.
-- Tree data ride where they were changed, or the bundle began from an empty client (`fresh`).
abbrev pub resumed_bundle : List (Update Look) → Client → Tree → List ℕ → Bool → Bool → List TreeUpdate
resumed_bundle kept c s m flag fresh = with_tree_data (flag || fresh) s.about (kept ++ trees_updates c s.trees m)

-- where nothing was kept
abbrev pub bundle_of : Client → Tree → List ℕ → Bool → List TreeUpdate
bundle_of c s m flag = with_tree_data (flag || is_bare c) s.about (trees_updates c s.trees m)

-- A receiver's tree r fits the source s with the marks m. `fresh` says that the bundle at hand began from an empty client.
pub record InStep (r s : Tree) (m : List ℕ) (flag fresh : Bool) : Type 0 where
  pub trees : TreesInStep r.trees s.trees m
  pub same_tree : r.about.tree ≡ s.about.tree
  -- tree data are the source's, unless they are to be sent
  pub same_data : (flag || fresh) ≡ false → r.about ≡ s.about
