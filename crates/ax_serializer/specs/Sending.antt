-- What a serializer is seen as, and what its calls make of it.
use Rattle.std.specs.Prelude.{ℕ, ◌≡◌, Bool, true, false, ◌&&◌, is_none, is_some, List, [], ◌∷◌, None, refl}
use Rattle.std.specs.Coded.{Coded, code_by, coded×, coded_list}
use base.Stored.{coded_unit}
use Rattle.ax_marks.specs.MarkList.{without}
use Rattle.ax_node.specs.declared.node.NodeData.{NodeData}
use Rattle.ax_trees.specs.Trees.{Trees, has}
use Rattle.ax_trees.specs.Code.{coded_trees}
use Rattle.ax_tree.specs.Bundles.{Client}
use Rattle.ax_tree.specs.declared.update.TreeUpdate.{TreeUpdate}
use Rattle.ax_tree.specs.contracts.update.TreeUpdate.{the_row}
use Rattle.ax_serializer.specs.declared.serializer.SerErr.{SerErr}
use Rattle.ax_serializer.specs.declared.serializer.SerErr.TheVariants.{UnknownNode, NoMemory}

-- what is known of the receiver, and the updates that are kept
pub record Sending : Type 0 where
  pub client : Client
  pub kept : List TreeUpdate

-- it is stored as the pair of its parts
abbrev pub coded_sending : Coded Sending
coded_sending = code_by (Client × List TreeUpdate) (coded× (coded_trees coded_unit) (coded_list the_row.coded)) (λ s. (s.client, s.kept)) (λ p. record { client = p.0; kept = p.1 }) (λ _. refl)

-- the updates begin from an empty client: the first one names a root and clears nothing
abbrev pub is_fresh : List TreeUpdate → Bool
is_fresh [] = false
is_fresh (u ∷ us) = is_some u.root && is_none u.clear

abbrev pub bare_of_data : TreeUpdate → TreeUpdate
bare_of_data u = record u { tree_data = None }

-- the marks without those of the nodes
abbrev pub left_after : List NodeData → List ℕ → List ℕ
left_after [] m = m
left_after (n ∷ ns) m = left_after ns (without m n.id)

-- what a refused call at z may answer: that z isn't there, where it isn't, and else that there is no memory
abbrev pub IsSerRefusal : {X : Type 0} → Trees X → ℕ → SerErr → Type 0
IsSerRefusal f z (UnknownNode y) = (y ≡ z) × (has f z ≡ false)
IsSerRefusal f z NoMemory = has f z ≡ true
