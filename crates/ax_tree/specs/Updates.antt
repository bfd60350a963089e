-- The update rule: what an update and a bundle make of a tree, or the first refusal that comes.
use Rattle.std.specs.Prelude.{ℕ, suc, List, [], ◌∷◌, map, Option, Some, None, Result, Ok, Err}
use Rattle.ax_node.specs.declared.tree_data.TreeData.{TreeData}
use Rattle.ax_tree.specs.declared.update.TreeUpdate.{TreeUpdate}
use Rattle.ax_tree.specs.declared.update.BundleErr.{BundleErr}
use Rattle.ax_tree.specs.declared.update.Refusal.{Refusal}
use Rattle.ax_tree.specs.UpdateRule.{Update, and_then, trees_after}
use Rattle.ax_node.specs.Look.{Look, blank_look}
use Rattle.ax_tree.specs.Tree.{as_node, data_of, Tree}

-- an update without its tree data, and with them
abbrev pub nodes_part : TreeUpdate → Update Look
nodes_part u = record { clear = u.clear; root = u.root; nodes = map as_node u.nodes }

abbrev pub with_data : Update Look → Option TreeData → TreeUpdate
with_data u d = record { clear = u.clear; root = u.root; nodes = map data_of u.nodes; tree_data = d }

-- tree data replace the old ones, but for the tree id
abbrev pub told : Option TreeData → TreeData → TreeData
told None old = old
told (Some new) old = record new { tree = old.tree }

abbrev pub applied : TreeUpdate → Tree → Result Tree Refusal
applied u t = and_then (trees_after blank_look (nodes_part u) t.trees) (λ f. Ok (record { about = told u.tree_data t.about; trees = f }))

-- one update after the other; a refusal tells the place of its update, from n on
abbrev pub next_applied : ℕ → (Tree → Result Tree BundleErr) → Result Tree Refusal → Result Tree BundleErr
next_applied n rest (Ok t) = rest t
next_applied n rest (Err e) = Err (record { at = n; why = e })

abbrev pub applied_from : ℕ → List TreeUpdate → Tree → Result Tree BundleErr
applied_from n [] t = Ok t
applied_from n (u ∷ us) t = next_applied n (applied_from (suc n) us) (applied u t)

abbrev pub applied_all : List TreeUpdate → Tree → Result Tree BundleErr
applied_all us t = applied_from 0 us t
