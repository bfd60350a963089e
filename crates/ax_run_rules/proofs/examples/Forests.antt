-- Where trees hang, and a packet whose slip says something else than its bundle.
use Rattle.std.proofs.Common.{ℕ, ◌≡◌, [], ◌∷◌, refl, Option, Some, None}
use Rattle.ax_node.specs.Look.{Look, blank_look}
use Rattle.ax_node.specs.declared.value.Value.TheVariants as values
use Rattle.ax_trees.specs.Trees.{Trees, bare, tree, root_of}
use Rattle.ax_tree.specs.Tree.{Tree, blank_data}
use Rattle.ax_tree.specs.Forest.{Forest, host_of, hosted_by, child_tree_key}
use Rattle.ax_tree.specs.declared.edit.Edit.TheVariants as edits
use Rattle.ax_tree.specs.declared.packet.Packet.{Packet}
use Rattle.ax_tree.specs.declared.packet.HEntry.TheVariants.{Got}
use Rattle.ax_tree.specs.declared.verdict.Verdict.TheVariants.{Applied}
use Rattle.ax_rules.specs.Rows.{subtree_created}
use Rattle.ax_rules.specs.Mirrors.{built_of, built_verdict_of}
use Rattle.ax_run_rules.proofs.Computing.{computing}
use Rattle.ax_run_rules.proofs.ScriptWords.{blank, place, update}

-- a tree whose root has the trees f below it
abbrev over : ℕ → Option ℕ → Trees Look → Tree
over t parent f = record { about = record (blank_data t) { parent = parent }; trees = tree 1 blank_look f bare }

-- tree 1, which may be gone, with f below its root, and tree 2, which names it as its parent
abbrev pair : Option Tree → Forest
pair first = record { id = 1; tree = first } ∷ record { id = 2; tree = Some (over 2 (Some 1) bare) } ∷ []

abbrev hosts : Trees Look → Forest
hosts f = pair (Some (over 1 None f))

abbrev host : Look
host = record blank_look { attrs = (child_tree_key, values.Tree 2) ∷ [] }

first_of_two : host_of (hosts (tree 2 host bare (tree 3 host bare bare))) 2 ≡ Some (place 1 2)
first_of_two = refl

hangs_there : hosted_by (hosts (tree 2 host bare (tree 3 host bare bare))) (place 1 2) ≡ Some 2
hangs_there = refl

not_at_the_second : hosted_by (hosts (tree 2 host bare (tree 3 host bare bare))) (place 1 3) ≡ None
not_at_the_second = refl

second_after_first_goes : host_of (hosts (tree 3 host bare bare)) 2 ≡ Some (place 1 3)
second_after_first_goes = refl

not_at_a_node_with_children : host_of (hosts (tree 3 host (tree 4 blank_look bare bare) bare)) 2 ≡ None
not_at_a_node_with_children = refl

not_in_a_gone_tree : host_of (pair None) 2 ≡ None
not_in_a_gone_tree = refl

-- the slip makes node 1 the root, and the bundle node 2
abbrev strange : Packet
strange = record {
  tree = 1;
  pass = record { 0 = 1 };
  base = record { 0 = 0 };
  token = record { 0 = 0 };
  slip = edits.Root (blank 1) ∷ [];
  bundle = update None (Some 2) (blank 2 ∷ []) ∷ [];
}

bundle_decides : built_verdict_of [] strange ≡ Applied (record { 0 = 1 }) (record { tree = 1; node = Some 2; kind = subtree_created } ∷ [])
unfolding computing
bundle_decides = refl

abbrev built_root : Option ℕ
built_root = root_of (built_of (Got strange ∷ []) 1).trees

bundle_is_built : built_root ≡ Some 2
unfolding computing
bundle_is_built = refl
