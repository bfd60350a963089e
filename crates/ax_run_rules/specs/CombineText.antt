-- The text of the combined tree, and of a run with it.
use Rattle.std.specs.Prelude.{ℕ, List, [], ◌∷◌, codes, flat_map, Option, option_map, option_and_then, option_to_list}
use Rattle.std.specs.List.{enumerate_from}
use Rattle.std.specs.Fmt.{decimal}
use Rattle.ax_node.specs.declared.tree_data.TreeData.{TreeData}
use Rattle.ax_tree.specs.Forest.{Forest, first_tree}
use Rattle.ax_run_rules.specs.Scripts.{Script}
use Rattle.ax_run_rules.specs.States.{Run, forest_now}
use Rattle.ax_run_rules.specs.Finale.{finished}
use Rattle.ax_rules.specs.Stitched.{Placed, stitched, places, parent_of}
use Rattle.ax_rules.specs.Combined.{number_of, numbered_look, combined_data}
use Rattle.ax_run_rules.specs.Writing.{◌⌢◌, id_text, place_text}
use Rattle.ax_run_rules.specs.ReplyText.{role_text}
use Rattle.ax_run_rules.specs.Dump.{tree_line, look_text}
use Rattle.ax_run_rules.specs.ReplayText.{replay_text}

unfoldable pub node_line : List Placed → ℕ × Placed → List ℕ
node_line l s =
    decimal s.0 ⌢ codes " under " ⌢ id_text (option_and_then (number_of (places l)) (parent_of s.1)) ⌢ codes " from " ⌢ place_text s.1.place
    ⌢ codes " " ⌢ role_text s.1.look.role ⌢ look_text (numbered_look (places l) s.1) ⌢ codes "\n"

abbrev pub placed_text : ℕ → TreeData → List Placed → List ℕ
placed_text t d [] = codes "tree " ⌢ decimal t ⌢ codes " empty\n"
placed_text t d (s ∷ l) = tree_line d ⌢ flat_map (node_line (s ∷ l)) (enumerate_from 1 (s ∷ l))

-- the line of the tree, and one for each place in order; t is the first tree
unfoldable pub combined_text : Forest → ℕ → List ℕ
combined_text f t = placed_text t (combined_data f t) (stitched f)

abbrev pub combined_after : Run → List ℕ
combined_after r = let f = forest_now r.state in codes "combined\n" ⌢ flat_map (combined_text f) (option_to_list (first_tree f))

unfoldable pub combine_text : Script → Option (List ℕ)
combine_text s =
    option_and_then (λ text. option_map (λ r. text ⌢ combined_after r) (finished s s.order)) (replay_text s s.order)
