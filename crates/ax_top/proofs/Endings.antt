-- What an ending appends, and the text of a run with it.
use Rattle.std.proofs.Common.{ℕ, ◌≡◌, List, ◌++◌, flat_map, sym, ap, ◌∙◌, append_assoc, append-nil, Result, Ok, Err, OnOk, Option, Some, None, option_map, option_and_then}
use Rattle.std.specs.Prelude.{codes, option_to_list}
use Rattle.ax_base.specs.declared.seq.NoMemory.{NoMemory}
use Rattle.ax_base.specs.declared.position.Place.{Place}
use Rattle.ax_tree.specs.Forest.{Forest, first_tree}
use Rattle.ax_tree.specs.Tree.{Tree}
use Rattle.ax_forest.specs.Past.{Past, forest_of}
use Rattle.ax_run_rules.specs.States.{State, Run, forest_now}
use Rattle.ax_run_rules.specs.Finale.{finished}
use Rattle.ax_run_rules.specs.CombineText.{combined_text, combine_text, combined_after}
use Rattle.ax_script.specs.declared.script.Script.{Script}
use Rattle.ax_report.specs.Combining.{IsCombined as IsPrinted}
use Rattle.ax_combine.specs.Joining.{IsCombined}
use Rattle.ax_combine.proofs.Printed.{is_printed}
use Rattle.ax_core.specs.Standing.{at}
use Rattle.ax_core.specs.Starting.{script_in}
use Rattle.ax_top.specs.declared.ending.Ending.{Ending}
use Rattle.ax_top.specs.declared.ending.Ending.TheVariants.{Dump, Combined}
use Rattle.ax_top.specs.Runs.{in_turn, replay_of}
use Rattle.ax_top.specs.Endings.{combine_of, ending_text, run_text}
use Rattle.ax_top.specs.Answer.{text_of}
use Rattle.ax_top.specs.Running.{IsRun}

-- the lines of the combined tree
abbrev tree_lines : Forest → List ℕ
tree_lines f = flat_map (combined_text f) (option_to_list (first_tree f))

pub combined_told : (done : Result (Unit {0}) NoMemory) (s : State) (p : Past) (ps : List Place) (m : Tree) (before a after : List ℕ) → forest_of p ≡ forest_now s → IsCombined (forest_of p) ps m → a ≡ before ++ codes "combined\n"
    → OnOk done ((f : Forest) → IsPrinted f ps m → after ≡ a ++ flat_map (combined_text f) (option_to_list (first_tree f))) → OnOk done (after ≡ before ++ combined_after (at s))
combined_told (Err e) s p ps m before a after now c h k = tt
combined_told (Ok u) s p ps m before a after now c h k =
    k (forest_of p) (is_printed (forest_of p) ps m c)
    ∙ (ap (λ xs. xs ++ tree_lines (forest_of p)) h
    ∙ (append_assoc before (codes "combined\n") (tree_lines (forest_of p)) ∙ ap (λ f. before ++ (codes "combined\n" ++ tree_lines f)) now))

whole_told : (e : Ending) (s : Script) (new : State) (text whole : List ℕ) → IsRun s new text → whole ≡ text ++ ending_text e new → run_text e s ≡ Some whole
unfolding combine_of combine_text replay_of
whole_told Dump s new text whole r h = r.told ∙ ap Some (sym (h ∙ append-nil text))
whole_told Combined s new text whole r h =
    ap (option_and_then (λ xs. option_map (λ (q : Run). xs ++ combined_after q) (finished (script_in s) s.order))) r.told
    ∙ (ap (option_map (λ (q : Run). text ++ combined_after q)) r.ran
    ∙ ap Some (ap (λ (x : State). text ++ combined_after (at x)) r.state ∙ sym h))

-- the text where no item is missing
pub told_whole : (e : Ending) (s : Script) (m : Option ℕ) (new : State) (text whole : List ℕ) → m ≡ None → IsRun s new text → whole ≡ text ++ ending_text e new → text_of (run_text e) (in_turn s m) ≡ Some whole
told_whole e s m new text whole n r h = ap (λ o. text_of (run_text e) (in_turn s o)) n ∙ whole_told e s new text whole r h
