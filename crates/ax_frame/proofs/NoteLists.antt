-- What is told of the updates of a bundle, by the updates of which it is made.
use Rattle.std.proofs.Common.{◌≡◌, Bool, true, false, List, [], ◌∷◌, ◌++◌, map, Option, Some, None, refl, ap, ◌∙◌}
use Rattle.std.specs.Prelude.{is_some}
use Rattle.ax_node.specs.declared.tree_data.TreeData.{TreeData}
use Rattle.ax_tree.specs.declared.update.TreeUpdate.{TreeUpdate}
use Rattle.ax_tree.specs.Serialised.{alone, riding, with_tree_data}
use Rattle.ax_tree.specs.Updates.{nodes_part, with_data}
use Rattle.ax_run_rules.specs.FrameSteps.{update_note}
use Rattle.ax_serializer.proofs.Marking.{part_with}
use Rattle.ax_frame.specs.Notes.{note_of, plain_note}

noted : (u : TreeUpdate) (a : Option TreeData) → update_note (record u { tree_data = a }) ≡ note_of (is_some a) u
unfolding update_note
noted u a = refl

told : (u : TreeUpdate) (a : Option TreeData) → update_note (with_data (nodes_part u) a) ≡ note_of (is_some a) u
told u a = ap update_note (part_with u a) ∙ noted u a

notes_alone : (us : List TreeUpdate) (u : TreeUpdate) → map update_note (alone (map nodes_part (us ++ u ∷ []))) ≡ map plain_note us ++ note_of false u ∷ []
notes_alone [] u = ap (λ n. n ∷ []) (told u None)
notes_alone (x ∷ us) u = ap (λ n. n ∷ map update_note (alone (map nodes_part (us ++ u ∷ [])))) (told x None) ∙ ap (λ ns. plain_note x ∷ ns) (notes_alone us u)

notes_riding : (d : TreeData) (us : List TreeUpdate) (u : TreeUpdate) → map update_note (riding d (map nodes_part (us ++ u ∷ []))) ≡ map plain_note us ++ note_of true u ∷ []
notes_riding d [] u = ap (λ n. n ∷ []) (told u (Some d))
notes_riding d (x ∷ []) u = ap (λ n. n ∷ map update_note (riding d (nodes_part u ∷ []))) (told x None) ∙ ap (λ ns. plain_note x ∷ ns) (notes_riding d [] u)
notes_riding d (x ∷ (y ∷ us)) u =
    ap (λ n. n ∷ map update_note (riding d (map nodes_part (y ∷ (us ++ u ∷ []))))) (told x None) ∙ ap (λ ns. plain_note x ∷ ns) (notes_riding d (y ∷ us) u)

-- the notes of all but the last update, and that of the last one
pub notes_are : (rides : Bool) (d : TreeData) (all us : List TreeUpdate) (u : TreeUpdate) → all ≡ us ++ u ∷ []
    → map update_note (with_tree_data rides d (map nodes_part all)) ≡ map plain_note us ++ note_of rides u ∷ []
notes_are true d all us u e = ap (λ vs. map update_note (riding d (map nodes_part vs))) e ∙ notes_riding d us u
notes_are false d all us u e = ap (λ vs. map update_note (alone (map nodes_part vs))) e ∙ notes_alone us u
