-- Updates of the serialisation rule at the program's types: accepted, in step, and seen by shapes alone.
use Rattle.std.proofs.Common.{ℕ, ◌≡◌, ◌≤◌, Bool, true, List, refl, sym, ap, ◌∙◌, subst, Option, None, Result, Ok, Err}
use Rattle.ax_node.specs.declared.tree_data.TreeData.{TreeData}
use Rattle.ax_trees.specs.Trees.{Trees, IsTree, has, height}
use Rattle.ax_trees.specs.Shape.{shape}
use Rattle.ax_tree.specs.declared.update.Refusal.{Refusal}
use Rattle.ax_tree.specs.declared.update.TreeUpdate.{TreeUpdate}
use Rattle.ax_tree.specs.UpdateRule.{trees_after}
use Rattle.ax_tree.specs.UpdateShape.{SameShape, mapped_update, mapped_result}
use Rattle.ax_tree.specs.SerialRule.{trees_update}
use Rattle.ax_tree.specs.InStep.{TreesInStep, marks_left}
use Rattle.ax_tree.specs.Bundles.{Client, client_after}
use Rattle.ax_node.specs.Look.{Look, blank_look}
use Rattle.ax_tree.specs.Tree.{Tree, IsWellFormed}
use Rattle.ax_tree.specs.Updates.{nodes_part, with_data, told, applied}
use Rattle.ax_tree.specs.Serialised.{update_of, marks_after_update, InStep}
use Rattle.ax_laws.specs.Laws.{Accepted, shape_of_result}
use Rattle.ax_trees.proofs.Lists.{same_Ok}
use Rattle.ax_laws.proofs.Served.{Served, serve}
use Rattle.ax_laws.proofs.Steps.{update_keeps_any}
use Rattle.ax_laws.proofs.Shapes.{trees_update_same, trees_after-mapped}
use Rattle.ax_laws.proofs.SameShapes.{trees_update-same}
use Rattle.ax_laws.proofs.Sent.{nodes_part-with, then_told}
use Rattle.ax_laws.proofs.BundlesReach.{client_after-shape}

-- the update for a client with the receiver's shape, by the receiver
update_part : (r s : Tree) (m : List ℕ) (d : ℕ) → nodes_part (update_of (shape r.trees) s m d) ≡ trees_update r.trees s.trees m d
update_part r s m d = nodes_part-with (trees_update (shape r.trees) s.trees m d) None ∙ trees_update_same (λ _. tt) r.trees s.trees m d

applied_update : (r s : Tree) (m : List ℕ) (d : ℕ) → applied (update_of (shape r.trees) s m d) r ≡ then_told None r.about (trees_after blank_look (trees_update r.trees s.trees m d) r.trees)
applied_update r s m d = ap (λ v. then_told None r.about (trees_after blank_look v r.trees)) (update_part r s m d)

pub accepted_update : (r s : Tree) (m : List ℕ) (d : ℕ) → IsWellFormed r → IsWellFormed s → height r.trees ≤ 256 → height s.trees ≤ 256 → has s.trees d ≡ true
    → Accepted r (update_of (shape r.trees) s m d)
accepted_update r s m d tr ts lr ls h =
    let sv : Served blank_look (trees_update r.trees s.trees m d) r.trees s.trees = serve blank_look r.trees s.trees m d tr ts lr ls h in
    record {
      made = record { about = r.about; trees = sv.made };
      accepted = applied_update r s m d ∙ ap (then_told None r.about) sv.accepted;
      well_formed = sv.is_tree;
      low = sv.low;
      client = ap (client_after (shape r.trees)) (update_part r s m d) ∙ client_after-shape blank_look (trees_update r.trees s.trees m d) r.trees sv.made sv.accepted;
    }

pub update_by_shape : (c k : Client) (s : Tree) (m : List ℕ) (d : ℕ) → IsTree c → IsTree k → SameShape c k → update_of c s m d ≡ update_of k s m d
update_by_shape c k s m d tc tk same = ap (λ u. with_data u None) (trees_update-same c k s.trees m d tc tk same)

-- what came out of an update without tree data
told_parts : (d : Option TreeData) (o : Result (Trees Look) Refusal) (r made : Tree) → then_told d r.about o ≡ Ok made → (o ≡ Ok made.trees) × (told d r.about ≡ made.about)
told_parts d (Ok f) r made h =
    let e : record { about = told d r.about; trees = f } ≡ made = same_Ok (record { about = told d r.about; trees = f }) made h in
    (ap (λ (t : Tree). Ok t.trees) e, ap (λ (t : Tree). t.about) e)
told_parts d (Err x) r made h = absurd (cc)

pub update_in_step : (r s : Tree) (m : List ℕ) (flag fresh : Bool) (d : ℕ) (made : Tree) → InStep r s m flag fresh → has s.trees d ≡ true
    → applied (update_of (shape r.trees) s m d) r ≡ Ok made
    → InStep made s (marks_after_update (update_of (shape r.trees) s m d) d m) flag fresh
update_in_step r s m flag fresh d made st h e =
    let parts : (trees_after blank_look (trees_update r.trees s.trees m d) r.trees ≡ Ok made.trees) × (r.about ≡ made.about) =
    told_parts None (trees_after blank_look (trees_update r.trees s.trees m d) r.trees) r made (sym (applied_update r s m d) ∙ e) in
    record {
      trees = subst (λ u. TreesInStep made.trees s.trees (marks_left u d m)) (sym (update_part r s m d))
          (update_keeps_any blank_look r.trees s.trees m d made.trees st.trees h parts.0);
      same_tree = ap (λ (a : TreeData). a.tree) (sym parts.1) ∙ st.same_tree;
      same_data = λ q. sym parts.1 ∙ st.same_data q;
    }

-- an update's refusal, and the shape of its result, by the shape of the tree
result_shape : (d : Option TreeData) (r : Tree) (o : Result (Trees Look) Refusal) → shape_of_result (then_told d r.about o) ≡ mapped_result (λ _. tt) o
result_shape d r (Ok f) = refl
result_shape d r (Err e) = refl

pub applied_by_shape : (u : TreeUpdate) (r q : Tree) → shape r.trees ≡ shape q.trees → shape_of_result (applied u r) ≡ shape_of_result (applied u q)
applied_by_shape u r q e =
    let part : (t : Tree) → shape_of_result (applied u t) ≡ trees_after tt (mapped_update (λ _. tt) (nodes_part u)) (shape t.trees) =
    λ t. result_shape u.tree_data t (trees_after blank_look (nodes_part u) t.trees) ∙ sym (trees_after-mapped (λ _. tt) blank_look (nodes_part u) t.trees) in
    part r ∙ (ap (trees_after tt (mapped_update (λ _. tt) (nodes_part u))) e ∙ sym (part q))
