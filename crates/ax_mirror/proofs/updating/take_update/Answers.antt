use Rattle.std.proofs.Common.{◌≡◌, ⊎_elim, inl, inr, ◌∙◌, ap, sym, subst, refl, ℕ, List, None}
use Rattle.std.specs.Prelude.{Option}
use Rattle.ax_node.specs.Look.{Look}
use Rattle.ax_node.specs.declared.node.NodeData.{NodeData}
use Rattle.ax_trees.specs.Trees.{Trees}
use Rattle.ax_tree.specs.declared.update.TreeUpdate.{TreeUpdate}
use Rattle.ax_tree.specs.UpdateRule.{draft_of, started, missing}
use Rattle.ax_mirror.specs.declared.draft.Draft.{Draft}
use Rattle.ax_mirror.specs.Kept.{KeepsDraft}
use Rattle.ax_mirror.specs.Steps.{MakesDraft, all_taken}
use Rattle.ax_mirror.specs.Finishes.{Finished, Unfinished}
use Rattle.ax_mirror.proofs.Tracks.{costs_then, made_then}
use Rattle.ax_mirror.proofs.Updates.{settled_of, missing_same, refused_clear, refused_node, refused_end, gives_trees}
use Rattle.ax_mirror.specs.Accounts.{Accounts, Reaches, list_names, lists_id, names}
use Rattle.ax_mirror.proofs.Accounts.{acc_update}
use Rattle.ax_mirror.proofs.Reached.{grows, grow_wide, list_named, reach_done, reach_here, reach_same, reach_then, reach_wide, start_named}
use Rattle.ax_mirror.proofs.updating.take_update.Goals as goal

abbrev cleared_made : Draft → List ℕ → Draft
cleared_made d made = record { nodes = d.nodes; root = d.root; touched = d.touched; made = made }

pub returns-in-Some-clause-err : goal.returns-in-Some-clause-err
returns-in-Some-clause-err g c = λ f h.
    inr (refused_clear c.args.update.now f c.in-Some.id (sym (missing_same c.args.draft.now.nodes c.args.draft.now.root f c.args.update.now.clear h) ∙ sym c.in-Some.ensures))

pub returns-in-Err-take_nodes-clause-err : goal.returns-in-Err-take_nodes-clause-err
returns-in-Err-take_nodes-clause-err g c = λ f h.
    let u : TreeUpdate = c.args.update.now in
    let mi : missing f u.clear ≡ None = sym (missing_same c.args.draft.now.nodes c.args.draft.now.root f u.clear h) ∙ sym c.in-None.ensures in
    let w : Trees (Option Look) = started u.root u.clear (draft_of f) in
    let k : KeepsDraft c.start.new.draft.nodes c.start.new.draft.root w = c.in-Ok.ensures.ok (draft_of f) h.keeps in
    ⊎_elim (λ q. inl q) (λ q. inr (refused_node u f c.in-Err-take_nodes.refusal mi (ap (λ (us : List NodeData). all_taken w us) (sym c.as_slice.ensures) ∙ q))) (c.in-Err-take_nodes.ensures.err w k)

pub returns-in-Ok-finish-clause-ok : goal.returns-in-Ok-finish-clause-ok
returns-in-Ok-finish-clause-ok g c = λ f h.
    let u : TreeUpdate = c.args.update.now in
    let e : Draft = c.take_nodes.new.draft in
    let mi : missing f u.clear ≡ None = sym (missing_same c.args.draft.now.nodes c.args.draft.now.root f u.clear h) ∙ sym c.in-None.ensures in
    let w : Trees (Option Look) = started u.root u.clear (draft_of f) in
    let k : KeepsDraft c.start.new.draft.nodes c.start.new.draft.root w = c.in-Ok.ensures.ok (draft_of f) h.keeps in
    let gives : MakesDraft e (all_taken w u.nodes) = subst (λ (us : List NodeData). MakesDraft e (all_taken w us)) c.as_slice.ensures (c.in-Ok-take_nodes.ensures.ok w k) in
    let fin : Finished e.nodes e.made = subst (λ (js : List ℕ). Finished e.nodes js) c.as_slice-2.ensures c.in-Ok-finish.ensures.ok in
    let d : Draft = cleared_made c.args.draft.now c.clear.new.self in
    gives_trees u f e mi gives fin (settled_of d e f h (made_then d c.start.new.draft e c.in-Ok.ensures.made c.in-Ok-take_nodes.ensures.made))

pub returns-in-Err-finish-clause-err : goal.returns-in-Err-finish-clause-err
returns-in-Err-finish-clause-err g c = λ f h.
    let u : TreeUpdate = c.args.update.now in
    let e : Draft = c.take_nodes.new.draft in
    let mi : missing f u.clear ≡ None = sym (missing_same c.args.draft.now.nodes c.args.draft.now.root f u.clear h) ∙ sym c.in-None.ensures in
    let w : Trees (Option Look) = started u.root u.clear (draft_of f) in
    let k : KeepsDraft c.start.new.draft.nodes c.start.new.draft.root w = c.in-Ok.ensures.ok (draft_of f) h.keeps in
    let gives : MakesDraft e (all_taken w u.nodes) = subst (λ (us : List NodeData). MakesDraft e (all_taken w us)) c.as_slice.ensures (c.in-Ok-take_nodes.ensures.ok w k) in
    let fin : Unfinished e.nodes e.made c.in-Err-finish.refusal = subst (λ (js : List ℕ). Unfinished e.nodes js c.in-Err-finish.refusal) c.as_slice-2.ensures c.in-Err-finish.ensures.err in
    let d : Draft = cleared_made c.args.draft.now c.clear.new.self in
    inr (refused_end u f gives.next c.in-Err-finish.refusal mi gives.is (fin e.root gives.next gives.keeps (settled_of d e f h (made_then d c.start.new.draft e c.in-Ok.ensures.made c.in-Ok-take_nodes.ensures.made))))

pub returns-in-Ok-finish-clause-accounts : goal.returns-in-Ok-finish-clause-accounts
returns-in-Ok-finish-clause-accounts g c =
    acc_update c.args.update.now c.args.draft.now (cleared_made c.args.draft.now c.clear.new.self) c.start.new.draft c.take_nodes.new.draft refl refl c.in-Ok.ensures.accounts
    (subst (λ (us : List NodeData). Accounts (list_names us) (lists_id us) c.start.new.draft c.take_nodes.new.draft) c.as_slice.ensures c.in-Ok-take_nodes.ensures.accounts)

pub returns-in-Some-clause-reach : goal.returns-in-Some-clause-reach
returns-in-Some-clause-reach g c = reach_here _ _ _ _ refl

pub returns-in-Err-clause-reach : goal.returns-in-Err-clause-reach
returns-in-Err-clause-reach g c =
    reach_same _ _ (cleared_made c.args.draft.now c.clear.new.self) _ _ _ refl refl (reach_wide _ (names c.args.update.now) _ _ _ _ (start_named c.args.update.now) c.in-Err.ensures.reach)

pub returns-in-Err-take_nodes-clause-reach : goal.returns-in-Err-take_nodes-clause-reach
returns-in-Err-take_nodes-clause-reach g c =
    reach_same _ _ (cleared_made c.args.draft.now c.clear.new.self) _ _ _ refl refl
    (reach_then _ _ c.start.new.draft _ _ _ _
    (grow_wide _ (names c.args.update.now) _ c.start.new.draft (start_named c.args.update.now) (grows _ _ _ c.start.new.draft c.in-Ok.ensures.accounts)) c.in-Ok.ensures.cost
    (reach_wide _ (names c.args.update.now) _ _ _ _ (list_named c.args.update.now)
    (subst (λ (us : List NodeData). Reaches (list_names us) c.start.new.draft c.take_nodes.new.draft c.start.new.steps c.take_nodes.new.steps) c.as_slice.ensures c.in-Err-take_nodes.ensures.reach)))

pub returns-in-Err-finish-clause-reach : goal.returns-in-Err-finish-clause-reach
returns-in-Err-finish-clause-reach g c =
    reach_done _ _ c.take_nodes.new.draft _ _ _ refl
    (grows _ _ _ _ (acc_update c.args.update.now c.args.draft.now (cleared_made c.args.draft.now c.clear.new.self) c.start.new.draft c.take_nodes.new.draft refl refl c.in-Ok.ensures.accounts
    (subst (λ (us : List NodeData). Accounts (list_names us) (lists_id us) c.start.new.draft c.take_nodes.new.draft) c.as_slice.ensures c.in-Ok-take_nodes.ensures.accounts)))
    (costs_then _ _ _ _ _ _ c.in-Ok.ensures.cost c.in-Ok-take_nodes.ensures.cost)
