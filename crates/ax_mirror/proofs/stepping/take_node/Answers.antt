use Rattle.std.proofs.Common.{◌≡◌, ⊎_elim, inl, inr, ◌∙◌, ap, sym, subst, refl, cond, eqb, not, ◌&&◌, nat_eq, ℕ, false, None, Some, Err}
use Rattle.std.specs.Prelude.{Option}
use Rattle.std.specs.Option.{option_copied}
use Rattle.std.specs.HashSet as bag
use Rattle.std.specs.FinMap as map
use Rattle.ax_node.specs.declared.node.NodeData.{NodeData}
use Rattle.ax_trees.specs.Trees.{has}
use Rattle.ax_trees.specs.Nodes.{below}
use Rattle.ax_trees.specs.Lists.{contains, first_that}
use Rattle.ax_tree.specs.declared.update.Refusal.{Refusal}
use Rattle.ax_tree.specs.UpdateRule.{draft_node}
use Rattle.ax_tree.specs.Tree.{as_node}
use Rattle.ax_mirror.specs.declared.entries.Entry.{Entry}
use Rattle.ax_mirror.specs.Placed.{Nodes, pending_entry}
use Rattle.ax_mirror.specs.Kept.{KeepsDraft}
use Rattle.ax_mirror.specs.Changes.{RepeatsChild}
use Rattle.ax_mirror.specs.Steps.{is_elsewhere, Places}
use Rattle.ax_mirror.proofs.Looks.{get_insert, at_other}
use Rattle.ax_mirror.proofs.Tracks.{costs_then, track_touch, track_then, made_step}
use Rattle.ax_mirror.proofs.Reached.{grow_then, grow_none, grow_children, reach_done, reach_here, reach_none, reach_one, reach_then, reach_wide}
use Rattle.ax_mirror.proofs.Together.{refused_absent, refused_twice, is_refused, is_accepted, keeps_on, tells_leave, tops_leave, leave, with_next}
use Rattle.std.proofs.lemmas.Bool.{false≢true}
use Rattle.ax_mirror.specs.Accounts.{no_id, is_id, node_names}
use Rattle.ax_mirror.proofs.Accounts.{acc_then, acc_weaken, acc_put, or_left, or_right, self_is}
use Rattle.ax_mirror.proofs.stepping.take_node.Goals as goal

abbrev filled : Option ℕ → ℕ → NodeData → Entry
filled above level n = record { above = above; level = level; pending = false; node = n }

same_places : (a b : Option ℕ) (n l : ℕ) → a ≡ b → n ≡ l → ◌≡◌ {A = Option ℕ × ℕ} (a, n) (b, l)
same_places a b n l p q = λ i. (p i, q i)

pub returns-in_default-clause-err : goal.returns-in_default-clause-err
returns-in_default-clause-err g c = λ w k. inr (refused_absent c.args.draft.now.nodes c.args.node.now w (ap option_copied (sym c.in_default.is) ∙ c.read.ensures) k.stands)

pub returns-in-Err-clause-err : goal.returns-in-Err-clause-err
returns-in-Err-clause-err g c = λ w k.
    ⊎_elim
    (λ h. inl h)
    (λ (h : RepeatsChild c.args.node.now.children c.in-Err.refusal). inr (refused_twice c.args.draft.now.nodes c.args.node.now c.in-Some.entry.now c.in-Some.ensures c.args.draft.now.root w k h.0 h.1 ∙ ap (λ (r : Refusal). Err r) (sym h.2)))
    c.in-Err.ensures.err

pub returns-in-Ok-Some-clause-err : goal.returns-in-Ok-Some-clause-err
returns-in-Ok-Some-clause-err g c = λ w k.
    let m : Nodes = c.args.draft.now.nodes in
    let u : NodeData = c.args.node.now in
    let e : Entry = c.in-Some.entry.now in
    inr (is_refused m u e c.in-Some.ensures c.args.draft.now.root w k (bag.contains nat_eq c.in-Ok.change.old) c.in-Ok.ensures.ok.old c.take_out.new.draft.nodes
    (c.in-Ok-take_out.ensures.out.out (leave (below w u.id) u.children) (tells_leave m u e c.in-Some.ensures c.args.draft.now.root w k) (tops_leave m u e c.in-Some.ensures c.args.draft.now.root w k c.in-Ok.change.gone c.in-Ok.ensures.ok.gone))
    c.in-Ok-Some.child c.in-Ok.ensures.ok.once (sym c.in-Ok-Some.field-0-is ∙ c.in-Ok-Some.ensures.first))

pub returns-in-Ok-put-clause-ok : goal.returns-in-Ok-put-clause-ok
returns-in-Ok-put-clause-ok g c = λ w k.
    let m : Nodes = c.args.draft.now.nodes in
    let u : NodeData = c.args.node.now in
    let e : Entry = c.in-Some.entry.now in
    let out : (z : ℕ) → map.get c.take_out.new.draft.nodes z ≡ cond (has (leave (below w u.id) u.children) z) None (map.get m z) =
    c.in-Ok-take_out.ensures.out.out (leave (below w u.id) u.children) (tells_leave m u e c.in-Some.ensures c.args.draft.now.root w k) (tops_leave m u e c.in-Some.ensures c.args.draft.now.root w k c.in-Ok.change.gone c.in-Ok.ensures.ok.gone) in
    let pl : Places c.take_out.new.draft c.place.new.draft u.id c.in-Ok.change.inner (bag.contains nat_eq c.in-Ok.change.old) u.children = c.in-Ok-None.ensures.placed c.in-Ok-None.field-0-is in
    let bad : None ≡ first_that (is_elsewhere c.take_out.new.draft.nodes (bag.contains nat_eq c.in-Ok.change.old)) u.children = sym c.in-Ok-None.field-0-is ∙ c.in-Ok-None.ensures.first in
    let to : Entry = filled c.in-Ok.change.above c.in-Ok.change.level c.in-Ok-copy.copy in
    record {
      next = with_next w u;
      is = is_accepted m u e c.in-Some.ensures c.args.draft.now.root w k (bag.contains nat_eq c.in-Ok.change.old) c.in-Ok.ensures.ok.old c.take_out.new.draft.nodes out c.in-Ok.ensures.ok.once bad;
      keeps = subst (λ (r : Option ℕ). KeepsDraft c.put.new.nodes r (with_next w u)) (sym (pl.root ∙ c.in-Ok-take_out.ensures.out.root))
          (keeps_on m u e c.in-Some.ensures c.args.draft.now.root w k (bag.contains nat_eq c.in-Ok.change.old) c.in-Ok.ensures.ok.old c.take_out.new.draft.nodes out c.in-Ok.ensures.ok.once bad
          c.place.new.draft.nodes c.put.new.nodes to
          (λ z. pl.at z ∙ ap (λ (l : ℕ). cond (contains u.children z && not (bag.contains nat_eq c.in-Ok.change.old z)) (Some (pending_entry (Some u.id) l z)) (map.get c.take_out.new.draft.nodes z)) c.in-Ok.ensures.ok.inner)
          (λ z. ap (λ (n : Nodes). map.get n z) c.in-Ok-put.ensures.ok ∙ get_insert c.place.new.draft.nodes u.id to z)
          (ap (λ (n : NodeData). draft_node (as_node n)) c.in-Ok-copy.ensures)
          (same_places _ _ _ _ c.in-Ok.ensures.ok.above c.in-Ok.ensures.ok.level));
    }

pub returns-in-Ok-put-clause-made : goal.returns-in-Ok-put-clause-made
returns-in-Ok-put-clause-made g c =
    let pl : Places c.take_out.new.draft c.place.new.draft c.args.node.now.id c.in-Ok.change.inner (bag.contains nat_eq c.in-Ok.change.old) c.args.node.now.children = c.in-Ok-None.ensures.placed c.in-Ok-None.field-0-is in
    let to : Entry = filled c.in-Ok.change.above c.in-Ok.change.level c.in-Ok-copy.copy in
    made_step c.args.draft.now c.take_out.new.draft c.place.new.draft _ _ _ _ _ _ c.args.node.now.id c.in-Some.entry.now to c.in-Ok-take_out.ensures.out pl c.in-Some.ensures c.in-Ok.ensures.ok.level refl
    (λ z. ap (λ (n : Nodes). map.get n z) c.in-Ok-put.ensures.ok ∙ get_insert c.place.new.draft.nodes c.args.node.now.id to z) refl

pub returns-in-Ok-put-clause-tracked : goal.returns-in-Ok-put-clause-tracked
returns-in-Ok-put-clause-tracked g c =
    track_then _ c.place.new.draft _ (track_then _ c.take_out.new.draft c.place.new.draft c.in-Ok-take_out.ensures.tracked c.in-Ok-None.ensures.tracked)
    (track_touch c.place.new.draft _ c.args.node.now.id (λ z h. at_other _ _ _ _ h (ap (λ (m : Nodes). map.get m z) c.in-Ok-put.ensures.ok ∙ get_insert c.place.new.draft.nodes c.args.node.now.id _ z)) c.in-Ok-put.ensures.touched)

pub returns-in-Ok-put-clause-accounts : goal.returns-in-Ok-put-clause-accounts
returns-in-Ok-put-clause-accounts g c =
    let u : NodeData = c.args.node.now in
    let to : Entry = filled c.in-Ok.change.above c.in-Ok.change.level c.in-Ok-copy.copy in
    acc_then (node_names u) (is_id u.id) _ c.place.new.draft _
    (acc_then (node_names u) (is_id u.id) _ c.take_out.new.draft c.place.new.draft
    (acc_weaken no_id no_id (node_names u) (is_id u.id) c.args.draft.now c.take_out.new.draft (λ z h. absurd (false≢true h)) (λ z h. absurd (false≢true h)) c.in-Ok-take_out.ensures.accounts)
    (acc_weaken (contains u.children) no_id (node_names u) (is_id u.id) c.take_out.new.draft c.place.new.draft (λ z h. or_right (eqb u.id z) (contains u.children z) h) (λ z h. absurd (false≢true h)) c.in-Ok-None.ensures.accounts))
    (acc_put (node_names u) (is_id u.id) c.place.new.draft _ u.id to (λ z. ap (λ (n : Nodes). map.get n z) c.in-Ok-put.ensures.ok ∙ get_insert c.place.new.draft.nodes u.id to z) c.in-Ok-put.ensures.touched
    (or_left (eqb u.id u.id) (contains u.children u.id) (self_is u.id)) (inr (self_is u.id)))

pub returns-in_default-clause-reach : goal.returns-in_default-clause-reach
returns-in_default-clause-reach g c = reach_here _ _ _ _ refl

pub returns-in-Err-clause-reach : goal.returns-in-Err-clause-reach
returns-in-Err-clause-reach g c = reach_here _ _ _ _ refl

pub returns-in-Err-take_out-clause-reach : goal.returns-in-Err-take_out-clause-reach
returns-in-Err-take_out-clause-reach g c = reach_none _ _ _ _ _ c.in-Err-take_out.ensures.reach

pub returns-in-Ok-Some-clause-reach : goal.returns-in-Ok-Some-clause-reach
returns-in-Ok-Some-clause-reach g c =
    reach_done _ _ c.place.new.draft _ _ _ refl
    (grow_then (node_names c.args.node.now) c.args.draft.now c.take_out.new.draft c.place.new.draft (grow_none (node_names c.args.node.now) c.args.draft.now c.take_out.new.draft c.in-Ok-take_out.ensures.accounts) (grow_children c.args.node.now c.take_out.new.draft c.place.new.draft c.in-Ok-Some.ensures.accounts))
    (costs_then _ _ _ _ _ _ c.in-Ok-take_out.ensures.cost c.in-Ok-Some.ensures.cost)

pub returns-in-Err-place-clause-reach : goal.returns-in-Err-place-clause-reach
returns-in-Err-place-clause-reach g c =
    reach_then _ _ c.take_out.new.draft _ _ _ _ (grow_none (node_names c.args.node.now) c.args.draft.now c.take_out.new.draft c.in-Ok-take_out.ensures.accounts) c.in-Ok-take_out.ensures.cost
    (reach_wide (contains c.args.node.now.children) (node_names c.args.node.now) _ _ _ _ (λ z h. or_right (eqb c.args.node.now.id z) (contains c.args.node.now.children z) h) c.in-Err-place.ensures.reach)

pub returns-in_default-copy-clause-reach : goal.returns-in_default-copy-clause-reach
returns-in_default-copy-clause-reach g c =
    reach_done _ _ c.place.new.draft _ _ _ refl
    (grow_then (node_names c.args.node.now) c.args.draft.now c.take_out.new.draft c.place.new.draft (grow_none (node_names c.args.node.now) c.args.draft.now c.take_out.new.draft c.in-Ok-take_out.ensures.accounts) (grow_children c.args.node.now c.take_out.new.draft c.place.new.draft c.in-Ok-None.ensures.accounts))
    (costs_then _ _ _ _ _ _ c.in-Ok-take_out.ensures.cost c.in-Ok-None.ensures.cost)
