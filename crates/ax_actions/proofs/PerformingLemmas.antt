-- What an action comes to, and that nothing stands against the edit that it makes.
use Rattle.std.proofs.Common.{ℕ, ◌≡◌, Bor, Bool, true, false, not, cond, List, [], ◌∷◌, ◌++◌, Option, Some, None, Result, Ok, Err, refl, sym, ap, ◌∙◌, subst, ⊎_elim, ◌⊎◌, append-nil, option_and_then}
use Rattle.std.specs.Prelude.{is_some, IfOk, OnOk}
use Rattle.std.specs.Option.{option_copied}
use Rattle.std.proofs.lemmas.Bool.{false≢true}
use Rattle.ax_trees.specs.Trees.{Trees, bare, tree, is_bare, has, root_of, IsDistinct}
use Rattle.ax_trees.specs.Nodes.{Node, node_at, below}
use Rattle.ax_trees.proofs.Trees.{by_go, below_absent}
use Rattle.ax_trees.proofs.Grown.{node_some}
use Rattle.ax_node.specs.declared.value.Value.{Value}
use Rattle.ax_node.specs.declared.value.Value.TheVariants as values
use Rattle.ax_node.specs.declared.node.NodeData.{NodeData}
use Rattle.ax_node.specs.Look.{Look}
use Rattle.ax_base.specs.Area.{Area}
use Rattle.ax_tree.specs.declared.edit.Edit.{Edit}
use Rattle.ax_tree.specs.declared.edit.EditErr.{EditErr}
use Rattle.ax_tree.specs.declared.edit.EditErr.TheVariants as errors
use Rattle.ax_tree.specs.declared.packet.JEntry.TheVariants as entries
use Rattle.ax_tree.specs.Tree.{Tree, node, as_node}
use Rattle.ax_tree.specs.Edits.{refusal}
use Rattle.ax_frame.specs.Frames.{Journaled, edit_answered, with_entry}
use Rattle.ax_ask.specs.declared.action.Action.{Action}
use Rattle.ax_ask.specs.declared.action.What.{What}
use Rattle.ax_ask.specs.declared.action.What.TheVariants.{Scroll}
use Rattle.ax_ask.specs.declared.action.ActNote.TheVariants as acts
use Rattle.ax_rules.specs.Rows.{value_key, container_key}
use Rattle.ax_rules.specs.Looks.{attr, node_in}
use Rattle.ax_rules.specs.Extents.{base_of}
use Rattle.ax_run_rules.specs.Actions as rules
use Rattle.ax_run_rules.specs.Actions.{acted, done_at, scrolled, refused, done, change, attrs_edit, focus_edit, scroll_edit}
use Rattle.ax_stitch.proofs.Corners.{base_told, node_of_told}
use Rattle.ax_actions.specs.declared.performing.Done.{Done}
use Rattle.ax_actions.specs.declared.performing.Course.{Course}
use Rattle.ax_actions.specs.declared.performing.Course.TheVariants.{Refused, Makes}
use Rattle.ax_actions.specs.Performing.{note_of, source_now, done_now, after_done, told_course, IsAllowed}

-- ---- where an action stops

pub rootless : (w : Trees Look) (o : Option ℕ) → o ≡ root_of w → is_some o ≡ false → is_bare w ≡ true
rootless bare o e h = refl
rootless (tree i x k r) o e h = absurd (false≢true (sym h ∙ ap is_some e))

pub rooted : (w : Trees Look) (o : Option ℕ) → o ≡ root_of w → is_some o ≡ true → is_bare w ≡ false
rooted bare o e h = absurd (false≢true (ap is_some (sym e) ∙ h))
rooted (tree i x k r) o e h = refl

held : (w : Trees Look) (z : ℕ) → has w z ≡ true → is_bare w ≡ false
held bare z h = absurd (false≢true h)
held (tree i x k r) z h = refl

pub acted_rootless : (s : Tree) (z : ℕ) (w : What) → is_bare s.trees ≡ true → refused acts.NoRoot ≡ acted s z w
unfolding acted
acted_rootless s z w b = rw b refl

pub acted_strange : (s : Tree) (z : ℕ) (w : What) → is_bare s.trees ≡ false → has s.trees z ≡ false → refused (acts.UnknownNode z) ≡ acted s z w
unfolding acted
acted_strange s z w b h = rw (b, h) refl

pub acted_there : (s : Tree) (z : ℕ) (w : What) → has s.trees z ≡ true → done_at s z w ≡ acted s z w
unfolding acted
acted_there s z w h = let b = held s.trees z h in rw (b, h) refl

-- ---- scrolling

uncontained : (z : ℕ) (o : Option (Node Look)) → refused (acts.NoContainer z) ≡ scrolled z o None
uncontained z None = refl
uncontained z (Some n) = refl

pub scrolled_nowhere : (s : Tree) (z : ℕ) (o : Option ℕ) → o ≡ base_of s z → o ≡ None → refused (acts.NoContainer z) ≡ done_at s z Scroll
scrolled_nowhere s z o b n = uncontained z (node_at s.trees z) ∙ ap (scrolled z (node_at s.trees z)) (sym n ∙ b)

pub scrolled_there : (s : Tree) (z c : ℕ) (o : Option ℕ) (r : Option (Bor NodeData)) (n : Bor NodeData) (e : Edit) → o ≡ base_of s z → o ≡ Some c → option_copied r ≡ node s z → r ≡ Some n → e ≡ scroll_edit n.now.rect c
    → done e ≡ done_at s z Scroll
scrolled_there s z c o r n e b k told some is =
    ap done is ∙ (ap (scrolled z (Some (as_node n.now))) (sym k ∙ b) ∙ ap (λ u. scrolled z u (base_of s z)) (sym (node_of_told s z r n told some)))

-- a container stands in the tree
pub container_there : (s : Tree) (z c : ℕ) (o : Option ℕ) → IsDistinct s.trees → has s.trees z ≡ true → o ≡ base_of s z → o ≡ Some c → has s.trees c ≡ true
container_there s z c o d h b k =
    let n = node_some s.trees z h in
    over (node_in (attr n.0.known container_key)) (sym (base_told s z n.0 d h n.1) ∙ (sym b ∙ k))
  where
    absent : (y : ℕ) → has (below s.trees y) z ≡ true → has s.trees y ≡ true
    absent y q = by_go (has s.trees y) (λ g. g) (λ g. absurd (false≢true (ap (λ (v : Trees Look). has v z) (sym (below_absent s.trees y g)) ∙ q)))

    over : (u : Option ℕ) → option_and_then (λ y. cond (has (below s.trees y) z) (Some y) None) u ≡ Some c → has s.trees c ≡ true
    over None e = absurd (cc)
    over (Some y) e = by_go (has (below s.trees y) z)
        (λ q. let f : ◌≡◌ {A = Option ℕ} (Some y) (Some c) = rw q at e in
        let same : y ≡ c = cc in
        ap (has s.trees) (sym same) ∙ absent y q)
        (λ q. absurd (let f : ◌≡◌ {A = Option ℕ} None (Some c) = rw q at e in cc))

-- ---- what stands against an edit

pub focus_allowed : (s : Tree) (z : ℕ) → refusal (focus_edit z) s ≡ None
focus_allowed s z = refl

pub value_allowed : (s : Tree) (z : ℕ) (text : List ℕ) → has s.trees z ≡ true → refusal (attrs_edit z (change value_key (values.Text text) ∷ [])) s ≡ None
value_allowed s z text h = let b = held s.trees z h in rw (b, h) refl

pub scroll_allowed : (s : Tree) (a : Area) (c : ℕ) → has s.trees c ≡ true → refusal (scroll_edit a c) s ≡ None
scroll_allowed s a c h = let b = held s.trees c h in rw (b, h) refl

-- an edit against which nothing stands is refused for want of memory alone
pub only_memory : (e : Edit) (s : Tree) (x : EditErr) → refusal e s ≡ None → (x ≡ errors.NoMemory) ⊎ (refusal e s ≡ Some x) → x ≡ errors.NoMemory
only_memory e s x n = ⊎_elim (λ p. p) (λ q. absurd (let r : ◌≡◌ {A = Option EditErr} None (Some x) = sym n ∙ q in cc))

-- so it leaves the frame
pub stays : (e : Edit) (s : Tree) (new old : Journaled) (x : EditErr) → refusal e s ≡ None → (x ≡ errors.NoMemory) ⊎ (refusal e s ≡ Some x) → new ≡ edit_answered e (Err x) old → new ≡ old
stays e s new old x n h a = a ∙ ap (λ y. edit_answered e (Err y) old) (only_memory e s x n h)

-- ---- what an action comes to at a frame

pub told_now : (p q : Course) (s : Tree) (a : Action) (j : Journaled) → told_course p ≡ acted s a.node a.what → s ≡ source_now j → p ≡ q → told_course q ≡ done_now a j
told_now p q s a j e t k = sym (ap told_course k) ∙ (e ∙ ap (λ v. acted v a.node a.what) t)

pub allowed_now : (p : Course) (e : Edit) (s : Tree) (j : Journaled) → IsAllowed p s → s ≡ source_now j → p ≡ Makes e → IsAllowed (Makes e) (source_now j)
allowed_now p e s j h t k = subst (IsAllowed (Makes e)) t (subst (λ q. IsAllowed q s) k h)

pub refused_after : (d : Done) (j : Journaled) (r : rules.Done) → told_course (Refused d) ≡ r → j ≡ after_done r j
refused_after d j r e = ap (λ l. record { tree = j.tree; journal = l }) (sym (append-nil j.journal)) ∙ ap (λ x. after_done x j) e

pub made_after : (e : Edit) (new old : Journaled) (r : rules.Done) → told_course (Makes e) ≡ r → new ≡ with_entry (entries.Edited e) old → new ≡ after_done r old
made_after e new old r t h = h ∙ ap (λ x. after_done x old) t

pub made_note : {E : Type 0} (e : Edit) (r : rules.Done) (out : Result Done E) → told_course (Makes e) ≡ r → IfOk out (λ d. note_of d ≡ acts.Ok) → IfOk out (λ d. note_of d ≡ r.note)
made_note e r (Ok d) t h = h ∙ ap (λ (x : rules.Done). x.note) t
made_note e r (Err x) t h = tt

pub on_ok : {A E : Type 0} (r : Result A E) (P Q : Type 0) → OnOk r P → (P → Q) → OnOk r Q
on_ok (Ok x) P Q h f = f h
on_ok (Err e) P Q h f = tt
