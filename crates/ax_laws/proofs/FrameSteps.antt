-- Edits, touches, deliveries and passes keep a frame's receiver in step.
use Rattle.std.proofs.Common.{ℕ, ◌≡◌, ◌≤◌, Bool, true, false, ◌||◌, List, [], ◌∷◌, ◌++◌, refl, sym, ap, ◌∙◌, subst, arith, Option, None, Some}
use Rattle.std.specs.Prelude.{is_none, option_map}
use Rattle.std.proofs.lemmas.Bool.Decides.{eqb_tells}
use Rattle.std.proofs.lemmas.Bool.{false≢true, eqb-true}
use Rattle.ax_trees.specs.Trees.{Trees, bare, tree, is_bare, has, height, IsTree}
use Rattle.ax_trees.specs.Nodes.{tree_at, pre}
use Rattle.ax_trees.specs.Spots.{or_else}
use Rattle.ax_tree.specs.declared.edit.Edit.{Edit}
use Rattle.ax_tree.specs.declared.edit.Edit.TheVariants.{Root, Insert, Remove, Move, Set, Tree as Data}
use Rattle.ax_tree.specs.declared.edit.EditErr.TheVariants.{BadAttr}
use Rattle.ax_tree.specs.declared.packet.JEntry.{JEntry}
use Rattle.ax_tree.specs.declared.packet.JEntry.TheVariants.{Edited, Marked, MarkedBelow, Passed, Short, Delivered}
use Rattle.ax_tree.specs.EditRule.{NodeEdit, SetRoot, InsertLeaf, RemoveTree, MoveTree, SetKnown, trees_refusal}
use Rattle.ax_tree.specs.MarkRule.{trees_marks, add_mark, add_marks}
use Rattle.ax_node.specs.Look.{Look, look_of}
use Rattle.ax_tree.specs.Tree.{Tree, empty}
use Rattle.ax_tree.specs.Edits.{OfNodes, change_of, changed, edited, bad_attr, refusal, change_refusal, marks_after, flag_after, look_set}
use Rattle.ax_tree.specs.Serialised.{InStep}
use Rattle.ax_tree.specs.Journals.{source_after, source_from, Frame, new_frame, pending, after_edit, after_entry, frame_from, frame_of}
use Rattle.ax_trees.proofs.Trees.{by_go}
use Rattle.ax_trees.proofs.Times.{contains-ids}
use Rattle.ax_laws.proofs.EditsKeep.{edit_keeps, touch_kept, delivery_kept}

or_else_none : {A : Type 0} (o p : Option A) → or_else o p ≡ None → o ≡ None
or_else_none None p h = refl
or_else_none (Some a) p h = absurd (cc)

none_is : {A : Type 0} (o : Option A) → is_none o ≡ true → o ≡ None
none_is None h = refl
none_is (Some x) h = absurd (false≢true h)

node_in_step : (e : NodeEdit Look) (r s : Tree) (m : List ℕ) (flag fresh : Bool) → InStep r s m flag fresh → trees_refusal e s.trees ≡ None
    → InStep r (changed (OfNodes e) s) (trees_marks e s.trees m) flag fresh
node_in_step e r s m flag fresh st h = record { trees = edit_keeps e r.trees s.trees m st.trees h; same_tree = st.same_tree; same_data = st.same_data }

-- an accepted edit
pub edit_in_step : (e : Edit) (r s : Tree) (m : List ℕ) (flag fresh : Bool) → InStep r s m flag fresh → refusal e s ≡ None
    → InStep r (edited e s) (marks_after e s m) (flag_after e flag) fresh
edit_in_step (Root n) r s m flag fresh st h = node_in_step (SetRoot n.id (look_of n)) r s m flag fresh st refl
edit_in_step (Insert p i n) r s m flag fresh st h =
    node_in_step (InsertLeaf p i n.id (look_of n)) r s m flag fresh st (or_else_none (change_refusal (change_of (Insert p i n)) s) (option_map BadAttr (bad_attr (Insert p i n))) h)
edit_in_step (Remove z) r s m flag fresh st h =
    node_in_step (RemoveTree z) r s m flag fresh st (or_else_none (change_refusal (change_of (Remove z)) s) (option_map BadAttr (bad_attr (Remove z))) h)
edit_in_step (Move z p i) r s m flag fresh st h =
    node_in_step (MoveTree z p i) r s m flag fresh st (or_else_none (change_refusal (change_of (Move z p i)) s) (option_map BadAttr (bad_attr (Move z p i))) h)
edit_in_step (Set n) r s m flag fresh st h =
    node_in_step (SetKnown n.node (look_set n)) r s m flag fresh st (or_else_none (change_refusal (change_of (Set n)) s) (option_map BadAttr (bad_attr (Set n))) h)
edit_in_step (Data d) r s m flag fresh st h = record { trees = st.trees; same_tree = st.same_tree; same_data = λ q. absurd (false≢true (sym q)) }

-- a touch of a node, and of all below it
pub mark_in_step : (z : ℕ) (r s : Tree) (m : List ℕ) (flag fresh : Bool) → InStep r s m flag fresh → has s.trees z ≡ true
    → InStep r s (add_mark m z) flag fresh
mark_in_step z r s m flag fresh st h = record {
  trees = touch_kept r.trees s.trees m (z ∷ []) st.trees (λ y c. subst (λ v. has s.trees v ≡ true) (eqb-true z y (grind (arith, c))) h);
  same_tree = st.same_tree;
  same_data = st.same_data;
}

pub tree_at_in : {X : Type 0} (w : Trees X) (x z : ℕ) → has (tree_at w x) z ≡ true → has w z ≡ true
tree_at_in bare x z h = h
tree_at_in (tree i e k r) x z h = grind (arith, h, eqb_tells i z, tree_at_in k x z, tree_at_in r x z)

pub mark_below_in_step : (z : ℕ) (r s : Tree) (m : List ℕ) (flag fresh : Bool) → InStep r s m flag fresh
    → InStep r s (add_marks m (pre s.trees z)) flag fresh
mark_below_in_step z r s m flag fresh st = record {
  trees = touch_kept r.trees s.trees m (pre s.trees z) st.trees (λ y c. tree_at_in s.trees z y (sym (contains-ids (tree_at s.trees z) y) ∙ c));
  same_tree = st.same_tree;
  same_data = st.same_data;
}

-- a delivery, after which the receiver is empty
pub delivery_in_step : (t : ℕ) (r s : Tree) (m : List ℕ) (flag fresh : Bool) → InStep r s m flag fresh → t ≡ s.about.tree
    → InStep (empty t) s m flag true
delivery_in_step t r s m flag fresh st e = record {
  trees = delivery_kept r.trees s.trees m st.trees;
  same_tree = e;
  same_data = λ q. absurd (go flag q);
}
  where
    go : (b : Bool) → (b || true) ≡ false → ⊥
    go true q = false≢true (sym q)
    go false q = false≢true (sym q)

-- a tree is in step with itself
pub self_in_step : (s : Tree) → IsTree s.trees → height s.trees ≤ 256 → (fresh : Bool) → InStep s s [] false fresh
self_in_step s t low fresh = record {
  trees = record {
    receiver = t;
    source = t;
    receiver_low = low;
    source_low = low;
    marks_in = λ z c. absurd (false≢true c);
    once = tt;
    root_fits = λ x e. (x, e, λ _. refl);
    same = λ z g g' n. refl;
  };
  same_tree = refl;
  same_data = λ _. refl;
}

-- what holds of a frame after each journal
pub record Kept (t : ℕ) (f : Frame) : Type 0 where
  pub step : InStep f.sent f.source f.marks f.flag (is_bare f.sent.trees)
  pub of_tree : f.source.about.tree ≡ t
  pub sent_none : is_bare f.sent.trees ≡ true → f.sent ≡ empty t

edited_tree : (e : Edit) (s : Tree) → (edited e s).about.tree ≡ s.about.tree
edited_tree (Root n) s = refl
edited_tree (Insert p i n) s = refl
edited_tree (Remove z) s = refl
edited_tree (Move z p i) s = refl
edited_tree (Set n) s = refl
edited_tree (Data d) s = refl

kept_edit : (t : ℕ) (e : Edit) (f : Frame) → Kept t f → Kept t (after_edit e f)
kept_edit t e f k =
    by_go (is_none (refusal e f.source))
    (λ q. rw q record {
      step = edit_in_step e f.sent f.source f.marks f.flag (is_bare f.sent.trees) k.step (none_is (refusal e f.source) q);
      of_tree = edited_tree e f.source ∙ k.of_tree;
      sent_none = k.sent_none;
    })
    (λ q. rw q k)

kept_packet : (t : ℕ) (f : Frame) → Kept t f → Kept t (after_entry t Passed f)
kept_packet t f k =
    by_go (pending f)
    (λ q. let rooted : is_bare f.source.trees ≡ false = grind (arith, q) in
    rw q record {
      step = self_in_step f.source k.step.trees.source k.step.trees.source_low (is_bare f.source.trees);
      of_tree = k.of_tree;
      sent_none = λ h. absurd (false≢true (sym rooted ∙ h));
    })
    (λ q. rw q k)

pub kept_entry : (t : ℕ) (e : JEntry) (f : Frame) → Kept t f → Kept t (after_entry t e f)
kept_entry t (Edited e) f k = kept_edit t e f k
kept_entry t (Marked z) f k =
    by_go (has f.source.trees z)
    (λ q. rw q record { step = mark_in_step z f.sent f.source f.marks f.flag (is_bare f.sent.trees) k.step q; of_tree = k.of_tree; sent_none = k.sent_none })
    (λ q. rw q k)
kept_entry t (MarkedBelow z) f k =
    record { step = mark_below_in_step z f.sent f.source f.marks f.flag (is_bare f.sent.trees) k.step; of_tree = k.of_tree; sent_none = k.sent_none }
kept_entry t Passed f k = kept_packet t f k
kept_entry t Short f k = record { step = k.step; of_tree = k.of_tree; sent_none = k.sent_none }
kept_entry t (Delivered n) f k =
    record { step = delivery_in_step t f.sent f.source f.marks f.flag (is_bare f.sent.trees) k.step (sym k.of_tree); of_tree = k.of_tree; sent_none = λ _. refl }

pub kept_from : (t : ℕ) (es : List JEntry) (f : Frame) → Kept t f → Kept t (frame_from t es f)
kept_from t [] f k = k
kept_from t (e ∷ es) f k = kept_from t es (after_entry t e f) (kept_entry t e f k)

pub kept_new : (t : ℕ) → Kept t (new_frame t)
kept_new t = record { step = self_in_step (empty t) (record { one_root = tt; distinct = tt }) (omega arith) true; of_tree = refl; sent_none = λ _. refl }

pub kept_frame : (t : ℕ) (journal : List JEntry) → Kept t (frame_of t journal)
kept_frame t journal = kept_from t journal (new_frame t) (kept_new t)

-- the frame's source is the journal's
source_entry : (t : ℕ) (e : JEntry) (f : Frame) → (after_entry t e f).source ≡ source_after e f.source
source_entry t (Edited e) f = by_go (is_none (refusal e f.source)) (λ q. rw q refl) (λ q. rw q refl)
source_entry t (Marked z) f = by_go (has f.source.trees z) (λ q. rw q refl) (λ q. rw q refl)
source_entry t (MarkedBelow z) f = refl
source_entry t Passed f = by_go (pending f) (λ q. rw q refl) (λ q. rw q refl)
source_entry t Short f = refl
source_entry t (Delivered n) f = refl

pub frame_source : (t : ℕ) (es : List JEntry) (f : Frame) → (frame_from t es f).source ≡ source_from es f.source
frame_source t [] f = refl
frame_source t (e ∷ es) f = frame_source t es (after_entry t e f) ∙ ap (source_from es) (source_entry t e f)

-- one entry more
pub frame_push : (t : ℕ) (es : List JEntry) (e : JEntry) (f : Frame) → frame_from t (es ++ (e ∷ [])) f ≡ after_entry t e (frame_from t es f)
frame_push t [] e f = refl
frame_push t (x ∷ es) e f = frame_push t es e (after_entry t x f)
