-- What a frame holds after each entry but a pass.
use Rattle.std.proofs.Common.{ℕ, suc, ◌≡◌, ◌-◌, inl, inr, ⊎_elim, Bool, true, false, ◌||◌, List, [], ◌∷◌, ◌++◌, length, length-append, take, Option, Some, None, Err, refl, sym, ap, ap₂, subst, ◌∙◌, arith}
use Rattle.std.specs.Prelude.{is_none}
use Rattle.std.proofs.lemmas.Bool.{false≢true}
use Rattle.std.proofs.lemmas.Bool.Decides.{eqb_tells}
use Rattle.ax_node.specs.Look.{Look, look_of}
use Rattle.ax_trees.specs.Trees.{Trees, bare, tree, is_bare, has}
use Rattle.ax_trees.specs.Nodes.{pre, tree_at}
use Rattle.ax_trees.specs.Lists.{contains, is_nil}
use Rattle.ax_trees.proofs.Trees.{by_go}
use Rattle.ax_tree.specs.declared.edit.Edit.{Edit}
use Rattle.ax_tree.specs.declared.edit.Edit.TheVariants.{Root, Insert, Remove, Move, Set, Tree as Data}
use Rattle.ax_tree.specs.declared.edit.EditErr.{EditErr}
use Rattle.ax_tree.specs.declared.edit.EditErr.TheVariants as errors
use Rattle.ax_tree.specs.declared.packet.JEntry.{JEntry}
use Rattle.ax_tree.specs.declared.packet.JEntry.TheVariants.{Edited, Marked, MarkedBelow, Delivered}
use Rattle.ax_tree.specs.declared.update.TreeUpdate.{TreeUpdate}
use Rattle.ax_tree.specs.EditRule.{NodeEdit, SetRoot, InsertLeaf, RemoveTree, MoveTree, SetKnown, trees_edited}
use Rattle.ax_tree.specs.MarkRule.{add_mark, add_marks, marked_by, marks_kept, trees_marks}
use Rattle.ax_tree.specs.InStep.{TreesInStep}
use Rattle.ax_tree.specs.Bundles.{Client}
use Rattle.ax_tree.specs.Tree.{Tree, empty}
use Rattle.ax_tree.specs.Edits.{edited, refusal, marks_after, flag_after, look_set, IsRefusal}
use Rattle.ax_tree.specs.Serialised.{InStep}
use Rattle.ax_tree.specs.Journals.{Frame, new_frame, pending, after_edit, after_entry, frame_of}
use Rattle.ax_tree.specs.declared.edit.MarkErr.{MarkErr}
use Rattle.ax_tree.specs.declared.edit.MarkErr.TheVariants as mark_errors
use Rattle.ax_source.specs.Source.{IsMarkRefusal, Source, after_edit as source_edited}
use Rattle.ax_views.proofs.Walking.{tree_at_none}
use Rattle.ax_laws.proofs.EditsKeep.{contains_add, contains_adds, delivery_kept}
use Rattle.ax_laws.proofs.FrameSteps.{Kept, edit_in_step, frame_push, kept_frame, mark_below_in_step, mark_in_step}
use Rattle.ax_frame.specs.Frames.{Journaled, HoldsFrame, IsSending, all_kept, edit_answered, is_no_memory, lacks_memory, with_entry}
use Rattle.ax_serializer.specs.Sending.{Sending}

none_from : {A : Type 0} (o : Option A) → o ≡ None → is_none o ≡ true
none_from None h = refl
none_from (Some x) h = absurd (cc)

-- a list that has something isn't empty
not_nil : (m : List ℕ) (z : ℕ) → contains m z ≡ true → is_nil m ≡ false
not_nil [] z h = absurd (false≢true h)
not_nil (x ∷ m) z h = refl

not_bare : {X : Type 0} (f : Trees X) (z : ℕ) → has f z ≡ true → is_bare f ≡ false
not_bare bare z h = absurd (false≢true h)
not_bare (tree i x k r) z h = refl

-- a marked source with a root is still to be sent
pending_marked : (f : Frame) (z : ℕ) → is_bare f.source.trees ≡ false → contains f.marks z ≡ true → pending f ≡ true
pending_marked f z b c = let m : is_nil f.marks ≡ false = not_nil f.marks z c in grind (arith, b, m)

pending_flagged : (f : Frame) → is_bare f.source.trees ≡ false → f.flag ≡ true → pending f ≡ true
pending_flagged f b g = grind (arith, b, g)

pub pending_rooted : (f : Frame) → pending f ≡ true → is_bare f.source.trees ≡ false
pending_rooted f p = grind (arith, p)

-- an edit of nodes leaves a mark
marked_in : (n : NodeEdit Look) (s : Trees Look) (m : List ℕ) (r : Trees Look) → TreesInStep r (trees_edited n s) (trees_marks n s m) → (z : ℕ) × (contains (trees_marks n s m) z ≡ true) × (is_bare (trees_edited n s) ≡ false)
marked_in n s m r st = go (marked_by n s) refl
  where
    found : (z : ℕ) (zs : List ℕ) → marked_by n s ≡ z ∷ zs → contains (trees_marks n s m) z ≡ true
    found z zs e = contains_adds (marks_kept n m (trees_edited n s)) (marked_by n s) z ∙ ap (λ ts. contains (marks_kept n m (trees_edited n s)) z || contains ts z) e ∙ grind (arith, eqb_tells z z)

    some_by : (k : NodeEdit Look) (f : Trees Look) → marked_by k f ≡ [] → ⊥
    some_by (SetRoot y x) f e = absurd (cc)
    some_by (InsertLeaf y i x d) f e = absurd (cc)
    some_by (RemoveTree y) f e = absurd (cc)
    some_by (MoveTree y q i) f e = absurd (cc)
    some_by (SetKnown y g) f e = absurd (cc)

    go : (ts : List ℕ) → marked_by n s ≡ ts → (z : ℕ) × (contains (trees_marks n s m) z ≡ true) × (is_bare (trees_edited n s) ≡ false)
    go [] e = absurd (some_by n s e)
    go (z ∷ zs) e = let c = found z zs e in (z, c, not_bare (trees_edited n s) z (st.marks_in z c))

-- after an accepted edit there is something to send
pending_edit : (e : Edit) (f : Frame) (r : Trees Look) → TreesInStep r (edited e f.source).trees (marks_after e f.source f.marks) → pending f ≡ true
    → pending (record f { source = edited e f.source; marks = marks_after e f.source f.marks; flag = flag_after e f.flag; slip = f.slip ++ e ∷ [] }) ≡ true
pending_edit (Root n) f r st p = let a = marked_in (SetRoot n.id (look_of n)) f.source.trees f.marks r st in pending_marked (record f { source = edited (Root n) f.source; marks = marks_after (Root n) f.source f.marks; flag = f.flag; slip = f.slip ++ Root n ∷ [] }) a.0 a.2 a.1
pending_edit (Insert q i n) f r st p = let a = marked_in (InsertLeaf q i n.id (look_of n)) f.source.trees f.marks r st in pending_marked (record f { source = edited (Insert q i n) f.source; marks = marks_after (Insert q i n) f.source f.marks; flag = f.flag; slip = f.slip ++ Insert q i n ∷ [] }) a.0 a.2 a.1
pending_edit (Remove z) f r st p = let a = marked_in (RemoveTree z) f.source.trees f.marks r st in pending_marked (record f { source = edited (Remove z) f.source; marks = marks_after (Remove z) f.source f.marks; flag = f.flag; slip = f.slip ++ Remove z ∷ [] }) a.0 a.2 a.1
pending_edit (Move z q i) f r st p = let a = marked_in (MoveTree z q i) f.source.trees f.marks r st in pending_marked (record f { source = edited (Move z q i) f.source; marks = marks_after (Move z q i) f.source f.marks; flag = f.flag; slip = f.slip ++ Move z q i ∷ [] }) a.0 a.2 a.1
pending_edit (Set n) f r st p = let a = marked_in (SetKnown n.node (look_set n)) f.source.trees f.marks r st in pending_marked (record f { source = edited (Set n) f.source; marks = marks_after (Set n) f.source f.marks; flag = f.flag; slip = f.slip ++ Set n ∷ [] }) a.0 a.2 a.1
pending_edit (Data d) f r st p = pending_flagged (record f { source = edited (Data d) f.source; marks = marks_after (Data d) f.source f.marks; flag = true; slip = f.slip ++ Data d ∷ [] }) (pending_rooted f p) refl

-- the receiver as a whole tree, in step
pub in_step : (t : ℕ) (f : Frame) (m : List ℕ) (r : Trees Look) → Kept t f → TreesInStep r f.source.trees m → InStep (record { about = f.sent.about; trees = r }) f.source m f.flag (is_bare f.sent.trees)
in_step t f m r k st = record { trees = st; same_tree = k.step.same_tree; same_data = k.step.same_data }

module _ (t : ℕ) (f : Frame) (kf : Kept t f) (s : Source) (c : Client) (kept : List TreeUpdate) (slip : List Edit) (passes token : ℕ) (short : Bool) (k : HoldsFrame f s c kept slip passes token short) where
  sd : IsSending f s.marks c kept
  sd = k.sending

  pub edit_holds : (e : Edit) → refusal e s.tree ≡ None → HoldsFrame (after_edit e f) (source_edited e s) c kept (slip ++ e ∷ []) passes token short
  edit_holds e h =
      let h' : refusal e f.source ≡ None = sym (ap (refusal e) k.source) ∙ h in
      let q : is_none (refusal e f.source) ≡ true = none_from (refusal e f.source) h' in
      let st = edit_in_step e (record { about = f.sent.about; trees = sd.receiver }) f.source s.marks f.flag (is_bare f.sent.trees) (in_step t f s.marks sd.receiver kf sd.step) h' in
      let own = edit_in_step e f.sent f.source f.marks f.flag (is_bare f.sent.trees) kf.step h' in
      rw q record {
        source = ap (edited e) k.source;
        flag = ap (flag_after e) k.flag;
        slips = ap (λ es. es ++ e ∷ []) k.slips;
        passed = k.passed;
        tokens = k.tokens;
        shorts = k.shorts;
        sending = record {
          receiver = sd.receiver;
          known = sd.known;
          reached = sd.reached;
          step = subst (λ (v : Tree). TreesInStep sd.receiver (edited e f.source).trees (marks_after e v s.marks)) (sym k.source) st.trees;
          none = λ n. ⊎_elim (λ same. inl (ap₂ (λ (v : Tree) (m : List ℕ). marks_after e v m) k.source same)) (λ b. inr b) (sd.none n);
          some = λ n. pending_edit e f f.sent.trees own.trees (sd.some n);
          whole = sd.whole;
          fresh = sd.fresh;
        };
      }

  pub refused_edit : (e : Edit) (x : EditErr) → refusal e s.tree ≡ Some x → HoldsFrame (after_edit e f) s c kept slip passes token short
  refused_edit e x h =
      let q : is_none (refusal e f.source) ≡ false = ap is_none (sym (ap (refusal e) k.source) ∙ h) in
      rw q k

  pub mark_holds : (z : ℕ) → has s.tree.trees z ≡ true → HoldsFrame (after_entry t (Marked z) f) (record s { marks = add_mark s.marks z }) c kept slip passes token short
  mark_holds z h =
      let q : has f.source.trees z ≡ true = sym (ap (λ (v : Tree). has v.trees z) k.source) ∙ h in
      let st = mark_in_step z (record { about = f.sent.about; trees = sd.receiver }) f.source s.marks f.flag (is_bare f.sent.trees) (in_step t f s.marks sd.receiver kf sd.step) q in
      rw q record {
        source = k.source;
        flag = k.flag;
        slips = k.slips;
        passed = k.passed;
        tokens = k.tokens;
        shorts = k.shorts;
        sending = record {
          receiver = sd.receiver;
          known = sd.known;
          reached = sd.reached;
          step = st.trees;
          none = λ n. ⊎_elim (λ same. inl (ap (λ m. add_mark m z) same)) (λ b. inr b) (sd.none n);
          some = λ n. pending_marked (record f { marks = add_mark f.marks z }) z (pending_rooted f (sd.some n)) (contains_add f.marks z z ∙ grind (arith, eqb_tells z z));
          whole = sd.whole;
          fresh = sd.fresh;
        };
      }

  pub refused_mark : (z : ℕ) → has s.tree.trees z ≡ false → HoldsFrame (after_entry t (Marked z) f) s c kept slip passes token short
  refused_mark z h = let q : has f.source.trees z ≡ false = sym (ap (λ (v : Tree). has v.trees z) k.source) ∙ h in rw q k

  pub mark_below_holds : (z : ℕ) → HoldsFrame (after_entry t (MarkedBelow z) f) (record s { marks = add_marks s.marks (pre s.tree.trees z) }) c kept slip passes token short
  mark_below_holds z =
      let st = mark_below_in_step z (record { about = f.sent.about; trees = sd.receiver }) f.source s.marks f.flag (is_bare f.sent.trees) (in_step t f s.marks sd.receiver kf sd.step) in
      record {
        source = k.source;
        flag = k.flag;
        slips = k.slips;
        passed = k.passed;
        tokens = k.tokens;
        shorts = k.shorts;
        sending = record {
          receiver = sd.receiver;
          known = sd.known;
          reached = sd.reached;
          step = subst (λ (v : Tree). TreesInStep sd.receiver f.source.trees (add_marks s.marks (pre v.trees z))) (sym k.source) st.trees;
          none = λ n. ⊎_elim (λ same. inl (ap₂ (λ (v : Tree) (m : List ℕ). add_marks m (pre v.trees z)) k.source same)) (λ b. inr b) (sd.none n);
          some = λ n. pending_more f (pre f.source.trees z) (sd.some n);
          whole = sd.whole;
          fresh = sd.fresh;
        };
      }
    where
      nil_adds : (m ts : List ℕ) → is_nil m ≡ false → is_nil (add_marks m ts) ≡ false
      nil_adds [] ts h = absurd (false≢true (sym h))
      nil_adds (x ∷ m) ts h = not_nil (add_marks (x ∷ m) ts) x (contains_adds (x ∷ m) ts x ∙ grind (arith, eqb_tells x x))

      pending_more : (g : Frame) (ts : List ℕ) → pending g ≡ true → pending (record g { marks = add_marks g.marks ts }) ≡ true
      pending_more g ts p = by_go (is_nil g.marks)
          (λ q. by_go (is_nil (add_marks g.marks ts)) (λ r. grind (arith, p, q, r)) (λ r. grind (arith, p, q, r)))
          (λ q. let r : is_nil (add_marks g.marks ts) ≡ false = nil_adds g.marks ts q in grind (arith, p, q, r))

  pub refused_mark_below : (z : ℕ) → has s.tree.trees z ≡ false → HoldsFrame (after_entry t (MarkedBelow z) f) s c kept slip passes token short
  refused_mark_below z h =
      let q : has f.source.trees z ≡ false = sym (ap (λ (v : Tree). has v.trees z) k.source) ∙ h in
      let none : tree_at f.source.trees z ≡ bare = tree_at_none f.source.trees z q in
      rw none k

  pub delivered_holds : (n : ℕ) → HoldsFrame (after_entry t (Delivered (record { 0 = n })) f) s bare [] slip passes n false
  delivered_holds n = record {
    source = k.source;
    flag = k.flag;
    slips = k.slips;
    passed = k.passed;
    tokens = refl;
    shorts = refl;
    sending = record {
      receiver = bare;
      known = refl;
      reached = refl;
      step = delivery_kept sd.receiver f.source.trees s.marks sd.step;
      none = λ n. inr refl;
      some = λ n. absurd (n refl);
      whole = λ h. refl;
      fresh = λ n. absurd (n refl);
    };
  }

-- ---- at the journal

pub new_holds : (t : ℕ) → HoldsFrame (frame_of t []) (record { tree = empty t; marks = []; changed = false }) bare [] [] 0 0 false
new_holds t = record {
  source = refl;
  flag = refl;
  slips = refl;
  passed = refl;
  tokens = refl;
  shorts = refl;
  sending = record {
    receiver = bare;
    known = refl;
    reached = refl;
    step = (kept_frame t []).step.trees;
    none = λ n. inl refl;
    some = λ n. absurd (n refl);
    whole = λ h. refl;
    fresh = λ n. absurd (n refl);
  };
}

-- one entry more
pub at_entry : (t : ℕ) (journal now : List JEntry) (e : JEntry) (s : Source) (c : Client) (kept : List TreeUpdate) (slip : List Edit) (passes token : ℕ) (short : Bool) → now ≡ journal ++ e ∷ []
    → HoldsFrame (after_entry t e (frame_of t journal)) s c kept slip passes token short → HoldsFrame (frame_of t now) s c kept slip passes token short
at_entry t journal now e s c kept slip passes token short j h =
    subst (λ f. HoldsFrame f s c kept slip passes token short) (sym (ap (frame_of t) j ∙ frame_push t journal e (new_frame t))) h

-- ---- answers

pub other_refusal : (e : Edit) (t : Tree) (x : EditErr) → IsRefusal e t x → is_no_memory x ≡ false → refusal e t ≡ Some x
other_refusal e t errors.NoRoot h q = h
other_refusal e t (errors.UnknownNode z) h q = h
other_refusal e t (errors.IdTaken z) h q = h
other_refusal e t (errors.BadIndex i l) h q = h
other_refusal e t (errors.IsRoot z) h q = h
other_refusal e t (errors.IntoItself z) h q = h
other_refusal e t (errors.TooMany z) h q = h
other_refusal e t (errors.TooDeep z) h q = h
other_refusal e t (errors.BadAttr z) h q = h
other_refusal e t errors.NoMemory h q = absurd (false≢true (sym q))

pub other_answer : (e : Edit) (x : EditErr) (j : Journaled) → is_no_memory x ≡ false → edit_answered e (Err x) j ≡ with_entry (Edited e) j
other_answer e errors.NoRoot j q = refl
other_answer e (errors.UnknownNode z) j q = refl
other_answer e (errors.IdTaken z) j q = refl
other_answer e (errors.BadIndex i l) j q = refl
other_answer e (errors.IsRoot z) j q = refl
other_answer e (errors.IntoItself z) j q = refl
other_answer e (errors.TooMany z) j q = refl
other_answer e (errors.TooDeep z) j q = refl
other_answer e (errors.BadAttr z) j q = refl
other_answer e errors.NoMemory j q = absurd (false≢true (sym q))

pub mark_unknown : {X : Type 0} (f : Trees X) (z : ℕ) (x : MarkErr) → IsMarkRefusal f z x → lacks_memory x ≡ false → has f z ≡ false
mark_unknown f z (mark_errors.UnknownNode y) h q = h.1
mark_unknown f z mark_errors.NoMemory h q = absurd (false≢true (sym q))

-- a list without the item that was put at its end
pub dropped_last : {X : Type 0} (xs ys zs : List X) (x : X) → ys ≡ xs ++ x ∷ [] → zs ≡ take (length ys - 1) ys → zs ≡ xs
dropped_last xs ys zs x e h = h ∙ ap (λ ws. take (length ws - 1) ws) e ∙ without xs x
  where
    without : {Y : Type 0} (ws : List Y) (y : Y) → take (length (ws ++ y ∷ []) - 1) (ws ++ y ∷ []) ≡ ws
    without [] y = refl
    without (w ∷ ws) y =
        let n : length (w ∷ (ws ++ y ∷ [])) - 1 ≡ suc (length (ws ++ y ∷ []) - 1) = omega (arith, length-append ws (y ∷ [])) in
        ap (λ k. take k (w ∷ (ws ++ y ∷ []))) n ∙ ap (λ vs. w ∷ vs) (without ws y)

-- ---- by what is seen

pub new_holds_as : (t : ℕ) (s : Source) (z : Sending) (journal : List JEntry) (slip : List Edit) → s ≡ record { tree = empty t; marks = []; changed = false } → z ≡ record { client = bare; kept = [] } → journal ≡ [] → slip ≡ []
    → HoldsFrame (frame_of t journal) s z.client (all_kept z.kept None) slip 0 0 false
new_holds_as t s z journal slip es ez ej el =
    subst (λ v. HoldsFrame (frame_of t journal) v z.client (all_kept z.kept None) slip 0 0 false) (sym es)
    (subst (λ (v : Sending). HoldsFrame (frame_of t journal) (record { tree = empty t; marks = []; changed = false }) v.client (all_kept v.kept None) slip 0 0 false) (sym ez)
    (subst (λ js. HoldsFrame (frame_of t js) (record { tree = empty t; marks = []; changed = false }) bare [] slip 0 0 false) (sym ej)
    (subst (λ es. HoldsFrame (frame_of t []) (record { tree = empty t; marks = []; changed = false }) bare [] es 0 0 false) (sym el) (new_holds t))))
