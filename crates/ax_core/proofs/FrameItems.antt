-- What a frame's next operation, a delivery and a receipt are among the rules of steps.
use Rattle.std.proofs.Common.{ℕ, suc, zero, ◌≡◌, ◌⊎◌, inl, inr, List, [], ◌∷◌, ◌++◌, slice_get, refl, sym, ap, ap₂, ◌∙◌, Option, Some, None}
use Rattle.std.specs.Prelude.{option_map, option_and_then, slice_set}
use Rattle.ax_trees.specs.Lists.{NoneTwice}
use Rattle.ax_tree.specs.declared.packet.Packet.{Packet}
use Rattle.ax_tree.specs.declared.packet.HEntry.{HEntry}
use Rattle.ax_tree.specs.declared.packet.HEntry.TheVariants.{Got}
use Rattle.ax_ask.specs.declared.op.FrameOp.{FrameOp}
use Rattle.ax_ask.specs.declared.op.FrameOp.TheVariants as ops
use Rattle.ax_ask.specs.declared.op.Item.TheVariants as items
use Rattle.ax_ask.specs.declared.line.Line.{Line}
use Rattle.ax_ask.specs.declared.line.Line.TheVariants as lines
use Rattle.ax_base.specs.declared.pass.Token.{Token}
use Rattle.ax_rules.specs.Mirrors.{verdict_of}
use Rattle.ax_run_rules.specs.States.{FrameRun, State, Run, find_frame, with_frame, trees_of}
use Rattle.ax_run_rules.specs.FrameSteps.{do_op}
use Rattle.ax_run_rules.specs.Steps.{step, do_next_op, do_oldest, do_receive, do_deliver}
use Rattle.ax_run_laws.proofs.Found.{some_same}
use Rattle.ax_forest.specs.Past.{Past}
use Rattle.ax_core.specs.FrameRuns.{NextDone, IsRuled, MayResume, Resumes, delivered}
use Rattle.ax_core.specs.Places.{place_of}
use Rattle.ax_core.specs.Receipts.{ReceiptDone}
use Rattle.ax_core.specs.Standing.{at}
use Rattle.ax_core.specs.Items.{Answers, IsStep, IsResumed}
use Rattle.ax_core.proofs.Found.{found_at, put_at, short_at}

abbrev pub put : State → ℕ → FrameRun → State
put s i g = record s { frames = slice_set s.frames i g }

pub found : (s : State) (t i : ℕ) (f : FrameRun) → place_of (trees_of s) t ≡ Some i → slice_get s.frames i ≡ Some f → find_frame s t ≡ Some f
unfolding find_frame
found s t i f p h = found_at s.frames t ∙ (ap (λ o. option_and_then (λ k. slice_get s.frames k) o) p ∙ h)

pub with_put : (s : State) (i : ℕ) (f g : FrameRun) → NoneTwice (trees_of s) → slice_get s.frames i ≡ Some f → f.tree ≡ g.tree → with_frame s g ≡ put s i g
unfolding with_frame
with_put s i f g n h e = ap (λ fs. record s { frames = fs }) (put_at s.frames i g f n h e)

step_frame : (s : State) (t : ℕ) (f : FrameRun) (left : List FrameOp) → find_frame s t ≡ Some f → f.left ≡ left → step (at s) (items.Frame t) ≡ do_next_op (at s) f left
unfolding step
step_frame s t f left e l = ap (λ o. option_and_then (λ (g : FrameRun). do_next_op (at s) g g.left) o) e ∙ ap (do_next_op (at s) f) l

-- a state and a line, as a run
abbrev done : State → Line → Option Run
done s l = Some (record { state = s; lines = l ∷ [] })

pub ruled : (s : State) (t i : ℕ) (f g : FrameRun) (op : FrameOp) (left : List FrameOp) (l : Line) → NoneTwice (trees_of s) → find_frame s t ≡ Some f → slice_get s.frames i ≡ Some f → f.left ≡ op ∷ left → IsRuled f op left g l
    → IsStep s (items.Frame t) (put s i g) l
unfolding do_op
ruled s t i f g op left l n e h w d =
    step_frame s t f (op ∷ left) e w
    ∙ ap₂ done (ap (with_frame s) (sym d.after) ∙ with_put s i f g n h (sym (ap (λ (x : FrameRun). x.tree) d.after))) (sym d.told)

-- the pass of a frame that completes a bundle
pub resumed : (s : State) (t i : ℕ) (f g : FrameRun) (left : List FrameOp) (l : Line) → NoneTwice (trees_of s) → find_frame s t ≡ Some f → slice_get s.frames i ≡ Some f → f.left ≡ ops.Pass ∷ left → Resumes f left g l
    → IsResumed s (items.Frame t) (put s i g) l
resumed s t i f g left l n e h w d = record {
  tree = t;
  item = refl;
  frame = f;
  found = e;
  left = left;
  next = w;
  after = g;
  resumes = d;
  state = sym (with_put s i f g n h (sym (ap (λ (x : FrameRun). x.tree) d.after)));
}

may_resume : (s : State) (t i : ℕ) (f g : FrameRun) (op : FrameOp) (left : List FrameOp) (l : Line) → NoneTwice (trees_of s) → find_frame s t ≡ Some f → slice_get s.frames i ≡ Some f → f.left ≡ op ∷ left → MayResume f op left g l
    → IsResumed s (items.Frame t) (put s i g) l
may_resume s t i f g (ops.Edit x) left l n e h w d = absurd d
may_resume s t i f g (ops.Touch x) left l n e h w d = absurd d
may_resume s t i f g (ops.TouchBelow x) left l n e h w d = absurd d
may_resume s t i f g ops.Pass left l n e h w d = resumed s t i f g left l n e h w d

-- what is put back changes nothing
pub put_same : (s : State) (i : ℕ) (f g : FrameRun) → slice_get s.frames i ≡ Some f → g ≡ f → put s i g ≡ s
put_same s i f g h e = ap (λ x. put s i x) e ∙ ap (λ fs. record s { frames = fs }) (set_same s.frames i f h)
  where
    set_same : (fs : List FrameRun) (k : ℕ) (x : FrameRun) → slice_get fs k ≡ Some x → slice_set fs k x ≡ fs
    set_same [] k x h = refl
    set_same (y ∷ fs) zero x h = ap (λ z. z ∷ fs) (sym (some_same y x h))
    set_same (y ∷ fs) (suc k) x h = ap (λ l. y ∷ l) (set_same fs k x h)

pub frame_answers : (s : State) (t i : ℕ) (f g : FrameRun) (o : Option Line) → NoneTwice (trees_of s) → place_of (trees_of s) t ≡ Some i → slice_get s.frames i ≡ Some f → NextDone f f.left g o
    → Answers s (items.Frame t) (put s i g) o
frame_answers s t i f g o n p h d = go f.left refl o d
  where
    e : find_frame s t ≡ Some f
    e = found s t i f p h

    go : (left : List FrameOp) → f.left ≡ left → (m : Option Line) → NextDone f left g m → Answers s (items.Frame t) (put s i g) m
    go [] w None k = (step_frame s t f [] e w, put_same s i f g h k.1)
    go [] w (Some l) k = absurd (let no : ⊥ = cc in no)
    go (op ∷ left) w None k = absurd k
    go (op ∷ left) w (Some l) k = record {
      is = both k.is;
      whole = λ all. ruled s t i f g op left l n e h w (k.whole (short_at s.frames i f all h));
    }
      where
        both : (IsRuled f op left g l ⊎ MayResume f op left g l) → IsStep s (items.Frame t) (put s i g) l ⊎ IsResumed s (items.Frame t) (put s i g) l
        both (inl r) = inl (ruled s t i f g op left l n e h w r)
        both (inr r) = inr (may_resume s t i f g op left l n e h w r)

-- an item of a tree that has no frame
pub none_at : (s : State) (t : ℕ) → place_of (trees_of s) t ≡ None → find_frame s t ≡ None
unfolding find_frame
none_at s t p = found_at s.frames t ∙ ap (λ o. option_and_then (λ k. slice_get s.frames k) o) p

pub no_frame : (s : State) (t : ℕ) → place_of (trees_of s) t ≡ None → step (at s) (items.Frame t) ≡ None
unfolding step
no_frame s t p = ap (λ o. option_and_then (λ (f : FrameRun). do_next_op (at s) f f.left) o) (none_at s t p)

pub no_receipt : (s : State) (t : ℕ) → place_of (trees_of s) t ≡ None → step (at s) (items.Receive t) ≡ None
unfolding step
no_receipt s t p = ap (λ o. option_and_then (λ (f : FrameRun). do_oldest (at s) f f.waiting) o) (none_at s t p)

pub no_delivery : (s : State) (t : ℕ) (k : Token) → place_of (trees_of s) t ≡ None → step (at s) (items.Deliver t k) ≡ None
unfolding step
no_delivery s t k p = ap (λ o. option_map (λ (f : FrameRun). do_deliver (at s) f k.0) o) (none_at s t p)

-- ---- a delivery

pub delivery_answers : (s : State) (t i : ℕ) (k : Token) (f g : FrameRun) (l : Line) → NoneTwice (trees_of s) → place_of (trees_of s) t ≡ Some i → slice_get s.frames i ≡ Some f → g ≡ delivered f k.0 → l ≡ lines.Delivered f.tree k
    → Answers s (items.Deliver t k) (put s i g) (Some l)
unfolding step do_deliver
delivery_answers s t i k f g l n p h d m = record { is = inl is; whole = λ all. is }
  where
    is : IsStep s (items.Deliver t k) (put s i g) l
    is =
        ap (λ o. option_map (λ (x : FrameRun). do_deliver (at s) x k.0) o) (found s t i f p h)
        ∙ ap₂ done (ap (with_frame s) (sym d) ∙ with_put s i f g n h (sym (ap (λ (x : FrameRun). x.tree) d))) (sym m)

-- ---- a receipt

pub receipt_answers : (s : State) (t i : ℕ) (f g : FrameRun) (p q : Past) (o : Option Line) → NoneTwice (trees_of s) → place_of (trees_of s) t ≡ Some i → slice_get s.frames i ≡ Some f → p.history ≡ s.history
    → g ≡ record f { waiting = g.waiting } → ReceiptDone f.tree p f.waiting q g.waiting o → Answers s (items.Receive t) (record (put s i g) { history = q.history }) o
unfolding step do_receive with_frame
receipt_answers s t i f g p q o n at_place h same rest d = go f.waiting refl o d
  where
    e : find_frame s t ≡ Some f
    e = found s t i f at_place h

    first : (ps : List Packet) → f.waiting ≡ ps → step (at s) (items.Receive t) ≡ do_oldest (at s) f ps
    first ps w = ap (λ x. option_and_then (λ (y : FrameRun). do_oldest (at s) y y.waiting) x) e ∙ ap (do_oldest (at s) f) w

    go : (ps : List Packet) → f.waiting ≡ ps → (m : Option Line) → ReceiptDone f.tree p ps q g.waiting m → Answers s (items.Receive t) (record (put s i g) { history = q.history }) m
    go [] w None k =
        (first [] w, ap₂ (λ (x : State) (u : List HEntry). record x { history = u }) (put_same s i f g h (rest ∙ ap (λ v. record f { waiting = v }) (k.1.1 ∙ sym w))) (ap (λ (u : Past). u.history) k.1.0 ∙ same))
    go [] w (Some l) k = absurd (let no : ⊥ = cc in no)
    go (x ∷ ps) w None k = absurd k
    go (x ∷ ps) w (Some l) k = record { is = inl is; whole = λ all. is }
      where
        is : IsStep s (items.Receive t) (record (put s i g) { history = q.history }) l
        is =
            first (x ∷ ps) w
            ∙ ap₂ done
            (ap₂ (λ (y : State) (u : List HEntry). record y { history = u })
            (ap (with_frame s) (ap (λ v. record f { waiting = v }) (sym k.1.1) ∙ sym rest) ∙ with_put s i f g n h (sym (ap (λ (y : FrameRun). y.tree) rest)))
            (ap (λ u. u ++ Got x ∷ []) (sym same) ∙ sym (ap (λ (u : Past). u.history) k.1.0)))
            (ap (λ u. lines.Received f.tree (verdict_of u x)) (sym same) ∙ sym k.0)
