-- What the calls of a frame in its place make of the state.
use Rattle.std.proofs.Common.{ℕ, ◌≡◌, ◌⊎◌, inl, inr, ◌==◌, Bool, true, false, ◌||◌, List, [], ◌∷◌, map, slice_get, refl, sym, ap, ap₂, ◌∙◌, subst, Option, Some, Result, Ok, Err, IfOk, OnOk, OnErr}
use Rattle.std.specs.List.{All}
use Rattle.std.proofs.lemmas.Bool.{false≢true, eqb-true}
use Rattle.std.proofs.lemmas.List.Elements.{All-head, All-tail}
use Rattle.ax_base.specs.declared.seq.NoMemory.{NoMemory}
use Rattle.ax_trees.specs.Lists.{contains, NoneTwice}
use Rattle.ax_tree.specs.declared.packet.HEntry.{HEntry}
use Rattle.ax_tree.specs.Packets.{IsGood}
use Rattle.ax_tree.proofs.GoodFronts.{good_front}
use Rattle.ax_ask.specs.declared.op.FrameOp.{FrameOp}
use Rattle.ax_ask.specs.declared.op.Item.TheVariants as items
use Rattle.ax_ask.specs.declared.line.Line.{Line}
use Rattle.ax_ask.specs.declared.op.TimedOp.{TimedOp}
use Rattle.ax_ask.specs.Calls.{HaveLeaves, AllNamed, tree_of}
use Rattle.ax_rules.specs.Histories.{got}
use Rattle.ax_run_rules.specs.States.{FrameRun, State, trees_of}
use Rattle.ax_forest.specs.Past.{Past}
use Rattle.ax_core.specs.FrameRuns.{NextDone, NextBroken, with_short, delivered, IsFitting, KeepsFitting}
use Rattle.ax_core.specs.Places.{place_of}
use Rattle.ax_core.specs.Receipts.{ReceiptDone}
use Rattle.ax_core.specs.Standing.{IsKept}
use Rattle.ax_core.specs.Items.{Answers, IsCut}
use Rattle.ax_core.proofs.Found.{all_at}
use Rattle.ax_core.proofs.FrameItems.{put, put_same, with_put, found, frame_answers, receipt_answers}
use Rattle.ax_core.proofs.Kept.{Follows, kept_put, kept_receipt, next_follows, same_follows, tree_in}

pub fits_at : (s : State) (ps ts : List ℕ) (i : ℕ) (f : FrameRun) → IsKept s ps ts → slice_get s.frames i ≡ Some f → IsFitting s.history f
fits_at s ps ts i f k h = all_at (IsFitting s.history) s.frames i f k.stands.fitting h

-- ---- the next operation

pub next_answers : (r : Result (Option Line) NoMemory) (s : State) (t i : ℕ) (f g : FrameRun) → NoneTwice (trees_of s) → place_of (trees_of s) t ≡ Some i → slice_get s.frames i ≡ Some f
    → IfOk r (λ o. NextDone f f.left g o) → IfOk r (λ o. Answers s (items.Frame t) (put s i g) o)
next_answers (Ok o) s t i f g n p h d = frame_answers s t i f g o n p h d
next_answers (Err e) s t i f g n p h d = tt

pub next_cut : (r : Result (Option Line) NoMemory) (s : State) (t i : ℕ) (f g : FrameRun) → NoneTwice (trees_of s) → place_of (trees_of s) t ≡ Some i → slice_get s.frames i ≡ Some f
    → OnErr r (NextBroken f f.left g) → OnErr r ((put s i g ≡ s) ⊎ IsCut s (items.Frame t) (put s i g))
next_cut (Ok o) s t i f g n p h b = tt
next_cut (Err e) s t i f g n p h b = go f.left refl b
  where
    go : (left : List FrameOp) → f.left ≡ left → NextBroken f left g → (put s i g ≡ s) ⊎ IsCut s (items.Frame t) (put s i g)
    go [] w k = inl (put_same s i f g h k)
    go (op ∷ left) w (inl k) = inl (put_same s i f g h k)
    go (op ∷ left) w (inr x) = inr (record {
      tree = t;
      item = refl;
      frame = f;
      found = found s t i f p h;
      left = left;
      next = w ∙ ap (λ o. o ∷ left) x.0;
      pends = x.1.0;
      state = ap (put s i) x.1.1 ∙ sym (with_put s i f (with_short f) n h refl);
    })

pub next_kept : (r : Result (Option Line) NoMemory) (s : State) (ps ts : List ℕ) (i : ℕ) (f g : FrameRun) → IsKept s ps ts → slice_get s.frames i ≡ Some f
    → IfOk r (λ o. NextDone f f.left g o) → OnErr r (NextBroken f f.left g) → KeepsFitting f g → IsKept (put s i g) ps ts
next_kept r s ps ts i f g k h d b keeps = kept_put s ps ts i f g k h (next_follows r f g d b) (keeps s.history (fits_at s ps ts i f k h))

-- ---- a delivery

pub delivery_kept : (r : Result Line NoMemory) (s : State) (ps ts : List ℕ) (i : ℕ) (n : ℕ) (f g : FrameRun) → IsKept s ps ts → slice_get s.frames i ≡ Some f
    → OnOk r (g ≡ delivered f n) → OnErr r (g ≡ f) → KeepsFitting f g → IsKept (put s i g) ps ts
delivery_kept r s ps ts i n f g k h d b keeps = kept_put s ps ts i f g k h (follows r d b) (keeps s.history (fits_at s ps ts i f k h))
  where
    follows : (q : Result Line NoMemory) → OnOk q (g ≡ delivered f n) → OnErr q (g ≡ f) → Follows f g
    follows (Ok l) e u = record { tree = ap tree_in e; leaves = λ x. subst (λ (y : FrameRun). HaveLeaves y.left) (sym e) x }
    follows (Err l) e u = same_follows f g u

-- ---- a receipt

pub receipt_results : (r : Result (Option Line) NoMemory) (s : State) (t i : ℕ) (f g : FrameRun) (p q : Past) → NoneTwice (trees_of s) → place_of (trees_of s) t ≡ Some i → slice_get s.frames i ≡ Some f
    → p.history ≡ s.history → g ≡ record f { waiting = g.waiting } → IfOk r (λ o. ReceiptDone f.tree p f.waiting q g.waiting o) → IfOk r (λ o. Answers s (items.Receive t) (record (put s i g) { history = q.history }) o)
receipt_results (Ok o) s t i f g p q n at_place h past rest d = receipt_answers s t i f g p q o n at_place h past rest d
receipt_results (Err e) s t i f g p q n at_place h past rest d = tt

pub receipt_refused : (r : Result (Option Line) NoMemory) (s : State) (i : ℕ) (f g : FrameRun) (p q : Past) → slice_get s.frames i ≡ Some f → p.history ≡ s.history → OnErr r (q ≡ p) → OnErr r (g ≡ f)
    → OnErr r (record (put s i g) { history = q.history } ≡ s)
receipt_refused (Ok o) s i f g p q h past u v = tt
receipt_refused (Err e) s i f g p q h past u v =
    ap₂ (λ (x : State) (y : List HEntry). record x { history = y }) (put_same s i f g h v) (ap (λ (x : Past). x.history) u ∙ past)

pub receipt_kept : (r : Result (Option Line) NoMemory) (s : State) (ps ts : List ℕ) (i : ℕ) (f g : FrameRun) (p q : Past) → IsKept s ps ts → slice_get s.frames i ≡ Some f → p.history ≡ s.history → p.trees ≡ ts
    → g ≡ record f { waiting = g.waiting } → IfOk r (λ o. ReceiptDone f.tree p f.waiting q g.waiting o) → OnErr r (q ≡ p) → OnErr r (g ≡ f) → IsKept (record (put s i g) { history = q.history }) ps q.trees
receipt_kept (Ok o) s ps ts i f g p q k h past trees rest d u v = kept_receipt s ps ts i f g p q o k h past trees rest d
receipt_kept (Err e) s ps ts i f g p q k h past trees rest d u v =
    subst (λ (y : List HEntry). IsKept (record (put s i g) { history = y }) ps q.trees) (sym (ap (λ (x : Past). x.history) u ∙ past))
    (subst (λ l. IsKept (put s i g) ps l) (sym (ap (λ (x : Past). x.trees) u ∙ trees)) (subst (λ (x : State). IsKept x ps ts) (sym (put_same s i f g h v)) k))

-- ---- the browser

-- the packets received of a tree that a frame has are good
pub good_named : (h : List HEntry) (fs : List FrameRun) (t : ℕ) → contains (map tree_in fs) t ≡ true → All (IsFitting h) fs → IsGood t (got h t)
good_named h [] t c a = absurd (false≢true c)
good_named h (f ∷ fs) t c a = go (f.tree == t) refl c (λ m. good_named h fs t m (All-tail (IsFitting h) f fs a))
  where
    go : (b : Bool) → (f.tree == t) ≡ b → (b || contains (map tree_in fs) t) ≡ true → (contains (map tree_in fs) t ≡ true → IsGood t (got h t)) → IsGood t (got h t)
    go true e m ih = subst (λ u. IsGood u (got h u)) (eqb-true f.tree t e) (good_front f.tree (got h f.tree) f.waiting (All-head (IsFitting h) f fs a).good)
    go false e m ih = ih m

-- the browser's next operation is at a frame's tree, whose packets are good
pub good_first : (s : State) (ps ts : List ℕ) (o : TimedOp) (left : List TimedOp) → IsKept s ps ts → s.browser ≡ o ∷ left → IsGood (tree_of o.op) (got s.history (tree_of o.op))
good_first s ps ts o left k b = good_named s.history s.frames (tree_of o.op) named.0 k.stands.fitting
  where
    named : AllNamed (trees_of s) (o ∷ left)
    named = subst (λ l. AllNamed (trees_of s) l) b k.stands.named
