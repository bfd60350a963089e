-- What holds of each state holds of it after an item too.
use Rattle.std.proofs.Common.{ℕ, zero, suc, ◌≡◌, ◌≤◌, ◌⊎◌, inl, inr, ◌==◌, Bool, true, false, ◌||◌, List, [], ◌∷◌, ◌++◌, length, map, slice_get, refl, sym, ap, ◌∙◌, subst, true≢false, append_assoc, append-nil, arith, Option, Some, None, Result, Ok, Err, IfOk, OnErr}
use Rattle.std.specs.Prelude.{slice_set}
use Rattle.std.specs.List.{All}
use Rattle.std.proofs.Math.Seq.{map-set_same}
use Rattle.std.proofs.lemmas.Bool.{eqb-true}
use Rattle.std.proofs.lemmas.List.{length-set}
use Rattle.std.proofs.lemmas.List.Elements.{All-nil, All-cons, All-head, All-tail, All-set, All-weaker}
use Rattle.std.proofs.lemmas.Option.{get_or_from_slice_get}
use Rattle.ax_base.specs.declared.seq.NoMemory.{NoMemory}
use Rattle.ax_trees.specs.Lists.{contains, NoneTwice}
use Rattle.ax_tree.specs.declared.packet.Packet.{Packet}
use Rattle.ax_tree.specs.declared.packet.HEntry.{HEntry}
use Rattle.ax_tree.specs.declared.packet.HEntry.TheVariants.{Got}
use Rattle.ax_tree.specs.Packets.{Fits, IsGood}
use Rattle.ax_ask.specs.declared.op.FrameOp.{FrameOp}
use Rattle.ax_ask.specs.declared.op.FrameOp.TheVariants as ops
use Rattle.ax_ask.specs.declared.op.BrowserOp.{BrowserOp}
use Rattle.ax_ask.specs.declared.op.BrowserOp.TheVariants as browsers
use Rattle.ax_ask.specs.declared.op.TimedOp.{TimedOp}
use Rattle.ax_ask.specs.declared.query.TimedQuery.{TimedQuery}
use Rattle.ax_ask.specs.declared.line.Line.{Line}
use Rattle.ax_ask.specs.Calls.{HaveLeaves, AllNamed}
use Rattle.ax_rules.specs.Histories.{got}
use Rattle.ax_rules.proofs.Appends.{got-append}
use Rattle.ax_run_rules.specs.States.{FrameRun, State, trees_of}
use Rattle.ax_run_laws.proofs.Held.{got_own, got_other}
use Rattle.ax_forest.specs.Past.{Past}
use Rattle.ax_core.specs.FrameRuns.{after_op, after_sent, NextDone, NextBroken, IsBroken, IsRuled, MayResume, IsFitting}
use Rattle.ax_core.specs.Receipts.{with_entry, entry_by, ReceiptDone}
use Rattle.ax_core.specs.Standing.{IsKept}
use Rattle.ax_core.proofs.Found.{all_at, there_at}
use Rattle.ax_core.proofs.FrameItems.{put}

abbrev pub tree_in : FrameRun → ℕ
tree_in f = f.tree

-- ---- a frame is replaced by one of its tree

pub trees_put : (s : State) (i : ℕ) (f g : FrameRun) → slice_get s.frames i ≡ Some f → g.tree ≡ f.tree → trees_of (put s i g) ≡ trees_of s
trees_put s i f g h e = map-set_same tree_in s.frames i g f (e ∙ ap tree_in (sym (get_or_from_slice_get s.frames i f f h)))

-- what the frame g keeps of the frame f
pub record Follows (f g : FrameRun) : Type 0 where
  pub tree : g.tree ≡ f.tree
  pub leaves : HaveLeaves f.left → HaveLeaves g.left

pub kept_put : (s : State) (ps ts : List ℕ) (i : ℕ) (f g : FrameRun) → IsKept s ps ts → slice_get s.frames i ≡ Some f → Follows f g → IsFitting s.history g → IsKept (put s i g) ps ts
kept_put s ps ts i f g k h follows fit = record {
  places = k.places ∙ sym same;
  trees = k.trees ∙ sym same;
  stands = record {
    some = subst (λ n. 1 ≤ n) (sym (length-set s.frames i g)) k.stands.some;
    apart = subst (λ l. NoneTwice l) (sym same) k.stands.apart;
    named = subst (λ l. AllNamed l s.browser) (sym same) k.stands.named;
    leaves = All-set (λ (x : FrameRun). HaveLeaves x.left) s.frames i g (follows.leaves (all_at (λ (x : FrameRun). HaveLeaves x.left) s.frames i f k.stands.leaves h)) k.stands.leaves;
    fitting = All-set (IsFitting s.history) s.frames i g fit k.stands.fitting;
  };
}
  where
    same : trees_of (put s i g) ≡ trees_of s
    same = trees_put s i f g h follows.tree

-- ---- operations

pub same_follows : (f g : FrameRun) → g ≡ f → Follows f g
same_follows f g e = record { tree = ap tree_in e; leaves = λ l. subst (λ (x : FrameRun). HaveLeaves x.left) (sym e) l }

rest_follows : (f x g : FrameRun) (op : FrameOp) (left : List FrameOp) → f.left ≡ op ∷ left → x.tree ≡ f.tree → x.left ≡ left → g ≡ x → Follows f g
rest_follows f x g op left w t l e = record {
  tree = ap tree_in e ∙ t;
  leaves = λ h. let rest : HaveLeaves (op ∷ left) = subst (λ z. HaveLeaves z) w h in
      subst (λ (y : FrameRun). HaveLeaves y.left) (sym e) (subst (λ z. HaveLeaves z) (sym l) rest.1);
}

resumes_follows : (f g : FrameRun) (op : FrameOp) (left : List FrameOp) (l : Line) → f.left ≡ op ∷ left → MayResume f op left g l → Follows f g
resumes_follows f g (ops.Edit x) left l w m = absurd m
resumes_follows f g (ops.Touch x) left l w m = absurd m
resumes_follows f g (ops.TouchBelow x) left l w m = absurd m
resumes_follows f g ops.Pass left l w m = rest_follows f (after_sent f left m.packet) g ops.Pass left w refl refl m.after

pub done_follows : (f g : FrameRun) (o : Option Line) → NextDone f f.left g o → Follows f g
done_follows f g o d = go f.left refl o d
  where
    go : (left : List FrameOp) → f.left ≡ left → (m : Option Line) → NextDone f left g m → Follows f g
    go [] w m k = same_follows f g k.1
    go (op ∷ left) w None k = absurd k
    go (op ∷ left) w (Some l) k = both k.is
      where
        both : (IsRuled f op left g l ⊎ MayResume f op left g l) → Follows f g
        both (inl r) = rest_follows f (after_op f op left) g op left w refl refl r.after
        both (inr m) = resumes_follows f g op left l w m

pub broken_follows : (f g : FrameRun) → NextBroken f f.left g → Follows f g
broken_follows f g b = go f.left b
  where
    go : (left : List FrameOp) → NextBroken f left g → Follows f g
    go [] e = same_follows f g e
    go (op ∷ left) k = both k
      where
        both : IsBroken f op g → Follows f g
        both (inl e) = same_follows f g e
        both (inr x) = record { tree = ap tree_in x.1.1; leaves = λ l. subst (λ (y : FrameRun). HaveLeaves y.left) (sym x.1.1) l }

pub next_follows : (r : Result (Option Line) NoMemory) (f g : FrameRun) → IfOk r (λ o. NextDone f f.left g o) → OnErr r (NextBroken f f.left g) → Follows f g
next_follows (Ok o) f g d b = done_follows f g o d
next_follows (Err e) f g d b = broken_follows f g b

-- ---- entries of the history

pub entry_got : (o : BrowserOp) (t : ℕ) → got (entry_by o ∷ []) t ≡ []
unfolding got
entry_got (browsers.Ask u) t = refl
entry_got (browsers.Destroy u) t = refl
entry_got (browsers.Probe u x) t = refl

pub fits_entry : (h : List HEntry) (e : HEntry) (f : FrameRun) → got (e ∷ []) f.tree ≡ [] → IsFitting h f → IsFitting (h ++ e ∷ []) f
fits_entry h e f none fit =
    subst (λ l. Fits f.tree f.journal (l ++ f.waiting)) (sym (got-append h (e ∷ []) f.tree ∙ (ap (λ l. got h f.tree ++ l) none ∙ append-nil (got h f.tree)))) fit

fits_own : (h : List HEntry) (x : Packet) (f : FrameRun) (ps : List Packet) → x.tree ≡ f.tree → f.waiting ≡ x ∷ ps → IsFitting h f → IsFitting (h ++ Got x ∷ []) (record f { waiting = ps })
fits_own h x f ps t w fit = subst (λ l. Fits f.tree f.journal l) (sym same) fit
  where
    same : got (h ++ Got x ∷ []) f.tree ++ ps ≡ got h f.tree ++ f.waiting
    same =
        ap (λ l. l ++ ps) (got-append h (Got x ∷ []) f.tree ∙ ap (λ l. got h f.tree ++ l) (got_own x f.tree t))
        ∙ (append_assoc (got h f.tree) (x ∷ []) ps ∙ ap (λ l. got h f.tree ++ l) (sym w))

-- a packet of a tree that no frame has
fits_others : (h : List HEntry) (x : Packet) (fs : List FrameRun) → contains (map tree_in fs) x.tree ≡ false → All (IsFitting h) fs → All (IsFitting (h ++ Got x ∷ [])) fs
fits_others h x [] n a = All-nil (IsFitting (h ++ Got x ∷ []))
fits_others h x (f ∷ fs) n a = go (f.tree == x.tree) refl n (λ m. fits_others h x fs m (All-tail (IsFitting h) f fs a))
  where
    go : (b : Bool) → (f.tree == x.tree) ≡ b → (b || contains (map tree_in fs) x.tree) ≡ false
        → (contains (map tree_in fs) x.tree ≡ false → All (IsFitting (h ++ Got x ∷ [])) fs) → All (IsFitting (h ++ Got x ∷ [])) (f ∷ fs)
    go true e m ih = absurd (true≢false m)
    go false e m ih =
        All-cons (IsFitting (h ++ Got x ∷ [])) f fs (fits_entry h (Got x) f (got_other x f.tree (turned f.tree x.tree e)) (All-head (IsFitting h) f fs a)) (ih m)
      where
        turned : (u v : ℕ) → (u == v) ≡ false → (v == u) ≡ false
        turned u v e = grind (arith, e)

-- each frame's packets fit after the oldest of one was received
fits_received : (h : List HEntry) (fs : List FrameRun) (i : ℕ) (f g : FrameRun) (x : Packet) → NoneTwice (map tree_in fs) → slice_get fs i ≡ Some f → x.tree ≡ f.tree
    → IsFitting (h ++ Got x ∷ []) g → All (IsFitting h) fs → All (IsFitting (h ++ Got x ∷ [])) (slice_set fs i g)
fits_received h [] i f g x n at t own a = All-nil (IsFitting (h ++ Got x ∷ []))
fits_received h (y ∷ fs) zero f g x n at t own a =
    let same : y ≡ f = cc in
    let away : contains (map tree_in fs) x.tree ≡ false = ap (contains (map tree_in fs)) (t ∙ ap tree_in (sym same)) ∙ n.0 in
    All-cons (IsFitting (h ++ Got x ∷ [])) g fs own (fits_others h x fs away (All-tail (IsFitting h) y fs a))
fits_received h (y ∷ fs) (suc i) f g x n at t own a =
    All-cons (IsFitting (h ++ Got x ∷ [])) y (slice_set fs i g)
    (fits_entry h (Got x) y (got_other x y.tree (other (x.tree == y.tree) refl)) (All-head (IsFitting h) y fs a))
    (fits_received h fs i f g x n.1 at t own (All-tail (IsFitting h) y fs a))
  where
    other : (b : Bool) → (x.tree == y.tree) ≡ b → (x.tree == y.tree) ≡ false
    other true e = absurd (true≢false (sym (there_at fs i f at) ∙ (ap (contains (map tree_in fs)) (sym t ∙ eqb-true x.tree y.tree e) ∙ n.0)))
    other false e = e

-- ---- receipts

at_middle : {A : Type 0} (xs ys : List A) (x : A) → slice_get (xs ++ x ∷ ys) (length xs) ≡ Some x
at_middle [] ys x = refl
at_middle (z ∷ xs) ys x = at_middle xs ys x

-- each packet of a good list is of its tree
pub packet_tree : (t : ℕ) (ps qs : List Packet) (x : Packet) → IsGood t (ps ++ x ∷ qs) → x.tree ≡ t
packet_tree t ps qs x good = (good.at (length ps) x (at_middle ps qs x)).of_tree

pub kept_receipt : (s : State) (ps ts : List ℕ) (i : ℕ) (f g : FrameRun) (p q : Past) (o : Option Line) → IsKept s ps ts → slice_get s.frames i ≡ Some f → p.history ≡ s.history → p.trees ≡ ts
    → g ≡ record f { waiting = g.waiting } → ReceiptDone f.tree p f.waiting q g.waiting o → IsKept (record (put s i g) { history = q.history }) ps q.trees
kept_receipt s ps ts i f g p q o k h past trees rest d = go f.waiting refl o d
  where
    fit : IsFitting s.history f
    fit = all_at (IsFitting s.history) s.frames i f k.stands.fitting h

    follows : Follows f g
    follows = record { tree = ap tree_in rest; leaves = λ l. subst (λ (y : FrameRun). HaveLeaves y.left) (sym rest) l }

    go : (ws : List Packet) → f.waiting ≡ ws → (m : Option Line) → ReceiptDone f.tree p ws q g.waiting m → IsKept (record (put s i g) { history = q.history }) ps q.trees
    go [] w m r =
        let same : g ≡ f = rest ∙ ap (λ v. record f { waiting = v }) (r.1.1 ∙ sym w) in
        let stays : q.history ≡ s.history = ap (λ (u : Past). u.history) r.1.0 ∙ past in
        subst (λ (u : List HEntry). IsKept (record (put s i g) { history = u }) ps q.trees) (sym stays)
        (subst (λ l. IsKept (put s i g) ps l) (sym (ap (λ (u : Past). u.trees) r.1.0 ∙ trees))
        (kept_put s ps ts i f g k h follows (subst (λ (y : FrameRun). IsFitting s.history y) (sym same) fit)))
    go (x ∷ ws) w None r = absurd r
    go (x ∷ ws) w (Some l) r =
        subst (λ (u : List HEntry). IsKept (record (put s i g) { history = u }) ps q.trees) (sym more)
        (subst (λ l. IsKept (record (put s i g) { history = s.history ++ Got x ∷ [] }) ps l) (sym (ap (λ (u : Past). u.trees) r.1.0 ∙ trees))
        (record {
          places = k.places ∙ sym same;
          trees = k.trees ∙ sym same;
          stands = record {
            some = subst (λ n. 1 ≤ n) (sym (length-set s.frames i g)) k.stands.some;
            apart = subst (λ l. NoneTwice l) (sym same) k.stands.apart;
            named = subst (λ l. AllNamed l s.browser) (sym same) k.stands.named;
            leaves = All-set (λ (y : FrameRun). HaveLeaves y.left) s.frames i g (follows.leaves (all_at (λ (y : FrameRun). HaveLeaves y.left) s.frames i f k.stands.leaves h)) k.stands.leaves;
            fitting = fits_received s.history s.frames i f g x k.stands.apart h own (subst (λ (y : FrameRun). IsFitting (s.history ++ Got x ∷ []) y) (sym (rest ∙ ap (λ v. record f { waiting = v }) r.1.1)) (fits_own s.history x f ws own w fit)) k.stands.fitting;
          };
        }))
      where
        same : trees_of (put s i g) ≡ trees_of s
        same = trees_put s i f g h follows.tree

        own : x.tree ≡ f.tree
        own = packet_tree f.tree (got s.history f.tree) ws x (subst (λ l. IsGood f.tree (got s.history f.tree ++ l)) w fit.good)

        more : q.history ≡ s.history ++ Got x ∷ []
        more = ap (λ (u : Past). u.history) r.1.0 ∙ ap (λ u. u ++ Got x ∷ []) past

-- ---- the browser and readers

pub kept_browser : (s : State) (ps ts : List ℕ) (o : TimedOp) (left : List TimedOp) (p q : Past) → IsKept s ps ts → s.browser ≡ o ∷ left → p.history ≡ s.history → p.trees ≡ ts → q ≡ with_entry p (entry_by o.op)
    → IsKept (record s { browser = left; history = q.history }) ps q.trees
kept_browser s ps ts o left p q k b past trees e =
    subst (λ (u : List HEntry). IsKept (record s { browser = left; history = u }) ps q.trees) (sym (ap (λ (u : Past). u.history) e ∙ ap (λ u. u ++ entry_by o.op ∷ []) past))
    (record {
      places = k.places;
      trees = ap (λ (u : Past). u.trees) e ∙ (trees ∙ k.trees);
      stands = record {
        some = k.stands.some;
        apart = k.stands.apart;
        named = named.1;
        leaves = k.stands.leaves;
        fitting = All-weaker (IsFitting s.history) (IsFitting (s.history ++ entry_by o.op ∷ [])) (λ f fit. fits_entry s.history (entry_by o.op) f (entry_got o.op f.tree) fit) s.frames k.stands.fitting;
      };
    })
  where
    named : AllNamed (trees_of s) (o ∷ left)
    named = subst (λ l. AllNamed (trees_of s) l) b k.stands.named

pub kept_readers : (s : State) (ps ts : List ℕ) (readers : List (List TimedQuery)) → IsKept s ps ts → IsKept (record s { readers = readers }) ps ts
kept_readers s ps ts readers k = record {
  places = k.places;
  trees = k.trees;
  stands = record {
    some = k.stands.some;
    apart = k.stands.apart;
    named = k.stands.named;
    leaves = k.stands.leaves;
    fitting = k.stands.fitting;
  };
}
