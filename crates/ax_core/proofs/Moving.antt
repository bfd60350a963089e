-- What items change of a state: a frame in its place, the browser's list, a reader's list.
use Rattle.std.proofs.Common.{ℕ, zero, suc, ◌≡◌, ◌⊎◌, inl, inr, ◌==◌, Bool, true, false, if◌then◌else◌, List, [], ◌∷◌, map, find, slice_get, refl, sym, ap, ap₂, ◌∙◌, subst, Option, Some, None}
use Rattle.std.specs.Prelude.{option_map, option_and_then, slice_set}
use Rattle.std.proofs.lemmas.Bool.{eqb-true}
use Rattle.ax_tree.specs.declared.packet.Packet.{Packet}
use Rattle.ax_ask.specs.declared.op.FrameOp.{FrameOp}
use Rattle.ax_ask.specs.declared.op.TimedOp.{TimedOp}
use Rattle.ax_ask.specs.declared.op.Item.{Item}
use Rattle.ax_ask.specs.declared.op.Item.TheVariants as items
use Rattle.ax_ask.specs.declared.query.TimedQuery.{TimedQuery}
use Rattle.ax_ask.specs.declared.line.Line.{Line}
use Rattle.ax_run_rules.specs.States.{FrameRun, State, Run, find_frame, with_frame, trees_of}
use Rattle.ax_run_rules.specs.FrameSteps.{do_op}
use Rattle.ax_run_rules.specs.Steps.{do_receive, do_deliver, do_query, do_next_op, do_oldest, do_next_browser, do_next_query, do_reader, step}
use Rattle.ax_run_laws.proofs.Found.{of_tree, replaced, found_in}
use Rattle.ax_core.specs.FrameRuns.{after_op, delivered}
use Rattle.ax_core.specs.Items.{Steps, IsStep, IsResumed}
use Rattle.ax_core.specs.Receipts.{line_by}
use Rattle.ax_core.specs.Standing.{at}
use Rattle.ax_core.proofs.Rules.{browser_done}

abbrev tree_in : FrameRun → ℕ
tree_in f = f.tree

-- the frames, with one of the tree t in its place
pub record Replaced (t : ℕ) (fs gs : List FrameRun) : Type 0 where
  pub frame : FrameRun
  pub tree : frame.tree ≡ t
  pub are : gs ≡ map (replaced frame) fs

pub trees_replaced : (g : FrameRun) (fs : List FrameRun) → map tree_in (map (replaced g) fs) ≡ map tree_in fs
trees_replaced g [] = refl
trees_replaced g (f ∷ fs) = ap₂ (λ (u : ℕ) (us : List ℕ). u ∷ us) (one (f.tree == g.tree) refl) (trees_replaced g fs)
  where
    one : (b : Bool) → (f.tree == g.tree) ≡ b → (if b then g else f).tree ≡ f.tree
    one true e = sym (eqb-true f.tree g.tree e)
    one false e = refl

pub replaced_trees : (t : ℕ) (fs gs : List FrameRun) → Replaced t fs gs → map tree_in gs ≡ map tree_in fs
replaced_trees t fs gs r = ap (map tree_in) r.are ∙ trees_replaced r.frame fs

-- ---- what each item moves

-- the frame of the tree t is replaced, and the other lists stay
pub record MovesFrame (t : ℕ) (s m : State) : Type 0 where
  pub frames : Replaced t s.frames m.frames
  pub browser : m.browser ≡ s.browser
  pub readers : m.readers ≡ s.readers

pub record MovesBrowser (s m : State) (l : Line) : Type 0 where
  pub op : TimedOp
  pub left : List TimedOp
  pub was : s.browser ≡ op ∷ left
  pub is : m.browser ≡ left
  pub frames : m.frames ≡ s.frames
  pub readers : m.readers ≡ s.readers
  pub told : l ≡ line_by s.history op.op

pub record MovesReader (k : ℕ) (s m : State) : Type 0 where
  pub place : ℕ
  pub number : k ≡ suc place
  pub left : List TimedQuery
  pub readers : m.readers ≡ slice_set s.readers place left
  pub frames : m.frames ≡ s.frames
  pub browser : m.browser ≡ s.browser

abbrev pub Moves : Item → State → State → Line → Type 0
Moves (items.Frame t) s m l = MovesFrame t s m
Moves (items.Receive t) s m l = MovesFrame t s m
Moves items.Browser s m l = MovesBrowser s m l
Moves (items.Deliver t k) s m l = MovesFrame t s m
Moves (items.Reader k) s m l = MovesReader k s m

-- ---- by the rule

-- what holds of the state and the line that a rule gives
abbrev Gives : (State → Line → Type 0) → Option Run → Type 0
Gives P None = Unit {0}
Gives P (Some r) = (l : Line) → r.lines ≡ l ∷ [] → P r.state l

one_line : {A : Type 0} (a b : A) → a ∷ [] ≡ b ∷ [] → a ≡ b
one_line a b e = cc

for_found : (P : State → Line → Type 0) (o : Option FrameRun) (g : FrameRun → Option Run) → ((f : FrameRun) → o ≡ Some f → Gives P (g f)) → Gives P (option_and_then g o)
for_found P None g h = tt
for_found P (Some f) g h = h f refl

for_mapped : (P : State → Line → Type 0) (o : Option FrameRun) (g : FrameRun → Run) → ((f : FrameRun) → o ≡ Some f → Gives P (Some (g f))) → Gives P (option_map g o)
for_mapped P None g h = tt
for_mapped P (Some f) g h = h f refl

module _ (s : State) where
  op_gives : (t : ℕ) (f : FrameRun) (left : List FrameOp) → f.tree ≡ t → Gives (λ m l. MovesFrame t s m) (do_next_op (at s) f left)
  unfolding do_op with_frame
  op_gives t f [] e = tt
  op_gives t f (op ∷ left) e = λ l k. record { frames = record { frame = after_op f op left; tree = e; are = refl }; browser = refl; readers = refl }

  receipt_gives : (t : ℕ) (f : FrameRun) (ps : List Packet) → f.tree ≡ t → Gives (λ m l. MovesFrame t s m) (do_oldest (at s) f ps)
  unfolding do_receive with_frame
  receipt_gives t f [] e = tt
  receipt_gives t f (p ∷ ps) e = λ l k. record { frames = record { frame = record f { waiting = ps }; tree = e; are = refl }; browser = refl; readers = refl }

  delivery_gives : (t n : ℕ) (f : FrameRun) → f.tree ≡ t → Gives (λ m l. MovesFrame t s m) (Some (do_deliver (at s) f n))
  unfolding do_deliver with_frame
  delivery_gives t n f e = λ l k. record { frames = record { frame = delivered f n; tree = e; are = refl }; browser = refl; readers = refl }

  browser_gives : (os : List TimedOp) → s.browser ≡ os → Gives (λ m l. MovesBrowser s m l) (do_next_browser (at s) os)
  browser_gives [] e = tt
  browser_gives (o ∷ left) e =
      subst (λ (r : Run). (l : Line) → r.lines ≡ l ∷ [] → MovesBrowser s r.state l) (sym (browser_done (record (at s) { state = record s { browser = left } }) o.op))
      (λ l k. record { op = o; left = left; was = e; is = refl; frames = refl; readers = refl; told = sym (one_line _ l k) })

  query_gives : (k : ℕ) (o : Option (List TimedQuery)) → Gives (λ m l. MovesReader (suc k) s m) (option_and_then (do_next_query (at s) k) o)
  unfolding do_query
  query_gives k None = tt
  query_gives k (Some []) = tt
  query_gives k (Some (q ∷ left)) = λ l e. record { place = k; number = refl; left = left; readers = refl; frames = refl; browser = refl }

  reader_gives : (n : ℕ) → Gives (λ m l. MovesReader n s m) (do_reader (at s) n)
  reader_gives zero = tt
  reader_gives (suc k) = query_gives k (slice_get s.readers k)

  rule_gives : (i : Item) → Gives (λ m l. Moves i s m l) (step (at s) i)
  unfolding step find_frame
  rule_gives (items.Frame t) = for_found (λ m l. MovesFrame t s m) (find (of_tree t) s.frames) (λ f. do_next_op (at s) f f.left) (λ f e. op_gives t f f.left (found_in t s.frames f e))
  rule_gives (items.Receive t) = for_found (λ m l. MovesFrame t s m) (find (of_tree t) s.frames) (λ f. do_oldest (at s) f f.waiting) (λ f e. receipt_gives t f f.waiting (found_in t s.frames f e))
  rule_gives items.Browser = browser_gives s.browser refl
  rule_gives (items.Deliver t n) = for_mapped (λ m l. MovesFrame t s m) (find (of_tree t) s.frames) (λ f. do_deliver (at s) f n.0) (λ f e. delivery_gives t n.0 f (found_in t s.frames f e))
  rule_gives (items.Reader k) = reader_gives k

  step_moves : (i : Item) (m : State) (l : Line) → IsStep s i m l → Moves i s m l
  step_moves i m l e =
      let given : Gives (λ n k. Moves i s n k) (Some (record { state = m; lines = l ∷ [] })) = subst (λ q. Gives (λ n k. Moves i s n k) q) e (rule_gives i) in
      given l refl

  -- ---- as a pass that completes a bundle

  resumed_moves : (i : Item) (m : State) (l : Line) → IsResumed s i m l → Moves i s m l
  unfolding with_frame find_frame
  resumed_moves i m l r =
      subst (λ (j : Item). Moves j s m l) (sym r.item)
      (subst (λ (n : State). MovesFrame r.tree s n) (sym r.state)
      (record {
        frames = record { frame = r.after; tree = ap tree_in r.resumes.after ∙ found_in r.tree s.frames r.frame r.found; are = refl };
        browser = refl;
        readers = refl;
      }))

  pub moves : (i : Item) (m : State) (l : Line) → Steps s i m l → Moves i s m l
  moves i m l d = go d.is
    where
      go : (IsStep s i m l ⊎ IsResumed s i m l) → Moves i s m l
      go (inl e) = step_moves i m l e
      go (inr r) = resumed_moves i m l r

-- no item changes the trees
pub steps_trees : (s m : State) (i : Item) (l : Line) → Steps s i m l → trees_of m ≡ trees_of s
steps_trees s m i l d = go i (moves s i m l d)
  where
    go : (j : Item) → Moves j s m l → trees_of m ≡ trees_of s
    go (items.Frame t) k = replaced_trees t s.frames m.frames k.frames
    go (items.Receive t) k = replaced_trees t s.frames m.frames k.frames
    go items.Browser k = ap (map tree_in) k.frames
    go (items.Deliver t n) k = replaced_trees t s.frames m.frames k.frames
    go (items.Reader n) k = ap (map tree_in) k.frames
