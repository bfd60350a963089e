-- The parts of a finale as their loops do them: what each turn leaves of the part.
use Rattle.std.proofs.Common.{ℕ, zero, suc, ◌+◌, ◌-◌, ◌≡◌, ◌<◌, ◌≤◌, ◌⊎◌, inl, inr, Bool, true, false, if◌then◌else◌, List, [], ◌∷◌, ◌++◌, length, map, drop, slice_get, flat_map, replicate, refl, sym, ap, ap₂, ◌∙◌, subst, arith, add-one, Option, Some, None}
use Rattle.std.specs.List.{enumerate_from, drop-map}
use Rattle.std.specs.Prelude.{option_to_list}
use Rattle.std.proofs.lemmas.List.{drop-set-lt, length-set, length-map}
use Rattle.ax_trees.specs.Lists.{contains, NoneTwice}
use Rattle.ax_ask.specs.declared.op.BrowserOp.{BrowserOp}
use Rattle.ax_ask.specs.declared.op.BrowserOp.TheVariants as browsers
use Rattle.ax_ask.specs.declared.op.TimedOp.{TimedOp}
use Rattle.ax_ask.specs.declared.op.FrameOp.TheVariants as ops
use Rattle.ax_ask.specs.declared.op.Item.{Item}
use Rattle.ax_ask.specs.declared.op.Item.TheVariants as items
use Rattle.ax_ask.specs.declared.query.TimedQuery.{TimedQuery}
use Rattle.ax_ask.specs.declared.line.Line.{Line}
use Rattle.ax_rules.specs.Histories.{is_gone}
use Rattle.ax_run_rules.specs.States.{FrameRun, State, Run, trees_of, with_frame}
use Rattle.ax_run_rules.specs.Steps.{next_token, do_ask}
use Rattle.ax_run_rules.specs.Finale.{ops_left, packets_left, queries_left, delivery_of, is_behind}
use Rattle.ax_run_laws.proofs.Found.{replaced}
use Rattle.ax_core.specs.FrameRuns.{IsDone, IsRuled, MayResume}
use Rattle.ax_core.specs.Items.{Steps}
use Rattle.ax_core.specs.Finishing.{turns_of, frame_turn, receive_turn, ops_of, waits_of, ForEach, Told, Turns, Serves, IsAsked, IsPassed, Refreshes, RefreshesIf, CatchesUp}
use Rattle.ax_core.proofs.Found.{none_replaced}
use Rattle.ax_core.proofs.Moving.{Replaced, replaced_trees, trees_replaced, MovesBrowser, MovesReader, moves, steps_trees}
use Rattle.ax_core.proofs.Working.{Leaves, begun, ended, onward, halted, each_onward, each_halted}

abbrev tree_in : FrameRun → ℕ
tree_in f = f.tree

-- ---- one item so many times

pub record Repeats (times done : ℕ) (i : Item) (r m : Run) : Type 0 where
  pub left : (n : ℕ) → n + done ≡ times → Leaves (Turns (replicate times i)) (Turns (replicate n i)) r m

pub repeats_begun : (times : ℕ) (i : Item) (r : Run) → Repeats times 0 i r r
repeats_begun times i r = record { left = λ n e. let same : times ≡ n = omega (arith, e) in subst (λ k. Leaves (Turns (replicate times i)) (Turns (replicate k i)) r r) same (begun (Turns (replicate times i)) r) }

pub repeats_onward : (times done : ℕ) (i : Item) (r m n : Run) → done < times → Repeats times done i r m → Told i true m n → Repeats times (done + 1) i r n
repeats_onward times done i r m n below k t = record { left = λ j e. onward (Turns (replicate times i)) (Told i) (Turns (replicate j i)) r m n (k.left (suc j) (omega (arith, e))) t }

-- how many times are still to come, but for the next
to_come : (times done : ℕ) → done < times → (n : ℕ) × (suc n + done ≡ times)
to_come times done h = (times - suc done, omega (arith, h))

pub repeats_halted : (times done : ℕ) (i : Item) (r m e : Run) → done < times → Repeats times done i r m → Told i false m e → Turns (replicate times i) false r e
repeats_halted times done i r m e below k t =
    let x = to_come times done below in
    halted (Turns (replicate times i)) (Told i) (Turns (replicate x.0 i)) r m e (k.left (suc x.0) x.1) t

pub repeats_ended : (times done : ℕ) (i : Item) (r m : Run) → times ≤ done → done ≤ times → Repeats times done i r m → Turns (replicate times i) true r m
repeats_ended times done i r m low high k = ended (Turns (replicate times i)) r m (k.left 0 (omega (arith, low, high)))

-- an item that there is, or none
pub tell_some : (o : Option Item) (i : Item) (b : Bool) (r e : Run) → o ≡ Some i → Told i b r e → Turns (option_to_list o) b r e
tell_some o i b r e k q = subst (λ p. Turns (option_to_list p) b r e) (sym k) (go b q)
  where
    go : (d : Bool) → Told i d r e → Turns (i ∷ []) d r e
    go true t = (e, (t, refl))
    go false t = inl t

pub tell_none : (o : Option Item) (r : Run) → o ≡ None → Turns (option_to_list o) true r r
tell_none o r k = subst (λ p. Turns (option_to_list p) true r r) (sym k) refl

pub turns_same : (i j : Item) (n k : ℕ) (b : Bool) (r e : Run) → i ≡ j → n ≡ k → Turns (replicate n i) b r e → Turns (replicate k j) b r e
turns_same i j n k b r e same times q = subst (λ l. Turns l b r e) (ap₂ (λ (x : ℕ) (y : Item). replicate x y) times same) q

-- ---- frame by frame

-- the item at a place
pub item_at : {A : Type 0} (xs : List A) (i : ℕ) → i < length xs → (x : A) × (slice_get xs i ≡ Some x)
item_at [] i h = absurd (omega (arith, h))
item_at (x ∷ xs) zero h = (x, refl)
item_at (x ∷ xs) (suc i) h = item_at xs i (omega (arith, h))

drop_at : {A : Type 0} (xs : List A) (i : ℕ) (x : A) → slice_get xs i ≡ Some x → drop i xs ≡ x ∷ drop (suc i) xs
drop_at [] i x h = absurd (let no : ⊥ = cc in no)
drop_at (y ∷ xs) zero x h = let e : y ≡ x = cc in ap (λ z. z ∷ xs) e
drop_at (y ∷ xs) (suc i) x h = drop_at xs i x h

-- the frames behind the place have other trees
later : (fs : List FrameRun) (i : ℕ) (f : FrameRun) → NoneTwice (map tree_in fs) → slice_get fs i ≡ Some f → contains (map tree_in (drop (suc i) fs)) f.tree ≡ false
later [] i f n h = absurd (let no : ⊥ = cc in no)
later (x ∷ fs) zero f n h = let e : x ≡ f = cc in ap (λ (y : FrameRun). contains (map tree_in fs) y.tree) (sym e) ∙ n.0
later (x ∷ fs) (suc i) f n h = later fs i f n.1 h

stay : (t j : ℕ) (fs gs : List FrameRun) → contains (map tree_in (drop j fs)) t ≡ false → Replaced t fs gs → drop j gs ≡ drop j fs
stay t j fs gs away r =
    ap (drop j) r.are ∙ (drop-map (replaced r.frame) j fs ∙ none_replaced r.frame (drop j fs) (ap (contains (map tree_in (drop j fs))) r.tree ∙ away))

-- what the turns of a tree leave as it was
pub record Stays (j : ℕ) (r m : Run) : Type 0 where
  pub rest : drop j m.state.frames ≡ drop j r.state.frames
  pub trees : trees_of m.state ≡ trees_of r.state

abbrev pub turns_in : (ℕ → Item) → (FrameRun → ℕ) → List FrameRun → List Item
turns_in turn size fs = flat_map (λ (f : FrameRun). turns_of turn size f) fs

-- the frames up to the place have had their turns
pub record Goes (turn : ℕ → Item) (size : FrameRun → ℕ) (P : Bool → Run → Run → Type 0) (done : ℕ) (r m : Run) : Type 0 where
  pub left : Leaves P (Turns (turns_in turn size (drop done m.state.frames))) r m
  pub trees : trees_of m.state ≡ trees_of r.state

module _ (turn : ℕ → Item) (size : FrameRun → ℕ) where
  turns_at : (fs : List FrameRun) (i : ℕ) (f : FrameRun) → slice_get fs i ≡ Some f → turns_in turn size (drop i fs) ≡ turns_of turn size f ++ turns_in turn size (drop (suc i) fs)
  turns_at fs i f h = ap (turns_in turn size) (drop_at fs i f h)

  pub goes_begun : (o : List Item) (r : Run) → o ≡ turns_in turn size r.state.frames → Goes turn size (Turns o) 0 r r
  goes_begun o r e = record { left = subst (λ p. Leaves (Turns o) (Turns p) r r) e (begun (Turns o) r); trees = refl }

  pub goes_halted : (i : ℕ) (P : Bool → Run → Run → Type 0) (r m e : Run) → i < length m.state.frames → Goes turn size P i r m
      → ((f : FrameRun) → slice_get m.state.frames i ≡ Some f → Turns (turns_of turn size f) false m e) → P false r e
  goes_halted i P r m e h g q =
      let x = item_at m.state.frames i h in
      each_halted Told P r (turns_of turn size x.0) (turns_in turn size (drop (suc i) m.state.frames)) m e (subst (λ o. Leaves P (Turns o) r m) (turns_at m.state.frames i x.0 x.1) g.left) (q x.0 x.1)

  none_left : (fs : List FrameRun) (i : ℕ) → length fs ≤ i → turns_in turn size (drop i fs) ≡ []
  none_left [] zero h = refl
  none_left [] (suc i) h = refl
  none_left (f ∷ fs) zero h = absurd (omega (arith, h))
  none_left (f ∷ fs) (suc i) h = none_left fs i (omega (arith, h))

  pub goes_ended : (i : ℕ) (P : Bool → Run → Run → Type 0) (r m : Run) → length m.state.frames ≤ i → Goes turn size P i r m → P true r m
  goes_ended i P r m h g = ended P r m (subst (λ o. Leaves P (Turns o) r m) (none_left m.state.frames i h) g.left)

  module _ (moved : (t : ℕ) (s m : State) (l : Line) → Steps s (turn t) m l → Replaced t s.frames m.frames) where
    turns_stay : (n t j : ℕ) (r e : Run) → contains (map tree_in (drop j r.state.frames)) t ≡ false → Turns (replicate n (turn t)) true r e → Stays j r e
    turns_stay zero t j r e away q = record { rest = ap (λ (x : Run). drop j x.state.frames) q; trees = ap (λ (x : Run). trees_of x.state) q }
    turns_stay (suc n) t j r e away q =
        let m : Run = q.0 in
        let one : Replaced t r.state.frames m.state.frames = moved t r.state m.state q.1.0.0 q.1.0.1.0 in
        let same : drop j m.state.frames ≡ drop j r.state.frames = stay t j r.state.frames m.state.frames away one in
        let more : Stays j m e = turns_stay n t j m e (ap (λ (fs : List FrameRun). contains (map tree_in fs) t) same ∙ away) q.1.1 in
        record { rest = more.rest ∙ same; trees = more.trees ∙ replaced_trees t r.state.frames m.state.frames one }

    pub goes_onward : (i : ℕ) (P : Bool → Run → Run → Type 0) (r m n : Run) → NoneTwice (trees_of r.state) → i < length m.state.frames → Goes turn size P i r m
        → ((f : FrameRun) → slice_get m.state.frames i ≡ Some f → Turns (turns_of turn size f) true m n) → Goes turn size P (i + 1) r n
    goes_onward i P r m n once h g q =
        let x = item_at m.state.frames i h in
        let f : FrameRun = x.0 in
        let turns : Turns (turns_of turn size f) true m n = q f x.1 in
        let apart : NoneTwice (trees_of m.state) = subst (λ ts. NoneTwice ts) (sym g.trees) once in
        let stays : Stays (suc i) m n = turns_stay (size f) f.tree (suc i) m n (later m.state.frames i f apart x.1) turns in
        let rest : Leaves P (Turns (turns_in turn size (drop (suc i) m.state.frames))) r n =
        each_onward Told P r (turns_of turn size f) (turns_in turn size (drop (suc i) m.state.frames)) m n (subst (λ o. Leaves P (Turns o) r m) (turns_at m.state.frames i f x.1) g.left) turns in
        let next : suc i ≡ i + 1 = sym (add-one i) in
        record {
          left = subst (λ k. Leaves P (Turns (turns_in turn size (drop k n.state.frames))) r n) next (subst (λ fs. Leaves P (Turns (turns_in turn size fs)) r n) (sym stays.rest) rest);
          trees = stays.trees ∙ g.trees;
        }

-- as many frames as before
pub as_many : (s m : State) → trees_of m ≡ trees_of s → length m.frames ≡ length s.frames
as_many s m e = sym (length-map m.frames tree_in) ∙ (ap length e ∙ length-map s.frames tree_in)

-- as far as the loop over places goes
pub below : (i n : ℕ) (s m : State) → n ≡ length s.frames → trees_of m ≡ trees_of s → i < n → i < length m.frames
below i n s m count e h = let k = as_many s m e in omega (arith, count, k, h)

pub all_gone : (i n : ℕ) (s m : State) → n ≡ length s.frames → trees_of m ≡ trees_of s → n ≤ i → length m.frames ≤ i
all_gone i n s m count e h = let k = as_many s m e in omega (arith, count, k, h)

-- ---- operations and packets

pub frame_moved : (t : ℕ) (s m : State) (l : Line) → Steps s (items.Frame t) m l → Replaced t s.frames m.frames
frame_moved t s m l d = (moves s (items.Frame t) m l d).frames

pub receive_moved : (t : ℕ) (s m : State) (l : Line) → Steps s (items.Receive t) m l → Replaced t s.frames m.frames
receive_moved t s m l d = (moves s (items.Receive t) m l d).frames

pub ops_are : (s : State) → ops_left s ≡ turns_in frame_turn ops_of s.frames
unfolding ops_left
ops_are s = refl

pub packets_are : (s : State) → packets_left s ≡ turns_in receive_turn waits_of s.frames
unfolding packets_left
packets_are s = refl

-- ---- queries

abbrev pub queries_in : ℕ → List (List TimedQuery) → List Item
queries_in k rs = flat_map (λ (r : ℕ × List TimedQuery). replicate (length r.1) (items.Reader r.0)) (enumerate_from k rs)

pub record Asked (P : Bool → Run → Run → Type 0) (done : ℕ) (r m : Run) : Type 0 where
  pub left : Leaves P (Turns (queries_in (done + 1) (drop done m.state.readers))) r m
  pub many : length m.state.readers ≡ length r.state.readers

pub asked_begun : (r : Run) → Asked (Turns (queries_left r.state)) 0 r r
unfolding queries_left
asked_begun r = record { left = begun (Turns (queries_left r.state)) r; many = refl }

queries_at : (rs : List (List TimedQuery)) (i : ℕ) (q : List TimedQuery) → slice_get rs i ≡ Some q
    → queries_in (i + 1) (drop i rs) ≡ replicate (length q) (items.Reader (i + 1)) ++ queries_in (i + 1 + 1) (drop (suc i) rs)
queries_at rs i q h = ap (queries_in (i + 1)) (drop_at rs i q h)

record Reads (j : ℕ) (r m : Run) : Type 0 where
  rest : drop j m.state.readers ≡ drop j r.state.readers
  many : length m.state.readers ≡ length r.state.readers

one_read : (i : ℕ) (s m : State) → MovesReader (i + 1) s m → (drop (suc i) m.readers ≡ drop (suc i) s.readers) × (length m.readers ≡ length s.readers)
one_read i s m k =
    let low : k.place < suc i = let e = k.number in omega (arith, e) in
    (ap (drop (suc i)) k.readers ∙ drop-set-lt (suc i) s.readers k.place k.left low, ap length k.readers ∙ length-set s.readers k.place k.left)

reads_stay : (n i : ℕ) (r e : Run) → Turns (replicate n (items.Reader (i + 1))) true r e → Reads (suc i) r e
reads_stay zero i r e q = record { rest = ap (λ (x : Run). drop (suc i) x.state.readers) q; many = ap (λ (x : Run). length x.state.readers) q }
reads_stay (suc n) i r e q =
    let m : Run = q.0 in
    let one = one_read i r.state m.state (moves r.state (items.Reader (i + 1)) m.state q.1.0.0 q.1.0.1.0) in
    let more : Reads (suc i) m e = reads_stay n i m e q.1.1 in
    record { rest = more.rest ∙ one.0; many = more.many ∙ one.1 }

pub asked_onward : (i : ℕ) (P : Bool → Run → Run → Type 0) (r m n : Run) → i < length m.state.readers → Asked P i r m
    → ((q : List TimedQuery) → slice_get m.state.readers i ≡ Some q → Turns (replicate (length q) (items.Reader (i + 1))) true m n) → Asked P (i + 1) r n
asked_onward i P r m n h g t =
    let x = item_at m.state.readers i h in
    let q : List TimedQuery = x.0 in
    let turns : Turns (replicate (length q) (items.Reader (i + 1))) true m n = t q x.1 in
    let stays : Reads (suc i) m n = reads_stay (length q) i m n turns in
    let rest : Leaves P (Turns (queries_in (i + 1 + 1) (drop (suc i) m.state.readers))) r n =
    each_onward Told P r (replicate (length q) (items.Reader (i + 1))) (queries_in (i + 1 + 1) (drop (suc i) m.state.readers)) m n
    (subst (λ o. Leaves P (Turns o) r m) (queries_at m.state.readers i q x.1) g.left) turns in
    record {
      left = subst (λ k. Leaves P (Turns (queries_in (i + 1 + 1) (drop k n.state.readers))) r n) (sym (add-one i)) (subst (λ rs. Leaves P (Turns (queries_in (i + 1 + 1) rs)) r n) (sym stays.rest) rest);
      many = stays.many ∙ g.many;
    }

pub asked_halted : (i : ℕ) (P : Bool → Run → Run → Type 0) (r m e : Run) → i < length m.state.readers → Asked P i r m
    → ((q : List TimedQuery) → slice_get m.state.readers i ≡ Some q → Turns (replicate (length q) (items.Reader (i + 1))) false m e) → P false r e
asked_halted i P r m e h g t =
    let x = item_at m.state.readers i h in
    each_halted Told P r (replicate (length x.0) (items.Reader (i + 1))) (queries_in (i + 1 + 1) (drop (suc i) m.state.readers)) m e
    (subst (λ o. Leaves P (Turns o) r m) (queries_at m.state.readers i x.0 x.1) g.left) (t x.0 x.1)

none_asked : (rs : List (List TimedQuery)) (i k : ℕ) → length rs ≤ i → queries_in k (drop i rs) ≡ []
none_asked [] zero k h = refl
none_asked [] (suc i) k h = refl
none_asked (q ∷ rs) zero k h = absurd (omega (arith, h))
none_asked (q ∷ rs) (suc i) k h = none_asked rs i k (omega (arith, h))

pub asked_ended : (i : ℕ) (P : Bool → Run → Run → Type 0) (r m : Run) → length m.state.readers ≤ i → Asked P i r m → P true r m
asked_ended i P r m h g = ended P r m (subst (λ o. Leaves P (Turns o) r m) (none_asked m.state.readers i (i + 1) h) g.left)

-- ---- the browser's operations

pub record Serving (done : ℕ) (r m : Run) : Type 0 where
  pub left : Leaves (ForEach Serves r.state.browser) (ForEach Serves m.state.browser) r m
  pub count : length m.state.browser + done ≡ length r.state.browser

pub serving_begun : (r : Run) → Serving 0 r r
serving_begun r = record { left = begun (ForEach Serves r.state.browser) r; count = omega arith }

delivered : (s : State) (o : BrowserOp) (r e : Run) → Turns (delivery_of s o) true r e → e.state.browser ≡ r.state.browser
delivered s (browsers.Ask t) r e q = go (is_gone s.history t) q
  where
    go : (b : Bool) → Turns (if b then [] else items.Deliver t (record { 0 = next_token s.history t }) ∷ []) true r e → e.state.browser ≡ r.state.browser
    go true k = ap (λ (x : Run). x.state.browser) k
    go false k = ap (λ (x : Run). x.state.browser) k.1.1 ∙ (moves r.state (items.Deliver t (record { 0 = next_token s.history t })) k.0.state k.1.0.0 k.1.0.1.0).browser
delivered s (browsers.Destroy t) r e q = ap (λ (x : Run). x.state.browser) q
delivered s (browsers.Probe t u) r e q = ap (λ (x : Run). x.state.browser) q

rest_same : {A : Type 0} (x y : A) (xs ys : List A) → x ∷ xs ≡ y ∷ ys → xs ≡ ys
rest_same x y xs ys e = cc

served : (o : TimedOp) (left : List TimedOp) (r e : Run) → r.state.browser ≡ o ∷ left → Serves o true r e → e.state.browser ≡ left
served o left r e b q =
    let k : MovesBrowser r.state q.0.state q.1.0.0 = moves r.state items.Browser q.0.state q.1.0.0 q.1.0.1.0 in
    delivered r.state o.op q.0 e q.1.1 ∙ (k.is ∙ rest_same k.op o k.left left (sym k.was ∙ b))

pub serving_onward : (done : ℕ) (r m n : Run) → done < length r.state.browser → Serving done r m → ((o : TimedOp) → slice_get m.state.browser 0 ≡ Some o → Serves o true m n) → Serving (done + 1) r n
serving_onward done r m n h s q = go m.state.browser refl
  where
    go : (os : List TimedOp) → m.state.browser ≡ os → Serving (done + 1) r n
    go [] e = absurd (let c = s.count in let z : length m.state.browser ≡ 0 = ap length e in omega (arith, h, c, z))
    go (o ∷ left) e =
        let one : Serves o true m n = q o (ap (λ l. slice_get l 0) e) in
        let now : n.state.browser ≡ left = served o left m n e one in
        let rest : Leaves (ForEach Serves r.state.browser) (ForEach Serves left) r n =
        onward (ForEach Serves r.state.browser) (Serves o) (ForEach Serves left) r m n (subst (λ os. Leaves (ForEach Serves r.state.browser) (ForEach Serves os) r m) e s.left) one in
        let long : length m.state.browser ≡ suc (length left) = ap length e in
        let short : length n.state.browser ≡ length left = ap length now in
        record { left = subst (λ os. Leaves (ForEach Serves r.state.browser) (ForEach Serves os) r n) (sym now) rest; count = let c = s.count in omega (arith, c, long, short) }

pub serving_halted : (done : ℕ) (r m e : Run) → done < length r.state.browser → Serving done r m → ((o : TimedOp) → slice_get m.state.browser 0 ≡ Some o → Serves o false m e) → ForEach Serves r.state.browser false r e
serving_halted done r m e h s q = go m.state.browser refl
  where
    go : (os : List TimedOp) → m.state.browser ≡ os → ForEach Serves r.state.browser false r e
    go [] b = absurd (let c = s.count in let z : length m.state.browser ≡ 0 = ap length b in omega (arith, h, c, z))
    go (o ∷ left) b =
        halted (ForEach Serves r.state.browser) (Serves o) (ForEach Serves left) r m e (subst (λ os. Leaves (ForEach Serves r.state.browser) (ForEach Serves os) r m) b s.left)
        (q o (ap (λ l. slice_get l 0) b))

pub serving_ended : (done : ℕ) (r m : Run) → length r.state.browser ≤ done → Serving done r m → ForEach Serves r.state.browser true r m
serving_ended done r m h s = go m.state.browser refl
  where
    go : (os : List TimedOp) → m.state.browser ≡ os → ForEach Serves r.state.browser true r m
    go [] b = ended (ForEach Serves r.state.browser) r m (subst (λ os. Leaves (ForEach Serves r.state.browser) (ForEach Serves os) r m) b s.left)
    go (o ∷ left) b = absurd (let c = s.count in let z : length m.state.browser ≡ suc (length left) = ap length b in omega (arith, h, c, z))

-- ---- the catching up

pub asked_trees : (t : ℕ) (s e : State) (l : Line) → IsAsked t s e l → trees_of e ≡ trees_of s
unfolding do_ask
asked_trees t s e l k = sym (ap (λ (x : Run). trees_of x.state) k)

passed_tree : (f g : FrameRun) (l : Line) → IsDone f ops.Pass f.left g l → g.tree ≡ f.tree
passed_tree f g l d = go d.is
  where
    go : (IsRuled f ops.Pass f.left g l ⊎ MayResume f ops.Pass f.left g l) → g.tree ≡ f.tree
    go (inl k) = ap tree_in k.after
    go (inr k) = ap tree_in k.after

pub passed_trees : (t : ℕ) (s e : State) (l : Line) → IsPassed t s e l → trees_of e ≡ trees_of s
unfolding with_frame
passed_trees t s e l k = ap trees_of k.state ∙ trees_replaced k.after s.frames

refreshed_trees : (t : ℕ) (r e : Run) → Refreshes t true r e → trees_of e.state ≡ trees_of r.state
refreshed_trees t r e q =
    let a : Run = q.0 in
    let d : Run = q.1.1.0 in
    let p : Run = q.1.1.1.1.0 in
    steps_trees p.state e.state (items.Receive t) q.1.1.1.1.1.1.0 q.1.1.1.1.1.1.1.0
    ∙ (passed_trees t d.state p.state q.1.1.1.1.1.0.0 q.1.1.1.1.1.0.1.0
    ∙ (steps_trees a.state d.state (items.Deliver t (record { 0 = next_token r.state.history t })) q.1.1.1.0.0 q.1.1.1.0.1.0 ∙ asked_trees t r.state a.state q.1.0.0 q.1.0.1.0))

pub caught_trees : (t : ℕ) (r e : Run) → CatchesUp t true r e → trees_of e.state ≡ trees_of r.state
caught_trees t r e q = go (is_behind r.state q.0) q.1.1
  where
    go : (b : Bool) → RefreshesIf b t true r e → trees_of e.state ≡ trees_of r.state
    go true k = refreshed_trees t r e k
    go false k = ap (λ (x : Run). trees_of x.state) k

pub record Catching (done : ℕ) (r m : Run) : Type 0 where
  pub left : Leaves (ForEach CatchesUp (trees_of r.state)) (ForEach CatchesUp (map tree_in (drop done m.state.frames))) r m
  pub trees : trees_of m.state ≡ trees_of r.state

pub catching_begun : (r : Run) → Catching 0 r r
catching_begun r = record { left = begun (ForEach CatchesUp (trees_of r.state)) r; trees = refl }

pub catching_onward : (i : ℕ) (r m n : Run) → i < length m.state.frames → Catching i r m → ((f : FrameRun) → slice_get m.state.frames i ≡ Some f → CatchesUp f.tree true m n) → Catching (i + 1) r n
catching_onward i r m n h c q =
    let x = item_at m.state.frames i h in
    let f : FrameRun = x.0 in
    let one : CatchesUp f.tree true m n = q f x.1 in
    let same : trees_of n.state ≡ trees_of m.state = caught_trees f.tree m n one in
    let rest : Leaves (ForEach CatchesUp (trees_of r.state)) (ForEach CatchesUp (map tree_in (drop (suc i) m.state.frames))) r n =
    onward (ForEach CatchesUp (trees_of r.state)) (CatchesUp f.tree) (ForEach CatchesUp (map tree_in (drop (suc i) m.state.frames))) r m n
    (subst (λ fs. Leaves (ForEach CatchesUp (trees_of r.state)) (ForEach CatchesUp (map tree_in fs)) r m) (drop_at m.state.frames i f x.1) c.left) one in
    let now : map tree_in (drop (suc i) m.state.frames) ≡ map tree_in (drop (i + 1) n.state.frames) =
    sym (drop-map tree_in (suc i) m.state.frames) ∙ (ap (drop (suc i)) (sym same) ∙ (drop-map tree_in (suc i) n.state.frames ∙ ap (λ k. map tree_in (drop k n.state.frames)) (sym (add-one i)))) in
    record { left = subst (λ ts. Leaves (ForEach CatchesUp (trees_of r.state)) (ForEach CatchesUp ts) r n) now rest; trees = same ∙ c.trees }

pub catching_halted : (i : ℕ) (r m e : Run) → i < length m.state.frames → Catching i r m → ((f : FrameRun) → slice_get m.state.frames i ≡ Some f → CatchesUp f.tree false m e) → ForEach CatchesUp (trees_of r.state) false r e
catching_halted i r m e h c q =
    let x = item_at m.state.frames i h in
    let f : FrameRun = x.0 in
    halted (ForEach CatchesUp (trees_of r.state)) (CatchesUp f.tree) (ForEach CatchesUp (map tree_in (drop (suc i) m.state.frames))) r m e
    (subst (λ fs. Leaves (ForEach CatchesUp (trees_of r.state)) (ForEach CatchesUp (map tree_in fs)) r m) (drop_at m.state.frames i f x.1) c.left) (q f x.1)

none_behind : (fs : List FrameRun) (i : ℕ) → length fs ≤ i → map tree_in (drop i fs) ≡ []
none_behind [] zero h = refl
none_behind [] (suc i) h = refl
none_behind (f ∷ fs) zero h = absurd (omega (arith, h))
none_behind (f ∷ fs) (suc i) h = none_behind fs i (omega (arith, h))

pub catching_ended : (i : ℕ) (r m : Run) → length m.state.frames ≤ i → Catching i r m → ForEach CatchesUp (trees_of r.state) true r m
catching_ended i r m h c = ended (ForEach CatchesUp (trees_of r.state)) r m (subst (λ ts. Leaves (ForEach CatchesUp (trees_of r.state)) (ForEach CatchesUp ts) r m) (none_behind m.state.frames i h) c.left)
