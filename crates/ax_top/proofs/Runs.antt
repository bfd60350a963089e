-- The run of an order item by item, and the first item that isn't there.
use Rattle.std.proofs.Common.{ℕ, zero, suc, ◌≡◌, ◌<◌, ◌≤◌, ◌+◌, Bool, true, false, List, [], ◌∷◌, ◌++◌, length, take, drop, refl, sym, ap, subst, ◌∙◌, arith, append_assoc, Option, Some, None, option_and_then, option_map, is_some, flat_map}
use Rattle.std.specs.Prelude.{find, get_or, is_none, nat_lt, codes}
use Rattle.std.specs.List.{range_with_len}
use Rattle.std.proofs.lemmas.Grind.{flat_map-append}
use Rattle.std.proofs.lemmas.Bool.{ltb-true, ltb-false}
use Rattle.std.proofs.lemmas.List.{append-nil, take-append-drop, take_all, take_more}
use Rattle.ax_ask.specs.declared.op.Item.{Item}
use Rattle.ax_ask.specs.declared.line.Line.{Line}
use Rattle.ax_run_rules.specs.States.{State, Run, begin, start, without_lines}
use Rattle.ax_run_rules.specs.Steps.{step, run}
use Rattle.ax_run_rules.specs.Finale.{finale_of, finished}
use Rattle.ax_run_rules.specs.LineText.{line_text, lines_text}
use Rattle.ax_run_rules.specs.ReplayText.{replay_text, ended_text}
use Rattle.ax_run_rules.proofs.RunAppends.{run-append}
use Rattle.ax_script.specs.declared.script.Script.{Script}
use Rattle.ax_script.specs.Sound.{IsSoundScript}
use Rattle.ax_core.specs.declared.answers.CoreErr.{CoreErr}
use Rattle.ax_core.specs.declared.answers.CoreErr.TheVariants.{NotThere}
use Rattle.ax_core.specs.Items.{Steps, IsRefused}
use Rattle.ax_core.specs.Standing.{at, IsWhole}
use Rattle.ax_core.specs.Starting.{CanRun, script_in}
use Rattle.ax_top.specs.Runs.{breaks_by, missing_item, replay_of}
use Rattle.ax_top.specs.Running.{AreDone, IsMissing, IsEnded, IsRun, Ordered}
use Rattle.ax_top.proofs.Behind.{behind, run_behind}

-- ---- one more item

-- a run goes on from its state, and its lines stand before
goes_on : (o : List Item) (e : Run) → run o e ≡ option_map (behind e.lines) (run o (at e.state))
goes_on o e = ap (λ (ls : List Line). run o (record { state = e.state; lines = ls })) (sym (append-nil e.lines)) ∙ run_behind e.lines o (at e.state)

more : (o : List Item) (i : Item) (s : State) (e : Run) → run o (at s) ≡ Some e → run (o ++ i ∷ []) (at s) ≡ option_map (behind e.lines) (run (i ∷ []) (at e.state))
more o i s e is = run-append o (i ∷ []) (at s) ∙ (ap (option_and_then (run (i ∷ []))) is ∙ goes_on (i ∷ []) e)

lines_more : (ls : List Line) (l : Line) → lines_text (ls ++ l ∷ []) ≡ lines_text ls ++ line_text l
unfolding lines_text
lines_more ls l = flat_map-append line_text ls (l ∷ []) ∙ ap (λ xs. flat_map line_text ls ++ xs) (append-nil (line_text l))

pub none_done : (s : State) (before : List ℕ) → IsWhole s → AreDone s [] s before before
unfolding lines_text
none_done s before w = record { end = at s; ran = refl; state = refl; whole = w; text = sym (append-nil before) }

pub one_done : (s mid new : State) (o : List Item) (i : Item) (l : Line) (before text after : List ℕ) → AreDone s o mid before text
    → step (at mid) i ≡ Some (record { state = new; lines = l ∷ [] }) → IsWhole new → after ≡ text ++ line_text l → AreDone s (o ++ i ∷ []) new before after
one_done s mid new o i l before text after d is w t = record {
  end = record { state = new; lines = d.end.lines ++ l ∷ [] };
  ran = more o i s d.end d.ran ∙ ap (option_map (behind d.end.lines)) (ap (λ (x : State). run (i ∷ []) (at x)) d.state ∙ ap (option_and_then (run [])) is);
  state = refl;
  whole = w;
  text = t ∙ (ap (λ xs. xs ++ line_text l) d.text ∙ (append_assoc before (lines_text d.end.lines) (line_text l) ∙ ap (λ xs. before ++ xs) (sym (lines_more d.end.lines l))));
}

pub not_there : (s mid : State) (o : List Item) (i : Item) (before text : List ℕ) → AreDone s o mid before text → step (at mid) i ≡ None → run (o ++ i ∷ []) (at s) ≡ None
not_there s mid o i before text d is =
    more o i s d.end d.ran ∙ ap (option_map (behind d.end.lines)) (ap (λ (x : State). run (i ∷ []) (at x)) d.state ∙ ap (option_and_then (run [])) is)

-- ---- fronts of an order

back_there : (back : List Item) (q : Option Run) → is_some (option_and_then (run back) q) ≡ true → is_none q ≡ false
back_there back None h = cc
back_there back (Some r) h = refl

-- each front of an order that is there is there
front_there : (front back : List Item) (r : Run) → is_some (run (front ++ back) r) ≡ true → is_none (run front r) ≡ false
front_there front back r h = back_there back (run front r) (subst (λ q. is_some q ≡ true) (run-append front back r) h)

pub fronts_there : (o : List Item) (r : Run) (n : ℕ) → is_some (run o r) ≡ true → is_none (run (take n o) r) ≡ false
fronts_there o r n h = front_there (take n o) (drop n o) r (subst (λ (x : List Item). is_some (run x r) ≡ true) (sym (take-append-drop n o)) h)

-- ---- the first number that breaks

none_found : (p : ℕ → Bool) → ((k : ℕ) → p k ≡ false) → (a n : ℕ) → find p (range_with_len a n) ≡ None
none_found p h a zero = refl
none_found p h a (suc n) = rw (h a) (none_found p h (a + 1) n)

next_found : (p : ℕ → Bool) (i a n : ℕ) (b : Bool) → nat_lt a i ≡ b → ((k : ℕ) → k < i → p k ≡ false) → p i ≡ true → a ≤ i → (a < i → find p (range_with_len (a + 1) n) ≡ Some i) → find p (range_with_len a (suc n)) ≡ Some i
next_found p i a n true e below is low later = let less : a < i = ltb-true a i e in rw (below a less) (later less)
next_found p i a n false e below is low later =
    let more : i ≤ a = ltb-false a i e in
    let same : a ≡ i = omega arith in
    rw (ap p same ∙ is) (ap Some same)

first_found : (p : ℕ → Bool) (i : ℕ) → ((k : ℕ) → k < i → p k ≡ false) → p i ≡ true → (n a : ℕ) → a ≤ i → i < a + n → find p (range_with_len a n) ≡ Some i
first_found p i below is zero a low high = absurd (omega arith)
first_found p i below is (suc n) a low high = next_found p i a n (nat_lt a i) refl below is low (λ less. first_found p i below is n (a + 1) (omega arith) (omega arith))

front_of_front : (k n : ℕ) (o : List Item) → k ≤ n → take k (take n o) ≡ take k o
front_of_front zero n o h = refl
front_of_front (suc k) zero o h = absurd (omega arith)
front_of_front (suc k) (suc n) [] h = refl
front_of_front (suc k) (suc n) (x ∷ o) h = ap (λ (xs : List Item). x ∷ xs) (front_of_front k n o (omega arith))

-- ---- the whole run

begun : (s : Script) (from : State) → from ≡ start (script_in s) → at from ≡ begin (script_in s)
unfolding begin
begun s from e = ap at e

pub none_missing : (s : Script) (from mid : State) (before text : List ℕ) → from ≡ start (script_in s) → AreDone from s.order mid before text → missing_item s ≡ None
unfolding missing_item
none_missing s from mid before text e d =
    none_found (breaks_by s) (λ n. fronts_there s.order (begin (script_in s)) n (ap is_some (ap (run s.order) (sym (begun s from e)) ∙ d.ran))) 1 (length s.order)

pub ran_missing : (s : Script) (from : State) (i : ℕ) → from ≡ start (script_in s) → IsMissing (at from) s.order i → missing_item s ≡ Some i
unfolding missing_item
ran_missing s from i e m =
    let r : at from ≡ begin (script_in s) = begun s from e in
    let there : is_some (run (take m.front s.order) (begin (script_in s))) ≡ true = subst (λ (x : Run). is_some (run (take m.front s.order) x) ≡ true) r m.there in
    let missing : run (take i s.order) (begin (script_in s)) ≡ None = subst (λ (x : Run). run (take i s.order) x ≡ None) r m.missing in
    first_found (breaks_by s) i
    (λ k low. subst (λ (x : List Item). is_none (run x (begin (script_in s))) ≡ false) (front_of_front k m.front s.order (let n = m.number in omega (arith, n, low))) (fronts_there (take m.front s.order) (begin (script_in s)) k there))
    (ap is_none missing) (length s.order) 1 (let n = m.number in omega (arith, n)) (let n = m.number in let a = m.among in omega (arith, n, a))

pub ran_whole : (s : Script) (from mid new : State) (text whole : List ℕ) → from ≡ start (script_in s) → AreDone from s.order mid [] text → IsEnded mid new text whole → IsRun s new whole
unfolding replay_of replay_text finished
ran_whole s from mid new text whole e d f =
    let ran : run s.order (begin (script_in s)) ≡ Some d.end = ap (run s.order) (sym (begun s from e)) ∙ d.ran in
    let ends : finale_of (without_lines d.end) ≡ Some f.end = ap (λ (x : State). finale_of (at x)) d.state ∙ f.is in
    record {
      end = f.end;
      ran = rw (ran, ends) refl;
      state = f.state;
      whole = f.whole;
      told = rw (ran, ends) (ap Some (sym (f.text ∙ ap (λ xs. xs ++ (codes "finale\n" ++ ended_text f.end)) d.text)));
    }

-- ---- the same of the script whose order is taken out

same_start : (s t : Script) → t ≡ record s { order = [] } → start (script_in t) ≡ start (script_in s)
unfolding start
same_start s t e = rw e refl

pub can_run : (s t : Script) → IsSoundScript s → t ≡ record s { order = [] } → CanRun t
can_run s t h e = rw e (record { some = h.framed; apart = h.apart; named = h.named; leaves = h.leaves })

pub whole_runs : (s t : Script) (o : List Item) (from mid new : State) (before text whole : List ℕ) → t ≡ record s { order = [] } → from ≡ start (script_in t) → o ≡ s.order → before ≡ []
    → AreDone from o mid before text → IsEnded mid new text whole → (missing_item s ≡ None) × IsRun s new whole
whole_runs s t o from mid new before text whole e f same none d w =
    let begins : from ≡ start (script_in s) = f ∙ same_start s t e in
    let done : AreDone from s.order mid [] text = subst (λ (x : List Item). AreDone from x mid [] text) same (subst (λ (b : List ℕ). AreDone from o mid b text) none d) in
    (none_missing s from mid [] text begins done, ran_whole s from mid new text whole begins done w)

pub missing_runs : (s t : Script) (o : List Item) (from : State) (i : ℕ) → t ≡ record s { order = [] } → from ≡ start (script_in t) → o ≡ s.order → IsMissing (at from) o i → missing_item s ≡ Some i
missing_runs s t o from i e f same m = ran_missing s from i (f ∙ same_start s t e) (subst (λ (x : List Item). IsMissing (at from) x i) same m)

-- what an order came to, by whether an item was missing
pub are_done : (s new : State) (o : List Item) (before after : List ℕ) (m : Option ℕ) → Ordered s o new before after m → m ≡ None → AreDone s o new before after
are_done s new o before after m h is = subst (Ordered s o new before after) is h

pub is_missing : (s new : State) (o : List Item) (before after : List ℕ) (m : Option ℕ) (i : ℕ) → Ordered s o new before after m → m ≡ Some i → IsMissing (at s) o i
is_missing s new o before after m i h is = subst (Ordered s o new before after) is h

-- ---- one more step of the loop over the order

next_front : (o : List Item) (k : ℕ) (i : Item) → k < length o → i ≡ get_or o k i → take (k + 1) o ≡ take k o ++ i ∷ []
next_front o k i low e = take_more o k i low ∙ ap (λ (x : Item). take k o ++ x ∷ []) (sym e)

pub next_done : (s mid new : State) (o : List Item) (k : ℕ) (i : Item) (l : Line) (before text after : List ℕ) → k < length o → i ≡ get_or o k i → AreDone s (take k o) mid before text
    → Steps mid i new l → (IsWhole mid → IsWhole new) → after ≡ text ++ line_text l → AreDone s (take (k + 1) o) new before after
next_done s mid new o k i l before text after low e d is w t =
    subst (λ (x : List Item). AreDone s x new before after) (sym (next_front o k i low e)) (one_done s mid new (take k o) i l before text after d (is.whole d.whole) (w d.whole) t)

-- a refusal that names the item says that it isn't there
no_step : (s new : State) (i j : Item) (e : CoreErr) → IsRefused s i new e → e ≡ NotThere j → step (at s) i ≡ None
no_step s new i j e h is = (subst (IsRefused s i new) is h).1.0

pub next_missing : (s mid new : State) (o : List Item) (k n : ℕ) (i j : Item) (e : CoreErr) (before text : List ℕ) → k < length o → i ≡ get_or o k i → n ≡ k + 1 → AreDone s (take k o) mid before text
    → IsRefused mid i new e → e ≡ NotThere j → IsMissing (at s) o n
next_missing s mid new o k n i j e before text low is c d h w = record {
  front = k;
  number = c;
  among = low;
  there = ap is_some d.ran;
  missing = ap (λ m. run (take m o) (at s)) c ∙ (ap (λ (x : List Item). run x (at s)) (next_front o k i low is) ∙ not_there s mid (take k o) i before text d (no_step mid new i j e h w));
}

pub all_done : (s new : State) (o : List Item) (k : ℕ) (before after : List ℕ) → length o ≤ k → AreDone s (take k o) new before after → AreDone s o new before after
all_done s new o k before after high d = subst (λ (x : List Item). AreDone s x new before after) (take_all k o high) d
