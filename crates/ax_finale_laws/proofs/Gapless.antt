-- No receipt of the finale is a gap: it delivers only tokens that it has asked for.
use Rattle.std.proofs.Common.{ℕ, zero, suc, ◌+◌, ◌≡◌, ◌≤◌, Bool, true, false, not, ◌&&◌, if◌then◌else◌, List, [], ◌∷◌, ◌++◌, length, find, flat_map, replicate, refl, sym, ap, ◌∙◌, subst, Option, Some, None, option_and_then, option_map, true≢false, arith}
use Rattle.std.specs.List.{list_any, enumerate_from}
use Rattle.ax_tree.specs.declared.packet.Packet.{Packet}
use Rattle.ax_tree.specs.declared.packet.JEntry.{JEntry}
use Rattle.ax_tree.specs.declared.packet.JEntry.TheVariants as entries
use Rattle.ax_tree.specs.declared.packet.HEntry.{HEntry}
use Rattle.ax_ask.specs.declared.op.FrameOp.TheVariants as ops
use Rattle.ax_ask.specs.declared.op.BrowserOp.{BrowserOp}
use Rattle.ax_ask.specs.declared.op.BrowserOp.TheVariants as browsers
use Rattle.ax_ask.specs.declared.op.TimedOp.{TimedOp}
use Rattle.ax_ask.specs.declared.op.Item.{Item}
use Rattle.ax_ask.specs.declared.op.Item.TheVariants as items
use Rattle.ax_ask.specs.declared.query.TimedQuery.{TimedQuery}
use Rattle.ax_rules.specs.Histories.{is_gone, token_of, got}
use Rattle.ax_run_rules.specs.Scripts.{Script}
use Rattle.ax_tree.specs.Journals.{packets_of}
use Rattle.ax_run_rules.specs.States.{start, FrameRun, State, Run, trees_of, find_frame, with_frame, without_lines}
use Rattle.ax_run_rules.specs.FrameSteps.{do_op}
use Rattle.ax_run_rules.specs.Steps.{next_token, do_ask, do_browser, do_deliver, do_next_browser, step, run}
use Rattle.ax_run_rules.specs.Finale.{ops_left, packets_left, delivery_of, serve, is_behind, pass_of, refresh, refresh_if, catch_up, queries_left, finale_of}
use Rattle.ax_run_laws.specs.Laws.{IsAsked, TokensAsked, is_gap}
use Rattle.ax_run_laws.proofs.Found.{of_tree, found_in}
use Rattle.ax_run_laws.proofs.Held.{start_found, op_held, browser_op_held}
use Rattle.ax_run_laws.proofs.Quiet.{AllRun, next}
use Rattle.ax_run_laws.proofs.Gaps.{LowEntry, LowEntries, final}
use Rattle.ax_finale_laws.specs.Gaps.{IsUpTo, AllUpTo, last_after, IsLastApplied, TokensFit, IsInOrder, NoneIsAGap}
use Rattle.ax_run_laws.proofs.NoGaps.{Last, Chained, Sound, both_sound, op_sound, browser_op_sound, run_sound}
use Rattle.ax_finale_laws.proofs.Resumed.{held_where_fit}
use Rattle.ax_run_laws.proofs.CatchUp.{token_after}

-- ---- orders without deliveries

abbrev Plain : Item → Type 0
Plain (items.Frame t) = Unit {0}
Plain (items.Receive t) = Unit {0}
Plain items.Browser = Unit {0}
Plain (items.Deliver t n) = ⊥
Plain (items.Reader k) = Unit {0}

abbrev AllPlain : List Item → Type 0
AllPlain [] = Unit {0}
AllPlain (i ∷ o) = Plain i × AllPlain o

asked_plain : (r : Run) (i : Item) → Plain i → IsAsked r i
asked_plain r (items.Frame t) p = tt
asked_plain r (items.Receive t) p = tt
asked_plain r items.Browser p = tt
asked_plain r (items.Deliver t n) p = absurd p
asked_plain r (items.Reader k) p = tt

all_asked : (o : List Item) (r : Run) → AllPlain o → TokensAsked o r
all_asked [] r p = tt
all_asked (i ∷ o) r p = (asked_plain r i p.0, λ q e. all_asked o q p.1)

plain_many : (n : ℕ) (i : Item) (o : List Item) → Plain i → AllPlain o → AllPlain (replicate n i ++ o)
plain_many zero i o p a = a
plain_many (suc n) i o p a = (p, plain_many n i o p a)

plain_all : {A : Type 0} (size : A → ℕ) (turn : A → Item) → ((x : A) → Plain (turn x)) → (xs : List A) → AllPlain (flat_map (λ x. replicate (size x) (turn x)) xs)
plain_all size turn h [] = tt
plain_all size turn h (x ∷ xs) = plain_many (size x) (turn x) (flat_map (λ y. replicate (size y) (turn y)) xs) (h x) (plain_all size turn h xs)

plain_sound : (o : List Item) (r : Run) → AllPlain o → Sound r → AllRun Sound (run o r)
plain_sound o r p k = run_sound o r (all_asked o r p) k

ops_plain : (s : State) → AllPlain (ops_left s)
unfolding ops_left
ops_plain s = plain_all (λ (f : FrameRun). length f.left) (λ (f : FrameRun). items.Frame f.tree) (λ f. tt) s.frames

packets_plain : (s : State) → AllPlain (packets_left s)
unfolding packets_left
packets_plain s = plain_all (λ (f : FrameRun). length f.waiting) (λ (f : FrameRun). items.Receive f.tree) (λ f. tt) s.frames

queries_plain : (s : State) → AllPlain (queries_left s)
unfolding queries_left
queries_plain s = plain_all (λ (r : ℕ × List TimedQuery). length r.1) (λ (r : ℕ × List TimedQuery). items.Reader r.0) (λ r. tt) (enumerate_from 1 s.readers)

-- ---- what was asked is delivered

ask_asked : (r : Run) (t : ℕ) → is_gone r.state.history t ≡ false → next_token r.state.history t ≤ token_of (do_ask r t).state.history t
unfolding do_ask
ask_asked r t n = let e = token_after r.state.history t n in omega (arith, e)

browser_sound : (r : Run) (o : BrowserOp) → Sound r → Sound (do_browser r o)
browser_sound r o k = let b : AllRun Sound (Some (do_browser r o)) = both_sound (Some (do_browser r o)) (browser_op_held r o k.held) (browser_op_sound r o k) in b

ask_sound : (r : Run) (t : ℕ) → Sound r → Sound (do_ask r t)
unfolding do_browser
ask_sound r t k = browser_sound r (browsers.Ask t) k

-- ---- the browser's operations

record Serving (os : List TimedOp) (r : Run) : Type 0 where
  left : r.state.browser ≡ os
  sound : Sound r

record Left (os : List TimedOp) (r : Run) : Type 0 where
  left : r.state.browser ≡ os

both_serving : (os : List TimedOp) (o : Option Run) → AllRun (Left os) o → AllRun Sound o → AllRun (Serving os) o
both_serving os None l k = tt
both_serving os (Some r) l k = record { left = l.left; sound = k }

delivered_left : (r : Run) (n : ℕ) (os : List TimedOp) (f : Option FrameRun) → Left os r → AllRun (Left os) (option_map (λ (g : FrameRun). do_deliver r g n) f)
unfolding do_deliver with_frame
delivered_left r n os None k = tt
delivered_left r n os (Some f) k = record { left = k.left }

deliver_left : (r : Run) (t n : ℕ) (os : List TimedOp) → Left os r → AllRun (Left os) (run (items.Deliver t (record { 0 = n }) ∷ []) r)
unfolding step find_frame
deliver_left r t n os k = next (Left os) (Left os) (run []) (λ q x. x) (option_map (λ g. do_deliver r g n) (find (of_tree t) r.state.frames)) (delivered_left r n os (find (of_tree t) r.state.frames) k)

deliver_serving : (r : Run) (t n : ℕ) (os : List TimedOp) → n ≤ token_of r.state.history t → Serving os r → AllRun (Serving os) (run (items.Deliver t (record { 0 = n }) ∷ []) r)
deliver_serving r t n os l k =
    let o = items.Deliver t (record { 0 = n }) ∷ [] in
    both_serving os (run o r) (deliver_left r t n os (record { left = k.left })) (run_sound o r (l, λ q e. tt) k.sound)

same_browser : (r : Run) (o : BrowserOp) (os : List TimedOp) → r.state.browser ≡ os → (do_browser r o).state.browser ≡ os
unfolding do_browser do_ask
same_browser r (browsers.Ask t) os e = e
same_browser r (browsers.Destroy t) os e = e
same_browser r (browsers.Probe t u) os e = e

op_serving : (r : Run) (o : BrowserOp) (os : List TimedOp) → Serving os r → Serving os (do_browser r o)
op_serving r o os k = record { left = same_browser r o os k.left; sound = browser_sound r o k.sound }

served : (r : Run) (b : BrowserOp) (os : List TimedOp) → Serving os r → AllRun (Serving os) (run (delivery_of r.state b) (do_browser r b))
unfolding do_browser
served r (browsers.Ask t) os k = go (is_gone r.state.history t) refl
  where
    go : (g : Bool) → is_gone r.state.history t ≡ g → AllRun (Serving os) (run (if g then [] else items.Deliver t (record { 0 = next_token r.state.history t }) ∷ []) (do_ask r t))
    go true e = op_serving r (browsers.Ask t) os k
    go false e = deliver_serving (do_ask r t) t (next_token r.state.history t) os (ask_asked r t e) (op_serving r (browsers.Ask t) os k)
served r (browsers.Destroy t) os k = op_serving r (browsers.Destroy t) os k
served r (browsers.Probe t u) os k = op_serving r (browsers.Probe t u) os k

one_served : (r : Run) (o : TimedOp) (left : List TimedOp) → Serving (o ∷ left) r → AllRun (Serving left) (run (items.Browser ∷ delivery_of r.state o.op) r)
unfolding step
one_served r o left k =
    subst (λ bs. AllRun (Serving left) (option_and_then (run (delivery_of r.state o.op)) (do_next_browser r bs))) (sym k.left)
    (served (record r { state = record r.state { browser = left } }) o.op left (record { left = refl; sound = record { held = k.sound.held; chained = k.sound.chained; lines = k.sound.lines } }))

all_served : (os : List TimedOp) (r : Run) → Serving os r → AllRun Sound (serve os r)
all_served [] r k = k.sound
all_served (o ∷ left) r k = next (Serving left) Sound (serve left) (λ q x. all_served left q x) (run (items.Browser ∷ delivery_of r.state o.op) r) (one_served r o left k)

-- ---- trees that are asked anew

passed_sound : (r : Run) (t : ℕ) (o : Option FrameRun) → find (of_tree t) r.state.frames ≡ o → Sound r → AllRun Sound (option_map (λ (f : FrameRun). do_op r f ops.Pass f.left) o)
passed_sound r t None e k = tt
passed_sound r t (Some f) e k =
    let there : find (of_tree f.tree) r.state.frames ≡ Some f = ap (λ u. find (of_tree u) r.state.frames) (found_in t r.state.frames f e) ∙ e in
    both_sound (Some (do_op r f ops.Pass f.left)) (op_held r f (ops.Pass ∷ f.left) (record { there = there; held = k.held })) (op_sound r f (ops.Pass ∷ f.left) there k)

pass_sound : (r : Run) (t : ℕ) → Sound r → AllRun Sound (pass_of r t)
unfolding pass_of find_frame
pass_sound r t k = passed_sound r t (find (of_tree t) r.state.frames) refl k

refresh_sound : (t : ℕ) (r : Run) → is_gone r.state.history t ≡ false → Sound r → AllRun Sound (refresh t r)
unfolding refresh
refresh_sound t r n k =
    let o = run (items.Deliver t (record { 0 = next_token r.state.history t }) ∷ []) (do_ask r t) in
    next Sound Sound (run (items.Receive t ∷ [])) (λ q x. plain_sound (items.Receive t ∷ []) q (tt, tt) x) (option_and_then (λ q. pass_of q t) o)
    (next Sound Sound (λ q. pass_of q t) (λ q x. pass_sound q t x) o
    (run_sound (items.Deliver t (record { 0 = next_token r.state.history t }) ∷ []) (do_ask r t) (ask_asked r t n, λ q e. tt) (ask_sound r t k)))

live : (g b : Bool) → (not g && b) ≡ true → g ≡ false
live true b h = absurd (true≢false (sym h))
live false b h = refl

is_live : (s : State) (f : FrameRun) → is_behind s f ≡ true → is_gone s.history f.tree ≡ false
unfolding is_behind
is_live s f h = live (is_gone s.history f.tree) _ h

caught_sound : (r : Run) (o : Option FrameRun) → Sound r → AllRun Sound (option_and_then (refresh_if r) o)
caught_sound r None k = tt
caught_sound r (Some f) k = go (is_behind r.state f) refl
  where
    go : (b : Bool) → is_behind r.state f ≡ b → AllRun Sound (if b then refresh f.tree r else Some r)
    go true e = refresh_sound f.tree r (is_live r.state f e) k
    go false e = k

catch_up_sound : (ts : List ℕ) (r : Run) → Sound r → AllRun Sound (catch_up ts r)
catch_up_sound [] r k = k
catch_up_sound (t ∷ ts) r k = next Sound Sound (catch_up ts) (λ q x. catch_up_sound ts q x) (option_and_then (refresh_if r) (find_frame r.state t)) (caught_sound r (find_frame r.state t) k)

finale_sound : (r : Run) → Sound r → AllRun Sound (finale_of r)
unfolding finale_of
finale_sound r k =
    next Sound Sound (λ (a : Run). run (queries_left a.state) a) (λ a x. plain_sound (queries_left a.state) a (queries_plain a.state) x) _
    (next Sound Sound (λ (a : Run). catch_up (trees_of a.state) a) (λ a x. catch_up_sound (trees_of a.state) a x) _
    (next Sound Sound (λ (a : Run). serve a.state.browser a) (λ a x. all_served a.state.browser a (record { left = refl; sound = x })) _
    (next Sound Sound (λ (a : Run). run (packets_left a.state) a) (λ a x. plain_sound (packets_left a.state) a (packets_plain a.state) x) _
    (plain_sound (ops_left r.state) r (ops_plain r.state) k))))

-- ---- from a state

low_entry : (n : ℕ) (e : JEntry) → IsUpTo n e → LowEntry n e
low_entry n (entries.Edited e) h = tt
low_entry n (entries.Marked z) h = tt
low_entry n (entries.MarkedBelow z) h = tt
low_entry n entries.Passed h = tt
low_entry n entries.Short h = tt
low_entry n (entries.Delivered k) h = h

low_entries : (n : ℕ) (es : List JEntry) → AllUpTo n es → LowEntries n es
low_entries n [] h = tt
low_entries n (e ∷ es) h = (low_entry n e h.0, low_entries n es h.1)

same_last : (q : Option Packet) (ps : List Packet) → last_after q ps ≡ final q ps
same_last q [] = refl
same_last q (p ∷ ps) = same_last (Some p) ps

as_last : (h : List HEntry) (t : ℕ) (o : Option Packet) → IsLastApplied h t o → Last h t o
as_last h t None k = tt
as_last h t (Some q) k = k

chained_where_fit : (h : List HEntry) (t : ℕ) (f : FrameRun) → TokensFit h t f → Chained h t f
chained_where_fit h t f k = record { low = low_entries (token_of h t) f.journal k.asked; last = subst (Last h t) (same_last None (got h t)) (as_last h t (last_after None (got h t)) k.last) }

sound_state : (r : Run) → IsInOrder r.state → list_any is_gap r.lines ≡ false → Sound r
unfolding find_frame
sound_state r s n = record { held = held_where_fit r s.packets; chained = λ t f e. chained_where_fit r.state.history t f (s.tokens t f e); lines = n }

sound_at : (o : Option Run) (q : Run) → o ≡ Some q → AllRun Sound o → Sound q
sound_at o q e k = let x : AllRun Sound (Some q) = subst (λ y. AllRun Sound y) e k in x

quiet_sound : (r : Run) → Sound r → Sound (without_lines r)
quiet_sound r k = record { held = k.held; chained = k.chained; lines = refl }

pub none_is_a_gap : (r : Run) → IsInOrder r.state → list_any is_gap r.lines ≡ false → NoneIsAGap r
none_is_a_gap r s n =
    let ended : (o : List Item) (q : Run) → TokensAsked o r → run o r ≡ Some q → Sound q = λ o q a e. sound_at (run o r) q e (run_sound o r a (sound_state r s n)) in
    record {
      orders = λ o q a e. (ended o q a e).lines;
      finale = λ o q x a e f. (sound_at (finale_of (without_lines q)) x f (finale_sound (without_lines q) (quiet_sound q (ended o q a e)))).lines;
    }

-- ---- the start

start_in_order : (t : ℕ) (f : FrameRun) → (f.journal ≡ []) × (f.waiting ≡ []) → (got [] t ++ f.waiting ≡ packets_of t f.journal) × TokensFit [] t f
unfolding got
start_in_order t f e = (e.1 ∙ ap (packets_of t) (sym e.0), record { asked = subst (λ l. AllUpTo (token_of [] t) l) (sym e.0) tt; last = tt })

pub starts_in_order : (s : Script) → IsInOrder (start s)
unfolding start find_frame
starts_in_order s = record {
  packets = λ t f e. (start_in_order t f (start_found s.frames t f e)).0;
  tokens = λ t f e. (start_in_order t f (start_found s.frames t f e)).1;
}
