-- What a run keeps where each delivered token was asked for before, from any state: then no receipt is a gap.
use Rattle.std.proofs.Common.{ℕ, zero, suc, ◌+◌, ◌≡◌, ◌≤◌, ◌==◌, inl, inr, Bool, true, false, not, ◌||◌, cond, List, [], ◌∷◌, ◌++◌, find, refl, sym, ap, ◌∙◌, subst, Option, Some, None, arith, append-nil, true≢false, option_and_then, option_map, slice_get}
use Rattle.std.proofs.lemmas.Bool.{eqb-true}
use Rattle.std.proofs.lemmas.List.Folds.{list_any-append}
use Rattle.std.specs.List.{list_any}
use Rattle.ax_base.specs.declared.pass.PassNo.{PassNo}
use Rattle.ax_base.specs.declared.pass.Token.{Token}
use Rattle.ax_tree.specs.declared.edit.Edit.{Edit}
use Rattle.ax_tree.specs.declared.edit.Edit.TheVariants as edits
use Rattle.ax_tree.specs.declared.packet.Packet.{Packet}
use Rattle.ax_tree.specs.declared.packet.JEntry.TheVariants as entries
use Rattle.ax_tree.specs.declared.packet.HEntry.{HEntry}
use Rattle.ax_tree.specs.declared.packet.HEntry.TheVariants.{Got, Asked, Ended, Probed}
use Rattle.ax_tree.specs.declared.verdict.Event.{Event}
use Rattle.ax_tree.specs.declared.verdict.Verdict.TheVariants.{Applied, Stale, Gap, Gone}
use Rattle.ax_tree.specs.Tree.{Tree}
use Rattle.ax_tree.specs.Journals.{Frame, new_frame}
use Rattle.ax_ask.specs.declared.op.FrameOp.{FrameOp}
use Rattle.ax_ask.specs.declared.op.FrameOp.TheVariants as ops
use Rattle.ax_ask.specs.declared.op.BrowserOp.{BrowserOp}
use Rattle.ax_ask.specs.declared.op.BrowserOp.TheVariants as browsers
use Rattle.ax_ask.specs.declared.op.TimedOp.{TimedOp}
use Rattle.ax_ask.specs.declared.op.Item.{Item}
use Rattle.ax_ask.specs.declared.op.Item.TheVariants as items
use Rattle.ax_ask.specs.declared.query.TimedQuery.{TimedQuery}
use Rattle.ax_ask.specs.declared.line.Line.{Line}
use Rattle.ax_rules.specs.Histories.{is_gone, token_of, got, applied_pass, verdict_at, ends}
use Rattle.ax_rules.specs.Mirrors.{mirror_of, verdict_of}
use Rattle.ax_rules.specs.Events.{events_of}
use Rattle.ax_run_rules.specs.Scripts.{Script}
use Rattle.ax_run_rules.specs.States.{FrameRun, Run, start, begin, frame_now, find_frame, with_frame}
use Rattle.ax_run_rules.specs.FrameSteps.{entry_of, edit_line, op_line, do_op}
use Rattle.ax_run_rules.specs.Steps.{do_receive, do_ask, do_browser, do_deliver, do_query, do_next_op, do_oldest, do_next_browser, do_next_query, do_reader, step, run}
use Rattle.ax_rules.proofs.Appends.{is_gone-append, got-append, applied_pass-append}
use Rattle.ax_rules.proofs.Tokens.{token-append}
use Rattle.ax_rules.proofs.Going.{token_on}
use Rattle.ax_rules.proofs.Building.{pass_then}
use Rattle.ax_run_laws.specs.Laws.{IsAsked, TokensAsked, is_gap, is_gap_verdict}
use Rattle.ax_run_laws.proofs.Found.{of_tree, found_in, same_number, each_found}
use Rattle.ax_run_laws.proofs.Held.{AllOf, FrameHeld, Held, AllHeld, step_held, begin_held, start_found, got_own, got_other}
use Rattle.ax_run_laws.proofs.Quiet.{AllRun, there}
use Rattle.ax_run_laws.proofs.Gaps.{Link, LinkedFrom, final, linked_at, final-push, linked, LowEntry, LowEntries, LowPackets, low_push, higher, low_made, low_final}

-- where the tree is live and the last packet has its token, that packet was applied
abbrev pub Last : List HEntry → ℕ → Option Packet → Type 0
Last h t None = Unit {0}
Last h t (Some q) = is_gone h t ≡ false → q.token.0 ≡ token_of h t → applied_pass h t ≡ q.pass.0

pub record Chained (h : List HEntry) (t : ℕ) (f : FrameRun) : Type 0 where
  pub low : LowEntries (token_of h t) f.journal
  pub last : Last h t (final None (got h t))

-- the last received packet has no token that wasn't asked for
last_low : (h : List HEntry) (t : ℕ) (f : FrameRun) → FrameHeld h t f → LowEntries (token_of h t) f.journal → (x : Packet) → final None (got h t) ≡ Some x → x.token.0 ≤ token_of h t
last_low h t f held low x e =
    low_final (token_of h t) None (got h t) f.waiting x (λ p k. absurd (cc))
    (subst (λ l. LowPackets (token_of h t) l) (sym held.packets) (low_made (token_of h t) t f.journal (new_frame t) (omega arith) low)) e

first_false : (a b : Bool) → (a || b) ≡ false → a ≡ false
first_false true b h = absurd (true≢false h)
first_false false b h = refl

gone_before : (h : List HEntry) (e : HEntry) (u : ℕ) → is_gone (h ++ e ∷ []) u ≡ false → is_gone h u ≡ false
gone_before h e u n = first_false (is_gone h u) (ends u e) (sym (is_gone-append h e u) ∙ n)

last_on : (h : List HEntry) (e : HEntry) (u : ℕ) (o : Option Packet) → applied_pass (h ++ e ∷ []) u ≡ applied_pass h u → ((x : Packet) → o ≡ Some x → x.token.0 ≤ token_of h u)
    → Last h u o → Last (h ++ e ∷ []) u o
last_on h e u None same low l = tt
last_on h e u (Some q) same low l = λ n k.
    let b = low q refl in let m = token_on h (e ∷ []) u in let eq : q.token.0 ≡ token_of h u = omega (arith, b, m, k) in same ∙ l (gone_before h e u n) eq

-- a tree of which an entry is no packet
chained_on : (h : List HEntry) (e : HEntry) (u : ℕ) (f : FrameRun) → FrameHeld h u f → got (e ∷ []) u ≡ [] → applied_pass (h ++ e ∷ []) u ≡ applied_pass h u → Chained h u f
    → Chained (h ++ e ∷ []) u f
chained_on h e u f held none same c = record {
  low = higher (token_of h u) (token_of (h ++ e ∷ []) u) f.journal (token_on h (e ∷ []) u) c.low;
  last =
      subst (λ l. Last (h ++ e ∷ []) u (final None l)) (sym (got-append h (e ∷ []) u ∙ (ap (λ l. got h u ++ l) none ∙ append-nil (got h u))))
      (last_on h e u (final None (got h u)) same (last_low h u f held c.low) c.last);
}

no_gap_push : (ls : List Line) (l : Line) → list_any is_gap ls ≡ false → is_gap l ≡ false → list_any is_gap (ls ++ l ∷ []) ≡ false
no_gap_push ls l h k = list_any-append is_gap ls (l ∷ []) ∙ rw (h, k) refl

pub record Sound (r : Run) : Type 0 where
  pub held : Held r.state.frames r.state.history
  pub chained : (t : ℕ) (f : FrameRun) → find (of_tree t) r.state.frames ≡ Some f → Chained r.state.history t f
  pub lines : list_any is_gap r.lines ≡ false

-- all but what `step_held` says
pub record Quietly (r : Run) : Type 0 where
  pub chained : (t : ℕ) (f : FrameRun) → find (of_tree t) r.state.frames ≡ Some f → Chained r.state.history t f
  pub lines : list_any is_gap r.lines ≡ false

pub both_sound : (o : Option Run) → AllHeld o → AllRun Quietly o → AllRun Sound o
both_sound None h q = tt
both_sound (Some r) h q = record { held = h; chained = q.chained; lines = q.lines }

-- ---- operations and deliveries

entry_low : (n : ℕ) (o : FrameOp) → LowEntry n (entry_of o)
entry_low n (ops.Edit e) = tt
entry_low n (ops.Touch z) = tt
entry_low n (ops.TouchBelow z) = tt
entry_low n ops.Pass = tt

edit_no_gap : (t : ℕ) (s : Tree) (e : Edit) → is_gap (edit_line t s e) ≡ false
unfolding edit_line
edit_no_gap t s (edits.Root n) = refl
edit_no_gap t s (edits.Insert p i n) = refl
edit_no_gap t s (edits.Remove z) = refl
edit_no_gap t s (edits.Move z p i) = refl
edit_no_gap t s (edits.Set e) = refl
edit_no_gap t s (edits.Tree e) = refl

op_no_gap : (t : ℕ) (f : Frame) (o : FrameOp) → is_gap (op_line t f o) ≡ false
unfolding op_line
op_no_gap t f (ops.Edit e) = edit_no_gap t f.source e
op_no_gap t f (ops.Touch z) = refl
op_no_gap t f (ops.TouchBelow z) = refl
op_no_gap t f ops.Pass = refl

pub op_sound : (r : Run) (f : FrameRun) (os : List FrameOp) → find (of_tree f.tree) r.state.frames ≡ Some f → Sound r → AllRun Quietly (do_next_op r f os)
unfolding do_op with_frame
op_sound r f [] e k = tt
op_sound r f (o ∷ left) e k =
    let c = k.chained f.tree f e in
    record {
      chained = each_found (Chained r.state.history) _ f r.state.frames e (record { low = low_push (token_of r.state.history f.tree) f.journal (entry_of o) c.low (entry_low (token_of r.state.history f.tree) o); last = c.last })
          (λ t x n q. k.chained t x q);
      lines = no_gap_push r.lines _ k.lines (op_no_gap f.tree (frame_now f) o);
    }

delivery_sound : (r : Run) (f : FrameRun) (n : ℕ) → n ≤ token_of r.state.history f.tree → find (of_tree f.tree) r.state.frames ≡ Some f → Sound r → Quietly (do_deliver r f n)
unfolding do_deliver with_frame
delivery_sound r f n l e k =
    let c = k.chained f.tree f e in
    record {
      chained = each_found (Chained r.state.history) _ f r.state.frames e
          (record { low = low_push (token_of r.state.history f.tree) f.journal (entries.Delivered (record { 0 = n })) c.low l; last = c.last }) (λ t x m q. k.chained t x q);
      lines = no_gap_push r.lines _ k.lines refl;
    }

-- ---- receipts

or_same : (a : Bool) (n : ℕ) → not (a || (n == n)) ≡ false
or_same a n = ap (λ b. not (a || b)) (same_number n) ∙ or_true a
  where
    or_true : (c : Bool) → not (c || true) ≡ false
    or_true true = refl
    or_true false = refl

-- a packet with the tree's token is no gap
base_fits : (h : List HEntry) (t : ℕ) (p : Packet) (q : Option Packet) → Link q p → Last h t q → is_gone h t ≡ false → p.token.0 ≡ token_of h t
    → not (p.base.0 == 0 || p.base.0 == applied_pass h t) ≡ false
base_fits h t p None l a n k = ap (λ b. not (b == 0 || b == applied_pass h t)) l
base_fits h t p (Some x) (inl l) a n k = ap (λ b. not (b == 0 || b == applied_pass h t)) l
base_fits h t p (Some x) (inr l) a n k = ap (λ b. not (p.base.0 == 0 || p.base.0 == b)) (a n (sym l.token ∙ k) ∙ sym l.base) ∙ or_same (p.base.0 == 0) p.base.0

not_equal : (a b : ℕ) → not (a == b) ≡ false → a ≡ b
not_equal a b h = eqb-true a b (grind (arith, h))

no_gap_of : (gone stale gap : Bool) (had want : Token) (base last pass : PassNo) (es : List Event) → (gone ≡ false → stale ≡ false → gap ≡ false)
    → is_gap_verdict (cond gone Gone (cond stale (Stale had want) (cond gap (Gap base last) (Applied pass es)))) ≡ false
no_gap_of true stale gap had want base last pass es h = refl
no_gap_of false true gap had want base last pass es h = refl
no_gap_of false false true had want base last pass es h = absurd (true≢false (h refl refl))
no_gap_of false false false had want base last pass es h = refl

-- the packet p comes next after those received of its tree
record Next (h : List HEntry) (p : Packet) : Type 0 where
  link : Link (final None (got h p.tree)) p
  last : Last h p.tree (final None (got h p.tree))

verdict_no_gap : (h : List HEntry) (p : Packet) → Next h p → is_gap_verdict (verdict_of h p) ≡ false
unfolding verdict_of verdict_at
verdict_no_gap h p x =
    no_gap_of (is_gone h p.tree) (not (p.token.0 == token_of h p.tree)) (not (p.base.0 == 0 || p.base.0 == applied_pass h p.tree))
    p.token (record { 0 = token_of h p.tree }) p.base (record { 0 = applied_pass h p.tree }) p.pass (events_of (mirror_of h p.tree) (mirror_of (h ++ Got p ∷ []) p.tree))
    (λ n k. base_fits h p.tree p (final None (got h p.tree)) x.link x.last n (not_equal p.token.0 (token_of h p.tree) k))

token_got : (h : List HEntry) (p : Packet) (u : ℕ) → token_of (h ++ Got p ∷ []) u ≡ token_of h u
token_got h p u = token-append h (Got p) u ∙ same (is_gone h u) (token_of h u)
  where
    same : (b : Bool) (n : ℕ) → cond b n (n + 0) ≡ n
    same true n = refl
    same false n = omega arith

last_got : (h : List HEntry) (p : Packet) → Next h p → Last (h ++ Got p ∷ []) p.tree (Some p)
last_got h p x n k =
    let gone = gone_before h (Got p) p.tree n in
    let tok : p.token.0 ≡ token_of h p.tree = k ∙ token_got h p p.tree in
    pass_then h p (gone, ap (λ a. not (a == token_of h p.tree)) tok ∙ ap not (same_number (token_of h p.tree)), base_fits h p.tree p (final None (got h p.tree)) x.link x.last gone tok)

next_of : (h : List HEntry) (f : FrameRun) (p : Packet) (ps : List Packet) → f.waiting ≡ p ∷ ps → p.tree ≡ f.tree → FrameHeld h f.tree f → Chained h f.tree f → Next h p
next_of h f p ps e own held c = record {
  link = subst (λ u. Link (final None (got h u)) p) (sym own)
      (linked_at None (got h f.tree) p ps (subst (λ l. LinkedFrom None l) (sym (ap (λ l. got h f.tree ++ l) (sym e) ∙ held.packets)) (linked f.tree f.journal)));
  last = subst (λ u. Last h u (final None (got h u))) (sym own) c.last;
}

pass_other : (h : List HEntry) (p : Packet) (u : ℕ) → (p.tree == u) ≡ false → applied_pass (h ++ Got p ∷ []) u ≡ applied_pass h u
pass_other h p u n = applied_pass-append h (Got p) u ∙ rw n refl

receipt_sound : (r : Run) (f : FrameRun) (ps : List Packet) → f.waiting ≡ ps → find (of_tree f.tree) r.state.frames ≡ Some f → Sound r → AllRun Quietly (do_oldest r f ps)
unfolding do_receive with_frame
receipt_sound r f [] w e k = tt
receipt_sound r f (p ∷ ps) w e k =
    let h = r.state.history in
    let c = k.chained f.tree f e in
    let held = k.held.at f.tree f e in
    let own : AllOf f.tree (p ∷ ps) = subst (λ l. AllOf f.tree l) w held.waiting in
    let x = next_of h f p ps w own.0 held c in
    record {
      chained = each_found (Chained (h ++ Got p ∷ [])) (record f { waiting = ps }) f r.state.frames e
          (record {
            low = higher (token_of h f.tree) (token_of (h ++ Got p ∷ []) f.tree) f.journal (token_on h (Got p ∷ []) f.tree) c.low;
            last = subst (λ o. Last (h ++ Got p ∷ []) f.tree o)
                (sym (ap (final None) (got-append h (Got p ∷ []) f.tree ∙ ap (λ l. got h f.tree ++ l) (got_own p f.tree own.0)) ∙ final-push None (got h f.tree) p))
                (subst (λ u. Last (h ++ Got p ∷ []) u (Some p)) own.0 (last_got h p x));
          })
          (λ u y n q. let m : (p.tree == u) ≡ false = ap (λ z. z == u) own.0 ∙ n in
          chained_on h (Got p) u y (k.held.at u y q) (got_other p u m) (pass_other h p u m) (k.chained u y q));
      lines = no_gap_push r.lines _ k.lines (verdict_no_gap h p x);
    }

-- ---- the browser and readers

pub browser_op_sound : (r : Run) (o : BrowserOp) → Sound r → Quietly (do_browser r o)
unfolding do_browser do_ask got
browser_op_sound r (browsers.Ask t) k = record {
  chained = λ u f q. chained_on r.state.history (Asked t) u f (k.held.at u f q) refl (applied_pass-append r.state.history (Asked t) u) (k.chained u f q);
  lines = no_gap_push r.lines _ k.lines refl;
}
browser_op_sound r (browsers.Destroy t) k = record {
  chained = λ u f q. chained_on r.state.history (Ended t) u f (k.held.at u f q) refl (applied_pass-append r.state.history (Ended t) u) (k.chained u f q);
  lines = no_gap_push r.lines _ k.lines refl;
}
browser_op_sound r (browsers.Probe t x) k = record {
  chained = λ u f q. chained_on r.state.history (Probed t x) u f (k.held.at u f q) refl (applied_pass-append r.state.history (Probed t x) u) (k.chained u f q);
  lines = no_gap_push r.lines _ k.lines refl;
}

browser_sound : (r : Run) (os : List TimedOp) → Sound r → AllRun Quietly (do_next_browser r os)
browser_sound r [] k = tt
browser_sound r (o ∷ left) k = browser_op_sound (record r { state = record r.state { browser = left } }) o.op (record { held = k.held; chained = k.chained; lines = k.lines })

query_sound : (r : Run) (n : ℕ) (qs : List TimedQuery) → Sound r → AllRun Quietly (do_next_query r n qs)
unfolding do_query
query_sound r n [] k = tt
query_sound r n (q ∷ left) k = record { chained = k.chained; lines = no_gap_push r.lines _ k.lines refl }

reader_sound : (r : Run) (n : ℕ) → Sound r → AllRun Quietly (do_reader r n)
reader_sound r zero k = tt
reader_sound r (suc n) k = go (slice_get r.state.readers n)
  where
    go : (o : Option (List TimedQuery)) → AllRun Quietly (option_and_then (do_next_query r n) o)
    go None = tt
    go (Some qs) = query_sound r n qs k

-- ---- steps and runs

with_one : (o : Option FrameRun) (g : FrameRun → Option Run) → ((f : FrameRun) → o ≡ Some f → AllRun Quietly (g f)) → AllRun Quietly (option_and_then g o)
with_one None g h = tt
with_one (Some f) g h = h f refl

mapped_one : (o : Option FrameRun) (g : FrameRun → Run) → ((f : FrameRun) → o ≡ Some f → Quietly (g f)) → AllRun Quietly (option_map g o)
mapped_one None g h = tt
mapped_one (Some f) g h = h f refl

step_quietly : (r : Run) (i : Item) → IsAsked r i → Sound r → AllRun Quietly (step r i)
unfolding step find_frame
step_quietly r (items.Frame t) a k = with_one (find (of_tree t) r.state.frames) (λ f. do_next_op r f f.left) (λ f e. op_sound r f f.left (there t r.state.frames f e) k)
step_quietly r (items.Receive t) a k = with_one (find (of_tree t) r.state.frames) (λ f. do_oldest r f f.waiting) (λ f e. receipt_sound r f f.waiting refl (there t r.state.frames f e) k)
step_quietly r items.Browser a k = browser_sound r r.state.browser k
step_quietly r (items.Deliver t n) a k =
    mapped_one (find (of_tree t) r.state.frames) (λ f. do_deliver r f n.0)
    (λ f e. delivery_sound r f n.0 (subst (λ u. n.0 ≤ token_of r.state.history u) (sym (found_in t r.state.frames f e)) a) (there t r.state.frames f e) k)
step_quietly r (items.Reader n) a k = reader_sound r n k

step_sound : (r : Run) (i : Item) → IsAsked r i → Sound r → AllRun Sound (step r i)
step_sound r i a k = both_sound (step r i) (step_held r i k.held) (step_quietly r i a k)

then_sound : (o : List Item) (q : Option Run) → AllRun Sound q → ((r : Run) → q ≡ Some r → Sound r → AllRun Sound (run o r)) → AllRun Sound (option_and_then (run o) q)
then_sound o None k h = tt
then_sound o (Some r) k h = h r refl k

pub run_sound : (o : List Item) (r : Run) → TokensAsked o r → Sound r → AllRun Sound (run o r)
run_sound [] r a k = k
run_sound (i ∷ o) r a k = then_sound o (step r i) (step_sound r i a.0 k) (λ q e x. run_sound o q (a.1 q e) x)

start_chained : (t : ℕ) (f : FrameRun) → f.journal ≡ [] → Chained [] t f
unfolding got
start_chained t f e = record { low = subst (λ l. LowEntries (token_of [] t) l) (sym e) tt; last = tt }

begin_sound : (s : Script) → Sound (begin s)
unfolding begin start
begin_sound s = record { held = begin_held s; chained = λ t f e. start_chained t f (start_found s.frames t f e).0; lines = refl }

pub no_gaps : (s : Script) (o : List Item) (r : Run) → TokensAsked o (begin s) → run o (begin s) ≡ Some r → list_any is_gap r.lines ≡ false
no_gaps s o r a h =
    let k : AllRun Sound (Some r) = subst (λ q. AllRun Sound q) h (run_sound o (begin s) a (begin_sound s)) in k.lines
