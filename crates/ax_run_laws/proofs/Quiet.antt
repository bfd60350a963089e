-- When all packets of a run are received: after the receipts of all that wait, and from then on until a frame passes.
use Rattle.std.proofs.Common.{ℕ, zero, suc, ◌+◌, ◌≡◌, ◌≤◌, ◌==◌, Bool, true, false, if◌then◌else◌, List, [], ◌∷◌, ◌++◌, length, map, find, flat_map, replicate, refl, ap, ◌∙◌, subst, Option, Some, None, arith, option_and_then, option_map, slice_get}
use Rattle.std.proofs.lemmas.Bool.{eqb-true}
use Rattle.ax_tree.specs.declared.packet.Packet.{Packet}
use Rattle.ax_ask.specs.declared.op.BrowserOp.{BrowserOp}
use Rattle.ax_ask.specs.declared.op.BrowserOp.TheVariants as browsers
use Rattle.ax_ask.specs.declared.op.TimedOp.{TimedOp}
use Rattle.ax_ask.specs.declared.op.Item.{Item}
use Rattle.ax_ask.specs.declared.op.Item.TheVariants as items
use Rattle.ax_ask.specs.declared.query.TimedQuery.{TimedQuery}
use Rattle.ax_rules.specs.Histories.{is_gone}
use Rattle.ax_run_rules.specs.States.{FrameRun, State, Run, find_frame, with_frame}
use Rattle.ax_run_rules.specs.Steps.{next_token, do_receive, do_ask, do_browser, do_deliver, do_query, do_oldest, do_next_browser, do_next_query, do_reader, step, run}
use Rattle.ax_run_rules.specs.Finale.{packets_left, delivery_of, serve}
use Rattle.ax_run_laws.proofs.Found.{of_tree, replaced, found_in, other_in, same_in, each_found}
use Rattle.ax_run_laws.proofs.Held.{Held, AllHeld, step_held, run_held}

-- where there is a run, P holds of it
abbrev pub AllRun : (Run → Type 0) → Option Run → Type 0
AllRun P None = Unit {0}
AllRun P (Some r) = P r

pub next : (P Q : Run → Type 0) (g : Run → Option Run) → ((r : Run) → P r → AllRun Q (g r)) → (o : Option Run) → AllRun P o → AllRun Q (option_and_then g o)
next P Q g h None p = tt
next P Q g h (Some r) p = h r p

pub record Quiet (fs : List FrameRun) : Type 0 where
  pub at : (t : ℕ) (f : FrameRun) → find (of_tree t) fs ≡ Some f → f.waiting ≡ []

pub quiet_with : (fs : List FrameRun) (f g : FrameRun) → Quiet fs → find (of_tree f.tree) fs ≡ Some g → f.waiting ≡ [] → Quiet (map (replaced f) fs)
quiet_with fs f g q found e = record { at = each_found (λ t x. x.waiting ≡ []) f g fs found e (λ t x n k. q.at t x k) }

-- all is received, and what was received is of the journals
pub record Calm (r : Run) : Type 0 where
  pub held : Held r.state.frames r.state.history
  pub quiet : Quiet r.state.frames

abbrev AllQuiet : Option Run → Type 0
AllQuiet None = Unit {0}
AllQuiet (Some r) = Quiet r.state.frames

both_calm : (o : Option Run) → AllHeld o → AllQuiet o → AllRun Calm o
both_calm None h q = tt
both_calm (Some r) h q = record { held = h; quiet = q }

-- ---- steps that send nothing

abbrev pub SendsNothing : Item → Type 0
SendsNothing (items.Frame t) = ⊥
SendsNothing (items.Receive t) = Unit {0}
SendsNothing items.Browser = Unit {0}
SendsNothing (items.Deliver t n) = Unit {0}
SendsNothing (items.Reader k) = Unit {0}

found_quiet : (r : Run) (o : Option FrameRun) (g : FrameRun → Option Run) → ((f : FrameRun) → o ≡ Some f → AllQuiet (g f)) → AllQuiet (option_and_then g o)
found_quiet r None g h = tt
found_quiet r (Some f) g h = h f refl

found_quiet_too : (r : Run) (o : Option FrameRun) (g : FrameRun → Run) → ((f : FrameRun) → o ≡ Some f → AllQuiet (Some (g f))) → AllQuiet (option_map g o)
found_quiet_too r None g h = tt
found_quiet_too r (Some f) g h = h f refl

nothing_oldest : (r : Run) (f : FrameRun) (ps : List Packet) → ps ≡ [] → AllQuiet (do_oldest r f ps)
nothing_oldest r f [] e = tt
nothing_oldest r f (p ∷ ps) e = absurd (cc)

browser_op_quiet : (r : Run) (o : BrowserOp) → Quiet r.state.frames → Quiet (do_browser r o).state.frames
unfolding do_browser do_ask
browser_op_quiet r (browsers.Ask t) q = q
browser_op_quiet r (browsers.Destroy t) q = q
browser_op_quiet r (browsers.Probe t u) q = q

browser_quiet : (r : Run) (os : List TimedOp) → Quiet r.state.frames → AllQuiet (do_next_browser r os)
browser_quiet r [] q = tt
browser_quiet r (o ∷ left) q = browser_op_quiet (record r { state = record r.state { browser = left } }) o.op q

pub there : (t : ℕ) (fs : List FrameRun) (f : FrameRun) → find (of_tree t) fs ≡ Some f → find (of_tree f.tree) fs ≡ Some f
there t fs f e = ap (λ u. find (of_tree u) fs) (found_in t fs f e) ∙ e

delivery_quiet : (r : Run) (f : FrameRun) (t n : ℕ) → find (of_tree t) r.state.frames ≡ Some f → Quiet r.state.frames → Quiet (do_deliver r f n).state.frames
unfolding do_deliver with_frame
delivery_quiet r f t n e q = quiet_with r.state.frames (record f { journal = _ }) f q (there t r.state.frames f e) (q.at t f e)

query_quiet : (r : Run) (k : ℕ) (qs : List TimedQuery) → Quiet r.state.frames → AllQuiet (do_next_query r k qs)
unfolding do_query
query_quiet r k [] q = tt
query_quiet r k (x ∷ left) q = q

reader_quiet : (r : Run) (k : ℕ) → Quiet r.state.frames → AllQuiet (do_reader r k)
reader_quiet r zero q = tt
reader_quiet r (suc k) q = go (slice_get r.state.readers k)
  where
    go : (o : Option (List TimedQuery)) → AllQuiet (option_and_then (do_next_query r k) o)
    go None = tt
    go (Some qs) = query_quiet r k qs q

step_quiet : (r : Run) (i : Item) → SendsNothing i → Quiet r.state.frames → AllQuiet (step r i)
unfolding step find_frame
step_quiet r (items.Frame t) n q = absurd n
step_quiet r (items.Receive t) n q = found_quiet r (find (of_tree t) r.state.frames) (λ f. do_oldest r f f.waiting) (λ f e. nothing_oldest r f f.waiting (q.at t f e))
step_quiet r items.Browser n q = browser_quiet r r.state.browser q
step_quiet r (items.Deliver t m) n q = found_quiet_too r (find (of_tree t) r.state.frames) (λ f. do_deliver r f m.0) (λ f e. delivery_quiet r f t m.0 e q)
step_quiet r (items.Reader k) n q = reader_quiet r k q

pub step_calm : (r : Run) (i : Item) → SendsNothing i → Calm r → AllRun Calm (step r i)
step_calm r i n c = both_calm (step r i) (step_held r i c.held) (step_quiet r i n c.quiet)

abbrev pub AllSendNothing : List Item → Type 0
AllSendNothing [] = Unit {0}
AllSendNothing (i ∷ o) = SendsNothing i × AllSendNothing o

pub run_calm : (o : List Item) → AllSendNothing o → (r : Run) → Calm r → AllRun Calm (run o r)
run_calm [] n r c = c
run_calm (i ∷ o) n r c = next Calm Calm (run o) (λ q k. run_calm o n.1 q k) (step r i) (step_calm r i n.0 c)

-- ---- the browser's operations with their deliveries

delivery_sends_nothing : (s : State) (o : BrowserOp) → AllSendNothing (items.Browser ∷ delivery_of s o)
delivery_sends_nothing s (browsers.Ask t) = (tt, go (is_gone s.history t))
  where
    go : (b : Bool) → AllSendNothing (if b then [] else items.Deliver t (record { 0 = next_token s.history t }) ∷ [])
    go true = tt
    go false = (tt, tt)
delivery_sends_nothing s (browsers.Destroy t) = (tt, tt)
delivery_sends_nothing s (browsers.Probe t u) = (tt, tt)

pub serve_calm : (os : List TimedOp) (r : Run) → Calm r → AllRun Calm (serve os r)
serve_calm [] r c = c
serve_calm (o ∷ left) r c =
    next Calm Calm (serve left) (λ q k. serve_calm left q k) (run (items.Browser ∷ delivery_of r.state o.op) r)
    (run_calm (items.Browser ∷ delivery_of r.state o.op) (delivery_sends_nothing r.state o.op) r c)

-- ---- the receipts of all that wait

abbrev waits_of : Option FrameRun → ℕ
waits_of None = 0
waits_of (Some f) = length f.waiting

-- how many packets of a tree wait
abbrev waits : List FrameRun → ℕ → ℕ
waits fs t = waits_of (find (of_tree t) fs)

abbrev receives : ℕ → List Item → ℕ
receives t [] = 0
receives t (items.Frame u ∷ o) = receives t o
receives t (items.Receive u ∷ o) = (if u == t then 1 else 0) + receives t o
receives t (items.Browser ∷ o) = receives t o
receives t (items.Deliver u n ∷ o) = receives t o
receives t (items.Reader k ∷ o) = receives t o

abbrev AllReceive : List Item → Type 0
AllReceive [] = Unit {0}
AllReceive (items.Frame u ∷ o) = ⊥
AllReceive (items.Receive u ∷ o) = AllReceive o
AllReceive (items.Browser ∷ o) = ⊥
AllReceive (items.Deliver u n ∷ o) = ⊥
AllReceive (items.Reader k ∷ o) = ⊥

record Fewer (t n m : ℕ) (r : Run) : Type 0 where
  fewer : waits r.state.frames t + n ≡ m

one_fewer : (fs : List FrameRun) (f g : FrameRun) (t : ℕ) → find (of_tree f.tree) fs ≡ Some g → length g.waiting ≡ suc (length f.waiting)
    → waits (map (replaced f) fs) t + (if f.tree == t then 1 else 0) ≡ waits fs t
one_fewer fs f g t found e = go (f.tree == t) refl
  where
    go : (b : Bool) → (f.tree == t) ≡ b → waits (map (replaced f) fs) t + (if b then 1 else 0) ≡ waits fs t
    go true h =
        subst (λ u. waits (map (replaced f) fs) u + 1 ≡ waits fs u) (eqb-true f.tree t h)
        (let new : waits (map (replaced f) fs) f.tree ≡ length f.waiting = ap waits_of (same_in f g fs found) in
        let old : waits fs f.tree ≡ length g.waiting = ap waits_of found in omega (arith, new, old, e))
    go false h = let same : waits (map (replaced f) fs) t ≡ waits fs t = ap waits_of (other_in f t fs h) in omega (arith, same)

oldest_fewer : (r : Run) (f : FrameRun) (ps : List Packet) (t : ℕ) → f.waiting ≡ ps → find (of_tree f.tree) r.state.frames ≡ Some f
    → AllRun (Fewer t (if f.tree == t then 1 else 0) (waits r.state.frames t)) (do_oldest r f ps)
unfolding do_receive with_frame
oldest_fewer r f [] t e found = tt
oldest_fewer r f (p ∷ ps) t e found = record { fewer = one_fewer r.state.frames (record f { waiting = ps }) f t found (ap length e) }

receive_fewer : (r : Run) (u t : ℕ) (o : Option FrameRun) → find (of_tree u) r.state.frames ≡ o
    → AllRun (Fewer t (if u == t then 1 else 0) (waits r.state.frames t)) (option_and_then (λ (f : FrameRun). do_oldest r f f.waiting) o)
receive_fewer r u t None e = tt
receive_fewer r u t (Some f) e =
    subst (λ v. AllRun (Fewer t (if v == t then 1 else 0) (waits r.state.frames t)) (do_oldest r f f.waiting)) (found_in u r.state.frames f e)
    (oldest_fewer r f f.waiting t refl (there u r.state.frames f e))

step_fewer : (r : Run) (u t : ℕ) → AllRun (Fewer t (if u == t then 1 else 0) (waits r.state.frames t)) (step r (items.Receive u))
unfolding step find_frame
step_fewer r u t = receive_fewer r u t (find (of_tree u) r.state.frames) refl

and_fewer : (t n k m : ℕ) (r : Run) (o : Option Run) → Fewer t n m r → AllRun (Fewer t k (waits r.state.frames t)) o → AllRun (Fewer t (n + k) m) o
and_fewer t n k m r None h g = tt
and_fewer t n k m r (Some q) h g = record { fewer = omega (arith, h.fewer, g.fewer) }

run_fewer : (o : List Item) → AllReceive o → (r : Run) (t : ℕ) → AllRun (Fewer t (receives t o) (waits r.state.frames t)) (run o r)
run_fewer [] a r t = record { fewer = omega arith }
run_fewer (items.Frame u ∷ o) a r t = absurd a
run_fewer (items.Receive u ∷ o) a r t =
    next (Fewer t (if u == t then 1 else 0) (waits r.state.frames t)) (Fewer t ((if u == t then 1 else 0) + receives t o) (waits r.state.frames t)) (run o)
    (λ q k. and_fewer t (if u == t then 1 else 0) (receives t o) (waits r.state.frames t) q (run o q) k (run_fewer o a q t)) (step r (items.Receive u)) (step_fewer r u t)
run_fewer (items.Browser ∷ o) a r t = absurd a
run_fewer (items.Deliver u n ∷ o) a r t = absurd a
run_fewer (items.Reader k ∷ o) a r t = absurd a

all_receive_both : (xs ys : List Item) → AllReceive xs → AllReceive ys → AllReceive (xs ++ ys)
all_receive_both [] ys a b = b
all_receive_both (items.Frame u ∷ xs) ys a b = absurd a
all_receive_both (items.Receive u ∷ xs) ys a b = all_receive_both xs ys a b
all_receive_both (items.Browser ∷ xs) ys a b = absurd a
all_receive_both (items.Deliver u n ∷ xs) ys a b = absurd a
all_receive_both (items.Reader k ∷ xs) ys a b = absurd a

receives_both : (t : ℕ) (xs ys : List Item) → receives t (xs ++ ys) ≡ receives t xs + receives t ys
receives_both t [] ys = omega arith
receives_both t (items.Frame u ∷ xs) ys = receives_both t xs ys
receives_both t (items.Receive u ∷ xs) ys = let h = receives_both t xs ys in omega (arith, h)
receives_both t (items.Browser ∷ xs) ys = receives_both t xs ys
receives_both t (items.Deliver u n ∷ xs) ys = receives_both t xs ys
receives_both t (items.Reader k ∷ xs) ys = receives_both t xs ys

same_receipts : (n u : ℕ) → AllReceive (replicate n (items.Receive u))
same_receipts zero u = tt
same_receipts (suc n) u = same_receipts n u

count_receipts : (n u t : ℕ) → (u == t) ≡ true → receives t (replicate n (items.Receive u)) ≡ n
count_receipts zero u t e = refl
count_receipts (suc n) u t e = let h = count_receipts n u t e in rw e (omega (arith, h))

abbrev receipts_of : FrameRun → List Item
receipts_of f = replicate (length f.waiting) (items.Receive f.tree)

left_receive : (fs : List FrameRun) → AllReceive (flat_map receipts_of fs)
left_receive [] = tt
left_receive (f ∷ fs) = all_receive_both (receipts_of f) (flat_map receipts_of fs) (same_receipts (length f.waiting) f.tree) (left_receive fs)

left_enough : (t : ℕ) (fs : List FrameRun) → waits fs t ≤ receives t (flat_map receipts_of fs)
left_enough t [] = omega arith
left_enough t (f ∷ fs) = go (f.tree == t) refl (left_enough t fs)
  where
    go : (b : Bool) → (f.tree == t) ≡ b → waits fs t ≤ receives t (flat_map receipts_of fs)
        → waits_of (if b then Some f else find (of_tree t) fs) ≤ receives t (receipts_of f ++ flat_map receipts_of fs)
    go true e h = let s = receives_both t (receipts_of f) (flat_map receipts_of fs) in let c = count_receipts (length f.waiting) f.tree t e in omega (arith, s, c)
    go false e h = let s = receives_both t (receipts_of f) (flat_map receipts_of fs) in omega (arith, s, h)

pub none_left : {A : Type 0} (xs : List A) → length xs ≡ 0 → xs ≡ []
none_left [] e = refl
none_left (x ∷ xs) e = absurd (cc)

quiet_where_fewer : (o : Option Run) (fs : List FrameRun) (n : ℕ → ℕ) → ((t : ℕ) → waits fs t ≤ n t) → ((t : ℕ) → AllRun (Fewer t (n t) (waits fs t)) o) → AllQuiet o
quiet_where_fewer None fs n enough h = tt
quiet_where_fewer (Some r) fs n enough h = record {
  at = λ t f e.
      let k = h t in let m = enough t in let w : waits r.state.frames t ≡ length f.waiting = ap waits_of e in none_left f.waiting (omega (arith, k.fewer, m, w));
}

-- once the packets that wait are received, none does
pub packets_calm : (r : Run) → Held r.state.frames r.state.history → AllRun Calm (run (packets_left r.state) r)
unfolding packets_left
packets_calm r h =
    both_calm (run (flat_map receipts_of r.state.frames) r) (run_held (flat_map receipts_of r.state.frames) r h)
    (quiet_where_fewer (run (flat_map receipts_of r.state.frames) r) r.state.frames (λ t. receives t (flat_map receipts_of r.state.frames)) (λ t. left_enough t r.state.frames)
    (λ t. run_fewer (flat_map receipts_of r.state.frames) (left_receive r.state.frames) r t))
