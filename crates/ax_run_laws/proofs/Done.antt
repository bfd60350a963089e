-- After the finale's first step each frame's operations are done, and after its third the browser's.
use Rattle.std.proofs.Common.{ℕ, zero, suc, ◌+◌, ◌≡◌, ◌≤◌, ◌==◌, Bool, true, false, if◌then◌else◌, List, [], ◌∷◌, ◌++◌, length, map, find, flat_map, replicate, refl, ap, subst, Option, Some, None, arith, option_and_then, option_map}
use Rattle.std.proofs.lemmas.Bool.{eqb-true}
use Rattle.ax_ask.specs.declared.op.FrameOp.{FrameOp}
use Rattle.ax_ask.specs.declared.op.BrowserOp.{BrowserOp}
use Rattle.ax_ask.specs.declared.op.BrowserOp.TheVariants as browsers
use Rattle.ax_ask.specs.declared.op.TimedOp.{TimedOp}
use Rattle.ax_ask.specs.declared.op.Item.{Item}
use Rattle.ax_ask.specs.declared.op.Item.TheVariants as items
use Rattle.ax_rules.specs.Histories.{is_gone}
use Rattle.ax_run_rules.specs.States.{FrameRun, State, Run, find_frame, with_frame}
use Rattle.ax_run_rules.specs.FrameSteps.{do_op}
use Rattle.ax_run_rules.specs.Steps.{next_token, do_ask, do_browser, do_deliver, do_next_op, do_next_browser, step, run}
use Rattle.ax_run_rules.specs.Finale.{ops_left, delivery_of, serve}
use Rattle.ax_run_laws.proofs.Found.{of_tree, replaced, found_in, other_in, same_in}
use Rattle.ax_run_laws.proofs.Quiet.{AllRun, next, there, none_left}

-- ---- the frames' operations

abbrev left_of : Option FrameRun → ℕ
left_of None = 0
left_of (Some f) = length f.left

-- how many operations of a tree's frame are left
abbrev lefts : List FrameRun → ℕ → ℕ
lefts fs t = left_of (find (of_tree t) fs)

abbrev turns : ℕ → List Item → ℕ
turns t [] = 0
turns t (items.Frame u ∷ o) = (if u == t then 1 else 0) + turns t o
turns t (items.Receive u ∷ o) = turns t o
turns t (items.Browser ∷ o) = turns t o
turns t (items.Deliver u n ∷ o) = turns t o
turns t (items.Reader k ∷ o) = turns t o

abbrev AllTurns : List Item → Type 0
AllTurns [] = Unit {0}
AllTurns (items.Frame u ∷ o) = AllTurns o
AllTurns (items.Receive u ∷ o) = ⊥
AllTurns (items.Browser ∷ o) = ⊥
AllTurns (items.Deliver u n ∷ o) = ⊥
AllTurns (items.Reader k ∷ o) = ⊥

record Fewer (t n m : ℕ) (r : Run) : Type 0 where
  fewer : lefts r.state.frames t + n ≡ m

one_fewer : (fs : List FrameRun) (f g : FrameRun) (t : ℕ) → find (of_tree f.tree) fs ≡ Some g → length g.left ≡ suc (length f.left)
    → lefts (map (replaced f) fs) t + (if f.tree == t then 1 else 0) ≡ lefts fs t
one_fewer fs f g t found e = go (f.tree == t) refl
  where
    go : (b : Bool) → (f.tree == t) ≡ b → lefts (map (replaced f) fs) t + (if b then 1 else 0) ≡ lefts fs t
    go true h =
        subst (λ u. lefts (map (replaced f) fs) u + 1 ≡ lefts fs u) (eqb-true f.tree t h)
        (let new : lefts (map (replaced f) fs) f.tree ≡ length f.left = ap left_of (same_in f g fs found) in
        let old : lefts fs f.tree ≡ length g.left = ap left_of found in omega (arith, new, old, e))
    go false h = let same : lefts (map (replaced f) fs) t ≡ lefts fs t = ap left_of (other_in f t fs h) in omega (arith, same)

op_fewer : (r : Run) (f : FrameRun) (os : List FrameOp) (t : ℕ) → f.left ≡ os → find (of_tree f.tree) r.state.frames ≡ Some f
    → AllRun (Fewer t (if f.tree == t then 1 else 0) (lefts r.state.frames t)) (do_next_op r f os)
unfolding do_op with_frame
op_fewer r f [] t e found = tt
op_fewer r f (o ∷ left) t e found = record { fewer = one_fewer r.state.frames _ f t found (ap length e) }

turn_fewer : (r : Run) (u t : ℕ) (o : Option FrameRun) → find (of_tree u) r.state.frames ≡ o
    → AllRun (Fewer t (if u == t then 1 else 0) (lefts r.state.frames t)) (option_and_then (λ (f : FrameRun). do_next_op r f f.left) o)
turn_fewer r u t None e = tt
turn_fewer r u t (Some f) e =
    subst (λ v. AllRun (Fewer t (if v == t then 1 else 0) (lefts r.state.frames t)) (do_next_op r f f.left)) (found_in u r.state.frames f e)
    (op_fewer r f f.left t refl (there u r.state.frames f e))

step_fewer : (r : Run) (u t : ℕ) → AllRun (Fewer t (if u == t then 1 else 0) (lefts r.state.frames t)) (step r (items.Frame u))
unfolding step find_frame
step_fewer r u t = turn_fewer r u t (find (of_tree u) r.state.frames) refl

and_fewer : (t n k m : ℕ) (r : Run) (o : Option Run) → Fewer t n m r → AllRun (Fewer t k (lefts r.state.frames t)) o → AllRun (Fewer t (n + k) m) o
and_fewer t n k m r None h g = tt
and_fewer t n k m r (Some q) h g = record { fewer = omega (arith, h.fewer, g.fewer) }

run_fewer : (o : List Item) → AllTurns o → (r : Run) (t : ℕ) → AllRun (Fewer t (turns t o) (lefts r.state.frames t)) (run o r)
run_fewer [] a r t = record { fewer = omega arith }
run_fewer (items.Frame u ∷ o) a r t =
    next (Fewer t (if u == t then 1 else 0) (lefts r.state.frames t)) (Fewer t ((if u == t then 1 else 0) + turns t o) (lefts r.state.frames t)) (run o)
    (λ q k. and_fewer t (if u == t then 1 else 0) (turns t o) (lefts r.state.frames t) q (run o q) k (run_fewer o a q t)) (step r (items.Frame u)) (step_fewer r u t)
run_fewer (items.Receive u ∷ o) a r t = absurd a
run_fewer (items.Browser ∷ o) a r t = absurd a
run_fewer (items.Deliver u n ∷ o) a r t = absurd a
run_fewer (items.Reader k ∷ o) a r t = absurd a

turns_both : (xs ys : List Item) → AllTurns xs → AllTurns ys → AllTurns (xs ++ ys)
turns_both [] ys a b = b
turns_both (items.Frame u ∷ xs) ys a b = turns_both xs ys a b
turns_both (items.Receive u ∷ xs) ys a b = absurd a
turns_both (items.Browser ∷ xs) ys a b = absurd a
turns_both (items.Deliver u n ∷ xs) ys a b = absurd a
turns_both (items.Reader k ∷ xs) ys a b = absurd a

turns-append : (t : ℕ) (xs ys : List Item) → turns t (xs ++ ys) ≡ turns t xs + turns t ys
turns-append t [] ys = omega arith
turns-append t (items.Frame u ∷ xs) ys = let h = turns-append t xs ys in omega (arith, h)
turns-append t (items.Receive u ∷ xs) ys = turns-append t xs ys
turns-append t (items.Browser ∷ xs) ys = turns-append t xs ys
turns-append t (items.Deliver u n ∷ xs) ys = turns-append t xs ys
turns-append t (items.Reader k ∷ xs) ys = turns-append t xs ys

same_turns : (n u : ℕ) → AllTurns (replicate n (items.Frame u))
same_turns zero u = tt
same_turns (suc n) u = same_turns n u

count_turns : (n u t : ℕ) → (u == t) ≡ true → turns t (replicate n (items.Frame u)) ≡ n
count_turns zero u t e = refl
count_turns (suc n) u t e = let h = count_turns n u t e in rw e (omega (arith, h))

abbrev turns_of : FrameRun → List Item
turns_of f = replicate (length f.left) (items.Frame f.tree)

all_turns : (fs : List FrameRun) → AllTurns (flat_map turns_of fs)
all_turns [] = tt
all_turns (f ∷ fs) = turns_both (turns_of f) (flat_map turns_of fs) (same_turns (length f.left) f.tree) (all_turns fs)

enough_turns : (t : ℕ) (fs : List FrameRun) → lefts fs t ≤ turns t (flat_map turns_of fs)
enough_turns t [] = omega arith
enough_turns t (f ∷ fs) = go (f.tree == t) refl (enough_turns t fs)
  where
    go : (b : Bool) → (f.tree == t) ≡ b → lefts fs t ≤ turns t (flat_map turns_of fs)
        → left_of (if b then Some f else find (of_tree t) fs) ≤ turns t (turns_of f ++ flat_map turns_of fs)
    go true e h = let s = turns-append t (turns_of f) (flat_map turns_of fs) in let c = count_turns (length f.left) f.tree t e in omega (arith, s, c)
    go false e h = let s = turns-append t (turns_of f) (flat_map turns_of fs) in omega (arith, s, h)

pub record AllDone (r : Run) : Type 0 where
  pub at : (t : ℕ) (f : FrameRun) → find (of_tree t) r.state.frames ≡ Some f → f.left ≡ []

done_where_fewer : (o : Option Run) (fs : List FrameRun) (n : ℕ → ℕ) → ((t : ℕ) → lefts fs t ≤ n t) → ((t : ℕ) → AllRun (Fewer t (n t) (lefts fs t)) o) → AllRun AllDone o
done_where_fewer None fs n enough h = tt
done_where_fewer (Some r) fs n enough h = record {
  at = λ t f e.
      let k = h t in let m = enough t in let w : lefts r.state.frames t ≡ length f.left = ap left_of e in none_left f.left (omega (arith, k.fewer, m, w));
}

pub ops_done : (r : Run) → AllRun AllDone (run (ops_left r.state) r)
unfolding ops_left
ops_done r =
    done_where_fewer (run (flat_map turns_of r.state.frames) r) r.state.frames (λ t. turns t (flat_map turns_of r.state.frames)) (λ t. enough_turns t r.state.frames)
    (λ t. run_fewer (flat_map turns_of r.state.frames) (all_turns r.state.frames) r t)

-- ---- the browser's operations

record Left (os : List TimedOp) (r : Run) : Type 0 where
  left : r.state.browser ≡ os

browser_op_left : (r : Run) (o : BrowserOp) → Left r.state.browser (do_browser r o)
unfolding do_browser do_ask
browser_op_left r (browsers.Ask t) = record { left = refl }
browser_op_left r (browsers.Destroy t) = record { left = refl }
browser_op_left r (browsers.Probe t u) = record { left = refl }

next_left : (r : Run) (o : TimedOp) (left bs : List TimedOp) → bs ≡ o ∷ left → AllRun (Left left) (do_next_browser r bs)
next_left r o left [] e = absurd (cc)
next_left r o left (b ∷ bs) e =
    let same : bs ≡ left = cc in subst (λ l. Left l (do_browser (record r { state = record r.state { browser = bs } }) b.op)) same (browser_op_left (record r { state = record r.state { browser = bs } }) b.op)

delivery_left : (r : Run) (n : ℕ) (os : List TimedOp) (f : Option FrameRun) → Left os r → AllRun (Left os) (option_map (λ g. do_deliver r g n) f)
unfolding do_deliver with_frame
delivery_left r n os None k = tt
delivery_left r n os (Some f) k = record { left = k.left }

deliver_left : (r : Run) (t n : ℕ) (os : List TimedOp) → Left os r → AllRun (Left os) (run (items.Deliver t (record { 0 = n }) ∷ []) r)
unfolding step find_frame
deliver_left r t n os k =
    next (Left os) (Left os) (run []) (λ q x. x) (option_map (λ g. do_deliver r g n) (find (of_tree t) r.state.frames)) (delivery_left r n os (find (of_tree t) r.state.frames) k)

deliveries_left : (s : State) (o : BrowserOp) (os : List TimedOp) (r : Run) → Left os r → AllRun (Left os) (run (delivery_of s o) r)
deliveries_left s (browsers.Ask t) os r k = go (is_gone s.history t)
  where
    go : (b : Bool) → AllRun (Left os) (run (if b then [] else items.Deliver t (record { 0 = next_token s.history t }) ∷ []) r)
    go true = k
    go false = deliver_left r t (next_token s.history t) os k
deliveries_left s (browsers.Destroy t) os r k = k
deliveries_left s (browsers.Probe t u) os r k = k

one_served : (r : Run) (o : TimedOp) (left : List TimedOp) → Left (o ∷ left) r → AllRun (Left left) (run (items.Browser ∷ delivery_of r.state o.op) r)
unfolding step
one_served r o left k =
    next (Left left) (Left left) (run (delivery_of r.state o.op)) (λ q x. deliveries_left r.state o.op left q x) (do_next_browser r r.state.browser) (next_left r o left r.state.browser k.left)

served : (os : List TimedOp) (r : Run) → Left os r → AllRun (Left []) (serve os r)
served [] r k = k
served (o ∷ left) r k = next (Left left) (Left []) (serve left) (λ q x. served left q x) (run (items.Browser ∷ delivery_of r.state o.op) r) (one_served r o left k)

pub record NoneLeft (r : Run) : Type 0 where
  pub none : r.state.browser ≡ []

as_none : (o : Option Run) → AllRun (Left []) o → AllRun NoneLeft o
as_none None k = tt
as_none (Some r) k = record { none = k.left }

pub browser_done : (r : Run) → AllRun NoneLeft (serve r.state.browser r)
browser_done r = as_none (serve r.state.browser r) (served r.state.browser r (record { left = refl }))
