-- The browser's operations are there, each with its delivery.
use Rattle.std.proofs.Common.{ℕ, ◌≡◌, Bool, true, false, if◌then◌else◌, List, [], ◌∷◌, find, refl, sym, ap, ◌∙◌, subst, Some, option_map}
use Rattle.ax_trees.specs.Lists.{contains}
use Rattle.ax_ask.specs.declared.op.BrowserOp.{BrowserOp}
use Rattle.ax_ask.specs.declared.op.BrowserOp.TheVariants as browsers
use Rattle.ax_ask.specs.declared.op.TimedOp.{TimedOp}
use Rattle.ax_ask.specs.declared.op.Item.TheVariants as items
use Rattle.ax_rules.specs.Histories.{is_gone}
use Rattle.ax_run_rules.specs.States.{FrameRun, State, Run, find_frame, with_frame}
use Rattle.ax_run_rules.specs.Steps.{next_token, do_ask, do_browser, do_deliver, do_next_browser, step, run}
use Rattle.ax_run_rules.specs.Finale.{delivery_of, serve}
use Rattle.ax_run_laws.proofs.Found.{of_tree}
use Rattle.ax_run_laws.proofs.Kept.{KeepsRuns, Kept, step_kept}
use Rattle.ax_ask.specs.Calls.{tree_of, AllNamed}
use Rattle.ax_finale_laws.proofs.Ends.{Ends, onward, joined, has_frame}

-- what each step keeps: the trees, and that the browser's operations are at them
abbrev pub AnyFrame : ℕ → FrameRun → Type 0
AnyFrame t f = Unit {0}

pub any_keeps : (B : List TimedOp → Type 0) → ((o : TimedOp) (left : List TimedOp) → B (o ∷ left) → B left) → KeepsRuns AnyFrame B
any_keeps B b = record {
  op = λ t f o left ps l h. tt;
  pass = λ t f ps h. tt;
  receipt = λ t f ps h. tt;
  delivery = λ t f n h. tt;
  browser = b;
}

pub named_keeps : (ts : List ℕ) → KeepsRuns AnyFrame (AllNamed ts)
named_keeps ts = any_keeps (AllNamed ts) (λ o left b. b.1)

record Left (os : List TimedOp) (r : Run) : Type 0 where
  left : r.state.browser ≡ os

op_left : (r : Run) (o : BrowserOp) → Left r.state.browser (do_browser r o)
unfolding do_browser do_ask
op_left r (browsers.Ask t) = record { left = refl }
op_left r (browsers.Destroy t) = record { left = refl }
op_left r (browsers.Probe t u) = record { left = refl }

next_left : (r : Run) (o : TimedOp) (left bs : List TimedOp) → bs ≡ o ∷ left → Ends (Left left) (do_next_browser r bs)
next_left r o left [] e = absurd (cc)
next_left r o left (b ∷ bs) e =
    let same : bs ≡ left = cc in
    subst (λ l. Left l (do_browser (record r { state = record r.state { browser = bs } }) b.op)) same (op_left (record r { state = record r.state { browser = bs } }) b.op)

delivered_left : (r : Run) (f : FrameRun) (n : ℕ) (os : List TimedOp) → Left os r → Left os (do_deliver r f n)
unfolding do_deliver with_frame
delivered_left r f n os k = record { left = k.left }

delivery_left : (r : Run) (t n : ℕ) (os : List TimedOp) (f : FrameRun) → find (of_tree t) r.state.frames ≡ Some f → Left os r → Ends (Left os) (step r (items.Deliver t (record { 0 = n })))
unfolding step find_frame
delivery_left r t n os f found k = subst (λ o. Ends (Left os) (option_map (λ (g : FrameRun). do_deliver r g n) o)) (sym found) (delivered_left r f n os k)

module _ (d : ℕ → Bool) (ts : List ℕ) where
  abbrev K : Run → Type 0
  K r = Kept AnyFrame (AllNamed ts) d ts r

  record Serving (os : List TimedOp) (r : Run) : Type 0 where
    at : Left os r
    kept : K r

  serving : (os : List TimedOp) (r : Run) → Left os r → K r → Serving os r
  serving os r a k = record { at = a; kept = k }

  deliver_there : (r : Run) (t n : ℕ) (os : List TimedOp) → contains ts t ≡ true → Serving os r → Ends (Serving os) (run (items.Deliver t (record { 0 = n }) ∷ []) r)
  deliver_there r t n os c s =
      let x = has_frame t r.state.frames (ap (λ l. contains l t) s.kept.trees ∙ c) in
      onward (Serving os) (Serving os) (run []) (λ q k. k) (step r (items.Deliver t (record { 0 = n })))
      (joined (Left os) K (Serving os) (serving os) (step r (items.Deliver t (record { 0 = n }))) (delivery_left r t n os x.0 x.1 s.at)
      (step_kept AnyFrame (AllNamed ts) d ts (named_keeps ts) r (items.Deliver t (record { 0 = n })) s.kept))

  deliveries_there : (s : State) (o : BrowserOp) (os : List TimedOp) (r : Run) → contains ts (tree_of o) ≡ true → Serving os r → Ends (Serving os) (run (delivery_of s o) r)
  deliveries_there s (browsers.Ask t) os r c k = go (is_gone s.history t)
    where
      go : (b : Bool) → Ends (Serving os) (run (if b then [] else items.Deliver t (record { 0 = next_token s.history t }) ∷ []) r)
      go true = k
      go false = deliver_there r t (next_token s.history t) os c k
  deliveries_there s (browsers.Destroy t) os r c k = k
  deliveries_there s (browsers.Probe t u) os r c k = k

  browser_there : (r : Run) (o : TimedOp) (left : List TimedOp) → Serving (o ∷ left) r → Ends (Left left) (step r items.Browser)
  unfolding step
  browser_there r o left s = next_left r o left r.state.browser s.at.left

  one_there : (r : Run) (o : TimedOp) (left : List TimedOp) → Serving (o ∷ left) r → Ends (Serving left) (run (items.Browser ∷ delivery_of r.state o.op) r)
  one_there r o left s =
      let own : AllNamed ts (o ∷ left) = subst (AllNamed ts) s.at.left s.kept.browser in
      onward (Serving left) (Serving left) (run (delivery_of r.state o.op)) (λ q k. deliveries_there r.state o.op left q own.0 k) (step r items.Browser)
      (joined (Left left) K (Serving left) (serving left) (step r items.Browser) (browser_there r o left s) (step_kept AnyFrame (AllNamed ts) d ts (named_keeps ts) r items.Browser s.kept))

  all_there : (os : List TimedOp) (r : Run) → Serving os r → Ends K (serve os r)
  all_there [] r s = s.kept
  all_there (o ∷ left) r s = onward (Serving left) K (serve left) (λ q k. all_there left q k) (run (items.Browser ∷ delivery_of r.state o.op) r) (one_there r o left s)

  pub serve_there : (r : Run) → K r → Ends K (serve r.state.browser r)
  serve_there r k = all_there r.state.browser r (record { at = record { left = refl }; kept = k })
