-- What each step of a run and of its finale keeps, whatever the property: of each frame, of the browser's list, of which trees have ended, and of the order of trees.
use Rattle.std.proofs.Common.{ℕ, zero, suc, ◌≡◌, ◌==◌, Bool, true, false, ◌||◌, if◌then◌else◌, List, [], ◌∷◌, ◌++◌, map, find, refl, sym, ap, ◌∙◌, subst, Option, Some, None, option_and_then, option_map, slice_get}
use Rattle.std.proofs.lemmas.Bool.{eqb-true}
use Rattle.ax_tree.specs.declared.packet.Packet.{Packet}
use Rattle.ax_tree.specs.declared.packet.JEntry.TheVariants as entries
use Rattle.ax_tree.specs.declared.packet.HEntry.{HEntry}
use Rattle.ax_tree.specs.declared.packet.HEntry.TheVariants.{Got, Asked, Ended, Probed}
use Rattle.ax_ask.specs.declared.op.FrameOp.{FrameOp}
use Rattle.ax_ask.specs.declared.op.FrameOp.TheVariants as ops
use Rattle.ax_ask.specs.declared.op.BrowserOp.{BrowserOp}
use Rattle.ax_ask.specs.declared.op.BrowserOp.TheVariants as browsers
use Rattle.ax_ask.specs.declared.op.TimedOp.{TimedOp}
use Rattle.ax_ask.specs.declared.op.Item.{Item}
use Rattle.ax_ask.specs.declared.op.Item.TheVariants as items
use Rattle.ax_ask.specs.declared.query.TimedQuery.{TimedQuery}
use Rattle.ax_rules.specs.Histories.{is_gone, ends}
use Rattle.ax_run_rules.specs.States.{FrameRun, Run, trees_of, find_frame, with_frame}
use Rattle.ax_run_rules.specs.FrameSteps.{entry_of, do_op}
use Rattle.ax_run_rules.specs.Steps.{next_token, do_receive, do_ask, do_browser, do_deliver, do_query, do_next_op, do_oldest, do_next_browser, do_next_query, do_reader, step, run}
use Rattle.ax_run_rules.specs.Finale.{delivery_of, serve, is_behind, pass_of, refresh, refresh_if, catch_up}
use Rattle.ax_rules.proofs.Appends.{is_gone-append}
use Rattle.ax_run_laws.specs.Laws.{destroys, is_destroyed}
use Rattle.ax_run_laws.proofs.Found.{of_tree, replaced, found_in, each_found}
use Rattle.ax_run_laws.proofs.Quiet.{AllRun, next}

-- a property of a tree's frame that each step keeps, and one of the browser's list
pub record KeepsRuns (P : ℕ → FrameRun → Type 0) (B : List TimedOp → Type 0) : Type 0 where
  pub op : (t : ℕ) (f : FrameRun) (o : FrameOp) (left : List FrameOp) (ps : List Packet) → f.left ≡ o ∷ left → P t f
      → P t (record { tree = f.tree; left = left; journal = f.journal ++ entry_of o ∷ []; waiting = ps })
  pub pass : (t : ℕ) (f : FrameRun) (ps : List Packet) → P t f → P t (record { tree = f.tree; left = f.left; journal = f.journal ++ entries.Passed ∷ []; waiting = ps })
  pub receipt : (t : ℕ) (f : FrameRun) (ps : List Packet) → P t f → P t (record f { waiting = ps })
  pub delivery : (t : ℕ) (f : FrameRun) (n : ℕ) → P t f → P t (record f { journal = f.journal ++ entries.Delivered (record { 0 = n }) ∷ [] })
  pub browser : (o : TimedOp) (left : List TimedOp) → B (o ∷ left) → B left

-- what is kept: `d` tells the trees that have ended or are to be destroyed, and `ts` are the trees in order
pub record Kept (P : ℕ → FrameRun → Type 0) (B : List TimedOp → Type 0) (d : ℕ → Bool) (ts : List ℕ) (r : Run) : Type 0 where
  pub frames : (t : ℕ) (f : FrameRun) → find (of_tree t) r.state.frames ≡ Some f → P t f
  pub browser : B r.state.browser
  pub ended : (t : ℕ) → (is_gone r.state.history t || is_destroyed r.state.browser t) ≡ d t
  pub trees : trees_of r.state ≡ ts

same_trees : (f : FrameRun) (fs : List FrameRun) → map (λ (g : FrameRun). g.tree) (map (replaced f) fs) ≡ map (λ (g : FrameRun). g.tree) fs
same_trees f [] = refl
same_trees f (g ∷ fs) = go (g.tree == f.tree) refl (same_trees f fs)
  where
    go : (b : Bool) → (g.tree == f.tree) ≡ b → map (λ (x : FrameRun). x.tree) (map (replaced f) fs) ≡ map (λ (x : FrameRun). x.tree) fs
        → (if b then f else g).tree ∷ map (λ (x : FrameRun). x.tree) (map (replaced f) fs) ≡ g.tree ∷ map (λ (x : FrameRun). x.tree) fs
    go true e h = ap (λ z. z ∷ map (λ (x : FrameRun). x.tree) (map (replaced f) fs)) (sym (eqb-true g.tree f.tree e)) ∙ ap (λ l. g.tree ∷ l) h
    go false e h = ap (λ l. g.tree ∷ l) h

-- an entry that doesn't end a tree
not_ended : (h : List HEntry) (e : HEntry) (t : ℕ) → ends t e ≡ false → is_gone (h ++ e ∷ []) t ≡ is_gone h t
not_ended h e t n = is_gone-append h e t ∙ (ap (λ b. is_gone h t || b) n ∙ or_false (is_gone h t))
  where
    or_false : (b : Bool) → (b || false) ≡ b
    or_false true = refl
    or_false false = refl

module _ (P : ℕ → FrameRun → Type 0) (B : List TimedOp → Type 0) (d : ℕ → Bool) (ts : List ℕ) (keeps : KeepsRuns P B) where
  abbrev K : Run → Type 0
  K r = Kept P B d ts r

  there : (t : ℕ) (fs : List FrameRun) (f : FrameRun) → find (of_tree t) fs ≡ Some f → find (of_tree f.tree) fs ≡ Some f
  there t fs f e = ap (λ u. find (of_tree u) fs) (found_in t fs f e) ∙ e

  op_kept : (r : Run) (f : FrameRun) (os : List FrameOp) → f.left ≡ os → find (of_tree f.tree) r.state.frames ≡ Some f → K r → AllRun K (do_next_op r f os)
  unfolding do_op with_frame
  op_kept r f [] l e k = tt
  op_kept r f (o ∷ left) l e k = record {
    frames = each_found P _ f r.state.frames e (keeps.op f.tree f o left _ l (k.frames f.tree f e)) (λ t x n q. k.frames t x q);
    browser = k.browser;
    ended = k.ended;
    trees = same_trees _ r.state.frames ∙ k.trees;
  }

  pass_kept : (r : Run) (f : FrameRun) → find (of_tree f.tree) r.state.frames ≡ Some f → K r → K (do_op r f ops.Pass f.left)
  unfolding do_op with_frame
  pass_kept r f e k = record {
    frames = each_found P _ f r.state.frames e (keeps.pass f.tree f _ (k.frames f.tree f e)) (λ t x n q. k.frames t x q);
    browser = k.browser;
    ended = k.ended;
    trees = same_trees _ r.state.frames ∙ k.trees;
  }

  oldest_kept : (r : Run) (f : FrameRun) (ps : List Packet) → find (of_tree f.tree) r.state.frames ≡ Some f → K r → AllRun K (do_oldest r f ps)
  unfolding do_receive with_frame
  oldest_kept r f [] e k = tt
  oldest_kept r f (p ∷ ps) e k = record {
    frames = each_found P (record f { waiting = ps }) f r.state.frames e (keeps.receipt f.tree f ps (k.frames f.tree f e)) (λ t x n q. k.frames t x q);
    browser = k.browser;
    ended = λ t. ap (λ b. b || is_destroyed r.state.browser t) (not_ended r.state.history (Got p) t refl) ∙ k.ended t;
    trees = same_trees (record f { waiting = ps }) r.state.frames ∙ k.trees;
  }

  ask_kept : (r : Run) (t : ℕ) → K r → K (do_ask r t)
  unfolding do_ask
  ask_kept r t k = record {
    frames = k.frames;
    browser = k.browser;
    ended = λ u. ap (λ b. b || is_destroyed r.state.browser u) (not_ended r.state.history (Asked t) u refl) ∙ k.ended u;
    trees = k.trees;
  }

  delivery_kept : (r : Run) (f : FrameRun) (n : ℕ) → find (of_tree f.tree) r.state.frames ≡ Some f → K r → K (do_deliver r f n)
  unfolding do_deliver with_frame
  delivery_kept r f n e k = record {
    frames = each_found P _ f r.state.frames e (keeps.delivery f.tree f n (k.frames f.tree f e)) (λ t x m q. k.frames t x q);
    browser = k.browser;
    ended = k.ended;
    trees = same_trees _ r.state.frames ∙ k.trees;
  }

  -- the browser's next operation, where o and `left` were left
  moved : (g x y : Bool) → ((g || x) || y) ≡ (g || (x || y))
  moved true x y = refl
  moved false x y = refl

  browser_op_kept : (r : Run) (o : BrowserOp) (left : List TimedOp) → B left → ((t : ℕ) → (is_gone r.state.history t || (destroys t o || is_destroyed left t)) ≡ d t)
      → ((t : ℕ) (f : FrameRun) → find (of_tree t) r.state.frames ≡ Some f → P t f) → trees_of r.state ≡ ts
      → K (do_browser (record r { state = record r.state { browser = left } }) o)
  unfolding do_browser do_ask
  browser_op_kept r (browsers.Ask u) left b e fs w = record {
    frames = fs;
    browser = b;
    ended = λ t. ap (λ x. x || is_destroyed left t) (not_ended r.state.history (Asked u) t refl) ∙ e t;
    trees = w;
  }
  browser_op_kept r (browsers.Destroy u) left b e fs w = record {
    frames = fs;
    browser = b;
    ended = λ t. ap (λ x. x || is_destroyed left t) (is_gone-append r.state.history (Ended u) t) ∙ (moved (is_gone r.state.history t) (u == t) (is_destroyed left t) ∙ e t);
    trees = w;
  }
  browser_op_kept r (browsers.Probe u x) left b e fs w = record {
    frames = fs;
    browser = b;
    ended = λ t. ap (λ y. y || is_destroyed left t) (not_ended r.state.history (Probed u x) t refl) ∙ e t;
    trees = w;
  }

  browser_kept : (r : Run) (os : List TimedOp) → r.state.browser ≡ os → K r → AllRun K (do_next_browser r os)
  browser_kept r [] e k = tt
  browser_kept r (o ∷ left) e k =
      browser_op_kept r o.op left (keeps.browser o left (subst B e k.browser)) (λ t. ap (λ l. is_gone r.state.history t || is_destroyed l t) (sym e) ∙ k.ended t) k.frames k.trees

  query_kept : (r : Run) (n : ℕ) (qs : List TimedQuery) → K r → AllRun K (do_next_query r n qs)
  unfolding do_query
  query_kept r n [] k = tt
  query_kept r n (q ∷ left) k = record { frames = k.frames; browser = k.browser; ended = k.ended; trees = k.trees }

  queries_kept : (r : Run) (n : ℕ) (o : Option (List TimedQuery)) → K r → AllRun K (option_and_then (do_next_query r n) o)
  queries_kept r n None k = tt
  queries_kept r n (Some qs) k = query_kept r n qs k

  reader_kept : (r : Run) (n : ℕ) → K r → AllRun K (do_reader r n)
  reader_kept r zero k = tt
  reader_kept r (suc n) k = queries_kept r n (slice_get r.state.readers n) k

  -- ---- steps and runs

  with_frame_kept : (r : Run) (o : Option FrameRun) (g : FrameRun → Option Run) → ((f : FrameRun) → o ≡ Some f → AllRun K (g f)) → AllRun K (option_and_then g o)
  with_frame_kept r None g h = tt
  with_frame_kept r (Some f) g h = h f refl

  mapped_frame_kept : (r : Run) (o : Option FrameRun) (g : FrameRun → Run) → ((f : FrameRun) → o ≡ Some f → K (g f)) → AllRun K (option_map g o)
  mapped_frame_kept r None g h = tt
  mapped_frame_kept r (Some f) g h = h f refl

  pub step_kept : (r : Run) (i : Item) → K r → AllRun K (step r i)
  unfolding step find_frame
  step_kept r (items.Frame t) k =
      with_frame_kept r (find (of_tree t) r.state.frames) (λ f. do_next_op r f f.left) (λ f e. op_kept r f f.left refl (there t r.state.frames f e) k)
  step_kept r (items.Receive t) k =
      with_frame_kept r (find (of_tree t) r.state.frames) (λ f. do_oldest r f f.waiting) (λ f e. oldest_kept r f f.waiting (there t r.state.frames f e) k)
  step_kept r items.Browser k = browser_kept r r.state.browser refl k
  step_kept r (items.Deliver t n) k =
      mapped_frame_kept r (find (of_tree t) r.state.frames) (λ f. do_deliver r f n.0) (λ f e. delivery_kept r f n.0 (there t r.state.frames f e) k)
  step_kept r (items.Reader n) k = reader_kept r n k

  pub run_kept : (o : List Item) (r : Run) → K r → AllRun K (run o r)
  run_kept [] r k = k
  run_kept (i ∷ o) r k = next K K (run o) (λ q x. run_kept o q x) (step r i) (step_kept r i k)

  -- ---- the finale

  pub serve_kept : (os : List TimedOp) (r : Run) → K r → AllRun K (serve os r)
  serve_kept [] r k = k
  serve_kept (o ∷ left) r k =
      next K K (serve left) (λ q x. serve_kept left q x) (run (items.Browser ∷ delivery_of r.state o.op) r) (run_kept (items.Browser ∷ delivery_of r.state o.op) r k)

  pass_of_kept : (r : Run) (t : ℕ) → K r → AllRun K (pass_of r t)
  unfolding pass_of find_frame
  pass_of_kept r t k =
      mapped_frame_kept r (find (of_tree t) r.state.frames) (λ f. do_op r f ops.Pass f.left) (λ f e. pass_kept r f (there t r.state.frames f e) k)

  refresh_kept : (t : ℕ) (r : Run) → K r → AllRun K (refresh t r)
  unfolding refresh
  refresh_kept t r k =
      next K K (run (items.Receive t ∷ [])) (λ q x. run_kept (items.Receive t ∷ []) q x) (option_and_then (λ q. pass_of q t) (run (items.Deliver t (record { 0 = next_token r.state.history t }) ∷ []) (do_ask r t)))
      (next K K (λ q. pass_of q t) (λ q x. pass_of_kept q t x) (run (items.Deliver t (record { 0 = next_token r.state.history t }) ∷ []) (do_ask r t))
      (run_kept (items.Deliver t (record { 0 = next_token r.state.history t }) ∷ []) (do_ask r t) (ask_kept r t k)))

  refresh_if_by : (r : Run) (f : FrameRun) (b : Bool) → K r → AllRun K (if b then refresh f.tree r else Some r)
  refresh_if_by r f true k = refresh_kept f.tree r k
  refresh_if_by r f false k = k

  refresh_if_kept : (r : Run) (o : Option FrameRun) → K r → AllRun K (option_and_then (refresh_if r) o)
  refresh_if_kept r None k = tt
  refresh_if_kept r (Some f) k = refresh_if_by r f (is_behind r.state f) k

  pub catch_up_kept : (us : List ℕ) (r : Run) → K r → AllRun K (catch_up us r)
  catch_up_kept [] r k = k
  catch_up_kept (u ∷ us) r k = next K K (catch_up us) (λ q x. catch_up_kept us q x) (option_and_then (refresh_if r) (find_frame r.state u)) (refresh_if_kept r (find_frame r.state u) k)
