-- The finale is there, and the texts of a run.
use Rattle.std.proofs.Common.{ℕ, ◌≡◌, ◌==◌, Bool, true, false, ◌||◌, List, [], ◌∷◌, map, filter, refl, sym, ap, ◌∙◌, subst, Option, Some, None, option_and_then, option_map, is_some}
use Rattle.ax_trees.specs.Lists.{contains, NoneTwice}
use Rattle.ax_trees.proofs.Trees.{by_go}
use Rattle.ax_ask.specs.declared.action.Action.{Action}
use Rattle.ax_ask.specs.declared.op.TimedOp.{TimedOp}
use Rattle.ax_ask.specs.declared.op.Item.{Item}
use Rattle.ax_rules.specs.Histories.{is_gone}
use Rattle.ax_run_rules.specs.Scripts.{Script, FrameScript}
use Rattle.ax_run_rules.specs.States.{FrameRun, State, Run, start, begin, trees_of, frame_now, without_lines}
use Rattle.ax_run_rules.specs.Steps.{run}
use Rattle.ax_run_rules.specs.Finale.{ops_left, packets_left, serve, catch_up, queries_left, finale_of, finished}
use Rattle.ax_run_rules.specs.Actions.{Served, acted, perform, perform_all, served, all_served, after_actions}
use Rattle.ax_run_rules.specs.ReplayText.{replay_text}
use Rattle.ax_run_rules.specs.CombineText.{combine_text}
use Rattle.ax_run_rules.specs.ActText.{actions_text, act_text}
use Rattle.ax_run_laws.specs.Laws.{is_destroyed}
use Rattle.ax_run_laws.proofs.Found.{same_number}
use Rattle.ax_run_laws.proofs.Quiet.{AllRun}
use Rattle.ax_run_laws.proofs.Kept.{Kept, run_kept}
use Rattle.ax_ask.specs.Calls.{AllNamed}
use Rattle.ax_finale_laws.specs.Laws.{trees_in, HasItsTrees, StateHasItsTrees, TextsOf}
use Rattle.ax_finale_laws.proofs.Ends.{Ends, AnyRun, onward, joined, is_there, tree_at}
use Rattle.ax_finale_laws.proofs.Turns.{ops_there, packets_there}
use Rattle.ax_finale_laws.proofs.Asks.{AnyFrame, any_keeps, named_keeps, serve_there}
use Rattle.ax_finale_laws.proofs.Catches.{AllIn, catch_up_there}
use Rattle.ax_finale_laws.proofs.Queries.{queries_there}

all_in : (all ts : List ℕ) → ((t : ℕ) → contains ts t ≡ true → contains all t ≡ true) → AllIn all ts
all_in all [] h = tt
all_in all (t ∷ ts) h = (h t (ap (λ c. c || contains ts t) (same_number t)), all_in all ts (λ u k. h u (later (t == u) (contains ts u) k)))
  where
    later : (a b : Bool) → b ≡ true → (a || b) ≡ true
    later true b k = refl
    later false b k = k

all_of_trees : (ts : List ℕ) → AllIn ts ts
all_of_trees ts = all_in ts ts (λ t k. k)

-- ---- the finale

module _ (d : ℕ → Bool) (ts : List ℕ) (apart : NoneTwice ts) where
  abbrev K : Run → Type 0
  K r = Kept AnyFrame (AllNamed ts) d ts r

  kept_there : (o : List Item) (r : Run) → K r → Ends AnyRun (run o r) → Ends K (run o r)
  kept_there o r k h = joined AnyRun K K (λ q u y. y) (run o r) h (run_kept AnyFrame (AllNamed ts) d ts (named_keeps ts) o r k)

  apart_in : (r : Run) → K r → NoneTwice (trees_of r.state)
  apart_in r k = subst NoneTwice (sym k.trees) apart

  caught_up : (r : Run) → K r → Ends K (catch_up (trees_of r.state) r)
  caught_up r k = catch_up_there (AllNamed ts) (named_keeps ts) d ts (trees_of r.state) r (subst (AllIn ts) (sym k.trees) (all_of_trees ts)) k

  pub finale_kept : (r : Run) → K r → Ends K (finale_of r)
  unfolding finale_of
  finale_kept r k =
      onward K K (λ (a : Run). run (queries_left a.state) a) (λ a x. kept_there (queries_left a.state) a x (queries_there a)) _
      (onward K K (λ (a : Run). catch_up (trees_of a.state) a) (λ a x. caught_up a x) _
      (onward K K (λ (a : Run). serve a.state.browser a) (λ a x. serve_there d ts a x) _
      (onward K K (λ (a : Run). run (packets_left a.state) a) (λ a x. kept_there (packets_left a.state) a x (packets_there a (apart_in a x))) _
      (kept_there (ops_left r.state) r k (ops_there r (apart_in r k))))))

abbrev ended_of : State → ℕ → Bool
ended_of s t = is_gone s.history t || is_destroyed s.browser t

sound_kept : (r : Run) → StateHasItsTrees r.state → Kept AnyFrame (AllNamed (trees_of r.state)) (ended_of r.state) (trees_of r.state) r
sound_kept r s = record { frames = λ t f e. tt; browser = s.named; ended = λ t. refl; trees = refl }

pub finale_of_state : (r : Run) → StateHasItsTrees r.state → is_some (finale_of r) ≡ true
finale_of_state r s =
    is_there (Kept AnyFrame (AllNamed (trees_of r.state)) (ended_of r.state) (trees_of r.state)) (finale_of r) (finale_kept (ended_of r.state) (trees_of r.state) s.apart r (sound_kept r s))

-- ---- from the start

start_trees : (fs : List FrameScript) → map (λ (f : FrameRun). f.tree) (map (λ (f : FrameScript). record { tree = f.tree; left = f.ops; journal = []; waiting = [] }) fs) ≡ map (λ (f : FrameScript). f.tree) fs
start_trees [] = refl
start_trees (f ∷ fs) = ap (λ l. f.tree ∷ l) (start_trees fs)

abbrev Going : Script → Run → Type 0
Going s r = Kept AnyFrame (AllNamed (trees_in s)) (is_destroyed s.browser) (trees_in s) r

begin_going : (s : Script) → HasItsTrees s → Going s (begin s)
unfolding begin start is_gone
begin_going s h = record { frames = λ t f e. tt; browser = h.named; ended = λ t. refl; trees = start_trees s.frames }

-- the lines have no part in it
quiet_going : (s : Script) (r : Run) → Going s r → Going s (without_lines r)
quiet_going s r k = record { frames = k.frames; browser = k.browser; ended = k.ended; trees = k.trees }

run_going : (s : Script) (o : List Item) (r : Run) → HasItsTrees s → run o (begin s) ≡ Some r → Going s (without_lines r)
run_going s o r h e =
    let k : AllRun (Going s) (Some r) = subst (λ q. AllRun (Going s) q) e (run_kept AnyFrame (AllNamed (trees_in s)) (is_destroyed s.browser) (trees_in s) (named_keeps (trees_in s)) o (begin s) (begin_going s h)) in
    quiet_going s r k

run_ends : (s : Script) (o : List Item) (r : Run) → HasItsTrees s → run o (begin s) ≡ Some r → Ends (Going s) (finale_of (without_lines r))
run_ends s o r h e = finale_kept (is_destroyed s.browser) (trees_in s) h.apart (without_lines r) (run_going s o r h e)

pub finale_there : (s : Script) (o : List Item) (r : Run) → HasItsTrees s → run o (begin s) ≡ Some r → is_some (finale_of (without_lines r)) ≡ true
finale_there s o r h e = is_there (Going s) (finale_of (without_lines r)) (run_ends s o r h e)

-- ---- texts

mapped : {A B : Type 0} (g : A → B) (o : Option A) → is_some o ≡ true → is_some (option_map g o) ≡ true
mapped g None h = h
mapped g (Some x) h = refl

pub replay_there : (s : Script) (o : List Item) (r : Run) → HasItsTrees s → run o (begin s) ≡ Some r → is_some (replay_text s o) ≡ true
unfolding replay_text
replay_there s o r h e = rw e (mapped _ (finale_of (without_lines r)) (finale_there s o r h e))

finished_ends : (s : Script) (o : List Item) (r : Run) → HasItsTrees s → run o (begin s) ≡ Some r → Ends (Going s) (finished s o)
unfolding finished
finished_ends s o r h e = subst (λ q. Ends (Going s) (option_and_then (λ (x : Run). finale_of (without_lines x)) q)) (sym e) (run_ends s o r h e)

-- a text, and a second one upon a run
both_there : {A B : Type 0} (P : Run → Type 0) (text : Option A) (ended : Option Run) (g : A → Run → Option B) → is_some text ≡ true → Ends P ended → ((x : A) (r : Run) → P r → is_some (g x r) ≡ true)
    → is_some (option_and_then (λ x. option_and_then (g x) ended) text) ≡ true
both_there P None ended g h e k = absurd (cc)
both_there P (Some x) None g h e k = absurd e
both_there P (Some x) (Some r) g h e k = k x r e

both_mapped : {A B : Type 0} (P : Run → Type 0) (text : Option A) (ended : Option Run) (g : A → Run → B) → is_some text ≡ true → Ends P ended
    → is_some (option_and_then (λ x. option_map (g x) ended) text) ≡ true
both_mapped P None ended g h e = absurd (cc)
both_mapped P (Some x) None g h e = absurd e
both_mapped P (Some x) (Some r) g h e = refl

-- ---- actions

performed_tree : (az : List Action) (s : Served) → (perform_all az s).frame.tree ≡ s.frame.tree
unfolding perform
performed_tree [] s = refl
performed_tree (a ∷ az) s = performed_tree az (perform s a (acted (frame_now s.frame).source a.node a.what))

served_tree : (az : List Action) (s : State) (f : FrameRun) → (served az s f).frame.tree ≡ f.tree
unfolding served
served_tree az s f =
    by_go (is_gone s.history f.tree)
    (λ q. rw q refl)
    (λ q. rw q (performed_tree (filter (λ (a : Action). a.tree == f.tree) az) (record { frame = f; lines = [] })))

same_trees : (az : List Action) (s : State) (fs : List FrameRun) → map tree_at (map (λ (d : Served). d.frame) (map (served az s) fs)) ≡ map tree_at fs
same_trees az s [] = refl
same_trees az s (f ∷ fs) = ap (λ t. t ∷ map tree_at (map (λ (d : Served). d.frame) (map (served az s) fs))) (served_tree az s f) ∙ ap (λ l. f.tree ∷ l) (same_trees az s fs)

abbrev AnyList : List TimedOp → Type 0
AnyList os = Unit {0}

abbrev Acted : List Action → State → Run → Type 0
Acted az s r = Kept AnyFrame AnyList (ended_of s) (trees_of s) r

acted_kept : (az : List Action) (s : State) → Acted az s (record { state = after_actions az s; lines = [] })
unfolding after_actions all_served
acted_kept az s = record { frames = λ t f e. tt; browser = tt; ended = λ t. refl; trees = same_trees az s s.frames }

acted_ends : (az : List Action) (s : State) → Ends (Acted az s) (catch_up (trees_of s) (record { state = after_actions az s; lines = [] }))
acted_ends az s =
    catch_up_there AnyList (any_keeps AnyList (λ o left b. tt)) (ended_of s) (trees_of s) (trees_of s) (record { state = after_actions az s; lines = [] }) (all_of_trees (trees_of s)) (acted_kept az s)

actions_there : (az : List Action) (s : State) → is_some (actions_text az s) ≡ true
unfolding actions_text
actions_there az s = mapped _ (catch_up (trees_of s) (record { state = after_actions az s; lines = [] })) (is_there (Acted az s) (catch_up (trees_of s) (record { state = after_actions az s; lines = [] })) (acted_ends az s))

combine_there : (s : Script) (r : Run) → HasItsTrees s → run s.order (begin s) ≡ Some r → is_some (combine_text s) ≡ true
unfolding combine_text
combine_there s r h e = both_mapped (Going s) (replay_text s s.order) (finished s s.order) _ (replay_there s s.order r h e) (finished_ends s s.order r h e)

act_there : (s : Script) (r : Run) → HasItsTrees s → run s.order (begin s) ≡ Some r → is_some (act_text s) ≡ true
unfolding act_text
act_there s r h e =
    both_there (Going s) (replay_text s s.order) (finished s s.order) _ (replay_there s s.order r h e) (finished_ends s s.order r h e) (λ text q k. mapped _ (actions_text s.actions q.state) (actions_there s.actions q.state))

pub texts_there : (s : Script) → HasItsTrees s → TextsOf s
texts_there s h = record {
  replayed = λ o r e. replay_there s o r h e;
  own = λ r e. record { combined = combine_there s r h e; acted = act_there s r h e };
}
