-- After the finale the forest is that of the script, whatever the order.
use Rattle.std.proofs.Common.{ℕ, zero, suc, ◌≡◌, ◌==◌, Bool, true, false, ◌||◌, if◌then◌else◌, List, [], ◌∷◌, ◌++◌, map, find, refl, sym, ap, ◌∙◌, subst, Option, Some, None}
use Rattle.ax_trees.specs.Trees.{is_bare}
use Rattle.ax_trees.specs.Lists.{contains, NoneTwice}
use Rattle.ax_tree.specs.declared.packet.Packet.{Packet}
use Rattle.ax_tree.specs.declared.packet.JEntry.TheVariants as entries
use Rattle.ax_tree.specs.declared.packet.HEntry.{HEntry}
use Rattle.ax_tree.specs.Tree.{Tree, empty}
use Rattle.ax_tree.specs.Forest.{Standing}
use Rattle.ax_tree.specs.Journals.{source_of, source_from}
use Rattle.ax_tree.specs.Packets.{source_at}
use Rattle.ax_ask.specs.declared.op.FrameOp.{FrameOp}
use Rattle.ax_ask.specs.declared.op.TimedOp.{TimedOp}
use Rattle.ax_ask.specs.declared.op.Item.{Item}
use Rattle.ax_rules.specs.Histories.{is_gone, got, applied_pass}
use Rattle.ax_rules.specs.Mirrors.{mirror_of, standing, forest_of}
use Rattle.ax_run_rules.specs.Scripts.{Script, FrameScript}
use Rattle.ax_run_rules.specs.States.{FrameRun, Run, start, begin, trees_of, forest_now, without_lines}
use Rattle.ax_run_rules.specs.FrameSteps.{entry_of}
use Rattle.ax_run_rules.specs.Steps.{run}
use Rattle.ax_run_rules.specs.Finale.{ops_left, packets_left, serve, catch_up, queries_left, finale_of}
use Rattle.ax_run_laws.specs.Laws.{is_destroyed, tree_left, forest_left}
use Rattle.ax_run_laws.proofs.Found.{of_tree, some_same, same_number}
use Rattle.ax_run_laws.proofs.ByTree.{Each, each_first, one_of}
use Rattle.ax_run_laws.proofs.Held.{FrameHeld, Held, AllHeld, begin_held, run_held}
use Rattle.ax_run_laws.proofs.Quiet.{AllRun, next}
use Rattle.ax_run_laws.proofs.CatchUp.{CaughtUp, Up, mirror_same, finale_up, finale_held}
use Rattle.ax_run_laws.proofs.Kept.{KeepsRuns, Kept, run_kept, serve_kept, catch_up_kept}
use Rattle.ax_run_laws.proofs.Done.{AllDone, ops_done, NoneLeft, browser_done}
use Rattle.ax_run_laws.proofs.Rooted.{no_packets, source_of-append}

-- ---- what the operations that are left will make of the source

abbrev pub Ahead : (ℕ → Tree) → ℕ → FrameRun → Type 0
Ahead G t f = source_from (map entry_of f.left) (source_of t f.journal) ≡ G t

abbrev pub AnyList : List TimedOp → Type 0
AnyList os = Unit {0}

abbrev pub NoList : List TimedOp → Type 0
NoList os = os ≡ []

ahead_keeps : (G : ℕ → Tree) → KeepsRuns (Ahead G) AnyList
ahead_keeps G = record {
  op = λ t f o left ps l h.
      ap (source_from (map entry_of left)) (source_of-append t f.journal (entry_of o)) ∙ (ap (λ os. source_from (map entry_of os) (source_of t f.journal)) (sym l) ∙ h);
  pass = λ t f ps h. ap (source_from (map entry_of f.left)) (source_of-append t f.journal entries.Passed) ∙ h;
  receipt = λ t f ps h. h;
  delivery = λ t f n h. ap (source_from (map entry_of f.left)) (source_of-append t f.journal (entries.Delivered (record { 0 = n }))) ∙ h;
  browser = λ o left b. tt;
}

-- all is done, and this is the source
abbrev pub Arrived : (ℕ → Tree) → ℕ → FrameRun → Type 0
Arrived G t f = (f.left ≡ []) × (source_of t f.journal ≡ G t)

none_there : {A : Type 0} (x : A) (xs ys : List A) → ys ≡ [] → ys ≡ x ∷ xs → ⊥
none_there x xs ys h k = cc

arrived_keeps : (G : ℕ → Tree) (B : List TimedOp → Type 0) → ((o : TimedOp) (left : List TimedOp) → B (o ∷ left) → B left) → KeepsRuns (Arrived G) B
arrived_keeps G B b = record {
  op = λ t f o left ps l h. absurd (none_there o left f.left h.0 l);
  pass = λ t f ps h. (h.0, source_of-append t f.journal entries.Passed ∙ h.1);
  receipt = λ t f ps h. h;
  delivery = λ t f n h. (h.0, source_of-append t f.journal (entries.Delivered (record { 0 = n })) ∙ h.1);
  browser = b;
}

arrived : (G : ℕ → Tree) (t : ℕ) (f : FrameRun) → Ahead G t f → f.left ≡ [] → Arrived G t f
arrived G t f h e = (e, ap (λ os. source_from (map entry_of os) (source_of t f.journal)) (sym e) ∙ h)

-- two things of a run
together : (P Q R : Run → Type 0) → ((r : Run) → P r → Q r → R r) → (o : Option Run) → AllRun P o → AllRun Q o → AllRun R o
together P Q R h None p q = tt
together P Q R h (Some r) p q = h r p q

module _ (G : ℕ → Tree) (d : ℕ → Bool) (ts : List ℕ) where
  abbrev pub Going : Run → Type 0
  Going r = Kept (Ahead G) AnyList d ts r

  abbrev Come : Run → Type 0
  Come r = Kept (Arrived G) AnyList d ts r

  abbrev pub Ended : Run → Type 0
  Ended r = Kept (Arrived G) NoList d ts r

  come : (r : Run) → Going r → AllDone r → Come r
  come r k a = record { frames = λ t f e. arrived G t f (k.frames t f e) (a.at t f e); browser = tt; ended = k.ended; trees = k.trees }

  over : (r : Run) → Come r → NoneLeft r → Ended r
  over r k n = record { frames = k.frames; browser = n.none; ended = k.ended; trees = k.trees }

  come_keeps : KeepsRuns (Arrived G) AnyList
  come_keeps = arrived_keeps G AnyList (λ o left b. tt)

  over_keeps : KeepsRuns (Arrived G) NoList
  over_keeps = arrived_keeps G NoList (λ o left b. absurd (none_there o left (o ∷ left) b refl))

  pub finale_ended : (r : Run) → Going r → AllRun Ended (finale_of r)
  unfolding finale_of
  finale_ended r k =
      next Ended Ended (λ a. run (queries_left a.state) a) (λ a x. run_kept (Arrived G) NoList d ts over_keeps (queries_left a.state) a x) _
      (next Ended Ended (λ a. catch_up (trees_of a.state) a) (λ a x. catch_up_kept (Arrived G) NoList d ts over_keeps (trees_of a.state) a x) _
      (next Come Ended (λ a. serve a.state.browser a)
      (λ a x. together Come NoneLeft Ended over (serve a.state.browser a) (serve_kept (Arrived G) AnyList d ts come_keeps a.state.browser a x) (browser_done a)) _
      (next Come Come (λ a. run (packets_left a.state) a) (λ a x. run_kept (Arrived G) AnyList d ts come_keeps (packets_left a.state) a x) _
      (together Going AllDone Come come (run (ops_left r.state) r) (run_kept (Ahead G) AnyList d ts (ahead_keeps G) (ops_left r.state) r k) (ops_done r)))))

-- ---- the start

abbrev scripted : ℕ → FrameScript → Bool
scripted t f = f.tree == t

abbrev goal_of : ℕ → Option FrameScript → Tree
goal_of t None = empty t
goal_of t (Some f) = source_of t (map entry_of f.ops)

abbrev goal : Script → ℕ → Tree
goal s t = goal_of t (find (scripted t) s.frames)

abbrev started : FrameScript → FrameRun
started f = record { tree = f.tree; left = f.ops; journal = []; waiting = [] }

start_ahead : (t : ℕ) (fs : List FrameScript) (f : FrameRun) → find (of_tree t) (map started fs) ≡ Some f
    → source_from (map entry_of f.left) (source_of t f.journal) ≡ goal_of t (find (scripted t) fs)
start_ahead t [] f h = absurd (cc)
start_ahead t (x ∷ fs) f h = go (x.tree == t) (λ k. start_ahead t fs f k) h
  where
    go : (b : Bool) → (find (of_tree t) (map started fs) ≡ Some f → source_from (map entry_of f.left) (source_of t f.journal) ≡ goal_of t (find (scripted t) fs))
        → (if b then Some (started x) else find (of_tree t) (map started fs)) ≡ Some f
        → source_from (map entry_of f.left) (source_of t f.journal) ≡ goal_of t (if b then Some x else find (scripted t) fs)
    go true ih k = ap (λ (y : FrameRun). source_from (map entry_of y.left) (source_of t y.journal)) (sym (some_same (started x) f k))
    go false ih k = ih k

start_trees : (fs : List FrameScript) → map (λ (f : FrameRun). f.tree) (map started fs) ≡ map (λ (f : FrameScript). f.tree) fs
start_trees [] = refl
start_trees (f ∷ fs) = ap (λ l. f.tree ∷ l) (start_trees fs)

abbrev trees_in : Script → List ℕ
trees_in s = map (λ (f : FrameScript). f.tree) s.frames

begin_going : (s : Script) → Kept (Ahead (goal s)) AnyList (is_destroyed s.browser) (trees_in s) (begin s)
unfolding begin start is_gone
begin_going s = record { frames = λ t f e. start_ahead t s.frames f e; browser = tt; ended = λ t. refl; trees = start_trees s.frames }

-- ---- the end

-- a tree of the list has a frame there
pub has_frame : (t : ℕ) (fs : List FrameRun) → contains (map (λ (f : FrameRun). f.tree) fs) t ≡ true → (f : FrameRun) × (find (of_tree t) fs ≡ Some f)
has_frame t fs h = one_of (λ (f : FrameRun). f.tree) t fs h

each_in : (back fs : List FrameScript) → ((f : FrameScript) → contains (map (λ (g : FrameScript). g.tree) fs) f.tree ≡ true → contains (map (λ (g : FrameScript). g.tree) back) f.tree ≡ true)
    → Each (λ f. contains (map (λ (g : FrameScript). g.tree) back) f.tree ≡ true) fs
each_in back [] h = tt
each_in back (f ∷ fs) h =
    (h f (ap (λ c. c || contains (map (λ (g : FrameScript). g.tree) fs) f.tree) (same_number f.tree)), each_in back fs (λ g k. h g (later (f.tree == g.tree) (contains (map (λ (x : FrameScript). x.tree) fs) g.tree) k)))
  where
    later : (a b : Bool) → b ≡ true → (a || b) ≡ true
    later true b k = refl
    later false b k = k

pub nothing_got : (h : List HEntry) (t : ℕ) (f : FrameRun) → FrameHeld h t f → is_bare (source_of t f.journal).trees ≡ true → got h t ≡ []
nothing_got h t f held n = front_none (got h t) f.waiting (held.packets ∙ no_packets t f.journal n)
  where
    front_none : (xs ys : List Packet) → xs ++ ys ≡ [] → xs ≡ []
    front_none [] ys e = refl
    front_none (x ∷ xs) ys e = absurd (cc)

pub none_applied : (t : ℕ) (ps : List Packet) (n : ℕ) → ps ≡ [] → source_at t ps n ≡ empty t
none_applied t ps n e = ap (λ l. source_at t l n) e ∙ of_none n
  where
    of_none : (m : ℕ) → source_at t [] m ≡ empty t
    of_none zero = refl
    of_none (suc m) = refl

-- the mirror of a tree that hasn't ended, where this is the source
pub mirror_is : (h : List HEntry) (t : ℕ) (f : FrameRun) (s : Tree) → FrameHeld h t f → CaughtUp h t f → is_gone h t ≡ false → source_of t f.journal ≡ s
    → mirror_of h t ≡ (if is_bare s.trees then empty t else s)
unfolding mirror_of
mirror_is h t f s held up gone same = go (is_bare s.trees) refl
  where
    go : (b : Bool) → is_bare s.trees ≡ b → source_at t (got h t) (applied_pass h t) ≡ (if b then empty t else s)
    go true e = none_applied t (got h t) (applied_pass h t) (nothing_got h t f held (ap (λ (x : Tree). is_bare x.trees) same ∙ e))
    go false e = mirror_same h t f up gone (ap (λ (x : Tree). is_bare x.trees) same ∙ e) ∙ same

mirror_left : (h : List HEntry) (t : ℕ) (f : FrameRun) (os : List FrameOp) → FrameHeld h t f → CaughtUp h t f → is_gone h t ≡ false → source_of t f.journal ≡ source_of t (map entry_of os)
    → mirror_of h t ≡ tree_left t os
mirror_left h t f os held up gone same = mirror_is h t f (source_of t (map entry_of os)) held up gone same

abbrev one_left : Script → FrameScript → Standing
one_left s f = record { id = f.tree; tree = if is_destroyed s.browser f.tree then None else Some (tree_left f.tree f.ops) }

pub standing_left : (h : List HEntry) (t : ℕ) (d : Bool) (m l : Tree) → is_gone h t ≡ d → (d ≡ false → m ≡ l)
    → (if is_gone h t then None else Some m) ≡ (if d then None else Some l)
standing_left h t true m l e k = rw e refl
standing_left h t false m l e k = rw e (ap (λ x. Some x) (k refl))

all_standing : (h : List HEntry) (s : Script) (fs : List FrameScript) → Each (λ f. standing h (mirror_of h) f.tree ≡ one_left s f) fs
    → map (standing h (mirror_of h)) (map (λ (f : FrameScript). f.tree) fs) ≡ map (one_left s) fs
all_standing h s [] k = refl
all_standing h s (f ∷ fs) k = ap (λ x. x ∷ map (standing h (mirror_of h)) (map (λ (g : FrameScript). g.tree) fs)) k.0 ∙ ap (λ l. one_left s f ∷ l) (all_standing h s fs k.1)

pub no_more : (g : Bool) (os : List TimedOp) (t : ℕ) (d : Bool) → os ≡ [] → (g || is_destroyed os t) ≡ d → g ≡ d
no_more true os t d e h = h
no_more false os t d e h = ap (λ l. is_destroyed l t) (sym e) ∙ h

one_standing : (s : Script) (e : Run) (f : FrameScript) → Kept (Arrived (goal s)) NoList (is_destroyed s.browser) (trees_in s) e → Held e.state.frames e.state.history
    → ((t : ℕ) → Up t e) → find (scripted f.tree) s.frames ≡ Some f → contains (trees_in s) f.tree ≡ true → standing e.state.history (mirror_of e.state.history) f.tree ≡ one_left s f
one_standing s e f k held up found there =
    let t = f.tree in
    let x = has_frame t e.state.frames (ap (λ l. contains l t) k.trees ∙ there) in
    let a = k.frames t x.0 x.1 in
    let same : source_of t x.0.journal ≡ source_of t (map entry_of f.ops) = a.1 ∙ ap (goal_of t) found in
    let gone = no_more (is_gone e.state.history t) e.state.browser t (is_destroyed s.browser t) k.browser (k.ended t) in
    ap (λ o. record { id = t; tree = o })
    (standing_left e.state.history t (is_destroyed s.browser t) (mirror_of e.state.history t) (tree_left t f.ops) gone
    (λ n. mirror_left e.state.history t x.0 f.ops (held.at t x.0 x.1) ((up t).at x.0 x.1) (gone ∙ n) same))

each_standing : (s : Script) (e : Run) (fs : List FrameScript) → Kept (Arrived (goal s)) NoList (is_destroyed s.browser) (trees_in s) e → Held e.state.frames e.state.history
    → ((t : ℕ) → Up t e) → Each (λ f. find (scripted f.tree) s.frames ≡ Some f) fs → Each (λ f. contains (trees_in s) f.tree ≡ true) fs
    → Each (λ f. standing e.state.history (mirror_of e.state.history) f.tree ≡ one_left s f) fs
each_standing s e [] k held up found there = tt
each_standing s e (f ∷ fs) k held up found there = (one_standing s e f k held up found.0 there.0, each_standing s e fs k held up found.1 there.1)

pub forest_of_script : (s : Script) (o : List Item) (r e : Run) → NoneTwice (trees_in s) → run o (begin s) ≡ Some r → finale_of (without_lines r) ≡ Some e → forest_now e.state ≡ forest_left s
unfolding forest_now forest_of
forest_of_script s o r e once h k =
    let going : AllRun (Going (goal s) (is_destroyed s.browser) (trees_in s)) (Some r) =
    subst (λ x. AllRun (Going (goal s) (is_destroyed s.browser) (trees_in s)) x) h (run_kept (Ahead (goal s)) AnyList (is_destroyed s.browser) (trees_in s) (ahead_keeps (goal s)) o (begin s) (begin_going s)) in
    let over : AllRun (Ended (goal s) (is_destroyed s.browser) (trees_in s)) (Some e) =
    subst (λ x. AllRun (Ended (goal s) (is_destroyed s.browser) (trees_in s)) x) k
    (finale_ended (goal s) (is_destroyed s.browser) (trees_in s) (without_lines r) (record { frames = going.frames; browser = going.browser; ended = going.ended; trees = going.trees })) in
    let held : AllHeld (Some r) = subst (λ x. AllHeld x) h (run_held o (begin s) (begin_held s)) in
    let ups : (t : ℕ) → AllRun (Up t) (Some e) = λ t. subst (λ x. AllRun (Up t) x) k (finale_up t (without_lines r) held) in
    let kept : AllHeld (Some e) = subst (λ x. AllHeld x) k (finale_held (without_lines r) held) in
    ap (λ l. map (standing e.state.history (mirror_of e.state.history)) l) over.trees
    ∙ all_standing e.state.history s s.frames
    (each_standing s e s.frames over kept ups (each_first (λ (f : FrameScript). f.tree) s.frames once) (each_in s.frames s.frames (λ f c. c)))
