-- After the finale the forest is of the lists and the journals alone.
use Rattle.std.proofs.Common.{ℕ, ◌≡◌, if◌then◌else◌, List, [], ◌∷◌, map, find, refl, sym, ap, ◌∙◌, subst, Option, Some, None}
use Rattle.ax_trees.specs.Lists.{contains, NoneTwice}
use Rattle.ax_tree.specs.Tree.{Tree, empty}
use Rattle.ax_tree.specs.Forest.{Standing}
use Rattle.ax_tree.specs.Journals.{source_of, source_from}
use Rattle.ax_rules.specs.Histories.{is_gone}
use Rattle.ax_rules.specs.Mirrors.{mirror_of, standing, forest_of}
use Rattle.ax_run_rules.specs.States.{FrameRun, State, Run, trees_of, forest_now}
use Rattle.ax_run_rules.specs.FrameSteps.{entry_of}
use Rattle.ax_run_rules.specs.Finale.{finale_of}
use Rattle.ax_run_laws.proofs.Found.{of_tree}
use Rattle.ax_run_laws.proofs.ByTree.{Each, each_first, there}
use Rattle.ax_run_laws.proofs.Held.{Held, AllHeld}
use Rattle.ax_run_laws.proofs.Quiet.{AllRun}
use Rattle.ax_run_laws.proofs.Kept.{Kept}
use Rattle.ax_run_laws.proofs.CatchUp.{Up, finale_up, finale_held}
use Rattle.ax_run_laws.proofs.Final.{Ahead, AnyList, NoList, Arrived, finale_ended, has_frame, standing_left, no_more, mirror_is}
use Rattle.ax_finale_laws.specs.Resumed.{PacketsFit}
use Rattle.ax_finale_laws.specs.CatchingUp.{tree_to_come, will_be_gone, forest_to_come}
use Rattle.ax_finale_laws.proofs.Resumed.{held_where_fit}

-- what will be the source of a tree
abbrev goal_in : ℕ → Option FrameRun → Tree
goal_in t None = empty t
goal_in t (Some f) = source_from (map entry_of f.left) (source_of t f.journal)

abbrev goal : State → ℕ → Tree
goal s t = goal_in t (find (of_tree t) s.frames)

-- where a run is bound for, from its state on
bound : (r : Run) → Kept (Ahead (goal r.state)) AnyList (will_be_gone r.state) (trees_of r.state) r
bound r = record { frames = λ t f e. sym (ap (goal_in t) e); browser = tt; ended = λ t. refl; trees = refl }

-- what stands of a frame in the end
abbrev to_come : State → FrameRun → Standing
to_come s f = record { id = f.tree; tree = if will_be_gone s f.tree then None else Some (tree_to_come f) }

-- a run after its finale
record IsOver (s : State) (e : Run) : Type 0 where
  kept : Kept (Arrived (goal s)) NoList (will_be_gone s) (trees_of s) e
  held : Held e.state.frames e.state.history
  up : (t : ℕ) → Up t e

one_standing : (s : State) (e : Run) (f : FrameRun) → IsOver s e → find (of_tree f.tree) s.frames ≡ Some f
    → standing e.state.history (mirror_of e.state.history) f.tree ≡ to_come s f
one_standing s e f o found =
    let t = f.tree in
    let x = has_frame t e.state.frames (ap (λ l. contains l t) o.kept.trees ∙ there (λ (g : FrameRun). g.tree) t s.frames f found) in
    let a = o.kept.frames t x.0 x.1 in
    let same : source_of t x.0.journal ≡ source_from (map entry_of f.left) (source_of t f.journal) = a.1 ∙ ap (goal_in t) found in
    let gone = no_more (is_gone e.state.history t) e.state.browser t (will_be_gone s t) o.kept.browser (o.kept.ended t) in
    ap (λ m. record { id = t; tree = m })
    (standing_left e.state.history t (will_be_gone s t) (mirror_of e.state.history t) (tree_to_come f) gone
    (λ n. mirror_is e.state.history t x.0 (source_from (map entry_of f.left) (source_of t f.journal)) (o.held.at t x.0 x.1) ((o.up t).at x.0 x.1) (gone ∙ n) same))

each_standing : (s : State) (e : Run) (fs : List FrameRun) → IsOver s e → Each (λ f. find (of_tree f.tree) s.frames ≡ Some f) fs
    → map (standing e.state.history (mirror_of e.state.history)) (map (λ (f : FrameRun). f.tree) fs) ≡ map (to_come s) fs
each_standing s e [] o found = refl
each_standing s e (f ∷ fs) o found =
    ap (λ x. x ∷ map (standing e.state.history (mirror_of e.state.history)) (map (λ (g : FrameRun). g.tree) fs)) (one_standing s e f o found.0)
    ∙ ap (λ l. to_come s f ∷ l) (each_standing s e fs o found.1)

is_over : (r e : Run) → PacketsFit r.state → finale_of r ≡ Some e → IsOver r.state e
is_over r e h k =
    let kept : AllRun (λ x. Kept (Arrived (goal r.state)) NoList (will_be_gone r.state) (trees_of r.state) x) (Some e) =
    subst (λ x. AllRun (λ y. Kept (Arrived (goal r.state)) NoList (will_be_gone r.state) (trees_of r.state) y) x) k
    (finale_ended (goal r.state) (will_be_gone r.state) (trees_of r.state) r (bound r)) in
    let held : AllHeld (Some e) = subst (λ x. AllHeld x) k (finale_held r (held_where_fit r h)) in
    record { kept = kept; held = held; up = λ t. let up : AllRun (Up t) (Some e) = subst (λ x. AllRun (Up t) x) k (finale_up t r (held_where_fit r h)) in up }

pub forest_of_lists : (r e : Run) → PacketsFit r.state → NoneTwice (trees_of r.state) → finale_of r ≡ Some e → forest_now e.state ≡ forest_to_come r.state
unfolding forest_now forest_of
forest_of_lists r e h once k =
    let o = is_over r e h k in
    ap (λ l. map (standing e.state.history (mirror_of e.state.history)) l) o.kept.trees ∙ each_standing r.state e r.state.frames o (each_first (λ (f : FrameRun). f.tree) r.state.frames once)
