-- Each tree of a state whose packets fit catches up in the finale, and once more after actions.
use Rattle.std.proofs.Common.{ℕ, ◌≡◌, ◌==◌, Bool, true, false, if◌then◌else◌, List, [], ◌∷◌, ◌++◌, filter, map, find, refl, sym, ap, ◌∙◌, subst, Option, Some, None, append-nil, option_to_list}
use Rattle.ax_trees.specs.Trees.{is_bare}
use Rattle.ax_tree.specs.declared.edit.Edit.{Edit}
use Rattle.ax_tree.specs.declared.packet.Packet.{Packet}
use Rattle.ax_tree.specs.declared.packet.JEntry.TheVariants as entries
use Rattle.ax_tree.specs.declared.packet.HEntry.{HEntry}
use Rattle.ax_tree.specs.Journals.{new_frame, frame_of, packets_of, source_of}
use Rattle.ax_ask.specs.declared.action.Action.{Action}
use Rattle.ax_ask.specs.declared.action.ActNote.TheVariants as acts
use Rattle.ax_rules.specs.Histories.{is_gone, got}
use Rattle.ax_rules.specs.Mirrors.{mirror_of}
use Rattle.ax_run_rules.specs.States.{FrameRun, State, Run, trees_of, frame_now, find_frame}
use Rattle.ax_run_rules.specs.Finale.{catch_up, finale_of}
use Rattle.ax_run_rules.specs.Actions.{Done, Served, edited_frame, acted, act_line, perform, perform_all, served, all_served, after_actions}
use Rattle.ax_laws.proofs.GoodPackets.{packets_push}
use Rattle.ax_run_laws.proofs.Found.{of_tree, some_same}
use Rattle.ax_run_laws.proofs.Held.{AllOf, FrameHeld, Held}
use Rattle.ax_run_laws.proofs.Quiet.{AllRun, Quiet, Calm}
use Rattle.ax_run_laws.proofs.CatchUp.{Up, CalmUp, mirror_same, all_catch_up, finale_up, finale_calm}
use Rattle.ax_finale_laws.specs.Resumed.{PacketsFit}
use Rattle.ax_finale_laws.specs.CatchingUp.{IsUpToDate, acted_on}
use Rattle.ax_finale_laws.proofs.Resumed.{held_where_fit}

-- what is up is up to date
up_to_date : (r : Run) (t : ℕ) (f : FrameRun) → Up t r → find (of_tree t) r.state.frames ≡ Some f → IsUpToDate r.state t f
unfolding mirror_of
up_to_date r t f up e gone n = mirror_same r.state.history t f (up.at f e) gone n

pub state_catches_up : (r e : Run) (t : ℕ) (f : FrameRun) → PacketsFit r.state → finale_of r ≡ Some e → find_frame e.state t ≡ Some f → IsUpToDate e.state t f
unfolding find_frame
state_catches_up r e t f h k q =
    let up : AllRun (Up t) (Some e) = subst (λ x. AllRun (Up t) x) k (finale_up t r (held_where_fit r h)) in up_to_date e t f up q

-- ---- what actions leave of a frame

-- the frame g has sent what f has, and the same packets wait
record HasSent (f g : FrameRun) : Type 0 where
  tree : g.tree ≡ f.tree
  waiting : g.waiting ≡ f.waiting
  packets : (t : ℕ) → packets_of t g.journal ≡ packets_of t f.journal

has_sent_itself : (f : FrameRun) → HasSent f f
has_sent_itself f = record { tree = refl; waiting = refl; packets = λ t. refl }

has_sent_on : (f g k : FrameRun) → HasSent f g → HasSent g k → HasSent f k
has_sent_on f g k a b = record { tree = b.tree ∙ a.tree; waiting = b.waiting ∙ a.waiting; packets = λ t. b.packets t ∙ a.packets t }

-- an edit sends nothing
edit_sent : (f : FrameRun) (e : Option Edit) → HasSent f (edited_frame f e)
edit_sent f None = record { tree = refl; waiting = refl; packets = λ t. ap (packets_of t) (append-nil f.journal) }
edit_sent f (Some e) = record {
  tree = refl;
  waiting = refl;
  packets = λ t. packets_push t f.journal (entries.Edited e) (new_frame t) ∙ append-nil (packets_of t f.journal);
}

all_sent : (az : List Action) (s : Served) → HasSent s.frame (perform_all az s).frame
unfolding perform
all_sent [] s = has_sent_itself s.frame
all_sent (a ∷ az) s =
    let d : Done = acted (frame_now s.frame).source a.node a.what in
    has_sent_on s.frame (edited_frame s.frame d.edit) (perform_all az (perform s a d)).frame (edit_sent s.frame d.edit) (all_sent az (perform s a d))

served_sent : (az : List Action) (s : State) (f : FrameRun) → HasSent f (served az s f).frame
unfolding served
served_sent az s f = go (filter (λ (a : Action). a.tree == f.tree) az) (is_gone s.history f.tree)
  where
    go : (own : List Action) (b : Bool)
        → HasSent f (if b then (record { frame = f; lines = map (λ a. act_line a acts.Gone) own }) else perform_all own (record { frame = f; lines = [] })).frame
    go own true = has_sent_itself f
    go own false = all_sent own (record { frame = f; lines = [] })

-- the frames that the actions leave
abbrev frames_left : List Action → State → List FrameRun → List FrameRun
frames_left az s fs = map (λ (d : Served). d.frame) (map (served az s) fs)

-- each of them comes from a frame of before
found_before : (az : List Action) (s : State) (t : ℕ) (fs : List FrameRun) (g : FrameRun) → find (of_tree t) (frames_left az s fs) ≡ Some g
    → (f : FrameRun) × ((find (of_tree t) fs ≡ Some f) × HasSent f g)
found_before az s t [] g h = absurd (cc)
found_before az s t (f ∷ fs) g h =
    let same = served_sent az s f in
    go (f.tree == t) (ap (λ x. if x == t then Some (served az s f).frame else find (of_tree t) (frames_left az s fs)) (sym same.tree) ∙ h) same (λ k. found_before az s t fs g k)
  where
    go : (b : Bool) → (if b then Some (served az s f).frame else find (of_tree t) (frames_left az s fs)) ≡ Some g → HasSent f (served az s f).frame
        → (find (of_tree t) (frames_left az s fs) ≡ Some g → (x : FrameRun) × ((find (of_tree t) fs ≡ Some x) × HasSent x g))
        → (x : FrameRun) × (((if b then Some f else find (of_tree t) fs) ≡ Some x) × HasSent x g)
    go true k same ih = (f, (refl, subst (λ x. HasSent f x) (some_same (served az s f).frame g k) same))
    go false k same ih = ih k

same_trees : (az : List Action) (s : State) (fs : List FrameRun) → map (λ (f : FrameRun). f.tree) (frames_left az s fs) ≡ map (λ (f : FrameRun). f.tree) fs
same_trees az s [] = refl
same_trees az s (f ∷ fs) =
    ap (λ x. x ∷ map (λ (g : FrameRun). g.tree) (frames_left az s fs)) (served_sent az s f).tree ∙ ap (λ l. f.tree ∷ l) (same_trees az s fs)

held_too : (h : List HEntry) (t : ℕ) (f g : FrameRun) → FrameHeld h t f → HasSent f g → FrameHeld h t g
held_too h t f g held same = record {
  packets = ap (λ w. got h t ++ w) same.waiting ∙ (held.packets ∙ sym (same.packets t));
  waiting = subst (λ w. AllOf t w) (sym same.waiting) held.waiting;
}

-- so all is received after actions, where it was before
acted_calm : (az : List Action) (e : Run) → Calm e → Calm (acted_on az e)
unfolding after_actions all_served
acted_calm az e c = record {
  held = record { at = λ t g k. let x = found_before az e.state t e.state.frames g k in held_too e.state.history t x.0 g (c.held.at t x.0 x.1.0) x.1.1 };
  quiet = record { at = λ t g k. let x = found_before az e.state t e.state.frames g k in x.1.1.waiting ∙ c.quiet.at t x.0 x.1.0 };
}

acted_trees : (az : List Action) (e : Run) → trees_of (acted_on az e).state ≡ trees_of e.state
unfolding after_actions all_served
acted_trees az e = same_trees az e.state e.state.frames

pub action_catches_up : (r e q : Run) (az : List Action) (t : ℕ) (f : FrameRun) → PacketsFit r.state → finale_of r ≡ Some e → catch_up (trees_of e.state) (acted_on az e) ≡ Some q
    → find_frame q.state t ≡ Some f → IsUpToDate q.state t f
unfolding find_frame
action_catches_up r e q az t f h k m found =
    let calm : AllRun Calm (Some e) = subst (λ x. AllRun Calm x) k (finale_calm r (held_where_fit r h)) in
    let all : AllRun (CalmUp t) (catch_up (trees_of e.state) (acted_on az e)) =
    subst (λ ts. AllRun (CalmUp t) (catch_up ts (acted_on az e))) (acted_trees az e) (all_catch_up t (acted_on az e) (acted_calm az e calm)) in
    let up : AllRun (CalmUp t) (Some q) = subst (λ x. AllRun (CalmUp t) x) m all in
    up_to_date q t f up.up found
