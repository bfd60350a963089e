-- The parts that a run of a frame with a stale packet leaves, as a closed hub's: all that the laws ask of them holds, and their order, its lines and its text are computed.
use Rattle.std.proofs.Common.{ℕ, zero, suc, ◌≡◌, ◌≤◌, ◌==◌, true, false, List, [], ◌∷◌, ◌++◌, length, map, find, flat_map, refl, sym, ap, ◌∙◌, subst, Option, Some, None, option_map, arith}
use Rattle.std.proofs.lemmas.Bool.{eqb-true}
use Rattle.ax_trees.proofs.Trees.{by_go}
use Rattle.ax_tree.specs.declared.packet.HEntry.{HEntry}
use Rattle.ax_tree.specs.declared.packet.HEntry.TheVariants as events
use Rattle.ax_tree.specs.Journals.{packets_of}
use Rattle.ax_tree.specs.Packets.{Fits}
use Rattle.ax_ask.specs.declared.op.TimedOp.{TimedOp}
use Rattle.ax_ask.specs.declared.op.BrowserOp.TheVariants as browsers
use Rattle.ax_ask.specs.declared.query.Query.TheVariants as queries
use Rattle.ax_rules.specs.Histories.{got}
use Rattle.ax_rules.specs.Laws.{Begins}
use Rattle.ax_run_rules.specs.Scripts.{Script}
use Rattle.ax_run_rules.specs.Fair.{IsFair}
use Rattle.ax_run_rules.specs.States.{FrameRun, Run, begin}
use Rattle.ax_run_rules.specs.Steps.{run}
use Rattle.ax_run_rules.specs.ReplayText.{replay_text}
use Rattle.ax_run_rules.specs.Taken.{ClosedFrame, Closed, order_taken}
use Rattle.ax_run_rules.proofs.Computing.{computing}
use Rattle.ax_run_rules.proofs.ScriptWords.{asked, after, f, a, b, d, r}
use Rattle.ax_run_rules.proofs.examples.StaleAfterAsk as stale
use Rattle.ax_laws.proofs.GoodPackets.{packets_fit}
use Rattle.ax_order_laws.specs.Parts.{op_in, browser_op_in, list_at, frame_in, journal_or, journal_in, ops_of, waiting_of, FramePacketsFit, RisesWithin, IsClosedHub, IsTakenFrom, state_taken}
use Rattle.ax_order_laws.specs.Told.{told_by, placed}
use Rattle.ax_order_laws.specs.Workers.{is_due_after, each_comes_in_time}
use Rattle.ax_order_laws.specs.Laws.{parts_text}

abbrev pub script : Script
script = record stale.script {
  browser = (after 1 (browsers.Ask 1) ∷ []);
  readers = ((asked 0 queries.Focus ∷ asked 1 queries.Focus ∷ asked 3 queries.Focus ∷ []) ∷ []);
}

abbrev closed : Option Run → Closed
closed None = record { frames = []; history = [] }
closed (Some q) = record { frames = map (λ (g : FrameRun). record { tree = g.tree; journal = g.journal }) q.state.frames; history = q.state.history }

-- the parts after the order of the example of a stale packet
abbrev pub parts : Closed
parts = closed (run stale.script.order (begin script))

-- the reader's snapshots counted no entry, the first packet and the asking, and all four entries
abbrev pub looks : List (List ℕ)
looks = (0 ∷ 2 ∷ 4 ∷ []) ∷ []

-- ---- what the laws ask of the parts

abbrev OnlyOf : ℕ → List HEntry → Type 0
OnlyOf t [] = Unit {0}
OnlyOf t (events.Got p ∷ h) = (p.tree ≡ t) × OnlyOf t h
OnlyOf t (events.Asked u ∷ h) = OnlyOf t h
OnlyOf t (events.Ended u ∷ h) = OnlyOf t h
OnlyOf t (events.Probed u v ∷ h) = OnlyOf t h

none_of_others : (u t : ℕ) (h : List HEntry) → OnlyOf u h → (u == t) ≡ false → got h t ≡ []
unfolding got
none_of_others u t [] o e = refl
none_of_others u t (events.Got p ∷ h) o e = let other : (p.tree == t) ≡ false = ap (λ n. n == t) o.0 ∙ e in let rest = none_of_others u t h o.1 e in rw other rest
none_of_others u t (events.Asked v ∷ h) o e = none_of_others u t h o e
none_of_others u t (events.Ended v ∷ h) o e = none_of_others u t h o e
none_of_others u t (events.Probed v w ∷ h) o e = none_of_others u t h o e

abbrev first_of : List ClosedFrame → ClosedFrame
first_of [] = record { tree = 0; journal = [] }
first_of (g ∷ gs) = g

one_frame : parts.frames ≡ first_of parts.frames ∷ []
unfolding computing
one_frame = refl

its_tree : (first_of parts.frames).tree ≡ 1
unfolding computing
its_tree = refl

none_found : (g : ClosedFrame) (t : ℕ) → (g.tree == t) ≡ false → find (λ (x : ClosedFrame). x.tree == t) (g ∷ []) ≡ None
none_found g t e = rw e refl

pub no_other : (t : ℕ) → (1 == t) ≡ false → frame_in parts t ≡ None
no_other t e = ap (find (λ (x : ClosedFrame). x.tree == t)) one_frame ∙ none_found (first_of parts.frames) t (ap (λ n. n == t) its_tree ∙ e)

its_packets : got parts.history 1 ++ [] ≡ packets_of 1 (journal_in parts 1)
unfolding computing
its_packets = refl

its_history : OnlyOf 1 parts.history
unfolding computing
its_history = (refl, (refl, (refl, tt)))

own_fit : FramePacketsFit (frame_in parts 1) (got parts.history 1 ++ [])
unfolding computing
own_fit = record { fits = subst (Fits 1 (journal_in parts 1)) (sym its_packets) (packets_fit 1 (journal_in parts 1)); whole = refl }

all_fit : (t : ℕ) → FramePacketsFit (frame_in parts t) (got parts.history t ++ waiting_of [] t)
all_fit t =
    by_go (1 == t)
    (λ e. subst (λ (u : ℕ). FramePacketsFit (frame_in parts u) (got parts.history u ++ [])) (eqb-true 1 t e) own_fit)
    (λ e. subst (λ (o : Option ClosedFrame). FramePacketsFit o (got parts.history t ++ [])) (sym (no_other t e)) (ap (λ l. l ++ []) (none_of_others 1 t parts.history its_history e)))

looks_rise : (k : ℕ) → RisesWithin 0 (length parts.history) (list_at looks k)
unfolding computing
looks_rise zero = (omega arith, omega arith, (omega arith, omega arith, (omega arith, omega arith, tt)))
looks_rise (suc k) = tt

is_closed : IsClosedHub parts [] looks
unfolding computing
is_closed = record { trees = (refl, tt); packets = all_fit; rises = looks_rise }

its_ops : Begins (ops_of script 1) (flat_map op_in (journal_in parts 1))
unfolding computing
its_ops = record { rest = []; joined = refl }

all_ops : (t : ℕ) → Begins (ops_of script t) (flat_map op_in (journal_in parts t))
all_ops t =
    by_go (1 == t)
    (λ e. subst (λ (u : ℕ). Begins (ops_of script u) (flat_map op_in (journal_in parts u))) (eqb-true 1 t e) its_ops)
    (λ e. record { rest = []; joined = no_ops t e ∙ sym (ap (λ (o : Option ClosedFrame). flat_map op_in (journal_or o) ++ []) (no_other t e)) })
  where
    no_ops : (t : ℕ) → (1 == t) ≡ false → ops_of script t ≡ []
    no_ops t e = rw e refl

its_queries : (k : ℕ) → length (list_at looks k) ≤ length (list_at script.readers k)
its_queries zero = omega arith
its_queries (suc k) = omega arith

its_browser : Begins (map (λ (o : TimedOp). o.op) script.browser) (flat_map browser_op_in parts.history)
unfolding computing
its_browser = record { rest = []; joined = refl }

script_holds : IsTakenFrom script parts looks
unfolding computing
script_holds = record { trees = refl; ops = all_ops; browser = its_browser; queries = its_queries }

-- ---- what the laws say of them, computed

the_order : order_taken parts looks ≡ r 1 ∷ f 1 ∷ f 1 ∷ a 1 ∷ b ∷ r 1 ∷ f 1 ∷ f 1 ∷ a 1 ∷ d 1 1 ∷ f 1 ∷ a 1 ∷ r 1 ∷ []
unfolding computing
the_order = refl

the_lines : placed (told_by script parts looks) [] (order_taken parts looks) ≡ option_map (λ (q : Run). q.lines) (run (order_taken parts looks) (begin script))
unfolding computing told_by
the_lines = refl

the_text : parts_text script parts [] looks ≡ replay_text script (order_taken parts looks)
unfolding computing told_by state_taken parts_text
the_text = refl

in_time : each_comes_in_time script.browser [] parts.history ≡ true
unfolding computing is_due_after
in_time = refl

none_due : is_due_after script.browser parts.history ≡ false
unfolding computing is_due_after
none_due = refl

fair : IsFair script (order_taken parts looks)
unfolding computing
fair = record { in_time = refl; none_due = refl; ready_asked = refl; tokens_delivered = refl }
