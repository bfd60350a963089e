-- Fair orders, and the order that was taken, of the examples of a stale packet and of the news page.
use Rattle.std.proofs.Common.{ℕ, ◌≡◌, false, List, [], ◌∷◌, map, refl, Some, option_map}
use Rattle.ax_ask.specs.declared.op.Item.{Item}
use Rattle.ax_run_rules.specs.Fair.{IsFair, each_follows}
use Rattle.ax_run_rules.specs.Taken.{Closed, order_taken}
use Rattle.ax_run_rules.specs.States.{FrameRun, Run, begin}
use Rattle.ax_run_rules.specs.Steps.{run}
use Rattle.ax_run_rules.proofs.Computing.{computing}
use Rattle.ax_run_rules.proofs.ScriptWords.{f, a, b, d, r}
use Rattle.ax_run_rules.proofs.examples.StaleAfterAsk as stale
use Rattle.ax_run_rules.proofs.examples.NewsPage as news

-- what a run leaves as a closed hub, and the order that this took
abbrev closed : Run → Closed
closed q = record { frames = map (λ (g : FrameRun). record { tree = g.tree; journal = g.journal }) q.state.frames; history = q.state.history }

abbrev taken : List (List ℕ) → Run → List Item
taken looks q = order_taken (closed q) looks

-- the browser's operation, due at once, stands before each receipt, and its token is delivered
at_once : IsFair stale.script (f 1 ∷ f 1 ∷ f 1 ∷ f 1 ∷ f 1 ∷ b ∷ d 1 1 ∷ a 1 ∷ a 1 ∷ [])
unfolding computing
at_once = record { in_time = refl; none_due = refl; ready_asked = refl; tokens_delivered = refl }

-- a receipt while that operation is due
receipt_before_due : each_follows stale.script [] stale.script.order ≡ false
unfolding computing
receipt_before_due = refl

-- three frames in turn, all receipts, the browser, the readers
news_in_turn : IsFair news.script (f 1 ∷ f 2 ∷ f 3 ∷ f 1 ∷ f 2 ∷ f 3 ∷ f 1 ∷ f 2 ∷ f 3 ∷ f 1 ∷ f 3 ∷ f 1 ∷ f 1 ∷ f 1 ∷ f 1 ∷ f 1 ∷ f 1 ∷ f 1 ∷ a 1 ∷ a 1 ∷ a 2 ∷ a 3 ∷ b ∷ r 1 ∷ r 2 ∷ r 3 ∷ [])
unfolding computing
news_in_turn = record { in_time = refl; none_due = refl; ready_asked = refl; tokens_delivered = refl }

-- the delivery stands just before the pass that came after it
delivery_with_its_pass :
    option_map (taken []) (run stale.script.order (begin stale.script)) ≡ Some (f 1 ∷ f 1 ∷ a 1 ∷ b ∷ f 1 ∷ f 1 ∷ a 1 ∷ d 1 1 ∷ f 1 ∷ a 1 ∷ [])
unfolding computing
delivery_with_its_pass = refl

-- each query stands after the last entry that its snapshot counted
queries_at_their_entries :
    option_map (taken ((3 ∷ []) ∷ (4 ∷ []) ∷ (4 ∷ []) ∷ [])) (run news.script.order (begin news.script))
    ≡ Some (f 1 ∷ f 1 ∷ f 1 ∷ f 1 ∷ f 1 ∷ f 1 ∷ f 1 ∷ f 1 ∷ a 1 ∷ f 2 ∷ f 2 ∷ f 2 ∷ a 2 ∷ f 3 ∷ f 3 ∷ f 3 ∷ f 3 ∷ a 3 ∷ r 1 ∷ f 1 ∷ f 1 ∷ f 1 ∷ a 1 ∷ r 2 ∷ r 3 ∷ b ∷ [])
unfolding computing
queries_at_their_entries = refl
