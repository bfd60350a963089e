-- What the workers' clauses leave in a history, in the deliveries and in the looks.
use Rattle.std.specs.Prelude.{ℕ, ◌≡◌, ◌≤◌, Bool, true, false, not, ◌&&◌, nat_le, List, [], ◌∷◌, ◌++◌, length, take, filter, filter_map, flat_map, slice_get, Option, Some, None, option_to_list}
use Rattle.std.specs.List.{list_any}
use Rattle.ax_tree.specs.declared.packet.JEntry.{JEntry}
use Rattle.ax_tree.specs.declared.packet.JEntry.TheVariants as entries
use Rattle.ax_tree.specs.declared.packet.HEntry.{HEntry}
use Rattle.ax_tree.specs.declared.packet.HEntry.TheVariants as events
use Rattle.ax_ask.specs.declared.op.TimedOp.{TimedOp}
use Rattle.ax_ask.specs.declared.op.Item.{Item}
use Rattle.ax_ask.specs.declared.op.Item.TheVariants.{Receive, Browser}
use Rattle.ax_ask.specs.declared.query.TimedQuery.{TimedQuery}
use Rattle.ax_run_rules.specs.Scripts.{Script}
use Rattle.ax_run_rules.specs.Fair.{token_given}
use Rattle.ax_run_rules.specs.Taken.{ClosedFrame, Closed}
use Rattle.ax_order_laws.specs.Parts.{browser_op_in, list_at, frame_in}
use Rattle.ax_order_laws.specs.Told.{entry_lines}

abbrev pub is_got : HEntry → Bool
is_got (events.Got p) = true
is_got e = false

abbrev pub receipts_in : List HEntry → ℕ
receipts_in h = length (filter is_got h)

-- the browser operation after those of the history has seen its receipts
unfoldable pub is_due_after : List TimedOp → List HEntry → Bool
is_due_after os h = list_any (λ (o : TimedOp). nat_le o.after (receipts_in h)) (option_to_list (slice_get os (length (flat_map browser_op_in h))))

-- no receipt while an operation is due, and no operation before it is
abbrev pub comes_in_time : List TimedOp → List HEntry → HEntry → Bool
comes_in_time os before (events.Got p) = not (is_due_after os before)
comes_in_time os before (events.Asked t) = is_due_after os before
comes_in_time os before (events.Ended t) = is_due_after os before
comes_in_time os before (events.Probed t u) = is_due_after os before

abbrev pub each_comes_in_time : List TimedOp → List HEntry → List HEntry → Bool
each_comes_in_time os before [] = true
each_comes_in_time os before (e ∷ h) = comes_in_time os before e && each_comes_in_time os (before ++ e ∷ []) h

abbrev pub delivered : JEntry → Option ℕ
delivered (entries.Delivered n) = Some n.0
delivered e = None

pub record Worked (s : Script) (c : Closed) (looks : List (List ℕ)) : Type 0 where
  -- the browser worker: each operation once it is due, no receipt while one is, and none due at its end
  pub in_time : each_comes_in_time s.browser [] c.history ≡ true
  pub none_due : is_due_after s.browser c.history ≡ false
  -- each token that an ask gave is delivered, in order, and no other
  pub delivers : (t : ℕ) (f : ClosedFrame) → frame_in c t ≡ Some f → filter_map delivered f.journal ≡ filter_map (token_given t) (entry_lines [] c.history)
  -- the readers' workers: each query at a look at enough receipts; the first that is left waits for at least one
  pub asked : (k j n : ℕ) (q : TimedQuery) → slice_get (list_at looks k) j ≡ Some n → slice_get (list_at s.readers k) j ≡ Some q → q.after ≤ receipts_in (take n c.history)
  pub left : (k : ℕ) (q : TimedQuery) → slice_get (list_at s.readers k) (length (list_at looks k)) ≡ Some q → 1 ≤ q.after

-- the item that adds an entry of the history
abbrev pub item_in : HEntry → Item
item_in (events.Got p) = Receive p.tree
item_in (events.Asked t) = Browser
item_in (events.Ended t) = Browser
item_in (events.Probed t u) = Browser
