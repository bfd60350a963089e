-- When an order is fair to a script.
use Rattle.std.specs.Prelude.{ℕ, zero, suc, Bool, true, false, ◌==◌, ◌&&◌, not, nat_le, if◌then◌else◌, ◌≡◌, List, [], ◌∷◌, ◌++◌, length, filter, filter_map, slice_get, bytes_eq, Option, Some, None, option_map, option_and_then, option_to_list}
use Rattle.std.specs.List.{list_any, list_all, enumerate_from}
use Rattle.ax_ask.specs.declared.op.Item.{Item}
use Rattle.ax_ask.specs.declared.op.Item.TheVariants.{Frame, Receive, Browser, Deliver, Reader}
use Rattle.ax_ask.specs.declared.op.TimedOp.{TimedOp}
use Rattle.ax_ask.specs.declared.query.TimedQuery.{TimedQuery}
use Rattle.ax_ask.specs.declared.line.Line.{Line}
use Rattle.ax_ask.specs.declared.line.Line.TheVariants as lines
use Rattle.ax_rules.specs.Sequences.{until}
use Rattle.ax_run_rules.specs.Scripts.{Script, FrameScript}
use Rattle.ax_run_rules.specs.States.{Run, begin}
use Rattle.ax_run_rules.specs.Steps.{run}

-- ---- what a part of an order has done

abbrev pub is_receipt : Item → Bool
is_receipt (Receive t) = true
is_receipt i = false

abbrev pub is_browser : Item → Bool
is_browser Browser = true
is_browser i = false

abbrev pub is_reader : ℕ → Item → Bool
is_reader k (Reader n) = n == k
is_reader k i = false

abbrev pub delivered_to : ℕ → Item → Option ℕ
delivered_to t (Deliver u n) = if u == t then Some n.0 else None
delivered_to t i = None

abbrev pub receipts : List Item → ℕ
receipts o = length (filter is_receipt o)

-- the next browser operation after these items, and the next query of reader k
abbrev pub next_browser : Script → List Item → Option TimedOp
next_browser s o = slice_get s.browser (length (filter is_browser o))

abbrev pub queries_of : Script → ℕ → Option (List TimedQuery)
queries_of s zero = None
queries_of s (suc k) = slice_get s.readers k

abbrev pub next_query : Script → ℕ → List Item → Option TimedQuery
next_query s k o = option_and_then (λ (qs : List TimedQuery). slice_get qs (length (filter (is_reader k) o))) (queries_of s k)

-- the next browser operation has seen its receipts, and the next query of reader k
unfoldable pub is_due : Script → List Item → Bool
is_due s o = list_any (λ (b : TimedOp). nat_le b.after (receipts o)) (option_to_list (next_browser s o))

unfoldable pub is_query_due : Script → ℕ → List Item → Bool
is_query_due s k o = list_any (λ (q : TimedQuery). nat_le q.after (receipts o)) (option_to_list (next_query s k o))

-- ---- the parts of fairness

-- no receipt while a browser operation is due, and nothing before its time
unfoldable pub may_follow : Script → List Item → Item → Bool
may_follow s before (Frame t) = true
may_follow s before (Receive t) = not (is_due s before)
may_follow s before Browser = is_due s before
may_follow s before (Deliver t n) = true
may_follow s before (Reader k) = is_query_due s k before

abbrev pub each_follows : Script → List Item → List Item → Bool
each_follows s before [] = true
each_follows s before (i ∷ o) = may_follow s before i && each_follows s (before ++ i ∷ []) o

-- the queries of a reader before its first one that waits for receipts
abbrev pub ready_count : List TimedQuery → ℕ
ready_count qs = length (until (λ (q : TimedQuery). not (q.after == 0)) qs)

unfoldable pub all_ready_asked : Script → List Item → Bool
all_ready_asked s o = list_all (λ (r : ℕ × List TimedQuery). nat_le (ready_count r.1) (length (filter (is_reader r.0) o))) (enumerate_from 1 s.readers)

abbrev pub token_given : ℕ → Line → Option ℕ
token_given t (lines.Asked u (Some n)) = if u == t then Some n.0 else None
token_given t l = None

-- each tree's deliveries name the tokens that were given for it, each once and in order
unfoldable pub all_delivered : Script → List Item → List Line → Bool
all_delivered s o ls = list_all (λ (f : FrameScript). bytes_eq (filter_map (delivered_to f.tree) o) (filter_map (token_given f.tree) ls)) s.frames

pub record IsFair (s : Script) (o : List Item) : Type 0 where
  pub in_time : each_follows s [] o ≡ true
  pub none_due : is_due s o ≡ false
  pub ready_asked : all_ready_asked s o ≡ true
  -- each item is there in its turn, so that each list's operations stand in order; and each token that was given is delivered
  pub tokens_delivered : option_map (λ (r : Run). all_delivered s o r.lines) (run o (begin s)) ≡ Some true
