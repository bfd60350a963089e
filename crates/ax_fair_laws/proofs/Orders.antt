-- Orders and calls with the same receipts and operations.
use Rattle.std.proofs.Common.{◌≡◌, ℕ, suc, ◌+◌, Bool, true, false, not, ◌&&◌, cond, List, [], ◌∷◌, ◌++◌, length, map, filter, slice_get, option_to_list, refl, sym, ap, ◌∙◌, append-nil}
use Rattle.std.specs.Prelude.{nat_le}
use Rattle.std.specs.List.{list_any}
use Rattle.std.proofs.lemmas.List.{map-append}
use Rattle.std.proofs.lemmas.List.Elements.{filter-append}
use Rattle.ax_ask.specs.declared.op.TimedOp.{TimedOp}
use Rattle.ax_ask.specs.declared.op.Item.{Item}
use Rattle.ax_ask.specs.declared.op.Item.TheVariants as items
use Rattle.ax_ask.specs.Calls.{Receive, Do, Deliver}
use Rattle.ax_workers.specs.Browser.{Called, ops_done, each_follows as calls_follow, is_delivery, is_due as is_due_call, is_receipt as is_receipt_call, receipts as receipts_of, IsServedToEnd}
use Rattle.ax_run_rules.specs.Scripts.{Script}
use Rattle.ax_run_rules.specs.Fair.{is_receipt, is_browser, is_due, may_follow, next_browser, receipts}
use Rattle.ax_order_laws.specs.Told.{is_entry}
use Rattle.ax_fair_laws.specs.Laws.{receipts_among, receipts_called, entries_follow}

-- ---- by the receipts alone

abbrev count_true : List Bool → ℕ
count_true [] = 0
count_true (true ∷ bs) = suc (count_true bs)
count_true (false ∷ bs) = count_true bs

abbrev count_false : List Bool → ℕ
count_false [] = 0
count_false (true ∷ bs) = count_false bs
count_false (false ∷ bs) = suc (count_false bs)

-- the next operation after these receipts and operations is due
abbrev due_after : List TimedOp → List Bool → Bool
due_after ops bs = list_any (λ (o : TimedOp). nat_le o.after (count_true bs)) (option_to_list (slice_get ops (count_false bs)))

abbrev one_follows : List TimedOp → List Bool → Bool → Bool
one_follows ops before true = not (due_after ops before)
one_follows ops before false = due_after ops before

abbrev all_follow : List TimedOp → List Bool → List Bool → Bool
all_follow ops before [] = true
all_follow ops before (b ∷ bs) = one_follows ops before b && all_follow ops (before ++ b ∷ []) bs

-- ---- of calls

called-append : (xs ys : List Called) → receipts_called (xs ++ ys) ≡ receipts_called xs ++ receipts_called ys
called-append xs ys =
    ap (map (λ (c : Called). is_receipt_call c.0)) (filter-append (λ (c : Called). not (is_delivery c.0)) xs ys)
    ∙ map-append (λ (c : Called). is_receipt_call c.0) (filter (λ (c : Called). not (is_delivery c.0)) xs) (filter (λ (c : Called). not (is_delivery c.0)) ys)

receipts_counted : (calls : List Called) → receipts_of calls ≡ count_true (receipts_called calls)
receipts_counted [] = refl
receipts_counted ((Receive, line) ∷ calls) = ap suc (receipts_counted calls)
receipts_counted ((Do op, line) ∷ calls) = receipts_counted calls
receipts_counted ((Deliver t n, line) ∷ calls) = receipts_counted calls

ops_counted : (calls : List Called) → length (ops_done calls) ≡ count_false (receipts_called calls)
ops_counted [] = refl
ops_counted ((Receive, line) ∷ calls) = ops_counted calls
ops_counted ((Do op, line) ∷ calls) = ap suc (ops_counted calls)
ops_counted ((Deliver t n, line) ∷ calls) = ops_counted calls

due_called : (ops : List TimedOp) (calls : List Called) → is_due_call ops calls ≡ due_after ops (receipts_called calls)
due_called ops calls =
    ap (λ (n : ℕ). list_any (λ (o : TimedOp). nat_le o.after n) (option_to_list (slice_get ops (length (ops_done calls))))) (receipts_counted calls)
    ∙ ap (λ (n : ℕ). list_any (λ (o : TimedOp). nat_le o.after (count_true (receipts_called calls))) (option_to_list (slice_get ops n))) (ops_counted calls)

all_called : (ops : List TimedOp) (before calls : List Called) → calls_follow ops before calls ≡ all_follow ops (receipts_called before) (receipts_called calls)
all_called ops before [] = refl
all_called ops before ((Receive, line) ∷ calls) =
    ap (λ b. not b && calls_follow ops (before ++ (Receive, line) ∷ []) calls) (due_called ops before)
    ∙ ap (λ b. not (due_after ops (receipts_called before)) && b) (all_called ops (before ++ (Receive, line) ∷ []) calls ∙ ap (λ l. all_follow ops l (receipts_called calls)) (called-append before ((Receive, line) ∷ [])))
all_called ops before ((Do op, line) ∷ calls) =
    ap (λ b. b && calls_follow ops (before ++ (Do op, line) ∷ []) calls) (due_called ops before)
    ∙ ap (λ b. due_after ops (receipts_called before) && b) (all_called ops (before ++ (Do op, line) ∷ []) calls ∙ ap (λ l. all_follow ops l (receipts_called calls)) (called-append before ((Do op, line) ∷ [])))
all_called ops before ((Deliver t n, line) ∷ calls) =
    all_called ops (before ++ (Deliver t n, line) ∷ []) calls
    ∙ ap (λ l. all_follow ops l (receipts_called calls)) (called-append before ((Deliver t n, line) ∷ []) ∙ append-nil (receipts_called before))

-- ---- of items

pub among-append : (xs ys : List Item) → receipts_among (xs ++ ys) ≡ receipts_among xs ++ receipts_among ys
among-append xs ys = ap (map is_receipt) (filter-append is_entry xs ys) ∙ map-append is_receipt (filter is_entry xs) (filter is_entry ys)

items_received : (o : List Item) → receipts o ≡ count_true (receipts_among o)
items_received [] = refl
items_received (items.Frame t ∷ o) = items_received o
items_received (items.Receive t ∷ o) = ap suc (items_received o)
items_received (items.Browser ∷ o) = items_received o
items_received (items.Deliver t n ∷ o) = items_received o
items_received (items.Reader k ∷ o) = items_received o

items_done : (o : List Item) → length (filter is_browser o) ≡ count_false (receipts_among o)
items_done [] = refl
items_done (items.Frame t ∷ o) = items_done o
items_done (items.Receive t ∷ o) = items_done o
items_done (items.Browser ∷ o) = ap suc (items_done o)
items_done (items.Deliver t n ∷ o) = items_done o
items_done (items.Reader k ∷ o) = items_done o

due_among : (s : Script) (o : List Item) → is_due s o ≡ due_after s.browser (receipts_among o)
unfolding is_due
due_among s o =
    ap (λ (n : ℕ). list_any (λ (b : TimedOp). nat_le b.after n) (option_to_list (next_browser s o))) (items_received o)
    ∙ ap (λ (n : ℕ). list_any (λ (b : TimedOp). nat_le b.after (count_true (receipts_among o))) (option_to_list (slice_get s.browser n))) (items_done o)

may_receive : (s : Script) (before : List Item) (t : _) → may_follow s before (items.Receive t) ≡ not (is_due s before)
unfolding may_follow
may_receive s before t = refl

may_do : (s : Script) (before : List Item) → may_follow s before items.Browser ≡ is_due s before
unfolding may_follow
may_do s before = refl

quiet : (s : Script) (before o : List Item) (i : Item) → is_entry i ≡ false → receipts_among (before ++ i ∷ []) ≡ receipts_among before
quiet s before o i none = among-append before (i ∷ []) ∙ (ap (λ b. receipts_among before ++ map is_receipt (cond b (i ∷ []) [])) none ∙ append-nil (receipts_among before))

all_among : (s : Script) (before o : List Item) → entries_follow s before o ≡ all_follow s.browser (receipts_among before) (receipts_among o)
all_among s before [] = refl
all_among s before (items.Frame t ∷ o) = all_among s (before ++ items.Frame t ∷ []) o ∙ ap (λ l. all_follow s.browser l (receipts_among o)) (quiet s before o (items.Frame t) refl)
all_among s before (items.Receive t ∷ o) =
    ap (λ b. b && entries_follow s (before ++ items.Receive t ∷ []) o) (may_receive s before t ∙ ap not (due_among s before))
    ∙ ap (λ b. not (due_after s.browser (receipts_among before)) && b) (all_among s (before ++ items.Receive t ∷ []) o ∙ ap (λ l. all_follow s.browser l (receipts_among o)) (among-append before (items.Receive t ∷ [])))
all_among s before (items.Browser ∷ o) =
    ap (λ b. b && entries_follow s (before ++ items.Browser ∷ []) o) (may_do s before ∙ due_among s before)
    ∙ ap (λ b. due_after s.browser (receipts_among before) && b) (all_among s (before ++ items.Browser ∷ []) o ∙ ap (λ l. all_follow s.browser l (receipts_among o)) (among-append before (items.Browser ∷ [])))
all_among s before (items.Deliver t n ∷ o) = all_among s (before ++ items.Deliver t n ∷ []) o ∙ ap (λ l. all_follow s.browser l (receipts_among o)) (quiet s before o (items.Deliver t n) refl)
all_among s before (items.Reader k ∷ o) = all_among s (before ++ items.Reader k ∷ []) o ∙ ap (λ l. all_follow s.browser l (receipts_among o)) (quiet s before o (items.Reader k) refl)

pub in_time : (s : Script) (o : List Item) (done : ℕ) (calls : List Called) → IsServedToEnd s.browser done calls → receipts_called calls ≡ receipts_among o → entries_follow s [] o ≡ true
in_time s o done calls served same = all_among s [] o ∙ (ap (all_follow s.browser []) (sym same) ∙ (sym (all_called s.browser [] calls) ∙ served.served.in_time))

pub none_due : (s : Script) (o : List Item) (done : ℕ) (calls : List Called) → IsServedToEnd s.browser done calls → receipts_called calls ≡ receipts_among o → is_due s o ≡ false
none_due s o done calls served same = due_among s o ∙ (ap (due_after s.browser) (sym same) ∙ (sym (due_called s.browser calls) ∙ served.none_due))
