-- A history is in time just where the order of its items is.
use Rattle.std.proofs.Common.{suc, ◌≡◌, not, ◌&&◌, true, false, leb, List, [], ◌∷◌, ◌++◌, length, map, filter, flat_map, slice_get, refl, sym, ap, ◌∙◌, option_to_list}
use Rattle.std.specs.List.{list_any}
use Rattle.std.proofs.lemmas.List.{map-append}
use Rattle.ax_tree.specs.declared.packet.HEntry.{HEntry}
use Rattle.ax_tree.specs.declared.packet.HEntry.TheVariants as events
use Rattle.ax_ask.specs.declared.op.TimedOp.{TimedOp}
use Rattle.ax_run_rules.specs.Scripts.{Script}
use Rattle.ax_run_rules.specs.Fair.{is_receipt, is_browser, is_due, may_follow, each_follows}
use Rattle.ax_order_laws.specs.Parts.{browser_op_in}
use Rattle.ax_order_laws.specs.Told.{is_entry}
use Rattle.ax_order_laws.specs.Workers.{is_got, receipts_in, is_due_after, comes_in_time, each_comes_in_time, item_in}
use Rattle.ax_order_laws.specs.Laws.{InTimeAsItems}
use Rattle.ax_order_laws.proofs.Lists.{count}

same_receipts : (h : List HEntry) → count is_receipt (map item_in h) ≡ receipts_in h
same_receipts [] = refl
same_receipts (events.Got p ∷ h) = ap suc (same_receipts h)
same_receipts (events.Asked t ∷ h) = same_receipts h
same_receipts (events.Ended t ∷ h) = same_receipts h
same_receipts (events.Probed t u ∷ h) = same_receipts h

same_ops : (h : List HEntry) → count is_browser (map item_in h) ≡ length (flat_map browser_op_in h)
same_ops [] = refl
same_ops (events.Got p ∷ h) = same_ops h
same_ops (events.Asked t ∷ h) = ap suc (same_ops h)
same_ops (events.Ended t ∷ h) = ap suc (same_ops h)
same_ops (events.Probed t u ∷ h) = ap suc (same_ops h)

same_entries : (h : List HEntry) → map is_receipt (filter is_entry (map item_in h)) ≡ map is_got h
same_entries [] = refl
same_entries (events.Got p ∷ h) = ap (λ l. true ∷ l) (same_entries h)
same_entries (events.Asked t ∷ h) = ap (λ l. false ∷ l) (same_entries h)
same_entries (events.Ended t ∷ h) = ap (λ l. false ∷ l) (same_entries h)
same_entries (events.Probed t u ∷ h) = ap (λ l. false ∷ l) (same_entries h)

same_due : (s : Script) (h : List HEntry) → is_due s (map item_in h) ≡ is_due_after s.browser h
unfolding is_due is_due_after
same_due s h =
    ap (λ n. list_any (λ (o : TimedOp). leb o.after n) (option_to_list (slice_get s.browser (count is_browser (map item_in h))))) (same_receipts h)
    ∙ ap (λ n. list_any (λ (o : TimedOp). leb o.after (receipts_in h)) (option_to_list (slice_get s.browser n))) (same_ops h)

same_follow : (s : Script) (before : List HEntry) (e : HEntry) → may_follow s (map item_in before) (item_in e) ≡ comes_in_time s.browser before e
unfolding may_follow
same_follow s before (events.Got p) = ap not (same_due s before)
same_follow s before (events.Asked t) = same_due s before
same_follow s before (events.Ended t) = same_due s before
same_follow s before (events.Probed t u) = same_due s before

same_all : (s : Script) (before h : List HEntry) → each_follows s (map item_in before) (map item_in h) ≡ each_comes_in_time s.browser before h
same_all s before [] = refl
same_all s before (e ∷ h) =
    ap (λ x. x && each_follows s (map item_in before ++ item_in e ∷ []) (map item_in h)) (same_follow s before e)
    ∙ ap (λ x. comes_in_time s.browser before e && x) (ap (λ b. each_follows s b (map item_in h)) (sym (map-append item_in before (e ∷ []))) ∙ same_all s (before ++ e ∷ []) h)

pub in_time_as_items : (s : Script) (h : List HEntry) → InTimeAsItems s h
in_time_as_items s h = record { in_time = same_all s [] h; due = same_due s h; entries = same_entries h }
