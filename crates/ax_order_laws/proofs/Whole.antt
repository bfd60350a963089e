-- All of the journals, of the history and of the looks stands in the order taken.
use Rattle.std.proofs.Common.{ℕ, ◌≡◌, true, false, List, [], ◌∷◌, ◌++◌, length, map, take, filter, filter_map, flat_map, slice_get, refl, sym, ap, ◌∙◌, subst, Some, arith, append_assoc, append-nil}
use Rattle.std.proofs.lemmas.List.{take_all, map-append}
use Rattle.std.proofs.lemmas.List.Elements.{filter-append}
use Rattle.ax_tree.specs.declared.packet.Packet.{Packet}
use Rattle.ax_tree.specs.declared.packet.HEntry.{HEntry}
use Rattle.ax_tree.specs.declared.packet.HEntry.TheVariants as events
use Rattle.ax_ask.specs.declared.op.BrowserOp.{BrowserOp}
use Rattle.ax_ask.specs.declared.op.BrowserOp.TheVariants as browsers
use Rattle.ax_ask.specs.declared.op.Item.{Item}
use Rattle.ax_ask.specs.declared.op.Item.TheVariants.{Frame, Receive, Browser, Deliver, Reader}
use Rattle.ax_run_rules.specs.Fair.{is_receipt}
use Rattle.ax_run_rules.specs.Taken.{Closed, order_taken}
use Rattle.ax_order_laws.specs.Parts.{op_in, journal_in, IsClosedHub}
use Rattle.ax_order_laws.specs.Told.{is_entry}
use Rattle.ax_order_laws.specs.Workers.{is_got, delivered}
use Rattle.ax_order_laws.specs.Laws.{StandsWhole}
use Rattle.ax_order_laws.proofs.Lists.{count, count_hit, count_miss, take_next}
use Rattle.ax_order_laws.proofs.Places.{event_of, Placed, EachPlaced}
use Rattle.ax_order_laws.proofs.Standing.{order_done}
use Rattle.ax_order_laws.proofs.Keeping.{Kept, kept_first, kept_next}
use Rattle.ax_order_laws.proofs.Fairness.{counted_first, counted_all}

kept_all : (c : Closed) (looks : List (List ℕ)) (o b : List Item) → EachPlaced c looks b o → Kept c looks b → Kept c looks (b ++ o)
kept_all c looks [] b p k = subst (Kept c looks) (sym (append-nil b)) k
kept_all c looks (i ∷ o) b p k = subst (Kept c looks) (append_assoc b (i ∷ []) o) (kept_all c looks o (b ++ i ∷ []) p.1 (kept_next c looks b i p.0 k))

-- ---- receipts among the entries

module _ (c : Closed) (looks : List (List ℕ)) where
  abbrev Shown : List Item → Type 0
  Shown b = map is_receipt (filter is_entry b) ≡ map is_got (take (count is_entry b) c.history)

  no_entry : (b : List Item) (i : Item) → is_entry i ≡ false → Shown b → Shown (b ++ i ∷ [])
  no_entry b i n s =
      ap (map is_receipt) (filter-append is_entry b (i ∷ []) ∙ ((rw n refl) ∙ append-nil (filter is_entry b)))
      ∙ (s ∙ ap (λ k. map is_got (take k c.history)) (sym (count_miss is_entry b i n)))

  an_entry : (b : List Item) (i : Item) (e : HEntry) → is_entry i ≡ true → slice_get c.history (count is_entry b) ≡ Some e → is_receipt i ≡ is_got e → Shown b → Shown (b ++ i ∷ [])
  an_entry b i e m h same s =
      ap (map is_receipt) (filter-append is_entry b (i ∷ []) ∙ (rw m refl))
      ∙ (map-append is_receipt (filter is_entry b) (i ∷ [])
      ∙ (ap (λ l. l ++ is_receipt i ∷ []) s
      ∙ (ap (λ x. map is_got (take (count is_entry b) c.history) ++ x ∷ []) same
      ∙ (sym (map-append is_got (take (count is_entry b) c.history) (e ∷ []))
      ∙ (ap (map is_got) (sym (take_next c.history (count is_entry b) e h))
      ∙ ap (λ k. map is_got (take k c.history)) (sym (count_hit is_entry b i m)))))))

  is_no_packet : (op : BrowserOp) → false ≡ is_got (event_of op)
  is_no_packet (browsers.Ask t) = refl
  is_no_packet (browsers.Destroy t) = refl
  is_no_packet (browsers.Probe t u) = refl

  shown_next : (b : List Item) (i : Item) → Placed c looks b i → Shown b → Shown (b ++ i ∷ [])
  shown_next b (Frame t) x s = no_entry b (Frame t) refl s
  shown_next b (Receive t) x s = an_entry b (Receive t) (events.Got x.packet) refl x.there refl s
  shown_next b Browser x s = an_entry b Browser (event_of x.op) refl x.there (is_no_packet x.op) s
  shown_next b (Deliver t n) x s = no_entry b (Deliver t n) refl s
  shown_next b (Reader k) x s = no_entry b (Reader k) refl s

  pub shown_all : (o b : List Item) → EachPlaced c looks b o → Shown b → Shown (b ++ o)
  shown_all [] b p s = subst Shown (sym (append-nil b)) s
  shown_all (i ∷ o) b p s = subst Shown (append_assoc b (i ∷ []) o) (shown_all o (b ++ i ∷ []) p.1 (shown_next b i p.0 s))

pub stands_whole : (c : Closed) (waiting : List Packet) (looks : List (List ℕ)) → IsClosedHub c waiting looks → StandsWhole c looks (order_taken c looks)
stands_whole c waiting looks closed =
    let done = order_done c waiting looks closed in
    let kept = kept_all c looks (order_taken c looks) [] done.placed (kept_first c looks) in
    record {
      operations = λ t. kept.ops t ∙ (ap (λ n. length (flat_map op_in (take n (journal_in c t)))) (done.ended.frames t)
          ∙ ap (λ j. length (flat_map op_in j)) (take_all (length (journal_in c t)) (journal_in c t) (omega arith)));
      deliveries = λ t. (counted_all c looks (order_taken c looks) [] done.placed (counted_first c looks)).deliveries t
          ∙ (ap (λ n. filter_map delivered (take n (journal_in c t))) (done.ended.frames t)
          ∙ ap (filter_map delivered) (take_all (length (journal_in c t)) (journal_in c t) (omega arith)));
      entries = shown_all c looks (order_taken c looks) [] done.placed refl
          ∙ (ap (λ n. map is_got (take n c.history)) done.ended.entries ∙ ap (map is_got) (take_all (length c.history) c.history (omega arith)));
      queries = done.ended.readers;
    }
