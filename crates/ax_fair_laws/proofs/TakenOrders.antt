-- The receipts and operations of the order that a closed hub took.
use Rattle.std.proofs.Common.{eqb, ◌≡◌, ℕ, zero, suc, ◌+◌, true, List, [], ◌∷◌, ◌++◌, length, map, filter, replicate, refl, ap, ◌∙◌, append-nil}
use Rattle.std.specs.List.{flat_map, enumerate_from}
use Rattle.ax_tree.specs.declared.packet.Packet.{Packet}
use Rattle.ax_tree.specs.declared.packet.JEntry.{JEntry}
use Rattle.ax_tree.specs.declared.packet.JEntry.TheVariants as journal
use Rattle.ax_tree.specs.declared.packet.HEntry.{HEntry}
use Rattle.ax_tree.specs.declared.packet.HEntry.TheVariants as entries
use Rattle.ax_ask.specs.declared.op.Item.{Item}
use Rattle.ax_ask.specs.declared.op.Item.TheVariants as items
use Rattle.ax_run_rules.specs.Taken.{Closed, ClosedFrame, journal_items, entries_of_pass, packet_items, history_items, queries_at, entries_left, order_taken}
use Rattle.ax_order_laws.specs.Workers.{is_got}
use Rattle.ax_fair_laws.specs.Laws.{receipts_among}
use Rattle.ax_fair_laws.proofs.Orders.{among-append}

none_of_each : {X : Type 0} (f : X → List Item) → ((x : X) → receipts_among (f x) ≡ []) → (xs : List X) → receipts_among (flat_map f xs) ≡ []
none_of_each f none [] = refl
none_of_each f none (x ∷ xs) = among-append (f x) (flat_map f xs) ∙ (ap (λ l. l ++ receipts_among (flat_map f xs)) (none x) ∙ none_of_each f none xs)

none_of_queries : (k n : ℕ) → receipts_among (replicate n (items.Reader k)) ≡ []
none_of_queries k zero = refl
none_of_queries k (suc n) = none_of_queries k n

none_asked : (looks : List (List ℕ)) (n : ℕ) → receipts_among (queries_at looks n) ≡ []
unfolding queries_at
none_asked looks n =
    none_of_each (λ (r : ℕ × List ℕ). replicate (length (filter (λ (m : ℕ). eqb m n) r.1)) (items.Reader r.0)) (λ (r : ℕ × List ℕ). none_of_queries r.0 (length (filter (λ (m : ℕ). eqb m n) r.1))) (enumerate_from 1 looks)

none_of_entry : (t : ℕ) (e : JEntry) → receipts_among (journal_items t e) ≡ []
none_of_entry t (journal.Edited e) = refl
none_of_entry t (journal.Marked z) = refl
none_of_entry t (journal.MarkedBelow z) = refl
none_of_entry t journal.Passed = refl
none_of_entry t journal.Short = refl
none_of_entry t (journal.Delivered n) = refl

of_packet : (c : Closed) (p : Packet) → receipts_among (packet_items c p) ≡ true ∷ []
unfolding packet_items
of_packet c p =
    let own : List ClosedFrame = filter (λ (f : ClosedFrame). eqb f.tree p.tree) c.frames in
    let of_frame : ClosedFrame → List Item = λ (f : ClosedFrame). flat_map (journal_items f.tree) (entries_of_pass f p.pass.0) in
    among-append (flat_map of_frame own) (items.Receive p.tree ∷ [])
    ∙ ap (λ l. l ++ true ∷ []) (none_of_each of_frame (λ (f : ClosedFrame). none_of_each (journal_items f.tree) (none_of_entry f.tree) (entries_of_pass f p.pass.0)) own)

of_entry : (c : Closed) (e : HEntry) → receipts_among (history_items c e) ≡ is_got e ∷ []
of_entry c (entries.Got p) = of_packet c p
of_entry c (entries.Asked t) = refl
of_entry c (entries.Ended t) = refl
of_entry c (entries.Probed t u) = refl

of_history : (c : Closed) (looks : List (List ℕ)) (n : ℕ) (h : List HEntry)
    → receipts_among (flat_map (λ (e : ℕ × HEntry). history_items c e.1 ++ queries_at looks e.0) (enumerate_from n h)) ≡ map is_got h
of_history c looks n [] = refl
of_history c looks n (e ∷ h) =
    let rest : List Item = flat_map (λ (d : ℕ × HEntry). history_items c d.1 ++ queries_at looks d.0) (enumerate_from (n + 1) h) in
    among-append (history_items c e ++ queries_at looks n) rest
    ∙ (ap (λ l. l ++ receipts_among rest)
    (among-append (history_items c e) (queries_at looks n) ∙ (ap (λ l. receipts_among (history_items c e) ++ l) (none_asked looks n) ∙ (append-nil (receipts_among (history_items c e)) ∙ of_entry c e)))
    ∙ ap (λ l. is_got e ∷ l) (of_history c looks (n + 1) h))

pub taken_receipts : (c : Closed) (looks : List (List ℕ)) → receipts_among (order_taken c looks) ≡ map is_got c.history
unfolding order_taken
taken_receipts c looks =
    let begun : List Item = queries_at looks 0 in
    let past : List Item = flat_map (λ (e : ℕ × HEntry). history_items c e.1 ++ queries_at looks e.0) (enumerate_from 1 c.history) in
    let of_frame : ClosedFrame → List Item = λ (f : ClosedFrame). flat_map (journal_items f.tree) (entries_left c f) in
    among-append (begun ++ past) (flat_map of_frame c.frames)
    ∙ (ap (λ l. receipts_among (begun ++ past) ++ l) (none_of_each of_frame (λ (f : ClosedFrame). none_of_each (journal_items f.tree) (none_of_entry f.tree) (entries_left c f)) c.frames)
    ∙ (append-nil (receipts_among (begun ++ past))
    ∙ (among-append begun past ∙ (ap (λ l. l ++ receipts_among past) (none_asked looks 0) ∙ of_history c looks 1 c.history))))
