-- What is true of a seat after a call.
use Rattle.std.proofs.Common.{◌≡◌, ℕ, ◌+◌, true, List, [], ◌∷◌, ◌++◌, length, append-nil, Option, Some, None, option_to_list, Result, Ok, Err, sym, refl, ap, ◌∙◌, subst}
use Rattle.ax_base.specs.declared.seq.NoMemory.{NoMemory}
use Rattle.ax_trees.specs.Lists.{contains}
use Rattle.ax_tree.specs.declared.packet.JEntry.{JEntry}
use Rattle.ax_tree.specs.declared.packet.HEntry.{HEntry}
use Rattle.ax_tree.specs.declared.packet.HEntry.TheVariants.{Got}
use Rattle.ax_tree.specs.declared.packet.Packet.{Packet}
use Rattle.ax_tree.specs.declared.verdict.Verdict.{Verdict}
use Rattle.ax_tree.specs.Packets.{Fits, IsGood}
use Rattle.ax_ask.specs.declared.line.PassNote.{PassNote}
use Rattle.ax_turn.specs.Seats.{SeatView}
use Rattle.ax_lane.specs.Ends.{TxView, RxView}
use Rattle.ax_lane.specs.Packets.{of_tree}
use Rattle.ax_lane.proofs.Lists.{of_tree-push}
use Rattle.ax_rules.specs.Mirrors.{verdict_of}
use Rattle.ax_stays.specs.declared.parcel.Parcel.{Parcel}
use Rattle.ax_hub.specs.BrowserCalls.{HeldCanBeReceived}
use Rattle.ax_stays.specs.Received.{received, CanBeReceived}
use Rattle.ax_stays.specs.FrameCalls.{packets_in, packets_of_pass, KeepsFits, SeenFitsWith}
use Rattle.ax_stays.specs.LaneEnds.{IsSentOn, IsParcelSent, IsHeldNow, IsTaken}
use Rattle.ax_stays.specs.Makers.{IsSeatFor}
use Rattle.ax_hub.specs.Receipts.{IsNextOf, IsReceipt, IsReceiptIn, IsReceiptOf}
use Rattle.ax_hub.specs.Seats.{browser_seat_view, BrowserSeatView, IsFrameSeatWhole, IsBrowserSeatWhole}
use Rattle.ax_hub.proofs.ListLemmas.{slice_at_end}
use Rattle.ax_stays.proofs.Histories.{included, got_received, received-append}

-- ---- any seat

pub still_for : {E : Type 0} (n : ℕ) (seat new : SeatView E) → new ≡ record seat { seen = new.seen; enters = seat.enters + 1 } → IsSeatFor n seat → IsSeatFor n new
still_for n seat new e s = record { idle = ap (λ v. v.inside) e ∙ s.idle; low = ap (λ v. v.low) e ∙ s.low; high = ap (λ v. v.high) e ∙ s.high }

-- ---- a frame's seat

module _ (seat new : SeatView JEntry) (tx : TxView) (kept : Option Parcel) (w : IsFrameSeatWhole seat tx kept) (e : new ≡ record seat { seen = new.seen; enters = seat.enters + 1 }) where
  pub frame_seat_after : KeepsFits tx.tree seat.seen new.seen → IsFrameSeatWhole new tx kept
  frame_seat_after keeps = record { stands = still_for 0 seat new e w.stands; name = ap (λ v. v.turn.name) e ∙ w.name; fits = keeps (tx.sent ++ packets_in kept) w.fits }

  -- a pass, where none was kept
  pub frame_seat_made : (r : Result (Option Parcel) NoMemory) (now : Option Parcel) → kept ≡ None → packets_in now ≡ packets_of_pass r → SeenFitsWith tx.tree seat.seen r new.seen → IsFrameSeatWhole new tx now
  frame_seat_made r now none same keeps = record {
    stands = still_for 0 seat new e w.stands;
    name = ap (λ v. v.turn.name) e ∙ w.name;
    fits = subst (λ l. Fits tx.tree new.seen l) (ap (λ l. l ++ packets_of_pass r) (ap (λ k. tx.sent ++ packets_in k) none ∙ append-nil tx.sent) ∙ ap (λ l. tx.sent ++ l) (sym same)) (keeps (tx.sent ++ packets_in kept) w.fits);
  }

parcel_same : (p : Parcel) (old new : TxView) (r : Result PassNote NoMemory) (kept : Option Parcel) → IsParcelSent p old r kept new → new.sent ++ packets_in kept ≡ old.sent ++ p.packet ∷ []
parcel_same p old new (Ok note) kept h = ap (λ k. new.sent ++ packets_in k) h.1 ∙ (append-nil new.sent ∙ h.2)
parcel_same p old new (Err lacking) kept h = (λ i. (h.1 i).sent ++ packets_in (h.0 i))

parcel_sender : (p : Parcel) (old new : TxView) (r : Result PassNote NoMemory) (kept : Option Parcel) → IsParcelSent p old r kept new → (new.lane ≡ old.lane) × (new.tree ≡ old.tree)
parcel_sender p old new (Ok note) kept h = h.3
parcel_sender p old new (Err lacking) kept h = (ap (λ t. t.lane) h.1, ap (λ t. t.tree) h.1)

pub sent_same : (kept now : Option Parcel) (old new : TxView) (r : Result PassNote NoMemory) → IsSentOn kept old r now new → (new.sent ++ packets_in now ≡ old.sent ++ packets_in kept) × (new.lane ≡ old.lane) × (new.tree ≡ old.tree)
sent_same None now old new r h = ((λ i. (h.2 i).sent ++ packets_in (h.1 i)), ap (λ t. t.lane) h.2, ap (λ t. t.tree) h.2)
sent_same (Some p) now old new r h = let s = parcel_sender p old new r now h in (parcel_same p old new r now h, s.0, s.1)

pub frame_seat_sent : (seat : SeatView JEntry) (tx new : TxView) (kept now : Option Parcel) (r : Result PassNote NoMemory) → IsFrameSeatWhole seat tx kept → IsSentOn kept tx r now new → IsFrameSeatWhole seat new now
frame_seat_sent seat tx new kept now r w h =
    let s = sent_same kept now tx new r h in
    record {
      stands = w.stands;
      name = w.name ∙ ap (λ (t : ℕ). t ∷ []) (sym s.2);
      fits = subst (λ (z : ℕ × List Packet). Fits z.0 seat.seen z.1) (λ i. (sym s.2 i, sym s.0 i)) w.fits;
    }

-- the kept parcel may be sent
pub may_send : (seat : SeatView JEntry) (tx : TxView) (kept : Option Parcel) → IsFrameSeatWhole seat tx kept → (p : Parcel) → kept ≡ Some p → (p.packet.tree ≡ tx.tree) × IsGood tx.tree (tx.sent ++ p.packet ∷ [])
may_send seat tx kept w p some =
    let good : IsGood tx.tree (tx.sent ++ p.packet ∷ []) = subst (λ k. IsGood tx.tree (tx.sent ++ packets_in k)) some w.fits.good in
    ((good.at (length tx.sent) p.packet (slice_at_end tx.sent p.packet)).of_tree, good)

-- ---- the browser's seat

module _ (seat : SeatView HEntry) (rx new : RxView) (deliveries : List (SeatView JEntry)) where
  taken_next : (p : Packet) → rx.trees ≡ seat.turn.name → rx.got ≡ received seat.seen ++ [] → IsTaken rx (Some p) new → CanBeReceived seat.turn.name seat.seen p
  taken_next p trees got_is h = record {
    known = subst (λ ts. ◌≡◌ (contains ts p.tree) true) trees (included rx.trees p.tree h.1);
    good = subst (IsGood p.tree) (ap (of_tree p.tree) (ap (λ r. r.got) h.0 ∙ ap (λ l. l ++ p ∷ []) (got_is ∙ append-nil (received seat.seen))) ∙ (of_tree-push p.tree (received seat.seen) p refl ∙ ap (λ l. l ++ p ∷ []) (sym (got_received seat.seen p.tree)))) h.2;
  }

  pub browser_held : (held now : Option Packet) → IsBrowserSeatWhole seat rx held deliveries → IsHeldNow held rx now new → IsBrowserSeatWhole seat new now deliveries
  browser_held None None w h = record {
    stands = w.stands;
    trees = ap (λ r. r.trees) h.0 ∙ w.trees;
    got = ap (λ r. r.got) h.0 ∙ w.got;
    next = tt;
    delivers = w.delivers;
  }
  browser_held None (Some p) w h = record {
    stands = w.stands;
    trees = ap (λ r. r.trees) h.0 ∙ w.trees;
    got = ap (λ r. r.got) h.0 ∙ ap (λ l. l ++ p ∷ []) (w.got ∙ append-nil (received seat.seen));
    next = taken_next p w.trees w.got h;
    delivers = w.delivers;
  }
  browser_held (Some q) now w h = subst (λ (z : Option Packet × RxView). IsBrowserSeatWhole seat z.1 z.0 deliveries) (λ i. (sym h.0 i, sym h.1 i)) w

module _ (seat new : SeatView HEntry) (rx : RxView) (deliveries : List (SeatView JEntry)) where
  same_seat : (held : Option Packet) → new ≡ record seat { enters = seat.enters + 1 } → IsBrowserSeatWhole seat rx held deliveries → IsBrowserSeatWhole new rx held deliveries
  same_seat held e w = record {
    stands = record { idle = ap (λ v. v.inside) e ∙ w.stands.idle; low = ap (λ v. v.low) e ∙ w.stands.low; high = ap (λ v. v.high) e ∙ w.stands.high };
    trees = w.trees ∙ ap (λ v. v.turn.name) (sym e);
    got = w.got ∙ ap (λ v. received v.seen ++ option_to_list held) (sym e);
    next = subst (λ v. HeldCanBeReceived v.turn.name v.seen held) (sym e) w.next;
    delivers = w.delivers;
  }

  receipt_done : (p : Packet) → new ≡ record seat { seen = seat.seen ++ Got p ∷ []; enters = seat.enters + 1 } → IsBrowserSeatWhole seat rx (Some p) deliveries → IsBrowserSeatWhole new rx None deliveries
  receipt_done p e w = record {
    stands = record { idle = ap (λ v. v.inside) e ∙ w.stands.idle; low = ap (λ v. v.low) e ∙ w.stands.low; high = ap (λ v. v.high) e ∙ w.stands.high };
    trees = w.trees ∙ ap (λ v. v.turn.name) (sym e);
    got = w.got ∙ (sym (received-append seat.seen (Got p ∷ [])) ∙ (ap (λ v. received v.seen) (sym e) ∙ sym (append-nil (received new.seen))));
    next = tt;
    delivers = w.delivers;
  }

  receipt_of : (p : Packet) (r : Result (Option (ℕ × Verdict)) NoMemory) (now : Option Packet) → IsReceiptOf p seat r now new → IsBrowserSeatWhole seat rx (Some p) deliveries → IsBrowserSeatWhole new rx now deliveries
  receipt_of p (Ok None) now h w = absurd h
  receipt_of p (Ok (Some told)) now h w = subst (λ k. IsBrowserSeatWhole new rx k deliveries) (sym h.1) (receipt_done p h.2 w)
  receipt_of p (Err lacking) now h w = subst (λ k. IsBrowserSeatWhole new rx k deliveries) (sym h.0) (same_seat (Some p) h.1 w)

  pub browser_received : (held now : Option Packet) (r : Result (Option (ℕ × Verdict)) NoMemory) → IsReceiptIn held seat r now new → IsBrowserSeatWhole seat rx held deliveries → IsBrowserSeatWhole new rx now deliveries
  browser_received None now r h w = subst (λ (z : Option Packet × SeatView HEntry). IsBrowserSeatWhole z.1 rx z.0 deliveries) (λ i. (sym h.1 i, sym h.2 i)) w
  browser_received (Some p) now r h w = receipt_of p r now h w

-- the receipt as a whole
module _ (seat new : SeatView HEntry) (rx then : RxView) (deliveries : List (SeatView JEntry)) where
  abbrev before : Option Packet → BrowserSeatView
  before held = browser_seat_view seat rx held deliveries

  abbrev after : Option Packet → BrowserSeatView
  after held = browser_seat_view new then held deliveries

  received_whole : (held : Option Packet) (p : Packet) (r : Result (Option (ℕ × Verdict)) NoMemory) (now : Option Packet) → IsNextOf held p → then.lane ≡ rx.lane → then.lulls ≡ rx.lulls → IsReceiptOf p seat r now new → IsReceipt (before held) r (after now)
  received_whole held p (Ok None) now next lane lulls h = absurd h
  received_whole held p (Ok (Some told)) now next lane lulls h = record {
    packet = p;
    next = next;
    verdict = h.0;
    after = λ i. record { turn = (h.2 i).turn; lane = lane i; seen = (h.2 i).seen; held = h.1 i; lulls = lulls i; deliveries = deliveries };
  }
  received_whole held p (Err lacking) now next lane lulls h = record {
    packet = p;
    next = next;
    after = λ i. record { turn = (h.1 i).turn; lane = lane i; seen = (h.1 i).seen; held = h.0 i; lulls = lulls i; deliveries = deliveries };
  }

  pub receipt : (held mid now : Option Packet) (r : Result (Option (ℕ × Verdict)) NoMemory) → IsHeldNow held rx mid then → IsReceiptIn mid seat r now new → IsReceipt (before held) r (after now)
  receipt None None now r h k = subst (λ r. IsReceipt (before None) r (after now)) (sym k.0) (record {
    none = refl;
    rose = h.1;
    after = λ i. record { turn = (k.2 i).turn; lane = (h.0 i).lane; seen = (k.2 i).seen; held = k.1 i; lulls = then.lulls; deliveries = deliveries };
  })
  receipt None (Some p) now r h k = received_whole None p r now tt (ap (λ v. v.lane) h.0) (ap (λ v. v.lulls) h.0) k
  receipt (Some q) None now r h k = absurd (none_some q h.0)
    where
      none_some : (q : Packet) → None ≡ Some q → ⊥
      none_some q e = cc
  receipt (Some q) (Some p) now r h k = received_whole (Some q) p r now (let e : Some p ≡ Some q = h.0 in (cc)) (ap (λ v. v.lane) h.1) (ap (λ v. v.lulls) h.1) k

-- ---- the receipt of what is held

pub nothing_held : (held now : Option Packet) (seat : SeatView HEntry) → held ≡ None → now ≡ None → IsReceiptIn held seat (Ok None) now seat
nothing_held held now seat none same = subst (λ (k : Option Packet). IsReceiptIn k seat (Ok None) now seat) (sym none) (refl, same, refl)

pub packet_received : (held : Option Packet) (p : Packet) (seat new : SeatView HEntry) (verdict : Verdict) (now : Option Packet) → held ≡ Some p → verdict ≡ verdict_of seat.seen p → now ≡ None
    → new ≡ record seat { seen = seat.seen ++ Got p ∷ []; enters = seat.enters + 1 } → IsReceiptIn held seat (Ok (Some (p.tree, verdict))) now new
packet_received held p seat new verdict now some is none e =
    subst (λ (k : Option Packet). IsReceiptIn k seat (Ok (Some (p.tree, verdict))) now new) (sym some) ((λ i. (p.tree, is i)), none, e)

pub packet_held : (held : Option Packet) (p : Packet) (seat new : SeatView HEntry) (lacking : NoMemory) (now : Option Packet) → held ≡ Some p → now ≡ Some p → new ≡ record seat { enters = seat.enters + 1 } → IsReceiptIn held seat (Err lacking) now new
packet_held held p seat new lacking now some same e = subst (λ (k : Option Packet). IsReceiptIn k seat (Err lacking) now new) (sym some) (same, e)
