-- The browser's seat and its calls.
use Rattle.std.proofs.Common.{◌≡◌, ℕ, ◌+◌, ◌<◌, Bool, true, false, cond, List, [], ◌∷◌, ◌++◌, length, get_or, map, set, slice_get, append-nil, Option, Some, None, option_to_list, Result, Ok, Err, IfOk, sym, refl, ap, ◌∙◌, subst}
use Rattle.ax_base.specs.declared.seq.NoMemory.{NoMemory}
use Rattle.ax_tree.specs.declared.packet.JEntry.{JEntry}
use Rattle.ax_tree.specs.declared.packet.HEntry.{HEntry}
use Rattle.ax_tree.specs.declared.packet.Packet.{Packet}
use Rattle.ax_tree.specs.declared.verdict.Verdict.{Verdict}
use Rattle.ax_tree.specs.Packets.{IsGood}
use Rattle.ax_turn.specs.Ids.{TurnId}
use Rattle.ax_turn.specs.Seats.{SeatView}
use Rattle.ax_lane.specs.Ends.{LaneId, RxView}
use Rattle.ax_rules.specs.Histories.{got}
use Rattle.ax_rules.proofs.Appends.{got-append}
use Rattle.ax_forest.specs.declared.answers.ForestErr.{ForestErr}
use Rattle.ax_forest.specs.Entries.{adds, history_after}
use Rattle.ax_hub.specs.declared.answers.HubErr.{HubErr}
use Rattle.ax_hub.specs.BrowserCalls.{in_forest, HeldCanBeReceived}
use Rattle.ax_stays.specs.Received.{received}
use Rattle.ax_hub.specs.Deliveries.{told_by, IsDelivery, IsToldTo}
use Rattle.ax_hub.specs.Hubs.{HubView, IsBrowserSeatOf, IsHubWhole}
use Rattle.ax_stays.specs.LaneEnds.{IsHeldNow}
use Rattle.ax_base.specs.declared.pass.Token.{Token}
use Rattle.ax_stays.specs.FrameCalls.{delivery_entries}
use Rattle.ax_stays.specs.Makers.{maker_of, IsSeatFor}
use Rattle.ax_hub.specs.Receipts.{IsReceiptIn, IsReceiptOf}
use Rattle.ax_hub.specs.Seats.{BrowserSeatView, browser_seat_view, IsBrowserSeatWhole}
use Rattle.ax_stays.specs.Stays.{Stay}
use Rattle.ax_hub.proofs.Closed.{told_turn}
use Rattle.ax_stays.proofs.Histories.{IsNoReceipt, none_received, none_got, received-append}
use Rattle.ax_hub.proofs.ListLemmas.{or_there, within, there_mapped, mapped_there, set_unseen, each_set}
use Rattle.ax_hub.proofs.Turns.{hub_view}

-- ---- which turn and which lane

module _ (hub : HubView) (frames : List TurnId) (forest : TurnId) (lane : LaneId) (hub_is : hub_view frames forest lane ≡ hub) (s : BrowserSeatView) (seat : SeatView HEntry) (rx : RxView) (held : Option Packet) (deliveries : List (SeatView JEntry))
    (seat_is : browser_seat_view seat rx held deliveries ≡ s) (of : IsBrowserSeatOf hub s) where
  browser_inside : IsBrowserSeatOf (hub_view frames forest lane) (browser_seat_view seat rx held deliveries)
  browser_inside = subst (λ (z : HubView × BrowserSeatView). IsBrowserSeatOf z.0 z.1) (λ i. (sym hub_is i, sym seat_is i)) of

  pub browser_turn : seat.turn ≡ forest
  browser_turn = browser_inside.turn

  pub browser_lane : rx.lane ≡ lane
  browser_lane = browser_inside.lane

  pub browser_frames : map told_turn deliveries ≡ frames
  browser_frames = browser_inside.frames

  pub browser_of : (new : SeatView HEntry) (then : RxView) (now : Option Packet) (told : List (SeatView JEntry)) → new.turn ≡ seat.turn → then.lane ≡ rx.lane → map told_turn told ≡ map told_turn deliveries
      → IsBrowserSeatOf hub (browser_seat_view new then now told)
  browser_of new then now told t l d =
      subst (λ (h : HubView). IsBrowserSeatOf h (browser_seat_view new then now told)) hub_is (record { turn = t ∙ browser_inside.turn; lane = l ∙ browser_inside.lane; frames = d ∙ browser_inside.frames })

-- ---- receipts

pub held_lane : (held now : Option Packet) (rx then : RxView) → IsHeldNow held rx now then → then.lane ≡ rx.lane
held_lane None None rx then h = ap (λ v. v.lane) h.0
held_lane None (Some p) rx then h = ap (λ v. v.lane) h.0
held_lane (Some p) now rx then h = ap (λ v. v.lane) h.1

pub receipt_turn : (held now : Option Packet) (seat new : SeatView HEntry) (r : Result (Option (ℕ × Verdict)) NoMemory) → IsReceiptIn held seat r now new → new.turn ≡ seat.turn
receipt_turn None now seat new r h = ap (λ v. v.turn) h.2
receipt_turn (Some p) now seat new r h = by r h
  where
    by : (r : Result (Option (ℕ × Verdict)) NoMemory) → IsReceiptOf p seat r now new → new.turn ≡ seat.turn
    by (Ok None) h = absurd h
    by (Ok (Some told)) h = ap (λ v. v.turn) h.2
    by (Err lacking) h = ap (λ v. v.turn) h.1

-- ---- asks, ends and probes

pub ok_named : {A : Type 0} (P : A → Type 0) (r : Result A HubErr) (q : Result A ForestErr) → in_forest r ≡ q → IfOk q P → IfOk r P
ok_named P (Ok a) q e h = subst (λ x. IfOk x P) (sym e) h
ok_named P (Err x) q e h = tt

received_after : {A : Type 0} (r : Result A ForestErr) (e : HEntry) (h : List HEntry) → IsNoReceipt e → received (history_after r e h) ≡ received h
received_after r e h other = go (adds r)
  where
    go : (b : Bool) → received (cond b (h ++ e ∷ []) h) ≡ received h
    go true = received-append h (e ∷ []) ∙ (ap (λ l. received h ++ l) (none_received e other) ∙ append-nil (received h))
    go false = refl

got_after : {A : Type 0} (r : Result A ForestErr) (e : HEntry) (h : List HEntry) (t : ℕ) → IsNoReceipt e → got (history_after r e h) t ≡ got h t
got_after r e h t other = go (adds r)
  where
    go : (b : Bool) → got (cond b (h ++ e ∷ []) h) t ≡ got h t
    go true = got-append h (e ∷ []) t ∙ (ap (λ l. got h t ++ l) (none_got e other t) ∙ append-nil (got h t))
    go false = refl

still_next : {A : Type 0} (r : Result A ForestErr) (e : HEntry) (h : List HEntry) (trees : List ℕ) (held : Option Packet) → IsNoReceipt e → HeldCanBeReceived trees h held → HeldCanBeReceived trees (history_after r e h) held
still_next r e h trees None other k = tt
still_next r e h trees (Some p) other k = record { known = k.known; good = subst (λ l. IsGood p.tree (l ++ p ∷ [])) (sym (got_after r e h p.tree other)) k.good }

pub browser_asked : {A : Type 0} (r : Result A ForestErr) (e : HEntry) (seat new : SeatView HEntry) (rx : RxView) (held : Option Packet) (deliveries : List (SeatView JEntry)) → IsNoReceipt e
    → new ≡ record seat { seen = history_after r e seat.seen; enters = seat.enters + 1 } → IsBrowserSeatWhole seat rx held deliveries → IsBrowserSeatWhole new rx held deliveries
browser_asked r e seat new rx held deliveries other is w = record {
  stands = record { idle = ap (λ v. v.inside) is ∙ w.stands.idle; low = ap (λ v. v.low) is ∙ w.stands.low; high = ap (λ v. v.high) is ∙ w.stands.high };
  trees = w.trees ∙ ap (λ v. v.turn.name) (sym is);
  got = w.got ∙ ap (λ l. l ++ option_to_list held) (sym (ap (λ v. received v.seen) is ∙ received_after r e seat.seen other));
  next = subst (λ v. HeldCanBeReceived v.turn.name v.seen held) (sym is) (still_next r e seat.seen seat.turn.name held other w.next);
  delivers = w.delivers;
}

pub asked_view : {A : Type 0} (r : Result A HubErr) (q : Result A ForestErr) (e : HEntry) (s : BrowserSeatView) (seat new : SeatView HEntry) (rx : RxView) (held : Option Packet) (deliveries : List (SeatView JEntry)) → browser_seat_view seat rx held deliveries ≡ s
    → in_forest r ≡ q → new ≡ record seat { seen = history_after q e seat.seen; enters = seat.enters + 1 } → browser_seat_view new rx held deliveries ≡ record s { seen = history_after (in_forest r) e s.seen }
asked_view r q e s seat new rx held deliveries seat_is same is =
    (λ i. browser_seat_view (is i) rx held deliveries)
    ∙ ((λ i. record { turn = seat.turn; lane = rx.lane; seen = history_after (sym same i) e seat.seen; held = held; lulls = rx.lulls; deliveries = deliveries })
    ∙ ap (λ (v : BrowserSeatView). record v { seen = history_after (in_forest r) e v.seen }) seat_is)

-- ---- deliveries

module _ (frames : List TurnId) (forest : TurnId) (places : List ℕ) (whole : IsHubWhole frames forest places) (at t : ℕ) (here : slice_get places at ≡ Some t) where
  tree_here : slice_get forest.name at ≡ Some t
  tree_here = ap (λ l. slice_get l at) (sym whole.placed) ∙ here

  frame_here : (turn : TurnId) × (slice_get frames at ≡ Some turn) × (turn.name ≡ t ∷ [])
  frame_here = mapped_there (λ (turn : TurnId). turn.name) frames at (t ∷ []) (ap (λ l. slice_get l at) whole.names ∙ there_mapped (λ (u : ℕ). u ∷ []) forest.name at t tree_here)

  pub frame_within : at < length frames
  frame_within = within frames at frame_here.0 frame_here.1

  pub tree_at : slice_get forest.name at ≡ Some t
  tree_at = tree_here

  module _ (deliveries : List (SeatView JEntry)) (of : map told_turn deliveries ≡ frames) where
    delivery_here : (d : SeatView JEntry) × (slice_get deliveries at ≡ Some d) × (told_turn d ≡ frame_here.0)
    delivery_here = mapped_there told_turn deliveries at frame_here.0 (ap (λ l. slice_get l at) of ∙ frame_here.1)

    pub delivery_within : at < length deliveries
    delivery_within = within deliveries at delivery_here.0 delivery_here.1

    -- what is read at the place
    pub delivery_turn : (read : TurnId) (d : SeatView JEntry) → read ≡ get_or frames at read → d ≡ get_or deliveries at d → d.turn ≡ read
    delivery_turn read d r e =
        let same : d ≡ delivery_here.0 = e ∙ or_there deliveries at delivery_here.0 d delivery_here.1 in
        ap told_turn same ∙ (delivery_here.2 ∙ sym (r ∙ or_there frames at frame_here.0 read frame_here.1))

    pub delivery_there : (d : SeatView JEntry) → d ≡ get_or deliveries at d → slice_get deliveries at ≡ Some d
    delivery_there d e = delivery_here.1 ∙ ap (λ (x : SeatView JEntry). Some x) (sym (e ∙ or_there deliveries at delivery_here.0 d delivery_here.1))

pub delivered_seats : (seat : SeatView HEntry) (rx : RxView) (held : Option Packet) (deliveries : List (SeatView JEntry)) (at : ℕ) (d new : SeatView JEntry) → slice_get deliveries at ≡ Some d
    → new ≡ record d { seen = new.seen; enters = d.enters + 1 } → IsBrowserSeatWhole seat rx held deliveries → IsBrowserSeatWhole seat rx held (set deliveries at new)
delivered_seats seat rx held deliveries at d new here e w =
    let old = w.delivers at d here in
    record {
      stands = w.stands;
      trees = w.trees;
      got = w.got;
      next = w.next;
      delivers = each_set (IsSeatFor 1) deliveries at new w.delivers (record { idle = ap (λ v. v.inside) e ∙ old.idle; low = ap (λ v. v.low) e ∙ old.low; high = ap (λ v. v.high) e ∙ old.high });
    }

pub delivered_turns : (deliveries : List (SeatView JEntry)) (at : ℕ) (d new : SeatView JEntry) → slice_get deliveries at ≡ Some d → new ≡ record d { seen = new.seen; enters = d.enters + 1 } → map told_turn (set deliveries at new) ≡ map told_turn deliveries
delivered_turns deliveries at d new here e = set_unseen told_turn deliveries at d new here (ap told_turn e)

pub told_to : (trees : List ℕ) (t at : ℕ) (added : List JEntry) (s : BrowserSeatView) (seat : SeatView HEntry) (rx : RxView) (held : Option Packet) (deliveries : List (SeatView JEntry)) (d new : SeatView JEntry) → browser_seat_view seat rx held deliveries ≡ s
    → slice_get trees at ≡ Some t → slice_get deliveries at ≡ Some d → new ≡ record d { seen = new.seen; enters = d.enters + 1 } → Stay maker_of 1 2 d.seen added new.seen (λ before. Unit {0})
    → IsToldTo trees t added s (browser_seat_view seat rx held (set deliveries at new))
told_to trees t at added s seat rx held deliveries d new seat_is place here e stay =
    subst (λ (v : BrowserSeatView). IsToldTo trees t added v (browser_seat_view seat rx held (set deliveries at new))) seat_is (record {
      at = at;
      before = d;
      seen = new.seen;
      place = place;
      there = here;
      stay = stay;
      after = λ i. browser_seat_view seat rx held (set deliveries at (e i));
    })

pub delivery_told : (trees : List ℕ) (t : ℕ) (n : Token) (r : Result (Unit {0}) NoMemory) (q : Result (Unit {0}) HubErr) (old new : BrowserSeatView) → q ≡ told_by r → IsToldTo trees t (delivery_entries n r) old new → IsDelivery trees t n old q new
delivery_told trees t n (Ok done) q old new e told = subst (λ (x : Result (Unit {0}) HubErr). IsDelivery trees t n old x new) (sym e) told
delivery_told trees t n (Err lacking) q old new e told = subst (λ (x : Result (Unit {0}) HubErr). IsDelivery trees t n old x new) (sym e) told
