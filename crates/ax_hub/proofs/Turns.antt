-- Which turn a seat's call enters, and what is true of the seat after it.
use Rattle.std.proofs.Common.{◌≡◌, inl, inr, ℕ, ◌+◌, ◌<◌, true, false, is_some, List, [], ◌∷◌, ◌++◌, length, get_or, slice_get, Option, Some, None, Result, Ok, Err, sym, refl, ap, ◌∙◌, subst}
use Rattle.ax_base.specs.declared.seq.NoMemory.{NoMemory}
use Rattle.ax_tree.specs.declared.packet.JEntry.{JEntry}
use Rattle.ax_tree.specs.declared.packet.JEntry.TheVariants.{Passed}
use Rattle.ax_tree.specs.Journals.{frame_of, pending}
use Rattle.ax_ask.specs.declared.line.PassNote.{PassNote}
use Rattle.ax_turn.specs.Ids.{TurnId}
use Rattle.ax_turn.specs.Seats.{SeatView}
use Rattle.ax_lane.specs.Ends.{LaneId, TxView}
use Rattle.ax_stays.specs.declared.parcel.Parcel.{Parcel}
use Rattle.ax_stays.specs.FrameCalls.{IsMade, IsParcelOf}
use Rattle.ax_hub.specs.Hubs.{HubView, IsFrameSeatOf}
use Rattle.ax_stays.specs.LaneEnds.{IsSentOn}
use Rattle.ax_stays.specs.Makers.{maker_of}
use Rattle.ax_hub.specs.Passed.{IsMadeInto, IsSentFrom, IsSentBy, IsPassed, IsPassedWith, IsNewPass, IsSameFrame}
use Rattle.ax_hub.specs.Seats.{FrameSeatView, frame_seat_view}
use Rattle.ax_stays.specs.Stays.{Stay}
use Rattle.ax_hub.proofs.ListLemmas.{or_there, within}

-- ---- the turn of a frame's seat

abbrev pub hub_view : List TurnId → TurnId → LaneId → HubView
hub_view frames forest lane = record { frames = frames; forest = forest; lane = lane }

module _ (hub : HubView) (frames : List TurnId) (forest : TurnId) (lane : LaneId) (hub_is : hub_view frames forest lane ≡ hub) (s : FrameSeatView) (at : ℕ) (seat : SeatView JEntry) (tx : TxView) (kept : Option Parcel)
    (seat_is : frame_seat_view at seat tx kept ≡ s) (of : IsFrameSeatOf hub s) where
  of_inside : IsFrameSeatOf (hub_view frames forest lane) (frame_seat_view at seat tx kept)
  of_inside = subst (λ (z : HubView × FrameSeatView). IsFrameSeatOf z.0 z.1) (λ i. (sym hub_is i, sym seat_is i)) of

  pub at_within : at < length frames
  at_within = within frames at seat.turn of_inside.turn

  -- the turn that is read at the seat's place is the seat's
  pub turn_read : (read : TurnId) → read ≡ get_or frames at read → seat.turn ≡ read
  turn_read read e = sym (e ∙ or_there frames at seat.turn read of_inside.turn)

  pub lane_read : tx.lane ≡ lane
  lane_read = of_inside.lane

  -- after a stay
  pub of_after : (new : SeatView JEntry) → new ≡ record seat { seen = new.seen; enters = seat.enters + 1 } → (now : Option Parcel) → IsFrameSeatOf hub (frame_seat_view at new tx now)
  of_after new e now =
      subst (λ (h : HubView). IsFrameSeatOf h (frame_seat_view at new tx now)) hub_is (record { turn = of_inside.turn ∙ ap (λ (v : SeatView JEntry). Some v.turn) (sym e); lane = of_inside.lane })

  pub seen_after : (new : SeatView JEntry) → new ≡ record seat { seen = new.seen; enters = seat.enters + 1 } → frame_seat_view at new tx kept ≡ record s { seen = new.seen }
  seen_after new e = (λ i. record { at = at; turn = (e i).turn; lane = tx.lane; tree = tx.tree; seen = new.seen; sent = tx.sent; kept = kept }) ∙ ap (λ (v : FrameSeatView). record v { seen = new.seen }) seat_is

  -- after a pass that is kept
  pub made_after : (new : SeatView JEntry) → new ≡ record seat { seen = new.seen; enters = seat.enters + 1 } → (now : Option Parcel) → frame_seat_view at new tx now ≡ record s { seen = new.seen; kept = now }
  made_after new e now = (λ i. record { at = at; turn = (e i).turn; lane = tx.lane; tree = tx.tree; seen = new.seen; sent = tx.sent; kept = now }) ∙ ap (λ (v : FrameSeatView). record v { seen = new.seen; kept = now }) seat_is

  pub of_sent : (after : TxView) (now : Option Parcel) → after.lane ≡ tx.lane → IsFrameSeatOf hub (frame_seat_view at seat after now)
  of_sent after now e = subst (λ (h : HubView). IsFrameSeatOf h (frame_seat_view at seat after now)) hub_is (record { turn = of_inside.turn; lane = e ∙ of_inside.lane })

  pub sent_from : (after : TxView) (now : Option Parcel) (r : Result PassNote NoMemory) → IsSentOn kept tx r now after → IsSentFrom s r (frame_seat_view at seat after now)
  sent_from after now r h = subst (λ (v : FrameSeatView). IsSentFrom v r (frame_seat_view at seat after now)) seat_is (by kept r h)
    where
      by : (k : Option Parcel) (r : Result PassNote NoMemory) → IsSentOn k tx r now after → IsSentBy k (frame_seat_view at seat tx k) r (frame_seat_view at seat after now)
      by None r h = (h.0, λ i. frame_seat_view at seat (h.2 i) (h.1 i))
      by (Some p) (Ok note) h = (h.0, λ i. record { at = at; turn = seat.turn; lane = h.3.0 i; tree = h.3.1 i; seen = seat.seen; sent = h.2 i; kept = h.1 i })
      by (Some p) (Err lacking) h = λ i. frame_seat_view at seat (h.1 i) (h.0 i)

-- ---- a pass as a whole

-- a pass that made what the seat keeps now, which then is sent
sent_whole : (old mid new : FrameSeatView) (made : Option Parcel) (r : Result PassNote NoMemory) → Stay maker_of 0 1 old.seen (Passed ∷ []) mid.seen (IsMade old.tree made) → mid ≡ record old { seen = mid.seen; kept = made }
    → IsSentBy made mid r new → old.kept ≡ None → IsNewPass old r new
sent_whole old mid new None r stay is sent none =
    subst (λ (x : Result PassNote NoMemory). IsNewPass old x new) (sym sent.0) (record {
      stay = subst (λ l. Stay maker_of 0 1 old.seen (Passed ∷ []) l (λ before. pending (frame_of old.tree before) ≡ false)) (ap (λ (v : FrameSeatView). v.seen) (sym sent.1)) stay;
      after = sent.1 ∙ (is ∙ λ i. record old { seen = ap (λ (v : FrameSeatView). v.seen) (sym sent.1) i; kept = sym none i });
    })
sent_whole old mid new (Some p) (Ok note) stay is sent none =
    subst (λ (x : PassNote). IsNewPass old (Ok x) new) (sym sent.0) (record {
      parcel = p;
      stay = subst (λ l. Stay maker_of 0 1 old.seen (Passed ∷ []) l (λ before. IsParcelOf old.tree before p)) (ap (λ (v : FrameSeatView). v.seen) (sym sent.1)) stay;
      told = refl;
      after = sent.1 ∙ (ap (λ (v : FrameSeatView). record v { sent = v.sent ++ p.packet ∷ []; kept = None }) is ∙ λ i. record old { seen = ap (λ (v : FrameSeatView). v.seen) (sym sent.1) i; sent = old.sent ++ p.packet ∷ []; kept = sym none i });
    })
sent_whole old mid new (Some p) (Err lacking) stay is sent none =
    inr (record {
      parcel = p;
      stay = subst (λ l. Stay maker_of 0 1 old.seen (Passed ∷ []) l (λ before. IsParcelOf old.tree before p)) (ap (λ (v : FrameSeatView). v.seen) (sym sent)) stay;
      after = sent ∙ (is ∙ λ i. record old { seen = ap (λ (v : FrameSeatView). v.seen) (sym sent) i; kept = Some p });
    })

pub passed_new : (old mid new : FrameSeatView) (done : Unit {0}) (r : Result PassNote NoMemory) → IsMadeInto old (Ok done) mid → IsSentFrom mid r new → old.kept ≡ None → IsPassed old r new
passed_new old mid new done r made sent none =
    subst (λ (k : Option Parcel). IsPassedWith k old r new) (sym none)
    (sent_whole old mid new mid.kept r made.0 made.1 sent none)

pub passed_broken : (old new : FrameSeatView) (e : NoMemory) → IsMadeInto old (Err e) new → old.kept ≡ None → IsPassed old (Err e) new
passed_broken old new e made none = subst (λ (k : Option Parcel). IsPassedWith k old (Err e) new) (sym none) (inl (record { unmade = made.0; after = made.1 }))

pub passed_kept : (old new : FrameSeatView) (r : Result PassNote NoMemory) (p : Parcel) → old.kept ≡ Some p → IsSentFrom old r new → IsPassed old r new
passed_kept old new r p some sent =
    subst (λ (k : Option Parcel). IsPassedWith k old r new) (sym some) (subst (λ (k : Option Parcel). IsSentBy k old r new) some sent)

-- ---- the same frame

pub same_made : (old new : FrameSeatView) (r : Result (Unit {0}) NoMemory) → IsMadeInto old r new → IsSameFrame old new
same_made old new (Ok done) h = let e = h.1 in record { at = ap (λ v. v.at) e; turn = ap (λ v. v.turn) e; lane = ap (λ v. v.lane) e; tree = ap (λ v. v.tree) e }
same_made old new (Err lacking) h = let e = h.1 in record { at = ap (λ v. v.at) e; turn = ap (λ v. v.turn) e; lane = ap (λ v. v.lane) e; tree = ap (λ v. v.tree) e }

pub same_sent : (old new : FrameSeatView) (r : Result PassNote NoMemory) → IsSentFrom old r new → IsSameFrame old new
same_sent old new r h = by old.kept r h
  where
    by : (k : Option Parcel) (r : Result PassNote NoMemory) → IsSentBy k old r new → IsSameFrame old new
    by None r h = let e = h.1 in record { at = ap (λ v. v.at) e; turn = ap (λ v. v.turn) e; lane = ap (λ v. v.lane) e; tree = ap (λ v. v.tree) e }
    by (Some p) (Ok note) h = let e = h.1 in record { at = ap (λ v. v.at) e; turn = ap (λ v. v.turn) e; lane = ap (λ v. v.lane) e; tree = ap (λ v. v.tree) e }
    by (Some p) (Err lacking) h = record { at = ap (λ v. v.at) h; turn = ap (λ v. v.turn) h; lane = ap (λ v. v.lane) h; tree = ap (λ v. v.tree) h }

pub same_both : (old mid new : FrameSeatView) → IsSameFrame old mid → IsSameFrame mid new → IsSameFrame old new
same_both old mid new h k = record { at = k.at ∙ h.at; turn = k.turn ∙ h.turn; lane = k.lane ∙ h.lane; tree = k.tree ∙ h.tree }

pub of_same : (hub : HubView) (old new : FrameSeatView) → IsFrameSeatOf hub old → IsSameFrame old new → IsFrameSeatOf hub new
of_same hub old new of s = record { turn = ap (slice_get hub.frames) s.at ∙ (of.turn ∙ ap (λ (t : TurnId). Some t) (sym s.turn)); lane = s.lane ∙ of.lane }

-- whether a parcel is kept, as it is asked
pub none_kept : (s : FrameSeatView) (kept : Option Parcel) → kept ≡ s.kept → is_some kept ≡ false → s.kept ≡ None
none_kept s None is e = sym is
none_kept s (Some p) is e = absurd (let bad : true ≡ false = e in cc)

pub some_kept : (s : FrameSeatView) (kept : Option Parcel) → kept ≡ s.kept → is_some kept ≡ true → (p : Parcel) × (s.kept ≡ Some p)
some_kept s None is e = absurd (let bad : false ≡ true = e in cc)
some_kept s (Some p) is e = (p, sym is)
