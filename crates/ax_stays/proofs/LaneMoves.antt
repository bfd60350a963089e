-- What is left at the ends of the lane.
use Rattle.std.proofs.Common.{◌≡◌, ℕ, true, false, is_some, IfNone, IfSome, MatchOption, [], ◌∷◌, ◌++◌, Option, Some, None, Ok, Err, sym, refl, ap, subst}
use Rattle.ax_base.specs.declared.seq.NoMemory.{NoMemory}
use Rattle.ax_tree.specs.declared.packet.Packet.{Packet}
use Rattle.ax_tree.specs.Packets.{IsGood}
use Rattle.ax_ask.specs.declared.line.PassNote.{PassNote}
use Rattle.ax_ask.specs.declared.line.PassNote.TheVariants as notes
use Rattle.ax_lane.specs.Ends.{TxView, RxView, IsNextLull, sent_at}
use Rattle.ax_lane.specs.Packets.{of_tree, Includes}
use Rattle.ax_stays.specs.declared.parcel.Parcel.{Parcel}
use Rattle.ax_stays.specs.LaneEnds.{IsSentOn, IsHeldNow}

pub held_still : (held : Option Packet) (rx : RxView) → is_some held ≡ true → IsHeldNow held rx held rx
held_still None rx e = absurd (cc)
held_still (Some p) rx e = (refl, refl)

pub taken_now : (held r : Option Packet) (rx new : RxView) → is_some held ≡ false → MatchOption r (new ≡ record rx { lulls = new.lulls }) (λ p. new ≡ record rx { got = rx.got ++ p ∷ [] }) → IfNone r (IsNextLull rx.lulls new.lulls)
    → IfSome r (λ p. Includes rx.trees p.tree) → IfSome r (λ p. IsGood p.tree (of_tree p.tree new.got)) → IsHeldNow held rx r new
taken_now None None rx new e got lull known good = (got, lull)
taken_now None (Some p) rx new e got lull known good = (got, known, good)
taken_now (Some q) r rx new e got lull known good = absurd (let bad : true ≡ false = e in cc)

-- the parcel was sent, or is kept still
pub parcel_sent : (kept : Option Parcel) (p : Parcel) (old new : TxView) (place : ℕ) (note : PassNote) (now : Option Parcel) → kept ≡ Some p → note ≡ notes.Made p.note → now ≡ None → new ≡ sent_at place p.packet old → IsSentOn kept old (Ok note) now new
parcel_sent kept p old new place note now some told none e =
    subst (λ (k : Option Parcel). IsSentOn k old (Ok note) now new) (sym some) (told, none, ap (λ t. t.sent) e, (ap (λ t. t.lane) e, ap (λ t. t.tree) e))

pub parcel_kept : (kept : Option Parcel) (p : Parcel) (old new : TxView) (lacking : NoMemory) (now : Option Parcel) → kept ≡ Some p → now ≡ Some p → new ≡ old → IsSentOn kept old (Err lacking) now new
parcel_kept kept p old new lacking now some same e = subst (λ (k : Option Parcel). IsSentOn k old (Err lacking) now new) (sym some) (same, e)

pub none_sent : (kept now : Option Parcel) (tx : TxView) → kept ≡ None → now ≡ None → IsSentOn kept tx (Ok notes.Nothing) now tx
none_sent kept now tx none same = subst (λ (k : Option Parcel). IsSentOn k tx (Ok notes.Nothing) now tx) (sym none) (refl, same, refl)
