use Rattle.std.proofs.Common.{ap, subst, ◌∙◌}
use Rattle.ax_rules.specs.Laws.{Begins}
use Rattle.ax_hub.specs.Seats.{BrowserSeatView, ReaderSeatView, browser_seat_view}
use Rattle.ax_hub.proofs.Browser.{browser_turn}
use Rattle.ax_hub.proofs.Readers.{reader_of}
use Rattle.ax_hub.proofs.Telling.{begins_by_others, note_beside, note_idle, told_all, told_place, told_seat, told_stands, told_view, told_whole}
use Rattle.ax_hub.proofs.hub.Hub.tell.Goals as goal

-- ---- the note

pub split-requires-clause-seat : goal.split-requires-clause-seat
split-requires-clause-seat c =
    let h = c.self.inside in let s = c.from.inside in
    browser_turn c.args.self.now h.frames.items h.forest h.lane c.self.view_is c.args.from.now s.seat s.rx s.held s.deliveries.items c.from.view_is c.requires.from

pub split-requires-clause-idle : goal.split-requires-clause-idle
split-requires-clause-idle c = c.from.invariant.stands.idle

pub split-requires-clause-place : goal.split-requires-clause-place
split-requires-clause-place c = told_place c.from.inside.seat c.from.invariant.stands

-- ---- the reader's seat

pub join-requires-clause-seats : goal.join-requires-clause-seats
join-requires-clause-seats c =
    let h = c.self.inside in let s = c.from.inside in let r = c.to.inside in (
      reader_of c.args.self.now h.frames.items h.forest h.lane c.self.view_is c.args.to.now r.number r.seat c.to.view_is c.requires.to,
      ap (λ v. v.turn) c.in_ok-note.ensures.given
          ∙ browser_turn c.args.self.now h.frames.items h.forest h.lane c.self.view_is c.args.from.now s.seat s.rx s.held s.deliveries.items c.from.view_is c.requires.from,
    )

pub join-requires-clause-idle : goal.join-requires-clause-idle
join-requires-clause-idle c = (c.to.invariant.idle, note_idle c.from.inside.seat c.split.new.seat c.in_ok-note.note c.from.invariant.stands c.split.ensures.kept c.in_ok-note.ensures.given)

pub join-requires-clause-beside : goal.join-requires-clause-beside
join-requires-clause-beside c = note_beside c.from.inside.seat c.split.new.seat c.in_ok-note.note c.from.invariant.stands c.split.ensures.kept c.in_ok-note.ensures.given c.to.inside.seat.high

-- ---- what is true after it

-- the note always comes
pub invariant_of-from : goal.invariant_of-from
invariant_of-from c = absurd c.in_err-note.ensures.given

pub invariant_of-from-2 : goal.invariant_of-from-2
invariant_of-from-2 c =
    let s = c.from.inside in told_whole s.seat c.split.new.seat c.in_ok-note.note c.from.invariant.stands c.split.ensures.kept c.in_ok-note.ensures.given s.rx s.held s.deliveries.items c.from.invariant

pub invariant_of-to : goal.invariant_of-to
invariant_of-to c =
    told_stands c.from.inside.seat c.split.new.seat c.in_ok-note.note c.from.invariant.stands c.split.ensures.kept c.in_ok-note.ensures.given c.to.inside.seat c.join.new.seat c.to.inside.number c.to.invariant c.join.ensures.seat

pub returns-clause-from : goal.returns-clause-from
returns-clause-from c =
    let s = c.from.inside in
    ap (λ v. browser_seat_view v s.rx s.held s.deliveries.items) (told_seat s.seat c.split.new.seat c.in_ok-note.note c.from.invariant.stands c.split.ensures.kept c.in_ok-note.ensures.given) ∙ c.from.view_is

pub returns-clause-to : goal.returns-clause-to
returns-clause-to c =
    let s = c.from.inside in
    told_view s.seat c.split.new.seat c.in_ok-note.note c.from.invariant.stands c.split.ensures.kept c.in_ok-note.ensures.given c.to.inside.seat c.join.new.seat c.to.inside.number c.to.invariant c.join.ensures.seat
    c.args.to.now c.args.from.now s.rx s.held s.deliveries.items c.to.view_is c.from.view_is

pub returns-clause-own : goal.returns-clause-own
returns-clause-own c =
    let r = c.to.inside.seat in
    subst (λ (v : ReaderSeatView). Begins c.join.new.seat.seen v.seen) c.to.view_is (begins_by_others r.low r.high r.seen c.join.new.seat.seen c.join.ensures.first)

pub returns-clause-told : goal.returns-clause-told
returns-clause-told c =
    let s = c.from.inside in
    subst (λ (v : BrowserSeatView). Begins c.join.new.seat.seen v.seen) c.from.view_is
    (told_all s.seat c.split.new.seat c.in_ok-note.note c.from.invariant.stands c.split.ensures.kept c.in_ok-note.ensures.given c.to.inside.seat c.join.new.seat c.to.inside.number c.to.invariant c.join.ensures.seat c.join.ensures.second)
