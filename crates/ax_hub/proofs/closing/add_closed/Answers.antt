use Rattle.std.proofs.Common.{◌≡◌, ◌++◌, OnOk, ap, subst, ◌∙◌}
use Rattle.ax_hub.proofs.MadeLists.{made_more}
use Rattle.ax_hub.proofs.Closed.{kept_of, seat_closed, whatever}
use Rattle.ax_hub.proofs.closing.add_closed.Goals as goal

pub close_frame-frame-requires-clause-turns : goal.close_frame-frame-requires-clause-turns
close_frame-frame-requires-clause-turns c = (ap (λ v. v.turn) c.seat.view_is ∙ c.requires.turns.0, c.requires.turns.1)

pub close_frame-frame-requires-clause-seat : goal.close_frame-frame-requires-clause-seat
close_frame-frame-requires-clause-seat c = c.seat.invariant.stands

pub returns-clause-closed : goal.returns-clause-closed
returns-clause-closed c =
    let s = c.seat.inside in
    whatever c.keep.result _ (record {
      frame = c.close_frame-frame.result.0;
      sender = s.tx;
      closed = seat_closed c.args.seat s.at s.seat s.tx s.kept c.args.other c.close_frame-frame.result.0 c.args.turn c.seat.view_is c.seat.invariant (ap (λ v. v.turn) c.seat.view_is ∙ c.requires.turns.0) c.close_frame-frame.ensures.tree
          c.close_frame-frame.ensures.own c.close_frame-frame.ensures.told;
      frames = c.in_ok-push.ensures.items;
      senders = c.in_ok-push-3.ensures.items;
    })

pub returns-clause-kept : goal.returns-clause-kept
returns-clause-kept c =
    let s = c.seat.inside in
    subst (λ l. OnOk c.keep.result (c.keep.new.packets.items ≡ c.args.closed.now.kept.items ++ l)) (kept_of c.args.seat s.at s.seat s.tx s.kept c.seat.view_is) c.keep.ensures

pub returns-clause-made : goal.returns-clause-made
returns-clause-made c =
    whatever c.keep.result _ (made_more c.args.closed.now.frames.items c.push.new.self.items c.args.closed.now.made.items c.push-2.new.self.items c.close_frame-frame.result.0 c.close_frame-frame.result.1 c.in_ok-push.ensures.items c.in_ok-push-2.ensures.items c.close_frame-frame.ensures.made)
