use Rattle.std.proofs.Common.{Result, Ok, Err, ap, subst, sym, ◌∙◌}
use Rattle.std.proofs.lemmas.Result.{err_from_is_err_and}
use Rattle.ax_base.specs.declared.seq.NoMemory.{NoMemory}
use Rattle.ax_ask.specs.declared.line.PassNote.{PassNote}
use Rattle.ax_hub.specs.Passed.{IsPassed}
use Rattle.ax_hub.proofs.Turns.{none_kept, of_same, passed_broken, passed_kept, passed_new, same_both, same_made, same_sent, some_kept}
use Rattle.ax_hub.proofs.hub.Hub.pass.Goals as goal

-- ---- where the seat keeps a parcel

pub returns-then-is_some-clause-of : goal.returns-then-is_some-clause-of
returns-then-is_some-clause-of g c = of_same c.args.self.now c.args.seat.now c.send.new.seat c.requires (same_sent c.args.seat.now c.send.new.seat c.send.result c.send.ensures)

pub returns-then-is_some-clause-same : goal.returns-then-is_some-clause-same
returns-then-is_some-clause-same g c = same_sent c.args.seat.now c.send.new.seat c.send.result c.send.ensures

pub returns-then-is_some-clause-passed : goal.returns-then-is_some-clause-passed
returns-then-is_some-clause-passed g c =
    let k = some_kept c.args.seat.now c.seat.inside.kept (ap (λ v. v.kept) c.seat.view_is) (sym c.is_some.ensures ∙ c.if-is_some.true) in
    passed_kept c.args.seat.now c.send.new.seat c.send.result k.0 k.1 c.send.ensures

-- ---- where it keeps none

pub make-requires-clause-none : goal.make-requires-clause-none
make-requires-clause-none g c = none_kept c.args.seat.now c.seat.inside.kept (ap (λ v. v.kept) c.seat.view_is) (sym c.is_some.ensures ∙ c.if-is_some.false)

pub returns-in_err-make-clause-of : goal.returns-in_err-make-clause-of
returns-in_err-make-clause-of g c = of_same c.args.self.now c.args.seat.now c.make.new.seat c.requires (same_made c.args.seat.now c.make.new.seat (Err (record {})) c.in_err-make.ensures)

pub returns-in_err-make-clause-same : goal.returns-in_err-make-clause-same
returns-in_err-make-clause-same g c = same_made c.args.seat.now c.make.new.seat (Err (record {})) c.in_err-make.ensures

pub returns-in_err-make-clause-passed : goal.returns-in_err-make-clause-passed
returns-in_err-make-clause-passed g c =
    let p = err_from_is_err_and c.from_residual.result c.from_residual.ensures.1 in
    subst (λ (r : Result PassNote NoMemory). IsPassed c.args.seat.now r c.make.new.seat) (sym p.1)
    (passed_broken c.args.seat.now c.make.new.seat p.0 c.in_err-make.ensures (none_kept c.args.seat.now c.seat.inside.kept (ap (λ v. v.kept) c.seat.view_is) (sym c.is_some.ensures ∙ c.if-is_some.false)))

pub send-requires-2 : goal.send-requires-2
send-requires-2 g c = of_same c.args.self.now c.args.seat.now c.make.new.seat c.requires (same_made c.args.seat.now c.make.new.seat (Ok tt) c.in_ok-make.ensures)

pub returns-clause-of : goal.returns-clause-of
returns-clause-of g c =
    let old = c.args.seat.now in let mid = c.make.new.seat in let new = c.send-2.new.seat in
    of_same c.args.self.now old new c.requires (same_both old mid new (same_made old mid (Ok tt) c.in_ok-make.ensures) (same_sent mid new c.send-2.result c.send-2.ensures))

pub returns-clause-same : goal.returns-clause-same
returns-clause-same g c =
    let old = c.args.seat.now in let mid = c.make.new.seat in let new = c.send-2.new.seat in
    same_both old mid new (same_made old mid (Ok tt) c.in_ok-make.ensures) (same_sent mid new c.send-2.result c.send-2.ensures)

pub returns-clause-passed : goal.returns-clause-passed
returns-clause-passed g c =
    passed_new c.args.seat.now c.make.new.seat c.send-2.new.seat tt c.send-2.result c.in_ok-make.ensures c.send-2.ensures
    (none_kept c.args.seat.now c.seat.inside.kept (ap (λ v. v.kept) c.seat.view_is) (sym c.is_some.ensures ∙ c.if-is_some.false))
