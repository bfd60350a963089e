use Rattle.std.proofs.Common.{inl, inr, refl, is_ok}
use Rattle.std.proofs.lemmas.Result.{err_from_is_err_and}
use Rattle.ax_ask.specs.declared.op.Item.TheVariants as items
use Rattle.ax_core.proofs.Hearing.{breaks, told, joins}
use Rattle.ax_core.proofs.Refreshing.{serves_on}
use Rattle.ax_core.proofs.Telling.{refused}
use Rattle.ax_core.proofs.run.Core.serve_next.Goals as goal

pub returns-in_default : goal.returns-in_default
returns-in_default g c = breaks (λ ls o h. inl (refused items.Browser c.args.self.now c.step.new.self _ ls c.in_default.ensures.refused))

pub returns-in_err-hear : goal.returns-in_err-hear
returns-in_err-hear g c =
    let p = err_from_is_err_and c.from_residual.result c.from_residual.ensures.1 in
    rw (p.1) (breaks (λ ls o h. inl (refl, inr (inr (c.in-Ok.line, c.in-Ok.ensures.done)))))

pub returns : goal.returns
returns g c =
    joins (told c.in-Ok.line c.in_ok-hear.ensures) c.tell_if.ensures
    (λ is js ks p q o h. serves_on o c.args.self.now c.step.new.self c.tell_if.new.self c.in-Ok.line is js ks c.delivery_in-delivery.result (is_ok c.tell_if.result) h c.in-Ok.ensures.done p c.delivery_in-delivery.ensures q)
