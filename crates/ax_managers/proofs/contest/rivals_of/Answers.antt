use Rattle.std.proofs.Common.{◌∙◌, nat_eq, sym, ap}
use Rattle.std.specs.HashMap.{get}
use Rattle.ax_order.proofs.Filters.{takes, passes}
use Rattle.ax_managers.specs.Contests.{is_rival}
use Rattle.ax_managers.proofs.contest.rivals_of.Goals as goal

pub loop-id-preserved-then-is_rival : goal.loop-id-preserved-then-is_rival
loop-id-preserved-then-is_rival c =
    takes (λ z. is_rival (get nat_eq c.args.hosts.now) (get nat_eq c.args.names.now z) z) _ c.loop-id.out _ c.loop-id.id-index c.id-item.result (record { low = c.loop-id-test.true; item = c.id-item.is })
    (ap (λ o. is_rival (get nat_eq c.args.hosts.now) o c.id-item.result) (sym c.name_in.ensures) ∙ (sym c.is_rival.ensures ∙ c.if-is_rival.true)) c.loop-id.invariant c.in_ok-push.ensures.ok

pub loop-id-preserved : goal.loop-id-preserved
loop-id-preserved c =
    passes (λ z. is_rival (get nat_eq c.args.hosts.now) (get nat_eq c.args.names.now z) z) _ c.loop-id.out c.loop-id.id-index c.id-item.result (record { low = c.loop-id-test.true; item = c.id-item.is })
    (ap (λ o. is_rival (get nat_eq c.args.hosts.now) o c.id-item.result) (sym c.name_in.ensures) ∙ (sym c.is_rival.ensures ∙ c.if-is_rival.false)) c.loop-id.invariant
