use Rattle.std.proofs.Common.{◌∙◌, nat_eq, Some, None, sym, ap}
use Rattle.std.specs.HashMap.{get}
use Rattle.std.specs.FinMap as fin
use Rattle.ax_by_id.proofs.Maps.{put_at, out_at}
use Rattle.ax_managers.proofs.Lists.{value_at}
use Rattle.ax_managers.proofs.Results.{on_ok}
use Rattle.ax_managers.proofs.index.rehost_one.Goals as goal

pub returns-in-Some : goal.returns-in-Some
returns-in-Some c = on_ok c.put.result (λ e.
    value_at (get nat_eq c.args.now.now) (fin.get c.args.hosts.now) (fin.get c.put.new.self) c.args.tree (Some c.in-Some.node) (sym c.in-Some.is ∙ c.host_in.ensures)
    (λ u. ap (λ m. fin.get m u) e ∙ put_at c.args.hosts.now c.args.tree c.in-Some.node u)) c.put.ensures.ok

pub returns-in-None : goal.returns-in-None
returns-in-None c = on_ok c.take.result (λ e.
    value_at (get nat_eq c.args.now.now) (fin.get c.args.hosts.now) (fin.get c.take.new.self) c.args.tree None (sym c.in-None.is ∙ c.host_in.ensures)
    (λ u. ap (λ m. fin.get m u) e ∙ out_at c.args.hosts.now c.args.tree u)) c.take.ensures.ok
