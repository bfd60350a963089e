use Rattle.std.proofs.Common.{◌∙◌, nat_eq, Some, None, sym, ap}
use Rattle.std.specs.HashMap.{get}
use Rattle.std.specs.FinMap as fin
use Rattle.ax_by_id.proofs.Maps.{put_at, out_at}
use Rattle.ax_managers.proofs.Lists.{value_at}
use Rattle.ax_managers.proofs.Results.{on_ok}
use Rattle.ax_managers.proofs.index.rename_one.Goals as goal

pub returns-in-Some : goal.returns-in-Some
returns-in-Some c = on_ok c.put.result (λ e.
    value_at (get nat_eq c.args.names.now) (fin.get c.args.named.now) (fin.get c.put.new.self) c.args.id (Some c.in-Some.tree) (sym c.in-Some.is ∙ c.name_in.ensures)
    (λ z. ap (λ m. fin.get m z) e ∙ put_at c.args.named.now c.args.id c.in-Some.tree z)) c.put.ensures.ok

pub returns-in-None : goal.returns-in-None
returns-in-None c = on_ok c.take.result (λ e.
    value_at (get nat_eq c.args.names.now) (fin.get c.args.named.now) (fin.get c.take.new.self) c.args.id None (sym c.in-None.is ∙ c.name_in.ensures)
    (λ z. ap (λ m. fin.get m z) e ∙ out_at c.args.named.now c.args.id z)) c.take.ensures.ok
