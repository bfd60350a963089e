use Rattle.std.proofs.Common.{sym}
use Rattle.serde_json.specs.View.{view}
use Rattle.ax_forms.proofs.Attrs.{change_none, change_ok, change_refused}
use Rattle.ax_forms.proofs.look.change_at.Goals as goal

pub returns-in_default : goal.returns-in_default
returns-in_default c = change_none c.args.key c.name-name.result.now (view c.args.v.now) c.name-name.ensures (sym c.in_default.ensures)

pub returns-in-Ok : goal.returns-in-Ok
returns-in-Ok c =
    change_ok c.args.key c.name-name.result.now c.kind.result (view c.args.v.now) (view c.in-Some.found.now) c.in-Ok.x c.name-name.ensures c.kind.ensures (sym c.in-Some.ensures) c.in-Ok.ensures

pub returns-in-Err : goal.returns-in-Err
returns-in-Err c =
    change_refused c.args.key c.name-name.result.now c.kind.result (view c.args.v.now) (view c.in-Some.found.now) c.in-Err.e c.in_member.result c.name-name.ensures c.kind.ensures (sym c.in-Some.ensures)
    c.in_member.ensures c.in-Err.ensures
