use Rattle.std.proofs.Common.{sym}
use Rattle.serde_json.specs.View.{view}
use Rattle.ax_forms.proofs.Attrs.{attr_none, attr_ok, attr_refused}
use Rattle.ax_forms.proofs.look.attr_at.Goals as goal

pub returns-in_default-clause-value : goal.returns-in_default-clause-value
returns-in_default-clause-value c = attr_none c.args.key c.name-name.result.now (view c.args.v.now) c.name-name.ensures (sym c.in_default.ensures)

pub returns-in-Ok-clause-value : goal.returns-in-Ok-clause-value
returns-in-Ok-clause-value c =
    attr_ok c.args.key c.name-name.result.now c.kind.result (view c.args.v.now) (view c.in-Some.found.now) c.in-Ok.x c.name-name.ensures c.kind.ensures (sym c.in-Some.ensures) c.in-Ok.ensures.value

pub returns-in-Err-clause-value : goal.returns-in-Err-clause-value
returns-in-Err-clause-value c =
    attr_refused c.args.key c.name-name.result.now c.kind.result (view c.args.v.now) (view c.in-Some.found.now) c.in-Err.e c.in_member.result c.name-name.ensures c.kind.ensures (sym c.in-Some.ensures)
    c.in_member.ensures c.in-Err.ensures.value
