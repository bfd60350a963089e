use Rattle.std.proofs.Common.{false, true, sym, ◌∙◌}
use Rattle.ax_forms.specs.Looks.{is_attr}
use Rattle.ax_forms.proofs.Attrs.{names_step}
use Rattle.ax_forms.proofs.look.all_named.Goals as goal

pub returns-then-not-is_attr : goal.returns-then-not-is_attr
returns-then-not-is_attr c =
    sym (names_step (is_attr c.args.version) c.in-Some.name.now _ _ _ _ false c.in-Some.ensures.steps c.is_attr.ensures c.as_str.ensures.value c.if-not-is_attr.true) ∙ c.loop-name.invariant

pub loop-name-preserved : goal.loop-name-preserved
loop-name-preserved c =
    sym (names_step (is_attr c.args.version) c.in-Some.name.now _ _ _ _ true c.in-Some.ensures.steps c.is_attr.ensures c.as_str.ensures.value c.if-not-is_attr.false) ∙ c.loop-name.invariant
