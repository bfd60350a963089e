use Rattle.std.proofs.Common.{refl, sym, ◌∙◌}
use Rattle.ax_serializer.proofs.Updates.{there_tells}
use Rattle.ax_serializer.proofs.serializer.Serializer.serialize_changes.Goals as goal

pub returns-then-is_none-clause-refused : goal.returns-then-is_none-clause-refused
returns-then-is_none-clause-refused c = (refl, sym (there_tells c.node.result c.args.s.now.tree c.args.d c.node.ensures) ∙ c.if-is_none.ensures)

pub serialize-requires : goal.serialize-requires
serialize-requires c = sym (there_tells c.node.result c.args.s.now.tree c.args.d c.node.ensures) ∙ c.if-is_none.ensures

pub returns-in-Ok-clause-there : goal.returns-in-Ok-clause-there
returns-in-Ok-clause-there c = sym (there_tells c.node.result c.args.s.now.tree c.args.d c.node.ensures) ∙ c.if-is_none.ensures

pub returns-in-Err-clause-refused : goal.returns-in-Err-clause-refused
returns-in-Err-clause-refused c = sym (there_tells c.node.result c.args.s.now.tree c.args.d c.node.ensures) ∙ c.if-is_none.ensures
