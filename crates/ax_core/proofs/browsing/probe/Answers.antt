use Rattle.std.proofs.Common.{ap, ◌∙◌}
use Rattle.ax_ask.specs.declared.line.Line.TheVariants as lines
use Rattle.ax_core.proofs.Answering.{probe_told, gone_told}
use Rattle.ax_core.proofs.browsing.probe.Goals as goal

pub returns-in-Ok-clause-line : goal.returns-in-Ok-clause-line
returns-in-Ok-clause-line c =
    ap (lines.Probed c.args.tree) (c.note_of.ensures ∙ probe_told c.args.forest.now.history c.args.tree c.args.update.now c.in-Ok.out c.requires.good c.in-Ok.ensures.answer.1 c.in-Ok.ensures.out)

pub returns-in-Err-AlreadyGone-clause-line : goal.returns-in-Err-AlreadyGone-clause-line
returns-in-Err-AlreadyGone-clause-line c =
    let answer = rw c.in-Err-AlreadyGone.field-0-is at c.in-Err-AlreadyGone.ensures.answer in
    ap (lines.Probed c.args.tree) (gone_told c.args.forest.now.history c.args.tree c.args.update.now answer.2)
