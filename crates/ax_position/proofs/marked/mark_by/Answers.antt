use Rattle.std.proofs.Common.{arith}
use Rattle.ax_rules.specs.Stitched.{stitched}
use Rattle.ax_position.proofs.Asking.{tree_asked, tree_within, text_refused, text_asked, text_within}
use Rattle.ax_position.proofs.Surveys.{survey_start, survey_above}
use Rattle.ax_position.proofs.marked.mark_by.Goals as goal

pub returns-in-Tree-clause-mark : goal.returns-in-Tree-clause-mark
returns-in-Tree-clause-mark g c = tree_asked (g.G.Grove.forest c.args._g.now) c.args.asked.now c.args.survey.now c.requires.sound c.requires.there c.requires.seen c.args.p.now c.in-Tree.tree c.in-Tree.node c.in-Tree.child c.min.result c.in-Tree.is c.requires.asked c.min.ensures

pub returns-in-Tree-clause-within : goal.returns-in-Tree-clause-within
returns-in-Tree-clause-within g c = tree_within (g.G.Grove.forest c.args._g.now) c.args.asked.now c.args.survey.now c.requires.sound c.requires.there c.requires.seen c.args.p.now c.in-Tree.tree c.in-Tree.node c.in-Tree.child c.min.result c.in-Tree.is c.requires.asked c.min.ensures

pub returns-in-Tree-clause-start : goal.returns-in-Tree-clause-start
returns-in-Tree-clause-start g c = survey_start (stitched (g.G.Grove.forest c.args._g.now)) c.args.asked.now.place c.args.asked.now.above c.args.asked.now.end c.args.asked.now.limit c.args.survey.now c.requires.seen

pub returns-in-Tree-clause-above : goal.returns-in-Tree-clause-above
returns-in-Tree-clause-above g c = survey_above (stitched (g.G.Grove.forest c.args._g.now)) c.args.asked.now.place c.args.asked.now.above c.args.asked.now.end c.args.asked.now.limit c.args.survey.now c.requires.seen

pub returns-then-offset-survey-clause-mark : goal.returns-then-offset-survey-clause-mark
returns-then-offset-survey-clause-mark g c = text_refused (g.G.Grove.forest c.args._g.now) c.args.asked.now c.args.survey.now c.requires.sound c.requires.there c.requires.seen c.args.p.now c.in-Text.tree c.in-Text.node c.in-Text.offset c.in-Text.affinity c.in-Text.is c.requires.asked (omega arith)

pub returns-else-offset-survey-clause-mark : goal.returns-else-offset-survey-clause-mark
returns-else-offset-survey-clause-mark g c = text_asked (g.G.Grove.forest c.args._g.now) c.args.asked.now c.args.survey.now c.requires.sound c.requires.there c.requires.seen c.args.p.now c.in-Text.tree c.in-Text.node c.in-Text.offset c.in-Text.affinity c.in-Text.is c.requires.asked (omega arith)

pub returns-else-offset-survey-clause-within : goal.returns-else-offset-survey-clause-within
returns-else-offset-survey-clause-within g c = text_within (g.G.Grove.forest c.args._g.now) c.args.asked.now c.args.survey.now c.requires.sound c.requires.there c.requires.seen c.args.p.now c.in-Text.tree c.in-Text.node c.in-Text.offset c.in-Text.affinity c.in-Text.is c.requires.asked (omega arith)

pub returns-else-offset-survey-clause-start : goal.returns-else-offset-survey-clause-start
returns-else-offset-survey-clause-start g c = survey_start (stitched (g.G.Grove.forest c.args._g.now)) c.args.asked.now.place c.args.asked.now.above c.args.asked.now.end c.args.asked.now.limit c.args.survey.now c.requires.seen

pub returns-else-offset-survey-clause-above : goal.returns-else-offset-survey-clause-above
returns-else-offset-survey-clause-above g c = survey_above (stitched (g.G.Grove.forest c.args._g.now)) c.args.asked.now.place c.args.asked.now.above c.args.asked.now.end c.args.asked.now.limit c.args.survey.now c.requires.seen
