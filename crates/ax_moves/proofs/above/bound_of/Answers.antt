use Rattle.std.proofs.Common.{◌∙◌, arith}
use Rattle.ax_node.specs.Look.{look_of}
use Rattle.ax_rules.specs.Looks.{name_text}
use Rattle.ax_moves.proofs.AboveLemmas.{first_behind, none_before}
use Rattle.ax_moves.proofs.above.bound_of.Goals as goal

pub returns-then-start-offset-clause-bound : goal.returns-then-start-offset-clause-bound
returns-then-start-offset-clause-bound c =
    c.first_from.ensures ∙ first_behind c.args.unit.now (name_text (look_of c.args.node.now)) c.args.start c.args.offset (omega arith) (omega arith)

pub returns-then-end-offset-clause-bound : goal.returns-then-end-offset-clause-bound
returns-then-end-offset-clause-bound c =
    none_before c.args.unit.now (name_text (look_of c.args.node.now)) c.args.start c.args.end c.args.offset c.requires.end c.requires.text (omega arith)
