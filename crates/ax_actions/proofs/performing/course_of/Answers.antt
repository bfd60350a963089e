use Rattle.std.proofs.Common.{◌≡◌, not, sym, ap, subst, ◌∙◌}
use Rattle.std.specs.Prelude.{IfOk}
use Rattle.ax_run_rules.specs.Actions as rules
use Rattle.ax_actions.specs.declared.performing.Course.{Course}
use Rattle.ax_actions.specs.Performing.{told_course}
use Rattle.ax_actions.proofs.PerformingLemmas.{rootless, rooted, acted_rootless, acted_strange, acted_there}
use Rattle.ax_actions.proofs.performing.course_of.Goals as goal

pub returns-then-is_none-clause-course : goal.returns-then-is_none-clause-course
returns-then-is_none-clause-course c =
    let s = c.args.source.now.tree in
    acted_rootless s c.args.a.now.node c.args.a.now.what (rootless s.trees c.root.result c.root.ensures.root (c.is_none.ensures ∙ ap not c.if-is_none.true))

pub course_at-requires : goal.course_at-requires
course_at-requires c = sym c.has_node.ensures ∙ c.if-has_node.true

pub returns-then-has_node-clause-course : goal.returns-then-has_node-clause-course
returns-then-has_node-clause-course c =
    let s = c.args.source.now.tree in
    subst (λ (d : rules.Done). IfOk c.course_at.result (λ (p : Course). told_course p ≡ d)) (acted_there s c.args.a.now.node c.args.a.now.what (sym c.has_node.ensures ∙ c.if-has_node.true)) c.course_at.ensures.course

pub returns-clause-course : goal.returns-clause-course
returns-clause-course c =
    let s = c.args.source.now.tree in
    acted_strange s c.args.a.now.node c.args.a.now.what (rooted s.trees c.root.result c.root.ensures.root (c.is_none.ensures ∙ ap not c.if-is_none.false)) (sym c.has_node.ensures ∙ c.if-has_node.false)
