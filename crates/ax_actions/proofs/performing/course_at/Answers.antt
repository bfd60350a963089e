use Rattle.std.proofs.Common.{◌≡◌, sym, ap, subst, ◌∙◌}
use Rattle.std.specs.Prelude.{IfOk}
use Rattle.ax_ask.specs.declared.action.What.{What}
use Rattle.ax_tree.specs.declared.edit.Edit.{Edit}
use Rattle.ax_run_rules.specs.Actions.{done, done_at}
use Rattle.ax_actions.specs.declared.performing.Course.{Course}
use Rattle.ax_actions.specs.declared.performing.Course.TheVariants.{Makes}
use Rattle.ax_actions.specs.Performing.{told_course, IsAllowed}
use Rattle.ax_actions.proofs.PerformingLemmas.{focus_allowed}
use Rattle.ax_actions.proofs.performing.course_at.Goals as goal

pub returns-in-Focus-clause-course : goal.returns-in-Focus-clause-course
returns-in-Focus-clause-course c = ap done c.focus_edit.ensures ∙ ap (done_at c.args.source.now.tree c.args.node) (sym c.in-Focus.is)

pub returns-in-Focus-clause-allowed : goal.returns-in-Focus-clause-allowed
returns-in-Focus-clause-allowed c = subst (λ (e : Edit). IsAllowed (Makes e) c.args.source.now.tree) (sym c.focus_edit.ensures) (tt, focus_allowed c.args.source.now.tree c.args.node)

pub returns-in-Scroll-clause-course : goal.returns-in-Scroll-clause-course
returns-in-Scroll-clause-course c =
    subst (λ (w : What). IfOk c.scroll_course.result (λ (p : Course). told_course p ≡ done_at c.args.source.now.tree c.args.node w)) (sym c.in-Scroll.is) c.scroll_course.ensures.course
