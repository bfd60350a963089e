use Rattle.std.proofs.Common.{sym, subst, ◌∙◌}
use Rattle.ax_tree.specs.declared.edit.Edit.{Edit}
use Rattle.ax_stitch.proofs.Views.{node_told}
use Rattle.ax_actions.specs.declared.performing.Course.TheVariants.{Makes}
use Rattle.ax_actions.specs.Performing.{IsAllowed}
use Rattle.ax_actions.proofs.PerformingLemmas.{scrolled_nowhere, scrolled_there, container_there, scroll_allowed}
use Rattle.ax_actions.proofs.performing.scroll_course.Goals as goal

pub returns-in_default-clause-course : goal.returns-in_default-clause-course
returns-in_default-clause-course c = scrolled_nowhere c.args.source.now.tree c.args.node c.base.result c.base.ensures c.in_default.is

pub unwrap-shown-requires : goal.unwrap-shown-requires
unwrap-shown-requires c = node_told c.args.source.now.tree c.args.node c.node.result c.requires c.node.ensures

pub returns-clause-course : goal.returns-clause-course
returns-clause-course c =
    scrolled_there c.args.source.now.tree c.args.node c.in-Some.container c.base.result c.node.result c.unwrap-shown.result c.in_ok-edit.edit c.base.ensures c.in-Some.is c.node.ensures c.unwrap-shown.ensures c.in_ok-edit.ensures

pub returns-clause-allowed : goal.returns-clause-allowed
returns-clause-allowed c =
    let s = c.args.source.now.tree in
    let there = container_there s c.args.node c.in-Some.container c.base.result c.root.ensures.well_formed.distinct c.requires c.base.ensures c.in-Some.is in
    subst (λ (e : Edit). IsAllowed (Makes e) s) (sym c.in_ok-edit.ensures) (tt, scroll_allowed s c.unwrap-shown.result.now.rect c.in-Some.container there)
