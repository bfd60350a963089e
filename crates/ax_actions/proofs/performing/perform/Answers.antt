use Rattle.std.proofs.Common.{ap}
use Rattle.ax_run_rules.specs.Actions as rules
use Rattle.ax_tree.specs.declared.packet.JEntry.TheVariants as entries
use Rattle.ax_frame.specs.Frames.{with_entry}
use Rattle.ax_actions.specs.declared.performing.Course.TheVariants.{Refused, Makes}
use Rattle.ax_actions.specs.Performing.{done_now, after_done}
use Rattle.ax_actions.proofs.PerformingLemmas.{told_now, allowed_now, refused_after, made_after, made_note, on_ok}
use Rattle.ax_actions.proofs.performing.perform.Goals as goal

pub returns-in-Refused-clause-note : goal.returns-in-Refused-clause-note
returns-in-Refused-clause-note c =
    ap (λ (d : rules.Done). d.note) (told_now c.in_ok-course.course (Refused c.in-Refused.done) c.source.result.now.tree c.args.a.now c.args.frame.now c.in_ok-course.ensures.course c.source.ensures.tree c.in-Refused.is)

pub returns-in-Refused-clause-after : goal.returns-in-Refused-clause-after
returns-in-Refused-clause-after c =
    refused_after c.in-Refused.done c.args.frame.now (done_now c.args.a.now c.args.frame.now)
    (told_now c.in_ok-course.course (Refused c.in-Refused.done) c.source.result.now.tree c.args.a.now c.args.frame.now c.in_ok-course.ensures.course c.source.ensures.tree c.in-Refused.is)

pub make-requires : goal.make-requires
make-requires c =
    let h = allowed_now c.in_ok-course.course c.in-Makes.edit c.source.result.now.tree c.args.frame.now c.in_ok-course.ensures.allowed c.source.ensures.tree c.in-Makes.is in
    record { leaf = h.0; allowed = h.1 }

pub returns-in-Makes-clause-note : goal.returns-in-Makes-clause-note
returns-in-Makes-clause-note c =
    made_note c.in-Makes.edit (done_now c.args.a.now c.args.frame.now) c.make.result
    (told_now c.in_ok-course.course (Makes c.in-Makes.edit) c.source.result.now.tree c.args.a.now c.args.frame.now c.in_ok-course.ensures.course c.source.ensures.tree c.in-Makes.is) c.make.ensures.note

pub returns-in-Makes-clause-after : goal.returns-in-Makes-clause-after
returns-in-Makes-clause-after c =
    let t = told_now c.in_ok-course.course (Makes c.in-Makes.edit) c.source.result.now.tree c.args.a.now c.args.frame.now c.in_ok-course.ensures.course c.source.ensures.tree c.in-Makes.is in
    on_ok c.make.result _ _ c.make.ensures.after (made_after c.in-Makes.edit c.make.new.frame c.args.frame.now (done_now c.args.a.now c.args.frame.now) t)
