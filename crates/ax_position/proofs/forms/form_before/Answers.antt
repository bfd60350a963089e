use Rattle.std.proofs.Common.{◌≡◌, ◌∙◌, ap, subst, arith}
use Rattle.std.specs.Prelude.{IfErr, Err}
use Rattle.ax_rules.specs.Stitched.{stitched}
use Rattle.ax_position.specs.Marks.{of_mark}
use Rattle.ax_position.specs.Forms.{leaf_of_mark, if_some}
use Rattle.ax_position.proofs.ChildSearches.{first_mark}
use Rattle.ax_position.proofs.forms.form_before.Goals as goal

pub returns-then-child-eq0-clause-form : goal.returns-then-child-eq0-clause-form
returns-then-child-eq0-clause-form g c =
    c.text_form.ensures.form
    ∙ ap (λ v. if_some (of_mark (leaf_of_mark (stitched (g.G.Grove.forest c.args.g.now))) v)) (first_mark (stitched (g.G.Grove.forest c.args.g.now)) c.args.place.now c.args.child (omega arith))

pub returns-then-child-eq0-clause-refused : goal.returns-then-child-eq0-clause-refused
returns-then-child-eq0-clause-refused g c =
    subst (λ v. IfErr c.text_form.result (λ e. v ≡ Err e)) (first_mark (stitched (g.G.Grove.forest c.args.g.now)) c.args.place.now c.args.child (omega arith)) c.text_form.ensures.refused
