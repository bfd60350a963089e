use Rattle.ax_rules.specs.Stitched.{stitched}
use Rattle.ax_rules.specs.Positions.{mark, range_text}
use Rattle.ax_position.proofs.Asking.{text_told, text_wanted, text_unsaid}
use Rattle.ax_position.proofs.between.range_text.Goals as goal

pub returns-in-Err : goal.returns-in-Err
returns-in-Err g c = text_unsaid (range_text (stitched (g.G.Grove.forest c.args.g.now))) _ _ c.in-Err.refusal c.in-Err.ensures.marks

pub returns-in-Ok-text_of_marks : goal.returns-in-Ok-text_of_marks
returns-in-Ok-text_of_marks g c =
    let b = c.in-Ok.both in
    text_told (range_text (stitched (g.G.Grove.forest c.args.g.now))) _ _ (mark b.one.place b.one.offset b.one.affinity) (mark b.other.place b.other.offset b.other.affinity) c.in-Ok-text_of_marks.text c.in-Ok.ensures.marks
    c.in-Ok-text_of_marks.ensures

pub returns-in-Err-text_of_marks : goal.returns-in-Err-text_of_marks
returns-in-Err-text_of_marks g c =
    let b = c.in-Ok.both in
    text_wanted (range_text (stitched (g.G.Grove.forest c.args.g.now))) _ _ (mark b.one.place b.one.offset b.one.affinity) (mark b.other.place b.other.offset b.other.affinity) c.in-Ok.ensures.marks
