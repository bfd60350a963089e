-- What is told of an update whose tree data are told apart.
use Rattle.std.specs.Prelude.{Bool, false}
use Rattle.ax_tree.specs.declared.update.TreeUpdate.{TreeUpdate}
use Rattle.ax_ask.specs.declared.line.UpdateNote.{UpdateNote}
use Rattle.ax_run_rules.specs.FrameSteps.{update_note}

abbrev pub note_of : Bool → TreeUpdate → UpdateNote
note_of with_data u = record (update_note u) { with_data = with_data }

abbrev pub plain_note : TreeUpdate → UpdateNote
plain_note u = note_of false u
