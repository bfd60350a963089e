use Rattle.std.proofs.Common.{◌≡◌, take, map}
use Rattle.ax_frame.specs.Notes.{plain_note}
use Rattle.ax_frame.proofs.notes.plain_notes.Given as goal

abbrev pub invariant-loop-update : goal.invariant-loop-update
invariant-loop-update l = l.notes ≡ map plain_note (take l.update-index l.updates)
