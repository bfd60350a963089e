-- What one action makes of a frame.
use Rattle.std.specs.Prelude.{ℕ, ◌≡◌, List, ◌++◌, map, Option, Some, None, option_to_list}
use Rattle.ax_tree.specs.declared.edit.Edit.{Edit}
use Rattle.ax_tree.specs.declared.packet.JEntry.TheVariants as entries
use Rattle.ax_tree.specs.Edits.{refusal, HasLeaf}
use Rattle.ax_tree.specs.Journals.{frame_of}
use Rattle.ax_tree.specs.Tree.{Tree}
use Rattle.ax_ask.specs.declared.action.Action.{Action}
use Rattle.ax_ask.specs.declared.action.ActNote.{ActNote}
use Rattle.ax_ask.specs.declared.action.ActNote.TheVariants as notes
use Rattle.ax_frame.specs.Frames.{Journaled}
use Rattle.ax_run_rules.specs.Actions as rules
use Rattle.ax_actions.specs.declared.performing.Done.{Done}
use Rattle.ax_actions.specs.declared.performing.Done.TheVariants as dones
use Rattle.ax_actions.specs.declared.performing.Course.{Course}
use Rattle.ax_actions.specs.declared.performing.Course.TheVariants.{Refused, Makes}

-- the source of a frame's journal
abbrev pub source_now : Journaled → Tree
source_now j = (frame_of j.tree j.journal).source

-- what a line tells
abbrev pub note_of : Done → ActNote
note_of dones.Ok = notes.Ok
note_of dones.NoRoot = notes.NoRoot
note_of (dones.UnknownNode z) = notes.UnknownNode z
note_of (dones.NoContainer z) = notes.NoContainer z

-- what an action does upon a frame's source
abbrev pub done_now : Action → Journaled → rules.Done
done_now a j = rules.acted (source_now j) a.node a.what

-- the frame with its edit, if it makes one
abbrev pub after_done : rules.Done → Journaled → Journaled
after_done d j = record { tree = j.tree; journal = j.journal ++ map (λ e. entries.Edited e) (option_to_list d.edit) }

-- what an action comes to, as the rule tells it
abbrev pub told_course : Course → rules.Done
told_course (Refused d) = record { note = note_of d; edit = None }
told_course (Makes e) = record { note = notes.Ok; edit = Some e }

-- nothing stands against the edit that it makes
abbrev pub IsAllowed : Course → Tree → Type 0
IsAllowed (Refused d) s = Unit {0}
IsAllowed (Makes e) s = HasLeaf e × (refusal e s ≡ None)
