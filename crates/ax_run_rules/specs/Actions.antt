-- What a reader's action does at a node of a frame, and what a list of actions makes of the frames of a run.
use Rattle.std.specs.Prelude.{ℕ, ◌==◌, if◌then◌else◌, List, [], ◌∷◌, ◌++◌, filter, map, flat_map, Option, Some, None, option_to_list}
use Rattle.ax_base.specs.Area.{Area}
use Rattle.ax_node.specs.declared.value.Value.{Value}
use Rattle.ax_node.specs.declared.value.Value.TheVariants.{Text, Int}
use Rattle.ax_node.specs.Look.{Look}
use Rattle.ax_trees.specs.Trees.{is_bare, has}
use Rattle.ax_trees.specs.Nodes.{Node, node_at}
use Rattle.ax_tree.specs.declared.edit.Edit.{Edit}
use Rattle.ax_tree.specs.declared.edit.Edit.TheVariants as edits
use Rattle.ax_tree.specs.declared.edit.AttrChange.{AttrChange}
use Rattle.ax_tree.specs.declared.packet.JEntry.TheVariants as entries
use Rattle.ax_tree.specs.Tree.{Tree}
use Rattle.ax_ask.specs.declared.action.Action.{Action}
use Rattle.ax_ask.specs.declared.action.What.{What}
use Rattle.ax_ask.specs.declared.action.What.TheVariants.{Focus, SetValue, Scroll}
use Rattle.ax_ask.specs.declared.action.ActNote.{ActNote}
use Rattle.ax_ask.specs.declared.action.ActNote.TheVariants as acts
use Rattle.ax_ask.specs.declared.action.DoName.{DoName}
use Rattle.ax_ask.specs.declared.action.DoName.TheVariants as names
use Rattle.ax_ask.specs.declared.line.Line.{Line}
use Rattle.ax_ask.specs.declared.line.Line.TheVariants as lines
use Rattle.ax_rules.specs.Rows.{value_key, scroll_x_key, scroll_y_key}
use Rattle.ax_rules.specs.Extents.{base_of}
use Rattle.ax_rules.specs.Histories.{is_gone}
use Rattle.ax_run_rules.specs.States.{FrameRun, State, frame_now}

-- what became of an action, and the edit that it makes
pub record Done : Type 0 where
  pub note : ActNote
  pub edit : Option Edit

abbrev pub refused : ActNote → Done
refused n = record { note = n; edit = None }

abbrev pub done : Edit → Done
done e = record { note = acts.Ok; edit = Some e }

abbrev pub change : ℕ → Value → AttrChange
change k v = record { key = k; value = Some v }

abbrev pub attrs_edit : ℕ → List AttrChange → Edit
attrs_edit z cs = edits.Set (record { node = z; role = None; states = None; attrs = cs; rect = None })

abbrev pub focus_edit : ℕ → Edit
focus_edit z = edits.Tree (record { parent = None; focused = None; loaded = None; focus = Some (Some z); anchor = None; end = None; title = None; url = None })

abbrev pub scroll_edit : Area → ℕ → Edit
scroll_edit a b = attrs_edit b (change scroll_x_key (Int a.x) ∷ change scroll_y_key (Int a.y) ∷ [])

-- the container scrolls to the node's corner
abbrev pub scrolled : ℕ → Option (Node Look) → Option ℕ → Done
scrolled z (Some n) (Some b) = done (scroll_edit n.known.rect b)
scrolled z (Some n) None = refused (acts.NoContainer z)
scrolled z None b = refused (acts.NoContainer z)

abbrev pub done_at : Tree → ℕ → What → Done
done_at s z Focus = done (focus_edit z)
done_at s z (SetValue v) = done (attrs_edit z (change value_key (Text v) ∷ []))
done_at s z Scroll = scrolled z (node_at s.trees z) (base_of s z)

-- what the action does upon the source
unfoldable pub acted : Tree → ℕ → What → Done
acted s z w = if is_bare s.trees then refused acts.NoRoot else if has s.trees z then done_at s z w else refused (acts.UnknownNode z)

-- ---- a list of actions

abbrev pub name_of : What → DoName
name_of Focus = names.Focus
name_of (SetValue v) = names.SetValue
name_of Scroll = names.Scroll

unfoldable pub act_line : Action → ActNote → Line
act_line a n = lines.Acted a.tree (name_of a.what) a.node n

abbrev pub edited_frame : FrameRun → Option Edit → FrameRun
edited_frame f e = record f { journal = f.journal ++ map (λ x. entries.Edited x) (option_to_list e) }

-- a frame, and the lines of its actions so far
pub record Served : Type 0 where
  pub frame : FrameRun
  pub lines : List Line

unfoldable pub perform : Served → Action → Done → Served
perform s a d = record { frame = edited_frame s.frame d.edit; lines = s.lines ++ act_line a d.note ∷ [] }

abbrev pub perform_all : List Action → Served → Served
perform_all [] s = s
perform_all (a ∷ az) s = perform_all az (perform s a (acted (frame_now s.frame).source a.node a.what))

-- the actions of a frame's tree, in the list's order
unfoldable pub served : List Action → State → FrameRun → Served
served az s f =
    let own = filter (λ (a : Action). a.tree == f.tree) az in
    if is_gone s.history f.tree then record { frame = f; lines = map (λ a. act_line a acts.Gone) own } else perform_all own (record { frame = f; lines = [] })

unfoldable pub all_served : List Action → State → List Served
all_served az s = map (served az s) s.frames

-- the lines frame by frame, and the state with the frames that the actions leave
unfoldable pub actions_lines : List Action → State → List Line
actions_lines az s = flat_map (λ (d : Served). d.lines) (all_served az s)

unfoldable pub after_actions : List Action → State → State
after_actions az s = record s { frames = map (λ (d : Served). d.frame) (all_served az s) }
