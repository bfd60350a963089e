-- One name to unfold where a proof computes a text or a list from the rules.
use Rattle.std.specs.Fmt.{digits}
use Rattle.std.specs.Str.{chars}
use Rattle.unicode_segmentation.proofs.Computing.{unicode_segmentation}
use Rattle.ax_rules.specs.Events as Events
use Rattle.ax_rules.specs.Histories as Histories
use Rattle.ax_rules.specs.Mirrors as Mirrors
use Rattle.ax_rules.specs.Stitched as Stitched
use Rattle.ax_rules.specs.StitchedTree as StitchedTree
use Rattle.ax_rules.specs.Extents as Extents
use Rattle.ax_rules.specs.Hit as Hit
use Rattle.ax_rules.specs.Focus as Focus
use Rattle.ax_rules.specs.Texts as Texts
use Rattle.ax_rules.specs.Positions as Positions
use Rattle.ax_rules.specs.Moves as Moves
use Rattle.ax_rules.specs.Unignored as Unignored
use Rattle.ax_run_rules.specs.Replies as Replies
use Rattle.ax_run_rules.specs.States as States
use Rattle.ax_run_rules.specs.FrameSteps as FrameSteps
use Rattle.ax_run_rules.specs.Steps as Steps
use Rattle.ax_run_rules.specs.Finale as Finale
use Rattle.ax_rules.specs.Combined as Combined
use Rattle.ax_run_rules.specs.Actions as Actions
use Rattle.ax_run_rules.specs.Fair as Fair
use Rattle.ax_run_rules.specs.Taken as Taken
use Rattle.ax_run_rules.specs.Writing as Writing
use Rattle.ax_run_rules.specs.ReplyText as ReplyText
use Rattle.ax_run_rules.specs.LineText as LineText
use Rattle.ax_run_rules.specs.Dump as Dump
use Rattle.ax_run_rules.specs.ReplayText as ReplayText
use Rattle.ax_run_rules.specs.CombineText as CombineText
use Rattle.ax_run_rules.specs.ActText as ActText

-- `unfolding computing` lets `refl` compute all that the rules define
unfoldable pub computing : Unit {0}
unfolding digits lib.Utf8.encode chars unicode_segmentation Events.tree_events Events.state_events Events.attr_events Events.changes Events.is_region_changed Events.node_events Events.events_of Histories.is_gone Histories.token_of Histories.got Histories.verdict_at Histories.applied_pass Histories.is_applied Mirrors.mirror_of Mirrors.verdict_of Mirrors.built_by Mirrors.built_of Mirrors.built_verdict_of Mirrors.forest_of Mirrors.built_forest_of Stitched.stitched Stitched.find_placed Stitched.has_place Stitched.children_of Stitched.is_within Stitched.before Stitched.next_in Stitched.prev_in Stitched.is_leaf Stitched.leaves StitchedTree.stitched_tree Extents.base_among Extents.origin_under Extents.base_of Extents.extent_of Extents.place_extent Extents.holds Extents.extent_holds Hit.clips Hit.is_hit Hit.hit_of Focus.is_shown Focus.shown_at Focus.own_focus Focus.focus_at Focus.focus_of Texts.joined Texts.leaves_in Texts.text_of Texts.text_len Texts.start_of Texts.document Positions.is_live Positions.child_mark Positions.text_mark Positions.mark_in Positions.checked Positions.global_offset Positions.leaf_at Positions.leaf_form Positions.up_form Positions.position_order Positions.range_text Moves.bounds_of Moves.bound_after Moves.bound_before Moves.move_of Unignored.is_unignored Unignored.unignored Unignored.is_shown_place Unignored.shown_parent Unignored.shown_children Unignored.shown_next Unignored.shown_prev Unignored.is_shown_leaf Unignored.shown_text Replies.of_place Replies.of_pos Replies.answer_of States.start States.begin States.frame_now States.forest_now States.find_frame States.with_frame FrameSteps.edit_line FrameSteps.update_note FrameSteps.made_note FrameSteps.packet_now FrameSteps.op_line FrameSteps.do_op Steps.do_receive Steps.do_ask Steps.probe_note Steps.do_browser Steps.do_deliver Steps.do_query Steps.step Finale.ops_left Finale.packets_left Finale.is_behind Finale.pass_of Finale.refresh Finale.queries_left Finale.finale_of Finale.finished Combined.number_of Combined.numbered_look Combined.combined_node Combined.combined_nodes Combined.combined_data Actions.acted Actions.act_line Actions.perform Actions.served Actions.all_served Actions.actions_lines Actions.after_actions Fair.is_due Fair.is_query_due Fair.may_follow Fair.all_ready_asked Fair.all_delivered Taken.made_by Taken.entries_of_pass Taken.packet_items Taken.queries_at Taken.entries_left Taken.order_taken Writing.quoted Writing.place_text Writing.area_text ReplyText.reply_text LineText.update_line LineText.pass_text LineText.event_line LineText.verdict_text LineText.line_text LineText.lines_text Dump.tree_line Dump.state_text Dump.attr_text Dump.look_text Dump.tree_text Dump.dump_text ReplayText.item_text ReplayText.order_text ReplayText.ended_text ReplayText.replay_text CombineText.node_line CombineText.combined_text CombineText.combine_text ActText.actions_text ActText.act_text
computing = tt
