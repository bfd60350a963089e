-- How frames in a run, and states, are stored as pairs of their parts.
use Rattle.std.specs.Prelude.{ℕ, List, refl}
use Rattle.std.specs.Coded.{Coded, code_by, coded×, coded_ℕ, coded_list}
use Rattle.ax_tree.specs.declared.packet.Packet.{Packet}
use Rattle.ax_tree.specs.declared.packet.JEntry.{JEntry}
use Rattle.ax_tree.specs.declared.packet.HEntry.{HEntry}
use Rattle.ax_tree.specs.contracts.packet.Packet.{the_row as packet_row}
use Rattle.ax_tree.specs.contracts.packet.JEntry.{the_row as journal_row}
use Rattle.ax_tree.specs.contracts.packet.HEntry.{the_row as history_row}
use Rattle.ax_ask.specs.declared.op.FrameOp.{FrameOp}
use Rattle.ax_ask.specs.declared.op.TimedOp.{TimedOp}
use Rattle.ax_ask.specs.declared.query.TimedQuery.{TimedQuery}
use Rattle.ax_ask.specs.contracts.op.FrameOp.{the_row as op_row}
use Rattle.ax_ask.specs.contracts.op.TimedOp.{the_row as timed_row}
use Rattle.ax_ask.specs.contracts.query.TimedQuery.{the_row as query_row}
use Rattle.ax_run_rules.specs.States.{FrameRun, State}

abbrev pub coded_frame : Coded FrameRun
coded_frame =
    code_by ((ℕ × List FrameOp) × (List JEntry × List Packet))
    (coded× (coded× coded_ℕ (coded_list op_row.coded)) (coded× (coded_list journal_row.coded) (coded_list packet_row.coded)))
    (λ f. ((f.tree, f.left), (f.journal, f.waiting))) (λ p. record { tree = p.0.0; left = p.0.1; journal = p.1.0; waiting = p.1.1 }) (λ _. refl)

abbrev pub coded_state : Coded State
coded_state =
    code_by ((List FrameRun × List TimedOp) × (List (List TimedQuery) × List HEntry))
    (coded× (coded× (coded_list coded_frame) (coded_list timed_row.coded)) (coded× (coded_list (coded_list query_row.coded)) (coded_list history_row.coded)))
    (λ s. ((s.frames, s.browser), (s.readers, s.history))) (λ p. record { frames = p.0.0; browser = p.0.1; readers = p.1.0; history = p.1.1 }) (λ _. refl)
