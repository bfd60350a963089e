-- The text of the order taken is that of the calls' lines, each in its place, and of the finale from the state of the parts.
use Rattle.std.proofs.Common.{ℕ, ◌≡◌, List, [], refl, sym, ap, ◌∙◌, Option, Some, None, option_map, option_and_then}
use Rattle.std.specs.Prelude.{codes}
use Rattle.ax_tree.specs.declared.packet.Packet.{Packet}
use Rattle.ax_ask.specs.declared.line.Line.{Line}
use Rattle.ax_run_rules.specs.Scripts.{Script}
use Rattle.ax_run_rules.specs.States.{Run, without_lines}
use Rattle.ax_run_rules.specs.Finale.{finale_of}
use Rattle.ax_run_rules.specs.Writing.{◌⌢◌}
use Rattle.ax_run_rules.specs.LineText.{lines_text}
use Rattle.ax_run_rules.specs.Dump.{dump_text}
use Rattle.ax_run_rules.specs.ReplayText.{ended_text, replay_text}
use Rattle.ax_run_rules.specs.Taken.{Closed, order_taken}
use Rattle.ax_order_laws.specs.Parts.{IsClosedHub, IsTakenFrom, run_without}
use Rattle.ax_order_laws.specs.Laws.{parts_run, parts_text}
use Rattle.ax_order_laws.proofs.Ending.{walk, last_run, there, last_state}
use Rattle.ax_order_laws.proofs.Bundles.{finale_respects, forest_same}

abbrev whole_text : List Line → Run → List ℕ
whole_text ls e = lines_text ls ⌢ codes "finale\n" ⌢ ended_text e

text_same : (ls : List Line) (e : Run) → whole_text ls (run_without e) ≡ whole_text ls e
unfolding ended_text
text_same ls e = ap (λ f. lines_text ls ⌢ codes "finale\n" ⌢ (lines_text e.lines ⌢ codes "dump\n" ⌢ dump_text f)) (forest_same e)

texts_same : (ls : List Line) (o : Option Run) → option_map (whole_text ls) (option_map run_without o) ≡ option_map (whole_text ls) o
texts_same ls None = refl
texts_same ls (Some e) = ap Some (text_same ls e)

module _ (s : Script) (c : Closed) (waiting : List Packet) (looks : List (List ℕ)) (closed : IsClosedHub c waiting looks) (holds : IsTakenFrom s c looks) where
  same_start : run_without (without_lines (last_run s c waiting looks closed holds)) ≡ run_without (parts_run s c waiting looks)
  same_start = ap (λ x. record { state = x; lines = [] }) (last_state s c waiting looks closed holds)

  same_finale : (ls : List Line) → option_map (whole_text ls) (finale_of (without_lines (last_run s c waiting looks closed holds))) ≡ option_map (whole_text ls) (finale_of (parts_run s c waiting looks))
  same_finale ls =
      sym (texts_same ls (finale_of (without_lines (last_run s c waiting looks closed holds))))
      ∙ (ap (option_map (whole_text ls)) (finale_respects.same (without_lines (last_run s c waiting looks closed holds)) (parts_run s c waiting looks) same_start)
      ∙ texts_same ls (finale_of (parts_run s c waiting looks)))

  pub taken_text : replay_text s (order_taken c looks) ≡ parts_text s c waiting looks
  unfolding replay_text parts_text
  taken_text =
      ap (option_and_then (λ (r : Run). option_map (λ e. whole_text r.lines e) (finale_of (without_lines r)))) (there s c waiting looks closed holds)
      ∙ (same_finale (walk s c waiting looks closed holds).new
      ∙ sym (ap (option_and_then (λ (ls : List Line). option_map (λ (e : Run). whole_text ls e) (finale_of (parts_run s c waiting looks)))) (walk s c waiting looks closed holds).told))
