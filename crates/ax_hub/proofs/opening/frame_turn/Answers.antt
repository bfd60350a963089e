use Rattle.std.proofs.Common.{[], ◌∷◌, ap, subst, sym, ◌∙◌, arith}
use Rattle.ax_frame.specs.Frames.{Journaled}
use Rattle.ax_turn.specs.Makers.{AllOwn}
use Rattle.ax_stays.specs.Makers.{maker_of}
use Rattle.ax_hub.proofs.Opened.{cut_given, cut_kept}
use Rattle.ax_hub.proofs.opening.frame_turn.Goals as goal

pub new-requires-2-clause-made : goal.new-requires-2-clause-made
new-requires-2-clause-made c = subst (λ (j : Journaled). AllOwn maker_of 0 2 j.journal) (sym c.new.ensures) tt

pub split-requires-clause-place : goal.split-requires-clause-place
split-requires-clause-place c = let l = ap (λ v. v.low) c.in-Ok.ensures.seat in let h = ap (λ v. v.high) c.in-Ok.ensures.seat in (omega arith, omega arith)

pub returns-in-Ok-clause-turn : goal.returns-in-Ok-clause-turn
returns-in-Ok-clause-turn c = (c.in-Ok.ensures.turn.0, c.in-Ok.ensures.turn.1 ∙ ap (λ (j : Journaled). j.tree ∷ []) c.new.ensures)

pub returns-in-Ok-clause-own : goal.returns-in-Ok-clause-own
returns-in-Ok-clause-own c =
    cut_kept c.in-Ok.turn 1 2 c.new.result.journal c.in-Ok.own c.split.new.seat c.split.new.seat (ap (λ (j : Journaled). j.journal) c.new.ensures) c.in-Ok.ensures.seat c.split.ensures.kept

pub returns-in-Ok-clause-told : goal.returns-in-Ok-clause-told
returns-in-Ok-clause-told c =
    cut_given c.in-Ok.turn 1 2 c.new.result.journal c.in-Ok.own c.split.new.seat c.in_ok-told-in-Ok.told (ap (λ (j : Journaled). j.journal) c.new.ensures) c.in-Ok.ensures.seat c.in_ok-told-in-Ok.ensures.given
