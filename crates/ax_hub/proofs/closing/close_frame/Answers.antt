use Rattle.std.proofs.Common.{[], ◌∷◌, ap, inr, subst, sym, ◌∙◌}
use Rattle.ax_turn.specs.Makers.{GrowsByOthers}
use Rattle.ax_frame.specs.Frames.{Journaled}
use Rattle.ax_stays.specs.Makers.{maker_of}
use Rattle.ax_hub.proofs.Closed.{joined_high}
use Rattle.ax_stays.proofs.Cuts.{cuts_in}
use Rattle.ax_stays.proofs.Growing.{grows_at}
use Rattle.ax_hub.proofs.closing.close_frame.Goals as goal

pub join-requires-clause-beside : goal.join-requires-clause-beside
join-requires-clause-beside c = inr (c.requires.other.low ∙ sym c.requires.seat.high)

pub close_with-requires-clause-all : goal.close_with-requires-clause-all
close_with-requires-clause-all c = (
  ap (λ v. v.low) c.join.ensures.seat ∙ c.requires.seat.low,
  ap (λ v. v.high) c.join.ensures.seat ∙ (joined_high c.args.other.low c.args.other.high c.args.seat.high c.requires.other.low c.requires.other.high ∙ sym c.requires.makers),
)

pub returns-clause-own : goal.returns-clause-own
returns-clause-own c =
    subst (λ l. GrowsByOthers maker_of 0 1 c.args.seat.seen l) (sym (ap (λ (j : Journaled). j.journal) c.into_parts.ensures.frame ∙ c.close_with.ensures.entries))
    (grows_at maker_of c.args.seat.low c.args.seat.high 0 1 c.args.seat.seen c.join.new.seat.seen c.requires.seat.low c.requires.seat.high c.join.ensures.first)

pub returns-clause-told : goal.returns-clause-told
returns-clause-told c =
    subst (λ l. GrowsByOthers maker_of 1 2 c.args.other.seen l) (sym (ap (λ (j : Journaled). j.journal) c.into_parts.ensures.frame ∙ c.close_with.ensures.entries))
    (grows_at maker_of c.args.other.low c.args.other.high 1 2 c.args.other.seen c.join.new.seat.seen c.requires.other.low c.requires.other.high c.join.ensures.second)

pub returns-clause-tree : goal.returns-clause-tree
returns-clause-tree c = ap (λ (j : Journaled). j.tree ∷ []) c.into_parts.ensures.frame ∙ c.close_with.ensures.name

pub returns-clause-made : goal.returns-clause-made
returns-clause-made c = c.into_parts.ensures.made ∙ ap cuts_in (sym c.into_parts.ensures.frame)
