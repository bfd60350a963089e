use Rattle.std.proofs.Common.{refl, ap, inl, inr}
use Rattle.ax_actions.specs.Ends.{DoerView}
use Rattle.ax_actions.proofs.ActingLemmas.{if_ok_more}
use Rattle.ax_actions.proofs.acting.take_one.Goals as goal

pub returns-in-Some-clause-took : goal.returns-in-Some-clause-took
returns-in-Some-clause-took g c = if_ok_more c.read.result _ _ c.read.ensures (λ last h. inr (c.in-Some.letter, ap (λ (v : DoerView). v.taken) c.in-Some.ensures.taken, h))

pub returns-in-None-clause-took : goal.returns-in-None-clause-took
returns-in-None-clause-took g c = inl (refl, ap (λ (v : DoerView). v.taken) c.in-None.ensures.taken, refl)
