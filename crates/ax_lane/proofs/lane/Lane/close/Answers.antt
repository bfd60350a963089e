use Rattle.std.proofs.Common.{ap, ◌∙◌}
use Rattle.ax_lane.proofs.Ended.{ended}
use Rattle.ax_lane.proofs.lane.Lane.close.Goals as goal

pub returns-in-Ok-clause-whole : goal.returns-in-Ok-clause-whole
returns-in-Ok-clause-whole g c =
    let v = c.take_back.ensures.view in
    let stands = (ended _ _ _ _ _ _ _ _ (v.2 ∙ ap (λ r. r.got) c.taker.view_is) (v.3 ∙ ap (λ r. r.trees) c.taker.view_is) v.4 c.in-Ok.ensures.left).0 in
    λ k d within. (stands k d within).0

pub returns-in-Ok-clause-order : goal.returns-in-Ok-clause-order
returns-in-Ok-clause-order g c =
    let v = c.take_back.ensures.view in
    let stands = (ended _ _ _ _ _ _ _ _ (v.2 ∙ ap (λ r. r.got) c.taker.view_is) (v.3 ∙ ap (λ r. r.trees) c.taker.view_is) v.4 c.in-Ok.ensures.left).0 in
    λ k d within. (stands k d within).1

pub returns-in-Ok-clause-known : goal.returns-in-Ok-clause-known
returns-in-Ok-clause-known g c =
    let v = c.take_back.ensures.view in
    (ended _ _ _ _ _ _ _ _ (v.2 ∙ ap (λ r. r.got) c.taker.view_is) (v.3 ∙ ap (λ r. r.trees) c.taker.view_is) v.4 c.in-Ok.ensures.left).1

pub returns-in-Ok-clause-good : goal.returns-in-Ok-clause-good
returns-in-Ok-clause-good g c =
    let v = c.take_back.ensures.view in
    (ended _ _ _ _ _ _ _ _ (v.2 ∙ ap (λ r. r.got) c.taker.view_is) (v.3 ∙ ap (λ r. r.trees) c.taker.view_is) v.4 c.in-Ok.ensures.left).2
