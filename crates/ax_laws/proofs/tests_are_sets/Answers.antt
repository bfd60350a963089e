use Rattle.ax_laws.proofs.Reachings.{plain_is, plain_back, closed_is, closed_back}
use Rattle.ax_laws.proofs.tests_are_sets.Goals as goal

pub returns : goal.returns
returns c = (
  λ s k m r a t h. (λ p. plain_is k s.trees m r a t.distinct h p, λ f. plain_back k s.trees m r a t.distinct h f.0 f.1),
  λ s k y. (λ h. closed_is k s.trees y h, λ h. closed_back k s.trees y h),
)
