use Rattle.ax_rules.proofs.Building.{bundles_build}
use Rattle.ax_rules.proofs.bundles_give_the_source.Goals as goal

pub returns : goal.returns
returns c = λ h t good. bundles_build h t good
