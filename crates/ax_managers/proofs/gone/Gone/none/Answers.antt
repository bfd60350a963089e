use Rattle.ax_managers.proofs.Shown.{none_flagged}
use Rattle.ax_managers.proofs.gone.Gone.none.Goals as goal

pub returns : goal.returns
returns c t = none_flagged 1001 t
