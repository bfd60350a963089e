use Rattle.ax_laws.proofs.NoMarkLeft.{no_mark_left}
use Rattle.ax_laws.proofs.BundlesReach.{rounds_enough}
use Rattle.ax_laws.proofs.each_bundle_takes_all_marks.Goals as goal

pub returns : goal.returns
returns c = λ n k client s m l g. (no_mark_left n client s m l, rounds_enough n k client s m l g)
