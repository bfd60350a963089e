use Rattle.ax_run_laws.proofs.NoGaps.{no_gaps}
use Rattle.ax_run_laws.proofs.no_receipt_is_a_gap.Goals as goal

pub returns : goal.returns
returns c = λ s o r a h. no_gaps s o r a h
