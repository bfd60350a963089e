use Rattle.ax_laws.proofs.GoodPackets.{fits_new, fits_idle}
use Rattle.ax_laws.proofs.other_entries_leave_list_fitting.Goals as goal

pub returns : goal.returns
returns c = (λ t. fits_new t, λ t journal packets e fit h. fits_idle t journal packets e fit h)
