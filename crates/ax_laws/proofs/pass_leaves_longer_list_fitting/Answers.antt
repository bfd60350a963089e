use Rattle.ax_laws.proofs.GoodPackets.{fits_made}
use Rattle.ax_laws.proofs.pass_leaves_longer_list_fitting.Goals as goal

pub returns : goal.returns
returns c = λ t journal packets p fit q e g. fits_made t journal packets p fit q e g
