use Rattle.ax_laws.proofs.Sent.{resumed_bundle_reach}
use Rattle.ax_laws.proofs.broken_bundle_is_completed.Goals as goal

pub returns : goal.returns
returns c = λ kept from r s m flag fresh low e h st. resumed_bundle_reach kept from r s m flag fresh low e h st
