use Rattle.std.specs.Prelude.{false}
use Rattle.ax_laws.proofs.Sent.{bundle_reach}
use Rattle.ax_laws.proofs.FrameSteps.{self_in_step}
use Rattle.ax_laws.proofs.each_bundle_gives_the_source.Goals as goal

pub returns : goal.returns
returns c = λ r s m flag st. (bundle_reach r s m flag st, self_in_step s st.trees.source st.trees.source_low false)
