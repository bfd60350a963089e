use Rattle.std.proofs.Common.{refl}
use Rattle.std.specs.Str.{chars}
use Rattle.ax_base.proofs.text.Text.new.Goals as goal

pub returns : goal.returns
unfolding chars
returns c = refl
