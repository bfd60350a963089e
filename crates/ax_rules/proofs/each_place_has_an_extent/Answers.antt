use Rattle.std.proofs.Common.{◌≡◌, true, ap, refl}
use Rattle.std.specs.Prelude.{is_some}
use Rattle.ax_rules.proofs.PlaceLemmas.{place_has_extent}
use Rattle.ax_rules.proofs.each_place_has_an_extent.Goals as goal

pub returns : goal.returns
returns c = λ f p h. ap is_some (place_has_extent f p h).is
