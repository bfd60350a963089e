use Rattle.ax_place_laws.proofs.Starts.{list_once}
use Rattle.ax_place_laws.proofs.no_place_stands_twice.Goals as goal

pub returns : goal.returns
returns c = list_once
