use Rattle.ax_laws.proofs.TreeMaps.{tree_told, tree_one}
use Rattle.ax_laws.proofs.each_finite_map_is_one_tree.Goals as goal

pub returns : goal.returns
returns c = (λ about m root h. tree_told about m root h, λ t q tw qw a e h. tree_one t q tw qw a e h)
