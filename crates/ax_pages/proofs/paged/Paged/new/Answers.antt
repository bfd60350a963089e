use Rattle.std.proofs.Common.{◌∙◌, ap, sym}
use Rattle.std.specs.Ordering.{nat_cmp}
use Rattle.std.specs.FinMap as map
use Rattle.ax_pages.proofs.paged.Paged.new.Goals as goal

pub invariant_of-result : goal.invariant_of-result
invariant_of-result g c = sym (ap map.len c.new.ensures ∙ map.len-empty nat_cmp g.row.T.Denot)
