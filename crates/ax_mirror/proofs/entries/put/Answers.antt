use Rattle.std.proofs.Common.{◌≡◌, ℕ, List, length, ap, arith}
use Rattle.ax_mirror.proofs.Reached.{at_most_same, at_most_with}
use Rattle.ax_mirror.proofs.Lists.{one_more}
use Rattle.ax_mirror.proofs.entries.put.Goals as goal

pub returns-clause-cost : goal.returns-clause-cost
returns-clause-cost g c = one_more _ _ _ _ c.args.id _ c.in_ok-new.ensures.ok c.in_ok-new.ensures.new c.in_ok-write_page.ensures.cost

pub returns-in_err-new-clause-at_most : goal.returns-in_err-new-clause-at_most
returns-in_err-new-clause-at_most g c = at_most_same _ _ c.args.id c.in_err-new.ensures.err

pub returns-in_err-write_page-clause-at_most : goal.returns-in_err-write_page-clause-at_most
returns-in_err-write_page-clause-at_most g c = at_most_with _ _ c.args.id c.in_ok-new.ensures.ok

pub returns-clause-at_most : goal.returns-clause-at_most
returns-clause-at_most g c = at_most_with _ _ c.args.id c.in_ok-new.ensures.ok

pub returns-in_err-write_page-clause-cost : goal.returns-in_err-write_page-clause-cost
returns-in_err-write_page-clause-cost g c = one_more _ _ _ _ c.args.id _ c.in_ok-new.ensures.ok c.in_ok-new.ensures.new c.in_err-write_page.ensures.cost

pub returns-in_err-new-clause-cost : goal.returns-in_err-new-clause-cost
returns-in_err-new-clause-cost g c = let l : length c.add.new.self ≡ length c.args.touched.now = ap (λ (js : List ℕ). length js) c.in_err-new.ensures.err in omega arith
