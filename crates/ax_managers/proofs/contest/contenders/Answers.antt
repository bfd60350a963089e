use Rattle.std.proofs.Common.{◌∙◌, ap, arith}
use Rattle.ax_trees.specs.Lists.{contains}
use Rattle.ax_managers.proofs.contest.contenders.Goals as goal

pub returns : goal.returns
returns c z =
    let none = ap (λ xs. contains xs z) c.new-nodes.ensures in
    let rivals = ap (λ xs. contains xs z) c.as_slice.ensures in
    let hosts = ap (λ xs. contains xs z) (c.as_slice-2.ensures ∙ c.in_ok-hosts.ensures) in
    grind (arith, none, rivals, hosts, c.in_ok-add_all.ensures z, c.in_ok-add_all-2.ensures z, c.in_ok-add_all-3.ensures z)
