use Rattle.std.proofs.Common.{◌∙◌, ap, sym, subst}
use Rattle.ax_managers.specs.Shown.{shown, AllAgree}
use Rattle.ax_managers.proofs.managers.Managers.share.Goals as goal

pub returns : goal.returns
returns c = ap (λ m. shown c.self.inside.first m c.self.inside.gone) c.in_ok-trees.ensures ∙ c.self.view_is

pub invariant_of-result : goal.invariant_of-result
invariant_of-result c = subst AllAgree (sym c.in_ok-trees.ensures) c.self.invariant
