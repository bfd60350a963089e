use Rattle.std.proofs.Common.{◌∙◌, cond, None, sym, ap, subst}
use Rattle.std.specs.FinMap as fin
use Rattle.ax_by_id.proofs.Maps.{out_at}
use Rattle.ax_managers.specs.Shown.{AllAgree}
use Rattle.ax_managers.proofs.Results.{on_both}
use Rattle.ax_managers.proofs.Shown.{agree_out}
use Rattle.ax_managers.proofs.managers.free.Goals as goal

pub returns-clause-others : goal.returns-clause-others
returns-clause-others c u q =
    on_both c.take.result
    (λ e. ap (λ m. fin.get m u) e ∙ (out_at c.args.trees.now c.args.t u ∙ ap (λ b. cond b None (fin.get c.args.trees.now u)) q))
    (λ e. ap (λ m. fin.get m u) e) c.take.ensures.ok c.take.ensures.err

pub returns-clause-agree : goal.returns-clause-agree
returns-clause-agree c a =
    on_both c.take.result
    (λ e. agree_out c.args.trees.now c.take.new.self c.args.t a (λ u. ap (λ m. fin.get m u) e ∙ out_at c.args.trees.now c.args.t u))
    (λ e. subst AllAgree (sym e) a) c.take.ensures.ok c.take.ensures.err
