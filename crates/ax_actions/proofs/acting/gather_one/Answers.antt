use Rattle.std.proofs.Common.{[], ◌∷◌, ◌++◌, sym, ap, ◌∙◌, subst}
use Rattle.ax_actions.specs.Acting.{AreGathered}
use Rattle.ax_actions.proofs.ActingLemmas.{if_ok, gathered_more}
use Rattle.ax_actions.proofs.acting.gather_one.Goals as goal

pub returns-in-Ends : goal.returns-in-Ends
returns-in-Ends c =
    if_ok c.add_lines.result _ _ c.add_lines.ensures
    (λ e slots g. subst (λ s. AreGathered (slots ++ s ∷ []) c.push.new.self.items c.add_lines.new.lines) (sym c.in-Ends.is)
    (gathered_more slots c.args.frames.now.items c.push.new.self.items c.args.lines.now c.add_lines.new.lines c.in-Ends.acted c.in_ok-push-in-Ends.ensures.items (e ∙ ap (λ l. c.args.lines.now ++ l) c.into_vec.ensures) g))
