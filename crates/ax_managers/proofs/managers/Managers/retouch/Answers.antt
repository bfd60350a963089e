use Rattle.std.proofs.Common.{◌∙◌, sym, ap, subst}
use Rattle.ax_managers.specs.Telling.{retold}
use Rattle.ax_managers.specs.Managed.{Tells}
use Rattle.ax_managers.specs.Shown.{told_at, shown}
use Rattle.ax_managers.proofs.Results.{on_ok, on_err}
use Rattle.ax_managers.proofs.Shown.{are_of, tells, told_retold, not_gone, kept}
use Rattle.ax_managers.proofs.Forests.{first_retold, stands_retold, told_there}
use Rattle.ax_managers.proofs.managers.Managers.retouch.Goals as goal

pub returns-clause-ok : goal.returns-clause-ok
returns-clause-ok g c = on_ok c.retouch.result (λ tells_on f n t l h.
    let m = c.self.inside in
    let new = g.T.TreeView.tree c.args.tree.now in
    let trees = c.retouch.new.trees in
    let own : Tells _ f = subst (λ v. Tells v f) (sym c.self.view_is) t in
    let are = are_of m.first m.trees m.gone f own in
    let there = told_there (told_at m.trees m.gone) (told_at m.trees m.gone) f c.args.t are n l in
    let next = tells_on there.told n (kept m.trees m.gone c.args.t there.told there.is) there.of h in
    let put = told_retold m.trees trees c.args.t m.gone next.told (not_gone m.trees m.gone c.args.t there.told there.is) next.puts in
    tells m.first trees m.gone (retold c.args.t new f)
    (stands_retold (told_at m.trees m.gone) (told_at trees m.gone) f c.args.t are new n next.told l next.of put) (first_retold c.args.t new f ∙ own.first))
    c.retouch.ensures.ok

pub returns-clause-err : goal.returns-clause-err
returns-clause-err g c = on_err c.retouch.result (λ e. ap (λ m. shown c.self.inside.first m c.self.inside.gone) e ∙ c.self.view_is) c.retouch.ensures.err
