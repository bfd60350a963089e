use Rattle.std.proofs.Common.{ℕ, ◌≡◌, ◌∙◌, ◌==◌, cond, sym, ap, ap₂}
use Rattle.ax_tree.specs.Tree.{empty}
use Rattle.ax_tree.specs.Updates.{applied_all}
use Rattle.ax_mirror.specs.Mirrors.{base_of}
use Rattle.ax_rules.specs.Mirrors.{tree_or, built_by}
use Rattle.ax_forest.proofs.judging.renew.Goals as goal

pub returns-clause-built : goal.returns-clause-built
unfolding built_by
returns-clause-built g c = λ own.
    let old = c.args.old.now in
    let p = c.args.packet.now in
    let start : cond (p.base.0 == 0) (empty p.tree) old ≡ base_of c.same_number.result c.in-Ok.mirror =
    sym (ap (λ (t : ℕ). cond (p.base.0 == 0) (empty t) old) own) ∙ sym (ap₂ base_of c.same_number.ensures c.in-Ok.ensures) in
    sym (ap (λ x. tree_or old (applied_all p.bundle x)) start ∙ ap (tree_or old) c.in_ok-touched.ensures.ok)

pub returns-clause-gives : goal.returns-clause-gives
returns-clause-gives g c = λ own.
    let old = c.args.old.now in
    let p = c.args.packet.now in
    ap (applied_all p.bundle) (ap (λ (t : ℕ). cond (p.base.0 == 0) (empty t) old) (sym own) ∙ ap₂ base_of (sym c.same_number.ensures) (sym c.in-Ok.ensures)) ∙ c.in_ok-touched.ensures.ok
