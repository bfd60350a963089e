use Rattle.std.proofs.Common.{◌≡◌, ◌∙◌, ◌==◌, cond, sym, ap, refl}
use Rattle.ax_tree.specs.declared.verdict.Verdict.TheVariants.{Applied}
use Rattle.ax_tree.specs.Tree.{Tree, empty}
use Rattle.ax_tree.specs.Updates.{applied_all}
use Rattle.ax_rules.specs.Histories.{is_applied}
use Rattle.ax_rules.specs.Mirrors.{built_of, built_by, built_verdict_of}
use Rattle.ax_rules.specs.Events.{events_of}
use Rattle.ax_forest_laws.proofs.Ids.{each_built_tree_has_its_id}
use Rattle.ax_forest.proofs.Receipts.{why_live}
use Rattle.ax_forest.proofs.fate.fate_at.Goals as goal

pub returns-in-Stale-clause-ok : goal.returns-in-Stale-clause-ok
unfolding is_applied
returns-in-Stale-clause-ok g c = λ h i. record { is = λ told. c.in-Stale.ensures h told i.live i.tally; idle = refl }

pub returns-in-Gap-clause-ok : goal.returns-in-Gap-clause-ok
unfolding is_applied
returns-in-Gap-clause-ok g c = λ h i. record { is = λ told. c.in-Gap.ensures h told i.live i.tally; idle = refl }

pub returns-in-Ok-clause-ok : goal.returns-in-Ok-clause-ok
unfolding built_verdict_of
returns-in-Ok-clause-ok g c = λ h i.
    let p = c.args.packet.now in
    let old = c.args.old.now in
    let own : old.about.tree ≡ p.tree = ap (λ (m : Tree). m.about.tree) i.mirror ∙ each_built_tree_has_its_id h p.tree in
    record {
      live = i.live;
      is = λ told. c.in-Applies.ensures h told i.live i.tally;
      gives = ap (λ (m : Tree). applied_all p.bundle (cond (p.base.0 == 0) (empty p.tree) m)) (sym i.mirror) ∙ c.in-Ok.ensures.gives own;
      told = ap (λ es. Applied p.pass es) (c.in-Ok.ensures.events ∙ (ap (events_of old) (c.in-Ok.ensures.built own) ∙ ap (λ (m : Tree). events_of m (built_by p m)) i.mirror))
          ∙ sym (c.in-Applies.ensures h (events_of (built_of h p.tree) (built_by p (built_of h p.tree))) i.live i.tally);
      asked = i.tally.token;
    }

pub returns-in-Err-clause-err : goal.returns-in-Err-clause-err
unfolding built_verdict_of is_applied
returns-in-Err-clause-err g c = λ h i.
    let p = c.args.packet.now in
    let old = c.args.old.now in
    let own : old.about.tree ≡ p.tree = ap (λ (m : Tree). m.about.tree) i.mirror ∙ each_built_tree_has_its_id h p.tree in
    let base = ap (λ t. applied_all p.bundle (cond (p.base.0 == 0) (empty t) old)) own ∙ ap (λ (m : Tree). applied_all p.bundle (cond (p.base.0 == 0) (empty p.tree) m)) i.mirror in
    why_live h p c.in-Err.err c.why_broken.result (ap is_applied (c.in-Applies.ensures h (events_of (built_of h p.tree) (built_by p (built_of h p.tree))) i.live i.tally)) c.why_broken.ensures
    (rw base at c.in-Err.ensures.err)
