use Rattle.std.proofs.Common.{◌≡◌, ◌∙◌, ap, sym, subst, ℕ, List, length, arith}
use Rattle.ax_node.specs.declared.tree_data.TreeData.{TreeData}
use Rattle.ax_tree.specs.Tree.{Tree}
use Rattle.ax_tree.specs.Updates.{applied_all}
use Rattle.ax_tree.specs.declared.update.TreeUpdate.{TreeUpdate}
use Rattle.ax_mirror.specs.Kept.{shown}
use Rattle.ax_mirror.specs.Mirrors.{with_about, NamesChanges, BrokenAs, Applies, IsBroken}
use Rattle.ax_mirror.specs.Accounts.{NamesOnly, TouchesOnly}
use Rattle.ax_mirror.proofs.Bundles.{mirror_holds, mirror_is, mirror_names, mirror_only, mirror_broken}
use Rattle.std.proofs.Common.{◌+◌, take}
use Rattle.ax_mirror.specs.Accounts.{Reaches, all_names}
use Rattle.ax_mirror.proofs.Reached.{no_steps, spent_on}
use Rattle.ax_mirror.proofs.mirrored.Mirror.apply_on.Goals as goal

pub invariant_of-self : goal.invariant_of-self
invariant_of-self g c = mirror_holds c.self.inside.nodes c.self.inside.root c.in-Ok-share.about c.self.invariant c.in-Ok.draft c.take_all.new.draft c.take_all.new.about (λ t. applied_all c.args.bundle.now t) c.in-Ok.ensures.0 c.in-Ok.ensures.1 (subst (λ (us : List TreeUpdate). Applies (λ t. applied_all us t) c.in-Ok.draft c.in-Ok-share.about c.take_all.new.draft c.take_all.new.about) c.as_slice.ensures c.in-Ok-take_all.ensures.ok)

pub returns-clause-ok : goal.returns-clause-ok
returns-clause-ok g c = ap (λ (t : Tree). applied_all c.args.bundle.now t) (sym (ap (λ (a : TreeData). with_about a (shown c.self.inside.nodes c.self.inside.root)) c.in-Ok-share.ensures ∙ c.self.view_is)) ∙ mirror_is c.self.inside.nodes c.self.inside.root c.in-Ok-share.about c.self.invariant c.in-Ok.draft c.take_all.new.draft c.take_all.new.about (λ t. applied_all c.args.bundle.now t) c.in-Ok.ensures.0 c.in-Ok.ensures.1 (subst (λ (us : List TreeUpdate). Applies (λ t. applied_all us t) c.in-Ok.draft c.in-Ok-share.about c.take_all.new.draft c.take_all.new.about) c.as_slice.ensures c.in-Ok-take_all.ensures.ok)

pub returns-clause-named : goal.returns-clause-named
returns-clause-named g c = subst (λ (t : Tree). NamesChanges t (with_about c.take_all.new.about (shown c.take_all.new.draft.nodes c.take_all.new.draft.root)) c.take_all.new.draft.touched) (ap (λ (a : TreeData). with_about a (shown c.self.inside.nodes c.self.inside.root)) c.in-Ok-share.ensures ∙ c.self.view_is)
    (mirror_names c.self.inside.nodes c.self.inside.root c.in-Ok-share.about c.self.invariant c.in-Ok.draft c.take_all.new.draft c.take_all.new.about (λ t. applied_all c.args.bundle.now t) c.in-Ok.ensures.0 c.in-Ok.ensures.1 (subst (λ (us : List TreeUpdate). Applies (λ t. applied_all us t) c.in-Ok.draft c.in-Ok-share.about c.take_all.new.draft c.take_all.new.about) c.as_slice.ensures c.in-Ok-take_all.ensures.ok) c.in-Ok-take_all.ensures.tracked)

pub returns-in-Err-clause-err : goal.returns-in-Err-clause-err
returns-in-Err-clause-err g c = subst (λ (t : Tree). BrokenAs c.in-Err.refusal (applied_all c.args.bundle.now t)) (ap (λ (a : TreeData). with_about a (shown c.self.inside.nodes c.self.inside.root)) c.in-Ok-share.ensures ∙ c.self.view_is)
    (mirror_broken c.self.inside.nodes c.self.inside.root c.in-Ok-share.about c.self.invariant c.in-Ok.draft c.take_all.new.draft c.take_all.new.about (λ t. applied_all c.args.bundle.now t) c.in-Err.refusal c.in-Ok.ensures.0 c.in-Ok.ensures.1 (subst (λ (us : List TreeUpdate). IsBroken (λ t. applied_all us t) c.in-Ok.draft c.in-Ok-share.about c.in-Err.refusal) c.as_slice.ensures c.in-Err.ensures.err))

pub returns-clause-cost : goal.returns-clause-cost
returns-clause-cost g c =
    let none : length c.in-Ok.draft.touched ≡ 0 = ap (λ (js : List ℕ). length js) c.in-Ok.ensures.2 in
    omega (arith, c.in-Ok-take_all.ensures.cost)

pub returns-clause-only : goal.returns-clause-only
returns-clause-only g c = subst (λ (t : Tree). NamesOnly c.args.bundle.now t (with_about c.take_all.new.about (shown c.take_all.new.draft.nodes c.take_all.new.draft.root)) c.take_all.new.draft.touched) (ap (λ (a : TreeData). with_about a (shown c.self.inside.nodes c.self.inside.root)) c.in-Ok-share.ensures ∙ c.self.view_is)
    (mirror_only c.self.inside.nodes c.self.inside.root c.in-Ok-share.about c.self.invariant c.in-Ok.draft c.take_all.new.draft c.take_all.new.about (λ t. applied_all c.args.bundle.now t) c.in-Ok.ensures.0 c.in-Ok.ensures.1 (subst (λ (us : List TreeUpdate). Applies (λ t. applied_all us t) c.in-Ok.draft c.in-Ok-share.about c.take_all.new.draft c.take_all.new.about) c.as_slice.ensures c.in-Ok-take_all.ensures.ok) c.args.bundle.now (subst (λ (us : List TreeUpdate). TouchesOnly us c.in-Ok.draft c.take_all.new.draft) c.as_slice.ensures c.in-Ok-take_all.ensures.only) c.in-Ok.ensures.2)

pub returns-in_default-clause-spent : goal.returns-in_default-clause-spent
returns-in_default-clause-spent g c = no_steps _ _ _

pub returns-in_default-share-clause-spent : goal.returns-in_default-share-clause-spent
returns-in_default-share-clause-spent g c = no_steps _ _ _

pub returns-in-Err-clause-spent : goal.returns-in-Err-clause-spent
returns-in-Err-clause-spent g c =
    spent_on _ c.args.self.now c.self.inside.nodes c.self.inside.root c.in-Ok.draft c.take_all.new.draft _ _ c.self.invariant (ap (λ (t : Tree). t.trees) c.self.view_is) c.in-Ok.ensures.0 c.in-Ok.ensures.2
    (subst (λ (us : List TreeUpdate). Reaches (all_names (take (c.in-Err.refusal.at + 1) us)) c.in-Ok.draft c.take_all.new.draft c.args.steps.now c.take_all.new.steps) c.as_slice.ensures c.in-Err.ensures.reach)
    c.in-Err.ensures.once
