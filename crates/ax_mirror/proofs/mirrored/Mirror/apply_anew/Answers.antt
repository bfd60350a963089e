use Rattle.std.proofs.Common.{◌∙◌, ap, sym, subst, List}
use Rattle.ax_node.specs.declared.tree_data.TreeData.{TreeData}
use Rattle.ax_tree.specs.Tree.{Tree, empty}
use Rattle.ax_tree.specs.Updates.{applied_all}
use Rattle.ax_tree.specs.declared.update.TreeUpdate.{TreeUpdate}
use Rattle.ax_trees.specs.Trees.{bare}
use Rattle.ax_mirror.specs.Kept.{shown}
use Rattle.ax_mirror.specs.Mirrors.{with_about, NamesChanges, BrokenAs, Applies, IsBroken}
use Rattle.ax_mirror.specs.Accounts.{NamesOnly, TouchesOnly}
use Rattle.ax_mirror.proofs.Bundles.{anew_holds, anew_is, anew_names, anew_only, anew_broken}
use Rattle.std.proofs.Common.{◌+◌, take}
use Rattle.ax_mirror.specs.Accounts.{Reaches, all_names}
use Rattle.ax_mirror.proofs.Reached.{no_steps, spent_anew}
use Rattle.ax_mirror.proofs.mirrored.Mirror.apply_anew.Goals as goal

pub invariant_of-self : goal.invariant_of-self
invariant_of-self g c = anew_holds c.self.inside.nodes c.self.inside.root c.self.inside.about c.self.invariant c.in-Ok.draft c.take_all.new.draft c.new-about.result c.take_all.new.about c.in-Ok.ensures (λ t. applied_all c.args.bundle.now t) (subst (λ (us : List TreeUpdate). Applies (λ t. applied_all us t) c.in-Ok.draft c.new-about.result c.take_all.new.draft c.take_all.new.about) c.as_slice.ensures c.in-Ok-take_all.ensures.ok)

pub returns-clause-ok : goal.returns-clause-ok
returns-clause-ok g c = ap (λ (t : Tree). applied_all c.args.bundle.now t) (sym (ap (λ (a : TreeData). with_about a bare) c.new-about.ensures ∙ ap (λ (a : TreeData). empty a.tree) c.get.ensures ∙ ap (λ (t : Tree). empty t.about.tree) c.self.view_is)) ∙ anew_is c.self.inside.nodes c.self.inside.root c.self.inside.about c.self.invariant c.in-Ok.draft c.take_all.new.draft c.new-about.result c.take_all.new.about c.in-Ok.ensures (λ t. applied_all c.args.bundle.now t) (subst (λ (us : List TreeUpdate). Applies (λ t. applied_all us t) c.in-Ok.draft c.new-about.result c.take_all.new.draft c.take_all.new.about) c.as_slice.ensures c.in-Ok-take_all.ensures.ok)

pub returns-clause-named : goal.returns-clause-named
returns-clause-named g c = subst (λ (t : Tree). NamesChanges t (with_about c.take_all.new.about (shown c.take_all.new.draft.nodes c.take_all.new.draft.root)) c.take_all.new.draft.touched) c.self.view_is
    (anew_names c.self.inside.nodes c.self.inside.root c.self.inside.about c.self.invariant c.in-Ok.draft c.take_all.new.draft c.new-about.result c.take_all.new.about c.in-Ok.ensures (λ t. applied_all c.args.bundle.now t) (subst (λ (us : List TreeUpdate). Applies (λ t. applied_all us t) c.in-Ok.draft c.new-about.result c.take_all.new.draft c.take_all.new.about) c.as_slice.ensures c.in-Ok-take_all.ensures.ok) c.in-Ok-take_all.ensures.tracked)

pub returns-in-Err-clause-err : goal.returns-in-Err-clause-err
returns-in-Err-clause-err g c = subst (λ (t : Tree). BrokenAs c.in-Err.refusal (applied_all c.args.bundle.now t)) (ap (λ (a : TreeData). with_about a bare) c.new-about.ensures ∙ ap (λ (a : TreeData). empty a.tree) c.get.ensures ∙ ap (λ (t : Tree). empty t.about.tree) c.self.view_is)
    (anew_broken c.self.inside.nodes c.self.inside.root c.self.inside.about c.self.invariant c.in-Ok.draft c.take_all.new.draft c.new-about.result c.take_all.new.about c.in-Ok.ensures (λ t. applied_all c.args.bundle.now t) c.in-Err.refusal (subst (λ (us : List TreeUpdate). IsBroken (λ t. applied_all us t) c.in-Ok.draft c.new-about.result c.in-Err.refusal) c.as_slice.ensures c.in-Err.ensures.err))

pub returns-clause-only : goal.returns-clause-only
returns-clause-only g c = subst (λ (t : Tree). NamesOnly c.args.bundle.now t (with_about c.take_all.new.about (shown c.take_all.new.draft.nodes c.take_all.new.draft.root)) c.take_all.new.draft.touched) c.self.view_is
    (anew_only c.self.inside.nodes c.self.inside.root c.self.inside.about c.self.invariant c.in-Ok.draft c.take_all.new.draft c.new-about.result c.take_all.new.about c.in-Ok.ensures (λ t. applied_all c.args.bundle.now t) (subst (λ (us : List TreeUpdate). Applies (λ t. applied_all us t) c.in-Ok.draft c.new-about.result c.take_all.new.draft c.take_all.new.about) c.as_slice.ensures c.in-Ok-take_all.ensures.ok) c.args.bundle.now (subst (λ (us : List TreeUpdate). TouchesOnly us c.in-Ok.draft c.take_all.new.draft) c.as_slice.ensures c.in-Ok-take_all.ensures.only))

pub returns-in_default-clause-spent : goal.returns-in_default-clause-spent
returns-in_default-clause-spent g c = no_steps _ _ _

pub returns-in-Err-clause-spent : goal.returns-in-Err-clause-spent
returns-in-Err-clause-spent g c =
    spent_anew _ c.args.self.now c.self.inside.nodes c.self.inside.root c.in-Ok.draft c.take_all.new.draft _ _ c.self.invariant (ap (λ (t : Tree). t.trees) c.self.view_is) c.in-Ok.ensures
    (subst (λ (us : List TreeUpdate). Reaches (all_names (take (c.in-Err.refusal.at + 1) us)) c.in-Ok.draft c.take_all.new.draft c.args.steps.now c.take_all.new.steps) c.as_slice.ensures c.in-Err.ensures.reach)
    c.in-Err.ensures.once
