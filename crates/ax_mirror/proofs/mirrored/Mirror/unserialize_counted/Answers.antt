use Rattle.std.proofs.Common.{◌∙◌, ap, sym, subst, [], ◌∷◌}
use Rattle.ax_node.specs.declared.tree_data.TreeData.{TreeData}
use Rattle.ax_tree.specs.Tree.{Tree}
use Rattle.ax_tree.specs.Updates.{applied}
use Rattle.ax_mirror.specs.Kept.{shown}
use Rattle.ax_mirror.specs.Mirrors.{with_about, NamesChanges, RefusedAs}
use Rattle.ax_mirror.specs.Accounts.{NamesOnly}
use Rattle.ax_mirror.proofs.Bundles.{mirror_holds, mirror_is, mirror_names, mirror_only, mirror_refused}
use Rattle.ax_mirror.proofs.mirrored.Mirror.unserialize_counted.Goals as goal

pub invariant_of-self : goal.invariant_of-self
invariant_of-self g c = mirror_holds c.self.inside.nodes c.self.inside.root c.in-Ok-share.about c.self.invariant c.in-Ok.draft c.take_one.new.draft c.take_one.new.about (λ t. applied c.args.update.now t) c.in-Ok.ensures.0 c.in-Ok.ensures.1 c.in-Ok-take_one.ensures.ok

pub returns-clause-ok : goal.returns-clause-ok
returns-clause-ok g c = ap (λ (t : Tree). applied c.args.update.now t) (sym (ap (λ (a : TreeData). with_about a (shown c.self.inside.nodes c.self.inside.root)) c.in-Ok-share.ensures ∙ c.self.view_is)) ∙ mirror_is c.self.inside.nodes c.self.inside.root c.in-Ok-share.about c.self.invariant c.in-Ok.draft c.take_one.new.draft c.take_one.new.about (λ t. applied c.args.update.now t) c.in-Ok.ensures.0 c.in-Ok.ensures.1 c.in-Ok-take_one.ensures.ok

pub returns-clause-named : goal.returns-clause-named
returns-clause-named g c = subst (λ (t : Tree). NamesChanges t (with_about c.take_one.new.about (shown c.take_one.new.draft.nodes c.take_one.new.draft.root)) c.take_one.new.draft.touched) (ap (λ (a : TreeData). with_about a (shown c.self.inside.nodes c.self.inside.root)) c.in-Ok-share.ensures ∙ c.self.view_is)
    (mirror_names c.self.inside.nodes c.self.inside.root c.in-Ok-share.about c.self.invariant c.in-Ok.draft c.take_one.new.draft c.take_one.new.about (λ t. applied c.args.update.now t) c.in-Ok.ensures.0 c.in-Ok.ensures.1 c.in-Ok-take_one.ensures.ok c.in-Ok-take_one.ensures.tracked)

pub returns-in-Err-clause-err : goal.returns-in-Err-clause-err
returns-in-Err-clause-err g c = subst (λ (t : Tree). RefusedAs c.in-Err.refusal (applied c.args.update.now t)) (ap (λ (a : TreeData). with_about a (shown c.self.inside.nodes c.self.inside.root)) c.in-Ok-share.ensures ∙ c.self.view_is)
    (mirror_refused c.self.inside.nodes c.self.inside.root c.in-Ok-share.about c.self.invariant c.in-Ok.draft c.take_one.new.draft c.take_one.new.about (λ t. applied c.args.update.now t) c.in-Err.refusal c.in-Ok.ensures.0 c.in-Ok.ensures.1 c.in-Err.ensures.err)

pub returns-clause-only : goal.returns-clause-only
returns-clause-only g c = subst (λ (t : Tree). NamesOnly (c.args.update.now ∷ []) t (with_about c.take_one.new.about (shown c.take_one.new.draft.nodes c.take_one.new.draft.root)) c.take_one.new.draft.touched) (ap (λ (a : TreeData). with_about a (shown c.self.inside.nodes c.self.inside.root)) c.in-Ok-share.ensures ∙ c.self.view_is)
    (mirror_only c.self.inside.nodes c.self.inside.root c.in-Ok-share.about c.self.invariant c.in-Ok.draft c.take_one.new.draft c.take_one.new.about (λ t. applied c.args.update.now t) c.in-Ok.ensures.0 c.in-Ok.ensures.1 c.in-Ok-take_one.ensures.ok (c.args.update.now ∷ []) c.in-Ok-take_one.ensures.only c.in-Ok.ensures.2)
