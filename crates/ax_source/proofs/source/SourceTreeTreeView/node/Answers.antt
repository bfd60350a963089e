use Rattle.std.proofs.Common.{ap, ◌∙◌}
use Rattle.std.specs.Prelude.{option_map}
use Rattle.ax_source.specs.declared.entries.Entry.{Entry}
use Rattle.ax_source.proofs.Kept.{source_as, node_is}
use Rattle.ax_source.proofs.source.SourceTreeTreeView.node.Goals as goal

pub returns-in-Some : goal.returns-in-Some
returns-in-Some c =
    let k = source_as c.self.inside.entries c.self.inside.root _ c.args.self.now c.self.view_is c.self.invariant in
    ap (option_map (λ (x : Entry). x.node)) c.in-Some.ensures.value ∙ node_is c.self.inside.entries c.self.inside.root c.args.self.now.tree.trees c.args.id k.keeps

pub returns-in-None : goal.returns-in-None
returns-in-None c =
    let k = source_as c.self.inside.entries c.self.inside.root _ c.args.self.now c.self.view_is c.self.invariant in
    ap (option_map (λ (x : Entry). x.node)) c.in-None.ensures.value ∙ node_is c.self.inside.entries c.self.inside.root c.args.self.now.tree.trees c.args.id k.keeps
