use Rattle.std.proofs.Common.{◌∙◌}
use Rattle.ax_source.proofs.Kept.{source_as, is_there}
use Rattle.ax_source.proofs.source.SourceTree.holds.Goals as goal

pub returns : goal.returns
returns c =
    let k = source_as c.self.inside.entries c.self.inside.root _ c.args.self.now c.self.view_is c.self.invariant in
    c.contains_key.ensures ∙ is_there c.self.inside.entries c.self.inside.root c.args.self.now.tree.trees c.args.id k.keeps
