use Rattle.ax_source.proofs.Kept.{source_as}
use Rattle.ax_source.proofs.source.SourceTreeTreeView.root.Goals as goal

pub returns-clause-low : goal.returns-clause-low
returns-clause-low c =
    let k = source_as c.self.inside.entries c.self.inside.root _ c.args.self.now c.self.view_is c.self.invariant in
    k.keeps.low
