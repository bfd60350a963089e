use Rattle.std.proofs.Common.{ap}
use Rattle.ax_source.specs.Source.{Source}
use Rattle.ax_source.proofs.Kept.{source_as}
use Rattle.ax_source.proofs.MarkLists.{none_twice}
use Rattle.ax_source.proofs.source.SourceTree.marks.Goals as goal

pub returns-clause-there : goal.returns-clause-there
returns-clause-there c =
    let k = source_as c.self.inside.entries c.self.inside.root _ c.args.self.now c.self.view_is c.self.invariant in
    k.marked

pub returns-clause-once : goal.returns-clause-once
returns-clause-once c = none_twice c.args.self.now.marks c.self.inside.marks (ap (λ (s : Source). s.marks) c.self.view_is) c.len-len.ensures.distinct
