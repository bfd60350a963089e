use Rattle.std.proofs.Common.{refl, ◌∙◌}
use Rattle.ax_core.specs.Standing.{state_of}
use Rattle.ax_core.proofs.Telling.{read_at, read_behind}
use Rattle.ax_core.proofs.run.Core.is_behind.Goals as goal

pub returns-clause-behind : goal.returns-clause-behind
returns-clause-behind c f k =
    let s = state_of c.self.inside.seats.items c.self.inside.browser c.self.inside.readers.items c.self.inside.forest.history in
    let g = c.index.result.now in
    let h = read_at s c.args.self.now c.args.at g c.self.view_is c.requires c.index.ensures in
    c.is_due.ensures
    ∙ read_behind s c.args.self.now c.args.at g f c.frame-frame.result.now c.self.inside.forest c.self.view_is h k c.frame-frame.ensures c.self.invariant.trees refl c.tree-tree.result c.at.result.0 c.passes.result.0
    c.source.result.now.tree c.root.result c.live-live.result c.is_some-rooted.result c.ne-differs.result c.pending-pends.result c.tree-tree.ensures c.live-live.ensures c.source.ensures.tree c.root.ensures.root
    c.is_some-rooted.ensures c.at.ensures c.passes.ensures c.ne-differs.ensures c.pending-pends.ensures
