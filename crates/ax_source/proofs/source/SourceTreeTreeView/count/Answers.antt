use Rattle.std.proofs.Common.{◌≡◌, ℕ, ◌∙◌, arith}
use Rattle.ax_trees.specs.Trees.{count}
use Rattle.ax_views.proofs.Counting.{keeps_counted}
use Rattle.ax_source.specs.Kept.{entry_of}
use Rattle.ax_source.proofs.Kept.{source_as}
use Rattle.ax_source.proofs.source.SourceTreeTreeView.count.Goals as goal

pub returns-clause-count : goal.returns-clause-count
returns-clause-count c =
    let k = source_as c.self.inside.entries c.self.inside.root _ c.args.self.now c.self.view_is c.self.invariant in
    c.len.ensures.len ∙ keeps_counted entry_of c.self.inside.entries c.self.inside.root c.args.self.now.tree.trees k.keeps c.len.ensures.unique

pub returns-clause-few : goal.returns-clause-few
returns-clause-few c =
    let k = source_as c.self.inside.entries c.self.inside.root _ c.args.self.now c.self.view_is c.self.invariant in
    let n : c.len.result ≡ count c.args.self.now.tree.trees = c.len.ensures.len ∙ keeps_counted entry_of c.self.inside.entries c.self.inside.root c.args.self.now.tree.trees k.keeps c.len.ensures.unique in
    omega (arith, n, k.few)
