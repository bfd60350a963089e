use Rattle.std.proofs.Common.{List, ℕ, length, sym, ap, ◌∙◌}
use Rattle.ax_views.proofs.Walking.{children_from, no_children}
use Rattle.ax_source.proofs.source.SourceTree.child_count.Goals as goal

pub returns-in-Some : goal.returns-in-Some
returns-in-Some c = c.len.ensures ∙ ap (λ (js : List ℕ). length js) (children_from c.args.self.now.tree.trees c.args.id _ c.in-Some.ensures)

pub returns-in-None : goal.returns-in-None
returns-in-None c = sym (ap (λ (js : List ℕ). length js) (no_children c.args.self.now.tree.trees c.args.id c.in-None.ensures))
