use Rattle.std.proofs.Common.{List, ℕ, length, not, eqb, sym, ap, ◌∙◌}
use Rattle.std.specs.Prelude.{filter}
use Rattle.ax_views.proofs.Walking.{children_from, no_children}
use Rattle.ax_source.proofs.source.SourceTree.other_count.Goals as goal

pub returns-in-Some : goal.returns-in-Some
returns-in-Some c =
    c.others_count.ensures
    ∙ ap (λ (js : List ℕ). length (filter (λ other. not (eqb other c.args.child)) js)) (c.as_slice.ensures ∙ children_from c.args.self.now.tree.trees c.args.id _ c.in-Some.ensures)

pub returns-in-None : goal.returns-in-None
returns-in-None c = sym (ap (λ (js : List ℕ). length (filter (λ other. not (eqb other c.args.child)) js)) (no_children c.args.self.now.tree.trees c.args.id c.in-None.ensures))
