use Rattle.std.proofs.Common.{◌∙◌, ap, sym}
use Rattle.std.specs.Prelude.{option_and_then}
use Rattle.std.specs.Option.{option_copied}
use Rattle.ax_trees.specs.Nodes.{parent}
use Rattle.ax_tree.specs.Tree.{Tree}
use Rattle.ax_mirror.specs.declared.entries.Entry.{Entry}
use Rattle.ax_mirror.specs.Kept.{shown}
use Rattle.ax_mirror.proofs.Shows.{parent_read}
use Rattle.ax_mirror.proofs.mirrored.MirrorTreeView.parent.Goals as goal

pub returns-in-Some : goal.returns-in-Some
returns-in-Some c =
    ap (option_and_then (λ (e : Entry). e.above)) c.in-Some.ensures ∙ parent_read c.self.inside.nodes c.self.inside.root (shown c.self.inside.nodes c.self.inside.root) c.args.id c.self.invariant
    ∙ ap (λ (t : Tree). parent t.trees c.args.id) c.self.view_is

pub returns-in-None : goal.returns-in-None
returns-in-None c =
    ap (option_and_then (λ (e : Entry). e.above)) (ap option_copied (sym c.in-None.is) ∙ c.read.ensures) ∙ parent_read c.self.inside.nodes c.self.inside.root (shown c.self.inside.nodes c.self.inside.root) c.args.id c.self.invariant
    ∙ ap (λ (t : Tree). parent t.trees c.args.id) c.self.view_is
