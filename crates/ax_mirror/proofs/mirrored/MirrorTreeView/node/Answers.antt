use Rattle.std.proofs.Common.{◌∙◌, ap, sym}
use Rattle.std.specs.Prelude.{option_map}
use Rattle.std.specs.Option.{option_copied}
use Rattle.ax_tree.specs.Tree.{Tree, node}
use Rattle.ax_mirror.specs.declared.entries.Entry.{Entry}
use Rattle.ax_mirror.specs.Kept.{shown}
use Rattle.ax_mirror.proofs.Shows.{node_read}
use Rattle.ax_mirror.proofs.mirrored.MirrorTreeView.node.Goals as goal

pub returns-in-Some : goal.returns-in-Some
returns-in-Some c =
    ap (option_map (λ (e : Entry). e.node)) c.in-Some.ensures ∙ node_read c.self.inside.nodes c.self.inside.root (shown c.self.inside.nodes c.self.inside.root) c.args.id c.self.invariant
    ∙ ap (λ (t : Tree). node t c.args.id) c.self.view_is

pub returns-in-None : goal.returns-in-None
returns-in-None c =
    ap (option_map (λ (e : Entry). e.node)) (ap option_copied (sym c.in-None.is) ∙ c.read.ensures) ∙ node_read c.self.inside.nodes c.self.inside.root (shown c.self.inside.nodes c.self.inside.root) c.args.id c.self.invariant
    ∙ ap (λ (t : Tree). node t c.args.id) c.self.view_is
