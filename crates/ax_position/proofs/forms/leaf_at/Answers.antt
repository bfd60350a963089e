use Rattle.std.proofs.Common.{sym, ◌∙◌, arith}
use Rattle.ax_rules.specs.Stitched.{stitched}
use Rattle.ax_position.proofs.LeafForms.{leaf_none, leaf_some}
use Rattle.ax_position.proofs.forms.leaf_at.Goals as goal

pub returns-in-None : goal.returns-in-None
returns-in-None g c = leaf_none (stitched (g.G.Grove.forest c.args.g.now)) c.args.offset (sym c.in-None.is ∙ c.root.ensures)

pub returns-in-Some : goal.returns-in-Some
returns-in-Some g c =
    leaf_some (g.G.Grove.forest c.args.g.now) c.args.offset c.in-Some.first c.searched-search.result c.on_leaf.result c.searched-search.ensures.sound (sym c.in-Some.is ∙ c.root.ensures) c.searched-search.ensures.seen (omega arith)
    c.on_leaf.ensures
