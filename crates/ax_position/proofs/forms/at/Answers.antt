use Rattle.std.proofs.Common.{sym, ◌∙◌, arith}
use Rattle.ax_rules.specs.Stitched.{stitched}
use Rattle.ax_position.proofs.LeafForms.{at_none, at_above, at_form}
use Rattle.ax_position.proofs.forms.at.Goals as goal

pub returns-in-None : goal.returns-in-None
returns-in-None g c = at_none (stitched (g.G.Grove.forest c.args.g.now)) c.args.offset (sym c.in-None.is ∙ c.root.ensures)

pub returns-then-offset-search : goal.returns-then-offset-search
returns-then-offset-search g c =
    at_above (g.G.Grove.forest c.args.g.now) c.args.offset c.in-Some.first c.searched-search.result c.searched-search.ensures.sound (sym c.in-Some.is ∙ c.root.ensures) c.searched-search.ensures.seen (omega arith)

pub returns-else-offset-search : goal.returns-else-offset-search
returns-else-offset-search g c =
    at_form (g.G.Grove.forest c.args.g.now) c.args.offset c.in-Some.first c.searched-search.result c.on_leaf.result c.searched-search.ensures.sound (sym c.in-Some.is ∙ c.root.ensures) c.searched-search.ensures.seen (omega arith) (omega arith)
    c.on_leaf.ensures
