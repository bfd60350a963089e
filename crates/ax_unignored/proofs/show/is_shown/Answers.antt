use Rattle.std.proofs.Common.{sym, ◌∙◌}
use Rattle.ax_stitch.proofs.Places.{stands_listed}
use Rattle.ax_unignored.proofs.Lit.{shown_is}
use Rattle.ax_unignored.proofs.show.is_shown.Goals as goal

pub is_lit_at-requires : goal.is_lit_at-requires
is_lit_at-requires g c = stands_listed (g.G.Grove.forest c.args.g.now) c.args.p.now c.requires

pub returns : goal.returns
returns g c = c.is_lit_at.ensures ∙ sym (shown_is (g.G.Grove.forest c.args.g.now) c.args.p.now c.tree.ensures.sound c.requires)
