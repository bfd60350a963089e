use Rattle.std.proofs.Common.{sym, ◌∙◌}
use Rattle.ax_unignored.proofs.Above.{upwards_begin, upwards_there, upwards_found, upwards_on, upwards_end, upwards_less}
use Rattle.ax_unignored.proofs.upward.parent.Goals as goal

pub loop-above-init : goal.loop-above-init
loop-above-init g c = upwards_begin (g.G.Grove.forest c.args.g.now) c.args.p c.tree.ensures.sound c.requires.there

pub parent-requires : goal.parent-requires
parent-requires g c = c.loop-above.invariant.there

pub is_shown-requires : goal.is_shown-requires
is_shown-requires g c = upwards_there (g.G.Grove.forest c.args.g.now) c.args.p c.loop-above.at c.in-Some.above c.tree.ensures.sound c.loop-above.invariant c.in-Some.ensures

pub returns-then-is_shown : goal.returns-then-is_shown
returns-then-is_shown g c =
    upwards_found (g.G.Grove.forest c.args.g.now) c.args.p c.loop-above.at c.in-Some.above c.tree.ensures.sound c.loop-above.invariant c.in-Some.ensures (sym c.is_shown.ensures ∙ c.if-is_shown.true)

pub loop-above-smaller : goal.loop-above-smaller
loop-above-smaller g c = upwards_less (g.G.Grove.forest c.args.g.now) c.args.p c.loop-above.at c.in-Some.above c.tree.ensures.sound c.loop-above.invariant c.in-Some.ensures

pub loop-above-preserved : goal.loop-above-preserved
loop-above-preserved g c =
    upwards_on (g.G.Grove.forest c.args.g.now) c.args.p c.loop-above.at c.in-Some.above c.tree.ensures.sound c.loop-above.invariant c.in-Some.ensures (sym c.is_shown.ensures ∙ c.if-is_shown.false)

pub returns : goal.returns
returns g c = upwards_end (g.G.Grove.forest c.args.g.now) c.args.p c.loop-above.at c.tree.ensures.sound c.loop-above.invariant c.in_default.ensures
