use Rattle.std.proofs.Common.{◌≡◌, sym, ◌∙◌, subst, IfOk}
use Rattle.ax_rules.specs.Stitched.{stitched}
use Rattle.ax_moves.proofs.BelowLemmas.{before_nothing, before_held, before_some, before_none}
use Rattle.ax_moves.proofs.below.before.Goals as goal

pub returns-in-None-clause-bound : goal.returns-in-None-clause-bound
returns-in-None-clause-bound g c = before_nothing (stitched (g.G.Grove.forest c.args.g.now)) c.args.unit c.args.offset (sym c.in-None.is ∙ c.root.ensures)

pub last_held-requires : goal.last_held-requires
last_held-requires g c = before_held (g.G.Grove.forest c.args.g.now) c.in-Some.first c.args.unit c.args.offset c.walk.new.state c.in-Some-found.held c.in_ok-walk.ensures.seen c.in-Some-found.is

pub returns-in-Some-found-clause-bound : goal.returns-in-Some-found-clause-bound
returns-in-Some-found-clause-bound g c =
    subst (λ v. IfOk c.last_held.result (λ b. b ≡ v))
    (before_some (g.G.Grove.forest c.args.g.now) c.in-Some.first c.args.unit c.args.offset c.walk.new.state c.in-Some-found.held c.in_ok-walk.ensures.sound c.in_ok-walk.ensures.seen c.in-Some-found.is)
    c.last_held.ensures.bound

pub returns-clause-bound : goal.returns-clause-bound
returns-clause-bound g c = before_none (g.G.Grove.forest c.args.g.now) c.in-Some.first c.args.unit c.args.offset c.walk.new.state c.in_ok-walk.ensures.sound c.in_ok-walk.ensures.seen c.in-None-found.is
