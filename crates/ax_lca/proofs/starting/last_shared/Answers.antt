use Rattle.std.proofs.Common.{refl}
use Rattle.ax_lca.proofs.Chains.{common_from, shared_self}
use Rattle.ax_lca.proofs.starting.last_shared.Goals as goal

pub returns-then-same_chain : goal.returns-then-same_chain
returns-then-same_chain g c = shared_self c.args.c.now.tree _ c.args.first c.args.id (c.same_chain.ensures.there c.if-same_chain.true) (c.same_chain.ensures.same c.if-same_chain.true)

pub returns : goal.returns
returns g c =
    common_from c.args.c.now.tree (g.T.TreeView.tree c.args.s.now).trees c.args.first c.args.id c.args.first c.unwrap_or.result c.in_ok-own.own c.in_ok-there.there c.last_common.result
    refl c.in_ok-own.ensures c.in_ok-there.ensures c.last_common.ensures c.unwrap_or.ensures
