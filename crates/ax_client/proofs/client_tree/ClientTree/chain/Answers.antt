use Rattle.std.proofs.Common.{List, ℕ, Some, None, cond, sym, ap, ◌∙◌, arith}
use Rattle.ax_trees.specs.Nodes.{chain}
use Rattle.ax_views.proofs.Climbing.{is_above, climb_begins, climb_next, climb_ends}
use Rattle.ax_client.proofs.client_tree.ClientTree.chain.Goals as goal

pub loop-above-init : goal.loop-above-init
loop-above-init c = climb_begins _ c.args.id _ _ (sym c.if-not-holds.ensures) c.new-climbed.ensures c.in_ok-push.ensures.ok

pub loop-above-smaller : goal.loop-above-smaller
loop-above-smaller c =
    let a = is_above c.args.self.now.tree c.loop-above.at c.in-Some.above c.root.ensures.is_tree.distinct (sym c.in-Some.ensures) in
    omega (arith, a.deep)

pub loop-above-preserved : goal.loop-above-preserved
loop-above-preserved c =
    let a = is_above c.args.self.now.tree c.loop-above.at c.in-Some.above c.root.ensures.is_tree.distinct (sym c.in-Some.ensures) in
    climb_next _ _ _ _ _ _ c.loop-above.invariant a c.in_ok-push-2.ensures.ok

pub returns : goal.returns
returns c =
    let e = climb_ends _ _ _ _ _ _ c.root.ensures.is_tree.distinct c.loop-above.invariant (sym c.in_default.ensures) c.new-chain.ensures c.in_ok-push_reversed.ensures.ok in
    ap (λ (ids : List ℕ). Some ids) e ∙ ap (λ b. cond b (Some (chain c.args.self.now.tree c.args.id)) None) c.if-not-holds.ensures
