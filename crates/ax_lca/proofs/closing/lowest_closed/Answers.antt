use Rattle.std.proofs.Common.{◌≡◌, false, true, eqb, sym, arith}
use Rattle.ax_views.proofs.Climbing.{is_above}
use Rattle.ax_lca.proofs.Raising.{seeking_starts, seeking_held, seeking_goes_on, seeking_top, seeking_ends, held_by_chain}
use Rattle.ax_lca.proofs.closing.lowest_closed.Goals as goal

pub widened-lowest-requires-clause-held : goal.widened-lowest-requires-clause-held
widened-lowest-requires-clause-held g c = held_by_chain c.args.c.now.tree (g.T.TreeView.tree c.args.s.now).trees c.root-2.ensures.is_tree c.root.ensures.well_formed c.args.x c.requires.there c.requires.same_chain

pub loop-seen-init : goal.loop-seen-init
loop-seen-init g c = seeking_starts c.args.c.now.tree (g.T.TreeView.tree c.args.s.now).trees c.root-2.ensures.is_tree c.root.ensures.well_formed c.args.x c.widened-lowest.result c.requires.there c.requires.same_chain c.widened-lowest.ensures.raised

pub returns-in-None : goal.returns-in-None
returns-in-None g c =
    let no : eqb c.loop-seen.seen c.loop-seen.lowest ≡ false = grind (arith, c.ne.ensures, c.loop-seen-test.true) in
    absurd (seeking_top c.args.c.now.tree (g.T.TreeView.tree c.args.s.now).trees c.root-2.ensures.is_tree c.root.ensures.well_formed c.args.x c.loop-seen.seen c.loop-seen.lowest c.loop-seen.invariant no (sym c.in-None.ensures))

pub widened-lowest-requires-in-loop-seen-clause-held : goal.widened-lowest-requires-in-loop-seen-clause-held
widened-lowest-requires-in-loop-seen-clause-held g c = seeking_held c.args.c.now.tree (g.T.TreeView.tree c.args.s.now).trees c.root-2.ensures.is_tree c.root.ensures.well_formed c.args.x c.loop-seen.seen c.loop-seen.lowest c.loop-seen.invariant

pub loop-seen-smaller : goal.loop-seen-smaller
loop-seen-smaller g c =
    let a = is_above (g.T.TreeView.tree c.args.s.now).trees c.loop-seen.seen c.in-Some.above c.root.ensures.well_formed.distinct (sym c.in-Some.ensures) in
    omega (arith, a.deep)

pub loop-seen-preserved : goal.loop-seen-preserved
loop-seen-preserved g c =
    let no : eqb c.loop-seen.seen c.loop-seen.lowest ≡ false = grind (arith, c.ne.ensures, c.loop-seen-test.true) in
    seeking_goes_on c.args.c.now.tree (g.T.TreeView.tree c.args.s.now).trees c.root-2.ensures.is_tree c.root.ensures.well_formed c.args.x c.loop-seen.seen c.loop-seen.lowest c.in-Some.above c.widened-lowest-in-loop-seen.result
    c.loop-seen.invariant no (sym c.in-Some.ensures) c.widened-lowest-in-loop-seen.ensures.raised

pub returns : goal.returns
returns g c =
    let yes : eqb c.loop-seen.seen c.loop-seen.lowest ≡ true = grind (arith, c.ne.ensures, c.loop-seen-test.false) in
    seeking_ends c.args.c.now.tree (g.T.TreeView.tree c.args.s.now).trees c.root-2.ensures.is_tree c.root.ensures.well_formed c.args.x c.loop-seen.seen c.loop-seen.lowest c.loop-seen.invariant yes
