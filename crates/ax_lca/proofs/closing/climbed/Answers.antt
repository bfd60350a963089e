use Rattle.std.proofs.Common.{◌≡◌, true, false, sym, ◌∙◌, arith}
use Rattle.std.proofs.lemmas.Bool.{false≢true}
use Rattle.ax_trees.specs.Trees.{has}
use Rattle.ax_trees.specs.Nodes.{below}
use Rattle.ax_views.proofs.Climbing.{is_above}
use Rattle.ax_lca.proofs.Raising.{climb_starts, climb_goes_on, climb_ends, no_top}
use Rattle.ax_lca.proofs.closing.climbed.Goals as goal

pub loop-id-init : goal.loop-id-init
loop-id-init c = climb_starts c.args.c.now.tree c.root.ensures.is_tree.distinct c.args.id c.args.lowest c.requires.held

pub returns-in-None : goal.returns-in-None
returns-in-None c =
    let out : has (below c.args.c.now.tree c.loop-id.at) c.args.id ≡ false = grind (arith, c.stands_below.ensures, c.loop-id-test.true) in
    let in' = no_top c.args.c.now.tree c.root.ensures.is_tree.distinct c.root.ensures.is_tree.one_root c.loop-id.at c.args.id c.requires.there c.requires.no_root c.loop-id.invariant.held (sym c.in-None.ensures) in
    absurd (false≢true (sym out ∙ in'))

pub loop-id-smaller : goal.loop-id-smaller
loop-id-smaller c =
    let a = is_above c.args.c.now.tree c.loop-id.at c.in-Some.above c.root.ensures.is_tree.distinct (sym c.in-Some.ensures) in
    omega (arith, a.deep)

pub loop-id-preserved : goal.loop-id-preserved
loop-id-preserved c =
    let out : has (below c.args.c.now.tree c.loop-id.at) c.args.id ≡ false = grind (arith, c.stands_below.ensures, c.loop-id-test.true) in
    climb_goes_on c.args.c.now.tree c.root.ensures.is_tree.distinct c.args.id c.args.lowest c.loop-id.at c.in-Some.above c.loop-id.invariant out (sym c.in-Some.ensures)

pub returns : goal.returns
returns c =
    let in' : has (below c.args.c.now.tree c.loop-id.at) c.args.id ≡ true = grind (arith, c.stands_below.ensures, c.loop-id-test.false) in
    climb_ends c.args.c.now.tree c.root.ensures.is_tree.distinct c.args.id c.args.lowest c.loop-id.at c.loop-id.invariant in'
