use Rattle.std.proofs.Common.{◌≡◌, ◌≤◌, ◌<◌, ◌+◌, ℕ, true, false, not, ◌||◌, eqb, length, Option, Some, None, sym, ap, ◌∙◌, arith}
use Rattle.std.specs.Prelude.{filter}
use Rattle.ax_trees.specs.Trees.{has, is_bare, is_root, height}
use Rattle.ax_trees.specs.Nodes.{below, children, depth}
use Rattle.ax_trees.specs.Spots.{or_else}
use Rattle.ax_trees.proofs.Sizes.{depth_height}
use Rattle.ax_trees.proofs.Nodes.{height_below}
use Rattle.ax_tree.specs.declared.edit.EditErr.{EditErr}
use Rattle.ax_tree.specs.declared.edit.EditErr.TheVariants.{TooDeep}
use Rattle.ax_source.proofs.Allowed.{move_deep, move_fits}
use Rattle.ax_source.proofs.Kept.{source_as}
use Rattle.ax_source.proofs.source.SourceTree.move_refusal.Goals as goal

pub overflow_add-deep : goal.overflow_add-deep
overflow_add-deep c =
    let k = source_as c.self.inside.entries c.self.inside.root _ c.args.self.now c.self.view_is c.self.invariant in
    omega (arith, k.keeps.low, depth_height c.args.self.now.tree.trees c.args.parent, c.depth.ensures)

pub overflow_add-deep-2 : goal.overflow_add-deep-2
overflow_add-deep-2 c =
    let k = source_as c.self.inside.entries c.self.inside.root _ c.args.self.now c.self.view_is c.self.invariant in
    let b : has c.args.self.now.tree.trees c.args.node ≡ true = sym c.if-not-holds.ensures in
    omega (arith, k.keeps.low, depth_height c.args.self.now.tree.trees c.args.parent, c.depth.ensures, height_below c.args.self.now.tree.trees c.args.node b, c.height_below.ensures)

pub returns-then-deep-gt-DEEPEST : goal.returns-then-deep-gt-DEEPEST
returns-then-deep-gt-DEEPEST c =
    let k = source_as c.self.inside.entries c.self.inside.root _ c.args.self.now c.self.view_is c.self.invariant in
    let f = c.args.self.now.tree.trees in
    let a : is_bare f ≡ false = sym c.if-is_empty.ensures in
    let b : has f c.args.node ≡ true = sym c.if-not-holds.ensures in
    let p : has f c.args.parent ≡ true = sym c.if-not-holds-2.ensures in
    let w : c.args.index ≤ length (filter (λ other. not (eqb other c.args.node)) (children f c.args.parent)) = omega (arith, c.other_count-len.ensures) in
    let r : is_root f c.args.node ≡ false = sym c.if-is_root.ensures in
    let o : (eqb c.args.node c.args.parent || has (below f c.args.node) c.args.parent) ≡ false = sym c.if-is_within.ensures in
    let h : 256 < depth f c.args.parent + 1 + height (below f c.args.node) = omega (arith, c.depth.ensures, c.height_below.ensures, c.if-deep-gt-DEEPEST.true) in
    ap (λ (x : ℕ). Some (TooDeep (x + 1 + c.height_below.result))) c.depth.ensures
    ∙ ap (λ (x : ℕ). Some (TooDeep (depth f c.args.parent + 1 + x))) c.height_below.ensures
    ∙ sym (ap (λ (q : Option EditErr). or_else q None) (move_deep c.args.node c.args.parent c.args.index f a b p w r o k.keeps.is_tree.distinct k.few k.keeps.low h))

pub returns : goal.returns
returns c =
    let k = source_as c.self.inside.entries c.self.inside.root _ c.args.self.now c.self.view_is c.self.invariant in
    let f = c.args.self.now.tree.trees in
    let a : is_bare f ≡ false = sym c.if-is_empty.ensures in
    let b : has f c.args.node ≡ true = sym c.if-not-holds.ensures in
    let p : has f c.args.parent ≡ true = sym c.if-not-holds-2.ensures in
    let w : c.args.index ≤ length (filter (λ other. not (eqb other c.args.node)) (children f c.args.parent)) = omega (arith, c.other_count-len.ensures) in
    let r : is_root f c.args.node ≡ false = sym c.if-is_root.ensures in
    let o : (eqb c.args.node c.args.parent || has (below f c.args.node) c.args.parent) ≡ false = sym c.if-is_within.ensures in
    let h : depth f c.args.parent + 1 + height (below f c.args.node) ≤ 256 = omega (arith, c.depth.ensures, c.height_below.ensures, c.if-deep-gt-DEEPEST.false) in
    sym (ap (λ (q : Option EditErr). or_else q None) (move_fits c.args.node c.args.parent c.args.index f a b p w r o k.keeps.is_tree.distinct k.few k.keeps.low h))
