use Rattle.std.proofs.Common.{◌≡◌, ◌≤◌, ◌<◌, ◌+◌, ℕ, true, false, length, Option, Some, None, sym, ap, ◌∙◌, arith}
use Rattle.ax_node.specs.Look.{look_of}
use Rattle.ax_trees.specs.Trees.{has, is_bare, count}
use Rattle.ax_trees.specs.Nodes.{children, depth}
use Rattle.ax_trees.specs.Spots.{or_else}
use Rattle.ax_trees.proofs.Sizes.{depth_height}
use Rattle.ax_tree.specs.declared.edit.EditErr.{EditErr}
use Rattle.ax_tree.specs.declared.edit.EditErr.TheVariants.{TooMany, TooDeep}
use Rattle.ax_source.proofs.Allowed.{insert_many, insert_deep, insert_fits}
use Rattle.ax_source.proofs.Kept.{source_as}
use Rattle.ax_source.proofs.source.SourceTree.insert_refusal.Goals as goal

pub returns-then-count-gt-MOST_NODES : goal.returns-then-count-gt-MOST_NODES
returns-then-count-gt-MOST_NODES c =
    let f = c.args.self.now.tree.trees in
    let a : is_bare f ≡ false = sym c.if-is_empty.ensures in
    let b : has f c.args.parent ≡ true = sym c.if-not-holds.ensures in
    let n : has f c.args.node.now.id ≡ false = sym c.if-holds.ensures in
    let w : c.args.index ≤ length (children f c.args.parent) = omega (arith, c.child_count-len.ensures) in
    let m : 100000 < count f + 1 = omega (arith, c.count-count.ensures.count, c.if-count-gt-MOST_NODES.true) in
    ap (λ (x : ℕ). Some (TooMany (x + 1))) c.count-count.ensures.count ∙ sym (ap (λ (o : Option EditErr). or_else o None) (insert_many c.args.parent c.args.index c.args.node.now.id (look_of c.args.node.now) f a b n w m))

pub overflow_add-deep : goal.overflow_add-deep
overflow_add-deep c =
    let k = source_as c.self.inside.entries c.self.inside.root _ c.args.self.now c.self.view_is c.self.invariant in
    omega (arith, k.keeps.low, depth_height c.args.self.now.tree.trees c.args.parent, c.depth-deep.ensures)

pub returns-then-deep-gt-DEEPEST : goal.returns-then-deep-gt-DEEPEST
returns-then-deep-gt-DEEPEST c =
    let k = source_as c.self.inside.entries c.self.inside.root _ c.args.self.now c.self.view_is c.self.invariant in
    let f = c.args.self.now.tree.trees in
    let a : is_bare f ≡ false = sym c.if-is_empty.ensures in
    let b : has f c.args.parent ≡ true = sym c.if-not-holds.ensures in
    let n : has f c.args.node.now.id ≡ false = sym c.if-holds.ensures in
    let w : c.args.index ≤ length (children f c.args.parent) = omega (arith, c.child_count-len.ensures) in
    let m : count f + 1 ≤ 100000 = omega (arith, c.count-count.ensures.count, c.if-count-gt-MOST_NODES.false) in
    let d : 256 < depth f c.args.parent + 1 = omega (arith, c.depth-deep.ensures, c.if-deep-gt-DEEPEST.true) in
    ap (λ (x : ℕ). Some (TooDeep (x + 1))) c.depth-deep.ensures ∙ sym (ap (λ (o : Option EditErr). or_else o None) (insert_deep c.args.parent c.args.index c.args.node.now.id (look_of c.args.node.now) f a b n w m k.keeps.low d))

pub returns : goal.returns
returns c =
    let k = source_as c.self.inside.entries c.self.inside.root _ c.args.self.now c.self.view_is c.self.invariant in
    let f = c.args.self.now.tree.trees in
    let a : is_bare f ≡ false = sym c.if-is_empty.ensures in
    let b : has f c.args.parent ≡ true = sym c.if-not-holds.ensures in
    let n : has f c.args.node.now.id ≡ false = sym c.if-holds.ensures in
    let w : c.args.index ≤ length (children f c.args.parent) = omega (arith, c.child_count-len.ensures) in
    let m : count f + 1 ≤ 100000 = omega (arith, c.count-count.ensures.count, c.if-count-gt-MOST_NODES.false) in
    let d : depth f c.args.parent + 1 ≤ 256 = omega (arith, c.depth-deep.ensures, c.if-deep-gt-DEEPEST.false) in
    sym (ap (λ (o : Option EditErr). or_else o None) (insert_fits c.args.parent c.args.index c.args.node.now.id (look_of c.args.node.now) f a b n w m k.keeps.low d))
