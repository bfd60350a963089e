-- The tree that hangs at a place, by its root: its places, and the levels below it.
use Rattle.std.proofs.Common.{ℕ, zero, suc, ◌+◌, ◌-◌, ◌≤◌, ◌≡◌, true, [], Option, Some, None, refl, sym, ap, ◌∙◌, arith, option_map, option_and_then}
use Rattle.ax_base.specs.declared.position.Place.{Place}
use Rattle.ax_node.specs.Look.{Look}
use Rattle.ax_trees.specs.Trees.{Trees, bare, tree, has, ids, root_of, height}
use Rattle.ax_trees.specs.Nodes.{children, below, pre}
use Rattle.ax_trees.proofs.Trees.{root_of_in}
use Rattle.ax_trees.proofs.Nodes.{height_below}
use Rattle.ax_trees.proofs.Sizes.{depth_there}
use Rattle.ax_tree.specs.Tree.{Tree}
use Rattle.ax_tree.specs.Forest.{Forest, IsSound, live_tree, host_of, hosted_by}
use Rattle.ax_rules.specs.Stitched.{place_at}
use Rattle.ax_stitch.specs.Levels.{levels_below, spread, spread_of, at_hung, shown_from, hung_to, root_at, hung_root}
use Rattle.ax_stitch.proofs.Hosts.{host_is, host_node, hung_host}
use Rattle.ax_stitch.proofs.Climbs.{up}
use Rattle.ax_stitch.proofs.Blocks.{blocks, shown_blocks}
use Rattle.ax_stitch.proofs.Orders.{whole_pre}
use Rattle.ax_stitch.proofs.Places.{level_is, level_from}
use Rattle.ax_stitch.proofs.Sound.{sound_tree}

-- the tree that hangs at p, with its root q, where n levels are shown below p's tree
pub record IsHung (n : ℕ) (f : Forest) (p q : Place) : Type 0 where
  pub less : ℕ
  pub levels : n ≡ suc less
  pub hosted : hosted_by f p ≡ Some q.tree
  pub tree : Tree
  pub live : live_tree f q.tree ≡ Some tree
  pub root : root_of tree.trees ≡ Some q.node

pub hung_is : (n : ℕ) (f : Forest) (p q : Place) → Some q ≡ hung_root n f p → IsHung n f p q
hung_is zero f p q e = absurd (cc)
hung_is (suc n) f p q e = go (hosted_by f p) refl e
  where
    in_root : (c : ℕ) → hosted_by f p ≡ Some c → (m : Tree) → live_tree f c ≡ Some m → (o : Option ℕ) → root_of m.trees ≡ o → Some q ≡ option_map (place_at c) o → IsHung (suc n) f p q
    in_root c h m l None r k = absurd (cc)
    in_root c h m l (Some i) r k =
        let same : ◌≡◌ {A = Place} q (place_at c i) = cc in
        let t : q.tree ≡ c = ap (λ (v : Place). v.tree) same in
        let z : q.node ≡ i = ap (λ (v : Place). v.node) same in
        record { less = n; levels = refl; hosted = h ∙ ap Some (sym t); tree = m; live = ap (live_tree f) t ∙ l; root = r ∙ ap Some (sym z) }

    in_tree : (c : ℕ) → hosted_by f p ≡ Some c → (o : Option Tree) → live_tree f c ≡ o → Some q ≡ option_and_then (λ (m : Tree). option_map (place_at c) (root_of m.trees)) o → IsHung (suc n) f p q
    in_tree c h None l k = absurd (cc)
    in_tree c h (Some m) l k = in_root c h m l (root_of m.trees) refl k

    go : (o : Option ℕ) → hosted_by f p ≡ o → Some q ≡ option_and_then (root_at f) o → IsHung (suc n) f p q
    go None h k = absurd (cc)
    go (Some c) h k = in_tree c h (live_tree f c) refl k

pub hung_less : (n : ℕ) (f : Forest) (p q : Place) → Some q ≡ hung_root n f p → n ≡ (n - 1) + 1
hung_less n f p q e = let i = hung_is n f p q e in let l = i.levels in omega (arith, l)

pub hung_live : (n : ℕ) (f : Forest) (p q : Place) → Some q ≡ hung_root n f p → None ≡ live_tree f q.tree → ⊥
hung_live n f p q e l = let i = hung_is n f p q e in let s : ◌≡◌ {A = Option Tree} None (Some i.tree) = l ∙ i.live in cc

-- the root of the tree m that hangs there
pub hung_rooted : (n : ℕ) (f : Forest) (p q : Place) (m : Tree) → Some q ≡ hung_root n f p → Some m ≡ live_tree f q.tree → root_of m.trees ≡ Some q.node
hung_rooted n f p q m e l =
    let i = hung_is n f p q e in
    let both : ◌≡◌ {A = Option Tree} (Some m) (Some i.tree) = l ∙ i.live in
    let same : m ≡ i.tree = cc in
    ap (λ (v : Tree). root_of v.trees) same ∙ i.root

pub hung_there : (n : ℕ) (f : Forest) (p q : Place) (m : Tree) → Some q ≡ hung_root n f p → Some m ≡ live_tree f q.tree → has m.trees q.node ≡ true
hung_there n f p q m e l = root_of_in m.trees q.node (hung_rooted n f p q m e l)

-- one level less is shown below it
pub hung_level : (n : ℕ) (f : Forest) (p q : Place) → Some q ≡ hung_root n f p → levels_below 8 f p.tree ≡ Some n → levels_below 8 f q.tree ≡ Some (n - 1)
hung_level n f p q e l =
    let i = hung_is n f p q e in
    let host : host_of f q.tree ≡ Some p = hung_host f p q.tree i.hosted in
    let level = level_is 8 n f p.tree l in
    level_from (suc level.steps) 8 (n - 1) f q.tree level.first level.is_first (let a = level.sum in let b = i.levels in omega (arith, a, b))
    (ap (option_and_then (λ (h : Place). up level.steps f h.tree)) host ∙ level.climbs)

pub root_lower : {X : Type 0} (w : Trees X) (r : ℕ) → has w r ≡ true → 1 + height (below w r) ≤ height w
root_lower w r h = let a = height_below w r h in let b = depth_there w r h in omega (arith, a, b)

-- a place at which a tree hangs has no children of its own
pub hung_lone : (n : ℕ) (f : Forest) (p q : Place) (m : Tree) → IsSound f → Some q ≡ hung_root n f p → Some m ≡ live_tree f p.tree → children m.trees p.node ≡ []
hung_lone n f p q m s e l =
    let i = hung_is n f p q e in
    let host = host_is f q.tree p (hung_host f p q.tree i.hosted) in
    let both : ◌≡◌ {A = Option Tree} (Some m) (Some host.over) = l ∙ host.over_live in
    let same : m ≡ host.over = cc in
    ap (λ (v : Tree). children v.trees p.node) same ∙ (host_node f q.tree p host (sound_tree f p.tree host.over s host.over_live).distinct).lone

-- its places
pub hung_places : (n : ℕ) (f : Forest) (p q : Place) (m : Tree) → IsSound f → Some q ≡ hung_root n f p → Some m ≡ live_tree f q.tree → hung_to n f p ≡ blocks (hung_to (n - 1) f) q.tree (pre m.trees q.node)
hung_places n f p q m s e l =
    let i = hung_is n f p q e in
    let t = sound_tree f q.tree m s (sym l) in
    let less : i.less ≡ n - 1 = let a = i.levels in omega (arith, a) in
    ap (λ k. hung_to k f p) i.levels
    ∙ (ap (at_hung (shown_from (suc i.less) f)) i.hosted
    ∙ (shown_blocks i.less f q.tree m (sym l) t.distinct
    ∙ (ap (λ k. blocks (hung_to k f) q.tree (ids m.trees)) less ∙ ap (blocks (hung_to (n - 1) f) q.tree) (sym (whole_pre m.trees q.node t.one_root (hung_rooted n f p q m e l))))))

-- nothing is shown there where no root is
pub none_hung : (n : ℕ) (f : Forest) (p : Place) → None ≡ hung_root n f p → hung_to n f p ≡ []
none_hung zero f p e = go (hosted_by f p)
  where
    go : (o : Option ℕ) → at_hung (shown_from 0 f) o ≡ []
    go None = refl
    go (Some c) = refl
none_hung (suc n) f p e = go (hosted_by f p) e
  where
    in_trees : (c : ℕ) (w : Trees Look) → None ≡ option_map (place_at c) (root_of w) → spread (hung_to n f) c w ≡ []
    in_trees c bare k = refl
    in_trees c (tree i x a b) k = absurd (cc)

    in_tree : (c : ℕ) (o : Option Tree) → None ≡ option_and_then (λ (m : Tree). option_map (place_at c) (root_of m.trees)) o → spread_of (hung_to n f) c o ≡ []
    in_tree c None k = refl
    in_tree c (Some m) k = in_trees c m.trees k

    go : (o : Option ℕ) → None ≡ option_and_then (root_at f) o → at_hung (shown_from (suc n) f) o ≡ []
    go None k = refl
    go (Some c) k = in_tree c (live_tree f c) k
