-- Parents: each id's parent is the one in whose child list it stands.
use Rattle.std.proofs.Common.{ℕ, ◌≡◌, true, eqb, List, [], refl, sym, ap, ◌∙◌, arith, Option, Some, None}
use Rattle.std.proofs.lemmas.Bool.Decides.{eqb_tells}
use Rattle.std.proofs.lemmas.Bool.{false≢true, eqb-true, false_from_ne_true}
use Rattle.std.specs.Prelude.{unwrap_or}
use Rattle.ax_trees.specs.Trees.{Trees, bare, tree, has, has_root, IsDistinct, roots}
use Rattle.ax_trees.specs.Nodes.{Node, node_at, below, children, parent, parent_or}
use Rattle.ax_trees.specs.Lists.{contains, NoneTwice}
use Rattle.ax_trees.proofs.Trees.{by_go, root_in, below_in, contains_roots, not_both}
use Rattle.std.proofs.lemmas.Option.{same_Some}

pub parent_or-parent : {X : Type 0} (f : Trees X) (z d : ℕ) → parent_or f z d ≡ unwrap_or (parent f z) d
parent_or-parent bare z d = refl
parent_or-parent (tree i x k r) z d =
    by_go (has_root k z) (λ q. rw q refl) (λ q. by_go (has k z) (λ p. rw (q, p) (parent_or-parent k z d)) (λ p. rw (q, p) (parent_or-parent r z d)))

-- a child has that parent
pub parent_of_child : {X : Type 0} (f : Trees X) (y z : ℕ) → IsDistinct f → has_root (below f y) z ≡ true → parent f z ≡ Some y
parent_of_child bare y z d t = absurd (false≢true t)
parent_of_child (tree i x k r) y z d t =
    grind (
      arith,
      t,
      eqb_tells i y,
      eqb_tells i z,
      root_in k z,
      root_in (below k y) z,
      root_in (below r y) z,
      below_in k y z,
      below_in r y z,
      d.0,
      d.1,
      d.2.apart z,
      d.2.apart y,
      parent_of_child k y z d.3,
      parent_of_child r y z d.4,
      not_both k y z d.3,
    )

-- and a parent has that child
pub child_of_parent : {X : Type 0} (f : Trees X) (y z : ℕ) → IsDistinct f → parent f z ≡ Some y → has_root (below f y) z ≡ true
child_of_parent bare y z d p = absurd (cc)
child_of_parent (tree i x k r) y z d p =
    grind (
      arith,
      p,
      eqb_tells i y,
      eqb_tells i i,
      root_in k z,
      parent_in k z y,
      parent_in r z y,
      d.0,
      d.1,
      d.2.apart y,
      child_of_parent k y z d.3,
      child_of_parent r y z d.4,
    )
  where
    parent_in : {E : Type 0} (f : Trees E) (z y : ℕ) → parent f z ≡ Some y → has f y ≡ true
    parent_in bare z y p = absurd (cc)
    parent_in (tree i x k r) z y p = grind (arith, p, eqb_tells i y, eqb_tells i i, parent_in k z y, parent_in r z y)

-- trees in which z stands in the same child lists have the same parent of z
pub parent_same : {X E : Type 0} (f : Trees X) (g : Trees E) (z : ℕ) → IsDistinct f → IsDistinct g
    → ((y : ℕ) → has_root (below g y) z ≡ has_root (below f y) z) → parent g z ≡ parent f z
parent_same f g z d e h = go (parent f z) (parent g z) refl refl
  where
    go : (o p : Option ℕ) → parent f z ≡ o → parent g z ≡ p → parent g z ≡ parent f z
    go None None a b = b ∙ sym a
    go (Some y) p a b = parent_of_child g y z e (h y ∙ child_of_parent f y z d a) ∙ sym a
    go None (Some y) a b = absurd (let c : parent f z ≡ Some y = parent_of_child f y z d (sym (h y) ∙ child_of_parent g y z e b) in cc)

-- the children that a node lists
abbrev pub listed_children : {X : Type 0} → Option (Node X) → List ℕ
listed_children None = []
listed_children (Some n) = n.children

pub node_children : {X : Type 0} (f : Trees X) (y : ℕ) → children f y ≡ listed_children (node_at f y)
node_children bare y = refl
node_children (tree i x k r) y =
    by_go (eqb i y) (λ q. rw q refl) (λ q. by_go (has k y) (λ p. rw (q, p) (node_children k y)) (λ p. rw (q, p) (node_children r y)))

pub child_listed : {X : Type 0} (f : Trees X) (y z : ℕ) → has_root (below f y) z ≡ contains (listed_children (node_at f y)) z
child_listed f y z = sym (contains_roots (below f y) z) ∙ ap (λ js. contains js z) (node_children f y)

-- trees with the same child lists have the same parents
pub parent-same : {X E : Type 0} (f : Trees X) (g : Trees E) (z : ℕ) → IsDistinct f → IsDistinct g
    → ((y : ℕ) → contains (listed_children (node_at g y)) z ≡ contains (listed_children (node_at f y)) z) → parent g z ≡ parent f z
parent-same f g z d e h = parent_same f g z d e (λ y. child_listed g y z ∙ (h y ∙ sym (child_listed f y z)))

-- a node has the id at which it stands
pub node_named : {X : Type 0} (f : Trees X) (z : ℕ) (n : Node X) → node_at f z ≡ Some n → n.id ≡ z
node_named bare z n h = absurd (cc)
node_named {X} (tree i x k r) z n h =
    by_go (eqb i z)
    (λ q. let h' : ◌≡◌ {A = Option (Node X)} (Some (record { id = i; known = x; children = roots k })) (Some n) = rw q at h in
    ap (λ (u : Node X). u.id) (sym (same_Some _ _ h')) ∙ eqb-true i z q)
    (λ q. by_go (has k z) (λ p. node_named k z n (rw (q, p) at h)) (λ p. node_named r z n (rw (q, p) at h)))

pub roots_once : {X : Type 0} (f : Trees X) → IsDistinct f → NoneTwice (roots f)
roots_once bare d = tt
roots_once (tree i x k r) d = (contains_roots r i ∙ false_from_ne_true (has_root r i) (λ g. grind (arith, root_in r i g, d.1)), roots_once r d.4)
