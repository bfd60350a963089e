-- Trees while an update is applied.
use Rattle.std.proofs.Common.{Bool, None, Ok, Some, ap, arith, leb, map, refl, sym, true, ℕ, ◌∙◌, ◌∷◌, ◌≡◌, ◌≤◌}
use Rattle.std.proofs.lemmas.Bool.{false≢true, le-leb}
use Rattle.std.proofs.lemmas.List.{map-append}
use Rattle.ax_tree.specs.SerialRule.{listed}
use Rattle.ax_tree.specs.UpdateRule.{completed, draft_node, draft_of, finished, least_pending}
use Rattle.ax_trees.specs.Changes.{with_node}
use Rattle.ax_trees.specs.Nodes.{below, root_below, root_known}
use Rattle.ax_trees.specs.Trees.{IsDistinct, Trees, bare, has, has_root, height, is_root, roots, tree}

pub has-draft : {X : Type 0} (w : Trees X) (z : ℕ) → has (draft_of w) z ≡ has w z
has-draft bare z = refl
has-draft (tree i e k r) z = grind (arith, has-draft k z, has-draft r z)

pub has_root-draft : {X : Type 0} (w : Trees X) (z : ℕ) → has_root (draft_of w) z ≡ has_root w z
has_root-draft bare z = refl
has_root-draft (tree i e k r) z = grind (arith, has_root-draft r z)

pub roots-draft : {X : Type 0} (w : Trees X) → roots (draft_of w) ≡ roots w
roots-draft bare = refl
roots-draft (tree i e k r) = ap (λ xs. i ∷ xs) (roots-draft r)

pub below-draft : {X : Type 0} (w : Trees X) (z : ℕ) → below (draft_of w) z ≡ draft_of (below w z)
below-draft bare z = refl
below-draft (tree i e k r) z = grind (arith, below-draft k z, below-draft r z, has-draft k z)

pub root_below-draft : {X : Type 0} (w : Trees X) (z : ℕ) → root_below (draft_of w) z ≡ draft_of (root_below w z)
root_below-draft bare z = refl
root_below-draft (tree i e k r) z = grind (arith, root_below-draft r z)

pub root_known-draft : {X : Type 0} (f : X) (w : Trees X) (z : ℕ) → has_root w z ≡ true → root_known None (draft_of w) z ≡ Some (root_known f w z)
root_known-draft f bare z h = absurd (false≢true h)
root_known-draft f (tree i e k r) z h = grind (arith, root_known-draft f r z)

pub with_node-draft : {X : Type 0} (w : Trees X) (x : ℕ) (e : X) (c : Trees X) → with_node (draft_of w) x (Some e) (draft_of c) ≡ draft_of (with_node w x e c)
with_node-draft bare x e c = refl
with_node-draft (tree i a k r) x e c = grind (arith, with_node-draft k x e c, with_node-draft r x e c, has-draft k x)

pub height-draft : {X : Type 0} (w : Trees X) → height (draft_of w) ≡ height w
height-draft bare = refl
height-draft (tree i e k r) = grind (arith, height-draft k, height-draft r)

pub distinct-draft : {X : Type 0} (w : Trees X) → IsDistinct w → IsDistinct (draft_of w)
distinct-draft bare d = d
distinct-draft (tree i e k r) d =
    (has-draft k i ∙ d.0, has-draft r i ∙ d.1, record { apart = λ z h. has-draft r z ∙ d.2.apart z (sym (has-draft k z) ∙ h) }, distinct-draft k d.3, distinct-draft r d.4)

pub listed-draft : {X : Type 0} (go : ℕ → Bool) (w : Trees X) → map draft_node (listed go w) ≡ listed go (draft_of w)
listed-draft go bare = refl
listed-draft go (tree i e k r) = grind (arith, listed-draft go k, listed-draft go r, map-append draft_node (listed go k) (listed go r), roots-draft k)

pub least_pending-draft : {X : Type 0} (w : Trees X) → least_pending (draft_of w) ≡ None
least_pending-draft bare = refl
least_pending-draft (tree i e k r) = grind (arith, least_pending-draft k, least_pending-draft r)

pub completed-draft : {X : Type 0} (b : X) (w : Trees X) → completed b (draft_of w) ≡ w
completed-draft b bare = refl
completed-draft b (tree i e k r) = grind (arith, completed-draft b k, completed-draft b r)

pub is_root-draft : {X : Type 0} (w : Trees X) (z : ℕ) → is_root (draft_of w) z ≡ is_root w z
is_root-draft bare z = refl
is_root-draft (tree i e k r) z = refl

pub passes : {X : Type 0} (b : X) (w : Trees X) → height w ≤ 256 → finished b (draft_of w) ≡ Ok w
passes b w h =
    let low : leb (height w) 256 ≡ true = le-leb (height w) 256 h in
    rw (least_pending-draft w, height-draft w, low, completed-draft b w)
