-- A map that keeps a tree shows it.
use Rattle.std.proofs.Common.{ℕ, ◌≡◌, Option, Some, None, refl, sym, ap, ◌∙◌, subst, eqb}
use Rattle.std.specs.Prelude.{option_map, option_to_list}
use Rattle.std.proofs.lemmas.Bool.{eqb-true}
use Rattle.ax_trees.specs.Trees.{Trees, bare, tree, has, roots}
use Rattle.ax_trees.specs.Nodes.{Node, node_at, parent}
use Rattle.ax_trees.specs.Spots.{Spot, Stands}
use Rattle.ax_trees.proofs.Trees.{by_go}
use Rattle.ax_trees.proofs.Grown.{shown}
use Rattle.ax_views.specs.Kept.{Keeps, node_in, spot_node, trees_in}

-- a node has its own id
pub node_named : {X : Type 0} (f : Trees X) (z : ℕ) → option_map (λ (u : Node X). record { id = z; known = u.known; children = u.children }) (node_at f z) ≡ node_at f z
node_named bare z = refl
node_named {X} (tree i x k r) z =
    by_go (eqb i z)
    (λ q. let at : i ≡ z = eqb-true i z q in rw q (ap (λ y. Some (record { id = y; known = x; children = roots k })) (sym at)))
    (λ q. by_go (has k z) (λ p. rw (q, p) (node_named k z)) (λ p. rw (q, p) (node_named r z)))

module _ {E X : Type 0} (entry_of : ℕ → Spot X → E) (spot_of : E → Spot X) (back : (z : ℕ) (s : Spot X) → spot_of (entry_of z s) ≡ s) where
  node_back : (f : Trees X) (z : ℕ) (o : Option (Node X))
      → option_map (λ e. spot_node z (spot_of e)) (option_map (entry_of z) (option_map (λ (n : Node X). record { above = parent f z; known = n.known; children = n.children }) o))
      ≡ option_map (λ (u : Node X). record { id = z; known = u.known; children = u.children }) o
  node_back f z None = refl
  node_back f z (Some u) = ap (λ s. Some (spot_node z s)) (back z (record { above = parent f z; known = u.known; children = u.children }))

  pub stands : (m : ℕ → Option E) (root : Option ℕ) (f : Trees X) → Keeps entry_of m root f → Stands (node_in spot_of m) f
  stands m root f k = record { at = λ z. ap (option_map (λ e. spot_node z (spot_of e))) (k.at z) ∙ (node_back f z (node_at f z) ∙ node_named f z) }

  -- the trees that are read off the map are those that it keeps
  pub seen : (m : ℕ → Option E) (root : Option ℕ) (f : Trees X) → Keeps entry_of m root f → trees_in spot_of m root ≡ f
  unfolding trees_in
  seen m root f k = (shown (node_in spot_of m) 256 (option_to_list root) f k.is_tree k.low (stands m root f k) k.tops).0

  -- so it keeps what is read off it
  pub keeps_seen : (m : ℕ → Option E) (root : Option ℕ) (f : Trees X) → Keeps entry_of m root f → Keeps entry_of m root (trees_in spot_of m root)
  keeps_seen m root f k = subst (λ g. Keeps entry_of m root g) (sym (seen m root f k)) k

-- a map with the same entries keeps the same
pub keeps_same : {E X : Type 0} (entry_of : ℕ → Spot X → E) (m n : ℕ → Option E) (root : Option ℕ) (f : Trees X) → Keeps entry_of m root f → ((z : ℕ) → n z ≡ m z) → Keeps entry_of n root f
keeps_same entry_of m n root f k h = record { at = λ z. h z ∙ k.at z; is_tree = k.is_tree; tops = k.tops; low = k.low }
