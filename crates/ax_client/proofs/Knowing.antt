-- What is known of the tree that a client's entries keep.
use Rattle.std.proofs.Common.{ℕ, ◌≡◌, ◌≤◌, cond, eqb, List, [], ◌∷◌, Option, Some, None, refl, sym, ap, ◌∙◌, subst, arith}
use Rattle.std.specs.Prelude.{nat_eq, is_some, option_map, option_and_then, option_to_list}
use Rattle.std.specs.HashMap.{get, keys, hash_map_len, IsUnique}
use Rattle.std.specs.List.{IsDistinct as AreDistinct}
use Rattle.std.specs.Map.{keys_of, lookup}
use Rattle.ax_trees.specs.Trees.{bare, tree, has, ids, count, height, roots, root_of}
use Rattle.ax_trees.specs.Nodes.{Node, node_at, parent}
use Rattle.ax_trees.specs.Spots.{spot, Stands}
use Rattle.ax_trees.proofs.Trees.{by_go}
use Rattle.ax_trees.proofs.Grown.{shown}
use Rattle.ax_trees.proofs.Times.{contains-ids, length-ids, has-spot, has-node}
use Rattle.ax_trees.proofs.PlacedParents.{parent_none}
use Rattle.ax_views.specs.Kept.{node_in, spot_node}
use Rattle.ax_views.proofs.Counting.{same_length, once_ids, contains-keys, is_some-map, length-keys, once_distinct_keys}
use Rattle.ax_views.proofs.Climbing.{height_count}
use Rattle.ax_views.proofs.Keeping.{node_named}
use Rattle.ax_tree.specs.Bundles.{Client}
use Rattle.ax_client.specs.declared.held.Held.{Held}
use Rattle.ax_client.specs.Known.{HeldEntries, KeepsClient, Known, client_in, entry_of, spot_of}

-- ---- how many entries there are; it belongs in ax_views, whose `keeps_counted` doesn't need low chains

counted : (m : HeldEntries) (root : Option ℕ) (f : Client) → KeepsClient m root f → IsUnique nat_eq m → hash_map_len m ≡ count f
counted m root f k u =
    sym (length-keys m.entries) ∙ (same_length (keys m) (ids f) (once_distinct_keys (keys m) u) (once_ids f k.is_tree.distinct) (λ z.
    contains-keys m.entries z ∙ (ap is_some (k.at z) ∙ (is_some-map (entry_of z) (spot f z) ∙ (sym (has-spot f z) ∙ sym (contains-ids f z))))) ∙ length-ids f)

-- ---- the tree that is seen

node_back : (f : Client) (z : ℕ) (o : Option (Node (Unit {0})))
    → option_map (λ e. spot_node z (spot_of e)) (option_map (entry_of z) (option_map (λ (n : Node (Unit {0})). record { above = parent f z; known = n.known; children = n.children }) o))
    ≡ option_map (λ (u : Node (Unit {0})). record { id = z; known = u.known; children = u.children }) o
node_back f z None = refl
node_back f z (Some u) = refl

stands : (m : HeldEntries) (root : Option ℕ) (f : Client) → KeepsClient m root f → Stands (node_in spot_of (get nat_eq m)) f
stands m root f k = record { at = λ z. ap (option_map (λ e. spot_node z (spot_of e))) (k.at z) ∙ (node_back f z (node_at f z) ∙ node_named f z) }

pub client_seen : (m : HeldEntries) (root : Option ℕ) (f : Client) → KeepsClient m root f → IsUnique nat_eq m → client_in m root ≡ f
unfolding client_in
client_seen m root f k u =
    let low : height f ≤ hash_map_len m = omega (arith, counted m root f k u, height_count f) in
    (shown (node_in spot_of (get nat_eq m)) (hash_map_len m) (option_to_list root) f k.is_tree low (stands m root f k) k.tops).0

-- so the fields hold what they have to
pub client_holds : (m : HeldEntries) (root : Option ℕ) (f : Client) → KeepsClient m root f → IsUnique nat_eq m → KeepsClient m root (client_in m root)
client_holds m root f k u = subst (λ g. KeepsClient m root g) (sym (client_seen m root f k u)) k

-- what the fields keep, said of the value that is seen
pub client_as : (m : HeldEntries) (root : Option ℕ) (v c : Known) → v ≡ c → KeepsClient m root v.tree → KeepsClient m root c.tree
client_as m root v c q k = subst (λ (x : Known). KeepsClient m root x.tree) q k

pub same_client : (m n : HeldEntries) (root : Option ℕ) (f : Client) → KeepsClient m root f → ((z : ℕ) → get nat_eq n z ≡ get nat_eq m z) → KeepsClient n root f
same_client m n root f k h = record { at = λ z. h z ∙ k.at z; is_tree = k.is_tree; tops = k.tops }

-- ---- look-ups

pub is_there : (m : HeldEntries) (root : Option ℕ) (f : Client) (z : ℕ) → KeepsClient m root f → is_some (get nat_eq m z) ≡ has f z
is_there m root f z k = ap is_some (k.at z) ∙ (is_some-map (entry_of z) (spot f z) ∙ sym (has-spot f z))

pub above_is : (m : HeldEntries) (root : Option ℕ) (f : Client) (z : ℕ) → KeepsClient m root f → option_and_then (λ (x : Held). x.above) (get nat_eq m z) ≡ parent f z
above_is m root f z k = ap (option_and_then (λ (x : Held). x.above)) (k.at z) ∙ go (node_at f z) refl
  where
    go : (o : Option (Node (Unit {0}))) → node_at f z ≡ o
        → option_and_then (λ (x : Held). x.above) (option_map (entry_of z) (option_map (λ (n : Node (Unit {0})). record { above = parent f z; known = n.known; children = n.children }) o)) ≡ parent f z
    go None h = sym (parent_none f z (has-node f z ∙ ap is_some h))
    go (Some u) h = refl

pub root_is : (f : Client) (root : Option ℕ) → roots f ≡ option_to_list root → root_of f ≡ root
root_is bare None h = refl
root_is bare (Some y) h = absurd (cc)
root_is (tree i x k r) None h = absurd (cc)
root_is (tree i x k r) (Some y) h = ap (λ j. Some j) (head i y (roots r) [] h)
  where
    head : (a b : ℕ) (js ks : List ℕ) → a ∷ js ≡ b ∷ ks → a ≡ b
    head a b js ks e = cc

-- ---- the empty tree and a root alone

pub empty_client : (m : HeldEntries) → m.entries ≡ [] → KeepsClient m None bare
empty_client m h = record {
  at = λ z. ap (λ es. lookup (nat_eq z) es) h;
  is_tree = record { one_root = tt; distinct = tt };
  tops = refl;
}

pub alone_client : (m n : HeldEntries) (id : ℕ) (e : Held) → m.entries ≡ [] → e ≡ record { above = None; children = [] }
    → ((z : ℕ) → get nat_eq n z ≡ cond (eqb id z) (Some e) (get nat_eq m z)) → KeepsClient n (Some id) (tree id tt bare bare)
alone_client m n id e h is o = record {
  at = λ z. o z ∙ by_go (eqb id z)
      (λ q. rw (q, is) refl)
      (λ q. rw q (ap (λ es. lookup (nat_eq z) es) h));
  is_tree = record { one_root = refl; distinct = (refl, refl, record { apart = λ z g. refl }, tt, tt) };
  tops = refl;
}

pub empty_unique : (m : HeldEntries) → m.entries ≡ [] → IsUnique nat_eq m
unfolding AreDistinct
empty_unique m h = subst (λ (es : List (ℕ × Held)). AreDistinct nat_eq (keys_of es)) (sym h) tt

-- the value that is seen
pub known_seen : (m : HeldEntries) (root : Option ℕ) (f : Client) → KeepsClient m root f → IsUnique nat_eq m → (n : ℕ) → ◌≡◌ {A = Known} (record { tree = client_in m root; spare = n }) (record { tree = f; spare = n })
known_seen m root f k u n = ap (λ (g : Client). record { tree = g; spare = n }) (client_seen m root f k u)
