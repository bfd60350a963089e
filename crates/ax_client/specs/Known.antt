-- What a client tree is seen as, and when a map of entries keeps it.
use Rattle.std.specs.Prelude.{ℕ, ◌≡◌, Option, nat_eq, option_map, option_to_list, refl}
use Rattle.std.specs.Coded.{Coded, code_by, coded×, coded_ℕ}
use base.Stored.{coded_unit}
use Rattle.std.specs.declared.hash.FoldHasher.{FoldHasher}
use Rattle.std.specs.declared.hash.BuildHasherDefault.{BuildHasherDefault}
use Rattle.std.specs.HashMap.{HashMap, get, hash_map_len}
use Rattle.ax_trees.specs.Trees.{roots, IsTree}
use Rattle.ax_trees.specs.Spots.{Spot, spot, grown}
use Rattle.ax_trees.specs.Code.{coded_trees}
use Rattle.ax_views.specs.Kept.{node_in}
use Rattle.ax_tree.specs.Bundles.{Client}
use Rattle.ax_client.specs.declared.held.Held.{Held}

-- the ids that the receiver has, with their child lists, and for how many more there is room
pub record Known : Type 0 where
  pub tree : Client
  pub spare : ℕ

-- it is stored as the pair of its parts
abbrev pub coded_known : Coded Known
coded_known = code_by (Client × ℕ) (coded× (coded_trees coded_unit) coded_ℕ) (λ k. (k.tree, k.spare)) (λ p. record { tree = p.0; spare = p.1 }) (λ _. refl)

abbrev pub HeldEntries : Type 0
HeldEntries = HashMap ℕ Held (BuildHasherDefault FoldHasher)

-- the spot that an entry tells, and the entry of a spot
abbrev pub spot_of : Held → Spot (Unit {0})
spot_of e = record { above = e.above; known = tt; children = e.children }

abbrev pub entry_of : ℕ → Spot (Unit {0}) → Held
entry_of z s = record { above = s.above; children = s.children }

-- The trees that the entries show below a root, or none. No chain has more nodes than there are entries.
unfoldable pub client_in : HeldEntries → Option ℕ → Client
client_in held root = grown (node_in spot_of (get nat_eq held)) (hash_map_len held) (option_to_list root)

-- The entries keep the tree f below the root: at each id of f there is the entry of what stands there, and nothing at any other.
pub record KeepsClient (held : HeldEntries) (root : Option ℕ) (f : Client) : Type 0 where
  pub at : (z : ℕ) → get nat_eq held z ≡ option_map (entry_of z) (spot f z)
  pub is_tree : IsTree f
  pub tops : roots f ≡ option_to_list root
