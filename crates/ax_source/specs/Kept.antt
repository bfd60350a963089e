-- How a source tree keeps its nodes: each with the id above it, in a map from ids.
use Rattle.std.specs.Prelude.{ℕ, ◌≡◌, ◌≤◌, true, List, Option, nat_eq}
use Rattle.std.specs.declared.hash.FoldHasher.{FoldHasher}
use Rattle.std.specs.declared.hash.BuildHasherDefault.{BuildHasherDefault}
use Rattle.std.specs.HashMap.{get, HashMap}
use Rattle.ax_node.specs.Look.{Look, look_of, node_of}
use Rattle.ax_trees.specs.Trees.{Trees, has, count}
use Rattle.ax_trees.specs.Spots.{Spot}
use Rattle.ax_trees.specs.Lists.{contains}
use Rattle.ax_views.specs.Kept.{Keeps, trees_in}
use Rattle.ax_source.specs.declared.entries.Entry.{Entry}

abbrev pub SourceEntries : Type 0
SourceEntries = HashMap ℕ Entry (BuildHasherDefault FoldHasher)

-- the spot that an entry tells, and the entry of a spot
abbrev pub spot_of : Entry → Spot Look
spot_of e = record { above = e.above; known = look_of e.node; children = e.node.children }

abbrev pub entry_of : ℕ → Spot Look → Entry
entry_of z s = record { node = node_of z s.known s.children; above = s.above }

-- the trees that the entries show
abbrev pub trees_kept : SourceEntries → Option ℕ → Trees Look
trees_kept entries root = trees_in spot_of (get nat_eq entries) root

-- the entries keep f, which isn't too large, and the marks are of its nodes
pub record IsSource (entries : SourceEntries) (root : Option ℕ) (marks : List ℕ) (f : Trees Look) : Type 0 where
  pub keeps : Keeps entry_of (get nat_eq entries) root f
  pub few : count f ≤ 100000
  pub marked : (z : ℕ) → contains marks z ≡ true → has f z ≡ true
