-- What is known of the tree that entries keep.
use Rattle.std.proofs.Common.{ℕ, ◌≡◌, Bool, List, Option, Some, None, refl, sym, ap, ◌∙◌, subst}
use Rattle.std.specs.Prelude.{nat_eq, is_some, option_map, option_and_then}
use Rattle.std.specs.HashMap.{get}
use Rattle.ax_node.specs.Look.{Look}
use Rattle.ax_node.specs.declared.tree_data.TreeData.{TreeData}
use Rattle.ax_trees.specs.Trees.{Trees, has}
use Rattle.ax_trees.specs.Nodes.{Node, node_at, parent}
use Rattle.ax_trees.specs.Spots.{Spot, spot}
use Rattle.ax_trees.specs.Lists.{contains}
use Rattle.ax_trees.proofs.Times.{has-spot, has-node}
use Rattle.ax_trees.proofs.PlacedParents.{parent_none}
use Rattle.ax_tree.specs.Tree.{data_of}
use Rattle.ax_views.specs.Kept.{Keeps}
use Rattle.ax_views.proofs.Keeping.{node_named, seen, keeps_same}
use Rattle.ax_source.specs.declared.entries.Entry.{Entry}
use Rattle.ax_source.specs.Source.{Source}
use Rattle.ax_source.specs.Kept.{SourceEntries, IsSource, entry_of, spot_of, trees_kept}

-- what the fields keep, said of the value that is seen
pub source_as : (e : SourceEntries) (root : Option ℕ) (v s : Source) → v ≡ s → IsSource e root v.marks v.tree.trees → IsSource e root s.marks s.tree.trees
source_as e root v s q k = subst (λ (s : Source). IsSource e root s.marks s.tree.trees) q k

-- the trees that are read off the entries are those that they keep
pub kept_seen : (e : SourceEntries) (root : Option ℕ) (f : Trees Look) → Keeps entry_of (get nat_eq e) root f → trees_kept e root ≡ f
kept_seen e root f k = seen entry_of spot_of (λ z s. refl) (get nat_eq e) root f k

-- so the fields hold what they have to, and are seen as that source
pub source_holds : (e : SourceEntries) (root : Option ℕ) (m : List ℕ) (f : Trees Look) → IsSource e root m f → IsSource e root m (trees_kept e root)
source_holds e root m f k = subst (λ g. IsSource e root m g) (sym (kept_seen e root f k.keeps)) k

pub source_seen : (e : SourceEntries) (root : Option ℕ) (m : List ℕ) (f : Trees Look) (about : TreeData) (changed : Bool) → IsSource e root m f
    → ◌≡◌ {A = Source} (record { tree = record { about = about; trees = trees_kept e root }; marks = m; changed = changed }) (record { tree = record { about = about; trees = f }; marks = m; changed = changed })
source_seen e root m f about changed k = ap (λ (g : Trees Look). record { tree = record { about = about; trees = g }; marks = m; changed = changed }) (kept_seen e root f k.keeps)

-- ---- look-ups

pub is_there : (e : SourceEntries) (root : Option ℕ) (f : Trees Look) (z : ℕ) → Keeps entry_of (get nat_eq e) root f → is_some (get nat_eq e z) ≡ has f z
is_there e root f z k = ap is_some (k.at z) ∙ (same (spot f z) ∙ sym (has-spot f z))
  where
    same : (o : Option (Spot Look)) → is_some (option_map (entry_of z) o) ≡ is_some o
    same None = refl
    same (Some s) = refl

pub node_is : (e : SourceEntries) (root : Option ℕ) (f : Trees Look) (z : ℕ) → Keeps entry_of (get nat_eq e) root f
    → option_map (λ (x : Entry). x.node) (get nat_eq e z) ≡ option_map data_of (node_at f z)
node_is e root f z k = ap (option_map (λ (x : Entry). x.node)) (k.at z) ∙ (same (node_at f z) ∙ ap (option_map data_of) (node_named f z))
  where
    same : (o : Option (Node Look))
        → option_map (λ (x : Entry). x.node) (option_map (entry_of z) (option_map (λ (n : Node Look). record { above = parent f z; known = n.known; children = n.children }) o))
        ≡ option_map data_of (option_map (λ (u : Node Look). record { id = z; known = u.known; children = u.children }) o)
    same None = refl
    same (Some u) = refl

pub above_is : (e : SourceEntries) (root : Option ℕ) (f : Trees Look) (z : ℕ) → Keeps entry_of (get nat_eq e) root f
    → option_and_then (λ (x : Entry). x.above) (get nat_eq e z) ≡ parent f z
above_is e root f z k = ap (option_and_then (λ (x : Entry). x.above)) (k.at z) ∙ go (node_at f z) refl
  where
    go : (o : Option (Node Look)) → node_at f z ≡ o
        → option_and_then (λ (x : Entry). x.above) (option_map (entry_of z) (option_map (λ (n : Node Look). record { above = parent f z; known = n.known; children = n.children }) o)) ≡ parent f z
    go None h = sym (parent_none f z (has-node f z ∙ ap is_some h))
    go (Some u) h = refl

-- ---- the new source

same_parts : (a b : TreeData) (f : Trees Look) (m l : List ℕ) (x y : Bool) → a ≡ b → m ≡ l → x ≡ y
    → ◌≡◌ {A = Source} (record { tree = record { about = a; trees = f }; marks = m; changed = x }) (record { tree = record { about = b; trees = f }; marks = l; changed = y })
same_parts a b f m l x y p q r = λ z. record { tree = record { about = p z; trees = f }; marks = q z; changed = r z }

pub edited_seen : (e : SourceEntries) (root : Option ℕ) (m l : List ℕ) (f : Trees Look) (a b : TreeData) (x y : Bool) → IsSource e root m f → a ≡ b → m ≡ l → x ≡ y
    → ◌≡◌ {A = Source} (record { tree = record { about = a; trees = trees_kept e root }; marks = m; changed = x }) (record { tree = record { about = b; trees = f }; marks = l; changed = y })
edited_seen e root m l f a b x y k p q r = source_seen e root m f a x k ∙ same_parts a b f m l x y p q r

-- the same entries and marks
pub same_source : (e n : SourceEntries) (root : Option ℕ) (m l : List ℕ) (f : Trees Look) → IsSource e root m f → ((z : ℕ) → get nat_eq n z ≡ get nat_eq e z) → l ≡ m → IsSource n root l f
same_source e n root m l f k h q = record {
  keeps = keeps_same entry_of (get nat_eq e) (get nat_eq n) root f k.keeps h;
  few = k.few;
  marked = λ z c. k.marked z (ap (λ v. contains v z) (sym q) ∙ c);
}
