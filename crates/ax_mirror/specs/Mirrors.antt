-- What updates make of a mirror, and which ids are touched.
use Rattle.std.specs.Prelude.{ℕ, ◌≡◌, ◌⊎◌, Bool, false, if◌then◌else◌, List, refl, Result, Ok, Err}
use Rattle.std.specs.Coded.{Coded, code_by, coded×}
use Rattle.ax_node.specs.Look.{Look, coded_look}
use Rattle.ax_node.specs.declared.tree_data.TreeData.{TreeData}
use Rattle.ax_node.specs.contracts.tree_data.TreeData.{the_row}
use Rattle.ax_trees.specs.Trees.{Trees}
use Rattle.ax_trees.specs.Code.{coded_trees}
use Rattle.ax_trees.specs.Lists.{contains}
use Rattle.ax_tree.specs.declared.update.Refusal.{Refusal}
use Rattle.ax_tree.specs.declared.update.Refusal.TheVariants.{NoMemory}
use Rattle.ax_tree.specs.declared.update.BundleErr.{BundleErr}
use Rattle.ax_tree.specs.Tree.{Tree, empty, node}
use Rattle.ax_mirror.specs.declared.draft.Draft.{Draft}
use Rattle.ax_mirror.specs.Kept.{HoldsTree}
use Rattle.ax_mirror.specs.Steps.{Tracked}

-- a tree is stored as the pair of its parts
abbrev pub coded_tree : Coded Tree
coded_tree = code_by (TreeData × Trees Look) (coded× the_row.coded (coded_trees coded_look)) (λ t. (t.about, t.trees)) (λ p. record { about = p.0; trees = p.1 }) (λ _. refl)

-- each id whose node differs is listed
abbrev pub NamesChanges : Tree → Tree → List ℕ → Type 0
NamesChanges old new touched = (z : ℕ) → contains touched z ≡ false → node new z ≡ node old z

-- The rule refuses it for this reason, or there was no memory.
abbrev pub RefusedAs : Refusal → Result Tree Refusal → Type 0
RefusedAs why r = (why ≡ NoMemory) ⊎ (r ≡ Err why)

abbrev pub BrokenAs : BundleErr → Result Tree BundleErr → Type 0
BrokenAs e r = (e.why ≡ NoMemory) ⊎ (r ≡ Err e)

abbrev pub IsForMemory : BundleErr → Type 0
IsForMemory e = e.why ≡ NoMemory

-- what a bundle is applied to
abbrev pub base_of : Bool → Tree → Tree
base_of fresh t = if fresh then empty t.about.tree else t

-- the rule gives a tree, and the draft holds it beside the data b
pub record GivesTree (e : Draft) (b : TreeData) {E : Type 0} (r : Result Tree E) : Type 0 where
  pub next : Trees Look
  pub is : r ≡ Ok (record { about = b; trees = next })
  pub holds : HoldsTree e.nodes e.root next

abbrev pub with_about : TreeData → Trees Look → Tree
with_about a f = record { about = a; trees = f }

-- For each tree that the old draft holds, the new one holds what the rule makes of it, ..
abbrev pub Applies : {E : Type 0} → (Tree → Result Tree E) → Draft → TreeData → Draft → TreeData → Type 0
Applies rule d a e b = (f : Trees Look) → HoldsTree d.nodes d.root f → GivesTree e b (rule (with_about a f))

-- .. or the rule refuses it, ..
abbrev pub IsRefused : (Tree → Result Tree Refusal) → Draft → TreeData → Refusal → Type 0
IsRefused rule d a r = (f : Trees Look) → HoldsTree d.nodes d.root f → RefusedAs r (rule (with_about a f))

-- .. and so for bundles.
abbrev pub IsBroken : (Tree → Result Tree BundleErr) → Draft → TreeData → BundleErr → Type 0
IsBroken rule d a r = (f : Trees Look) → HoldsTree d.nodes d.root f → BrokenAs r (rule (with_about a f))

-- what isn't touched stays, where the draft holds a tree
abbrev pub TrackedHeld : Draft → Draft → Type 0
TrackedHeld d e = (f : Trees Look) → HoldsTree d.nodes d.root f → Tracked d e
