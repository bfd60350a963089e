-- What the parts of an update make of a draft.
use Rattle.std.specs.Prelude.{ℕ, ◌≡◌, ◌≤◌, ◌⊎◌, Bool, true, false, not, ◌&&◌, if◌then◌else◌, List, [], ◌∷◌, map, reverse, Option, Some, None, is_some, Result, Ok, Err}
use Rattle.std.specs.FinMap as fin
use Rattle.ax_node.specs.Look.{Look, blank_look}
use Rattle.ax_node.specs.declared.node.NodeData.{NodeData}
use Rattle.ax_trees.specs.Trees.{Trees, has, roots, IsDistinct}
use Rattle.ax_trees.specs.Nodes.{node_at}
use Rattle.ax_trees.specs.Lists.{contains}
use Rattle.ax_tree.specs.declared.update.Refusal.{Refusal}
use Rattle.ax_tree.specs.declared.update.Refusal.TheVariants.{NoMemory}
use Rattle.ax_tree.specs.declared.update.TreeUpdate.{TreeUpdate}
use Rattle.ax_tree.specs.UpdateRule.{draft_node, node_taken, nodes_taken, trees_after}
use Rattle.ax_tree.specs.Tree.{as_node}
use Rattle.ax_tree.specs.Updates.{nodes_part}
use Rattle.ax_mirror.specs.declared.entries.Entry.{Entry}
use Rattle.ax_mirror.specs.declared.draft.Draft.{Draft}
use Rattle.ax_mirror.specs.Placed.{Nodes, look, pending_entry}
use Rattle.ax_mirror.specs.Kept.{KeepsDraft, HoldsTree}

-- the ids that don't pass
abbrev pub unlisted : (ℕ → Bool) → List ℕ → List ℕ
unlisted p [] = []
unlisted p (i ∷ is) = if p i then unlisted p is else i ∷ unlisted p is

-- the nodes of these trees are in the map
pub record TellsNodes (m : Nodes) (k : Trees (Option Look)) : Type 0 where
  pub apart : IsDistinct k
  pub told : (z : ℕ) → has k z ≡ true → look m z ≡ node_at k z

-- an id that isn't among the touched ones has its old entry
pub record Tracked (d e : Draft) : Type 0 where
  pub same : (z : ℕ) → contains e.touched z ≡ false → fin.get e.nodes z ≡ fin.get d.nodes z
  pub grows : (z : ℕ) → contains d.touched z ≡ true → contains e.touched z ≡ true

-- an entry that wasn't made has its old level, and is pending only if it was
abbrev pub Unmade : Option Entry → Option Entry → Type 0
Unmade o None = Unit {0}
Unmade None (Some e) = ⊥
Unmade (Some d) (Some e) = (e.level ≡ d.level) × (d.pending ≡ false → e.pending ≡ false)

-- what isn't among the made ids wasn't made
pub record Makes (d e : Draft) : Type 0 where
  pub unmade : (z : ℕ) → contains e.made z ≡ false → Unmade (fin.get d.nodes z) (fin.get e.nodes z)
  pub grows : (z : ℕ) → contains d.made z ≡ true → contains e.made z ≡ true

-- the trees on the stack are taken out
pub record TakesOut (d e : Draft) (stack : List ℕ) : Type 0 where
  pub root : e.root ≡ d.root
  pub made : e.made ≡ d.made
  pub less : (z : ℕ) → (fin.get e.nodes z ≡ None) ⊎ (fin.get e.nodes z ≡ fin.get d.nodes z)
  pub out : (k : Trees (Option Look)) → TellsNodes d.nodes k → roots k ≡ reverse stack → (z : ℕ) → fin.get e.nodes z ≡ (if has k z then None else fin.get d.nodes z)

-- an id that is there and isn't an old child
abbrev pub is_elsewhere : Nodes → (ℕ → Bool) → ℕ → Bool
is_elsewhere m old z = not (old z) && is_some (fin.get m z)

-- the node at an id becomes pending
pub record PutsPending (d e : Draft) (z : ℕ) (above : Option ℕ) (level : ℕ) : Type 0 where
  pub root : e.root ≡ d.root
  pub nodes : e.nodes ≡ fin.insert d.nodes z (pending_entry above level z)
  pub made : contains e.made z ≡ true
  pub grows : (y : ℕ) → contains d.made y ≡ true → contains e.made y ≡ true

-- each new id is pending
pub record Places (d e : Draft) (above : ℕ) (level : ℕ) (old : ℕ → Bool) (ids : List ℕ) : Type 0 where
  pub root : e.root ≡ d.root
  pub at : (z : ℕ) → fin.get e.nodes z ≡ (if contains ids z && not (old z) then Some (pending_entry (Some above) level z) else fin.get d.nodes z)
  pub made : (z : ℕ) → (contains ids z && not (old z)) ≡ true → contains e.made z ≡ true
  pub grows : (z : ℕ) → contains d.made z ≡ true → contains e.made z ≡ true

-- the rule gives trees, and the draft keeps them
pub record MakesDraft (e : Draft) (r : Result (Trees (Option Look)) Refusal) : Type 0 where
  pub next : Trees (Option Look)
  pub is : r ≡ Ok next
  pub keeps : KeepsDraft e.nodes e.root next

abbrev pub taken : Trees (Option Look) → NodeData → Result (Trees (Option Look)) Refusal
taken w u = node_taken None (λ z. false) w (draft_node (as_node u))

abbrev pub all_taken : Trees (Option Look) → List NodeData → Result (Trees (Option Look)) Refusal
all_taken w us = nodes_taken None (λ z. false) w (map draft_node (map as_node us))

-- For all trees that the old draft keeps, the new one keeps what the rule makes of them, ..
abbrev pub Accepts : (Trees (Option Look) → Result (Trees (Option Look)) Refusal) → Draft → Draft → Type 0
Accepts rule d e = (w : Trees (Option Look)) → KeepsDraft d.nodes d.root w → MakesDraft e (rule w)

-- .. or the rule refuses them for this reason, or there was no memory.
abbrev pub Refuses : (Trees (Option Look) → Result (Trees (Option Look)) Refusal) → Draft → Refusal → Type 0
Refuses rule d r = (w : Trees (Option Look)) → KeepsDraft d.nodes d.root w → (r ≡ NoMemory) ⊎ (rule w ≡ Err r)

-- what isn't among the listed ids is settled: not pending, and not too deep
abbrev pub IsSettled : Option Entry → Type 0
IsSettled None = Unit {0}
IsSettled (Some e) = (e.pending ≡ false) × (e.level ≤ 256)

abbrev pub Settled : Nodes → List ℕ → Type 0
Settled m made = (z : ℕ) → contains made z ≡ false → IsSettled (fin.get m z)

-- the update rule gives trees, and the draft holds them
pub record GivesTrees (e : Draft) (r : Result (Trees Look) Refusal) : Type 0 where
  pub next : Trees Look
  pub is : r ≡ Ok next
  pub holds : HoldsTree e.nodes e.root next

abbrev pub updated : TreeUpdate → Trees Look → Result (Trees Look) Refusal
updated u f = trees_after blank_look (nodes_part u) f

abbrev pub Updates : Draft → Draft → TreeUpdate → Type 0
Updates d e u = (f : Trees Look) → HoldsTree d.nodes d.root f → GivesTrees e (updated u f)

abbrev pub UpdateRefused : Draft → TreeUpdate → Refusal → Type 0
UpdateRefused d u r = (f : Trees Look) → HoldsTree d.nodes d.root f → (r ≡ NoMemory) ⊎ (updated u f ≡ Err r)
