-- The update rule on trees: what an update makes of them, or the first refusal that comes.
use Rattle.std.specs.Prelude.{ℕ, min, Bool, false, not, ◌||◌, ◌&&◌, nat_le, if◌then◌else◌, List, [], ◌∷◌, map, Option, Some, None, unwrap_or, Result, Ok, Err}
use Rattle.ax_trees.specs.Trees.{Trees, bare, tree, has, height, has_root, is_root}
use Rattle.ax_trees.specs.Nodes.{Node, below, root_known, root_below}
use Rattle.ax_trees.specs.Changes.{with_node}
use Rattle.ax_trees.specs.Lists.{contains, first_that}
use Rattle.ax_tree.specs.declared.update.Refusal.{Refusal}
use Rattle.ax_tree.specs.declared.update.Refusal.TheVariants.{BadClear, NotInTree, DuplicateChild, Reparented, Pending, TooDeep}

-- an id to clear, a root, and the data of nodes in order
pub record Update (X : Type 0) : Type 0 where
  pub clear : Option ℕ
  pub root : Option ℕ
  pub nodes : List (Node X)

abbrev pub refuse_or : {A : Type 0} → (ℕ → Refusal) → Option ℕ → Result A Refusal → Result A Refusal
refuse_or e None r = r
refuse_or e (Some z) r = Err (e z)

abbrev pub and_then : {A B : Type 0} → Result A Refusal → (A → Result B Refusal) → Result B Refusal
and_then (Ok a) g = g a
and_then (Err e) g = Err e

-- While an update is applied, nothing is known of a pending node.
abbrev pub draft_of : {X : Type 0} → Trees X → Trees (Option X)
draft_of bare = bare
draft_of (tree i x inner others) = tree i (Some x) (draft_of inner) (draft_of others)

abbrev pub draft_node : {X : Type 0} → Node X → Node (Option X)
draft_node n = record { id = n.id; known = Some n.known; children = n.children }

-- 1. the clear id, where it isn't there
abbrev pub missing : {X : Type 0} → Trees X → Option ℕ → Option ℕ
missing f None = None
missing f (Some z) = if has f z then None else Some z

-- 2. A named root that isn't the root stands alone and pending. Else what stands below the clear id goes, and that id is pending.
abbrev pub cleared : {X : Type 0} → Option ℕ → Trees (Option X) → Trees (Option X)
cleared None f = f
cleared (Some z) f = with_node f z None bare

abbrev pub started : {X : Type 0} → Option ℕ → Option ℕ → Trees (Option X) → Trees (Option X)
started None clear f = cleared clear f
started (Some r) clear f = if is_root f r then cleared clear f else tree r None bare bare

-- 3. The data of one node. First the child that stands earlier in its list, or in `seen`.
abbrev pub first_repeated : List ℕ → List ℕ → Option ℕ
first_repeated seen [] = None
first_repeated seen (c ∷ cs) = if contains seen c then Some c else first_repeated (c ∷ seen) cs

-- the trees whose roots are listed: the others go with all below them
abbrev pub only : {X : Type 0} → Trees X → List ℕ → Trees X
only bare cs = bare
only (tree i x inner others) cs = if contains cs i then tree i x inner (only others cs) else only others cs

-- the listed trees in the listed order, a new leaf with the data d where there is none
abbrev pub arranged : {X : Type 0} → X → List ℕ → Trees X → Trees X
arranged d [] f = bare
arranged d (c ∷ cs) f = tree c (root_known d f c) (root_below f c) (arranged d cs f)

-- c isn't an old child, and stands elsewhere once the old children that aren't listed are gone; `out` tells the ids outside f
abbrev pub bad_child : {X : Type 0} → (ℕ → Bool) → Trees X → Node X → ℕ → Bool
bad_child out f n c = not (has_root (below f n.id) c) && (out c || has (with_node f n.id n.known (only (below f n.id) n.children)) c)

abbrev pub node_taken : {X : Type 0} → X → (ℕ → Bool) → Trees X → Node X → Result (Trees X) Refusal
node_taken d out f n =
    if has f n.id then
    refuse_or DuplicateChild (first_repeated [] n.children)
    (refuse_or Reparented (first_that (bad_child out f n) n.children)
    (Ok (with_node f n.id n.known (arranged d n.children (below f n.id)))))
    else Err (NotInTree n.id)

abbrev pub nodes_taken : {X : Type 0} → X → (ℕ → Bool) → Trees X → List (Node X) → Result (Trees X) Refusal
nodes_taken d out f [] = Ok f
nodes_taken d out f (n ∷ ns) = and_then (node_taken d out f n) (λ g. nodes_taken d out g ns)

-- 4. the least id that is pending
abbrev pub least : Option ℕ → Option ℕ → Option ℕ
least None o = o
least (Some y) None = Some y
least (Some y) (Some z) = Some (min y z)

abbrev pub own_pending : {X : Type 0} → ℕ → Option X → Option ℕ
own_pending i None = Some i
own_pending i (Some x) = None

abbrev pub least_pending : {X : Type 0} → Trees (Option X) → Option ℕ
least_pending bare = None
least_pending (tree i o inner others) = least (own_pending i o) (least (least_pending inner) (least_pending others))

-- 5. no chain of more than 256 nodes
abbrev pub completed : {X : Type 0} → X → Trees (Option X) → Trees X
completed blank bare = bare
completed blank (tree i o inner others) = tree i (unwrap_or o blank) (completed blank inner) (completed blank others)

abbrev pub finished : {X : Type 0} → X → Trees (Option X) → Result (Trees X) Refusal
finished blank f = refuse_or Pending (least_pending f) (if nat_le (height f) 256 then Ok (completed blank f) else Err (TooDeep (height f)))

-- The trees after an update. `blank` fills in for a pending node, of which no result is left.
abbrev pub trees_after : {X : Type 0} → X → Update X → Trees X → Result (Trees X) Refusal
trees_after blank u f =
    refuse_or BadClear (missing f u.clear)
    (and_then (nodes_taken None (λ z. false) (started u.root u.clear (draft_of f)) (map draft_node u.nodes)) (finished blank))
