-- The lines of a tree, one node after the other.
use Rattle.std.proofs.Common.{ℕ, suc, ◌+◌, ◌-◌, ◌≤◌, ◌<◌, length, take, get_or, ◌≡◌, false, List, [], ◌∷◌, ◌++◌, refl, sym, ap, ap₂, ◌∙◌, subst, arith, Option, None, Some, append_assoc, append-nil, flat_map, option_map}
use Rattle.std.proofs.lemmas.Grind.{common_steps}
use Rattle.std.specs.Prelude.{codes, if◌then◌else◌}
use Rattle.std.specs.Fmt.{decimal}
use Rattle.ax_node.specs.Look.{Look, look_of}
use Rattle.ax_node.specs.declared.node.NodeData.{NodeData}
use Rattle.ax_node.specs.declared.tree_data.TreeData.{TreeData}
use Rattle.ax_trees.specs.Trees.{Trees, bare, tree, roots, root_of, height, is_bare, IsTree}
use Rattle.ax_trees.specs.Nodes.{Node, node_at}
use Rattle.ax_trees.specs.Spots.{grown, grown_one, grown_level}
use Rattle.ax_trees.proofs.Grown.{told}
use Rattle.ax_tree.specs.Tree.{Tree, IsWellFormed, node, data_of}
use Rattle.ax_run_rules.specs.Dump.{nodes_text, tree_line, tree_text}
use Rattle.ax_run_rules.specs.Writing.{quoted}
use Rattle.ax_report.specs.Walks.{trees_part, focus_part, ends_part, node_line, under_text}

-- ---- the trees at a list of ids, one after the other

one_split : (inner : List ℕ → Trees Look) (i : ℕ) (o : Option (Node Look)) (rest : Trees Look) (indent : List ℕ)
    → nodes_text indent (grown_one inner i o rest) ≡ nodes_text indent (grown_one inner i o bare) ++ nodes_text indent rest
one_split inner i None rest indent = refl
one_split inner i (Some u) rest indent = simp append_assoc

level : (g : ℕ → Option (Node Look)) (inner : List ℕ → Trees Look) (indent : List ℕ) (xs : List ℕ)
    → nodes_text indent (grown_level g inner xs) ≡ flat_map (λ i. nodes_text indent (grown_level g inner (i ∷ []))) xs
level g inner indent [] = refl
level g inner indent (i ∷ xs) =
    one_split inner i (g i) (grown_level g inner xs) indent
    ∙ ap (λ ys. nodes_text indent (grown_one inner i (g i) bare) ++ ys) (level g inner indent xs)

-- ---- what stands at an id

at_none : (o : Option (Node Look)) → option_map data_of o ≡ None → o ≡ None
at_none None e = refl
at_none (Some u) e = absurd (cc)

-- the node that a tree has there, seen as a node of trees
record IsThere (o : Option (Node Look)) (d : NodeData) : Type 0 where
  known : Node Look
  is : o ≡ Some known
  look : look_of d ≡ known.known
  children : d.children ≡ known.children

at_some : (o : Option (Node Look)) (d : NodeData) → option_map data_of o ≡ Some d → IsThere o d
at_some None d e = absurd (cc)
at_some (Some u) d e = let h : data_of u ≡ d = cc in record { known = u; is = refl; look = sym (ap look_of h); children = sym (ap (λ (x : NodeData). x.children) h) }

pub under_none : (m : Tree) (n : ℕ) (indent : List ℕ) (i : ℕ) → node m i ≡ None → under_text m n indent i ≡ []
unfolding under_text
under_none m n indent i e = ap (λ o. nodes_text indent (grown_one (grown (node_at m.trees) n) i o bare)) (at_none (node_at m.trees i) e)

line_and : (indent : List ℕ) (i : ℕ) (x : Look) (inner : Trees Look) → nodes_text indent (tree i x inner bare) ≡ node_line indent i x ++ nodes_text (indent ++ codes "  ") inner
unfolding node_line
line_and indent i x inner = simp (append_assoc, append-nil)

under_some : (m : Tree) (n : ℕ) (indent : List ℕ) (i : ℕ) (d : NodeData) → node m i ≡ Some d
    → under_text m n indent i ≡ node_line indent i (look_of d) ++ nodes_text (indent ++ codes "  ") (grown (node_at m.trees) n d.children)
unfolding under_text
under_some m n indent i d e =
    let h = at_some (node_at m.trees i) d e in
    ap (λ o. nodes_text indent (grown_one (grown (node_at m.trees) n) i o bare)) h.is
    ∙ (line_and indent i h.known.known (grown (node_at m.trees) n h.known.children)
    ∙ ap₂ (λ x js. node_line indent i x ++ nodes_text (indent ++ codes "  ") (grown (node_at m.trees) n js)) (sym h.look) (sym h.children))

-- a node with no level below it
pub under_last : (m : Tree) (n : ℕ) (indent : List ℕ) (i : ℕ) (d : NodeData) → node m i ≡ Some d → n ≡ 0 → under_text m n indent i ≡ node_line indent i (look_of d)
under_last m n indent i d e z = subst (λ k. under_text m k indent i ≡ node_line indent i (look_of d)) (sym z) (under_some m 0 indent i d e ∙ append-nil (node_line indent i (look_of d)))

below : (m : Tree) (n : ℕ) (indent : List ℕ) (js : List ℕ) → nodes_text indent (grown (node_at m.trees) (suc n) js) ≡ flat_map (under_text m n indent) js
unfolding under_text
below m n indent js = level (node_at m.trees) (grown (node_at m.trees) n) indent js

-- a node with the trees of its children
pub under_more : (m : Tree) (n k : ℕ) (indent : List ℕ) (i : ℕ) (d : NodeData) → node m i ≡ Some d → n ≡ k + 1
    → under_text m n indent i ≡ node_line indent i (look_of d) ++ flat_map (under_text m k (indent ++ codes "  ")) d.children
under_more m n k indent i d e z =
    let next : n ≡ suc k = omega arith in
    subst (λ j. under_text m j indent i ≡ node_line indent i (look_of d) ++ flat_map (under_text m k (indent ++ codes "  ")) d.children) (sym next)
    (under_some m (suc k) indent i d e ∙ ap (λ xs. node_line indent i (look_of d) ++ xs) (below m k (indent ++ codes "  ") d.children))

-- ---- a whole tree

pub tree_line_is : (d : TreeData) → tree_line d ≡ trees_part d ++ (focus_part d ++ (ends_part d ++ (quoted d.title ++ (codes " url " ++ (quoted d.url ++ codes "\n")))))
unfolding tree_line trees_part focus_part ends_part
tree_line_is d = simp append_assoc

lone_root : (f : Trees Look) (r : ℕ) → IsTree f → root_of f ≡ Some r → roots f ≡ r ∷ []
lone_root bare r w e = absurd (cc)
lone_root (tree i x inner others) r w e = let h : i ≡ r = cc in ap₂ (λ j g. j ∷ roots g) h w.one_root

not_bare : (f : Trees Look) (r : ℕ) → root_of f ≡ Some r → is_bare f ≡ false
not_bare bare r e = absurd (cc)
not_bare (tree i x inner others) r e = refl

from_root : (m : Tree) (r n : ℕ) → IsWellFormed m → root_of m.trees ≡ Some r → height m.trees ≤ suc n → nodes_text [] m.trees ≡ under_text m n [] r
unfolding under_text
from_root m r n w e low =
    let same : grown (node_at m.trees) (suc n) (roots m.trees) ≡ m.trees = told (node_at m.trees) (suc n) m.trees w.distinct low (λ z h. refl) in
    ap (nodes_text []) (sym same) ∙ ap (λ is. nodes_text [] (grown (node_at m.trees) (suc n) is)) (lone_root m.trees r w e)

pub tree_empty : (t : ℕ) (m : Tree) → root_of m.trees ≡ None → tree_text t m ≡ codes "tree " ++ (decimal t ++ codes " empty\n")
unfolding tree_text
tree_empty t m e = go m.trees e
  where
    go : (f : Trees Look) → root_of f ≡ None → (if is_bare f then codes "tree " ++ (decimal t ++ codes " empty\n") else tree_line m.about ++ nodes_text [] f) ≡ codes "tree " ++ (decimal t ++ codes " empty\n")
    go bare h = refl
    go (tree i x inner others) h = absurd (cc)

pub tree_rooted : (t n : ℕ) (m : Tree) (r : ℕ) → IsWellFormed m → root_of m.trees ≡ Some r → height m.trees ≤ n + 1 → tree_text t m ≡ tree_line m.about ++ under_text m n [] r
unfolding tree_text
tree_rooted t n m r w e low =
    ap (λ b. if b then codes "tree " ++ (decimal t ++ codes " empty\n") else tree_line m.about ++ nodes_text [] m.trees) (not_bare m.trees r e)
    ∙ ap (λ xs. tree_line m.about ++ xs) (from_root m r n w e (omega arith))

-- ---- what a body has put together

more_of : (f : ℕ → List ℕ) (bs xs now later : List ℕ) (i x : ℕ) → i < length xs → x ≡ get_or xs i x → now ≡ bs ++ flat_map f (take i xs) → later ≡ now ++ f x
    → later ≡ bs ++ flat_map f (take (i + 1) xs)
more_of f bs xs now later i x h e p q = grind (arith, common_steps)

-- a turn of the loop over the children
pub child_done : (m : Tree) (n : ℕ) (deeper text bs xs now later : List ℕ) (i x : ℕ) → i < length xs → x ≡ get_or xs i x → now ≡ bs ++ flat_map (under_text m n deeper) (take i xs)
    → text ≡ deeper → later ≡ now ++ under_text m n text x → later ≡ bs ++ flat_map (under_text m n deeper) (take (i + 1) xs)
child_done m n deeper text bs xs now later i x h e p t q =
    more_of (under_text m n deeper) bs xs now later i x h e p (q ∙ ap (λ s. now ++ under_text m n s x) t)

-- the loop's end
pub under_done : (m : Tree) (n : ℕ) (indent deeper : List ℕ) (i : ℕ) (d : NodeData) (js out one now : List ℕ) (k : ℕ) → node m i ≡ Some d → 0 < n → deeper ≡ indent ++ codes "  "
    → js ≡ d.children → one ≡ out ++ node_line indent i (look_of d) → length js ≤ k → now ≡ one ++ flat_map (under_text m (n - 1) deeper) (take k js)
    → now ≡ out ++ under_text m n indent i
under_done m n indent deeper i d js out one now k e z s c h l p =
    let all : take k js ≡ js = grind (arith, common_steps) in
    let whole = under_more m n (n - 1) indent i d e (omega arith) in
    let one_is : one ++ flat_map (under_text m (n - 1) deeper) (take k js) ≡ (out ++ node_line indent i (look_of d)) ++ flat_map (under_text m (n - 1) (indent ++ codes "  ")) d.children =
    rw (all, h, s, c) refl in
    p ∙ (one_is ∙ (append_assoc out (node_line indent i (look_of d)) (flat_map (under_text m (n - 1) (indent ++ codes "  ")) d.children) ∙ ap (λ xs. out ++ xs) (sym whole)))

pub under_lone : (m : Tree) (n : ℕ) (indent : List ℕ) (i : ℕ) (d : NodeData) (out one : List ℕ) → node m i ≡ Some d → n ≡ 0 → one ≡ out ++ node_line indent i (look_of d)
    → one ≡ out ++ under_text m n indent i
under_lone m n indent i d out one e z h = h ∙ ap (λ xs. out ++ xs) (sym (under_last m n indent i d e z))

pub nothing_there : (m : Tree) (n : ℕ) (indent : List ℕ) (i : ℕ) (out : List ℕ) → node m i ≡ None → out ≡ out ++ under_text m n indent i
nothing_there m n indent i out e = sym (append-nil out) ∙ ap (λ xs. out ++ xs) (sym (under_none m n indent i e))

pub tree_done : (t n : ℕ) (m : Tree) (r : ℕ) (about : TreeData) (out one now : List ℕ) → IsWellFormed m → root_of m.trees ≡ Some r → height m.trees ≤ n + 1 → about ≡ m.about
    → one ≡ out ++ tree_line about → now ≡ one ++ under_text m n [] r → now ≡ out ++ tree_text t m
tree_done t n m r about out one now w e low a h k =
    k ∙ (ap (λ xs. xs ++ under_text m n [] r) (h ∙ ap (λ x. out ++ tree_line x) a)
    ∙ (append_assoc out (tree_line m.about) (under_text m n [] r) ∙ ap (λ xs. out ++ xs) (sym (tree_rooted t n m r w e low))))

pub tree_line_done : (d : TreeData) (a x y b c e f g : List ℕ) → x ≡ a ++ trees_part d → y ≡ x ++ focus_part d → b ≡ y ++ ends_part d
    → c ≡ b ++ quoted d.title → e ≡ c ++ codes " url " → f ≡ e ++ quoted d.url → g ≡ f ++ codes "\n" → g ≡ a ++ tree_line d
tree_line_done d a x y b c e f g m n h i j k l = rw (l, k, j, i, h, n, m, tree_line_is d) (simp append_assoc)
