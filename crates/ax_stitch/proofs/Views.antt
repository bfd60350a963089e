-- What a tree answers of a node that stands in it.
use Rattle.std.proofs.Common.{ℕ, suc, ◌-◌, ◌≡◌, ◌≤◌, subst, true, false, List, [], ◌∷◌, length, Bor, Option, Some, None, refl, sym, ap, ◌∙◌, arith, option_map}
use Rattle.std.specs.Prelude.{slice_get, IsSome, is_some, IfSome}
use Rattle.std.specs.Option.{option_copied}
use Rattle.ax_node.specs.Look.{Look}
use Rattle.ax_node.specs.declared.node.NodeData.{NodeData}
use Rattle.ax_trees.specs.Trees.{Trees, bare, tree, has, ids, height, root_of, IsTree, IsDistinct}
use Rattle.ax_trees.specs.Nodes.{Node, node_at, children, parent, pre}
use Rattle.ax_trees.specs.Spots.{or_else}
use Rattle.ax_trees.proofs.Grown.{node_some}
use Rattle.ax_trees.proofs.Times.{has-node}
use Rattle.ax_tree.specs.Tree.{Tree, node, data_of}
use Rattle.ax_views.proofs.Walking.{children_from}
use Rattle.ax_rules.specs.Sequences.{first_of, last_of}
use Rattle.ax_stitch.specs.Orders.{next_id, prev_id, behind}
use Rattle.ax_stitch.proofs.Lists.{last_of-cons}
use Rattle.ax_stitch.proofs.Orders.{behind_step, next_tree, ahead_up, ahead_top, last_after, last_after_pre, sibling_in, whole_pre}

copied_some : {A : Type 0} (o : Option (Bor A)) (v : A) → option_copied o ≡ Some v → IsSome o
copied_some None v e = absurd (cc)
copied_some (Some x) v e = refl

pub node_told : (m : Tree) (z : ℕ) (r : Option (Bor NodeData)) → has m.trees z ≡ true → option_copied r ≡ node m z → IsSome r
node_told m z r h e = let n = node_some m.trees z h in copied_some r (data_of n.0) (e ∙ ap (option_map data_of) n.1)

pub children_told : (m : Tree) (z : ℕ) (r : Option (Bor NodeData)) (b : Bor NodeData) (xs : List ℕ) → option_copied r ≡ node m z → r ≡ Some b → xs ≡ b.now.children → xs ≡ children m.trees z
children_told m z r b xs e s x = x ∙ children_from m.trees z b.now (sym (ap option_copied s) ∙ e)

pub slice_get_first : {A : Type 0} (xs : List A) → slice_get xs 0 ≡ first_of xs
slice_get_first [] = refl
slice_get_first (x ∷ xs) = refl

pub slice_get_last : {A : Type 0} (xs : List A) → slice_get xs (length xs - 1) ≡ last_of xs
slice_get_last [] = refl
slice_get_last (x ∷ []) = refl
slice_get_last (x ∷ y ∷ ys) =
    let n : length (x ∷ y ∷ ys) - 1 ≡ suc (length (y ∷ ys) - 1) = omega arith in
    ap (slice_get (x ∷ y ∷ ys)) n ∙ (slice_get_last (y ∷ ys) ∙ (last_of-cons y ys ∙ sym (last_of-cons x (y ∷ ys))))

pub goes_up : (m : Tree) (at above : ℕ) (xs : List ℕ) (r : Option ℕ) → IsDistinct m.trees → parent m.trees at ≡ Some above → xs ≡ children m.trees above → r ≡ next_id xs at
    → first_of (behind m.trees at) ≡ or_else r (first_of (behind m.trees above))
goes_up m at above xs r d p c e = behind_step m.trees at above d p ∙ ap (λ o. or_else o (first_of (behind m.trees above))) (sym (e ∙ ap (λ l. next_id l at) c))

pub or_else_some : {A : Type 0} (o r : Option A) → is_some o ≡ true → or_else o r ≡ o
or_else_some None r h = absurd (cc)
or_else_some (Some x) r h = refl

pub or_else_none : {A : Type 0} (o r : Option A) → is_some o ≡ false → or_else o r ≡ r
or_else_none None r h = refl
or_else_none (Some x) r h = absurd (cc)

-- with a child, or without one
pub next_child : (m : Tree) (z c : ℕ) (xs : List ℕ) → IsDistinct m.trees → has m.trees z ≡ true → xs ≡ children m.trees z → slice_get xs 0 ≡ Some c → next_id (ids m.trees) z ≡ Some c
next_child m z c xs d h x s = next_tree m.trees z d h ∙ ap (λ o. or_else o (first_of (behind m.trees z))) (sym (ap first_of x) ∙ (sym (slice_get_first xs) ∙ s))

pub next_lone : (m : Tree) (z : ℕ) (xs : List ℕ) → IsDistinct m.trees → has m.trees z ≡ true → xs ≡ children m.trees z → slice_get xs 0 ≡ None → next_id (ids m.trees) z ≡ first_of (behind m.trees z)
next_lone m z xs d h x s = next_tree m.trees z d h ∙ ap (λ o. or_else o (first_of (behind m.trees z))) (sym (ap first_of x) ∙ (sym (slice_get_first xs) ∙ s))

pub last_child : (m : Tree) (z c : ℕ) (xs : List ℕ) → xs ≡ children m.trees z → slice_get xs (length xs - 1) ≡ Some c → last_of (children m.trees z) ≡ Some c
last_child m z c xs x s = sym (ap last_of x) ∙ (sym (slice_get_last xs) ∙ s)

pub no_child : (m : Tree) (z : ℕ) (xs : List ℕ) → xs ≡ children m.trees z → slice_get xs (length xs - 1) ≡ None → last_of (children m.trees z) ≡ None
no_child m z xs x s = sym (ap last_of x) ∙ (sym (slice_get_last xs) ∙ s)

pub sibling_told : (m : Tree) (z above s : ℕ) (xs : List ℕ) → xs ≡ children m.trees above → prev_id xs z ≡ Some s → has m.trees s ≡ true
sibling_told m z above s xs x e = sibling_in m.trees above z s (sym (ap (λ l. prev_id l z) x) ∙ e)

pub prev_sibling : (m : Tree) (z above s v : ℕ) (xs : List ℕ) → IsDistinct m.trees → parent m.trees z ≡ Some above → xs ≡ children m.trees above → prev_id xs z ≡ Some s → last_of (pre m.trees s) ≡ Some v
    → prev_id (ids m.trees) z ≡ Some v
prev_sibling m z above s v xs d p x e l =
    ahead_up m.trees z above d p
    ∙ ap Some (ap (last_after m.trees above) (sym (ap (λ l. prev_id l z) x) ∙ e) ∙ last_after_pre m.trees s v (sibling_told m z above s xs x e) l)

pub prev_first : (m : Tree) (z above : ℕ) (xs : List ℕ) → IsDistinct m.trees → parent m.trees z ≡ Some above → xs ≡ children m.trees above → prev_id xs z ≡ None → prev_id (ids m.trees) z ≡ Some above
prev_first m z above xs d p x e = ahead_up m.trees z above d p ∙ ap (λ o. Some (last_after m.trees above o)) (sym (ap (λ l. prev_id l z) x) ∙ e)

pub prev_top : (m : Tree) (z : ℕ) → IsTree m.trees → has m.trees z ≡ true → parent m.trees z ≡ None → prev_id (ids m.trees) z ≡ None
prev_top m z t h p = ap last_of (ahead_top m.trees z t.distinct t.one_root h p)

pub last_whole : (m : Tree) (r v : ℕ) → IsTree m.trees → root_of m.trees ≡ Some r → last_of (pre m.trees r) ≡ Some v → last_of (ids m.trees) ≡ Some v
last_whole m r v t e l = sym (ap last_of (whole_pre m.trees r t.one_root e)) ∙ l

pub last_empty : (m : Tree) → root_of m.trees ≡ None → last_of (ids m.trees) ≡ None
last_empty m e = go m.trees e
  where
    go : (w : Trees Look) → root_of w ≡ None → last_of (ids w) ≡ None
    go bare h = refl
    go (tree i x k r) h = absurd (cc)

-- ---- the trees of a grove

pub view_told : {V : Type 0} (tree_of : V → Tree) (o : Option (Bor V)) (b : Bor V) (l : Option Tree) → option_map (λ (r : Bor V). tree_of r.now) o ≡ l → o ≡ Some b → Some (tree_of b.now) ≡ l
view_told tree_of o b l e s = sym (ap (option_map (λ (r : Bor _). tree_of r.now)) s) ∙ e

pub view_some : {V : Type 0} (tree_of : V → Tree) (o : Option (Bor V)) (l : Option Tree) → option_map (λ (r : Bor V). tree_of r.now) o ≡ l → (None ≡ l → ⊥) → IsSome o
view_some tree_of None l e n = absurd (n e)
view_some tree_of (Some b) l e n = refl

pub has_told_by : (m : Tree) (z : ℕ) (r : Option (Bor NodeData)) → option_copied r ≡ node m z → is_some r ≡ has m.trees z
has_told_by m z r e = sym (some r) ∙ (ap is_some e ∙ (mapped (node_at m.trees z) ∙ sym (has-node m.trees z)))
  where
    some : {A : Type 0} (o : Option (Bor A)) → is_some (option_copied o) ≡ is_some o
    some None = refl
    some (Some b) = refl

    mapped : (o : Option (Node Look)) → is_some (option_map data_of o) ≡ is_some o
    mapped None = refl
    mapped (Some n) = refl

pub view_low : {V : Type 0} (tree_of : V → Tree) (o : Option (Bor V)) (b : Bor V) → IfSome o (λ (r : Bor V). height (tree_of r.now).trees ≤ 256) → o ≡ Some b → height (tree_of b.now).trees ≤ 256
view_low tree_of o b h s = subst (λ v. IfSome v (λ (r : Bor _). height (tree_of r.now).trees ≤ 256)) s h
