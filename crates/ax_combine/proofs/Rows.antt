-- Rows keep the combined tree.
use Rattle.std.proofs.Common.{ℕ, zero, suc, ◌+◌, ◌<◌, ◌≤◌, ◌≡◌, ◌^◌, true, false, List, [], ◌∷◌, ◌++◌, map, length, take, Option, Some, None, is_some, refl, sym, ap, ◌∙◌, subst, arith, add-one, slice_get, option_map, option_and_then, ◌-◌}
use Rattle.std.specs.List.{enumerate_from}
use Rattle.std.proofs.lemmas.Bool.{false≢true}
use Rattle.std.proofs.lemmas.List.{take_all}
use Rattle.ax_base.specs.declared.position.Place.{Place}
use Rattle.ax_node.specs.Look.{Look, look_of}
use Rattle.ax_node.specs.declared.node.NodeData.{NodeData}
use Rattle.ax_node.specs.declared.tree_data.TreeData.{TreeData}
use Rattle.ax_trees.specs.Trees.{Trees, bare, tree, has, roots, root_of, count, height, IsSingle, IsTree}
use Rattle.ax_trees.specs.Nodes.{Node, node_at, parent}
use Rattle.ax_trees.specs.Spots.{grown, Stands}
use Rattle.ax_trees.proofs.Grown.{shown, node_none}
use Rattle.ax_trees.proofs.Parents.{child_of_parent}
use Rattle.ax_tree.specs.Forest.{Forest, IsSound, first_tree}
use Rattle.ax_tree.specs.Tree.{Tree, as_node, data_of, node}
use Rattle.ax_tree.specs.SerialRule.{all_of}
use Rattle.ax_rules.specs.Stitched.{Placed, stitched, places, parent_of}
use Rattle.ax_rules.specs.StitchedTree.{PlacedLook, tree_placed, stitched_tree}
use Rattle.ax_rules.specs.Combined.{number_of, combined_node, combined_data}
use Rattle.ax_rules.proofs.StitchedTreeLemmas.{stitched-tree}
use Rattle.ax_stitch.proofs.Orders.{child_in}
use Rattle.ax_views.proofs.Climbing.{height_count}
use Rattle.ax_combine.specs.declared.nodes.Row.{Row}
use Rattle.ax_combine.specs.Joining.{IsCombined}
use Rattle.ax_combine.specs.Kept.{Joined, row_of, row_at, node_in, above_in, first_number, kept_trees, IsKept}
use Rattle.ax_combine.proofs.Numbered.{AllFrom, numbered_from}
use Rattle.ax_combine.proofs.Whole.{combined_trees, combined_count, combined_tree, combined_out, combined_all, combined_whole, At}

-- ---- rows by their places

pub mapped_at : {A B : Type 0} (g : ℕ × A → B) (n : ℕ) (l : List A) (k : ℕ) → slice_get (map g (enumerate_from n l)) k ≡ option_map (λ s. g (n + k, s)) (slice_get l k)
mapped_at g n [] k = refl
mapped_at g n (s ∷ l) zero = let z : n + 0 ≡ n = omega arith in ap (λ i. Some (g (i, s))) (sym z)
mapped_at g n (s ∷ l) (suc k) = let z : (n + 1) + k ≡ n + suc k = omega arith in mapped_at g (n + 1) l k ∙ ap (λ i. option_map (λ t. g (i, t)) (slice_get l k)) z

pub mapped_length : {A B : Type 0} (g : ℕ × A → B) (n : ℕ) (l : List A) → length (map g (enumerate_from n l)) ≡ length l
mapped_length g n [] = refl
mapped_length g n (s ∷ l) = ap suc (mapped_length g (n + 1) l)

pub all_from_at : {A : Type 0} (F : ℕ → A → Type 0) (n : ℕ) (l : List A) (k : ℕ) (s : A) → AllFrom F n l → slice_get l k ≡ Some s → F (n + k) s
all_from_at F n [] k s h e = absurd (cc)
all_from_at F n (x ∷ l) zero s h e = let same : x ≡ s = cc in let z : n + 0 ≡ n = omega arith in subst (λ i. F i s) (sym z) (subst (F n) same h.0)
all_from_at F n (x ∷ l) (suc k) s h e = let z : (n + 1) + k ≡ n + suc k = omega arith in subst (λ i. F i s) z (all_from_at F (n + 1) l k s h.1 e)

pub none_past : {A : Type 0} (l : List A) (k : ℕ) → slice_get l k ≡ None → length l ≤ k
none_past [] k e = omega arith
none_past (x ∷ l) zero e = absurd (cc)
none_past (x ∷ l) (suc k) e = let h = none_past l k e in omega (arith, h)

pub got_there : {A : Type 0} (l : List A) (k : ℕ) → k < length l → (s : A) × (slice_get l k ≡ Some s)
got_there [] k h = absurd (omega (arith, h))
got_there (x ∷ l) zero h = (x, refl)
got_there (x ∷ l) (suc k) h = got_there l k (omega (arith, h))

abbrev pub rows_of : Forest → List Row
rows_of f = map (row_of (stitched f)) (enumerate_from 1 (stitched f))

parent_none : {X : Type 0} (w : Trees X) (z : ℕ) → has w z ≡ false → parent w z ≡ None
parent_none w z h = go (parent w z) refl
  where
    go : (o : Option ℕ) → parent w z ≡ o → o ≡ None
    go None e = refl
    go (Some y) e = absurd (false≢true (sym h ∙ child_in w z y e))

-- what stands at a number of the combined tree is what the rows have there
record IsRow (f : Forest) (z : ℕ) : Type 0 where
  nodes : node_at (combined_trees f) z ≡ node_in (rows_of f) z
  above : parent (combined_trees f) z ≡ above_in (rows_of f) z

none_is : (f : Forest) (z : ℕ) → has (combined_trees f) z ≡ false → row_at (rows_of f) z ≡ None → IsRow f z
none_is f z h e = record {
  nodes = node_none (combined_trees f) z h ∙ ap (option_map (λ (r : Row). as_node r.node)) (sym e);
  above = parent_none (combined_trees f) z h ∙ ap (option_and_then (λ (r : Row). r.above)) (sym e);
}

row_is : (f : Forest) (z : ℕ) → IsSound f → IsRow f z
row_is f zero s = none_is f 0 (combined_out f 0 (λ a b. omega (arith, a))) refl
row_is f (suc k) s = go (slice_get (stitched f) k) refl
  where
    at : row_at (rows_of f) (suc k) ≡ option_map (λ x. row_of (stitched f) (1 + k, x)) (slice_get (stitched f) k)
    at = mapped_at (row_of (stitched f)) 1 (stitched f) k

    go : (o : Option Placed) → slice_get (stitched f) k ≡ o → IsRow f (suc k)
    go None e = none_is f (suc k) (combined_out f (suc k) (λ a b. let h = none_past (stitched f) k e in omega (arith, b, h))) (at ∙ ap (option_map (λ x. row_of (stitched f) (1 + k, x))) e)
    go (Some x) e =
        let h = all_from_at (At f) 1 (stitched f) k x (combined_all f s) e in
        let z : 1 + k ≡ suc k = omega arith in
        let row : row_at (rows_of f) (suc k) ≡ Some (row_of (stitched f) (1 + k, x)) = at ∙ ap (option_map (λ x. row_of (stitched f) (1 + k, x))) e in
        record {
          nodes = ap (node_at (combined_trees f)) (sym z) ∙ (h.node ∙ ap (option_map (λ (r : Row). as_node r.node)) (sym row));
          above = ap (parent (combined_trees f)) (sym z) ∙ (h.up ∙ ap (option_and_then (λ (r : Row). r.above)) (sym row));
        }

first_of_tree : (ps : List Place) (w : Trees PlacedLook) (rows : List Row) (g : ℕ × Placed → Row) → rows ≡ map g (enumerate_from 1 (tree_placed [] w)) → IsSingle (numbered_from ps 1 w)
    → roots (numbered_from ps 1 w) ≡ first_number rows
first_of_tree ps bare rows g e d = ap first_number (sym e)
first_of_tree ps (tree i x k r) rows g e d = ap (λ v. 1 ∷ roots v) d ∙ ap first_number (sym e)

pub places_length : (l : List Placed) → length (places l) ≡ length l
places_length [] = refl
places_length (x ∷ l) = ap suc (places_length l)

-- the rows of a forest keep its combined tree
pub kept_whole : (f : Forest) → IsSound f → length (stitched f) < 2 ^ 31 → IsKept (rows_of f) (places (stitched f)) (combined_trees f)
kept_whole f s few = record {
  is_tree = combined_tree f s;
  nodes = λ z. (row_is f z s).nodes;
  above = λ z. (row_is f z s).above;
  tops = first_of_tree (places (stitched f)) (stitched_tree f) (rows_of f) (row_of (stitched f)) (ap (λ l. map (row_of (stitched f)) (enumerate_from 1 l)) (stitched-tree f)) (combined_tree f s).one_root;
  counts = combined_count f ∙ sym (mapped_length (row_of (stitched f)) 1 (stitched f));
  long = mapped_length (row_of (stitched f)) 1 (stitched f) ∙ sym (places_length (stitched f));
  few = let n = places_length (stitched f) in omega (arith, n, few);
}

-- so they show it
pub shown_whole : (rows : List Row) (ps : List Place) (w : Trees Look) → IsKept rows ps w → kept_trees rows ≡ w
shown_whole rows ps w k =
    (shown (node_in rows) (length rows) (first_number rows) w k.is_tree (let h = height_count w in let c = k.counts in omega (arith, h, c)) (record { at = λ z. sym (k.nodes z) }) k.tops).0

pub kept_as : (rows : List Row) (ps : List Place) (v w : Trees Look) → IsKept rows ps w → v ≡ w → IsKept rows ps v
kept_as rows ps v w k e = subst (IsKept rows ps) (sym e) k

-- what a made tree is
pub made : (f : Forest) (rows : List Row) (ps : List Place) → IsSound f → length (stitched f) < 2 ^ 31 → rows ≡ rows_of f → ps ≡ places (stitched f) → IsKept rows ps (kept_trees rows) × (kept_trees rows ≡ combined_trees f)
made f rows ps s few e h =
    let k : IsKept rows ps (combined_trees f) = subst (λ r. IsKept r ps (combined_trees f)) (sym e) (subst (λ q. IsKept (rows_of f) q (combined_trees f)) (sym h) (kept_whole f s few)) in
    let same = shown_whole rows ps (combined_trees f) k in
    (kept_as rows ps (kept_trees rows) (combined_trees f) k same, same)

-- ---- what the calls read

no_root : (w : Trees Look) → roots w ≡ [] → root_of w ≡ None
no_root bare e = refl
no_root (tree i x k r) e = absurd (cc)

first_root : (w : Trees Look) (y : ℕ) (ys : List ℕ) → roots w ≡ y ∷ ys → root_of w ≡ Some y
first_root bare y ys e = absurd (cc)
first_root (tree i x k r) y ys e = let same : i ≡ y = cc in ap Some same

pub root_none : (rows : List Row) (ps : List Place) (w : Trees Look) → IsKept rows ps w → rows ≡ [] → None ≡ root_of w
root_none rows ps w k e = sym (no_root w (k.tops ∙ ap first_number e))

pub root_first : (rows : List Row) (ps : List Place) (w : Trees Look) (v : ℕ) → IsKept rows ps w → (rows ≡ [] → ⊥) → v ≡ 1 → Some v ≡ root_of w
root_first [] ps w v k n h = absurd (n refl)
root_first (r ∷ rows) ps w v k n h = ap Some h ∙ sym (first_root w 1 [] k.tops)

pub row_read : (rows : List Row) (z j : ℕ) → 0 < z → j ≡ z - 1 → row_at rows z ≡ slice_get rows j
row_read rows zero j p e = absurd (omega (arith, p))
row_read rows (suc k) j p e = let same : k ≡ j = omega (arith, e) in ap (slice_get rows) same

-- the tree that the rows show, with these data
abbrev pub kept_tree : TreeData → List Row → Tree
kept_tree about rows = record { about = about; trees = kept_trees rows }

pub node_read : (about : TreeData) (rows : List Row) (ps : List Place) (z : ℕ) (o : Option Row) → IsKept rows ps (kept_trees rows) → row_at rows z ≡ o → option_map (λ (r : Row). r.node) o ≡ node (kept_tree about rows) z
node_read about rows ps z o k e = back o ∙ ap (option_map data_of) (ap (option_map (λ (r : Row). as_node r.node)) (sym e) ∙ sym (k.nodes z))
  where
    back : (o : Option Row) → option_map (λ (r : Row). r.node) o ≡ option_map data_of (option_map (λ (r : Row). as_node r.node) o)
    back None = refl
    back (Some r) = refl

pub above_read : (rows : List Row) (ps : List Place) (z : ℕ) (o : Option Row) → IsKept rows ps (kept_trees rows) → row_at rows z ≡ o → option_and_then (λ (r : Row). r.above) o ≡ parent (kept_trees rows) z
above_read rows ps z o k e = ap (option_and_then (λ (r : Row). r.above)) (sym e) ∙ sym (k.above z)

-- ---- the combined tree

above_at : (f : Forest) (m : Tree) (k : ℕ) (s : Placed) → IsSound f → m.trees ≡ combined_trees f → slice_get (stitched f) k ≡ Some s → parent m.trees (k + 1) ≡ option_and_then (number_of (places (stitched f))) (parent_of s)
above_at f m k s sound e g =
    let z : 1 + k ≡ k + 1 = omega arith in
    ap (λ w. parent w (k + 1)) e ∙ subst (λ i. parent (combined_trees f) i ≡ option_and_then (number_of (places (stitched f))) (parent_of s)) z (all_from_at (At f) 1 (stitched f) k s (combined_all f sound) g).up

pub combined_is : (f : Forest) (ps : List Place) (m : Tree) → IsSound f → m.trees ≡ combined_trees f → first_tree f ≡ Some m.about.tree → m.about ≡ combined_data f m.about.tree → ps ≡ places (stitched f) → IsCombined f ps m
combined_is f ps m s e first about listed = record {
  formed = subst IsTree (sym e) (combined_tree f s);
  nodes = ap all_of e ∙ combined_whole f s;
  first = first;
  about = about;
  listed = listed;
  parents = λ k x g. above_at f m k x s e g;
}

-- ---- one row after the other

took_next : {A : Type 0} (l : List A) (k : ℕ) (x : A) → slice_get l k ≡ Some x → take (k + 1) l ≡ take k l ++ x ∷ []
took_next [] k x e = absurd (cc)
took_next (y ∷ l) zero x e = let same : y ≡ x = cc in ap (λ z. z ∷ []) same
took_next (y ∷ l) (suc k) x e = let z : suc k + 1 ≡ suc (k + 1) = omega arith in ap (λ i. take i (y ∷ l)) z ∙ ap (λ v. y ∷ v) (took_next l k x e)

pub rows_more : (f : Forest) (k : ℕ) (rows later : List Row) (r : Row) → rows ≡ take k (rows_of f) → Some r ≡ option_map (λ s. row_of (stitched f) (k + 1, s)) (slice_get (stitched f) k) → later ≡ rows ++ r ∷ []
    → later ≡ take (k + 1) (rows_of f)
rows_more f k rows later r e h g =
    let z : 1 + k ≡ k + 1 = omega arith in
    let at : slice_get (rows_of f) k ≡ Some r = mapped_at (row_of (stitched f)) 1 (stitched f) k ∙ (ap (λ i. option_map (λ s. row_of (stitched f) (i, s)) (slice_get (stitched f) k)) z ∙ sym h) in
    g ∙ (ap (λ xs. xs ++ r ∷ []) e ∙ sym (took_next (rows_of f) k r at))

pub rows_end : (f : Forest) (k : ℕ) (ps : List Place) (rows : List Row) → ps ≡ places (stitched f) → length ps ≤ k → rows ≡ take k (rows_of f) → rows ≡ rows_of f
rows_end f k ps rows e l h =
    let n : length ps ≡ length (rows_of f) = ap length e ∙ (places_length (stitched f) ∙ sym (mapped_length (row_of (stitched f)) 1 (stitched f))) in
    h ∙ take_all k (rows_of f) (omega (arith, l, n))
