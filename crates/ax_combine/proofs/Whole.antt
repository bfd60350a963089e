-- The combined tree: its nodes in pre-order are the rule's, and its places in pre-order are the joined list.
use Rattle.std.proofs.Common.{ℕ, zero, suc, ◌+◌, ◌<◌, ◌≤◌, ◌≡◌, Bool, true, false, ◌||◌, List, [], ◌∷◌, ◌++◌, map, length, filter_map, Option, Some, None, refl, sym, ap, ◌∙◌, subst, arith, add-one, append_assoc, append-nil, length-append, slice_get, option_map, option_and_then}
use Rattle.std.specs.List.{enumerate_from, list_any}
use Rattle.std.proofs.lemmas.Bool.{false≢true, false_from_ne_true}
use Rattle.std.proofs.lemmas.List.{map-append}
use Rattle.std.proofs.lemmas.List.Folds.{list_any-append}
use Rattle.ax_base.specs.declared.position.Place.{Place}
use Rattle.ax_node.specs.Look.{Look}
use Rattle.ax_trees.specs.Trees.{Trees, bare, tree, has, roots, ids, count, height, IsSingle, IsTree}
use Rattle.ax_trees.specs.Nodes.{Node, node_at, parent, children}
use Rattle.ax_trees.specs.Spots.{or_else}
use Rattle.ax_trees.proofs.Trees.{by_go}
use Rattle.ax_trees.proofs.Parents.{node_children}
use Rattle.ax_trees.proofs.Grown.{node_none}
use Rattle.ax_tree.specs.Forest.{Forest, IsSound, first_tree, live_tree, hosted_by}
use Rattle.ax_tree.specs.SerialRule.{listed, all_of}
use Rattle.ax_tree.specs.Tree.{Tree}
use Rattle.ax_rules.specs.Looks.{same_place}
use Rattle.ax_rules.specs.Stitched.{Placed, stitched, places, children_of, parent_of}
use Rattle.ax_rules.specs.StitchedTree.{PlacedLook, tree_placed, tree_places, joined_in, joined_of, joined_at, joined_from, stitched_tree}
use Rattle.ax_rules.specs.Combined.{number_of, numbered_look, combined_node, combined_nodes}
use Rattle.ax_rules.proofs.StitchedTreeLemmas.{stitched-tree}
use Rattle.ax_stitch.proofs.Hosts.{AllOf, listed_nodes}
use Rattle.ax_stitch.proofs.Places.{same_is, same_self}
use Rattle.ax_stitch.proofs.Sound.{sound_tree}
use Rattle.ax_place_laws.proofs.Joined.{is_in, IsOnce, kids_at}
use Rattle.ax_place_laws.proofs.Once.{once}
use Rattle.ax_place_laws.proofs.Before.{kids_of}
use Rattle.ax_report.specs.Combining.{place_of_number}
use Rattle.ax_combine.proofs.Positions.{number_behind}
use Rattle.ax_combine.proofs.Numbered.{AllFrom, Fact, Numbered, numbered_from, count_numbered, inside, outside, numbers_differ, one_root, length_placed, facts}
use Rattle.ax_combine.proofs.Kids.{numbered_kids}

-- ---- each place has its number

places_placed : (above : List Place) (w : Trees PlacedLook) → places (tree_placed above w) ≡ tree_places w
places_placed above bare = refl
places_placed above (tree i x k r) =
    let a = places_placed (x.place ∷ above) k in
    let b = places_placed above r in
    ap (λ l. x.place ∷ l) (map-append (λ (s : Placed). s.place) (tree_placed (x.place ∷ above) k) (tree_placed above r) ∙ (rw (a, b) refl))

length_places : (w : Trees PlacedLook) → length (tree_places w) ≡ count w
length_places bare = refl
length_places (tree i x k r) =
    let a = length_places k in
    let b = length_places r in
    let c = length-append (tree_places k) (tree_places r) in
    rw (c, a, b) (omega arith)

listed_in : (p : Place) (w : Trees PlacedLook) → list_any (same_place p) (tree_places w) ≡ is_in p w
listed_in p bare = refl
listed_in p (tree i x k r) =
    let a = listed_in p k in
    let b = listed_in p r in
    let c = list_any-append (same_place p) (tree_places k) (tree_places r) in
    rw (c, a, b) refl

-- no place of w stands in the list
abbrev pub IsClear : List Place → Trees PlacedLook → Type 0
IsClear front w = (p : Place) → is_in p w ≡ true → list_any (same_place p) front ≡ false

numbered_behind : (ps : List Place) (n : ℕ) (front rest : List Place) (w : Trees PlacedLook) → ps ≡ front ++ (tree_places w ++ rest) → n ≡ length front + 1 → IsOnce w → IsClear front w → Numbered ps n w
numbered_behind ps n front rest bare e m d c = tt
numbered_behind ps n front rest (tree i x k r) e m d c =
    let a = tree_places k in
    let b = tree_places r in
    let self : is_in x.place (tree i x k r) ≡ true = let s = same_self x.place in rw s refl in
    let whole : ps ≡ front ++ x.place ∷ (a ++ (b ++ rest)) = e ∙ ap (λ l. front ++ x.place ∷ l) (append_assoc a b rest) in
    let one : ps ≡ (front ++ x.place ∷ []) ++ (a ++ (b ++ rest)) = whole ∙ sym (append_assoc front (x.place ∷ []) (a ++ (b ++ rest))) in
    let two : ps ≡ (front ++ x.place ∷ a) ++ (b ++ rest) = whole ∙ sym (append_assoc front (x.place ∷ a) (b ++ rest)) in
    let la = length-append front (x.place ∷ []) in
    let lb = length-append front (x.place ∷ a) in
    let lc = length_places k in (
      ap (λ l. number_of l x.place) whole ∙ (number_behind x.place front (a ++ (b ++ rest)) (c x.place self) ∙ ap Some (sym (add-one (length front)) ∙ sym m)),
      numbered_behind ps (n + 1) (front ++ x.place ∷ []) (b ++ rest) k one (omega (arith, m, la)) d.3
          (λ p g. clear_more p front (x.place ∷ []) (c p (grind (arith, g))) (apart_from p x.place k d.0 g)),
      numbered_behind ps (n + 1 + count k) (front ++ x.place ∷ a) rest r two (omega (arith, m, lb, lc)) d.4
          (λ p g. clear_more p front (x.place ∷ a) (c p (grind (arith, g)))
          (let far = apart_one p x.place r d.1 g in
          let out : list_any (same_place p) a ≡ false = listed_in p k ∙ false_from_ne_true (is_in p k) (λ y. false≢true (sym (d.2.apart p y) ∙ g)) in
          rw (far, out) refl)),
    )
  where
    clear_more : (p : Place) (xs ys : List Place) → list_any (same_place p) xs ≡ false → list_any (same_place p) ys ≡ false → list_any (same_place p) (xs ++ ys) ≡ false
    clear_more p xs ys h g = list_any-append (same_place p) xs ys ∙ (rw (h, g) refl)

    apart_one : (p q : Place) (u : Trees PlacedLook) → is_in q u ≡ false → is_in p u ≡ true → same_place p q ≡ false
    apart_one p q u n y = false_from_ne_true (same_place p q) (λ s. false≢true (sym n ∙ (ap (λ v. is_in v u) (sym (same_is p q s)) ∙ y)))

    apart_from : (p q : Place) (u : Trees PlacedLook) → is_in q u ≡ false → is_in p u ≡ true → list_any (same_place p) (q ∷ []) ≡ false
    apart_from p q u n y = let s = apart_one p q u n y in rw s refl

-- ---- the tree of a forest

joined_single : (h : Place → Trees PlacedLook) (t : ℕ) (w : Trees Look) → IsSingle w → IsSingle (joined_in h t w)
joined_single h t bare s = tt
joined_single h t (tree i x k r) s = ap (joined_in h t) s

single : (f : Forest) → IsSound f → IsSingle (stitched_tree f)
unfolding stitched_tree
single f s = go (first_tree f)
  where
    of_tree : (t : ℕ) (o : Option Tree) → live_tree f t ≡ o → IsSingle (joined_of (λ p. joined_at (joined_from 7 f) (hosted_by f p)) t o)
    of_tree t None e = tt
    of_tree t (Some m) e = joined_single (λ p. joined_at (joined_from 7 f) (hosted_by f p)) t m.trees (sound_tree f t m s e).one_root

    go : (o : Option ℕ) → IsSingle (joined_at (joined_from 8 f) o)
    go None = tt
    go (Some t) = of_tree t (live_tree f t) refl

abbrev pub combined_trees : Forest → Trees Look
combined_trees f = numbered_from (places (stitched f)) 1 (stitched_tree f)

whole_places : (f : Forest) → places (stitched f) ≡ tree_places (stitched_tree f)
whole_places f = ap places (stitched-tree f) ∙ places_placed [] (stitched_tree f)

whole_numbered : (f : Forest) → IsSound f → Numbered (places (stitched f)) 1 (stitched_tree f)
whole_numbered f s =
    numbered_behind (places (stitched f)) 1 [] [] (stitched_tree f) (whole_places f ∙ sym (append-nil (tree_places (stitched_tree f)))) refl (once f s) (λ p g. refl)

pub combined_count : (f : Forest) → count (combined_trees f) ≡ length (stitched f)
combined_count f = count_numbered (places (stitched f)) 1 (stitched_tree f) ∙ (sym (length_placed [] (stitched_tree f)) ∙ ap length (sym (stitched-tree f)))

pub combined_tree : (f : Forest) → IsSound f → IsTree (combined_trees f)
combined_tree f s = record { one_root = one_root (places (stitched f)) 1 (stitched_tree f) (single f s); distinct = numbers_differ (places (stitched f)) 1 (stitched_tree f) }

pub combined_out : (f : Forest) (z : ℕ) → ((1 ≤ z) → (z < 1 + length (stitched f)) → ⊥) → has (combined_trees f) z ≡ false
combined_out f z never =
    let c = sym (length_placed [] (stitched_tree f)) ∙ ap length (sym (stitched-tree f)) in
    outside (places (stitched f)) 1 (stitched_tree f) z (λ a b. never a (omega (arith, b, c)))

-- what the tree has at the number of an element of the list
pub record At (f : Forest) (z : ℕ) (s : Placed) : Type 0 where
  pub node : node_at (combined_trees f) z ≡ Some (combined_node (stitched f) (z, s))
  pub up : parent (combined_trees f) z ≡ option_and_then (number_of (places (stitched f))) (parent_of s)

no_else : (o : Option ℕ) → or_else o None ≡ o
no_else None = refl
no_else (Some y) = refl

combined_at : (f : Forest) (z : ℕ) (s : Placed) → IsSound f → Fact (places (stitched f)) 1 (stitched_tree f) None z s → At f z s
unfolding combined_node
combined_at f z s sound h = record { node = node_is; up = sym (no_else (parent (combined_trees f) z)) ∙ h.up }
  where
    kids : h.kids ≡ filter_map (number_of (places (stitched f))) (children_of (stitched f) s.place)
    kids =
        let a : children (combined_trees f) z ≡ h.kids = node_children (combined_trees f) z ∙ (let e = h.node in rw e refl) in
        sym a ∙ (sym (numbered_kids (places (stitched f)) 1 (stitched_tree f) s.place z (once f sound) (whole_numbered f sound) h.there h.own)
        ∙ ap (filter_map (number_of (places (stitched f)))) (sym (kids_of (stitched f) s.place (stitched_tree f) (once f sound) (stitched-tree f))))

    node_is : node_at (combined_trees f) z ≡ Some (record { id = z; known = numbered_look (places (stitched f)) s; children = filter_map (number_of (places (stitched f))) (children_of (stitched f) s.place) })
    node_is = h.node ∙ ap (λ (l : List ℕ). Some (record { id = z; known = numbered_look (places (stitched f)) s; children = l })) kids

all_at : (f : Forest) (n : ℕ) (l : List Placed) → IsSound f → AllFrom (Fact (places (stitched f)) 1 (stitched_tree f) None) n l → AllFrom (At f) n l
all_at f n [] s h = tt
all_at f n (x ∷ l) s h = (combined_at f n x s h.0, all_at f (n + 1) l s h.1)

pub combined_all : (f : Forest) → IsSound f → AllFrom (At f) 1 (stitched f)
combined_all f s =
    subst (AllFrom (At f) 1) (sym (stitched-tree f)) (all_at f 1 (tree_placed [] (stitched_tree f)) s (facts (places (stitched f)) 1 [] None (stitched_tree f) (whole_numbered f s) refl))

-- ---- pre-order

abbrev pub count_up : {A : Type 0} → ℕ → List A → List ℕ
count_up n l = map (λ e. e.0) (enumerate_from n l)

count_append : {A : Type 0} (n : ℕ) (a b : List A) → count_up n (a ++ b) ≡ count_up n a ++ count_up (n + length a) b
count_append n [] b = let z : n + 0 ≡ n = omega arith in ap (λ i. count_up i b) (sym z)
count_append n (x ∷ a) b = let z : (n + 1) + length a ≡ n + suc (length a) = omega arith in ap (λ l. n ∷ l) (count_append (n + 1) a b ∙ ap (λ i. count_up (n + 1) a ++ count_up i b) z)

ids_numbered : (ps : List Place) (n : ℕ) (above : List Place) (w : Trees PlacedLook) → ids (numbered_from ps n w) ≡ count_up n (tree_placed above w)
ids_numbered ps n above bare = refl
ids_numbered ps n above (tree i x k r) =
    let a = ids_numbered ps (n + 1) (x.place ∷ above) k in
    let b = ids_numbered ps (n + 1 + count k) above r in
    let c = length_placed (x.place ∷ above) k in
    ap (λ l. n ∷ l) (rw (a, b) (sym (count_append (n + 1) (tree_placed (x.place ∷ above) k) (tree_placed above r) ∙ ap (λ m. count_up (n + 1) (tree_placed (x.place ∷ above) k) ++ count_up (n + 1 + m) (tree_placed above r)) c)))

pub combined_ids : (f : Forest) → ids (combined_trees f) ≡ count_up 1 (stitched f)
combined_ids f = ids_numbered (places (stitched f)) 1 [] (stitched_tree f) ∙ ap (count_up 1) (sym (stitched-tree f))

-- the same ids, each with its node in one tree
same_nodes : {X : Type 0} (w : Trees X) (xs ys : List (Node X)) → map (λ (n : Node X). n.id) xs ≡ map (λ (n : Node X). n.id) ys → AllOf (λ (n : Node X). node_at w n.id ≡ Some n) xs
    → AllOf (λ (n : Node X). node_at w n.id ≡ Some n) ys → xs ≡ ys
same_nodes w [] [] e a b = refl
same_nodes w [] (y ∷ ys) e a b = absurd (cc)
same_nodes w (x ∷ xs) [] e a b = absurd (cc)
same_nodes {X} w (x ∷ xs) (y ∷ ys) e a b =
    let h : x.id ≡ y.id = cc in
    let t : map (λ (n : Node X). n.id) xs ≡ map (λ (n : Node X). n.id) ys = cc in
    let both : ◌≡◌ {A = Option (Node X)} (Some x) (Some y) = sym a.0 ∙ (ap (node_at w) h ∙ b.0) in
    let same : x ≡ y = cc in
    let rest = same_nodes w xs ys t a.1 b.1 in
    rw (same, rest) refl

listed_ids : {X : Type 0} (w : Trees X) → map (λ (n : Node X). n.id) (all_of w) ≡ ids w
listed_ids bare = refl
listed_ids {X} (tree i x k r) =
    let a = listed_ids k in
    let b = listed_ids r in
    ap (λ l. i ∷ l) (map-append (λ (n : Node X). n.id) (all_of k) (all_of r) ∙ (rw (a, b) refl))

ruled_ids : (l : List Placed) (n : ℕ) (xs : List Placed) → map (λ (y : Node Look). y.id) (map (combined_node l) (enumerate_from n xs)) ≡ count_up n xs
unfolding combined_node
ruled_ids l n [] = refl
ruled_ids l n (x ∷ xs) = ap (λ ys. n ∷ ys) (ruled_ids l (n + 1) xs)

named : (l : List Placed) (n : ℕ) (x : Placed) → (combined_node l (n, x)).id ≡ n
unfolding combined_node
named l n x = refl

ruled_nodes : (f : Forest) (n : ℕ) (xs : List Placed) → AllFrom (At f) n xs → AllOf (λ (y : Node Look). node_at (combined_trees f) y.id ≡ Some y) (map (combined_node (stitched f)) (enumerate_from n xs))
ruled_nodes f n [] h = tt
ruled_nodes f n (x ∷ xs) h = (ap (node_at (combined_trees f)) (named (stitched f) n x) ∙ h.0.node, ruled_nodes f (n + 1) xs h.1)

pub combined_whole : (f : Forest) → IsSound f → all_of (combined_trees f) ≡ combined_nodes f
unfolding combined_nodes
combined_whole f s =
    same_nodes (combined_trees f) (all_of (combined_trees f)) (map (combined_node (stitched f)) (enumerate_from 1 (stitched f)))
    (listed_ids (combined_trees f) ∙ (combined_ids f ∙ sym (ruled_ids (stitched f) 1 (stitched f)))) (listed_nodes (combined_trees f) (combined_tree f s).distinct) (ruled_nodes f 1 (stitched f) (combined_all f s))

-- ---- the list, read off the pre-order

got_behind : (front : List Place) (x : Place) (rest : List Place) → slice_get (front ++ x ∷ rest) (length front) ≡ Some x
got_behind [] x rest = refl
got_behind (y ∷ front) x rest = got_behind front x rest

read_behind : (ps : List Place) (n : ℕ) (front : List Place) (l : List Placed) → ps ≡ front ++ places l → n ≡ suc (length front) → filter_map (place_of_number ps) (count_up n l) ≡ places l
read_behind ps n front [] e m = refl
read_behind ps n front (s ∷ l) e m =
    let at : place_of_number ps n ≡ Some s.place = ap (place_of_number ps) m ∙ (ap (λ v. slice_get v (length front)) e ∙ got_behind front s.place (places l)) in
    let la = length-append front (s.place ∷ []) in
    let rest = read_behind ps (n + 1) (front ++ s.place ∷ []) l (e ∙ sym (append_assoc front (s.place ∷ []) (places l))) (omega (arith, m, la)) in
    rw (at, rest) refl

pub combined_order : (f : Forest) → filter_map (place_of_number (places (stitched f))) (ids (combined_trees f)) ≡ places (stitched f)
combined_order f = ap (filter_map (place_of_number (places (stitched f)))) (combined_ids f) ∙ read_behind (places (stitched f)) 1 [] (stitched f) refl refl
