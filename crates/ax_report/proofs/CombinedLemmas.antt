-- The rows of a combined tree.
use Rattle.std.proofs.Common.{ℕ, zero, suc, ◌+◌, ◌<◌, ◌≡◌, List, [], ◌∷◌, ◌++◌, length, take, Bor, refl, sym, ap, ◌∙◌, arith, add-one, Option, None, Some, option_map, unwrap_or, append_assoc, append-nil, flat_map}
use Rattle.std.specs.Prelude.{true, codes, is_some, slice_get, option_to_list, IsSome}
use Rattle.std.specs.List.{enumerate_from}
use Rattle.std.specs.Option.{option_copied}
use Rattle.std.specs.Fmt.{decimal}
use Rattle.std.proofs.lemmas.Bool.{false≢true}
use Rattle.ax_base.specs.declared.position.Place.{Place}
use Rattle.ax_node.specs.Look.{look_of}
use Rattle.ax_node.specs.declared.node.NodeData.{NodeData}
use Rattle.ax_node.specs.declared.tree_data.TreeData.{TreeData}
use Rattle.ax_trees.specs.Nodes.{parent}
use Rattle.ax_tree.specs.Tree.{Tree, node, data_of}
use Rattle.ax_tree.specs.Forest.{Forest, first_tree}
use Rattle.ax_rules.specs.Stitched.{Placed, stitched, places}
use Rattle.ax_rules.specs.Combined.{combined_data, combined_node, numbered_look}
use Rattle.ax_run_rules.specs.Dump.{tree_line, look_text}
use Rattle.ax_run_rules.specs.CombineText.{node_line, placed_text, combined_text}
use Rattle.ax_report.specs.Buffers.{Extends}
use Rattle.ax_report.specs.Combining.{AreNodes, IsCombined, place_of_number, row_head, row_text}

-- ---- the rows, one after the other

abbrev row_at : (ℕ × Placed → List ℕ) → ℕ → List Placed → ℕ → List ℕ
row_at g n l k = unwrap_or (option_map (λ (s : Placed). g (k + n, s)) (slice_get l k)) []

rows_step : (g : ℕ × Placed → List ℕ) (n : ℕ) (l : List Placed) (k : ℕ) → k < length l
    → flat_map g (take (suc k) (enumerate_from n l)) ≡ flat_map g (take k (enumerate_from n l)) ++ row_at g n l k
rows_step g n [] k h = absurd (omega arith)
rows_step g n (s ∷ l) zero h = let z : 0 + n ≡ n = omega arith in append-nil (g (n, s)) ∙ ap (λ j. g (j, s)) (sym z)
rows_step g n (s ∷ l) (suc k) h =
    let next : k + (n + 1) ≡ suc k + n = omega arith in
    let same : row_at g (n + 1) l k ≡ row_at g n (s ∷ l) (suc k) = ap (λ j. unwrap_or (option_map (λ (t : Placed). g (j, t)) (slice_get l k)) []) next in
    ap (λ xs. g (n, s) ++ xs) (rows_step g (n + 1) l k (omega arith))
    ∙ (sym (append_assoc (g (n, s)) (flat_map g (take k (enumerate_from (n + 1) l))) (row_at g (n + 1) l k))
    ∙ ap (λ xs. (g (n, s) ++ flat_map g (take k (enumerate_from (n + 1) l))) ++ xs) same)

rows_end : (n : ℕ) (l : List Placed) → take (length l) (enumerate_from n l) ≡ enumerate_from n l
rows_end n [] = refl
rows_end n (s ∷ l) = ap (λ xs. (n, s) ∷ xs) (rows_end (n + 1) l)

-- a turn of the loop over the rows
pub row_more : (l : List Placed) (k : ℕ) (out now later : List ℕ) → k < length l → now ≡ out ++ flat_map (node_line l) (take k (enumerate_from 1 l)) → later ≡ now ++ row_text l k
    → later ≡ out ++ flat_map (node_line l) (take (k + 1) (enumerate_from 1 l))
unfolding row_text
row_more l k out now later h p q =
    q ∙ (ap (λ xs. xs ++ row_at (node_line l) 1 l k) p
    ∙ (append_assoc out (flat_map (node_line l) (take k (enumerate_from 1 l))) (row_at (node_line l) 1 l k)
    ∙ (ap (λ xs. out ++ xs) (sym (rows_step (node_line l) 1 l k h)) ∙ ap (λ j. out ++ flat_map (node_line l) (take j (enumerate_from 1 l))) (sym (add-one k)))))

-- the loop's end
pub rows_done : (l : List Placed) (k : ℕ) (out now : List ℕ) → k ≡ length l → now ≡ out ++ flat_map (node_line l) (take k (enumerate_from 1 l))
    → now ≡ out ++ flat_map (node_line l) (enumerate_from 1 l)
rows_done l k out now h p = p ∙ ap (λ xs. out ++ flat_map (node_line l) xs) (ap (λ j. take j (enumerate_from 1 l)) h ∙ rows_end 1 l)

-- ---- one row

placed_there : (l : List Placed) (k : ℕ) → k < length l → (s : Placed) × (slice_get l k ≡ Some s)
placed_there [] k h = absurd (omega arith)
placed_there (s ∷ l) zero h = (s, refl)
placed_there (s ∷ l) (suc k) h = placed_there l k (omega arith)

got_place : (l : List Placed) (k : ℕ) → slice_get (places l) k ≡ option_map (λ (s : Placed). s.place) (slice_get l k)
got_place [] k = refl
got_place (s ∷ l) zero = refl
got_place (s ∷ l) (suc k) = got_place l k

length_places : (l : List Placed) → length (places l) ≡ length l
length_places [] = refl
length_places (s ∷ l) = ap suc (length_places l)

-- the places are as many as the list has elements
pub as_many : (f : Forest) (ps : List Place) (m : Tree) → IsCombined f ps m → length ps ≡ length (stitched f)
as_many f ps m c = ap length c.listed ∙ length_places (stitched f)

some_same : {A : Type 0} (x y : A) → Some x ≡ Some y → x ≡ y
some_same x y e = cc

row_of : (f : Forest) (ps : List Place) (m : Tree) (k : ℕ) (s : Placed) → IsCombined f ps m → slice_get (stitched f) k ≡ Some s
    → row_text (stitched f) k ≡ row_head (k + 1) (parent m.trees (k + 1)) s.place (data_of (combined_node (stitched f) (k + 1, s))).role ++ (look_text (look_of (data_of (combined_node (stitched f) (k + 1, s)))) ++ codes "\n")
unfolding row_text row_head node_line combined_node numbered_look
row_of f ps m k s c e = rw (e, c.parents k s e) (simp append_assoc)

-- a row by its parts
row_joined : (i j : ℕ) (u v : Option ℕ) (p q : Place) (d e : NodeData) (out one two now row : List ℕ) → i ≡ j → u ≡ v → p ≡ q → d ≡ e → one ≡ out ++ row_head i u p d.role → two ≡ one ++ look_text (look_of d)
    → now ≡ two ++ codes "\n" → row ≡ row_head j v q e.role ++ (look_text (look_of e) ++ codes "\n") → now ≡ out ++ row
row_joined i j u v p q d e out one two now row h k l m a b c r = rw (c, b, a, r, h, k, l, m) (simp append_assoc)

pub row_grown : (out one two now a b c : List ℕ) → one ≡ out ++ a → two ≡ one ++ b → now ≡ two ++ c → Extends out now
row_grown out one two now a b c h k l = record { more = a ++ (b ++ c); whole = rw (l, k, h) (simp append_assoc) }

pub row_done : (f : Forest) (ps : List Place) (m : Tree) (k i : ℕ) (p : Place) (d : NodeData) (u : Option ℕ) (out one two now : List ℕ) → k < length ps → i ≡ k + 1 → Some p ≡ place_of_number ps i → Some d ≡ node m i
    → u ≡ parent m.trees i → one ≡ out ++ row_head i u p d.role → two ≡ one ++ look_text (look_of d) → now ≡ two ++ codes "\n" → IsCombined f ps m → now ≡ out ++ row_text (stitched f) k
row_done f ps m k i p d u out one two now h z a b v q r t c =
    let n = as_many f ps m c in
    let s = placed_there (stitched f) k (omega (arith, h, n)) in
    let got : slice_get ps k ≡ Some s.0.place = ap (λ l. slice_get l k) c.listed ∙ (got_place (stitched f) k ∙ ap (option_map (λ (t : Placed). t.place)) s.1) in
    let place : p ≡ s.0.place = some_same p s.0.place (a ∙ (ap (place_of_number ps) (z ∙ add-one k) ∙ got)) in
    let same : d ≡ data_of (combined_node (stitched f) (k + 1, s.0)) = some_same d _ (b ∙ (ap (node m) z ∙ c.nodes k s.0 s.1)) in
    let above : u ≡ parent m.trees (k + 1) = v ∙ ap (parent m.trees) z in
    row_joined i (k + 1) u (parent m.trees (k + 1)) p s.0.place d (data_of (combined_node (stitched f) (k + 1, s.0))) out one two now (row_text (stitched f) k) z above place same q r t (row_of f ps m k s.0 c s.1)

copied_some : (o : Option (Bor NodeData)) (n : Option NodeData) → option_copied o ≡ n → is_some n ≡ true → IsSome o
copied_some None n e h = absurd (false≢true (ap is_some e ∙ h))
copied_some (Some r) n e h = refl

pub node_there : (ps : List Place) (m : Tree) (k i : ℕ) (o : Option (Bor NodeData)) → AreNodes ps m → k < length ps → i ≡ k + 1 → option_copied o ≡ node m i → IsSome o
node_there ps m k i o c h z e = copied_some o (node m (k + 1)) (e ∙ ap (node m) z) (c.nodes k h)

-- ---- the whole text

pub combined_none : (f : Forest) (ps : List Place) (m : Tree) → IsCombined f ps m → length (stitched f) ≡ 0
    → flat_map (combined_text f) (option_to_list (first_tree f)) ≡ codes "tree " ++ (decimal m.about.tree ++ codes " empty\n")
unfolding combined_text
combined_none f ps m c h =
    ap (λ o. flat_map (λ t. placed_text t (combined_data f t) (stitched f)) (option_to_list o)) c.first
    ∙ (append-nil (placed_text m.about.tree (combined_data f m.about.tree) (stitched f)) ∙ go (stitched f) h)
  where
    go : (l : List Placed) → length l ≡ 0 → placed_text m.about.tree (combined_data f m.about.tree) l ≡ codes "tree " ++ (decimal m.about.tree ++ codes " empty\n")
    go [] e = refl
    go (s ∷ l) e = absurd (omega (arith, e))

pub combined_some : (f : Forest) (ps : List Place) (m : Tree) → IsCombined f ps m → 0 < length (stitched f)
    → flat_map (combined_text f) (option_to_list (first_tree f)) ≡ tree_line m.about ++ flat_map (node_line (stitched f)) (enumerate_from 1 (stitched f))
unfolding combined_text
combined_some f ps m c h =
    ap (λ o. flat_map (λ t. placed_text t (combined_data f t) (stitched f)) (option_to_list o)) c.first
    ∙ (append-nil (placed_text m.about.tree (combined_data f m.about.tree) (stitched f))
    ∙ (go (stitched f) h ∙ ap (λ d. tree_line d ++ flat_map (node_line (stitched f)) (enumerate_from 1 (stitched f))) (sym c.about)))
  where
    go : (l : List Placed) → 0 < length l → placed_text m.about.tree (combined_data f m.about.tree) l ≡ tree_line (combined_data f m.about.tree) ++ flat_map (node_line l) (enumerate_from 1 l)
    go [] e = absurd (omega (arith, e))
    go (s ∷ l) e = refl

pub all_rows : (f : Forest) (ps : List Place) (m : Tree) (about : TreeData) (out one now : List ℕ) → 0 < length ps → about ≡ m.about → one ≡ out ++ tree_line about
    → now ≡ one ++ flat_map (node_line (stitched f)) (enumerate_from 1 (stitched f)) → IsCombined f ps m → now ≡ out ++ flat_map (combined_text f) (option_to_list (first_tree f))
all_rows f ps m about out one now h a p q c =
    let n = as_many f ps m c in
    q ∙ (ap (λ xs. xs ++ flat_map (node_line (stitched f)) (enumerate_from 1 (stitched f))) (p ∙ ap (λ x. out ++ tree_line x) a)
    ∙ (append_assoc out (tree_line m.about) (flat_map (node_line (stitched f)) (enumerate_from 1 (stitched f))) ∙ ap (λ xs. out ++ xs) (sym (combined_some f ps m c (omega (arith, h, n))))))

pub no_rows : (f : Forest) (ps : List Place) (m : Tree) (t : ℕ) (about : TreeData) (text out now : List ℕ) → length ps ≡ 0 → about ≡ m.about → t ≡ about.tree
    → text ≡ codes "tree " ++ (decimal t ++ codes " empty\n") → now ≡ out ++ text → IsCombined f ps m → now ≡ out ++ flat_map (combined_text f) (option_to_list (first_tree f))
no_rows f ps m t about text out now h a e p q c =
    let n = as_many f ps m c in
    let id : t ≡ m.about.tree = e ∙ ap (λ (d : TreeData). d.tree) a in
    q ∙ ap (λ xs. out ++ xs) (p ∙ (ap (λ i. codes "tree " ++ (decimal i ++ codes " empty\n")) id ∙ sym (combined_none f ps m c (sym n ∙ h))))
