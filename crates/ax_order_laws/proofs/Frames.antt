-- Lists of frames and of readers that are made by a function of a tree or a number, and one of them replaced.
use Rattle.std.proofs.Common.{ℕ, zero, suc, ◌+◌, ◌≡◌, ◌<◌, ◌==◌, true, false, eqb, List, [], ◌∷◌, map, find, slice_get, slice_set, refl, sym, ap, ◌∙◌, Some, option_map, arith}
use Rattle.std.specs.List.{enumerate_from}
use Rattle.std.proofs.lemmas.Bool.{eqb-true}
use Rattle.std.proofs.lemmas.Bool.Decides.{eqb_tells}
use Rattle.ax_trees.specs.Lists.{contains}
use Rattle.ax_trees.proofs.Trees.{by_go}
use Rattle.ax_run_rules.specs.States.{FrameRun}
use Rattle.ax_run_laws.proofs.Found.{of_tree, replaced}

pub frame_there : (g : ℕ → FrameRun) → ((u : ℕ) → (g u).tree ≡ u) → (ts : List ℕ) (t : ℕ) → contains ts t ≡ true → find (of_tree t) (map g ts) ≡ Some (g t)
frame_there g tree [] t h = absurd (cc)
frame_there g tree (u ∷ ts) t h =
    let e : ((g u).tree == t) ≡ (u == t) = ap (λ w. w == t) (tree u) in
    by_go (u == t)
    (λ q. rw (e, q) (ap (λ w. Some (g w)) (eqb-true u t q)))
    (λ q. rw (e, q) (frame_there g tree ts t (rw q at h)))

pub frame_replaced : (g h : ℕ → FrameRun) (x : FrameRun) → ((u : ℕ) → (g u).tree ≡ u) → h x.tree ≡ x → ((u : ℕ) → (x.tree == u) ≡ false → h u ≡ g u) → (ts : List ℕ)
    → map (replaced x) (map g ts) ≡ map h ts
frame_replaced g h x tree new old [] = refl
frame_replaced g h x tree new old (u ∷ ts) =
    let rest = frame_replaced g h x tree new old ts in
    let e : ((g u).tree == x.tree) ≡ (u == x.tree) = ap (λ w. w == x.tree) (tree u) in
    by_go (u == x.tree)
    (λ q. let same : h u ≡ x = ap h (eqb-true u x.tree q) ∙ new in rw (e, q) (ap (λ y. y ∷ map (replaced x) (map g ts)) (sym same) ∙ ap (λ l. h u ∷ l) rest))
    (λ q. let other : (x.tree == u) ≡ false = grind (arith, eqb_tells u x.tree, eqb_tells x.tree u) in
    rw (e, q) (ap (λ y. y ∷ map (replaced x) (map g ts)) (sym (old u other)) ∙ ap (λ l. h u ∷ l) rest))

-- ---- readers by their numbers

pub numbered_at : {X Y : Type 0} (G : ℕ × X → Y) (d k m : ℕ) (xs : List X) → m ≡ d + k → slice_get (map G (enumerate_from d xs)) k ≡ option_map (λ x. G (m, x)) (slice_get xs k)
numbered_at G d k m [] h = refl
numbered_at G d zero m (x ∷ xs) h = ap (λ i. Some (G (i, x))) (omega (arith, h))
numbered_at G d (suc k) m (x ∷ xs) h = numbered_at G (d + 1) k m xs (omega (arith, h))

pub numbered_same : {X Y : Type 0} (G H : ℕ × X → Y) → ((i : ℕ) (x : X) → H (i, x) ≡ G (i, x)) → (d : ℕ) (xs : List X) → map H (enumerate_from d xs) ≡ map G (enumerate_from d xs)
numbered_same G H same d [] = refl
numbered_same G H same d (x ∷ xs) = ap (λ y. y ∷ map H (enumerate_from (d + 1) xs)) (same d x) ∙ ap (λ l. G (d, x) ∷ l) (numbered_same G H same (d + 1) xs)

numbered_later : {X Y : Type 0} (G H : ℕ × X → Y) (m : ℕ) → ((i : ℕ) (x : X) → (m == i) ≡ false → H (i, x) ≡ G (i, x)) → (d : ℕ) (xs : List X) → m < d
    → map H (enumerate_from d xs) ≡ map G (enumerate_from d xs)
numbered_later G H m old d [] l = refl
numbered_later G H m old d (x ∷ xs) l =
    let no : eqb m d ≡ false = grind (arith, eqb_tells m d) in
    ap (λ y. y ∷ map H (enumerate_from (d + 1) xs)) (old d x no) ∙ ap (λ z. G (d, x) ∷ z) (numbered_later G H m old (d + 1) xs (omega arith))

pub numbered_set : {X Y : Type 0} (G H : ℕ × X → Y) (m : ℕ) (y : Y) → ((i : ℕ) (x : X) → (m == i) ≡ false → H (i, x) ≡ G (i, x)) → (d k : ℕ) (xs : List X) (x : X) → m ≡ d + k
    → slice_get xs k ≡ Some x → H (m, x) ≡ y → slice_set (map G (enumerate_from d xs)) k y ≡ map H (enumerate_from d xs)
numbered_set G H m y old d k [] z h e new = absurd (cc)
numbered_set G H m y old d zero (x ∷ xs) z h e new =
    let same : x ≡ z = cc in
    let here : m ≡ d = omega (arith, h) in
    let first : H (d, x) ≡ y = ap (λ i. H (i, x)) (sym here) ∙ (ap (λ w. H (m, w)) same ∙ new) in
    ap (λ w. w ∷ map G (enumerate_from (d + 1) xs)) (sym first) ∙ ap (λ l. H (d, x) ∷ l) (sym (numbered_later G H m old (d + 1) xs (omega (arith, here))))
numbered_set G H m y old d (suc k) (x ∷ xs) z h e new =
    let no : eqb m d ≡ false = grind (arith, eqb_tells m d) in
    ap (λ w. w ∷ slice_set (map G (enumerate_from (d + 1) xs)) k y) (sym (old d x no))
    ∙ ap (λ l. H (d, x) ∷ l) (numbered_set G H m y old (d + 1) k xs z (omega (arith, h)) e new)
