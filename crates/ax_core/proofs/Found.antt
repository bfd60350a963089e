-- Frames found by the places of their trees, and put back there.
use Rattle.std.proofs.Common.{ℕ, suc, zero, ◌≡◌, ◌<◌, length, ◌==◌, Bool, true, false, ◌||◌, if◌then◌else◌, List, [], ◌∷◌, map, find, slice_get, get_or, refl, sym, ap, ◌∙◌, Option, Some, None, subst, true≢false}
use Rattle.std.specs.Prelude.{option_map, option_and_then, slice_set}
use Rattle.std.specs.List.{All}
use Rattle.std.proofs.lemmas.Bool.{eqb-true}
use Rattle.std.proofs.lemmas.List.Elements.{All-get_or}
use Rattle.std.proofs.lemmas.List.{length-map}
use Rattle.std.proofs.lemmas.Option.{get_or_from_slice_get, slice_get-get_or, slice_get_within}
use Rattle.ax_tree.specs.Journals.{is_short}
use Rattle.ax_trees.specs.Lists.{contains, NoneTwice}
use Rattle.ax_ask.specs.Calls.{HaveLeaves}
use Rattle.ax_run_rules.specs.States.{FrameRun, State, trees_of}
use Rattle.ax_run_laws.proofs.Found.{of_tree, replaced, same_number, some_same}
use Rattle.ax_core.specs.Places.{place_of}
use Rattle.ax_core.proofs.Listed.{place_below}

pub all_at : {A : Type 0} (P : A → Type 0) (xs : List A) (i : ℕ) (x : A) → All P xs → slice_get xs i ≡ Some x → P x
all_at P xs i x all h = subst P (get_or_from_slice_get xs i x x h) (All-get_or P xs i x (slice_get_within xs i x h) all)

abbrev tree_at : FrameRun → ℕ
tree_at f = f.tree

later : (f : FrameRun) (fs : List FrameRun) (o : Option ℕ) → option_and_then (λ i. slice_get fs i) o ≡ option_and_then (λ i. slice_get (f ∷ fs) i) (option_map suc o)
later f fs None = refl
later f fs (Some i) = refl

pub found_at : (fs : List FrameRun) (t : ℕ) → find (of_tree t) fs ≡ option_and_then (λ i. slice_get fs i) (place_of (map (λ (f : FrameRun). f.tree) fs) t)
found_at [] t = refl
found_at (f ∷ fs) t = go (f.tree == t) (found_at fs t)
  where
    go : (b : Bool) → find (of_tree t) fs ≡ option_and_then (λ i. slice_get fs i) (place_of (map (λ (g : FrameRun). g.tree) fs) t)
        → (if b then Some f else find (of_tree t) fs) ≡ option_and_then (λ i. slice_get (f ∷ fs) i) (if b then Some 0 else option_map suc (place_of (map (λ (g : FrameRun). g.tree) fs) t))
    go true ih = refl
    go false ih = ih ∙ later f fs (place_of (map (λ (g : FrameRun). g.tree) fs) t)

-- a tree that stands nowhere: its frame replaces none
pub none_replaced : (f : FrameRun) (fs : List FrameRun) → contains (map (λ (g : FrameRun). g.tree) fs) f.tree ≡ false → map (replaced f) fs ≡ fs
none_replaced f [] n = refl
none_replaced f (g ∷ fs) n = go (g.tree == f.tree) n (λ m. none_replaced f fs m)
  where
    go : (b : Bool) → (b || contains (map (λ (x : FrameRun). x.tree) fs) f.tree) ≡ false → (contains (map (λ (x : FrameRun). x.tree) fs) f.tree ≡ false → map (replaced f) fs ≡ fs)
        → (if b then f else g) ∷ map (replaced f) fs ≡ g ∷ fs
    go true m ih = absurd (true≢false m)
    go false m ih = ap (λ l. g ∷ l) (ih m)

-- a frame's tree is one of the list's
pub there_at : (fs : List FrameRun) (i : ℕ) (g : FrameRun) → slice_get fs i ≡ Some g → contains (map (λ (x : FrameRun). x.tree) fs) g.tree ≡ true
there_at [] i g h = absurd (cc)
there_at (x ∷ fs) zero g h =
    subst (λ (y : FrameRun). (y.tree == g.tree || contains (map (λ (z : FrameRun). z.tree) fs) g.tree) ≡ true) (sym (some_same x g h)) (ap (λ b. b || contains (map (λ (z : FrameRun). z.tree) fs) g.tree) (same_number g.tree))
there_at (x ∷ fs) (suc i) g h = go (x.tree == g.tree) (there_at fs i g h)
  where
    go : (b : Bool) → contains (map (λ (z : FrameRun). z.tree) fs) g.tree ≡ true → (b || contains (map (λ (z : FrameRun). z.tree) fs) g.tree) ≡ true
    go true k = refl
    go false k = k

-- where no tree stands twice, the frame at a place is replaced by one of its tree
pub put_at : (fs : List FrameRun) (i : ℕ) (f g : FrameRun) → NoneTwice (map (λ (x : FrameRun). x.tree) fs) → slice_get fs i ≡ Some g → g.tree ≡ f.tree → map (replaced f) fs ≡ slice_set fs i f
put_at [] i f g n h e = absurd (cc)
put_at (x ∷ fs) zero f g n h e =
    let same : x.tree ≡ f.tree = ap (λ (y : FrameRun). y.tree) (some_same x g h) ∙ e in
    let is : (x.tree == f.tree) ≡ true = ap (λ t. x.tree == t) (sym same) ∙ same_number x.tree in
    let away : contains (map (λ (y : FrameRun). y.tree) fs) f.tree ≡ false = ap (contains (map (λ (y : FrameRun). y.tree) fs)) (sym same) ∙ n.0 in
    ap (λ b. (if b then f else x) ∷ map (replaced f) fs) is ∙ ap (λ l. f ∷ l) (none_replaced f fs away)
put_at (x ∷ fs) (suc i) f g n h e = go (x.tree == f.tree) refl (put_at fs i f g n.1 h e)
  where
    go : (b : Bool) → (x.tree == f.tree) ≡ b → map (replaced f) fs ≡ slice_set fs i f → (if b then f else x) ∷ map (replaced f) fs ≡ x ∷ slice_set fs i f
    go true k ih = absurd (true≢false (sym (there_at fs i g h) ∙ ap (contains (map (λ (y : FrameRun). y.tree) fs)) (e ∙ sym (eqb-true x.tree f.tree k)) ∙ n.0))
    go false k ih = ap (λ l. x ∷ l) ih

-- what holds of each frame holds of that at a place
pub short_at : (fs : List FrameRun) (i : ℕ) (f : FrameRun) → All (λ (x : FrameRun). is_short x.tree x.journal ≡ false) fs → slice_get fs i ≡ Some f → is_short f.tree f.journal ≡ false
short_at fs i f all h = all_at (λ (x : FrameRun). is_short x.tree x.journal ≡ false) fs i f all h

-- ---- the place of a tree

pub seat_place : (s : State) (ps : List ℕ) (t i : ℕ) → ps ≡ trees_of s → Some i ≡ place_of ps t → place_of (trees_of s) t ≡ Some i
seat_place s ps t i e p = sym (p ∙ ap (λ l. place_of l t) e)

pub seat_below : (s : State) (ps : List ℕ) (t i : ℕ) → ps ≡ trees_of s → Some i ≡ place_of ps t → i < length s.frames
seat_below s ps t i e p = subst (λ n. i < n) (length-map s.frames (λ (f : FrameRun). f.tree)) (place_below (trees_of s) t i (seat_place s ps t i e p))

pub seat_at : (s : State) (ps : List ℕ) (t i : ℕ) (d : FrameRun) → ps ≡ trees_of s → Some i ≡ place_of ps t → slice_get s.frames i ≡ Some (get_or s.frames i d)
seat_at s ps t i d e p = slice_get-get_or s.frames i d (seat_below s ps t i e p)

pub seat_read : (s : State) (ps : List ℕ) (t i : ℕ) (f : FrameRun) → ps ≡ trees_of s → Some i ≡ place_of ps t → f ≡ get_or s.frames i f → slice_get s.frames i ≡ Some f
seat_read s ps t i f e p r = seat_at s ps t i f e p ∙ ap Some (sym r)

pub leaves_at : (s : State) (i : ℕ) (f : FrameRun) → All (λ (x : FrameRun). HaveLeaves x.left) s.frames → slice_get s.frames i ≡ Some f → HaveLeaves f.left
leaves_at s i f all h = all_at (λ (x : FrameRun). HaveLeaves x.left) s.frames i f all h

-- a tree that no place has
pub no_place : (s : State) (ps : List ℕ) (t : ℕ) → ps ≡ trees_of s → None ≡ place_of ps t → place_of (trees_of s) t ≡ None
no_place s ps t e p = sym (p ∙ ap (λ l. place_of l t) e)
