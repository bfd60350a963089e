-- Frames found by their trees in a list, before and after one of them is replaced.
use Rattle.std.proofs.Common.{ℕ, ◌≡◌, ◌==◌, Bool, true, false, if◌then◌else◌, List, [], ◌∷◌, map, find, sym, refl, ap, ◌∙◌, subst, Some, arith}
use Rattle.std.proofs.lemmas.Bool.{eqb-true}
use Rattle.ax_run_rules.specs.States.{FrameRun}

abbrev pub of_tree : ℕ → FrameRun → Bool
of_tree t f = f.tree == t

abbrev pub replaced : FrameRun → FrameRun → FrameRun
replaced f g = if g.tree == f.tree then f else g

pub some_same : {A : Type 0} (a b : A) → Some a ≡ Some b → a ≡ b
some_same a b h = cc

-- what is found has the tree
pub found_in : (t : ℕ) (fs : List FrameRun) (f : FrameRun) → find (of_tree t) fs ≡ Some f → f.tree ≡ t
found_in t [] f h = absurd (cc)
found_in t (g ∷ fs) f h = go (g.tree == t) refl (λ k. found_in t fs f k) h
  where
    go : (b : Bool) → (g.tree == t) ≡ b → (find (of_tree t) fs ≡ Some f → f.tree ≡ t) → (if b then Some g else find (of_tree t) fs) ≡ Some f → f.tree ≡ t
    go true e ih k = ap (λ (x : FrameRun). x.tree) (sym (some_same g f k)) ∙ eqb-true g.tree t e
    go false e ih k = ih k

-- another tree's frame is found as before
pub other_in : (f : FrameRun) (t : ℕ) (fs : List FrameRun) → (f.tree == t) ≡ false → find (of_tree t) (map (replaced f) fs) ≡ find (of_tree t) fs
other_in f t [] n = refl
other_in f t (g ∷ fs) n = go (g.tree == f.tree) refl (other_in f t fs n)
  where
    go : (b : Bool) → (g.tree == f.tree) ≡ b → find (of_tree t) (map (replaced f) fs) ≡ find (of_tree t) fs
        → (if (if b then f else g).tree == t then Some (if b then f else g) else find (of_tree t) (map (replaced f) fs)) ≡ (if g.tree == t then Some g else find (of_tree t) fs)
    go true e ih = let m : (g.tree == t) ≡ false = ap (λ z. z == t) (eqb-true g.tree f.tree e) ∙ n in rw (n, m) ih
    go false e ih = ap (λ o. if g.tree == t then Some g else o) ih

pub same_number : (t : ℕ) → (t == t) ≡ true
same_number t = grind arith

-- and the replaced frame is found where there was one
pub same_in : (f g : FrameRun) (fs : List FrameRun) → find (of_tree f.tree) fs ≡ Some g → find (of_tree f.tree) (map (replaced f) fs) ≡ Some f
same_in f g [] h = absurd (cc)
same_in f g (x ∷ fs) h = go (x.tree == f.tree) refl (λ k. same_in f g fs k) h
  where
    go : (b : Bool) → (x.tree == f.tree) ≡ b → (find (of_tree f.tree) fs ≡ Some g → find (of_tree f.tree) (map (replaced f) fs) ≡ Some f)
        → (if b then Some x else find (of_tree f.tree) fs) ≡ Some g
        → (if (if b then f else x).tree == f.tree then Some (if b then f else x) else find (of_tree f.tree) (map (replaced f) fs)) ≡ Some f
    go true e ih k = ap (λ b. if b then Some f else find (of_tree f.tree) (map (replaced f) fs)) (same_number f.tree)
    go false e ih k = rw e (ih k)

-- what holds of the new frame, and of the other trees' frames, holds of all that are found
pub each_found : (P : ℕ → FrameRun → Type 0) (f g : FrameRun) (fs : List FrameRun) → find (of_tree f.tree) fs ≡ Some g → P f.tree f
    → ((t : ℕ) (x : FrameRun) → (f.tree == t) ≡ false → find (of_tree t) fs ≡ Some x → P t x) → (t : ℕ) (x : FrameRun) → find (of_tree t) (map (replaced f) fs) ≡ Some x → P t x
each_found P f g fs found new others t x h = go (f.tree == t) refl
  where
    go : (b : Bool) → (f.tree == t) ≡ b → P t x
    go true e =
        subst (λ u. (y : FrameRun) → find (of_tree u) (map (replaced f) fs) ≡ Some y → P u y) (eqb-true f.tree t e)
        (λ y w. subst (λ z. P f.tree z) (some_same f y (sym (same_in f g fs found) ∙ w)) new) x h
    go false e = others t x e (sym (other_in f t fs e) ∙ h)
