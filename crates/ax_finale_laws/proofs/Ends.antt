-- Runs that are there, and frames that are found in them. Belongs beside Quiet and Found in ax_run_laws.
use Rattle.std.proofs.Common.{ℕ, ◌≡◌, ◌==◌, Bool, true, false, ◌||◌, if◌then◌else◌, List, [], ◌∷◌, map, find, refl, sym, ap, ◌∙◌, subst, Option, Some, None, option_and_then, is_some, true≢false, arith}
use Rattle.ax_trees.specs.Lists.{contains, NoneTwice}
use Rattle.ax_run_rules.specs.States.{FrameRun, Run}
use Rattle.ax_run_laws.proofs.Found.{of_tree, replaced, other_in, same_in, same_number}
use Rattle.ax_run_laws.proofs.Quiet.{AllRun}

-- there is a run, and P holds of it
abbrev pub Ends : (Run → Type 0) → Option Run → Type 0
Ends P None = ⊥
Ends P (Some r) = P r

abbrev pub AnyRun : Run → Type 0
AnyRun r = Unit {0}

pub onward : (P Q : Run → Type 0) (g : Run → Option Run) → ((r : Run) → P r → Ends Q (g r)) → (o : Option Run) → Ends P o → Ends Q (option_and_then g o)
onward P Q g h None p = absurd p
onward P Q g h (Some r) p = h r p

-- with what holds of each run that is there
pub joined : (P K Q : Run → Type 0) → ((r : Run) → P r → K r → Q r) → (o : Option Run) → Ends P o → AllRun K o → Ends Q o
joined P K Q h None p k = absurd p
joined P K Q h (Some r) p k = h r p k

pub is_there : (P : Run → Type 0) (o : Option Run) → Ends P o → is_some o ≡ true
is_there P None p = absurd p
is_there P (Some r) p = refl

pub at_run : (P : Run → Type 0) (o : Option Run) (r : Run) → o ≡ Some r → Ends P (Some r) → Ends P o
at_run P o r e p = subst (λ q. Ends P q) (sym e) p

-- ---- frames

abbrev pub tree_at : FrameRun → ℕ
tree_at f = f.tree

-- the replacing frame is found in its place
pub swapped : (u : ℕ) (x g : FrameRun) (fs : List FrameRun) → find (of_tree u) fs ≡ Some g → x.tree ≡ u → find (of_tree u) (map (replaced x) fs) ≡ Some x
swapped u x g fs h e = subst (λ v. find (of_tree v) fs ≡ Some g → find (of_tree v) (map (replaced x) fs) ≡ Some x) e (λ k. same_in x g fs k) h

pub others_stay : (u t : ℕ) (x : FrameRun) (fs : List FrameRun) → x.tree ≡ u → (u == t) ≡ false → find (of_tree t) (map (replaced x) fs) ≡ find (of_tree t) fs
others_stay u t x fs e n = other_in x t fs (ap (λ v. v == t) e ∙ n)

-- each of the frames is found by its tree
abbrev pub Firsts : List FrameRun → List FrameRun → Type 0
Firsts all [] = Unit {0}
Firsts all (f ∷ fs) = (find (of_tree f.tree) all ≡ Some f) × Firsts all fs

pub other_way : (a b : ℕ) → (a == b) ≡ false → (b == a) ≡ false
other_way a b h = grind (arith, h)

not_first : (x : FrameRun) (all fs : List FrameRun) → contains (map tree_at fs) x.tree ≡ false → Firsts all fs → Firsts (x ∷ all) fs
not_first x all [] n h = tt
not_first x all (f ∷ fs) n h = go (f.tree == x.tree) refl n (λ m. not_first x all fs m h.1)
  where
    go : (b : Bool) → (f.tree == x.tree) ≡ b → (b || contains (map tree_at fs) x.tree) ≡ false → (contains (map tree_at fs) x.tree ≡ false → Firsts (x ∷ all) fs) → Firsts (x ∷ all) (f ∷ fs)
    go true e m ih = absurd (true≢false m)
    go false e m ih = (ap (λ c. if c then Some x else find (of_tree f.tree) all) (other_way f.tree x.tree e) ∙ h.0, ih m)

-- where no tree stands twice
pub each_first : (fs : List FrameRun) → NoneTwice (map tree_at fs) → Firsts fs fs
each_first [] n = tt
each_first (f ∷ fs) n = (ap (λ c. if c then Some f else find (of_tree f.tree) fs) (same_number f.tree), not_first f fs fs n.0 (each_first fs n.1))

-- a tree of the list has a frame there
pub has_frame : (t : ℕ) (fs : List FrameRun) → contains (map tree_at fs) t ≡ true → (f : FrameRun) × (find (of_tree t) fs ≡ Some f)
has_frame t [] h = absurd (true≢false (sym h))
has_frame t (g ∷ fs) h = go (g.tree == t) (λ k. has_frame t fs k) h
  where
    go : (b : Bool) → (contains (map tree_at fs) t ≡ true → (f : FrameRun) × (find (of_tree t) fs ≡ Some f))
        → (b || contains (map tree_at fs) t) ≡ true → (f : FrameRun) × ((if b then Some g else find (of_tree t) fs) ≡ Some f)
    go true ih k = (g, refl)
    go false ih k = ih k
