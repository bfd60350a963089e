-- The dump of the trees of a forest, one after the other, is its dump.
use Rattle.std.proofs.Common.{ℕ, ◌≡◌, Bool, true, false, ◌||◌, ◌==◌, List, [], ◌∷◌, ◌++◌, refl, sym, ap, ap₂, ◌∙◌, subst, true≢false, arith, flat_map, map, Result, Ok, Err, OnOk, IsOk}
use Rattle.std.specs.declared.alloc.AllocError.{AllocError}
use Rattle.ax_base.specs.declared.seq.NoMemory.{NoMemory}
use Rattle.ax_trees.specs.Lists.{contains, NoneTwice}
use Rattle.ax_tree.specs.Forest.{Forest, Standing}
use Rattle.ax_run_rules.specs.Dump.{dump_text, tree_or_gone}
use Rattle.ax_report.specs.Walks.{standing_text, AreTheTrees}

neither : (a b : Bool) → (a || b) ≡ false → (a ≡ false) × (b ≡ false)
neither true b h = absurd (cc)
neither false b h = (refl, h)

other_way : (x y : ℕ) → (x == y) ≡ false → (y == x) ≡ false
other_way x y h = grind arith

self : (x : ℕ) → (x == x) ≡ true
self x = grind arith

-- a tree that isn't the first is one of the others
passed : (s : Standing) (f : Forest) (t : ℕ) → (s.id == t) ≡ false → standing_text (s ∷ f) t ≡ standing_text f t
unfolding standing_text
passed s f t h = rw h refl

all_passed : (s : Standing) (f : Forest) (ts : List ℕ) → contains ts s.id ≡ false → flat_map (standing_text (s ∷ f)) ts ≡ flat_map (standing_text f) ts
all_passed s f [] h = refl
all_passed s f (t ∷ ts) h =
    let p = neither (t == s.id) (contains ts s.id) h in
    ap₂ (λ xs ys. xs ++ ys) (passed s f t (other_way t s.id p.0)) (all_passed s f ts p.1)

first : (s : Standing) (f : Forest) → standing_text (s ∷ f) s.id ≡ tree_or_gone s.id s.tree
unfolding standing_text
first s f = rw (self s.id) refl

in_order : (f : Forest) → NoneTwice (map (λ (s : Standing). s.id) f) → flat_map (standing_text f) (map (λ (s : Standing). s.id) f) ≡ flat_map (λ (s : Standing). tree_or_gone s.id s.tree) f
in_order [] h = refl
in_order (s ∷ f) h =
    ap₂ (λ xs ys. xs ++ ys) (first s f) (all_passed s f (map (λ (s : Standing). s.id) f) h.0 ∙ in_order f h.1)

pub whole_dump : (f : Forest) (ts : List ℕ) → AreTheTrees f ts → flat_map (standing_text f) ts ≡ dump_text f
unfolding dump_text
whole_dump f ts a =
    ap (flat_map (standing_text f)) a.all ∙ in_order f (subst (λ is. NoneTwice is) a.all a.once)

-- the same after a call that went well
pub whole_ok : (f : Forest) (ts : List ℕ) (done : Result (Unit {0}) AllocError) (r : Result (Unit {0}) NoMemory) (a b c : List ℕ)
    → OnOk done (b ≡ a ++ flat_map (standing_text f) ts) → OnOk r (IsOk done × (c ≡ b)) → OnOk r (AreTheTrees f ts → c ≡ a ++ dump_text f)
whole_ok f ts done (Err e) a b c h k = tt
whole_ok f ts (Ok u) (Ok v) a b c h k = λ are. k.1 ∙ (h ∙ ap (λ xs. a ++ xs) (whole_dump f ts are))
whole_ok f ts (Err e) (Ok v) a b c h k = absurd (true≢false (sym k.0))
