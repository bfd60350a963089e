-- How far pieces of work have come, and what is left of them.
use Rattle.std.proofs.Common.{inl, inr, Bool, true, false, List, [], ◌∷◌, ◌++◌, refl, sym, subst}
use Rattle.ax_run_rules.specs.States.{Run}
use Rattle.ax_core.specs.Finishing.{NoWork, Then, ForEach}

-- the piece P, begun at the run r, has come to the run m, and goes on with R
pub record Leaves (P R : Bool → Run → Run → Type 0) (r m : Run) : Type 0 where
  pub on : (b : Bool) (e : Run) → R b m e → P b r e

pub begun : (P : Bool → Run → Run → Type 0) (r : Run) → Leaves P P r r
begun P r = record { on = λ b e x. x }

pub ended : (P : Bool → Run → Run → Type 0) (r m : Run) → Leaves P NoWork r m → P true r m
ended P r m l = l.on true m refl

pub onward : (P Q R : Bool → Run → Run → Type 0) (r m n : Run) → Leaves P (Then Q R) r m → Q true m n → Leaves P R r n
onward P Q R r m n l q = record { on = go }
  where
    go : (b : Bool) (e : Run) → R b n e → P b r e
    go true e x = l.on true e (n, (q, x))
    go false e x = l.on false e (inr (n, (q, x)))

pub halted : (P Q R : Bool → Run → Run → Type 0) (r m e : Run) → Leaves P (Then Q R) r m → Q false m e → P false r e
halted P Q R r m e l q = l.on false e (inl q)

-- a front of a list of pieces
pub each_onward : {A : Type 0} (W : A → Bool → Run → Run → Type 0) (P : Bool → Run → Run → Type 0) (r : Run) (xs ys : List A) (m n : Run) → Leaves P (ForEach W (xs ++ ys)) r m → ForEach W xs true m n
    → Leaves P (ForEach W ys) r n
each_onward W P r [] ys m n l q = subst (λ k. Leaves P (ForEach W ys) r k) (sym q) l
each_onward W P r (x ∷ xs) ys m n l q = each_onward W P r xs ys q.0 n (onward P (W x) (ForEach W (xs ++ ys)) r m q.0 l q.1.0) q.1.1

pub each_halted : {A : Type 0} (W : A → Bool → Run → Run → Type 0) (P : Bool → Run → Run → Type 0) (r : Run) (xs ys : List A) (m e : Run) → Leaves P (ForEach W (xs ++ ys)) r m → ForEach W xs false m e
    → P false r e
each_halted W P r [] ys m e l q = absurd q
each_halted W P r (x ∷ xs) ys m e l (inl q) = halted P (W x) (ForEach W (xs ++ ys)) r m e l q
each_halted W P r (x ∷ xs) ys m e l (inr q) = each_halted W P r xs ys q.0 e (onward P (W x) (ForEach W (xs ++ ys)) r m q.0 l q.1.0) q.1.1
