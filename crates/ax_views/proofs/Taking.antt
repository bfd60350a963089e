-- A map from which the first listed ids were taken out.
use Rattle.std.proofs.Common.{ℕ, ◌+◌, ◌<◌, ◌≡◌, Bool, cond, ◌||◌, true, false, eqb, List, [], ◌∷◌, ◌++◌, length, take, get_or, Option, None, refl, sym, ap, ◌∙◌}
use Rattle.std.proofs.lemmas.List.{take_more}
use Rattle.ax_trees.specs.Lists.{contains}
use Rattle.ax_trees.proofs.Lists.{contains-push}

pub one_more_out : {E : Type 0} (gone : List ℕ) (i id z : ℕ) (first before after : Option E) → i < length gone → id ≡ get_or gone i id
    → before ≡ cond (contains (take i gone) z) None first → after ≡ cond (eqb id z) None before → after ≡ cond (contains (take (i + 1) gone) z) None first
one_more_out gone i id z first before after h e b a =
    let more : contains (take (i + 1) gone) z ≡ (contains (take i gone) z || eqb id z) =
    ap (λ js. contains js z) (take_more gone i id h ∙ ap (λ y. take i gone ++ y ∷ []) (sym e)) ∙ contains-push (take i gone) id z in
    a ∙ (ap (λ o. cond (eqb id z) None o) b ∙ (either (contains (take i gone) z) (eqb id z) ∙ sym (ap (λ t. cond t None first) more)))
  where
    either : (s t : Bool) → cond t None (cond s None first) ≡ cond (s || t) None first
    either true true = refl
    either true false = refl
    either false true = refl
    either false false = refl
