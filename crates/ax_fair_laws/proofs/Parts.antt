-- An order is in time by its two parts.
use Rattle.std.proofs.Common.{◌≡◌, Bool, true, false, ◌&&◌, cond, List, [], ◌∷◌, ◌++◌, refl}
use Rattle.ax_ask.specs.declared.op.Item.{Item}
use Rattle.ax_ask.specs.declared.op.Item.TheVariants as items
use Rattle.ax_run_rules.specs.Scripts.{Script}
use Rattle.ax_run_rules.specs.Fair.{may_follow, each_follows}
use Rattle.ax_order_laws.specs.Told.{is_entry}
use Rattle.ax_fair_laws.specs.Laws.{entries_follow, queries_follow}

pub both_parts : (s : Script) (before o : List Item) → entries_follow s before o ≡ true → queries_follow s before o ≡ true → each_follows s before o ≡ true
both_parts s before [] e q = refl
both_parts s before (i ∷ o) e q = one (is_entry i) (may_follow s before i) (entries_follow s (before ++ i ∷ []) o) (queries_follow s (before ++ i ∷ []) o) (both_parts s (before ++ i ∷ []) o) e q
  where
    one : (entry may es qs : Bool) → (es ≡ true → qs ≡ true → each_follows s (before ++ i ∷ []) o ≡ true) → (cond entry may true && es) ≡ true → (cond entry true may && qs) ≡ true → (may && each_follows s (before ++ i ∷ []) o) ≡ true
    one true true true qs rest e q = rest refl q
    one true true false qs rest e q = absurd (cc e)
    one true false es qs rest e q = absurd (cc e)
    one false true es qs rest e q = rest e q
    one false false es qs rest e q = absurd (cc q)
