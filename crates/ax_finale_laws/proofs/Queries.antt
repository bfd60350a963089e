-- The queries that are left of the readers are there in their turn.
use Rattle.std.proofs.Common.{ℕ, suc, ◌+◌, ◌≡◌, List, [], ◌∷◌, ◌++◌, length, flat_map, replicate, slice_get, slice_set, refl, sym, ap, ◌∙◌, subst, Some, option_and_then, append_assoc, arith}
use Rattle.std.specs.List.{enumerate_from}
use Rattle.ax_ask.specs.declared.op.Item.{Item}
use Rattle.ax_ask.specs.declared.op.Item.TheVariants as items
use Rattle.ax_ask.specs.declared.query.TimedQuery.{TimedQuery}
use Rattle.ax_run_rules.specs.States.{Run}
use Rattle.ax_run_rules.specs.Steps.{do_query, do_next_query, step, run}
use Rattle.ax_run_rules.specs.Finale.{queries_left}
use Rattle.ax_finale_laws.proofs.Ends.{Ends, AnyRun, onward}

get_between : {A : Type 0} (front : List A) (x : A) (back : List A) → slice_get (front ++ x ∷ back) (length front) ≡ Some x
get_between [] x back = refl
get_between (y ∷ front) x back = get_between front x back

set_between : {A : Type 0} (front : List A) (x y : A) (back : List A) → slice_set (front ++ x ∷ back) (length front) y ≡ front ++ y ∷ back
set_between [] x y back = refl
set_between (z ∷ front) x y back = ap (λ l. z ∷ l) (set_between front x y back)

longer : {A : Type 0} (front : List A) (x : A) → length (front ++ x ∷ []) ≡ suc (length front)
longer [] x = refl
longer (y ∷ front) x = ap suc (longer front x)

record Asking (readers : List (List TimedQuery)) (r : Run) : Type 0 where
  at : r.state.readers ≡ readers

asked : (front back : List (List TimedQuery)) (q : TimedQuery) (qs : List TimedQuery) (r : Run) → Asking (front ++ (q ∷ qs) ∷ back) r → Ends (Asking (front ++ qs ∷ back)) (do_next_query r (length front) (q ∷ qs))
unfolding do_query
asked front back q qs r a = record { at = ap (λ l. slice_set l (length front) qs) a.at ∙ set_between front (q ∷ qs) qs back }

query_there : (front back : List (List TimedQuery)) (q : TimedQuery) (qs : List TimedQuery) (r : Run) → Asking (front ++ (q ∷ qs) ∷ back) r
    → Ends (Asking (front ++ qs ∷ back)) (step r (items.Reader (suc (length front))))
unfolding step
query_there front back q qs r a =
    subst (λ o. Ends (Asking (front ++ qs ∷ back)) (option_and_then (do_next_query r (length front)) o)) (sym (ap (λ l. slice_get l (length front)) a.at ∙ get_between front (q ∷ qs) back))
    (asked front back q qs r a)

many : (qs : List TimedQuery) (m : ℕ) (rest : List Item) (front back : List (List TimedQuery)) (r : Run) → suc (length front) ≡ m → Asking (front ++ qs ∷ back) r
    → ((q : Run) → Asking (front ++ [] ∷ back) q → Ends AnyRun (run rest q)) → Ends AnyRun (run (replicate (length qs) (items.Reader m) ++ rest) r)
many [] m rest front back r e a k = k r a
many (x ∷ qs) m rest front back r e a k =
    onward (Asking (front ++ qs ∷ back)) AnyRun (run (replicate (length qs) (items.Reader m) ++ rest)) (λ q y. many qs m rest front back q e y k) (step r (items.Reader m))
    (subst (λ n. Ends (Asking (front ++ qs ∷ back)) (step r (items.Reader n))) e (query_there front back x qs r a))

abbrev turns_of : ℕ × List TimedQuery → List Item
turns_of r = replicate (length r.1) (items.Reader r.0)

all_there : (back : List (List TimedQuery)) (m : ℕ) (front : List (List TimedQuery)) (r : Run) → suc (length front) ≡ m → Asking (front ++ back) r → Ends AnyRun (run (flat_map turns_of (enumerate_from m back)) r)
all_there [] m front r e a = tt
all_there (qs ∷ back) m front r e a =
    many qs m (flat_map turns_of (enumerate_from (m + 1) back)) front back r e a
    (λ q y. all_there back (m + 1) (front ++ [] ∷ []) q (let l = longer front [] in omega (arith, l, e)) (record { at = y.at ∙ sym (append_assoc front ([] ∷ []) back) }))

pub queries_there : (r : Run) → Ends AnyRun (run (queries_left r.state) r)
unfolding queries_left
queries_there r = all_there r.state.readers 1 [] r refl (record { at = refl })
