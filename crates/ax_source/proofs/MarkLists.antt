-- Marks that are added and taken back.
use Rattle.std.proofs.Common.{ℕ, ◌≡◌, Bool, true, false, cond, not, ◌||◌, eqb, List, [], ◌∷◌, ◌++◌, take, get_or, length, ◌<◌, ◌+◌, refl, sym, ap, subst, ◌∙◌, arith}
use Rattle.std.proofs.lemmas.List.{take_more}
use Rattle.std.proofs.lemmas.Bool.Decides.{eqb_tells}
use Rattle.ax_marks.specs.MarkList.{has as is_mark, added, without, are_distinct}
use Rattle.ax_trees.specs.Lists.{contains, NoneTwice}
use Rattle.ax_trees.proofs.Trees.{by_go}
use Rattle.ax_trees.proofs.Lists.{contains-push}
use Rattle.ax_tree.specs.MarkRule.{add_mark, add_marks}
use Rattle.ax_source.specs.Marking.{taken_back, less}

pub mark-contains : (m : List ℕ) (z : ℕ) → is_mark m z ≡ contains m z
mark-contains [] z = refl
mark-contains (x ∷ m) z = ap (λ b. eqb x z || b) (mark-contains m z)

pub added-mark : (m : List ℕ) (z : ℕ) → added m z ≡ add_mark m z
added-mark m z = ap (λ b. cond b m (m ++ z ∷ [])) (mark-contains m z)

-- marks that are distinct stand once each
distinct_once : (m : List ℕ) → are_distinct m ≡ true → NoneTwice m
distinct_once [] h = tt
distinct_once (x ∷ m) h = by_go (is_mark m x)
    (λ q. absurd (let n : false ≡ true = (rw q at h) in cc))
    (λ q. (sym (mark-contains m x) ∙ q, distinct_once m (rw q at h)))

pub none_twice : (s m : List ℕ) → m ≡ s → are_distinct m ≡ true → NoneTwice s
none_twice s m e h = subst NoneTwice e (distinct_once m h)

-- ---- taken back one by one

without_absent : (m : List ℕ) (z : ℕ) → contains m z ≡ false → without m z ≡ m
without_absent [] z h = refl
without_absent (x ∷ m) z h =
    let no : eqb x z ≡ false = grind (arith, h) in
    rw no (ap (λ xs. x ∷ xs) (without_absent m z (grind (arith, h))))

without_pushed : (m : List ℕ) (z : ℕ) → contains m z ≡ false → without (m ++ z ∷ []) z ≡ m
without_pushed [] z h = let self : eqb z z ≡ true = grind (arith, eqb_tells z z) in rw self refl
without_pushed (x ∷ m) z h =
    let no : eqb x z ≡ false = grind (arith, h) in
    rw no (ap (λ xs. x ∷ xs) (without_pushed m z (grind (arith, h))))

pub back_again : (m : List ℕ) (z : ℕ) → taken_back (not (is_mark m z)) z (added m z) ≡ m
back_again m z =
    by_go (is_mark m z)
    (λ q. rw q refl)
    (λ q. rw q (without_pushed m z (sym (mark-contains m z) ∙ q)))

-- ---- taken back as a list

less_nothing : (m : List ℕ) → less [] m ≡ m
less_nothing [] = refl
less_nothing (x ∷ m) = ap (λ xs. x ∷ xs) (less_nothing m)

pub less-begin : (gone m : List ℕ) → gone ≡ [] → less gone m ≡ m
less-begin gone m e = ap (λ g. less g m) e ∙ less_nothing m

-- one more id goes
pub less-more : (gone : List ℕ) (z : ℕ) (m : List ℕ) → without (less gone m) z ≡ less (gone ++ z ∷ []) m
less-more gone z [] = refl
less-more gone z (x ∷ m) =
    by_go (contains gone x)
    (λ q. let more : contains (gone ++ z ∷ []) x ≡ true = contains-push gone z x ∙ rw q refl in rw (q, more) (less-more gone z m))
    (λ q. by_go (eqb x z)
    (λ p. let more : contains (gone ++ z ∷ []) x ≡ true = contains-push gone z x ∙ grind (arith, p, eqb_tells x z, eqb_tells z x) in rw (q, more, p) (less-more gone z m))
    (λ p. let more : contains (gone ++ z ∷ []) x ≡ false = contains-push gone z x ∙ grind (arith, p, q, eqb_tells x z, eqb_tells z x) in rw (q, more, p) (ap (λ xs. x ∷ xs) (less-more gone z m))))

-- an id that is noted, and no mark
pub less-noted : (gone : List ℕ) (z : ℕ) (m : List ℕ) → contains m z ≡ false → less (gone ++ z ∷ []) m ≡ less gone m
less-noted gone z [] h = refl
less-noted gone z (x ∷ m) h =
    let no : eqb x z ≡ false = grind (arith, h) in
    let same : contains (gone ++ z ∷ []) x ≡ contains gone x = contains-push gone z x ∙ grind (arith, no, eqb_tells x z, eqb_tells z x) in
    rw (same, less-noted gone z m (grind (arith, h))) refl

-- an id that is noted, and then marked
pub less-marked : (gone : List ℕ) (z : ℕ) (m : List ℕ) → contains m z ≡ false → less (gone ++ z ∷ []) (m ++ z ∷ []) ≡ less gone m
less-marked gone z [] h = let in' : contains (gone ++ z ∷ []) z ≡ true = contains-push gone z z ∙ grind (arith, eqb_tells z z) in rw in' refl
less-marked gone z (x ∷ m) h =
    let no : eqb x z ≡ false = grind (arith, h) in
    let same : contains (gone ++ z ∷ []) x ≡ contains gone x = contains-push gone z x ∙ grind (arith, no, eqb_tells x z, eqb_tells z x) in
    rw (same, less-marked gone z m (grind (arith, h))) refl

-- ---- marks in a row

pub add_marks-more : (m zs : List ℕ) (i z : ℕ) → i < length zs → z ≡ get_or zs i z → add_marks m (take (i + 1) zs) ≡ add_mark (add_marks m (take i zs)) z
add_marks-more m zs i z h e = ap (add_marks m) (take_more zs i z h ∙ ap (λ y. take i zs ++ y ∷ []) (sym e)) ∙ joined m (take i zs)
  where
    joined : (m ys : List ℕ) → add_marks m (ys ++ z ∷ []) ≡ add_mark (add_marks m ys) z
    joined m [] = refl
    joined m (y ∷ ys) = joined (add_mark m y) ys

pub less-step : (zs : List ℕ) (i z : ℕ) (m : List ℕ) → i < length zs → z ≡ get_or zs i z → without (less (take i zs) m) z ≡ less (take (i + 1) zs) m
less-step zs i z m h e = less-more (take i zs) z m ∙ ap (λ ys. less ys m) (sym (take_more zs i z h ∙ ap (λ y. take i zs ++ y ∷ []) (sym e)))

pub added_new : (m : List ℕ) (z : ℕ) → contains m z ≡ false → added m z ≡ m ++ z ∷ []
added_new m z h = ap (λ b. cond b m (m ++ z ∷ [])) (mark-contains m z ∙ h)

pub back_from : (m : List ℕ) (z : ℕ) (new : Bool) (n : List ℕ) → new ≡ not (is_mark m z) → n ≡ added m z → taken_back new z n ≡ m
back_from m z new n a o = ap (λ b. taken_back b z n) a ∙ (ap (taken_back (not (is_mark m z)) z) o ∙ back_again m z)
