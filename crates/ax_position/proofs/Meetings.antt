-- Which of two places stands first, by a walk.
use Rattle.std.proofs.Common.{ℕ, suc, ◌+◌, ◌<◌, ◌≡◌, Bool, true, false, List, [], ◌∷◌, length, Option, Some, None, is_some, refl, sym, ap, ap₂, ◌∙◌, arith}
use Rattle.std.specs.declared.cmp.Ordering.{Ordering}
use Rattle.std.specs.declared.cmp.Ordering.TheVariants.{Less, Greater}
use Rattle.std.proofs.lemmas.Bool.{false≢true, lt-ltb, le-ltb}
use Rattle.ax_base.specs.declared.position.Place.{Place}
use Rattle.ax_trees.proofs.Trees.{by_go}
use Rattle.ax_rules.specs.Sequences.{until}
use Rattle.ax_rules.specs.Looks.{same_place}
use Rattle.ax_rules.specs.Stitched.{Placed, stands_at, before, is_leaf, is_within}
use Rattle.ax_rules.specs.Positions.{by_number}
use Rattle.ax_stitch.proofs.Places.{same_is}
use Rattle.ax_position.specs.Walks.{row, rows, folded, IsSettled}
use Rattle.ax_position.specs.declared.ranks.Meeting.{Meeting}
use Rattle.ax_position.specs.Ranks.{first_met, met_now, met_first, by_first}
use Rattle.ax_position.proofs.StartLemmas.{rows_by}

less_is : (a b : ℕ) (o : Ordering) → a < b → by_number a b o ≡ Less
less_is a b o h = let e = lt-ltb a b h in rw e refl

greater_is : (a b : ℕ) (o : Ordering) → b < a → by_number a b o ≡ Greater
greater_is a b o h = let e = le-ltb a b (omega (arith, h)) in let n = lt-ltb b a h in rw (e, n) refl

same_number : (a b : ℕ) (o : Ordering) → a ≡ b → by_number a b o ≡ o
same_number a b o h = let e = le-ltb a b (omega (arith, h)) in let n = le-ltb b a (omega (arith, h)) in rw (e, n) refl

known : (leaf within : Placed → Bool) (l : List Placed) (s : Meeting) (b : Bool) → s.first ≡ Some b → (folded met_first s (rows_by leaf within l)).first ≡ Some b
known leaf within [] s b h = h
known leaf within (x ∷ l) s b h = known leaf within l (met_first s (row x.place x.look (leaf x) (within x))) b (ap (λ o. first_met o (met_now x.place s.one s.other)) h)

meets : (leaf within : Placed → Bool) (l : List Placed) (s : Meeting) (p q : Place) (k : ℕ) (same : Ordering) → s.first ≡ None → s.one ≡ p → s.other ≡ q → same_place p q ≡ false
    → by_number (k + length (until (stands_at p) l)) (k + length (until (stands_at q) l)) same ≡ by_first (folded met_first s (rows_by leaf within l)).first same
meets leaf within [] s p q k same h e g n = same_number (k + 0) (k + 0) same refl ∙ ap (λ o. by_first o same) (sym h)
meets leaf within (x ∷ l) s p q k same h e g n =
    let next = met_first s (row x.place x.look (leaf x) (within x)) in
    let first : next.first ≡ met_now x.place p q = ap (λ o. first_met o (met_now x.place s.one s.other)) h ∙ (ap (λ v. met_now x.place v s.other) e ∙ ap (met_now x.place p) g) in
    by_go (same_place x.place p)
    (λ a. let b : same_place x.place q ≡ false = ap (λ v. same_place v q) (same_is x.place p a) ∙ n in
    let f : next.first ≡ Some true = first ∙ (rw a refl) in
    let z = known leaf within l next true f in
    rw (a, b, z) (less_is (k + 0) (k + suc (length (until (stands_at q) l))) same (omega arith)))
    (λ a. by_go (same_place x.place q)
    (λ b. let f : next.first ≡ Some false = first ∙ (rw (a, b) refl) in
    let z = known leaf within l next false f in
    rw (a, b, z) (greater_is (k + suc (length (until (stands_at p) l))) (k + 0) same (omega arith)))
    (λ b. let f : next.first ≡ None = first ∙ (rw (a, b) refl) in
    let rest = meets leaf within l next p q (suc k) same f e g n in
    let one : k + suc (length (until (stands_at p) l)) ≡ suc k + length (until (stands_at p) l) = omega arith in
    let two : k + suc (length (until (stands_at q) l)) ≡ suc k + length (until (stands_at q) l) = omega arith in
    rw (a, b) (ap₂ (λ u v. by_number u v same) one two ∙ rest)))

pub other_places : (l : List Placed) (p q : Place) (s : Meeting) (same r : Ordering) → s ≡ folded met_first (record { one = p; other = q; first = None }) (rows l p) → same_place p q ≡ false → r ≡ by_first s.first same
    → r ≡ by_number (length (before l p)) (length (before l q)) same
unfolding rows before
other_places l p q s same r e n h =
    h ∙ (ap (λ (v : Meeting). by_first v.first same) e
    ∙ (sym (meets (is_leaf l) (is_within p) l (record { one = p; other = q; first = None }) p q 0 same refl refl refl n)
    ∙ ap₂ (λ u v. by_number u v same) (zero_is (length (until (stands_at p) l))) (zero_is (length (until (stands_at q) l)))))
  where
    zero_is : (n : ℕ) → 0 + n ≡ n
    zero_is n = omega arith

pub one_place : (l : List Placed) (p q : Place) (same : Ordering) → same_place p q ≡ true → same ≡ by_number (length (before l p)) (length (before l q)) same
one_place l p q same h = sym (same_number (length (before l p)) (length (before l q)) same (ap (λ v. length (before l v)) (same_is p q h)))

pub meeting_settled : (s : Meeting) → is_some s.first ≡ true → IsSettled met_first s
meeting_settled s h = record { stays = λ r z. record { one = s.one; other = s.other; first = stays s.first (met_now r.place s.one s.other) h z } }
  where
    stays : (o n : Option Bool) → is_some o ≡ true → first_met o n ≡ o
    stays None n e = absurd (false≢true e)
    stays (Some b) n e = refl
