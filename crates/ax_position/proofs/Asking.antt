-- The mark of a position whose place was surveyed, and the marks of two.
use Rattle.std.proofs.Common.{ℕ, ◌≤◌, ◌<◌, ◌≡◌, inl, inr, true, min, List, Option, Some, None, sym, ap, ap₂, ◌∙◌, subst, arith}
use Rattle.std.specs.Prelude.{Result, Ok, Err}
use Rattle.ax_base.specs.declared.position.Place.{Place}
use Rattle.ax_base.specs.declared.position.Affinity.{Affinity}
use Rattle.ax_base.specs.declared.position.Affinity.TheVariants.{Down}
use Rattle.ax_base.specs.declared.position.Pos.{Pos}
use Rattle.ax_base.specs.declared.position.Pos.TheVariants.{Tree, Text}
use Rattle.ax_base.specs.declared.position.PosErr.{PosErr}
use Rattle.ax_base.specs.declared.position.PosErr.TheVariants.{BadIndex, BadOffset, NoMemory}
use Rattle.ax_tree.specs.Forest.{Forest, IsSound}
use Rattle.ax_rules.specs.Positions.{Mark, mark, child_mark, text_mark}
use Rattle.ax_rules.specs.Stitched.{Placed, place_at, stitched, has_place, children_of}
use Rattle.ax_rules.specs.Texts.{text_len}
use Rattle.ax_place_laws.proofs.Forms.{child_stands}
use Rattle.ax_position.specs.Walks.{rows, folded}
use Rattle.ax_position.specs.declared.survey.Asked.{Asked}
use Rattle.ax_position.specs.declared.survey.Survey.{Survey}
use Rattle.ax_position.specs.Surveys.{begun_survey, surveyed}
use Rattle.ax_position.specs.Marks.{IsAsked, child_before, mark_there, place_in, two_marks}
use Rattle.ax_position.specs.Ranks.{of_marks}
use Rattle.ax_position.specs.Ranges.{is_text}
use Rattle.ax_position.proofs.Surveys.{IsMeasured, survey_text}
use Rattle.ax_position.proofs.Marking.{text_bad, text_good}
use Rattle.ax_position.proofs.Before.{child_bad, child_good}
use Rattle.ax_position.proofs.Ranged.{refused_text}

-- the survey that is asked for
abbrev pub asked_survey : Forest → Asked → Survey
asked_survey f a = folded surveyed (begun_survey a.place a.above a.end a.limit) (rows (stitched f) a.place)

module _ (f : Forest) (a : Asked) (s : Survey) (w : IsSound f) (h : has_place (stitched f) a.place ≡ true) (e : s ≡ asked_survey f a) where
  child_told : (t z c o : ℕ) → IsAsked (stitched f) (Tree t z c) a → o ≡ min s.len a.limit → ◌≡◌ {A = Result Mark PosErr} (Ok (mark a.place o Down)) (child_mark (stitched f) a.place c)
  child_told t z c o k i = child_good f a.place a.above c a.limit o a.end s w h (sym k.1.0) k.1.1 e i

  pub tree_asked : (p : Pos) (t z c o : ℕ) → p ≡ Tree t z c → IsAsked (stitched f) p a → o ≡ min s.len a.limit → ◌≡◌ {A = Result Mark PosErr} (Ok (mark a.place o Down)) (mark_there (stitched f) p)
  tree_asked p t z c o i k n =
      let j : IsAsked (stitched f) (Tree t z c) a = subst (λ q. IsAsked (stitched f) q a) i k in
      child_told t z c o j n ∙ (ap (λ q. child_mark (stitched f) q c) (sym j.0) ∙ ap (mark_there (stitched f)) (sym i))

  pub tree_within : (p : Pos) (t z c o : ℕ) → p ≡ Tree t z c → IsAsked (stitched f) p a → o ≡ min s.len a.limit → o ≤ text_len (stitched f) a.place
  tree_within p t z c o i k n =
      (child_stands f a.place c (mark a.place o Down) w h (sym (child_told t z c o (subst (λ q. IsAsked (stitched f) q a) i k) n))).within

  -- the survey of a whole text
  whole_survey : (o : ℕ) → a.end ≡ None → a.limit ≡ o → s ≡ folded surveyed (begun_survey a.place a.above None o) (rows (stitched f) a.place)
  whole_survey o i j = e ∙ ap₂ (λ v n. folded surveyed (begun_survey a.place a.above v n) (rows (stitched f) a.place)) i j

  pub text_refused : (p : Pos) (t z o : ℕ) (b : Affinity) → p ≡ Text t z o b → IsAsked (stitched f) p a → s.len < o → ◌≡◌ {A = Result Mark PosErr} (Err (BadOffset o s.len)) (mark_there (stitched f) p)
  text_refused p t z o b i k n =
      let j : IsAsked (stitched f) (Text t z o b) a = subst (λ q. IsAsked (stitched f) q a) i k in
      text_bad f a.place a.above o b s w h (whole_survey o j.1.0 j.1.1) n ∙ (ap (λ q. text_mark (stitched f) q o b) (sym j.0) ∙ ap (mark_there (stitched f)) (sym i))

  pub text_asked : (p : Pos) (t z o : ℕ) (b : Affinity) → p ≡ Text t z o b → IsAsked (stitched f) p a → o ≤ s.len → ◌≡◌ {A = Result Mark PosErr} (Ok (mark a.place o b)) (mark_there (stitched f) p)
  text_asked p t z o b i k n =
      let j : IsAsked (stitched f) (Text t z o b) a = subst (λ q. IsAsked (stitched f) q a) i k in
      text_good f a.place a.above o b s w h (whole_survey o j.1.0 j.1.1) n ∙ (ap (λ q. text_mark (stitched f) q o b) (sym j.0) ∙ ap (mark_there (stitched f)) (sym i))

  pub text_within : (p : Pos) (t z o : ℕ) (b : Affinity) → p ≡ Text t z o b → IsAsked (stitched f) p a → o ≤ s.len → o ≤ text_len (stitched f) a.place
  text_within p t z o b i k n =
      let j : IsAsked (stitched f) (Text t z o b) a = subst (λ q. IsAsked (stitched f) q a) i k in
      go (survey_text f a.place a.above o s w h (whole_survey o j.1.0 j.1.1))
    where
      go : IsMeasured o (text_len (stitched f) a.place) s.len → o ≤ text_len (stitched f) a.place
      go (inl m) = omega (arith, n, m)
      go (inr m) = let x = m.0 in let y = m.1 in omega (arith, x, y)

-- an index past the last child
pub index_refused : (l : List Placed) (p : Pos) (t z c n : ℕ) (q : Place) → p ≡ Tree t z c → place_in p ≡ Some q → Err n ≡ child_before (children_of l q) c → mark_there l p ≡ Err (BadIndex c n)
index_refused l p t z c n q e i h =
    let both : ◌≡◌ {A = Option Place} (Some (place_at t z)) (Some q) = sym (ap place_in e) ∙ i in
    let at : place_at t z ≡ q = cc in
    ap (mark_there l) e ∙ (ap (λ v. child_mark l v c) at ∙ sym (child_bad l q c n h))

-- ---- two marks

pub both_told : {A : Type 0} (answer : Mark → Mark → A) (r n : Result Mark PosErr) (m k : Mark) → ◌≡◌ {A = Result (Mark × Mark) PosErr} (Ok (m, k)) (of_marks two_marks r n)
    → ◌≡◌ {A = Result A PosErr} (Ok (answer m k)) (of_marks answer r n)
both_told answer (Ok a) (Ok b) m k h = let same : ◌≡◌ {A = Mark × Mark} (m, k) (a, b) = cc in ap (λ (v : Mark × Mark). Ok (answer v.0 v.1)) same
both_told answer (Ok a) (Err e) m k h = absurd (cc)
both_told answer (Err e) n m k h = absurd (cc)

pub both_refused : {A : Type 0} (answer : Mark → Mark → A) (r n : Result Mark PosErr) (e : PosErr) → ◌≡◌ {A = Result (Mark × Mark) PosErr} (Err e) (of_marks two_marks r n)
    → ◌≡◌ {A = Result A PosErr} (Err e) (of_marks answer r n)
both_refused answer (Ok a) (Ok b) e h = absurd (cc)
both_refused answer (Ok a) (Err x) e h = let same : e ≡ x = cc in ap (λ v. Err v) same
both_refused answer (Err x) n e h = let same : e ≡ x = cc in ap (λ v. Err v) same

-- ---- the text between two

pub text_unsaid : (answer : Mark → Mark → List ℕ) (r n : Result Mark PosErr) (e : PosErr) → ◌≡◌ {A = Result (Mark × Mark) PosErr} (Err e) (of_marks two_marks r n) → is_text (Err e) (of_marks answer r n)
text_unsaid answer r n e h = subst (is_text (Err e)) (both_refused answer r n e h) (refused_text e)

pub text_told : (answer : Mark → Mark → List ℕ) (r n : Result Mark PosErr) (m k : Mark) (t : List ℕ) → ◌≡◌ {A = Result (Mark × Mark) PosErr} (Ok (m, k)) (of_marks two_marks r n) → t ≡ answer m k → is_text (Ok t) (of_marks answer r n)
text_told answer r n m k t h e = sym (both_told answer r n m k h) ∙ ap (λ v. Ok v) (sym e)

pub text_wanted : (answer : Mark → Mark → List ℕ) (r n : Result Mark PosErr) (m k : Mark) → ◌≡◌ {A = Result (Mark × Mark) PosErr} (Ok (m, k)) (of_marks two_marks r n) → is_text (Err NoMemory) (of_marks answer r n)
text_wanted answer r n m k h = subst (is_text (Err NoMemory)) (both_told answer r n m k h) tt
