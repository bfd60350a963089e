-- What is told of the mark of a position.
use Rattle.std.proofs.Common.{ℕ, ◌≤◌, ◌<◌, ◌≡◌, inl, inr, true, false, List, Option, Some, None, refl, sym, ap, ◌∙◌, arith}
use Rattle.std.specs.Prelude.{nat_lt, Result, Ok, Err}
use Rattle.ax_base.specs.declared.position.Place.{Place}
use Rattle.ax_base.specs.declared.position.Affinity.{Affinity}
use Rattle.ax_base.specs.declared.position.Pos.{Pos}
use Rattle.ax_base.specs.declared.position.Pos.TheVariants.{Null, Tree, Text}
use Rattle.ax_base.specs.declared.position.PosErr.{PosErr}
use Rattle.ax_base.specs.declared.position.PosErr.TheVariants.{NoTree, NoNode, BadOffset}
use Rattle.ax_trees.proofs.Trees.{by_go}
use Rattle.ax_tree.specs.Forest.{Forest, IsSound}
use Rattle.ax_rules.specs.Positions.{Mark, mark, text_mark, mark_in, is_live, checked}
use Rattle.ax_rules.specs.Stitched.{Placed, place_at, stitched, has_place}
use Rattle.ax_rules.specs.Texts.{text_len}
use Rattle.ax_position.specs.Walks.{rows, folded}
use Rattle.ax_position.specs.declared.survey.Survey.{Survey}
use Rattle.ax_position.specs.Surveys.{begun_survey, surveyed}
use Rattle.ax_position.specs.Marks.{place_refusal, place_in, mark_there}
use Rattle.ax_position.proofs.Surveys.{IsMeasured, survey_text}

-- ---- an offset of a text, of which so much was counted

pub less_true : (a b : ℕ) → a < b → nat_lt a b ≡ true
less_true a b h = grind (arith, h)

pub less_false : (a b : ℕ) → b ≤ a → nat_lt a b ≡ false
less_false a b h = grind (arith, h)

pub measured_bad : (l : List Placed) (p : Place) (o : ℕ) (a : Affinity) (len : ℕ) → IsMeasured o (text_len l p) len → len < o → ◌≡◌ {A = Result Mark PosErr} (Err (BadOffset o len)) (text_mark l p o a)
unfolding text_mark
measured_bad l p o a len (inl e) h = let b : nat_lt (text_len l p) o ≡ true = less_true (text_len l p) o (omega (arith, e, h)) in rw b (ap (λ n. Err (BadOffset o n)) e)
measured_bad l p o a len (inr m) h = absurd (let n = m.0 in omega (arith, n, h))

pub measured_good : (l : List Placed) (p : Place) (o : ℕ) (a : Affinity) (len : ℕ) → IsMeasured o (text_len l p) len → o ≤ len → ◌≡◌ {A = Result Mark PosErr} (Ok (mark p o a)) (text_mark l p o a)
unfolding text_mark
measured_good l p o a len (inl e) h = let b : nat_lt (text_len l p) o ≡ false = less_false (text_len l p) o (omega (arith, e, h)) in rw b refl
measured_good l p o a len (inr m) h = let n = m.1 in let b : nat_lt (text_len l p) o ≡ false = less_false (text_len l p) o (omega (arith, n, h)) in rw b refl

pub text_bad : (f : Forest) (p above : Place) (o : ℕ) (a : Affinity) (s : Survey) → IsSound f → has_place (stitched f) p ≡ true → s ≡ folded surveyed (begun_survey p above None o) (rows (stitched f) p) → s.len < o
    → ◌≡◌ {A = Result Mark PosErr} (Err (BadOffset o s.len)) (text_mark (stitched f) p o a)
text_bad f p above o a s w h e g = measured_bad (stitched f) p o a s.len (survey_text f p above o s w h e) g

pub text_good : (f : Forest) (p above : Place) (o : ℕ) (a : Affinity) (s : Survey) → IsSound f → has_place (stitched f) p ≡ true → s ≡ folded surveyed (begun_survey p above None o) (rows (stitched f) p) → o ≤ s.len
    → ◌≡◌ {A = Result Mark PosErr} (Ok (mark p o a)) (text_mark (stitched f) p o a)
text_good f p above o a s w h e g = measured_good (stitched f) p o a s.len (survey_text f p above o s w h e) g

-- ---- what is refused

refused_in : (f : Forest) (p : Place) (m : Result Mark PosErr) (e : PosErr) → Some e ≡ place_refusal f p → mark_in f (stitched f) p m ≡ Err e
unfolding mark_in place_refusal
refused_in f p m e h = by_go (is_live f p.tree)
    (λ q. by_go (has_place (stitched f) p) (λ s. absurd (let k : ◌≡◌ {A = Option PosErr} (Some e) None = rw (q, s) at h in cc))
    (λ s. let k : ◌≡◌ {A = Option PosErr} (Some e) (Some NoNode) = rw (q, s) at h in let same : e ≡ NoNode = cc in rw (q, s) (ap (λ v. Err v) (sym same))))
    (λ q. let k : ◌≡◌ {A = Option PosErr} (Some e) (Some NoTree) = rw q at h in let same : e ≡ NoTree = cc in rw q (ap (λ v. Err v) (sym same)))

not_refused : (f : Forest) (p : Place) → None ≡ place_refusal f p → (is_live f p.tree ≡ true) × (has_place (stitched f) p ≡ true)
unfolding place_refusal
not_refused f p h = by_go (is_live f p.tree)
    (λ q. by_go (has_place (stitched f) p) (λ s. (q, s)) (λ s. absurd (let k : ◌≡◌ {A = Option PosErr} None (Some NoNode) = rw (q, s) at h in cc)))
    (λ q. absurd (let k : ◌≡◌ {A = Option PosErr} None (Some NoTree) = rw q at h in cc))

let_in : (f : Forest) (p : Place) (m : Result Mark PosErr) → None ≡ place_refusal f p → mark_in f (stitched f) p m ≡ m
unfolding mark_in
let_in f p m h = let r = not_refused f p h in let a = r.0 in let b = r.1 in rw (a, b) refl

pub there_told : (f : Forest) (p : Place) → None ≡ place_refusal f p → has_place (stitched f) p ≡ true
there_told f p h = (not_refused f p h).1

pub position_refused : (f : Forest) (x : Pos) (p : Place) (e : PosErr) → place_in x ≡ Some p → Some e ≡ place_refusal f p → checked f x ≡ Err e
unfolding checked
position_refused f Null p e h k = absurd (cc)
position_refused f (Tree t z c) p e h k = let same : place_at t z ≡ p = cc in refused_in f (place_at t z) _ e (k ∙ ap (place_refusal f) (sym same))
position_refused f (Text t z o a) p e h k = let same : place_at t z ≡ p = cc in refused_in f (place_at t z) _ e (k ∙ ap (place_refusal f) (sym same))

pub position_there : (f : Forest) (x : Pos) (p : Place) → place_in x ≡ Some p → None ≡ place_refusal f p → checked f x ≡ mark_there (stitched f) x
unfolding checked
position_there f Null p h k = absurd (cc)
position_there f (Tree t z c) p h k = let same : place_at t z ≡ p = cc in let_in f (place_at t z) _ (k ∙ ap (place_refusal f) (sym same))
position_there f (Text t z o a) p h k = let same : place_at t z ≡ p = cc in let_in f (place_at t z) _ (k ∙ ap (place_refusal f) (sym same))

pub null_refused : (f : Forest) (x : Pos) → place_in x ≡ None → checked f x ≡ Err NoTree
unfolding checked
null_refused f Null h = refl
null_refused f (Tree t z c) h = absurd (cc)
null_refused f (Text t z o a) h = absurd (cc)
