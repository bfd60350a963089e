-- The mark before a child.
use Rattle.std.proofs.Common.{ℕ, zero, suc, ◌≤◌, ◌≡◌, inl, inr, true, min, List, flat_map, filter, take, length, Option, refl, sym, ap, ◌∙◌, arith}
use Rattle.std.specs.Prelude.{slice_get, nat_lt, Result, Ok, Err}
use Rattle.std.proofs.lemmas.Bool.{ltb-false}
use Rattle.std.proofs.lemmas.Bool.Decides.{eqb_tells}
use Rattle.ax_base.specs.declared.position.Place.{Place}
use Rattle.ax_base.specs.declared.position.Affinity.TheVariants.{Down}
use Rattle.ax_base.specs.declared.position.PosErr.{PosErr}
use Rattle.ax_base.specs.declared.position.PosErr.TheVariants.{BadIndex}
use Rattle.ax_trees.proofs.Trees.{by_go}
use Rattle.ax_tree.specs.Forest.{Forest, IsSound}
use Rattle.ax_rules.specs.Sequences.{until}
use Rattle.ax_rules.specs.Positions.{Mark, mark, child_mark}
use Rattle.ax_rules.specs.Stitched.{Placed, stitched, has_place, children_of, is_leaf}
use Rattle.ax_rules.specs.Texts.{capped, joined, text_of}
use Rattle.ax_place_laws.proofs.Parted.{ends_at}
use Rattle.ax_place_laws.proofs.Before.{text_is}
use Rattle.ax_place_laws.proofs.Segments.{segment_at, block_of}
use Rattle.ax_position.specs.Walks.{rows, folded}
use Rattle.ax_position.specs.declared.survey.Survey.{Survey}
use Rattle.ax_position.specs.Surveys.{begun_survey, surveyed}
use Rattle.ax_position.specs.Marks.{child_before, most_before}
use Rattle.ax_position.proofs.Surveys.{IsMeasured, survey_len, kept_until}

pub child_bad : (l : List Placed) (p : Place) (c n : ℕ) → Err n ≡ child_before (children_of l p) c → ◌≡◌ {A = Result Mark PosErr} (Err (BadIndex c n)) (child_mark l p c)
unfolding child_mark
child_bad l p c n h = by_go (nat_lt (length (children_of l p)) c)
    (λ q. let e : ◌≡◌ {A = Result (Option Place) ℕ} (Err n) (Err (length (children_of l p))) = rw q at h in let same : n ≡ length (children_of l p) = cc in rw q (ap (λ v. Err (BadIndex c v)) same))
    (λ q. absurd (let e : ◌≡◌ {A = Result (Option Place) ℕ} (Err n) (Ok (slice_get (children_of l p) c)) = rw q at h in cc))

-- with no limit the whole is counted
unlimited : (whole len : ℕ) → whole ≤ 18446744073709551615 → IsMeasured 18446744073709551615 whole len → len ≡ whole
unlimited whole len h (inl e) = e
unlimited whole len h (inr m) = let a = m.0 in let b = m.1 in omega (arith, a, b, h)

-- the text before a child that has one before it
counted_before : (f : Forest) (p above : Place) (c : ℕ) (s : Survey) → IsSound f → has_place (stitched f) p ≡ true → suc c ≤ length (children_of (stitched f) p)
    → s ≡ folded surveyed (begun_survey p above (slice_get (children_of (stitched f) p) (suc c)) 18446744073709551615) (rows (stitched f) p)
    → s.len ≡ capped (length (flat_map (text_of (stitched f)) (take (suc c) (children_of (stitched f) p))))
counted_before f p above c s w h n e =
    let l = stitched f in
    let end = slice_get (children_of l p) (suc c) in
    let g = segment_at f p w h in
    let ahead = g.no_child_ahead (suc c) in
    let whole = capped (length (joined (filter (is_leaf l) (until (ends_at end) (block_of g))))) in
    let len : s.len ≡ whole = unlimited whole s.len (omega arith) (survey_len f p above end 18446744073709551615 s h w ahead (g.no_child_here (suc c)) e) in
    len ∙ (ap (λ v. capped (length (joined v))) (sym (kept_until l p g end ahead)) ∙ ap (λ v. capped (length v)) (sym (text_is f p c end w h n refl)))

pub child_good : (f : Forest) (p above : Place) (c limit o : ℕ) (end : Option Place) (s : Survey) → IsSound f → has_place (stitched f) p ≡ true → Ok end ≡ child_before (children_of (stitched f) p) c → limit ≡ most_before c
    → s ≡ folded surveyed (begun_survey p above end limit) (rows (stitched f) p) → o ≡ min s.len limit → ◌≡◌ {A = Result Mark PosErr} (Ok (mark p o Down)) (child_mark (stitched f) p c)
unfolding child_mark
child_good f p above c limit o end s w h k m e t = by_go (nat_lt (length (children_of (stitched f) p)) c)
    (λ q. absurd (let z : ◌≡◌ {A = Result (Option Place) ℕ} (Ok end) (Err (length (children_of (stitched f) p))) = rw q at k in cc))
    (λ q. let z : ◌≡◌ {A = Result (Option Place) ℕ} (Ok end) (Ok (slice_get (children_of (stitched f) p) c)) = rw q at k in
    let end_is : end ≡ slice_get (children_of (stitched f) p) c = cc in
    rw q (ap (λ v. Ok (mark p v Down)) (go c (ltb-false (length (children_of (stitched f) p)) c q) end_is m)))
  where
    go : (c : ℕ) → c ≤ length (children_of (stitched f) p) → end ≡ slice_get (children_of (stitched f) p) c → limit ≡ most_before c
        → o ≡ capped (length (flat_map (text_of (stitched f)) (take c (children_of (stitched f) p))))
    go zero n i m = omega (arith, t, m)
    go (suc c) n i m =
        let top : limit ≡ 18446744073709551615 = grind (arith, m, eqb_tells (suc c) 0) in
        let survey : s ≡ folded surveyed (begun_survey p above (slice_get (children_of (stitched f) p) (suc c)) 18446744073709551615) (rows (stitched f) p) =
        e ∙ (ap (λ v. folded surveyed (begun_survey p above v limit) (rows (stitched f) p)) i
        ∙ ap (λ v. folded surveyed (begun_survey p above (slice_get (children_of (stitched f) p) (suc c)) v) (rows (stitched f) p)) top) in
        let len = counted_before f p above c s w h n survey in
        let small : capped (length (flat_map (text_of (stitched f)) (take (suc c) (children_of (stitched f) p)))) ≤ 18446744073709551615 = omega arith in
        omega (arith, t, top, len, small)
