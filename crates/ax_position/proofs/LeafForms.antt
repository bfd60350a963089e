-- The form of a position on a leaf, and of a global offset, as it is told.
use Rattle.std.proofs.Common.{ℕ, ◌+◌, ◌≤◌, ◌<◌, ◌≡◌, inl, inr, true, false, List, [], ◌∷◌, Option, Some, None, refl, sym, ap, ◌∙◌, arith, option_map, option_and_then, is_some}
use Rattle.std.specs.Prelude.{Result, Ok, Err, nat_lt, if◌then◌else◌}
use Rattle.ax_base.specs.declared.position.Place.{Place}
use Rattle.ax_base.specs.declared.position.Affinity.{Affinity}
use Rattle.ax_base.specs.declared.position.Affinity.TheVariants.{Down}
use Rattle.ax_base.specs.declared.position.Pos.{Pos}
use Rattle.ax_base.specs.declared.position.PosErr.{PosErr}
use Rattle.ax_base.specs.declared.position.PosErr.TheVariants.{BadOffset}
use Rattle.ax_tree.specs.Forest.{Forest, IsSound}
use Rattle.ax_rules.specs.Sequences.{first_of}
use Rattle.ax_rules.specs.Stitched.{Placed, places, stitched, has_place}
use Rattle.ax_rules.specs.Texts.{capped, text_len, start_of}
use Rattle.ax_rules.specs.Positions.{Mark, text_mark, global_offset, leaf_form}
use Rattle.ax_rules.specs.Moves.{first_place}
use Rattle.ax_place_laws.proofs.Forms.{first_start, form_at}
use Rattle.ax_position.specs.Walks.{rows, folded}
use Rattle.ax_position.specs.declared.leaves.Search.{Search}
use Rattle.ax_position.specs.Leaves.{begun_search, goal_of, sought, pos_on}
use Rattle.ax_position.specs.Marks.{of_mark}
use Rattle.ax_position.specs.Forms.{leaf_of_mark, if_some, at_offset, leaf_at_offset}
use Rattle.ax_position.proofs.Surveys.{IsMeasured}
use Rattle.ax_position.proofs.Marking.{less_true, less_false, measured_bad, measured_good}
use Rattle.ax_position.proofs.Sought.{search_len, form_told}

pub form_bad : (f : Forest) (p : Place) (o : ℕ) (a : Affinity) (s : Search) → IsSound f → has_place (stitched f) p ≡ true → s ≡ folded sought (begun_search p o a) (rows (stitched f) p) → s.len < o
    → ◌≡◌ {A = Result Pos PosErr} (Err (BadOffset o s.len)) (if_some (of_mark (leaf_of_mark (stitched f)) (text_mark (stitched f) p o a)))
form_bad f p o a s w h e g = ap (λ r. if_some (of_mark (leaf_of_mark (stitched f)) r)) (measured_bad (stitched f) p o a s.len (search_len f p o a s w h e) g)

pub form_refused : (f : Forest) (p : Place) (o : ℕ) (a : Affinity) (s : Search) → IsSound f → has_place (stitched f) p ≡ true → s ≡ folded sought (begun_search p o a) (rows (stitched f) p) → s.len < o
    → text_mark (stitched f) p o a ≡ Err (BadOffset o s.len)
form_refused f p o a s w h e g = sym (measured_bad (stitched f) p o a s.len (search_len f p o a s w h e) g)

pub form_good : (f : Forest) (p : Place) (o : ℕ) (a : Affinity) (s : Search) (r : Option Pos) → IsSound f → has_place (stitched f) p ≡ true → s ≡ folded sought (begun_search p o a) (rows (stitched f) p) → o ≤ s.len
    → r ≡ leaf_form (stitched f) p (capped (start_of (stitched f) p + o)) a → if_some (Ok r) ≡ if_some (of_mark (leaf_of_mark (stitched f)) (text_mark (stitched f) p o a))
unfolding leaf_of_mark global_offset
form_good f p o a s r w h e g k =
    ap (λ v. if_some (Ok v)) k ∙ ap (λ r. if_some (of_mark (leaf_of_mark (stitched f)) r)) (measured_good (stitched f) p o a s.len (search_len f p o a s w h e) g)

pub form_there : (f : Forest) (p : Place) (o : ℕ) (a : Affinity) (s : Search) (r : Option Pos) → IsSound f → has_place (stitched f) p ≡ true → s ≡ folded sought (begun_search p o a) (rows (stitched f) p) → o ≤ s.len
    → r ≡ leaf_form (stitched f) p (capped (start_of (stitched f) p + o)) a → is_some r ≡ true
form_there f p o a s r w h e g k = ap is_some k ∙ form_at f p o a w h (within (search_len f p o a s w h e))
  where
    within : IsMeasured o (text_len (stitched f) p) s.len → o ≤ text_len (stitched f) p
    within (inl n) = omega (arith, g, n)
    within (inr m) = let a = m.0 in let b = m.1 in omega (arith, a, b)

-- ---- the global offset

pub offset_told : (l : List Placed) (m : Mark) (r : Result Mark PosErr) (start g : ℕ) → Ok m ≡ r → start ≡ start_of l m.place → g ≡ capped (start + m.offset) → ◌≡◌ {A = Result ℕ PosErr} (Ok g) (of_mark (global_offset l) r)
unfolding global_offset
offset_told l m r start g h s e = ap (λ v. Ok v) (e ∙ ap (λ n. capped (n + m.offset)) s) ∙ ap (of_mark (global_offset l)) h

-- ---- the form of a global offset on the first place

first_is : (l : List Placed) → first_of (places l) ≡ first_place l
first_is [] = refl
first_is (s ∷ l) = refl

told_at : (l : List Placed) (o : ℕ) (r : Option Place) → r ≡ first_of (places l) → at_offset l o ≡ option_and_then (λ p. if nat_lt (text_len l p) o then None else leaf_form l p o Down) r
unfolding at_offset
told_at l o r h = ap (option_and_then (λ p. if nat_lt (text_len l p) o then None else leaf_form l p o Down)) (sym (h ∙ first_is l))

pub at_none : (l : List Placed) (o : ℕ) → None ≡ first_of (places l) → ◌≡◌ {A = Option Pos} None (at_offset l o)
at_none l o h = sym (told_at l o None h)

pub first_there : (l : List Placed) (p : Place) → Some p ≡ first_of (places l) → (has_place l p ≡ true) × (start_of l p ≡ 0)
first_there l p h = first_start l p (sym (h ∙ first_is l))

above_text : (text len o : ℕ) → IsMeasured o text len → len < o → nat_lt text o ≡ true
above_text text len o (inl e) h = less_true text o (omega (arith, e, h))
above_text text len o (inr m) h = absurd (let n = m.0 in omega (arith, n, h))

in_text : (text len o : ℕ) → IsMeasured o text len → o ≤ len → nat_lt text o ≡ false
in_text text len o (inl e) h = less_false text o (omega (arith, e, h))
in_text text len o (inr m) h = let n = m.1 in less_false text o (omega (arith, n, h))

pub at_above : (f : Forest) (o : ℕ) (p : Place) (s : Search) → IsSound f → Some p ≡ first_of (places (stitched f)) → s ≡ folded sought (begun_search p o Down) (rows (stitched f) p) → s.len < o
    → ◌≡◌ {A = Option Pos} None (at_offset (stitched f) o)
at_above f o p s w h e g =
    let l = stitched f in
    let b : nat_lt (text_len l p) o ≡ true = above_text (text_len l p) s.len o (search_len f p o Down s w (first_there l p h).0 e) g in
    sym (told_at l o (Some p) h ∙ (rw b refl))

pub at_form : (f : Forest) (o : ℕ) (p : Place) (s : Search) (r : Option Pos) → IsSound f → Some p ≡ first_of (places (stitched f)) → s ≡ folded sought (begun_search p o Down) (rows (stitched f) p) → o ≤ s.len → o ≤ 18446744073709551615
    → r ≡ option_map (pos_on (goal_of s) s.affinity) s.found → r ≡ at_offset (stitched f) o
at_form f o p s r w h e g c k =
    let l = stitched f in
    let there = first_there l p h in
    let b : nat_lt (text_len l p) o ≡ false = in_text (text_len l p) s.len o (search_len f p o Down s w there.0 e) g in
    let goal : capped (start_of l p + o) ≡ o = let z = there.1 in omega (arith, z, c) in
    form_told f p o Down s r w there.0 e k ∙ (ap (λ n. leaf_form l p n Down) goal ∙ sym (told_at l o (Some p) h ∙ (rw b refl)))

-- ---- whatever the text's length

told_leaf : (l : List Placed) (o : ℕ) (r : Option Place) → r ≡ first_of (places l) → leaf_at_offset l o ≡ option_and_then (λ p. leaf_form l p o Down) r
unfolding leaf_at_offset
told_leaf l o r h = ap (option_and_then (λ p. leaf_form l p o Down)) (sym (h ∙ first_is l))

pub leaf_none : (l : List Placed) (o : ℕ) → None ≡ first_of (places l) → ◌≡◌ {A = Option Pos} None (leaf_at_offset l o)
leaf_none l o h = sym (told_leaf l o None h)

pub leaf_some : (f : Forest) (o : ℕ) (p : Place) (s : Search) (r : Option Pos) → IsSound f → Some p ≡ first_of (places (stitched f)) → s ≡ folded sought (begun_search p o Down) (rows (stitched f) p) → o ≤ 18446744073709551615
    → r ≡ option_map (pos_on (goal_of s) s.affinity) s.found → r ≡ leaf_at_offset (stitched f) o
leaf_some f o p s r w h e c k =
    let l = stitched f in
    let there = first_there l p h in
    let goal : capped (start_of l p + o) ≡ o = let z = there.1 in omega (arith, z, c) in
    form_told f p o Down s r w there.0 e k ∙ (ap (λ n. leaf_form l p n Down) goal ∙ sym (told_leaf l o (Some p) h))
