-- The leaf that is found for a position before a child.
use Rattle.std.proofs.Common.{ℕ, ◌+◌, ◌≤◌, ◌<◌, ◌≡◌, inl, inr, Bool, true, false, not, ◌||◌, ◌&&◌, List, [], ◌∷◌, ◌++◌, filter, length, Option, Some, None, is_some, refl, sym, ap, ap₂, ◌∙◌, subst, arith, option_map}
use Rattle.std.specs.Prelude.{nat_le, nat_lt, if◌then◌else◌, slice_get, Result, Ok, Err}
use Rattle.std.proofs.lemmas.Bool.Decides.{eqb_tells}
use Rattle.std.proofs.lemmas.Bool.{false≢true, and_parts, ltb-true}
use Rattle.std.proofs.lemmas.List.{map-append}
use Rattle.ax_base.specs.declared.position.Place.{Place}
use Rattle.ax_base.specs.declared.position.Pos.{Pos}
use Rattle.ax_base.specs.declared.position.PosErr.{PosErr}
use Rattle.ax_base.specs.declared.position.PosErr.TheVariants.{BadIndex}
use Rattle.ax_base.specs.declared.position.Affinity.TheVariants.{Down}
use Rattle.ax_trees.proofs.Trees.{by_go}
use Rattle.ax_tree.specs.Forest.{Forest, IsSound, is_place}
use Rattle.ax_rules.specs.Looks.{same_place, name_text}
use Rattle.ax_rules.specs.Stitched.{Placed, stitched, has_place, children_of, is_leaf, is_within}
use Rattle.ax_rules.specs.Texts.{capped, joined, text_len, start_of}
use Rattle.ax_rules.specs.Positions.{Mark, mark, child_mark, text_mark, global_offset, leaf_at, leaf_form}
use Rattle.ax_stitch.proofs.Places.{same_self}
use Rattle.ax_place_laws.specs.Lists.{EachOf}
use Rattle.ax_place_laws.proofs.Starts.{begun_leaves, begun_at, list_once}
use Rattle.ax_place_laws.proofs.Segments.{segment_at, block_of, leaves_start}
use Rattle.ax_place_laws.proofs.Parted.{ends_at}
use Rattle.ax_place_laws.proofs.Forms.{child_stands, form_at}
use Rattle.ax_position.specs.Walks.{Row, row, rows, folded, IsSettled}
use Rattle.ax_position.specs.declared.starts.Start.{Start}
use Rattle.ax_position.specs.declared.survey.Survey.{Survey}
use Rattle.ax_position.specs.declared.leaves.Leaf.{Leaf}
use Rattle.ax_position.specs.declared.child_search.ChildSearch.{ChildSearch}
use Rattle.ax_position.specs.Surveys.{counted, started, begun_survey, surveyed}
use Rattle.ax_position.specs.Leaves.{pos_on}
use Rattle.ax_position.specs.Children.{begun_child, child_goal, is_past, sought_child_on, sought_child}
use Rattle.ax_position.specs.Marks.{child_before, most_before, of_mark}
use Rattle.ax_position.specs.Forms.{leaf_of_mark, if_some}
use Rattle.ax_position.proofs.Descents.{folded-append, folded_settled}
use Rattle.ax_position.proofs.StartLemmas.{rows_by, start_stays, start_told, not_counted, and_true, small}
use Rattle.ax_position.proofs.Surveys.{IsMeasured, IsAhead, IsInside, ahead_more, inside_more, measured, ended_counts, behind, clear_apart}
use Rattle.ax_position.proofs.Sought.{leaf_of, is_hit, picked, none_late, picked_leaf, map_twice, sum_of, sum_is}
use Rattle.ax_position.proofs.Before.{child_bad, child_good}
use Rattle.ax_position.proofs.Marking.{less_false}

pub child_settled : (s : ChildSearch) → is_past s ≡ true → IsSettled sought_child s
child_settled s h = record { stays = λ r. rw h refl }

-- ---- what the survey of a search is

ended_rows : (rs : List Row) (s : Survey) → s.ended ≡ true → (folded surveyed s rs).len ≡ s.len
ended_rows [] s h = refl
ended_rows (r ∷ rs) s h =
    let more = is_place r.place s.end || (s.target.met && (not r.within || nat_le s.limit s.len)) in
    let next = surveyed s r in
    let ended : next.ended ≡ true = ap (λ b. b || more) h in
    ended_rows rs next ended ∙ (ap (λ b. counted (r.leaf && (r.within && not b)) s.len r.text) ended ∙ ended_counts r.leaf r.within s.len r.text)

len_small : (rs : List Row) (s : Survey) → s.len ≤ 18446744073709551615 → (folded surveyed s rs).len ≤ 18446744073709551615
len_small [] s h = h
len_small (r ∷ rs) s h = let next = surveyed s r in len_small rs next (small (r.leaf && (r.within && not next.ended)) s.len r.text h)

-- what a search that is past has
record IsPast (s : ChildSearch) : Type 0 where
  ended : s.survey.ended ≡ true
  met : s.survey.target.met ≡ true
  late : child_goal s < s.at

past_parts : (s : ChildSearch) → is_past s ≡ true → IsPast s
past_parts s h =
    let a = and_parts s.survey.ended (s.survey.target.met && nat_lt (child_goal s) s.at) h in
    let b = and_parts s.survey.target.met (nat_lt (child_goal s) s.at) a.1 in
    record { ended = a.0; met = b.0; late = ltb-true (child_goal s) s.at b.1 }

len_is : (rs : List Row) (s : ChildSearch) → (folded sought_child s rs).survey.len ≡ (folded surveyed s.survey rs).len
len_is [] s = refl
len_is (r ∷ rs) s = by_go (is_past s)
    (λ q. let k = past_parts s q in
    ap (λ (v : ChildSearch). v.survey.len) (folded_settled sought_child s (r ∷ rs) (child_settled s q)) ∙ sym (ended_rows (r ∷ rs) s.survey k.ended))
    (λ q. let on : sought_child s r ≡ sought_child_on s r = rw q refl in ap (λ (v : ChildSearch). (folded sought_child v rs).survey.len) on ∙ len_is rs (sought_child_on s r))

target_is : (rs : List Row) (s : ChildSearch) → (folded sought_child s rs).survey.target ≡ folded started s.survey.target rs
target_is [] s = refl
target_is (r ∷ rs) s = by_go (is_past s)
    (λ q. let k = past_parts s q in
    let met = k.met in
    ap (λ (v : ChildSearch). v.survey.target) (folded_settled sought_child s (r ∷ rs) (child_settled s q))
    ∙ sym (folded_settled started s.survey.target (r ∷ rs) (record { stays = λ v. start_stays s.survey.target v met })))
    (λ q. let on : sought_child s r ≡ sought_child_on s r = rw q refl in ap (λ (v : ChildSearch). (folded sought_child v rs).survey.target) on ∙ target_is rs (sought_child_on s r))

-- ---- small facts

none_found : (b c : Bool) (y o : Option Leaf) → (if b && (false && c) then y else o) ≡ o
none_found true c y o = refl
none_found false c y o = refl

both_count : (b : Bool) (n at len : ℕ) (t : List ℕ) → at ≡ capped (n + len) → len ≤ 18446744073709551615 → counted b at t ≡ capped (n + counted b len t)
both_count true n at len t e c = omega (arith, e)
both_count false n at len t e c = e

counted_grows : (b : Bool) (n : ℕ) (t : List ℕ) → n ≤ 18446744073709551615 → n ≤ counted b n t
counted_grows true n t h = omega (arith, h)
counted_grows false n t h = omega arith

both_true : (b : Bool) (n : ℕ) (t : List ℕ) → counted (b && (true && true)) n t ≡ counted b n t
both_true true n t = refl
both_true false n t = refl

or_first : (a b : Bool) → (a || b) ≡ false → a ≡ false
or_first true b h = absurd (false≢true (sym h))
or_first false b h = refl

le_true : (a b : ℕ) → a ≤ b → nat_le a b ≡ true
le_true a b h = grind (arith, h)

-- ---- the rows within the place, which starts at n

module _ (leaf within : Placed → Bool) (p : Place) (end : Option Place) (n : ℕ) where
  abbrev row_at : Placed → Row
  row_at x = row x.place x.look (leaf x) (within x)

  -- whether a leaf starts by what is counted up to it
  abbrev fits_now : ChildSearch → Placed → Bool
  fits_now s x = nat_le s.at (capped ((surveyed s.survey (row_at x)).target.start + (surveyed s.survey (row_at x)).len))

  -- how far a search has come within the place
  record IsUnder (s : ChildSearch) : Type 0 where
    inside : IsInside leaf within p end 18446744073709551615 s.survey
    start : s.survey.target.start ≡ n
    low : s.at ≤ 18446744073709551615
    even : s.survey.ended ≡ false → s.at ≡ capped (n + s.survey.len)

  -- the length that is counted of one more row, before the end
  next_len : (s : Survey) (x : Placed) → within x ≡ true → (surveyed s (row_at x)).ended ≡ false → (surveyed s (row_at x)).len ≡ counted (leaf x) s.len (name_text x.look)
  next_len s x w e =
      ap (λ b. counted (leaf x && (within x && not b)) s.len (name_text x.look)) e
      ∙ (ap (λ b. counted (leaf x && (b && true)) s.len (name_text x.look)) w ∙ both_true (leaf x) s.len (name_text x.look))

  under_more : (s : ChildSearch) (x : Placed) → IsUnder s → within x ≡ true → IsUnder (sought_child_on s (row_at x))
  under_more s x h w =
      let i = h.inside in
      let met = i.met in
      record {
        inside = inside_more leaf within p end 18446744073709551615 s.survey x i;
        start = ap (λ (v : Start). v.start) (start_stays s.survey.target (row_at x) met) ∙ h.start;
        low = small (leaf x) s.at (name_text x.look) h.low;
        even = λ e.
            let before : s.survey.ended ≡ false = or_first s.survey.ended _ e in
            both_count (leaf x) n s.at s.survey.len (name_text x.look) (h.even before) i.low ∙ ap (λ k. capped (n + k)) (sym (next_len s.survey x w e));
      }

  -- what is counted on
  rest_len : (l : List Placed) (s : Survey) → IsInside leaf within p end 18446744073709551615 s → s.ended ≡ false → EachOf (λ x. within x ≡ true) l → s.len ≤ (folded surveyed s (rows_by leaf within l)).len
  rest_len l s i e w = go _ (measured leaf within p end 18446744073709551615 l s i e w)
    where
      go : (z : ℕ) → IsMeasured 18446744073709551615 (capped (s.len + z)) (folded surveyed s (rows_by leaf within l)).len → s.len ≤ (folded surveyed s (rows_by leaf within l)).len
      go z (inl k) = let c = i.low in omega (arith, k, c)
      go z (inr k) = let c = i.low in let a = k.0 in omega (arith, a, c)

  -- a leaf starts by what is counted so far where it starts by what is counted in the end
  fits_same : (s : ChildSearch) (x : Placed) (l : List Placed) → IsUnder s → within x ≡ true → EachOf (λ y. within y ≡ true) l
      → nat_le s.at (capped ((surveyed s.survey (row_at x)).target.start + (surveyed s.survey (row_at x)).len))
      ≡ nat_le s.at (capped (n + (folded surveyed (surveyed s.survey (row_at x)) (rows_by leaf within l)).len))
  fits_same s x l h w v =
      let next = surveyed s.survey (row_at x) in
      let more = under_more s x h w in
      let start : next.target.start ≡ n = more.start in
      let whole = (folded surveyed next (rows_by leaf within l)).len in
      by_go next.ended
      (λ e. let len : whole ≡ next.len = ended_rows (rows_by leaf within l) next e in
      ap₂ (λ a b. nat_le s.at (capped (a + b))) start (sym len))
      (λ e. let before : s.survey.ended ≡ false = or_first s.survey.ended _ e in
      let at : s.at ≡ capped (n + s.survey.len) = h.even before in
      let c = h.inside.low in
      let grows : s.survey.len ≤ next.len = let g = counted_grows (leaf x) s.survey.len (name_text x.look) c in let k = next_len s.survey x w e in omega (arith, g, k) in
      let on : next.len ≤ whole = rest_len l next more.inside e v in
      let one : nat_le s.at (capped (next.target.start + next.len)) ≡ true = le_true s.at (capped (next.target.start + next.len)) (omega (arith, at, start, grows)) in
      let two : nat_le s.at (capped (n + whole)) ≡ true = le_true s.at (capped (n + whole)) (omega (arith, at, grows, on)) in
      one ∙ sym two)

  -- one more leaf, as the list of leaves has it
  picked_next : (x : Placed) (at goal : ℕ) (found : Option Leaf) (l : List Placed) → within x ≡ true
      → picked Down (if leaf x && (within x && nat_le at goal) then Some (record { place = x.place; start = at }) else found) (filter (is_hit Down goal) (begun_leaves leaf (counted (leaf x) at (name_text x.look)) l))
      ≡ picked Down found (filter (is_hit Down goal) (begun_leaves leaf at (x ∷ l)))
  picked_next x at goal found l w = by_go (leaf x) (λ k. by_go (nat_le at goal) (λ b. rw (k, w, b) refl) (λ b. rw (k, w, b) refl)) (λ k. rw k refl)

  found_step : (x : Placed) (l : List Placed) (s : ChildSearch) (goal : ℕ) → within x ≡ true
      → nat_le s.at (capped ((surveyed s.survey (row_at x)).target.start + (surveyed s.survey (row_at x)).len)) ≡ nat_le s.at goal
      → picked Down (sought_child_on s (row_at x)).found (filter (is_hit Down goal) (begun_leaves leaf (counted (leaf x) s.at (name_text x.look)) l))
      ≡ picked Down s.found (filter (is_hit Down goal) (begun_leaves leaf s.at (x ∷ l)))
  found_step x l s goal w same =
      ap (λ b. picked Down (if leaf x && (within x && b) then Some (record { place = x.place; start = s.at }) else s.found) (filter (is_hit Down goal) (begun_leaves leaf (counted (leaf x) s.at (name_text x.look)) l))) same
      ∙ picked_next x s.at goal s.found l w

  child_down : (l : List Placed) (s : ChildSearch) → IsUnder s → EachOf (λ x. within x ≡ true) l
      → (folded sought_child s (rows_by leaf within l)).found
      ≡ picked Down s.found (filter (is_hit Down (capped (n + (folded surveyed s.survey (rows_by leaf within l)).len))) (begun_leaves leaf s.at l))
  child_down [] s h w = refl
  child_down (x ∷ l) s h w =
      let goal = capped (n + (folded surveyed s.survey (rows_by leaf within (x ∷ l))).len) in
      by_go (is_past s)
      (λ q. let k = past_parts s q in
      let late = k.late in
      let start = h.start in
      let len = ended_rows (rows_by leaf within (x ∷ l)) s.survey k.ended in
      let after : goal < s.at = omega (arith, late, start, len) in
      ap (λ (v : ChildSearch). v.found) (folded_settled sought_child s (rows_by leaf within (x ∷ l)) (child_settled s q))
      ∙ ap (picked Down s.found) (sym (none_late leaf goal s.at (x ∷ l) h.low after)))
      (λ q. let on : sought_child s (row_at x) ≡ sought_child_on s (row_at x) = rw q refl in
      let rest = child_down l (sought_child_on s (row_at x)) (under_more s x h w.0) w.1 in
      ap (λ (v : ChildSearch). (folded sought_child v (rows_by leaf within l)).found) on ∙ (rest ∙ found_step x l s goal w.0 (fits_same s x l h w.0 w.1)))

  -- ---- the rows up to the place, and the place itself

  record IsBefore (s : ChildSearch) : Type 0 where
    ahead : IsAhead leaf within p end 18446744073709551615 s.survey
    even : s.survey.target.start ≡ s.at
    none : s.found ≡ None
    low : s.at ≤ 18446744073709551615

  not_past : (s : ChildSearch) → IsBefore s → is_past s ≡ false
  not_past s h = let a = h.ahead in ap (λ b. b && (s.survey.target.met && nat_lt (child_goal s) s.at)) a.ended

  goes_on : (s : ChildSearch) (x : Placed) → IsBefore s → sought_child s (row_at x) ≡ sought_child_on s (row_at x)
  goes_on s x h = let no = not_past s h in rw no refl

  before_more : (s : ChildSearch) (x : Placed) → IsBefore s → within x ≡ false → same_place x.place p ≡ false → ends_at end x ≡ false → IsBefore (sought_child_on s (row_at x))
  before_more s x h w a e =
      let next = ahead_more leaf within p end 18446744073709551615 s.survey x h.ahead w a e in
      record {
        ahead = next;
        even =
            ap (λ b. counted (leaf x && not b) s.survey.target.start (name_text x.look)) next.met
            ∙ (and_true (leaf x) s.survey.target.start (name_text x.look) ∙ ap (λ k. counted (leaf x) k (name_text x.look)) h.even);
        none = ap (λ b. if leaf x && (b && nat_le s.at (capped ((surveyed s.survey (row_at x)).target.start + (surveyed s.survey (row_at x)).len))) then Some (record { place = x.place; start = s.at }) else s.found) w
            ∙ (none_found (leaf x) (fits_now s x) (Some (record { place = x.place; start = s.at })) s.found ∙ h.none);
        low = small (leaf x) s.at (name_text x.look) h.low;
      }

  -- the state behind the rows before the place
  record Fronted (s : ChildSearch) (l : List Placed) : Type 0 where
    before : IsBefore (folded sought_child s (rows_by leaf within l))
    survey : (folded sought_child s (rows_by leaf within l)).survey ≡ folded surveyed s.survey (rows_by leaf within l)
    at : (folded sought_child s (rows_by leaf within l)).at ≡ sum_of leaf s.at l

  fronted : (l : List Placed) (s : ChildSearch) → IsBefore s → EachOf (λ x. within x ≡ false) l → EachOf (λ x. same_place x.place p ≡ false) l → EachOf (λ x. ends_at end x ≡ false) l → Fronted s l
  fronted [] s h w a e = record { before = h; survey = refl; at = refl }
  fronted (x ∷ l) s h w a e =
      let on = goes_on s x h in
      let rest = fronted l (sought_child_on s (row_at x)) (before_more s x h w.0 a.0 e.0) w.1 a.1 e.1 in
      record {
        before = subst (λ v. IsBefore (folded sought_child v (rows_by leaf within l))) (sym on) rest.before;
        survey = ap (λ (v : ChildSearch). (folded sought_child v (rows_by leaf within l)).survey) on ∙ rest.survey;
        at = ap (λ (v : ChildSearch). (folded sought_child v (rows_by leaf within l)).at) on ∙ rest.at;
      }

  head_under : (s : ChildSearch) (x : Placed) → IsBefore s → within x ≡ true → same_place x.place p ≡ true → ends_at end x ≡ false → s.at ≡ n → IsUnder (sought_child_on s (row_at x))
  head_under s x h w q e at =
      let a = h.ahead in
      let t = name_text x.look in
      let next = surveyed s.survey (row_at x) in
      let met : next.target.met ≡ true = ap (λ b. b || same_place x.place s.survey.target.target) a.met ∙ (ap (same_place x.place) a.target ∙ q) in
      let on : next.ended ≡ false =
      ap (λ b. b || (is_place x.place s.survey.end || (s.survey.target.met && (not (within x) || nat_le s.survey.limit s.survey.len)))) a.ended
      ∙ (ap (λ o. is_place x.place o || (s.survey.target.met && (not (within x) || nat_le s.survey.limit s.survey.len))) a.end_is
      ∙ (ap (λ b. b || (s.survey.target.met && (not (within x) || nat_le s.survey.limit s.survey.len))) e ∙ ap (λ b. b && (not (within x) || nat_le s.survey.limit s.survey.len)) a.met)) in
      let len : next.len ≡ counted (leaf x) 0 t = next_len s.survey x w on ∙ ap (λ k. counted (leaf x) k t) a.len in
      let least : next.len ≤ 18446744073709551615 = let k = small (leaf x) 0 t (omega arith) in omega (arith, k, len) in
      let c = h.low in
      let zero : s.at ≡ capped (n + 0) = omega (arith, at, c) in
      record {
        inside = record { met = met; end_is = a.end_is; limit_is = a.limit_is; low = least };
        start = ap (λ b. counted (leaf x && not b) s.survey.target.start t) met ∙ (not_counted (leaf x) s.survey.target.start t ∙ (h.even ∙ at));
        low = small (leaf x) s.at t h.low;
        even = λ _. both_count (leaf x) n s.at 0 t zero (omega arith) ∙ ap (λ k. capped (n + k)) (sym len);
      }

  block_found : (x : Placed) (l : List Placed) (s : ChildSearch) → IsBefore s → EachOf (λ y. within y ≡ true) (x ∷ l) → same_place x.place p ≡ true → ends_at end x ≡ false → s.at ≡ n
      → (folded sought_child s (rows_by leaf within (x ∷ l))).found
      ≡ picked Down None (filter (is_hit Down (capped (n + (folded surveyed s.survey (rows_by leaf within (x ∷ l))).len))) (begun_leaves leaf n (x ∷ l)))
  block_found x l s h w q e at =
      let next = sought_child_on s (row_at x) in
      let under = head_under s x h w.0 q e at in
      let whole = (folded surveyed s.survey (rows_by leaf within (x ∷ l))).len in
      let goal = capped (n + whole) in
      let c = h.low in
      let start : next.survey.target.start ≡ n = under.start in
      let one : nat_le s.at (capped (next.survey.target.start + next.survey.len)) ≡ true = le_true s.at (capped (next.survey.target.start + next.survey.len)) (omega (arith, at, c, start)) in
      let two : nat_le s.at goal ≡ true = le_true s.at goal (omega (arith, at, c)) in
      ap (λ (v : ChildSearch). (folded sought_child v (rows_by leaf within l)).found) (goes_on s x h)
      ∙ (child_down l next under w.1 ∙ (found_step x l s goal w.0 (one ∙ sym two) ∙ ap₂ (λ o k. picked Down o (filter (is_hit Down goal) (begun_leaves leaf k (x ∷ l)))) h.none at))

  -- behind the place nothing is found
  behind_found : (l : List Placed) (s : ChildSearch) → EachOf (λ x. within x ≡ false) l → (folded sought_child s (rows_by leaf within l)).found ≡ s.found
  behind_found [] s w = refl
  behind_found (x ∷ l) s w = by_go (is_past s)
      (λ q. ap (λ (v : ChildSearch). v.found) (folded_settled sought_child s (rows_by leaf within (x ∷ l)) (child_settled s q)))
      (λ q. let on : sought_child s (row_at x) ≡ sought_child_on s (row_at x) = rw q refl in
      let out : (sought_child_on s (row_at x)).found ≡ s.found =
      ap (λ b. if leaf x && (b && nat_le s.at (capped ((surveyed s.survey (row_at x)).target.start + (surveyed s.survey (row_at x)).len))) then Some (record { place = x.place; start = s.at }) else s.found) w.0
      ∙ none_found (leaf x) (fits_now s x) (Some (record { place = x.place; start = s.at })) s.found in
      ap (λ (v : ChildSearch). (folded sought_child v (rows_by leaf within l)).found) on ∙ (behind_found l (sought_child_on s (row_at x)) w.1 ∙ out))

-- ---- the whole list

found_child : (f : Forest) (p : Place) (end : Option Place) (w : IsSound f) (h : has_place (stitched f) p ≡ true) → EachOf (λ x. ends_at end x ≡ false) (segment_at f p w h).front → ends_at end (segment_at f p w h).head ≡ false
    → (folded sought_child (begun_child p end) (rows (stitched f) p)).found
    ≡ option_map (λ s. leaf_of (begun_at (stitched f) s)) (leaf_at (stitched f) p (capped (start_of (stitched f) p + (folded surveyed (begun_survey p p end 18446744073709551615) (rows (stitched f) p)).len)) Down)
unfolding rows start_of
found_child f p end w h n o =
    let l = stitched f in
    let g = segment_at f p w h in
    let block = block_of g in
    let begun = begun_child p end in
    let first = start_of l p in
    let leaf : Placed → Bool = is_leaf l in
    let within : Placed → Bool = is_within p in
    let by : List Placed → List Row = rows_by leaf within in
    let parted : by l ≡ by g.front ++ (by block ++ by g.back) =
    ap (λ v. rows_by leaf within v) g.whole
    ∙ (map-append (λ (x : Placed). row x.place x.look (is_leaf l x) (is_within p x)) g.front (block ++ g.back)
    ∙ ap (λ v. by g.front ++ v) (map-append (λ (x : Placed). row x.place x.look (is_leaf l x) (is_within p x)) block g.back)) in
    let begins : IsBefore leaf within p end first begun = record {
      ahead = record { target = refl; met = refl; ended = refl; len = refl; end_is = refl; limit_is = refl };
      even = refl;
      none = refl;
      low = omega arith;
    } in
    let front = fronted leaf within p end first g.front begun begins g.clear_front (clear_apart p g.front g.clear_front) n in
    let after = folded sought_child begun (by g.front) in
    let z = length (joined (filter leaf g.front)) in
    let zero_is : capped (0 + z) ≡ capped z = omega arith in
    let at : after.at ≡ first = front.at ∙ (sum_is leaf 0 g.front (omega arith) ∙ (zero_is ∙ ap (λ v. capped (length (joined (filter leaf v)))) (sym g.ahead))) in
    let own : same_place g.head.place p ≡ true = ap (λ q. same_place q p) g.at ∙ same_self p in
    let found : (folded sought_child begun (by l)).found ≡ (folded sought_child after (by block)).found =
    ap (λ v. (folded sought_child begun v).found) parted
    ∙ (ap (λ (v : ChildSearch). v.found) (folded-append sought_child begun (by g.front) (by block ++ by g.back))
    ∙ (ap (λ (v : ChildSearch). v.found) (folded-append sought_child after (by block) (by g.back))
    ∙ behind_found leaf within p end first g.back (folded sought_child after (by block)) g.clear_back)) in
    let len : (folded surveyed after.survey (by block)).len ≡ (folded surveyed begun.survey (by l)).len =
    ap (λ v. (folded surveyed v (by block)).len) front.survey
    ∙ sym (ap (λ v. (folded surveyed begun.survey v).len) parted
    ∙ (ap (λ (v : Survey). v.len) (folded-append surveyed begun.survey (by g.front) (by block ++ by g.back))
    ∙ (ap (λ (v : Survey). v.len) (folded-append surveyed (folded surveyed begun.survey (by g.front)) (by block) (by g.back))
    ∙ behind leaf within p end 18446744073709551615 g.back (folded surveyed (folded surveyed begun.survey (by g.front)) (by block)) g.clear_back))) in
    let goal = capped (first + (folded surveyed begun.survey (by l)).len) in
    found
    ∙ (block_found leaf within p end first g.head g.sub after front.before g.inside own o at
    ∙ (ap (λ k. picked Down None (filter (is_hit Down (capped (first + k))) (begun_leaves leaf first block))) len
    ∙ (ap (λ ms. picked Down None (filter (is_hit Down goal) ms)) (leaves_start l p g (list_once f w)) ∙ picked_leaf l p goal Down)))

-- ---- what is told

most : (c : ℕ) → 1 ≤ c → 18446744073709551615 ≡ most_before c
most c h = grind (arith, h, eqb_tells c 0)

end_is : (xs : List Place) (c : ℕ) (end : Option Place) → Ok end ≡ child_before xs c → end ≡ slice_get xs c
end_is xs c end k = by_go (nat_lt (length xs) c)
    (λ q. absurd (let z : ◌≡◌ {A = Result (Option Place) ℕ} (Ok end) (Err (length xs)) = rw q at k in cc))
    (λ q. let z : ◌≡◌ {A = Result (Option Place) ℕ} (Ok end) (Ok (slice_get xs c)) = rw q at k in cc)

-- the leaf's position, and the mark for which the position before the child stands
pub record ChildTold (f : Forest) (p : Place) (c : ℕ) (r : Option Pos) : Type 0 where
  pub offset : ℕ
  pub mark_is : ◌≡◌ {A = Result Mark PosErr} (Ok (mark p offset Down)) (child_mark (stitched f) p c)
  pub form : r ≡ leaf_form (stitched f) p (capped (start_of (stitched f) p + offset)) Down
  pub there : is_some r ≡ true

pub child_told : (f : Forest) (p : Place) (c : ℕ) (end : Option Place) (s : ChildSearch) (r : Option Pos) → IsSound f → has_place (stitched f) p ≡ true → 1 ≤ c → Ok end ≡ child_before (children_of (stitched f) p) c
    → s ≡ folded sought_child (begun_child p end) (rows (stitched f) p) → r ≡ option_map (pos_on (child_goal s) Down) s.found → ChildTold f p c r
unfolding leaf_form
child_told f p c end s r w h n k e i =
    let l = stitched f in
    let g = segment_at f p w h in
    let begun = begun_child p end in
    let survey = folded surveyed (begun_survey p p end 18446744073709551615) (rows l p) in
    let o = survey.len in
    let low : o ≤ 18446744073709551615 = len_small (rows l p) (begun_survey p p end 18446744073709551615) (omega arith) in
    let is : ◌≡◌ {A = Result Mark PosErr} (Ok (mark p o Down)) (child_mark l p c) = child_good f p p c 18446744073709551615 o end survey w h k (most c n) refl (omega (arith, low)) in
    let ends = end_is (children_of l p) c end k in
    let ahead = subst (λ v. EachOf (λ x. ends_at v x ≡ false) g.front) (sym ends) (g.no_child_ahead c) in
    let here = subst (λ v. ends_at v g.head ≡ false) (sym ends) (g.no_child_here c) in
    let start : s.survey.target.start ≡ start_of l p = ap (λ (v : ChildSearch). v.survey.target.start) e ∙ (ap (λ (v : Start). v.start) (target_is (rows l p) begun) ∙ start_told l p p) in
    let len : s.survey.len ≡ o = ap (λ (v : ChildSearch). v.survey.len) e ∙ len_is (rows l p) begun in
    let goal : child_goal s ≡ capped (start_of l p + o) = ap₂ (λ a b. capped (a + b)) start len in
    let found = ap (λ (v : ChildSearch). v.found) e ∙ found_child f p end w h ahead here in
    let form : r ≡ leaf_form l p (capped (start_of l p + o)) Down =
    i ∙ (ap (λ a. option_map (pos_on a Down) s.found) goal
    ∙ (ap (option_map (pos_on (capped (start_of l p + o)) Down)) found
    ∙ map_twice (pos_on (capped (start_of l p + o)) Down) (λ s. leaf_of (begun_at l s)) (leaf_at l p (capped (start_of l p + o)) Down))) in
    let stands = child_stands f p c (mark p o Down) w h (sym is) in
    record { offset = o; mark_is = is; form = form; there = ap is_some form ∙ form_at f p o Down w h stands.within }

pub child_form_told : (f : Forest) (p : Place) (c : ℕ) (r : Option Pos) (x : Pos) → ChildTold f p c r → Some x ≡ r → ◌≡◌ {A = Result Pos PosErr} (Ok x) (if_some (of_mark (leaf_of_mark (stitched f)) (child_mark (stitched f) p c)))
unfolding leaf_of_mark global_offset
child_form_told f p c r x t e = ap (λ o. if_some (Ok o)) (e ∙ t.form) ∙ ap (λ v. if_some (of_mark (leaf_of_mark (stitched f)) v)) t.mark_is

-- before the first child
at_first : (l : List Placed) (p : Place) → text_mark l p 0 Down ≡ child_mark l p 0
unfolding text_mark child_mark
at_first l p =
    let a : nat_lt (text_len l p) 0 ≡ false = less_false (text_len l p) 0 (omega arith) in
    let b : nat_lt (length (children_of l p)) 0 ≡ false = less_false (length (children_of l p)) 0 (omega arith) in
    rw (a, b) refl

pub first_mark : (l : List Placed) (p : Place) (c : ℕ) → c ≡ 0 → text_mark l p 0 Down ≡ child_mark l p c
first_mark l p c e = at_first l p ∙ ap (child_mark l p) (sym e)

pub index_form : (l : List Placed) (p : Place) (c n : ℕ) → Err n ≡ child_before (children_of l p) c → ◌≡◌ {A = Result Pos PosErr} (Err (BadIndex c n)) (if_some (of_mark (leaf_of_mark l) (child_mark l p c)))
index_form l p c n h = ap (λ v. if_some (of_mark (leaf_of_mark l) v)) (child_bad l p c n h)
