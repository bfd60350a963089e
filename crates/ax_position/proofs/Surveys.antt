-- What a survey makes of the rows of the list.
use Rattle.std.proofs.Common.{ℕ, ◌+◌, ◌≤◌, ◌≡◌, ◌⊎◌, inl, inr, Bool, true, false, not, ◌||◌, ◌&&◌, List, [], ◌∷◌, ◌++◌, filter, length, Option, None, refl, sym, ap, ◌∙◌, subst, arith}
use Rattle.std.specs.Prelude.{nat_le}
use Rattle.std.proofs.lemmas.Bool.{false≢true, false_from_ne_true, leb-true}
use Rattle.std.proofs.lemmas.List.{map-append}
use Rattle.std.proofs.lemmas.List.Elements.{filter-append}
use Rattle.ax_base.specs.declared.position.Place.{Place}
use Rattle.ax_trees.proofs.Trees.{by_go}
use Rattle.ax_tree.specs.Forest.{Forest, IsSound, is_place}
use Rattle.ax_rules.specs.Sequences.{until}
use Rattle.ax_rules.specs.Looks.{same_place, name_text}
use Rattle.ax_rules.specs.Stitched.{Placed, stitched, has_place, is_leaf, is_within}
use Rattle.ax_rules.specs.Texts.{capped, joined, leaves_in, text_of, text_len, start_of}
use Rattle.ax_stitch.proofs.Places.{same_self}
use Rattle.ax_place_laws.specs.Lists.{EachOf}
use Rattle.ax_place_laws.proofs.Parted.{Clear, ends_at, none_ends, filter_none, turned}
use Rattle.ax_place_laws.proofs.Before.{back_drops, inside_same, outside, unended}
use Rattle.ax_place_laws.proofs.Segments.{Segment, segment_at, block_of, leaves_are_of}
use Rattle.ax_position.specs.Walks.{Row, row, rows, folded, IsSettled}
use Rattle.ax_position.specs.declared.starts.Start.{Start}
use Rattle.ax_position.specs.declared.survey.Survey.{Survey}
use Rattle.ax_position.specs.Surveys.{counted, started, begun_survey, surveyed}
use Rattle.ax_position.proofs.Descents.{folded-append}
use Rattle.ax_position.proofs.StartLemmas.{rows_by, not_counted, start_stays, start_told, small, more_text}

-- ---- a settled survey

pub ended_counts : (a b : Bool) (n : ℕ) (text : List ℕ) → counted (a && (b && false)) n text ≡ n
ended_counts true true n text = refl
ended_counts true false n text = refl
ended_counts false b n text = refl

pub survey_settled : (s : Survey) → s.ended ≡ true → s.target.met ≡ true → s.above.met ≡ true → IsSettled surveyed s
survey_settled s e t a = record {
  stays = λ r.
      let ended : (s.ended || (is_place r.place s.end || (s.target.met && (not r.within || nat_le s.limit s.len)))) ≡ true =
      ap (λ b. b || (is_place r.place s.end || (s.target.met && (not r.within || nat_le s.limit s.len)))) e in
      let len : counted (r.leaf && (r.within && not (s.ended || (is_place r.place s.end || (s.target.met && (not r.within || nat_le s.limit s.len)))))) s.len r.text ≡ s.len =
      ap (λ b. counted (r.leaf && (r.within && not b)) s.len r.text) ended ∙ ended_counts r.leaf r.within s.len r.text in
      λ z. record { target = start_stays s.target r t z; above = start_stays s.above r a z; end = s.end; limit = s.limit; ended = (ended ∙ sym e) z; len = len z };
}

-- ---- starts

target_is : (rs : List Row) (s : Survey) → (folded surveyed s rs).target ≡ folded started s.target rs
target_is [] s = refl
target_is (r ∷ rs) s = target_is rs (surveyed s r)

above_is : (rs : List Row) (s : Survey) → (folded surveyed s rs).above ≡ folded started s.above rs
above_is [] s = refl
above_is (r ∷ rs) s = above_is rs (surveyed s r)

pub survey_start : (l : List Placed) (p above : Place) (end : Option Place) (limit : ℕ) (s : Survey) → s ≡ folded surveyed (begun_survey p above end limit) (rows l p) → s.target.start ≡ start_of l p
survey_start l p above end limit s h = ap (λ (v : Survey). v.target.start) h ∙ (ap (λ (v : Start). v.start) (target_is (rows l p) (begun_survey p above end limit)) ∙ start_told l p p)

pub survey_above : (l : List Placed) (p above : Place) (end : Option Place) (limit : ℕ) (s : Survey) → s ≡ folded surveyed (begun_survey p above end limit) (rows l p) → s.above.start ≡ start_of l above
survey_above l p above end limit s h = ap (λ (v : Survey). v.above.start) h ∙ (ap (λ (v : Start). v.start) (above_is (rows l p) (begun_survey p above end limit)) ∙ start_told l above p)

-- ---- lengths

-- the length that was counted is the whole, or as much as the limit
abbrev pub IsMeasured : ℕ → ℕ → ℕ → Type 0
IsMeasured limit whole len = (len ≡ whole) ⊎ ((limit ≤ len) × (len ≤ whole))

module _ (leaf within : Placed → Bool) (p : Place) (end : Option Place) (limit : ℕ) where
  -- how far a survey has come: nothing is counted yet, or something within the place
  pub record IsAhead (s : Survey) : Type 0 where
    pub target : s.target.target ≡ p
    pub met : s.target.met ≡ false
    pub ended : s.ended ≡ false
    pub len : s.len ≡ 0
    pub end_is : s.end ≡ end
    pub limit_is : s.limit ≡ limit

  pub record IsInside (s : Survey) : Type 0 where
    pub met : s.target.met ≡ true
    pub end_is : s.end ≡ end
    pub limit_is : s.limit ≡ limit
    pub low : s.len ≤ 18446744073709551615

  pub ahead_more : (s : Survey) (x : Placed) → IsAhead s → within x ≡ false → same_place x.place p ≡ false → ends_at end x ≡ false → IsAhead (surveyed s (row x.place x.look (leaf x) (within x)))
  ahead_more s x h w n e =
      let met : (s.target.met || same_place x.place s.target.target) ≡ false = ap (λ b. b || same_place x.place s.target.target) h.met ∙ (ap (same_place x.place) h.target ∙ n) in
      let ended : (s.ended || (is_place x.place s.end || (s.target.met && (not (within x) || nat_le s.limit s.len)))) ≡ false =
      ap (λ b. b || (is_place x.place s.end || (s.target.met && (not (within x) || nat_le s.limit s.len)))) h.ended
      ∙ (ap (λ o. is_place x.place o || (s.target.met && (not (within x) || nat_le s.limit s.len))) h.end_is
      ∙ (ap (λ b. b || (s.target.met && (not (within x) || nat_le s.limit s.len))) e ∙ ap (λ b. b && (not (within x) || nat_le s.limit s.len)) h.met)) in
      record {
        target = h.target;
        met = met;
        ended = ended;
        len = ap (λ b. counted (leaf x && (b && not (s.ended || (is_place x.place s.end || (s.target.met && (not b || nat_le s.limit s.len)))))) s.len (name_text x.look)) w ∙ (not_counted (leaf x) s.len (name_text x.look) ∙ h.len);
        end_is = h.end_is;
        limit_is = h.limit_is;
      }

  ahead_all : (l : List Placed) (s : Survey) → IsAhead s → EachOf (λ x. within x ≡ false) l → EachOf (λ x. same_place x.place p ≡ false) l → EachOf (λ x. ends_at end x ≡ false) l
      → IsAhead (folded surveyed s (rows_by leaf within l))
  ahead_all [] s h w n e = h
  ahead_all (x ∷ l) s h w n e = ahead_all l (surveyed s (row x.place x.look (leaf x) (within x))) (ahead_more s x h w.0 n.0 e.0) w.1 n.1 e.1

  ended_stays : (l : List Placed) (s : Survey) → s.ended ≡ true → (folded surveyed s (rows_by leaf within l)).len ≡ s.len
  ended_stays [] s h = refl
  ended_stays (x ∷ l) s h =
      let more = is_place x.place s.end || (s.target.met && (not (within x) || nat_le s.limit s.len)) in
      let next = surveyed s (row x.place x.look (leaf x) (within x)) in
      let ended : next.ended ≡ true = ap (λ b. b || more) h in
      ended_stays l next ended ∙ (ap (λ b. counted (leaf x && (within x && not b)) s.len (name_text x.look)) ended ∙ ended_counts (leaf x) (within x) s.len (name_text x.look))

  -- behind the place nothing counts
  pub behind : (l : List Placed) (s : Survey) → EachOf (λ x. within x ≡ false) l → (folded surveyed s (rows_by leaf within l)).len ≡ s.len
  behind [] s w = refl
  behind (x ∷ l) s w =
      let out = w.0 in
      let next = surveyed s (row x.place x.look (leaf x) (within x)) in
      behind l next w.1
      ∙ (ap (λ b. counted (leaf x && (b && not (s.ended || (is_place x.place s.end || (s.target.met && (not b || nat_le s.limit s.len)))))) s.len (name_text x.look)) out ∙ not_counted (leaf x) s.len (name_text x.look))

  still_counts : (b w : Bool) (n : ℕ) (text : List ℕ) → w ≡ true → counted (b && (w && true)) n text ≡ counted b n text
  still_counts true w n text h = ap (λ v. counted (v && true) n text) h
  still_counts false w n text h = refl

  -- one more row within the place
  inside_ended : (s : Survey) (x : Placed) → IsInside s → within x ≡ true
      → (s.ended || (is_place x.place s.end || (s.target.met && (not (within x) || nat_le s.limit s.len)))) ≡ (s.ended || (ends_at end x || nat_le limit s.len))
  inside_ended s x h w =
      let m = h.met in
      let e = h.end_is in
      let k = h.limit_is in
      rw (m, w, e, k) refl

  pub inside_more : (s : Survey) (x : Placed) → IsInside s → IsInside (surveyed s (row x.place x.look (leaf x) (within x)))
  inside_more s x h = record {
    met = ap (λ b. b || same_place x.place s.target.target) h.met;
    end_is = h.end_is;
    limit_is = h.limit_is;
    low = small (leaf x && (within x && not (s.ended || (is_place x.place s.end || (s.target.met && (not (within x) || nat_le s.limit s.len)))))) s.len (name_text x.look) h.low;
  }

  pub measured : (l : List Placed) (s : Survey) → IsInside s → s.ended ≡ false → EachOf (λ x. within x ≡ true) l
      → IsMeasured limit (capped (s.len + length (joined (filter leaf (until (ends_at end) l))))) (folded surveyed s (rows_by leaf within l)).len
  unfolding joined
  measured [] s h e w = inl (let low = h.low in omega (arith, low))
  measured (x ∷ l) s h e w =
      let next = surveyed s (row x.place x.look (leaf x) (within x)) in
      let low = h.low in
      let ended : next.ended ≡ (ends_at end x || nat_le limit s.len) = inside_ended s x h w.0 ∙ ap (λ b. b || (ends_at end x || nat_le limit s.len)) e in
      by_go (ends_at end x)
      (λ q. let stop : next.ended ≡ true = ended ∙ (rw q refl) in
      let same : (folded surveyed next (rows_by leaf within l)).len ≡ s.len =
      ended_stays l next stop ∙ (ap (λ b. counted (leaf x && (within x && not b)) s.len (name_text x.look)) stop ∙ ended_counts (leaf x) (within x) s.len (name_text x.look)) in
      rw q (inl (omega (arith, same, low))))
      (λ q. by_go (nat_le limit s.len)
      (λ k. let stop : next.ended ≡ true = ended ∙ (rw (q, k) refl) in
      let same : (folded surveyed next (rows_by leaf within l)).len ≡ s.len =
      ended_stays l next stop ∙ (ap (λ b. counted (leaf x && (within x && not b)) s.len (name_text x.look)) stop ∙ ended_counts (leaf x) (within x) s.len (name_text x.look)) in
      let enough = leb-true limit s.len k in
      inr (omega (arith, same, enough), omega (arith, same, low)))
      (λ k. let on : next.ended ≡ false = ended ∙ (rw (q, k) refl) in
      let len : next.len ≡ counted (leaf x) s.len (name_text x.look) =
      ap (λ b. counted (leaf x && (within x && not b)) s.len (name_text x.look)) on ∙ still_counts (leaf x) (within x) s.len (name_text x.look) w.0 in
      let rest = measured l next (inside_more s x h) on w.1 in
      let whole : capped (next.len + length (joined (filter leaf (until (ends_at end) l)))) ≡ capped (s.len + length (joined (filter leaf (until (ends_at end) (x ∷ l))))) =
      more_text leaf within (leaf x) s.len x (filter leaf (until (ends_at end) l)) (capped (next.len + length (joined (filter leaf (until (ends_at end) l)))))
      (ap (λ n. capped (n + length (joined (filter leaf (until (ends_at end) l))))) len) low ∙ (rw q refl) in
      subst (λ n. IsMeasured limit n (folded surveyed next (rows_by leaf within l)).len) whole rest))

-- the place itself, and all below it
module _ (leaf within : Placed → Bool) (p : Place) (end : Option Place) (limit : ℕ) where
  block_measured : (x : Placed) (l : List Placed) (s : Survey) → IsAhead leaf within p end limit s → same_place x.place p ≡ true → EachOf (λ y. within y ≡ true) (x ∷ l) → ends_at end x ≡ false
      → IsMeasured limit (capped (length (joined (filter leaf (until (ends_at end) (x ∷ l)))))) (folded surveyed s (rows_by leaf within (x ∷ l))).len
  unfolding joined
  block_measured x l s h q w n =
      let next = surveyed s (row x.place x.look (leaf x) (within x)) in
      let met : next.target.met ≡ true = ap (λ b. b || same_place x.place s.target.target) h.met ∙ (ap (same_place x.place) h.target ∙ q) in
      let on : next.ended ≡ false =
      ap (λ b. b || (is_place x.place s.end || (s.target.met && (not (within x) || nat_le s.limit s.len)))) h.ended
      ∙ (ap (λ o. is_place x.place o || (s.target.met && (not (within x) || nat_le s.limit s.len))) h.end_is
      ∙ (ap (λ b. b || (s.target.met && (not (within x) || nat_le s.limit s.len))) n ∙ ap (λ b. b && (not (within x) || nat_le s.limit s.len)) h.met)) in
      let len : next.len ≡ counted (leaf x) 0 (name_text x.look) =
      ap (λ b. counted (leaf x && (within x && not b)) s.len (name_text x.look)) on
      ∙ (still_counts leaf within p end limit (leaf x) (within x) s.len (name_text x.look) w.0 ∙ ap (λ k. counted (leaf x) k (name_text x.look)) h.len) in
      let low : next.len ≤ 18446744073709551615 = let k = small (leaf x) 0 (name_text x.look) (omega arith) in omega (arith, k, len) in
      let rest = measured leaf within p end limit l next (record { met = met; end_is = h.end_is; limit_is = h.limit_is; low = low }) on w.1 in
      let whole : capped (next.len + length (joined (filter leaf (until (ends_at end) l)))) ≡ capped (length (joined (filter leaf (until (ends_at end) (x ∷ l))))) =
      more_text leaf within (leaf x) 0 x (filter leaf (until (ends_at end) l)) (capped (next.len + length (joined (filter leaf (until (ends_at end) l)))))
      (ap (λ k. capped (k + length (joined (filter leaf (until (ends_at end) l))))) len) (omega arith) ∙ (rw n (let z = length (joined (filter leaf (x ∷ until (ends_at end) l))) in omega arith)) in
      subst (λ k. IsMeasured limit k (folded surveyed next (rows_by leaf within l)).len) whole rest

-- ---- the whole list

pub clear_apart : (p : Place) (l : List Placed) → Clear p l → EachOf (λ x. same_place x.place p ≡ false) l
unfolding is_within
clear_apart p [] h = tt
clear_apart p (x ∷ l) h =
    (turned x.place p ∙ false_from_ne_true (same_place p x.place) (λ e. let o = h.0 in absurd (false≢true (sym o ∙ (rw e refl)))), clear_apart p l h.1)

pub survey_len : (f : Forest) (p above : Place) (end : Option Place) (limit : ℕ) (s : Survey) (h : has_place (stitched f) p ≡ true) (w : IsSound f)
    → EachOf (λ x. ends_at end x ≡ false) (segment_at f p w h).front → ends_at end (segment_at f p w h).head ≡ false
    → s ≡ folded surveyed (begun_survey p above end limit) (rows (stitched f) p)
    → IsMeasured limit (capped (length (joined (filter (is_leaf (stitched f)) (until (ends_at end) (block_of (segment_at f p w h))))))) s.len
unfolding rows
survey_len f p above end limit s h w n o e =
    let l = stitched f in
    let g = segment_at f p w h in
    let block = block_of g in
    let start = begun_survey p above end limit in
    let by : List Placed → List Row = rows_by (is_leaf l) (is_within p) in
    let parted : by l ≡ by g.front ++ (by block ++ by g.back) =
    ap (λ v. rows_by (is_leaf l) (is_within p) v) g.whole
    ∙ (map-append (λ (x : Placed). row x.place x.look (is_leaf l x) (is_within p x)) g.front (block ++ g.back)
    ∙ ap (λ v. by g.front ++ v) (map-append (λ (x : Placed). row x.place x.look (is_leaf l x) (is_within p x)) block g.back)) in
    let after = folded surveyed start (by g.front) in
    let ahead = ahead_all (is_leaf l) (is_within p) p end limit g.front start (record { target = refl; met = refl; ended = refl; len = refl; end_is = refl; limit_is = refl }) g.clear_front (clear_apart p g.front g.clear_front) n in
    let own : same_place g.head.place p ≡ true = ap (λ q. same_place q p) g.at ∙ same_self p in
    let counted_block = block_measured (is_leaf l) (is_within p) p end limit g.head g.sub after ahead own g.inside o in
    let len : s.len ≡ (folded surveyed after (by block)).len =
    ap (λ (v : Survey). v.len) e
    ∙ (ap (λ v. (folded surveyed start v).len) parted
    ∙ (ap (λ (v : Survey). v.len) (folded-append surveyed start (by g.front) (by block ++ by g.back))
    ∙ (ap (λ (v : Survey). v.len) (folded-append surveyed after (by block) (by g.back))
    ∙ behind (is_leaf l) (is_within p) p end limit g.back (folded surveyed after (by block)) g.clear_back))) in
    subst (λ k. IsMeasured limit (capped (length (joined (filter (is_leaf l) (until (ends_at end) block))))) k) (sym len) counted_block

never : (l : List Placed) → until (ends_at None) l ≡ l
never [] = refl
never (x ∷ l) = ap (λ v. x ∷ v) (never l)

-- of the whole text of a place
pub survey_text : (f : Forest) (p above : Place) (limit : ℕ) (s : Survey) → IsSound f → has_place (stitched f) p ≡ true → s ≡ folded surveyed (begun_survey p above None limit) (rows (stitched f) p)
    → IsMeasured limit (text_len (stitched f) p) s.len
unfolding text_len text_of
survey_text f p above limit s w h e =
    let l = stitched f in
    let g = segment_at f p w h in
    let whole : capped (length (joined (filter (is_leaf l) (until (ends_at None) (block_of g))))) ≡ capped (length (joined (leaves_in l p))) =
    ap (λ v. capped (length (joined (filter (is_leaf l) v)))) (never (block_of g)) ∙ ap (λ v. capped (length (joined v))) (sym (leaves_are_of l p g)) in
    subst (λ k. IsMeasured limit k s.len) whole (survey_len f p above None limit s h w (unended g.front) refl e)

-- what counts up to a place within p, in the whole list and in the part of p
pub kept_until : (l : List Placed) (p : Place) (g : Segment l p) (end : Option Place) → EachOf (λ x. ends_at end x ≡ false) g.front
    → filter (λ x. is_leaf l x && is_within p x) (until (ends_at end) l) ≡ filter (is_leaf l) (until (ends_at end) (block_of g))
kept_until l p g end n =
    let keeps : Placed → Bool = λ x. is_leaf l x && is_within p x in
    let block = block_of g in
    ap (λ v. filter keeps (until (ends_at end) v)) g.whole
    ∙ (ap (filter keeps) (none_ends end g.front n (block ++ g.back))
    ∙ (filter-append keeps g.front (until (ends_at end) (block ++ g.back))
    ∙ (ap (λ v. v ++ filter keeps (until (ends_at end) (block ++ g.back))) (filter_none keeps g.front (outside (is_leaf l) (is_within p) g.front g.clear_front))
    ∙ (back_drops keeps (ends_at end) block g.back (outside (is_leaf l) (is_within p) g.back g.clear_back)
    ∙ inside_same (is_leaf l) (is_within p) (ends_at end) block g.inside))))
