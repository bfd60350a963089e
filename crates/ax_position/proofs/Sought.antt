-- The leaf that a search finds.
use Rattle.std.proofs.Common.{ℕ, ◌+◌, ◌≤◌, ◌<◌, ◌≡◌, inl, inr, Bool, true, false, ◌&&◌, List, [], ◌∷◌, ◌++◌, map, filter, length, Option, Some, None, refl, sym, ap, ap₂, ◌∙◌, subst, arith, option_map}
use Rattle.std.specs.Prelude.{nat_le, nat_lt, if◌then◌else◌}
use Rattle.std.proofs.lemmas.Bool.{false≢true, and_parts, leb-true, ltb-true, ltb-false}
use Rattle.std.proofs.lemmas.List.{map-append}
use Rattle.ax_base.specs.declared.position.Place.{Place}
use Rattle.ax_base.specs.declared.position.Pos.{Pos}
use Rattle.ax_base.specs.declared.position.Affinity.{Affinity}
use Rattle.ax_base.specs.declared.position.Affinity.TheVariants.{Up, Down}
use Rattle.ax_trees.proofs.Trees.{by_go}
use Rattle.ax_tree.specs.Forest.{Forest, IsSound}
use Rattle.ax_rules.specs.Sequences.{first_of, last_of}
use Rattle.ax_rules.specs.Looks.{same_place, name_text}
use Rattle.ax_rules.specs.Stitched.{Placed, stitched, has_place, is_leaf, is_within}
use Rattle.ax_rules.specs.Texts.{capped, joined, leaves_in, text_of, text_len, start_of}
use Rattle.ax_rules.specs.Positions.{starts_by, ends_from, leaf_at, leaf_form}
use Rattle.ax_stitch.proofs.Lists.{last_or, last_of-cons}
use Rattle.ax_stitch.proofs.Places.{same_self}
use Rattle.ax_place_laws.specs.Lists.{EachOf}
use Rattle.ax_place_laws.proofs.Starts.{Begun, begun_leaves, begun_at, list_once}
use Rattle.ax_place_laws.proofs.Segments.{Segment, segment_at, block_of, leaves_are_of, leaves_start, start_small}
use Rattle.ax_position.specs.Walks.{Row, row, rows, folded, IsSettled}
use Rattle.ax_position.specs.declared.starts.Start.{Start}
use Rattle.ax_position.specs.declared.leaves.Leaf.{Leaf}
use Rattle.ax_position.specs.declared.leaves.Search.{Search}
use Rattle.ax_position.specs.Surveys.{counted, started}
use Rattle.ax_position.specs.Leaves.{fits, kept, begun_search, goal_of, is_found, is_found_by, sought_on, sought, pos_on}
use Rattle.ax_position.proofs.Descents.{folded-append, folded_settled}
use Rattle.ax_position.proofs.StartLemmas.{rows_by, start_stays, start_told, not_counted, and_true, small, more_text}
use Rattle.ax_position.proofs.Surveys.{IsMeasured, clear_apart}

pub search_settled : (s : Search) → (s.target.met && is_found s) ≡ true → IsSettled sought s
search_settled s h = record { stays = λ r. rw h refl }

-- ---- what a list of leaves with their starts gives

abbrev pub leaf_of : Begun → Leaf
leaf_of m = record { place = m.leaf.place; start = m.start }

abbrev pub is_hit : Affinity → ℕ → Begun → Bool
is_hit a g m = fits a g m.start (capped (m.start + length (name_text m.leaf.look)))

abbrev pub picked : Affinity → Option Leaf → List Begun → Option Leaf
picked a found [] = found
picked a found (m ∷ ms) = picked a (kept a found (leaf_of m)) ms

down_is : (found : Option Leaf) (m : Begun) (ms : List Begun) → picked Down found (m ∷ ms) ≡ Some (leaf_of (last_or m ms))
down_is found m [] = refl
down_is found m (k ∷ ms) = down_is (Some (leaf_of m)) k ms

picked_down : (ms : List Begun) → picked Down None ms ≡ option_map leaf_of (last_of ms)
picked_down [] = refl
picked_down (m ∷ ms) = down_is None m ms ∙ ap (option_map leaf_of) (sym (last_of-cons m ms))

up_is : (y : Leaf) (ms : List Begun) → picked Up (Some y) ms ≡ Some y
up_is y [] = refl
up_is y (m ∷ ms) = up_is y ms

picked_up : (ms : List Begun) → picked Up None ms ≡ option_map leaf_of (first_of ms)
picked_up [] = refl
picked_up (m ∷ ms) = up_is (leaf_of m) ms

-- no leaf that begins behind the goal starts by it
pub none_late : (leaf : Placed → Bool) (g n : ℕ) (l : List Placed) → n ≤ 18446744073709551615 → g < n → filter (is_hit Down g) (begun_leaves leaf n l) ≡ []
none_late leaf g n [] c h = refl
none_late leaf g n (x ∷ l) c h =
    let no : nat_le n g ≡ false = grind (arith, h) in
    by_go (leaf x)
    (λ q. rw (q, no) (none_late leaf g (capped (n + length (name_text x.look))) l (omega arith) (omega (arith, c, h))))
    (λ q. rw q (none_late leaf g n l c h))

-- ---- the rows within the place

-- the place was met; n is where it starts
abbrev met_search : Place → ℕ → ℕ → Affinity → ℕ → ℕ → Option Leaf → Search
met_search p n o a at len found = record { target = record { target = p; met = true; start = n }; offset = o; affinity = a; at = at; len = len; found = found }

module _ (leaf within : Placed → Bool) (p : Place) (n o : ℕ) where
  abbrev goal : ℕ
  goal = capped (n + o)

  -- what is found of one more leaf
  found_on : Affinity → ℕ → Option Leaf → Placed → Option Leaf
  found_on a at found x =
      if leaf x && (within x && fits a goal at (counted (leaf x) at (name_text x.look))) then kept a found (record { place = x.place; start = at }) else found

  -- a row behind the first one
  met_on : (a : Affinity) (at len : ℕ) (found : Option Leaf) (x : Placed) → sought_on (met_search p n o a at len found) (row x.place x.look (leaf x) (within x))
      ≡ met_search p n o a (counted (leaf x) at (name_text x.look)) (counted (leaf x && within x) len (name_text x.look)) (found_on a at found x)
  unfolding found_on
  met_on a at len found x =
      let s = met_search p n o a at len found in
      let stays = start_stays s.target (row x.place x.look (leaf x) (within x)) refl in
      ap (λ (t : Start). record {
        target = t;
        offset = o;
        affinity = a;
        at = counted (leaf x) at (name_text x.look);
        len = counted (leaf x && within x) len (name_text x.look);
        found = if leaf x && (within x && fits a (capped (t.start + o)) at (counted (leaf x) at (name_text x.look))) then kept a found (record { place = x.place; start = at }) else found;
      }) stays

  -- upstream, what was found stays
  up_stays : (l : List Placed) (at len : ℕ) (y : Leaf) → (folded sought (met_search p n o Up at len (Some y)) (rows_by leaf within l)).found ≡ Some y
  unfolding found_on
  up_stays [] at len y = refl
  up_stays (x ∷ l) at len y =
      let s = met_search p n o Up at len (Some y) in
      by_go (nat_le o len)
      (λ q. ap (λ (v : Search). v.found) (folded_settled sought s (rows_by leaf within (x ∷ l)) (search_settled s (rw q refl))))
      (λ q. let on : sought s (row x.place x.look (leaf x) (within x)) ≡ sought_on s (row x.place x.look (leaf x) (within x)) = rw q refl in
      let same : found_on Up at (Some y) x ≡ Some y = by_go (leaf x && (within x && fits Up goal at (counted (leaf x) at (name_text x.look)))) (λ k. rw k refl) (λ k. rw k refl) in
      ap (λ (v : Search). (folded sought v (rows_by leaf within l)).found)
      (on ∙ (met_on Up at len (Some y) x ∙ ap (met_search p n o Up (counted (leaf x) at (name_text x.look)) (counted (leaf x && within x) len (name_text x.look))) same))
      ∙ up_stays l (counted (leaf x) at (name_text x.look)) (counted (leaf x && within x) len (name_text x.look)) y)

  found_up : (l : List Placed) (at len : ℕ) → EachOf (λ x. within x ≡ true) l
      → (folded sought (met_search p n o Up at len None) (rows_by leaf within l)).found ≡ picked Up None (filter (is_hit Up goal) (begun_leaves leaf at l))
  unfolding found_on
  found_up [] at len w = refl
  found_up (x ∷ l) at len w =
      let s = met_search p n o Up at len None in
      let t = name_text x.look in
      let inside = w.0 in
      let step : folded sought s (rows_by leaf within (x ∷ l)) ≡ folded sought (met_search p n o Up (counted (leaf x) at t) (counted (leaf x && within x) len t) (found_on Up at None x)) (rows_by leaf within l) =
      ap (λ (v : Search). folded sought v (rows_by leaf within l)) (met_on Up at len None x) in
      by_go (leaf x)
      (λ q. by_go (nat_le goal (capped (at + length t)))
      (λ k. let found : found_on Up at None x ≡ Some (record { place = x.place; start = at }) = rw (q, inside, k) refl in
      ap (λ (v : Search). v.found) step
      ∙ (ap (λ y. (folded sought (met_search p n o Up (counted (leaf x) at t) (counted (leaf x && within x) len t) y) (rows_by leaf within l)).found) found
      ∙ (up_stays l (counted (leaf x) at t) (counted (leaf x && within x) len t) (record { place = x.place; start = at })
      ∙ (rw (q, k) (sym (up_is (record { place = x.place; start = at }) (filter (is_hit Up goal) (begun_leaves leaf (capped (at + length t)) l))))))))
      (λ k. let found : found_on Up at None x ≡ None = rw (q, inside, k) refl in
      ap (λ (v : Search). v.found) step
      ∙ (ap (λ y. (folded sought (met_search p n o Up (counted (leaf x) at t) (counted (leaf x && within x) len t) y) (rows_by leaf within l)).found) found
      ∙ (found_up l (counted (leaf x) at t) (counted (leaf x && within x) len t) w.1 ∙ (rw (q, k) refl)))))
      (λ q. let found : found_on Up at None x ≡ None = rw q refl in
      ap (λ (v : Search). v.found) step
      ∙ (ap (λ y. (folded sought (met_search p n o Up (counted (leaf x) at t) (counted (leaf x && within x) len t) y) (rows_by leaf within l)).found) found
      ∙ (found_up l (counted (leaf x) at t) (counted (leaf x && within x) len t) w.1 ∙ (rw q refl))))

  found_down : (l : List Placed) (at len : ℕ) (found : Option Leaf) → at ≤ 18446744073709551615 → EachOf (λ x. within x ≡ true) l
      → (folded sought (met_search p n o Down at len found) (rows_by leaf within l)).found ≡ picked Down found (filter (is_hit Down goal) (begun_leaves leaf at l))
  unfolding found_on
  found_down [] at len found c w = refl
  found_down (x ∷ l) at len found c w =
      let s = met_search p n o Down at len found in
      let t = name_text x.look in
      let inside = w.0 in
      by_go (nat_lt goal at)
      (λ q. ap (λ (v : Search). v.found) (folded_settled sought s (rows_by leaf within (x ∷ l)) (search_settled s q))
      ∙ ap (picked Down found) (sym (none_late leaf goal at (x ∷ l) c (ltb-true goal at q))))
      (λ q. let by : nat_le at goal ≡ true = (let h = ltb-false goal at q in grind (arith, h)) in
      let on : sought s (row x.place x.look (leaf x) (within x)) ≡ sought_on s (row x.place x.look (leaf x) (within x)) = rw q refl in
      let rest = found_down l (counted (leaf x) at t) (counted (leaf x && within x) len t) (found_on Down at found x) (small (leaf x) at t c) w.1 in
      ap (λ (v : Search). (folded sought v (rows_by leaf within l)).found) (on ∙ met_on Down at len found x)
      ∙ (rest ∙ by_go (leaf x) (λ k. rw (k, inside, by) refl) (λ k. rw k refl)))

  -- so much of the text is counted
  len_within : (a : Affinity) (l : List Placed) (at len : ℕ) (found : Option Leaf) → at ≡ capped (n + len) → len ≤ 18446744073709551615 → EachOf (λ x. within x ≡ true) l
      → IsMeasured o (capped (len + length (joined (filter leaf l)))) (folded sought (met_search p n o a at len found) (rows_by leaf within l)).len
  unfolding joined found_on
  len_within a [] at len found e c w = inl (omega (arith, c))
  len_within a (x ∷ l) at len found e c w =
      let s = met_search p n o a at len found in
      let t = name_text x.look in
      let inside = w.0 in
      by_go (is_found s)
      (λ q. let stays : (folded sought s (rows_by leaf within (x ∷ l))).len ≡ len = ap (λ (v : Search). v.len) (folded_settled sought s (rows_by leaf within (x ∷ l)) (search_settled s q)) in
      let enough : o ≤ len = counts a len found at e q in
      inr (omega (arith, stays, enough), omega (arith, stays, c)))
      (λ q. let on : sought s (row x.place x.look (leaf x) (within x)) ≡ sought_on s (row x.place x.look (leaf x) (within x)) = rw q refl in
      let more : counted (leaf x && within x) len t ≡ counted (leaf x) len t = ap (λ b. counted (leaf x && b) len t) inside ∙ and_true (leaf x) len t in
      let next = counted (leaf x) len t in
      let rest = len_within a l (counted (leaf x) at t) next (found_on a at found x) (both (leaf x) at len t e c) (small (leaf x) len t c) w.1 in
      let same : (folded sought s (rows_by leaf within (x ∷ l))).len ≡ (folded sought (met_search p n o a (counted (leaf x) at t) next (found_on a at found x)) (rows_by leaf within l)).len =
      ap (λ (v : Search). (folded sought v (rows_by leaf within l)).len) (on ∙ (met_on a at len found x ∙ ap (λ k. met_search p n o a (counted (leaf x) at t) k (found_on a at found x)) more)) in
      let whole : capped (next + length (joined (filter leaf l))) ≡ capped (len + length (joined (filter leaf (x ∷ l)))) = more_text leaf within (leaf x) len x (filter leaf l) (capped (next + length (joined (filter leaf l)))) refl c in
      subst (λ k. IsMeasured o k (folded sought s (rows_by leaf within (x ∷ l))).len) whole (subst (IsMeasured o (capped (next + length (joined (filter leaf l))))) (sym same) rest))
    where
      both : (b : Bool) (at len : ℕ) (t : List ℕ) → at ≡ capped (n + len) → len ≤ 18446744073709551615 → counted b at t ≡ capped (n + counted b len t)
      both true at len t e c = omega (arith, e)
      both false at len t e c = e

      counts : (a : Affinity) (len : ℕ) (found : Option Leaf) (at : ℕ) → at ≡ capped (n + len) → is_found_by a (met_search p n o a at len found) ≡ true → o ≤ len
      counts Down len found at e q = let h = ltb-true goal at q in omega (arith, e, h)
      counts Up len None at e q = absurd (false≢true q)
      counts Up len (Some y) at e q = leb-true o len q

  -- behind the place nothing is found, and nothing counts
  behind : (l : List Placed) (s : Search) → EachOf (λ x. within x ≡ false) l → ((folded sought s (rows_by leaf within l)).found ≡ s.found) × ((folded sought s (rows_by leaf within l)).len ≡ s.len)
  behind [] s w = (refl, refl)
  behind (x ∷ l) s w =
      let r = row x.place x.look (leaf x) (within x) in
      let out = w.0 in
      let rest = behind l (sought s r) w.1 in
      by_go (s.target.met && is_found s)
      (λ q. let same : sought s r ≡ s = rw q refl in (rest.0 ∙ ap (λ (v : Search). v.found) same, rest.1 ∙ ap (λ (v : Search). v.len) same))
      (λ q. let on : sought s r ≡ sought_on s r = rw q refl in (
        rest.0 ∙ (ap (λ (v : Search). v.found) on ∙ none_found s x out),
        rest.1 ∙ (ap (λ (v : Search). v.len) on ∙ (ap (λ b. counted (leaf x && b) s.len (name_text x.look)) out ∙ not_counted (leaf x) s.len (name_text x.look))),
      ))
    where
      none_found : (s : Search) (x : Placed) → within x ≡ false → (sought_on s (row x.place x.look (leaf x) (within x))).found ≡ s.found
      none_found s x out = by_go (leaf x) (λ k. rw (k, out) refl) (λ k. rw k refl)

-- ---- the rows up to the place, and the place itself

-- nothing is met yet
abbrev ahead_search : Place → ℕ → Affinity → ℕ → Search
ahead_search p o a n = record { target = record { target = p; met = false; start = n }; offset = o; affinity = a; at = n; len = 0; found = None }

abbrev pub sum_of : (Placed → Bool) → ℕ → List Placed → ℕ
sum_of leaf n [] = n
sum_of leaf n (x ∷ l) = sum_of leaf (counted (leaf x) n (name_text x.look)) l

module _ (leaf within : Placed → Bool) (p : Place) (o : ℕ) (a : Affinity) where
  ahead_on : (n : ℕ) (x : Placed) → within x ≡ false → same_place x.place p ≡ false
      → sought (ahead_search p o a n) (row x.place x.look (leaf x) (within x)) ≡ ahead_search p o a (counted (leaf x) n (name_text x.look))
  ahead_on n x w q = by_go (leaf x) (λ k. rw (k, w, q) refl) (λ k. rw (k, q) refl)

  ahead_all : (l : List Placed) (n : ℕ) → EachOf (λ x. within x ≡ false) l → EachOf (λ x. same_place x.place p ≡ false) l
      → folded sought (ahead_search p o a n) (rows_by leaf within l) ≡ ahead_search p o a (sum_of leaf n l)
  ahead_all [] n w q = refl
  ahead_all (x ∷ l) n w q = ap (λ v. folded sought v (rows_by leaf within l)) (ahead_on n x w.0 q.0) ∙ ahead_all l (counted (leaf x) n (name_text x.look)) w.1 q.1

  -- the place itself: it is met, as if it had been before
  met_now : (n : ℕ) (x : Placed) → within x ≡ true → same_place x.place p ≡ true
      → sought (ahead_search p o a n) (row x.place x.look (leaf x) (within x)) ≡ sought_on (met_search p n o a n 0 None) (row x.place x.look (leaf x) (within x))
  met_now n x w q = by_go (leaf x) (λ k. rw (k, w, q) refl) (λ k. rw (k, q) refl)

  -- it isn't settled there
  met_search_on : (n : ℕ) (x : Placed) → n ≤ 18446744073709551615 → sought (met_search p n o a n 0 None) (row x.place x.look (leaf x) (within x)) ≡ sought_on (met_search p n o a n 0 None) (row x.place x.look (leaf x) (within x))
  met_search_on n x c = go a
    where
      go : (b : Affinity) → sought (met_search p n o b n 0 None) (row x.place x.look (leaf x) (within x)) ≡ sought_on (met_search p n o b n 0 None) (row x.place x.look (leaf x) (within x))
      go Down = let no : nat_lt (capped (n + o)) n ≡ false = (let le : n ≤ capped (n + o) = omega (arith, c) in grind (arith, le)) in rw no refl
      go Up = refl

  block_from : (n : ℕ) (x : Placed) (l : List Placed) → n ≤ 18446744073709551615 → within x ≡ true → same_place x.place p ≡ true
      → folded sought (ahead_search p o a n) (rows_by leaf within (x ∷ l)) ≡ folded sought (met_search p n o a n 0 None) (rows_by leaf within (x ∷ l))
  block_from n x l c w q = ap (λ v. folded sought v (rows_by leaf within l)) (met_now n x w q ∙ sym (met_search_on n x c))

pub sum_is : (leaf : Placed → Bool) (n : ℕ) (l : List Placed) → n ≤ 18446744073709551615 → sum_of leaf n l ≡ capped (n + length (joined (filter leaf l)))
unfolding joined
sum_is leaf n [] c = omega (arith, c)
sum_is leaf n (x ∷ l) c =
    more_text leaf leaf (leaf x) n x (filter leaf l) (sum_of leaf (counted (leaf x) n (name_text x.look)) l) (sum_is leaf (counted (leaf x) n (name_text x.look)) l (small (leaf x) n (name_text x.look) c)) c

-- ---- the whole list

-- the state behind the rows of the place
record Ends (f : Forest) (p : Place) (o : ℕ) (a : Affinity) (block : List Placed) : Type 0 where
  last : Search
  found : (folded sought (begun_search p o a) (rows (stitched f) p)).found ≡ last.found
  len : (folded sought (begun_search p o a) (rows (stitched f) p)).len ≡ last.len
  is : last ≡ folded sought (met_search p (start_of (stitched f) p) o a (start_of (stitched f) p) 0 None) (rows_by (is_leaf (stitched f)) (is_within p) block)

ends : (f : Forest) (p : Place) (o : ℕ) (a : Affinity) (g : Segment (stitched f) p) → Ends f p o a (block_of g)
unfolding rows start_of
ends f p o a g =
    let l = stitched f in
    let block = block_of g in
    let start = begun_search p o a in
    let n = start_of l p in
    let by : List Placed → List Row = rows_by (is_leaf l) (is_within p) in
    let row_of : Placed → Row = λ x. row x.place x.look (is_leaf l x) (is_within p x) in
    let parted : by l ≡ by g.front ++ (by block ++ by g.back) = ap (map row_of) g.whole ∙ (map-append row_of g.front (block ++ g.back) ∙ ap (λ v. by g.front ++ v) (map-append row_of block g.back)) in
    let z = length (joined (filter (is_leaf l) g.front)) in
    let zero_is : capped (0 + z) ≡ capped z = omega arith in
    let ahead : folded sought start (by g.front) ≡ ahead_search p o a n =
    ahead_all (is_leaf l) (is_within p) p o a g.front 0 g.clear_front (clear_apart p g.front g.clear_front)
    ∙ ap (ahead_search p o a) (sum_is (is_leaf l) 0 g.front (omega arith) ∙ (zero_is ∙ ap (λ v. capped (length (joined (filter (is_leaf l) v)))) (sym g.ahead))) in
    let own : same_place g.head.place p ≡ true = ap (λ q. same_place q p) g.at ∙ same_self p in
    let state = folded sought (met_search p n o a n 0 None) (by block) in
    let whole : folded sought start (by l) ≡ folded sought state (by g.back) =
    ap (folded sought start) parted
    ∙ (folded-append sought start (by g.front) (by block ++ by g.back)
    ∙ (ap (λ v. folded sought v (by block ++ by g.back)) ahead
    ∙ (folded-append sought (ahead_search p o a n) (by block) (by g.back)
    ∙ ap (λ v. folded sought v (by g.back)) (block_from (is_leaf l) (is_within p) p o a n g.head g.sub (start_small l p) g.inside.0 own)))) in
    let back = behind (is_leaf l) (is_within p) p n o g.back state g.clear_back in
    record { last = state; found = ap (λ (v : Search). v.found) whole ∙ back.0; len = ap (λ (v : Search). v.len) whole ∙ back.1; is = refl }

-- so much of the place's text is counted
pub search_len : (f : Forest) (p : Place) (o : ℕ) (a : Affinity) (s : Search) → IsSound f → has_place (stitched f) p ≡ true → s ≡ folded sought (begun_search p o a) (rows (stitched f) p) → IsMeasured o (text_len (stitched f) p) s.len
unfolding text_len text_of joined
search_len f p o a s w h e =
    let l = stitched f in
    let g = segment_at f p w h in
    let n = start_of l p in
    let r = ends f p o a g in
    let c = start_small l p in
    let len : s.len ≡ (folded sought (met_search p n o a n 0 None) (rows_by (is_leaf l) (is_within p) (block_of g))).len = ap (λ (v : Search). v.len) e ∙ (r.len ∙ ap (λ (v : Search). v.len) r.is) in
    let z = length (joined (filter (is_leaf l) (block_of g))) in
    let zero_is : capped (0 + z) ≡ capped z = omega arith in
    let whole : capped z ≡ capped (length (joined (leaves_in l p))) = ap (λ v. capped (length (joined v))) (sym (leaves_are_of l p g)) in
    let measured = len_within (is_leaf l) (is_within p) p n o a (block_of g) n 0 None (omega (arith, c)) (omega arith) g.inside in
    subst (λ k. IsMeasured o k s.len) (zero_is ∙ whole) (subst (IsMeasured o (capped (0 + z))) (sym len) measured)

-- ---- what is found

filter_map : {A B : Type 0} (h : B → Bool) (f : A → B) (l : List A) → filter h (map f l) ≡ map f (filter (λ x. h (f x)) l)
filter_map h f [] = refl
filter_map h f (x ∷ l) = let e = filter_map h f l in by_go (h (f x)) (λ q. rw (q, e) refl) (λ q. rw (q, e) refl)

last_or_map : {A B : Type 0} (f : A → B) (d : A) (l : List A) → last_or (f d) (map f l) ≡ f (last_or d l)
last_or_map f d [] = refl
last_or_map f d (x ∷ l) = last_or_map f x l

last_of_map : {A B : Type 0} (f : A → B) (l : List A) → last_of (map f l) ≡ option_map f (last_of l)
last_of_map f [] = refl
last_of_map f (x ∷ l) = last_of-cons (f x) (map f l) ∙ (ap Some (last_or_map f x l) ∙ ap (option_map f) (sym (last_of-cons x l)))

first_of_map : {A B : Type 0} (f : A → B) (l : List A) → first_of (map f l) ≡ option_map f (first_of l)
first_of_map f [] = refl
first_of_map f (x ∷ l) = refl

pub map_twice : {A B C : Type 0} (g : B → C) (f : A → B) (o : Option A) → option_map g (option_map f o) ≡ option_map (λ x. g (f x)) o
map_twice g f None = refl
map_twice g f (Some x) = refl

pub picked_leaf : (l : List Placed) (p : Place) (g : ℕ) (a : Affinity) → picked a None (filter (is_hit a g) (map (begun_at l) (leaves_in l p))) ≡ option_map (λ s. leaf_of (begun_at l s)) (leaf_at l p g a)
unfolding leaf_at
picked_leaf l p g Down =
    picked_down (filter (is_hit Down g) (map (begun_at l) (leaves_in l p)))
    ∙ (ap (λ ms. option_map leaf_of (last_of ms)) (filter_map (is_hit Down g) (begun_at l) (leaves_in l p))
    ∙ (ap (option_map leaf_of) (last_of_map (begun_at l) (filter (starts_by l g) (leaves_in l p))) ∙ map_twice leaf_of (begun_at l) (last_of (filter (starts_by l g) (leaves_in l p)))))
picked_leaf l p g Up =
    picked_up (filter (is_hit Up g) (map (begun_at l) (leaves_in l p)))
    ∙ (ap (λ ms. option_map leaf_of (first_of ms)) (filter_map (is_hit Up g) (begun_at l) (leaves_in l p))
    ∙ (ap (option_map leaf_of) (first_of_map (begun_at l) (filter (ends_from l g) (leaves_in l p))) ∙ map_twice leaf_of (begun_at l) (first_of (filter (ends_from l g) (leaves_in l p)))))

found_is : (f : Forest) (p : Place) (o : ℕ) (a : Affinity) → IsSound f → has_place (stitched f) p ≡ true
    → (folded sought (begun_search p o a) (rows (stitched f) p)).found ≡ option_map (λ s. leaf_of (begun_at (stitched f) s)) (leaf_at (stitched f) p (capped (start_of (stitched f) p + o)) a)
found_is f p o a w h =
    let l = stitched f in
    let g = segment_at f p w h in
    let n = start_of l p in
    let goal = capped (n + o) in
    let r = ends f p o a g in
    r.found ∙ (ap (λ (v : Search). v.found) r.is ∙ (within a g n goal ∙ (ap (λ ms. picked a None (filter (is_hit a goal) ms)) (leaves_start l p g (list_once f w)) ∙ picked_leaf l p goal a)))
  where
    within : (a : Affinity) (g : Segment (stitched f) p) (n goal : ℕ) → (folded sought (met_search p (start_of (stitched f) p) o a (start_of (stitched f) p) 0 None) (rows_by (is_leaf (stitched f)) (is_within p) (block_of g))).found
        ≡ picked a None (filter (is_hit a (capped (start_of (stitched f) p + o))) (begun_leaves (is_leaf (stitched f)) (start_of (stitched f) p) (block_of g)))
    within Down g n goal = found_down (is_leaf (stitched f)) (is_within p) p (start_of (stitched f) p) o (block_of g) (start_of (stitched f) p) 0 None (start_small (stitched f) p) g.inside
    within Up g n goal = found_up (is_leaf (stitched f)) (is_within p) p (start_of (stitched f) p) o (block_of g) (start_of (stitched f) p) 0 g.inside

-- ---- what stays the same

target_is : (rs : List Row) (s : Search) → (folded sought s rs).target ≡ folded started s.target rs
target_is [] s = refl
target_is (r ∷ rs) s = by_go (s.target.met && is_found s)
    (λ q. let met = (and_parts s.target.met (is_found s) q).0 in
    ap (λ (v : Search). v.target) (folded_settled sought s (r ∷ rs) (search_settled s q)) ∙ sym (folded_settled started s.target (r ∷ rs) (record { stays = λ v. start_stays s.target v met })))
    (λ q. let on : sought s r ≡ sought_on s r = rw q refl in ap (λ (v : Search). (folded sought v rs).target) on ∙ target_is rs (sought_on s r))

asked_is : (rs : List Row) (s : Search) → ((folded sought s rs).offset ≡ s.offset) × ((folded sought s rs).affinity ≡ s.affinity)
asked_is [] s = (refl, refl)
asked_is (r ∷ rs) s =
    let rest = asked_is rs (sought s r) in
    by_go (s.target.met && is_found s)
    (λ q. let same : sought s r ≡ s = rw q refl in (rest.0 ∙ ap (λ (v : Search). v.offset) same, rest.1 ∙ ap (λ (v : Search). v.affinity) same))
    (λ q. let on : sought s r ≡ sought_on s r = rw q refl in (rest.0 ∙ ap (λ (v : Search). v.offset) on, rest.1 ∙ ap (λ (v : Search). v.affinity) on))

pub form_told : (f : Forest) (p : Place) (o : ℕ) (a : Affinity) (s : Search) (r : Option Pos) → IsSound f → has_place (stitched f) p ≡ true → s ≡ folded sought (begun_search p o a) (rows (stitched f) p)
    → r ≡ option_map (pos_on (goal_of s) s.affinity) s.found → r ≡ leaf_form (stitched f) p (capped (start_of (stitched f) p + o)) a
unfolding leaf_form
form_told f p o a s r w h e k =
    let l = stitched f in
    let begun = begun_search p o a in
    let asked = asked_is (rows l p) begun in
    let start : s.target.start ≡ start_of l p = ap (λ (v : Search). v.target.start) e ∙ (ap (λ (v : Start). v.start) (target_is (rows l p) begun) ∙ start_told l p p) in
    let offset : s.offset ≡ o = ap (λ (v : Search). v.offset) e ∙ asked.0 in
    let affinity : s.affinity ≡ a = ap (λ (v : Search). v.affinity) e ∙ asked.1 in
    let goal : goal_of s ≡ capped (start_of l p + o) = ap₂ (λ n m. capped (n + m)) start offset in
    let found : s.found ≡ option_map (λ s. leaf_of (begun_at l s)) (leaf_at l p (capped (start_of l p + o)) a) = ap (λ (v : Search). v.found) e ∙ found_is f p o a w h in
    k ∙ (ap₂ (λ n b. option_map (pos_on n b) s.found) goal affinity
    ∙ (ap (option_map (pos_on (capped (start_of l p + o)) a)) found ∙ map_twice (pos_on (capped (start_of l p + o)) a) (λ s. leaf_of (begun_at l s)) (leaf_at l p (capped (start_of l p + o)) a)))
