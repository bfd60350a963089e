-- Where a place stands, each offset of its text has a leaf form, with either affinity.
use Rattle.std.proofs.Common.{ℕ, zero, suc, ◌+◌, ◌≤◌, ◌<◌, ◌≡◌, Bool, true, ◌&&◌, List, [], ◌∷◌, map, filter, flat_map, take, length, refl, sym, ap, ◌∙◌, arith, length-append, Option, Some, option_and_then}
use Rattle.std.specs.Prelude.{nat_le, nat_lt, is_some, slice_get, Result, Ok, Err}
use Rattle.std.specs.List.{list_any}
use Rattle.std.proofs.lemmas.Bool.{false≢true, leb-true, ltb-false}
use Rattle.ax_base.specs.declared.position.Place.{Place}
use Rattle.ax_base.specs.declared.position.Affinity.{Affinity}
use Rattle.ax_base.specs.declared.position.Affinity.TheVariants.{Up, Down}
use Rattle.ax_base.specs.declared.position.Pos.{Pos}
use Rattle.ax_base.specs.declared.position.Pos.TheVariants.{Null, Tree, Text}
use Rattle.ax_base.specs.declared.position.PosErr.{PosErr}
use Rattle.ax_base.specs.declared.position.PosErr.TheVariants.{NoTree, NoNode, BadIndex, BadOffset}
use Rattle.ax_base.specs.declared.position.Unit as position
use Rattle.ax_base.specs.declared.position.Way.{Way}
use Rattle.ax_base.specs.declared.position.Way.TheVariants.{Next, Prev}
use Rattle.ax_trees.proofs.Trees.{by_go}
use Rattle.ax_tree.specs.Forest.{Forest, IsSound}
use Rattle.ax_rules.specs.Sequences.{first_of, until}
use Rattle.ax_rules.specs.Looks.{name_text}
use Rattle.ax_rules.specs.Stitched.{Placed, place_at, stitched, has_place, children_of, before, is_within, is_leaf, leaves}
use Rattle.ax_rules.specs.Texts.{capped, joined, leaves_in, text_of, text_len, start_of}
use Rattle.ax_rules.specs.Positions.{Mark, mark, is_live, child_mark, text_mark, mark_in, checked, global_offset, starts_by, ends_from, leaf_at, leaf_form, text_pos}
use Rattle.ax_rules.specs.Moves.{bounds_of, bound_after, bound_before, bound_of, first_place, move_of}
use Rattle.ax_stitch.proofs.Places.{same_self}
use Rattle.ax_place_laws.proofs.Starts.{Begun, begun_leaves, begun_at, list_once}
use Rattle.ax_place_laws.proofs.Parted.{ends_at}
use Rattle.ax_place_laws.proofs.Before.{text_is, both_filters}
use Rattle.ax_place_laws.proofs.Tests.{any_map, first_passes, passes_first, last_passes, some_mapped}
use Rattle.ax_place_laws.proofs.Leaves.{leaf_there}
use Rattle.ax_place_laws.proofs.Segments.{segment_at, block_of, leaves_are_of, leaves_start, start_small}

-- ---- downstream

abbrev begins_by : ℕ → Begun → Bool
begins_by g m = nat_le m.start g

first_begins : (leaf : Placed → Bool) (n g : ℕ) (b : List Placed) → n ≤ g → list_any leaf b ≡ true → list_any (begins_by g) (begun_leaves leaf n b) ≡ true
first_begins leaf n g [] h e = absurd (false≢true e)
first_begins leaf n g (x ∷ b) h e = by_go (leaf x)
    (λ q. let le : nat_le n g ≡ true = grind (arith, h) in rw (q, le) refl)
    (λ q. rw q (first_begins leaf n g b h (rw q at e)))

pub form_down : (f : Forest) (p : Place) (g : ℕ) → IsSound f → has_place (stitched f) p ≡ true → start_of (stitched f) p ≤ g → is_some (leaf_form (stitched f) p g Down) ≡ true
unfolding leaf_form leaf_at
form_down f p g s h e =
    let l = stitched f in
    let c = segment_at f p s h in
    let some : list_any (is_leaf l) (block_of c) ≡ true = passes_first (is_leaf l) (block_of c) (ap (λ v. is_some (first_of v)) (sym (leaves_are_of l p c)) ∙ leaf_there f p s h) in
    let begun : list_any (begins_by g) (map (begun_at l) (leaves_in l p)) ≡ true =
    ap (list_any (begins_by g)) (sym (leaves_start l p c (list_once f s))) ∙ first_begins (is_leaf l) (start_of l p) g (block_of c) e some in
    some_mapped (λ (x : Placed). text_pos l x.place g Down) _ (last_passes (starts_by l g) (leaves_in l p) (sym (any_map (begins_by g) (begun_at l) (leaves_in l p)) ∙ begun))

-- ---- upstream

abbrev ends_by : ℕ → Begun → Bool
ends_by g m = nat_le g (capped (m.start + length (name_text m.leaf.look)))

first_ends : (leaf : Placed → Bool) (n g : ℕ) (b : List Placed) → n ≤ 18446744073709551615 → g ≤ n → list_any leaf b ≡ true → list_any (ends_by g) (begun_leaves leaf n b) ≡ true
first_ends leaf n g [] c h e = absurd (false≢true e)
first_ends leaf n g (x ∷ b) c h e = by_go (leaf x)
    (λ q. let here : g ≤ capped (n + length (name_text x.look)) = omega arith in let le : nat_le g (capped (n + length (name_text x.look))) ≡ true = grind (arith, here) in rw (q, le) refl)
    (λ q. rw q (first_ends leaf n g b c h (rw q at e)))

later_ends : (leaf : Placed → Bool) (n g : ℕ) (b : List Placed) → n < g → g ≤ capped (n + length (joined (filter leaf b))) → list_any (ends_by g) (begun_leaves leaf n b) ≡ true
unfolding joined
later_ends leaf n g [] h e = absurd (omega (arith, h, e))
later_ends leaf n g (x ∷ b) h e =
    let t = name_text x.look in
    by_go (leaf x)
    (λ q. by_go (nat_le g (capped (n + length t)))
    (λ k. rw (q, k) refl)
    (λ k. let whole : length (joined (filter leaf (x ∷ b))) ≡ length t + length (joined (filter leaf b)) = rw q (length-append t (joined (filter leaf b))) in
    let more : capped (n + length t) < g = grind (arith, k) in
    rw (q, k) (later_ends leaf (capped (n + length t)) g b more (omega (arith, e, whole)))))
    (λ q. let same : length (joined (filter leaf (x ∷ b))) ≡ length (joined (filter leaf b)) = rw q refl in rw q (later_ends leaf n g b h (omega (arith, e, same))))

pub form_up : (f : Forest) (p : Place) (g : ℕ) → IsSound f → has_place (stitched f) p ≡ true → g ≤ capped (start_of (stitched f) p + length (text_of (stitched f) p)) → is_some (leaf_form (stitched f) p g Up) ≡ true
unfolding leaf_form leaf_at text_of
form_up f p g s h e =
    let l = stitched f in
    let c = segment_at f p s h in
    let some : list_any (is_leaf l) (block_of c) ≡ true = passes_first (is_leaf l) (block_of c) (ap (λ v. is_some (first_of v)) (sym (leaves_are_of l p c)) ∙ leaf_there f p s h) in
    let text : g ≤ capped (start_of l p + length (joined (filter (is_leaf l) (block_of c)))) = let k = ap (λ v. length (joined v)) (leaves_are_of l p c) in omega (arith, e, k) in
    let ended : list_any (ends_by g) (begun_leaves (is_leaf l) (start_of l p) (block_of c)) ≡ true = by_go (nat_le g (start_of l p))
    (λ q. first_ends (is_leaf l) (start_of l p) g (block_of c) (start_small l p) (leb-true g (start_of l p) q) some)
    (λ q. later_ends (is_leaf l) (start_of l p) g (block_of c) (grind (arith, q)) text) in
    let mapped : list_any (ends_by g) (map (begun_at l) (leaves_in l p)) ≡ true = ap (list_any (ends_by g)) (sym (leaves_start l p c (list_once f s))) ∙ ended in
    some_mapped (λ (x : Placed). text_pos l x.place g Up) _ (first_passes (ends_from l g) (leaves_in l p) (sym (any_map (ends_by g) (begun_at l) (leaves_in l p)) ∙ mapped))

-- ---- offsets and positions

pub form_at : (f : Forest) (p : Place) (o : ℕ) (a : Affinity) → IsSound f → has_place (stitched f) p ≡ true → o ≤ text_len (stitched f) p
    → is_some (leaf_form (stitched f) p (capped (start_of (stitched f) p + o)) a) ≡ true
unfolding text_len
form_at f p o Down s h e = form_down f p (capped (start_of (stitched f) p + o)) s h (let c = start_small (stitched f) p in omega (arith, c))
form_at f p o Up s h e = form_up f p (capped (start_of (stitched f) p + o)) s h (omega (arith, e))

-- a mark stands at a place of the list, at an offset of its text
pub record MarkStands (f : Forest) (m : Mark) : Type 0 where
  pub there : has_place (stitched f) m.place ≡ true
  pub within : m.offset ≤ text_len (stitched f) m.place

fewer : (keep stop : Placed → Bool) (l : List Placed) → length (joined (filter keep (until stop l))) ≤ length (joined (filter keep l))
unfolding joined
fewer keep stop [] = omega arith
fewer keep stop (x ∷ l) =
    let rest = fewer keep stop l in
    let t = name_text x.look in
    by_go (stop x) (λ q. rw q (omega arith))
    (λ q. by_go (keep x)
    (λ k. let one = length-append t (joined (filter keep (until stop l))) in let two = length-append t (joined (filter keep l)) in rw (q, k) (omega (arith, rest, one, two)))
    (λ k. rw (q, k) rest))

first_text : (f : Forest) (p : Place) (c : ℕ) → IsSound f → has_place (stitched f) p ≡ true → c ≤ length (children_of (stitched f) p)
    → capped (length (flat_map (text_of (stitched f)) (take c (children_of (stitched f) p)))) ≤ text_len (stitched f) p
unfolding text_len text_of leaves_in leaves
first_text f p zero s h n = omega arith
first_text f p (suc c) s h n =
    let l = stitched f in
    let end = slice_get (children_of l p) (suc c) in
    let part = ap (λ v. length v) (text_is f p c end s h n refl) in
    let less = fewer (λ x. is_leaf l x && is_within p x) (ends_at end) l in
    let all = ap (λ v. length (joined v)) (both_filters (is_leaf l) (is_within p) l) in
    omega (arith, part, less, all)

pub child_stands : (f : Forest) (p : Place) (c : ℕ) (m : Mark) → IsSound f → has_place (stitched f) p ≡ true → child_mark (stitched f) p c ≡ Ok m → MarkStands f m
unfolding child_mark
child_stands f p c m s h e =
    let l = stitched f in
    let o = capped (length (flat_map (text_of l) (take c (children_of l p)))) in
    by_go (nat_lt (length (children_of l p)) c)
    (λ q. absurd (let k : ◌≡◌ {A = Result Mark PosErr} (Err (BadIndex c (length (children_of l p)))) (Ok m) = rw q at e in cc))
    (λ q. let k : ◌≡◌ {A = Result Mark PosErr} (Ok (mark p o Down)) (Ok m) = rw q at e in
    let same : mark p o Down ≡ m = cc in
    let within = first_text f p c s h (ltb-false (length (children_of l p)) c q) in
    record {
      there = ap (λ (v : Mark). has_place l v.place) (sym same) ∙ h;
      within = let a = ap (λ (v : Mark). v.offset) same in let b = ap (λ (v : Mark). text_len l v.place) same in omega (arith, within, a, b);
    })

text_stands : (f : Forest) (p : Place) (o : ℕ) (a : Affinity) (m : Mark) → has_place (stitched f) p ≡ true → text_mark (stitched f) p o a ≡ Ok m → MarkStands f m
unfolding text_mark
text_stands f p o a m h e =
    let l = stitched f in
    by_go (nat_lt (text_len l p) o)
    (λ q. absurd (let k : ◌≡◌ {A = Result Mark PosErr} (Err (BadOffset o (text_len l p))) (Ok m) = rw q at e in cc))
    (λ q. let k : ◌≡◌ {A = Result Mark PosErr} (Ok (mark p o a)) (Ok m) = rw q at e in
    let same : mark p o a ≡ m = cc in
    let within = ltb-false (text_len l p) o q in
    record {
      there = ap (λ (v : Mark). has_place l v.place) (sym same) ∙ h;
      within = let a = ap (λ (v : Mark). v.offset) same in let b = ap (λ (v : Mark). text_len l v.place) same in omega (arith, within, a, b);
    })

in_stands : (f : Forest) (p : Place) (m : Mark) (r : Result Mark PosErr) → (has_place (stitched f) p ≡ true → r ≡ Ok m → MarkStands f m) → mark_in f (stitched f) p r ≡ Ok m → MarkStands f m
unfolding mark_in
in_stands f p m r go h = by_go (is_live f p.tree)
    (λ q. by_go (has_place (stitched f) p)
    (λ s. go s (rw (q, s) at h))
    (λ s. absurd (let e : ◌≡◌ {A = Result Mark PosErr} (Err NoNode) (Ok m) = rw (q, s) at h in cc)))
    (λ q. absurd (let e : ◌≡◌ {A = Result Mark PosErr} (Err NoTree) (Ok m) = rw q at h in cc))

pub checked_stands : (f : Forest) (x : Pos) (m : Mark) → IsSound f → checked f x ≡ Ok m → MarkStands f m
unfolding checked
checked_stands f Null m s h = absurd (cc)
checked_stands f (Tree t z c) m s h = in_stands f (place_at t z) m (child_mark (stitched f) (place_at t z) c) (child_stands f (place_at t z) c m s) h
checked_stands f (Text t z o a) m s h = in_stands f (place_at t z) m (text_mark (stitched f) (place_at t z) o a) (text_stands f (place_at t z) o a m) h

pub form_of_position : (f : Forest) (x : Pos) (m : Mark) → IsSound f → checked f x ≡ Ok m → is_some (leaf_form (stitched f) m.place (global_offset (stitched f) m) m.affinity) ≡ true
unfolding global_offset
form_of_position f x m s h = let c = checked_stands f x m s h in form_at f m.place m.offset m.affinity s c.there c.within

-- ---- moves

record First (l : List Placed) : Type 0 where
  place : Place
  first : first_place l ≡ Some place
  there : has_place l place ≡ true
  start : start_of l place ≡ 0

first_stands : (x : Placed) (l : List Placed) → First (x ∷ l)
unfolding has_place start_of before joined
first_stands x l = let self = same_self x.place in record { place = x.place; first = refl; there = rw self refl; start = rw self refl }

pub first_start : (l : List Placed) (p : Place) → first_place l ≡ Some p → (has_place l p ≡ true) × (start_of l p ≡ 0)
first_start [] p e = absurd (cc)
first_start (x ∷ l) p e =
    let s = first_stands x l in
    let both : ◌≡◌ {A = Option Place} (Some s.place) (Some p) = sym s.first ∙ e in
    let same : s.place ≡ p = cc in
    (ap (has_place (x ∷ l)) (sym same) ∙ s.there, ap (start_of (x ∷ l)) (sym same) ∙ s.start)

nothing_bounds : (u : position.Unit) (w : Way) (g b : ℕ) → bound_of [] u w g ≡ Some b → ⊥
unfolding bound_after bound_before bounds_of leaves
nothing_bounds u Next g b h = cc
nothing_bounds u Prev g b h = cc

first_where_bound : (l : List Placed) (u : position.Unit) (w : Way) (g b : ℕ) → bound_of l u w g ≡ Some b → First l
first_where_bound [] u w g b h = absurd (nothing_bounds u w g b h)
first_where_bound (x ∷ l) u w g b h = first_stands x l

pub move_there : (f : Forest) (u : position.Unit) (w : Way) (m : Mark) (g : ℕ) → IsSound f → bound_of (stitched f) u w (global_offset (stitched f) m) ≡ Some g → is_some (move_of (stitched f) u w m) ≡ true
unfolding move_of
move_there f u w m g s h =
    let l = stitched f in
    let c = first_where_bound l u w (global_offset l m) g h in
    ap (λ o. is_some (option_and_then (λ b. option_and_then (λ p. leaf_form l p b Down) (first_place l)) o)) h
    ∙ (ap (λ o. is_some (option_and_then (λ p. leaf_form l p g Down) o)) c.first ∙ form_down f c.place g s c.there (let z = c.start in omega (arith, z)))
