-- The last bound below an offset.
use Rattle.std.proofs.Common.{ℕ, ◌+◌, ◌≤◌, ◌<◌, ◌≡◌, Bool, true, false, cond, not, ◌||◌, List, [], ◌∷◌, ◌++◌, flat_map, filter, length, refl, sym, ap, ◌∙◌, subst, arith, Option, Some, None}
use Rattle.std.specs.Prelude.{nat_lt, nat_le}
use Rattle.std.specs.Str.{chars, IsUtf8}
use Rattle.std.proofs.Math.Utf8.{scalars}
use Rattle.std.proofs.lemmas.Bool.{false≢true, leb-true, ltb-false}
use Rattle.std.proofs.lemmas.Str.{chars-nil, chars-encodes}
use Rattle.unicode_segmentation.specs.Segments.{cut, segments}
use Rattle.ax_base.specs.declared.position.Place.{Place}
use Rattle.ax_base.specs.declared.position.Unit as position
use Rattle.ax_base.specs.declared.position.Unit.TheVariants.{Char, Word, Leaf}
use Rattle.ax_base.specs.TextBounds.{grapheme_bounds, word_starts}
use Rattle.ax_trees.specs.Spots.{or_else}
use Rattle.ax_trees.proofs.Trees.{by_go}
use Rattle.ax_tree.specs.Forest.{Forest, IsSound}
use Rattle.ax_rules.specs.Sequences.{first_of, last_of}
use Rattle.ax_rules.specs.Looks.{name_text}
use Rattle.ax_rules.specs.Stitched.{Placed, places, stitched, is_leaf, is_within, leaves}
use Rattle.ax_rules.specs.Texts.{capped}
use Rattle.ax_rules.specs.Moves.{bounds_within, bounds_of, bound_before}
use Rattle.ax_place_laws.specs.Lists.{EachOf, Ascends}
use Rattle.ax_place_laws.proofs.Each.{each_append}
use Rattle.ax_place_laws.proofs.Starts.{begun_leaves, list_once}
use Rattle.ax_place_laws.proofs.Pieces.{bounds_ascend_within}
use Rattle.ax_place_laws.proofs.Bounds.{leaf_bounds, bounds_are}
use Rattle.ax_position.specs.Walks.{row, rows, folded, IsSettled}
use Rattle.ax_position.proofs.Descents.{folded_settled}
use Rattle.ax_position.proofs.StartLemmas.{rows_by}
use Rattle.ax_moves.specs.declared.below.Below.{Below}
use Rattle.ax_moves.specs.declared.below.Held.{Held}
use Rattle.ax_moves.specs.Bounds.{moved, bounds_from, listed, takes_memory, held_text, is_below, searched_below, text_held, last_held}
use Rattle.ax_moves.proofs.ListLemmas.{last_kept-append, last_none, or_else_twice}

abbrev below : ℕ → List ℕ → Option ℕ
below g bounds = last_of (filter (λ b. nat_lt b g) bounds)

from_is : (g b : ℕ) → g ≤ b → nat_lt b g ≡ false
from_is g b h = grind (arith, h)

-- ---- the bounds of one text

none_from : (g n : ℕ) (ws : List ℕ) → g ≤ n → n ≤ 18446744073709551615 → EachOf (λ b. nat_lt b g ≡ false) (moved n ws)
none_from g n [] h c = tt
none_from g n (w ∷ ws) h c = (from_is g (capped (n + w)) (omega (arith, h, c)), none_from g n ws h c)

-- where the first isn't below, none is
none_behind : (g n : ℕ) (w : ℕ) (ws : List ℕ) → g ≤ capped (n + w) → EachOf (λ b. w ≤ b) ws → EachOf (λ b. nat_lt b g ≡ false) (moved n ws)
none_behind g n w [] h e = tt
none_behind g n w (v ∷ ws) h e = (let k = e.0 in from_is g (capped (n + v)) (omega (arith, h, k)), none_behind g n w ws h e.1)

none_below : (g n : ℕ) (ws : List ℕ) → Ascends ws → is_below g (first_of (moved n ws)) ≡ false → below g (moved n ws) ≡ None
none_below g n [] a h = refl
none_below g n (w ∷ ws) a h =
    let least = ltb-false (capped (n + w)) g h in
    last_none (λ b. nat_lt b g) (moved n (w ∷ ws)) (h, none_behind g n w ws least a.0)

-- where the first is below, there is a last that is
record Found (o : Option ℕ) : Type 0 where
  bound : ℕ
  is : o ≡ Some bound

some_below : (g n : ℕ) (ws : List ℕ) → is_below g (first_of (moved n ws)) ≡ true → Found (below g (moved n ws))
some_below g n [] h = absurd (false≢true h)
some_below g n (w ∷ ws) h =
    let b = capped (n + w) in
    let one : below g (b ∷ []) ≡ Some b = rw h refl in
    go (below g (moved n ws)) b (last_kept-append (λ b. nat_lt b g) (b ∷ []) (moved n ws) ∙ ap (or_else (below g (moved n ws))) one)
  where
    go : (o : Option ℕ) (b : ℕ) → below g (moved n (w ∷ ws)) ≡ or_else o (Some b) → Found (below g (moved n (w ∷ ws)))
    go None b e = record { bound = b; is = e }
    go (Some c) b e = record { bound = c; is = e }

-- ---- texts that are held

-- what is held gives the bounds of the leaf
held_bounds : (u : position.Unit) (n : ℕ) (text : List ℕ) → bounds_from u n (text_held (held_text u text)) ≡ bounds_from u n text
held_bounds Leaf n text = refl
held_bounds Char n [] = refl
held_bounds Char n (c ∷ text) = refl
held_bounds Word n [] = refl
held_bounds Word n (c ∷ text) = refl

held_twice : (u : position.Unit) (text : List ℕ) → held_text u text ≡ held_text u (text_held (held_text u text))
held_twice Leaf text = refl
held_twice Char [] = refl
held_twice Char (c ∷ text) = refl
held_twice Word [] = refl
held_twice Word (c ∷ text) = refl

-- the bounds that are listed are those of the unit, where a text is held
pub listed_is : (u : position.Unit) (h : Held) (text : List ℕ) → h.text ≡ held_text u (text_held h.text) → h.text ≡ Some text → moved h.start (listed u text) ≡ bounds_from u h.start (text_held h.text)
listed_is Leaf h text e s = absurd (let k : ◌≡◌ {A = Option (List ℕ)} (Some text) None = sym s ∙ e in cc)
listed_is Char h text e s = ap (λ t. moved h.start (grapheme_bounds (text_held t))) (sym s)
listed_is Word h text e s = ap (λ t. moved h.start (word_starts (text_held t))) (sym s)

pub none_held : (u : position.Unit) (g : ℕ) (h : Held) → h.text ≡ None → last_held u g (record { start = h.start; text = None }) ≡ last_held u g h
none_held u g h e = ap (λ t. last_held u g (record { start = h.start; text = t })) (sym e)

pub memory_taken : (u : position.Unit) (h : Held) (text : List ℕ) → h.text ≡ held_text u (text_held h.text) → h.text ≡ Some text → takes_memory u ≡ true
memory_taken Leaf h text e s = absurd (let k : ◌≡◌ {A = Option (List ℕ)} (Some text) None = sym s ∙ e in cc)
memory_taken Char h text e s = refl
memory_taken Word h text e s = refl

pub start_some : (start g : ℕ) → start ≤ 18446744073709551615 → start < g → ◌≡◌ {A = Option ℕ} (Some start) (below g (moved start (0 ∷ [])))
start_some start g c h =
    let e : capped (start + 0) ≡ start = omega (arith, c) in
    let b : nat_lt start g ≡ true = grind (arith, h) in
    let one : below g (start ∷ []) ≡ Some start = rw b refl in
    sym (ap (λ n. below g (n ∷ [])) e ∙ one)

pub start_none : (start g : ℕ) → start ≤ 18446744073709551615 → g ≤ start → ◌≡◌ {A = Option ℕ} None (below g (moved start (0 ∷ [])))
start_none start g c h =
    let e : capped (start + 0) ≡ start = omega (arith, c) in
    let b : nat_lt start g ≡ false = grind (arith, h) in
    let none : below g (start ∷ []) ≡ None = rw b refl in
    sym (ap (λ n. below g (n ∷ [])) e ∙ none)

pub empty_characters : grapheme_bounds [] ≡ 0 ∷ []
unfolding segments cut
empty_characters = rw chars-nil refl

pub empty_words : word_starts [] ≡ []
unfolding segments cut
empty_words = rw chars-nil refl

pub no_word : (text : List ℕ) → text ≡ [] → ◌≡◌ {A = Option ℕ} None (first_of (word_starts text))
no_word text e = sym (ap (λ t. first_of (word_starts t)) e ∙ ap first_of empty_words)

pub word_of_empty : (u : position.Unit) (start g : ℕ) → u ≡ Word → ◌≡◌ {A = Option ℕ} None (last_held u g (record { start = start; text = None }))
word_of_empty u start g e = sym (ap (λ v. last_held v g (record { start = start; text = None })) e ∙ ap (λ ws. below g (moved start ws)) empty_words)

pub start_of_empty : (u : position.Unit) (start g : ℕ) (r : Option ℕ) → (u ≡ Word → ⊥) → r ≡ below g (moved start (0 ∷ [])) → r ≡ last_held u g (record { start = start; text = None })
start_of_empty Char start g r n e = e ∙ ap (λ ws. below g (moved start ws)) (sym empty_characters)
start_of_empty Word start g r n e = absurd (n refl)
start_of_empty Leaf start g r n e = e

pub text_scalars : (bytes text : List ℕ) → IsUtf8 bytes → chars bytes ≡ text → scalars text ≡ true
text_scalars bytes text u e = let same : chars bytes ≡ u.0 = ap chars (sym u.1.1) ∙ chars-encodes u.0 u.1.0 in ap scalars (sym e ∙ same) ∙ u.1.0

-- ---- the walk

pub below_settled : (s : Below) → nat_le s.offset s.at ≡ true → IsSettled searched_below s
below_settled s h = record { stays = λ r. rw h refl }

abbrev pub answer : position.Unit → ℕ → Option Held → Option ℕ
answer u g None = None
answer u g (Some h) = last_held u g h

-- all bounds of leaves that begin from the offset on are there
late : (leaf : Placed → Bool) (u : position.Unit) (g n : ℕ) (l : List Placed) → n ≤ 18446744073709551615 → g ≤ n → EachOf (λ b. nat_lt b g ≡ false) (flat_map (leaf_bounds u) (begun_leaves leaf n l))
late leaf u g n [] c h = tt
late leaf u g n (x ∷ l) c h =
    let next = capped (n + length (name_text x.look)) in
    by_go (leaf x)
    (λ q. rw q (each_append (λ b. nat_lt b g ≡ false) (moved n (bounds_within u (name_text x.look))) (flat_map (leaf_bounds u) (begun_leaves leaf next l)) (none_from g n (bounds_within u (name_text x.look)) h c)
    (late leaf u g next l (omega arith) (omega (arith, c, h)))))
    (λ q. rw q (late leaf u g n l c h))

abbrev pub state : position.Unit → ℕ → ℕ → Option Held → Below
state u g n o = record { unit = u; offset = g; at = n; found = o }

if_false : {A : Type 0} (b : Bool) (x y : A) → b ≡ false → cond b x y ≡ y
if_false true x y h = absurd (false≢true (sym h))
if_false false x y h = refl

if_true : {A : Type 0} (b : Bool) (x y : A) → b ≡ true → cond b x y ≡ x
if_true true x y h = refl
if_true false x y h = absurd (false≢true h)

-- one more leaf, from a state that isn't settled
on_step : (leaf within : Placed → Bool) (u : position.Unit) (g n : ℕ) (o : Option Held) (x : Placed) → nat_le g n ≡ false → leaf x ≡ true
    → searched_below (state u g n o) (row x.place x.look (leaf x) (within x))
    ≡ state u g (capped (n + length (name_text x.look))) (cond (is_below g (first_of (bounds_from u n (name_text x.look)))) (Some (record { start = n; text = held_text u (name_text x.look) })) o)
on_step leaf within u g n o x q k =
    if_false (nat_le g n || not (leaf x)) (state u g n o)
    (state u g (capped (n + length (name_text x.look))) (cond (is_below g (first_of (bounds_from u n (name_text x.look)))) (Some (record { start = n; text = held_text u (name_text x.look) })) o))
    (ap (λ b. b || not (leaf x)) q ∙ ap not k)

found_step : (leaf within : Placed → Bool) (u : position.Unit) (g n : ℕ) (o : Option Held) (x : Placed) → nat_le g n ≡ false → leaf x ≡ true → is_below g (first_of (bounds_from u n (name_text x.look))) ≡ true
    → searched_below (state u g n o) (row x.place x.look (leaf x) (within x)) ≡ state u g (capped (n + length (name_text x.look))) (Some (record { start = n; text = held_text u (name_text x.look) }))
found_step leaf within u g n o x q k m =
    on_step leaf within u g n o x q k
    ∙ ap (state u g (capped (n + length (name_text x.look)))) (if_true (is_below g (first_of (bounds_from u n (name_text x.look)))) (Some (record { start = n; text = held_text u (name_text x.look) })) o m)

passed_step : (leaf within : Placed → Bool) (u : position.Unit) (g n : ℕ) (o : Option Held) (x : Placed) → nat_le g n ≡ false → leaf x ≡ true → is_below g (first_of (bounds_from u n (name_text x.look))) ≡ false
    → searched_below (state u g n o) (row x.place x.look (leaf x) (within x)) ≡ state u g (capped (n + length (name_text x.look))) o
passed_step leaf within u g n o x q k m =
    on_step leaf within u g n o x q k
    ∙ ap (state u g (capped (n + length (name_text x.look)))) (if_false (is_below g (first_of (bounds_from u n (name_text x.look)))) (Some (record { start = n; text = held_text u (name_text x.look) })) o m)

-- a place that isn't a leaf changes nothing
stay_step : (leaf within : Placed → Bool) (u : position.Unit) (g n : ℕ) (o : Option Held) (x : Placed) → leaf x ≡ false → searched_below (state u g n o) (row x.place x.look (leaf x) (within x)) ≡ state u g n o
stay_step leaf within u g n o x k =
    if_true (nat_le g n || not (leaf x)) (state u g n o)
    (state u g (capped (n + length (name_text x.look))) (cond (is_below g (first_of (bounds_from u n (name_text x.look)))) (Some (record { start = n; text = held_text u (name_text x.look) })) o))
    (ap (λ b. nat_le g n || not b) k ∙ or_true (nat_le g n))
  where
    or_true : (b : Bool) → (b || true) ≡ true
    or_true true = refl
    or_true false = refl

found_from : (leaf within : Placed → Bool) (u : position.Unit) (g : ℕ) (l : List Placed) (n : ℕ) (o : Option Held) → n ≤ 18446744073709551615
    → answer u g (folded searched_below (state u g n o) (rows_by leaf within l)).found ≡ or_else (below g (flat_map (leaf_bounds u) (begun_leaves leaf n l))) (answer u g o)
found_from leaf within u g [] n o c = refl
found_from leaf within u g (x ∷ l) n o c =
    let t = name_text x.look in
    let next = capped (n + length t) in
    let own = bounds_from u n t in
    let rest = flat_map (leaf_bounds u) (begun_leaves leaf next l) in
    by_go (nat_le g n)
    (λ q. ap (λ (v : Below). answer u g v.found) (folded_settled searched_below (state u g n o) (rows_by leaf within (x ∷ l)) (below_settled (state u g n o) q))
    ∙ ap (λ v. or_else v (answer u g o)) (sym (last_none (λ b. nat_lt b g) (flat_map (leaf_bounds u) (begun_leaves leaf n (x ∷ l))) (late leaf u g n (x ∷ l) c (leb-true g n q)))))
    (λ q. by_go (leaf x)
    (λ k. let split : below g (own ++ rest) ≡ or_else (below g rest) (below g own) = last_kept-append (λ b. nat_lt b g) own rest in
    by_go (is_below g (first_of own))
    (λ m. let here = some_below g n (bounds_within u t) m in
    let held : Held = record { start = n; text = held_text u t } in
    let mine : answer u g (Some held) ≡ below g own = ap (below g) (held_bounds u n t) in
    let step : folded searched_below (state u g n o) (rows_by leaf within (x ∷ l)) ≡ folded searched_below (state u g next (Some held)) (rows_by leaf within l) = ap (λ v. folded searched_below v (rows_by leaf within l)) (found_step leaf within u g n o x q k m) in
    ap (λ (v : Below). answer u g v.found) step
    ∙ (found_from leaf within u g l next (Some held) (omega arith)
    ∙ (ap (or_else (below g rest)) (mine ∙ kept_one (below g own) (answer u g o) here)
    ∙ (or_else_twice (below g rest) (below g own) (answer u g o) ∙ (ap (λ v. or_else v (answer u g o)) (sym split) ∙ ap (λ v. or_else (below g v) (answer u g o)) (sym (whole k)))))))
    (λ m. let none : below g own ≡ None = none_below g n (bounds_within u t) (bounds_ascend_within u t) m in
    let step : folded searched_below (state u g n o) (rows_by leaf within (x ∷ l)) ≡ folded searched_below (state u g next o) (rows_by leaf within l) = ap (λ v. folded searched_below v (rows_by leaf within l)) (passed_step leaf within u g n o x q k m) in
    ap (λ (v : Below). answer u g v.found) step
    ∙ (found_from leaf within u g l next o (omega arith)
    ∙ (ap (λ v. or_else (below g rest) (or_else v (answer u g o))) (sym none)
    ∙ (or_else_twice (below g rest) (below g own) (answer u g o) ∙ (ap (λ v. or_else v (answer u g o)) (sym split) ∙ ap (λ v. or_else (below g v) (answer u g o)) (sym (whole k))))))))
    (λ k. let step : folded searched_below (state u g n o) (rows_by leaf within (x ∷ l)) ≡ folded searched_below (state u g n o) (rows_by leaf within l) = ap (λ v. folded searched_below v (rows_by leaf within l)) (stay_step leaf within u g n o x k) in
    let same : begun_leaves leaf n (x ∷ l) ≡ begun_leaves leaf n l = rw k refl in
    ap (λ (v : Below). answer u g v.found) step ∙ (found_from leaf within u g l n o c ∙ ap (λ v. or_else (below g (flat_map (leaf_bounds u) v)) (answer u g o)) (sym same))))
  where
    whole : leaf x ≡ true → flat_map (leaf_bounds u) (begun_leaves leaf n (x ∷ l)) ≡ bounds_from u n (name_text x.look) ++ flat_map (leaf_bounds u) (begun_leaves leaf (capped (n + length (name_text x.look))) l)
    whole k = rw k refl

    kept_one : (a b : Option ℕ) → Found a → a ≡ or_else a b
    kept_one a b h = let e = h.is in rw e refl

-- what is held is a text that is to be parted
abbrev IsHeld : position.Unit → Option Held → Type 0
IsHeld u None = Unit {0}
IsHeld u (Some h) = h.text ≡ held_text u (text_held h.text)

held_from : (leaf within : Placed → Bool) (u : position.Unit) (g : ℕ) (l : List Placed) (n : ℕ) (o : Option Held) → IsHeld u o → IsHeld u (folded searched_below (state u g n o) (rows_by leaf within l)).found
held_from leaf within u g [] n o h = h
held_from leaf within u g (x ∷ l) n o h =
    let t = name_text x.look in
    let next = capped (n + length t) in
    let held : Option Held = Some (record { start = n; text = held_text u t }) in
    by_go (leaf x)
    (λ k. by_go (nat_le g n)
    (λ q. subst (λ (v : Below). IsHeld u v.found) (sym (folded_settled searched_below (state u g n o) (rows_by leaf within (x ∷ l)) (below_settled (state u g n o) q))) h)
    (λ q. by_go (is_below g (first_of (bounds_from u n t)))
    (λ m. subst (λ (v : Below). IsHeld u (folded searched_below v (rows_by leaf within l)).found) (sym (found_step leaf within u g n o x q k m)) (held_from leaf within u g l next held (held_twice u t)))
    (λ m. subst (λ (v : Below). IsHeld u (folded searched_below v (rows_by leaf within l)).found) (sym (passed_step leaf within u g n o x q k m)) (held_from leaf within u g l next o h))))
    (λ k. subst (λ (v : Below). IsHeld u (folded searched_below v (rows_by leaf within l)).found) (sym (stay_step leaf within u g n o x k)) (held_from leaf within u g l n o h))

pub before_held : (f : Forest) (p : Place) (u : position.Unit) (g : ℕ) (s : Below) (h : Held) → s ≡ folded searched_below (state u g 0 None) (rows (stitched f) p) → s.found ≡ Some h → h.text ≡ held_text u (text_held h.text)
unfolding rows
before_held f p u g s h e k =
    let l = stitched f in
    let held = held_from (is_leaf l) (is_within p) u g l 0 None tt in
    let same : (folded searched_below (state u g 0 None) (rows_by (is_leaf l) (is_within p) l)).found ≡ Some h = ap (λ (v : Below). v.found) (sym e) ∙ k in
    subst (IsHeld u) same held

pub before_told : (f : Forest) (p : Place) (u : position.Unit) (g : ℕ) (s : Below) → IsSound f → s ≡ folded searched_below (state u g 0 None) (rows (stitched f) p) → answer u g s.found ≡ bound_before (stitched f) u g
unfolding rows bound_before
before_told f p u g s w e =
    let l = stitched f in
    ap (λ (v : Below). answer u g v.found) e
    ∙ (found_from (is_leaf l) (is_within p) u g l 0 None (omega arith) ∙ (none_else (below g (flat_map (leaf_bounds u) (begun_leaves (is_leaf l) 0 l))) ∙ ap (below g) (sym (bounds_are l u (list_once f w)))))
  where
    none_else : (o : Option ℕ) → or_else o None ≡ o
    none_else None = refl
    none_else (Some b) = refl

pub before_some : (f : Forest) (p : Place) (u : position.Unit) (g : ℕ) (s : Below) (h : Held) → IsSound f → s ≡ folded searched_below (state u g 0 None) (rows (stitched f) p) → s.found ≡ Some h → last_held u g h ≡ bound_before (stitched f) u g
before_some f p u g s h w e k = ap (answer u g) (sym k) ∙ before_told f p u g s w e

pub before_none : (f : Forest) (p : Place) (u : position.Unit) (g : ℕ) (s : Below) → IsSound f → s ≡ folded searched_below (state u g 0 None) (rows (stitched f) p) → s.found ≡ None → ◌≡◌ {A = Option ℕ} None (bound_before (stitched f) u g)
before_none f p u g s w e k = ap (answer u g) (sym k) ∙ before_told f p u g s w e

pub before_nothing : (l : List Placed) (u : position.Unit) (g : ℕ) → None ≡ first_of (places l) → ◌≡◌ {A = Option ℕ} None (bound_before l u g)
unfolding bound_before bounds_of leaves
before_nothing [] u g h = refl
before_nothing (x ∷ l) u g h = absurd (cc)
