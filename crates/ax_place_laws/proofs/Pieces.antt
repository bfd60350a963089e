-- The bounds of a text ascend, and are at most its length. Belongs in ax_base.
use Rattle.std.proofs.Common.{ℕ, ◌+◌, ◌≤◌, ◌≡◌, Bool, true, false, ◌&&◌, cond, List, [], ◌∷◌, ◌++◌, map, length, refl, sym, ap, ◌∙◌, arith, append_assoc, length-append}
use Rattle.std.specs.Prelude.{encode_utf8_all}
use Rattle.std.specs.List.{concat}
use Rattle.std.specs.Str.{chars}
use Rattle.std.proofs.Math.Utf8.{scalar, scalars}
use Rattle.std.proofs.lemmas.Bool.{and_parts}
use Rattle.std.proofs.lemmas.Str.{chars-encodes}
use Rattle.unicode_segmentation.specs.Segments.{Rule, prepend, cut, segments}
use Rattle.unicode_segmentation.specs.Grapheme.{is_grapheme_break, graphemes}
use Rattle.unicode_segmentation.specs.Word.{is_word_break, word_bounds}
use Rattle.ax_base.specs.declared.position.Unit as position
use Rattle.ax_base.specs.declared.position.Unit.TheVariants.{Char, Word, Leaf}
use Rattle.ax_base.specs.TextBounds.{ends, starts, begins_white}
use Rattle.ax_trees.proofs.Trees.{by_go, either}
use Rattle.ax_rules.specs.Moves.{bounds_within}
use Rattle.ax_place_laws.specs.Lists.{EachOf, Ascends}
use Rattle.ax_place_laws.proofs.Each.{each_weaker}

-- ---- pieces make up the text

prepend_whole : (part : List ℕ) (ps : List (List ℕ)) → concat (prepend part ps) ≡ part ++ concat ps
prepend_whole part [] = refl
prepend_whole part (p ∷ ps) = append_assoc part p (concat ps)

cut_whole : (rule : Rule) (before cs after : List ℕ) → concat (cut rule before cs after) ≡ cs
unfolding cut
cut_whole rule before [] after = refl
cut_whole rule before (c ∷ cs) after = go (rule (c ∷ before) (cs ++ after)) (cut rule (c ∷ before) cs after) (cut_whole rule (c ∷ before) cs after)
  where
    go : (b : Bool) (ps : List (List ℕ)) → concat ps ≡ cs → concat (cond b ((c ∷ []) ∷ ps) (prepend (c ∷ []) ps)) ≡ c ∷ cs
    go true ps e = ap (λ l. c ∷ l) e
    go false ps e = prepend_whole (c ∷ []) ps ∙ ap (λ l. c ∷ l) e

scalars-append : (xs ys : List ℕ) → scalars (xs ++ ys) ≡ (scalars xs && scalars ys)
scalars-append [] ys = refl
scalars-append (x ∷ xs) ys = let e = scalars-append xs ys in by_go (scalar x) (λ q. rw q e) (λ q. rw q refl)

parts_are_text : (ps : List (List ℕ)) → scalars (concat ps) ≡ true → EachOf (λ p. scalars p ≡ true) ps
parts_are_text [] h = tt
parts_are_text (p ∷ ps) h =
    let both : (scalars p && scalars (concat ps)) ≡ true = (let e = scalars-append p (concat ps) in sym e ∙ h) in
    let c = and_parts (scalars p) (scalars (concat ps)) both in
    (c.0, parts_are_text ps c.1)

spelled_length : (p : List ℕ) → scalars p ≡ true → length (chars (encode_utf8_all p)) ≡ length p
spelled_length p h = ap (λ (v : List ℕ). length v) (chars-encodes p h)

-- ---- where pieces end

ends_from : (from : ℕ) (ps : List (List ℕ)) → EachOf (λ b. from ≤ b) (ends from ps)
ends_from from [] = tt
ends_from from (p ∷ ps) =
    let next = from + length (chars p) in
    (omega arith, each_weaker (λ b. next ≤ b) (λ b. from ≤ b) (ends next ps) (λ b h. omega (arith, h)) (ends_from next ps))

ends_ascend : (from : ℕ) (ps : List (List ℕ)) → Ascends (ends from ps)
ends_ascend from [] = tt
ends_ascend from (p ∷ ps) = (ends_from (from + length (chars p)) ps, ends_ascend (from + length (chars p)) ps)

ends_within : (from : ℕ) (ps : List (List ℕ)) → EachOf (λ p. scalars p ≡ true) ps → EachOf (λ b. b ≤ from + length (concat ps)) (ends from (map encode_utf8_all ps))
ends_within from [] h = tt
ends_within from (p ∷ ps) h =
    let next = from + length (chars (encode_utf8_all p)) in
    let n = spelled_length p h.0 in
    let m = length-append p (concat ps) in (
      omega (arith, n, m),
      each_weaker (λ b. b ≤ next + length (concat ps)) (λ b. b ≤ from + length (concat (p ∷ ps))) (ends next (map encode_utf8_all ps)) (λ b g. omega (arith, g, n, m)) (ends_within next ps h.1),
    )

-- ---- where pieces start

starts_from : (from : ℕ) (ps : List (List ℕ)) → EachOf (λ b. from ≤ b) (starts from ps)
starts_from from [] = tt
starts_from from (p ∷ ps) =
    let next = from + length (chars p) in
    let rest = each_weaker (λ b. next ≤ b) (λ b. from ≤ b) (starts next ps) (λ b h. omega (arith, h)) (starts_from next ps) in
    either (EachOf (λ b. from ≤ b)) (begins_white (chars p)) (starts next ps) (from ∷ starts next ps) rest (omega arith, rest)

starts_ascend : (from : ℕ) (ps : List (List ℕ)) → Ascends (starts from ps)
starts_ascend from [] = tt
starts_ascend from (p ∷ ps) =
    let next = from + length (chars p) in
    let above = each_weaker (λ b. next ≤ b) (λ b. from ≤ b) (starts next ps) (λ b h. omega (arith, h)) (starts_from next ps) in
    either Ascends (begins_white (chars p)) (starts next ps) (from ∷ starts next ps) (starts_ascend next ps) (above, starts_ascend next ps)

starts_within : (from : ℕ) (ps : List (List ℕ)) → EachOf (λ p. scalars p ≡ true) ps → EachOf (λ b. b ≤ from + length (concat ps)) (starts from (map encode_utf8_all ps))
starts_within from [] h = tt
starts_within from (p ∷ ps) h =
    let bytes = encode_utf8_all p in
    let next = from + length (chars bytes) in
    let n = spelled_length p h.0 in
    let m = length-append p (concat ps) in
    let rest =
    each_weaker (λ b. b ≤ next + length (concat ps)) (λ b. b ≤ from + length (concat (p ∷ ps))) (starts next (map encode_utf8_all ps)) (λ b g. omega (arith, g, n, m)) (starts_within next ps h.1) in
    either (EachOf (λ b. b ≤ from + length (concat (p ∷ ps)))) (begins_white (chars bytes)) (starts next (map encode_utf8_all ps)) (from ∷ starts next (map encode_utf8_all ps)) rest (omega arith, rest)

-- ---- bounds

-- the pieces of a text make it up
pieces_are : (rule : Rule) (text : List ℕ) → scalars text ≡ true → concat (cut rule [] (chars (encode_utf8_all text)) []) ≡ text
pieces_are rule text h = cut_whole rule [] (chars (encode_utf8_all text)) [] ∙ chars-encodes text h

graphemes_within : (rule : Rule) (text : List ℕ) → scalars text ≡ true → EachOf (λ b. b ≤ length text) (ends 0 (segments rule (encode_utf8_all text)))
unfolding segments
graphemes_within rule text h =
    let ps = cut rule [] (chars (encode_utf8_all text)) [] in
    let whole : concat ps ≡ text = pieces_are rule text h in
    let n = ap (λ (v : List ℕ). length v) whole in
    each_weaker (λ b. b ≤ 0 + length (concat ps)) (λ b. b ≤ length text) (ends 0 (map encode_utf8_all ps)) (λ b g. omega (arith, g, n)) (ends_within 0 ps (parts_are_text ps (ap scalars whole ∙ h)))

words_within : (rule : Rule) (text : List ℕ) → scalars text ≡ true → EachOf (λ b. b ≤ length text) (starts 0 (segments rule (encode_utf8_all text)))
unfolding segments
words_within rule text h =
    let ps = cut rule [] (chars (encode_utf8_all text)) [] in
    let whole : concat ps ≡ text = pieces_are rule text h in
    let n = ap (λ (v : List ℕ). length v) whole in
    each_weaker (λ b. b ≤ 0 + length (concat ps)) (λ b. b ≤ length text) (starts 0 (map encode_utf8_all ps)) (λ b g. omega (arith, g, n)) (starts_within 0 ps (parts_are_text ps (ap scalars whole ∙ h)))

pub bounds_ascend_within : (u : position.Unit) (text : List ℕ) → Ascends (bounds_within u text)
bounds_ascend_within Char text =
    let pieces = graphemes true (encode_utf8_all text) in
    (ends_from 0 pieces, ends_ascend 0 pieces)
bounds_ascend_within Word text = starts_ascend 0 (word_bounds (encode_utf8_all text))
bounds_ascend_within Leaf text = (tt, tt)

pub bounds_are_within : (u : position.Unit) (text : List ℕ) → scalars text ≡ true → EachOf (λ b. b ≤ length text) (bounds_within u text)
bounds_are_within Char text h = (omega arith, graphemes_within (is_grapheme_break true) text h)
bounds_are_within Word text h = words_within is_word_break text h
bounds_are_within Leaf text h = (omega arith, tt)
