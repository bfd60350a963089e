-- The text between two offsets.
use Rattle.std.proofs.Common.{ℕ, zero, suc, ◌+◌, ◌-◌, ◌≤◌, ◌≡◌, Bool, true, min, max, List, [], ◌∷◌, ◌++◌, filter, take, drop, length, refl, sym, ap, ap₂, ◌∙◌, arith, append_assoc, append-nil, encode_utf8, encode_utf8_all}
use Rattle.std.specs.Prelude.{String, nat_le, Err}
use Rattle.std.specs.Str.{chars, IsUtf8}
use Rattle.std.specs.String.{string_bytes}
use Rattle.std.proofs.lemmas.Str.{encodes-chars, IsUtf8-string_bytes}
use Rattle.std.proofs.lemmas.List.{drop-take}
use Rattle.std.proofs.lemmas.Bool.{leb-true}
use Rattle.ax_base.specs.declared.position.Place.{Place}
use Rattle.ax_base.specs.declared.position.PosErr.{PosErr}
use Rattle.ax_base.specs.declared.position.PosErr.TheVariants.{NoTree, NoNode, BadIndex, BadOffset, NoMemory}
use Rattle.ax_base.proofs.TextLemmas.{chars-spelled, bytes-of-chars}
use Rattle.ax_trees.proofs.Trees.{by_go}
use Rattle.ax_rules.specs.Looks.{name_text}
use Rattle.ax_rules.specs.Stitched.{Placed, is_leaf, is_within, leaves}
use Rattle.ax_rules.specs.Texts.{capped, joined, start_of, document}
use Rattle.ax_rules.specs.Positions.{Mark, global_offset, range_text}
use Rattle.ax_position.specs.Walks.{row, rows, folded, IsSettled}
use Rattle.ax_position.specs.declared.between.Between.{Between}
use Rattle.ax_position.specs.Ranges.{part, gathered_on, gathered, text_between, is_text}
use Rattle.ax_position.proofs.Descents.{folded_settled}
use Rattle.ax_position.proofs.StartLemmas.{rows_by, small}

encode-append : (xs ys : List ℕ) → encode_utf8_all (xs ++ ys) ≡ encode_utf8_all xs ++ encode_utf8_all ys
encode-append [] ys = refl
encode-append (x ∷ xs) ys = ap (λ l. encode_utf8 x ++ l) (encode-append xs ys) ∙ sym (append_assoc (encode_utf8 x) (encode_utf8_all xs) (encode_utf8_all ys))

pub appended : {A : Type 0} (s t : String A) (now text bytes : List ℕ) → chars (string_bytes s) ≡ now → chars bytes ≡ text → IsUtf8 bytes → string_bytes t ≡ string_bytes s ++ bytes → chars (string_bytes t) ≡ now ++ text
appended s t now text bytes v e u h =
    chars-spelled t (now ++ text)
    (h ∙ (ap₂ (λ a b. a ++ b) (sym (bytes-of-chars (string_bytes s) now (IsUtf8-string_bytes s) v)) (sym (ap encode_utf8_all (sym e) ∙ encodes-chars bytes u)) ∙ sym (encode-append now text)))

-- ---- parts

take_nil : (n : ℕ) → ◌≡◌ {A = List ℕ} (take n []) []
take_nil zero = refl
take_nil (suc n) = refl

drop_nil : (n : ℕ) → ◌≡◌ {A = List ℕ} (drop n []) []
drop_nil zero = refl
drop_nil (suc n) = refl

cut : (a b : ℕ) (t rest : List ℕ) → drop a (take b (t ++ rest)) ≡ drop a (take b t) ++ drop (a - length t) (take (b - length t) rest)
cut a b [] rest =
    let x : a ≡ a - 0 = omega arith in
    let y : b ≡ b - 0 = omega arith in
    ap₂ (λ m n. drop m (take n rest)) x y ∙ ap (λ l. l ++ drop (a - 0) (take (b - 0) rest)) (sym (ap (drop a) (take_nil b) ∙ drop_nil a))
cut a zero (c ∷ t) rest =
    let y : 0 - suc (length t) ≡ 0 = omega arith in
    sym (ap (λ n. drop a [] ++ drop (a - suc (length t)) (take n rest)) y ∙ (ap (λ l. drop a [] ++ l) (drop_nil (a - suc (length t))) ∙ append-nil (drop a [])))
cut zero (suc b) (c ∷ t) rest =
    let x : 0 - length t ≡ 0 - suc (length t) = omega arith in
    let y : b - length t ≡ suc b - suc (length t) = omega arith in
    ap (λ l. c ∷ l) (cut zero b t rest ∙ ap₂ (λ m n. take b t ++ drop m (take n rest)) x y)
cut (suc a) (suc b) (c ∷ t) rest =
    let x : a - length t ≡ suc a - suc (length t) = omega arith in
    let y : b - length t ≡ suc b - suc (length t) = omega arith in
    cut a b t rest ∙ ap₂ (λ m n. drop a (take b t) ++ drop m (take n rest)) x y

nothing : (low high n : ℕ) (t : List ℕ) → high ≤ n → part low high n t ≡ []
nothing low high n t h = let z : high - n ≡ 0 = omega (arith, h) in ap (λ m. drop (low - n) (take m t)) z ∙ drop_nil (low - n)

capped_part : (low high n : ℕ) (t : List ℕ) → high ≤ 18446744073709551615 → part low high (capped n) t ≡ part low high n t
capped_part low high n t h = by_go (nat_le n 18446744073709551615)
    (λ q. let e : capped n ≡ n = grind (arith, q) in ap (λ m. part low high m t) e)
    (λ q. let a : high ≤ capped n = grind (arith, q, h) in let b : high ≤ n = grind (arith, q, h) in nothing low high (capped n) t a ∙ sym (nothing low high n t b))

-- the parts of the texts of leaves, one after the other
abbrev pub ranged : ℕ → ℕ → ℕ → List Placed → List ℕ
ranged low high n [] = []
ranged low high n (x ∷ xs) = part low high n (name_text x.look) ++ ranged low high (capped (n + length (name_text x.look))) xs

-- behind the greater offset there is no part more
none_behind : (low high n : ℕ) (xs : List Placed) → n ≤ 18446744073709551615 → high ≤ n → ranged low high n xs ≡ []
none_behind low high n [] c h = refl
none_behind low high n (x ∷ xs) c h =
    ap₂ (λ a b. a ++ b) (nothing low high n (name_text x.look) h) (none_behind low high (capped (n + length (name_text x.look))) xs (omega arith) (omega (arith, c, h)))

pub gather_settled : (s : Between) → nat_le s.high s.at ≡ true → IsSettled gathered s
gather_settled s h = record { stays = λ r. rw h refl }

gathered_from : (leaf within : Placed → Bool) (l : List Placed) (s : Between) → s.at ≤ 18446744073709551615 → (folded gathered s (rows_by leaf within l)).text ≡ s.text ++ ranged s.low s.high s.at (filter leaf l)
gathered_from leaf within [] s c = sym (append-nil s.text)
gathered_from leaf within (x ∷ l) s c =
    let r = row x.place x.look (leaf x) (within x) in
    by_go (nat_le s.high s.at)
    (λ b. ap (λ (v : Between). v.text) (folded_settled gathered s (rows_by leaf within (x ∷ l)) (gather_settled s b))
    ∙ (sym (append-nil s.text) ∙ ap (λ v. s.text ++ v) (sym (none_behind s.low s.high s.at (filter leaf (x ∷ l)) c (leb-true s.high s.at b)))))
    (λ b. let on : gathered s r ≡ gathered_on s r = rw b refl in
    let rest = gathered_from leaf within l (gathered_on s r) (small (leaf x) s.at (name_text x.look) c) in
    ap (λ (v : Between). (folded gathered v (rows_by leaf within l)).text) on
    ∙ by_go (leaf x)
    (λ q. rest ∙ (rw q (append_assoc s.text (part s.low s.high s.at (name_text x.look)) (ranged s.low s.high (capped (s.at + length (name_text x.look))) (filter leaf l)))))
    (λ q. rest ∙ (rw q refl)))

ranged_is : (low high n : ℕ) (xs : List Placed) → high ≤ 18446744073709551615 → ranged low high (capped n) xs ≡ drop (low - n) (take (high - n) (joined xs))
unfolding joined
ranged_is low high n [] h = sym (ap (drop (low - n)) (take_nil (high - n)) ∙ drop_nil (low - n))
ranged_is low high n (x ∷ xs) h =
    let t = name_text x.look in
    let twice : capped (capped n + length t) ≡ capped (n + length t) = omega arith in
    let a : low - (n + length t) ≡ (low - n) - length t = omega arith in
    let b : high - (n + length t) ≡ (high - n) - length t = omega arith in
    ap₂ (λ p r. p ++ r) (capped_part low high n t h) (ap (λ m. ranged low high m xs) twice ∙ (ranged_is low high (n + length t) xs h ∙ ap₂ (λ m k. drop m (take k (joined xs))) a b))
    ∙ sym (cut (low - n) (high - n) t (joined xs))

pub between_is : (l : List Placed) (p : Place) (low high : ℕ) (s : Between) (t begin : List ℕ) → low ≤ high → high ≤ 18446744073709551615 → begin ≡ [] → s ≡ folded gathered (record { low = low; high = high; at = 0; text = begin }) (rows l p) → t ≡ s.text
    → t ≡ text_between l low high
unfolding rows text_between document leaves
between_is l p low high s t begin w h i e k =
    let zero_is : capped 0 ≡ 0 = refl in
    let a : low - 0 ≡ low = omega arith in
    let b : high - 0 ≡ low + (high - low) = omega (arith, w) in
    k ∙ (ap (λ (v : Between). v.text) (e ∙ ap (λ v. folded gathered (record { low = low; high = high; at = 0; text = v }) (rows_by (is_leaf l) (is_within p) l)) i) ∙ (gathered_from (is_leaf l) (is_within p) l (record { low = low; high = high; at = 0; text = [] }) (omega arith)
    ∙ (ranged_is low high 0 (filter (is_leaf l) l) h
    ∙ (ap₂ (λ m n. drop m (take n (joined (filter (is_leaf l) l)))) a b ∙ drop-take low (high - low) (joined (filter (is_leaf l) l))))))

pub marks_told : (l : List Placed) (m n : Mark) (i j a b : ℕ) (t : List ℕ) → i ≡ start_of l m.place → j ≡ start_of l n.place → a ≡ capped (i + m.offset) → b ≡ capped (j + n.offset) → t ≡ text_between l (min a b) (max a b) → t ≡ range_text l m n
unfolding range_text text_between global_offset
marks_told l m n i j a b t x y e h k =
    let p : a ≡ capped (start_of l m.place + m.offset) = e ∙ ap (λ v. capped (v + m.offset)) x in
    let q : b ≡ capped (start_of l n.place + n.offset) = h ∙ ap (λ v. capped (v + n.offset)) y in
    k ∙ ap₂ (λ u v. take (max u v - min u v) (drop (min u v) (document l))) p q

-- ---- refusals

pub refused_text : (e : PosErr) → is_text (Err e) (Err e)
refused_text NoTree = refl
refused_text NoNode = refl
refused_text (BadIndex c n) = refl
refused_text (BadOffset o n) = refl
refused_text NoMemory = refl
