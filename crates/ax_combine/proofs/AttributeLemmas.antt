-- Attributes that are put in one after the other, in the order of their keys.
use Rattle.std.proofs.Common.{ℕ, zero, suc, ◌+◌, ◌<◌, ◌≡◌, Bool, true, false, ◌&&◌, List, [], ◌∷◌, ◌++◌, take, drop, length, get_or, filter_map, Option, Some, None, refl, sym, ap, ◌∙◌, arith, nat_cmp, is_lt, Ordering, Less, Equal, Greater, take-append-drop, append_assoc, append-nil}
use Rattle.std.specs.Prelude.{IsTrue, option_map}
use Rattle.std.specs.FinMap.Entries.{put, is_sorted, below_all}
use Rattle.std.proofs.lemmas.Cmp.{ranked}
use Rattle.std.proofs.lemmas.List.{take_more}
use Rattle.std.proofs.lemmas.List.Elements.{filter_map-append}
use Rattle.ax_base.specs.declared.position.Place.{Place}
use Rattle.ax_node.specs.declared.value.Value.{Value}
use Rattle.ax_rules.specs.Combined.{numbered, numbered_attr}
use Rattle.ax_stitch.proofs.Lists.{step_back}
use Rattle.ax_combine.specs.Numbering.{with_value}

-- each key is below k
abbrev AllBelow : ℕ → List (ℕ × Value) → Type 0
AllBelow k [] = Unit {0}
AllBelow k (e ∷ es) = (e.0 < k) × AllBelow k es

greater : (x y : ℕ) → y < x → nat_cmp x y ≡ Greater
greater x y h = go (nat_cmp x y) refl
  where
    go : (r : Ordering) → nat_cmp x y ≡ r → r ≡ Greater
    go Less e = let m = ranked x y Less (sym e) in absurd (omega (arith, m, h))
    go Equal e = let m = ranked x y Equal (sym e) in absurd (omega (arith, m, h))
    go Greater e = refl

less_is : (x y : ℕ) → is_lt (nat_cmp x y) ≡ true → x < y
less_is x y h = go (nat_cmp x y) refl h
  where
    go : (r : Ordering) → nat_cmp x y ≡ r → is_lt r ≡ true → x < y
    go Less e l = ranked x y Less (sym e)
    go Equal e l = absurd (cc)
    go Greater e l = absurd (cc)

put_last : (k : ℕ) (v : Value) (es : List (ℕ × Value)) → AllBelow k es → put nat_cmp k v es ≡ es ++ (k, v) ∷ []
put_last k v [] b = refl
put_last k v (e ∷ es) b =
    let g = greater k e.0 b.0 in
    let r = put_last k v es b.1 in
    rw (g, r) refl

and_first : (a b : Bool) → (a && b) ≡ true → a ≡ true
and_first true b e = refl
and_first false b e = absurd (cc)

and_second : (a b : Bool) → (a && b) ≡ true → b ≡ true
and_second true b e = e
and_second false b e = absurd (cc)

below_at : (x : ℕ) (e : ℕ × Value) (xs ys : List (ℕ × Value)) → below_all nat_cmp x (xs ++ e ∷ ys) ≡ true → is_lt (nat_cmp x e.0) ≡ true
below_at x e [] ys h = and_first (is_lt (nat_cmp x e.0)) (below_all nat_cmp x ys) h
below_at x e (y ∷ xs) ys h = below_at x e xs ys (and_second (is_lt (nat_cmp x y.0)) (below_all nat_cmp x (xs ++ e ∷ ys)) h)

all_below : (e : ℕ × Value) (xs ys : List (ℕ × Value)) → is_sorted nat_cmp (xs ++ e ∷ ys) ≡ true → AllBelow e.0 xs
all_below e [] ys h = tt
all_below e (y ∷ xs) ys h = (
  less_is y.0 e.0 (below_at y.0 e xs ys (and_first (below_all nat_cmp y.0 (xs ++ e ∷ ys)) (is_sorted nat_cmp (xs ++ e ∷ ys)) h)),
  all_below e xs ys (and_second (below_all nat_cmp y.0 (xs ++ e ∷ ys)) (is_sorted nat_cmp (xs ++ e ∷ ys)) h),
)

still_below : (ps : List Place) (t k : ℕ) (es : List (ℕ × Value)) → AllBelow k es → AllBelow k (filter_map (numbered_attr ps t) es)
still_below ps t k [] b = tt
still_below ps t k (e ∷ es) b = go (numbered ps t e.1) refl (still_below ps t k es b.1)
  where
    go : (o : Option Value) → numbered ps t e.1 ≡ o → AllBelow k (filter_map (numbered_attr ps t) es) → AllBelow k (filter_map (numbered_attr ps t) (e ∷ es))
    go None h r = rw h r
    go (Some v) h r = rw h (b.0, r)

-- the entries around one of them
split : (es : List (ℕ × Value)) (i : ℕ) (e : ℕ × Value) → i < length es → e ≡ get_or es i e → es ≡ take i es ++ e ∷ drop (i + 1) es
split es i e l g = sym (take-append-drop i es) ∙ ap (λ r. take i es ++ r) (step_back es (i + 1) i e refl (omega (arith, l)) g)

taken_more : (ps : List Place) (t : ℕ) (es : List (ℕ × Value)) (i : ℕ) (e : ℕ × Value) → i < length es → e ≡ get_or es i e
    → filter_map (numbered_attr ps t) (take (i + 1) es) ≡ filter_map (numbered_attr ps t) (take i es) ++ filter_map (numbered_attr ps t) (e ∷ [])
taken_more ps t es i e l g = ap (filter_map (numbered_attr ps t)) (take_more es i e l ∙ ap (λ y. take i es ++ y ∷ []) (sym g)) ∙ filter_map-append (numbered_attr ps t) (take i es) (e ∷ [])

attr_put : (ps : List Place) (t : ℕ) (es out later : List (ℕ × Value)) (i : ℕ) (e : ℕ × Value) (v : Value) → IsTrue (is_sorted nat_cmp es) → i < length es → e ≡ get_or es i e
    → out ≡ filter_map (numbered_attr ps t) (take i es) → Some v ≡ numbered ps t e.1 → later ≡ put nat_cmp e.0 v out → later ≡ filter_map (numbered_attr ps t) (take (i + 1) es)
attr_put ps t es out later i e v s l g h n p =
    let whole = split es i e l g in
    let low : AllBelow e.0 (take i es) = all_below e (take i es) (drop (i + 1) es) (ap (is_sorted nat_cmp) (sym whole) ∙ s) in
    let one : filter_map (numbered_attr ps t) (e ∷ []) ≡ (e.0, v) ∷ [] = let m = sym n in rw m refl in
    p ∙ (ap (put nat_cmp e.0 v) h
    ∙ (put_last e.0 v (filter_map (numbered_attr ps t) (take i es)) (still_below ps t e.0 (take i es) low)
    ∙ (ap (λ r. filter_map (numbered_attr ps t) (take i es) ++ r) (sym one) ∙ sym (taken_more ps t es i e l g))))

attr_left : (ps : List Place) (t : ℕ) (es out : List (ℕ × Value)) (i : ℕ) (e : ℕ × Value) → i < length es → e ≡ get_or es i e → out ≡ filter_map (numbered_attr ps t) (take i es) → None ≡ numbered ps t e.1
    → out ≡ filter_map (numbered_attr ps t) (take (i + 1) es)
attr_left ps t es out i e l g h n =
    let one : filter_map (numbered_attr ps t) (e ∷ []) ≡ [] = let m = sym n in rw m refl in
    h ∙ (sym (append-nil (filter_map (numbered_attr ps t) (take i es))) ∙ (ap (λ r. filter_map (numbered_attr ps t) (take i es) ++ r) (sym one) ∙ sym (taken_more ps t es i e l g)))

-- one entry more
pub attr_more : (ps : List Place) (t : ℕ) (es out later : List (ℕ × Value)) (i : ℕ) (e : ℕ × Value) (o : Option Value) → IsTrue (is_sorted nat_cmp es) → i < length es → e ≡ get_or es i e
    → out ≡ filter_map (numbered_attr ps t) (take i es) → o ≡ numbered ps t e.1 → later ≡ with_value e.0 o out → later ≡ filter_map (numbered_attr ps t) (take (i + 1) es)
attr_more ps t es out later i e None s l g h n p = p ∙ attr_left ps t es out i e l g h n
attr_more ps t es out later i e (Some v) s l g h n p = attr_put ps t es out later i e v s l g h n p
