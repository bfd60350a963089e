-- The first and the last that pass, in a list that is made of parts.
use Rattle.std.proofs.Common.{ℕ, ◌+◌, ◌<◌, ◌≤◌, ◌≡◌, Bool, true, false, find, filter, flat_map, List, [], ◌∷◌, ◌++◌, length, take, drop, get_or, Option, Some, None, refl, sym, ap, ◌∙◌, arith, append-nil}
use Rattle.std.specs.Prelude.{is_some, Result, Ok, Err, IfOk, OnOk}
use Rattle.std.proofs.lemmas.List.{take-append-drop, take_more, take_all}
use Rattle.std.proofs.lemmas.List.Concat.{flat_map-append}
use Rattle.std.proofs.lemmas.List.Elements.{filter-append}
use Rattle.std.proofs.lemmas.Bool.{false≢true}
use Rattle.ax_trees.specs.Spots.{or_else}
use Rattle.ax_trees.proofs.Trees.{by_go}
use Rattle.ax_rules.specs.Sequences.{first_of, last_of}
use Rattle.ax_stitch.proofs.Lists.{last_of-append, step_back}
use Rattle.ax_stitch.proofs.Views.{or_else_some}
use Rattle.ax_unignored.specs.Runs.{find_last}

pub find_append : {A : Type 0} (p : A → Bool) (xs ys : List A) → find p (xs ++ ys) ≡ or_else (find p xs) (find p ys)
find_append p [] ys = refl
find_append p (x ∷ xs) ys = by_go (p x) (λ q. rw q refl) (λ q. rw q (find_append p xs ys))

pub find_first : {A : Type 0} (p : A → Bool) (xs : List A) → first_of (filter p xs) ≡ find p xs
find_first p [] = refl
find_first p (x ∷ xs) = by_go (p x) (λ q. rw q refl) (λ q. rw q (find_first p xs))

pub last_append : {A : Type 0} (p : A → Bool) (xs ys : List A) → find_last p (xs ++ ys) ≡ or_else (find_last p ys) (find_last p xs)
last_append p xs ys = ap last_of (filter-append p xs ys) ∙ last_of-append (filter p xs) (filter p ys)

pub none_is : {A : Type 0} (o : Option A) → is_some o ≡ false → o ≡ None
none_is None h = refl
none_is (Some x) h = absurd (false≢true (sym h))

-- ---- one part after the other

pub flat_more : {A : Type 0} (s : ℕ → List A) (xs : List ℕ) (i c : ℕ) → i < length xs → c ≡ get_or xs i c → flat_map s (take (i + 1) xs) ≡ flat_map s (take i xs) ++ s c
flat_more s xs i c l g =
    ap (flat_map s) (take_more xs i c l ∙ ap (λ y. take i xs ++ y ∷ []) (sym g))
    ∙ (flat_map-append s (take i xs) (c ∷ []) ∙ ap (λ l. flat_map s (take i xs) ++ l) (append-nil (s c)))

pub flat_all : {A : Type 0} (s : ℕ → List A) (xs : List ℕ) (i : ℕ) → length xs ≤ i → flat_map s (take i xs) ≡ flat_map s xs
flat_all s xs i l = ap (flat_map s) (take_all i xs l)

find_more : {A : Type 0} (p : A → Bool) (s : ℕ → List A) (xs : List ℕ) (i c : ℕ) (found : Option A) → i < length xs → c ≡ get_or xs i c → find p (flat_map s (take i xs)) ≡ None → found ≡ find p (s c)
    → find p (flat_map s (take (i + 1) xs)) ≡ found
find_more p s xs i c found l g n h =
    ap (find p) (flat_more s xs i c l g) ∙ (find_append p (flat_map s (take i xs)) (s c) ∙ (ap (λ o. or_else o (find p (s c))) n ∙ sym h))

pub find_on : {A : Type 0} (p : A → Bool) (s : ℕ → List A) (xs : List ℕ) (i c : ℕ) (found : Option A) → i < length xs → c ≡ get_or xs i c → find p (flat_map s (take i xs)) ≡ None → found ≡ find p (s c)
    → is_some found ≡ false → find p (flat_map s (take (i + 1) xs)) ≡ None
find_on p s xs i c found l g n h e = find_more p s xs i c found l g n h ∙ none_is found e

pub find_early : {A : Type 0} (p : A → Bool) (s : ℕ → List A) (xs : List ℕ) (i c : ℕ) (found : Option A) → i < length xs → c ≡ get_or xs i c → find p (flat_map s (take i xs)) ≡ None → found ≡ find p (s c)
    → is_some found ≡ true → found ≡ find p (flat_map s xs)
find_early p s xs i c found l g n h e =
    let front = take (i + 1) xs in
    let rest = drop (i + 1) xs in
    sym (ap (λ ys. find p (flat_map s ys)) (sym (take-append-drop (i + 1) xs))
    ∙ (ap (find p) (flat_map-append s front rest)
    ∙ (find_append p (flat_map s front) (flat_map s rest)
    ∙ (ap (λ o. or_else o (find p (flat_map s rest))) (find_more p s xs i c found l g n h) ∙ or_else_some found (find p (flat_map s rest)) e))))

pub find_all : {A : Type 0} (p : A → Bool) (s : ℕ → List A) (xs : List ℕ) (i : ℕ) → length xs ≤ i → find p (flat_map s (take i xs)) ≡ None → None ≡ find p (flat_map s xs)
find_all p s xs i l n = sym n ∙ ap (find p) (flat_all s xs i l)

-- ---- from the back

last_back : {A : Type 0} (p : A → Bool) (s : ℕ → List A) (xs : List ℕ) (i j c : ℕ) (found : Option A) → i ≡ j + 1 → i ≤ length xs → c ≡ get_or xs j c → find_last p (flat_map s (drop i xs)) ≡ None
    → found ≡ find_last p (s c) → find_last p (flat_map s (drop j xs)) ≡ found
last_back p s xs i j c found e l g n h =
    ap (λ ys. find_last p (flat_map s ys)) (step_back xs i j c e l g)
    ∙ (last_append p (s c) (flat_map s (drop i xs)) ∙ (ap (λ o. or_else o (find_last p (s c))) n ∙ sym h))

pub last_on : {A : Type 0} (p : A → Bool) (s : ℕ → List A) (xs : List ℕ) (i j c : ℕ) (found : Option A) → i ≡ j + 1 → i ≤ length xs → c ≡ get_or xs j c → find_last p (flat_map s (drop i xs)) ≡ None
    → found ≡ find_last p (s c) → is_some found ≡ false → find_last p (flat_map s (drop j xs)) ≡ None
last_on p s xs i j c found e l g n h k = last_back p s xs i j c found e l g n h ∙ none_is found k

pub last_late : {A : Type 0} (p : A → Bool) (s : ℕ → List A) (xs : List ℕ) (i j c : ℕ) (found : Option A) → i ≡ j + 1 → i ≤ length xs → c ≡ get_or xs j c → find_last p (flat_map s (drop i xs)) ≡ None
    → found ≡ find_last p (s c) → is_some found ≡ true → found ≡ find_last p (flat_map s xs)
last_late p s xs i j c found e l g n h k =
    let front = take j xs in
    let rest = drop j xs in
    sym (ap (λ ys. find_last p (flat_map s ys)) (sym (take-append-drop j xs))
    ∙ (ap (find_last p) (flat_map-append s front rest)
    ∙ (last_append p (flat_map s front) (flat_map s rest)
    ∙ (ap (λ o. or_else o (find_last p (flat_map s front))) (last_back p s xs i j c found e l g n h) ∙ or_else_some found (find_last p (flat_map s front)) k))))

pub last_all : {A : Type 0} (p : A → Bool) (s : ℕ → List A) (xs : List ℕ) (i : ℕ) → i ≤ 0 → find_last p (flat_map s (drop i xs)) ≡ None → None ≡ find_last p (flat_map s xs)
last_all p s xs i l n = let z : i ≡ 0 = omega (arith, l) in sym n ∙ ap (λ k. find_last p (flat_map s (drop k xs))) z

-- ---- answers

pub ok_same : {A E X : Type 0} (r : Result A E) (new a b : X) → IfOk r (λ _. new ≡ a) → a ≡ b → IfOk r (λ _. new ≡ b)
ok_same (Ok u) new a b h e = h ∙ e
ok_same (Err x) new a b h e = tt

pub ok_on : {A E X : Type 0} (r : Result A E) (new a : X) → OnOk r (new ≡ a) → IfOk r (λ _. new ≡ a)
ok_on (Ok u) new a h = h
ok_on (Err x) new a h = tt

pub ok_map : {A E P Q : Type 0} (r : Result A E) → IfOk r (λ _. P) → (P → Q) → IfOk r (λ _. Q)
ok_map (Ok u) h k = k h
ok_map (Err x) h k = tt

pub ok_value : {A E : Type 0} (r : Result A E) (x y : A) → IfOk r (λ b. b ≡ x) → x ≡ y → IfOk r (λ b. b ≡ y)
ok_value (Ok u) x y h e = h ∙ e
ok_value (Err v) x y h e = tt
