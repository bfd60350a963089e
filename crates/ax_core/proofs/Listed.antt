-- Where ids stand in a list that grows, and in the table of a longer front.
use Rattle.std.proofs.Common.{ℕ, zero, suc, ◌≡◌, ◌+◌, ◌<◌, ◌==◌, Bool, true, false, ◌||◌, if◌then◌else◌, List, [], ◌∷◌, ◌++◌, length, take, get_or, refl, sym, ap, ◌∙◌, true≢false, Option, Some, None, arith, length-take-le}
use Rattle.std.specs.Prelude.{option_map, slice_set}
use Rattle.std.proofs.lemmas.Bool.{eqb-true}
use Rattle.ax_trees.specs.Lists.{contains, NoneTwice}
use Rattle.ax_trees.proofs.Lists.{IsAt, take_at}
use Rattle.ax_run_laws.proofs.Found.{same_number}
use Rattle.ax_forest.specs.ById.{at_id}
use Rattle.ax_forest.proofs.ByIds.{set_puts}
use Rattle.ax_core.specs.Places.{place_of, AreAt}

or_left : (b c : Bool) → (b || c) ≡ false → b ≡ false
or_left true c e = absurd (true≢false e)
or_left false c e = refl

or_right : (b c : Bool) → (b || c) ≡ false → c ≡ false
or_right true c e = absurd (true≢false e)
or_right false c e = e

-- one more id, which isn't in the list
pub place_pushed : (xs : List ℕ) (t u : ℕ) → contains xs t ≡ false → place_of (xs ++ t ∷ []) u ≡ (if t == u then Some (length xs) else place_of xs u)
place_pushed [] t u n = refl
place_pushed (x ∷ xs) t u n = go (x == u) refl (t == u) refl (place_pushed xs t u (or_right (x == t) (contains xs t) n))
  where
    go : (b : Bool) → (x == u) ≡ b → (c : Bool) → (t == u) ≡ c → place_of (xs ++ t ∷ []) u ≡ (if c then Some (length xs) else place_of xs u)
        → (if b then Some 0 else option_map suc (place_of (xs ++ t ∷ []) u)) ≡ (if c then Some (suc (length xs)) else (if b then Some 0 else option_map suc (place_of xs u)))
    go true p true q ih =
        let same : (x == t) ≡ true = ap (λ z. z == t) (eqb-true x u p ∙ sym (eqb-true t u q)) ∙ same_number t in
        absurd (true≢false (sym same ∙ or_left (x == t) (contains xs t) n))
    go true p false q ih = refl
    go false p true q ih = ap (option_map suc) ih
    go false p false q ih = ap (option_map suc) ih

-- an id of a front
in_front : (i : ℕ) (ts : List ℕ) (z : ℕ) → contains ts z ≡ false → contains (take i ts) z ≡ false
in_front zero ts z n = refl
in_front (suc i) [] z n = refl
in_front (suc i) (x ∷ ts) z n = go (x == z) n (in_front i ts z)
  where
    go : (b : Bool) → (b || contains ts z) ≡ false → (contains ts z ≡ false → contains (take i ts) z ≡ false) → (b || contains (take i ts) z) ≡ false
    go true m ih = absurd (true≢false m)
    go false m ih = ih m

or_more : (b c : Bool) → c ≡ true → (b || c) ≡ true
or_more true c k = refl
or_more false c k = k

-- what an index has is in the list
has_at : (ts : List ℕ) (i d : ℕ) → i < length ts → contains ts (get_or ts i d) ≡ true
has_at [] i d h = absurd (let no : ⊥ = omega (arith, h) in no)
has_at (x ∷ ts) zero d h = ap (λ b. b || contains ts x) (same_number x)
has_at (x ∷ ts) (suc i) d h = or_more (x == get_or ts i d) (contains ts (get_or ts i d)) (has_at ts i d (omega (arith, h)))

-- and stands nowhere before it
once_before : (ts : List ℕ) (i d : ℕ) → NoneTwice ts → i < length ts → contains (take i ts) (get_or ts i d) ≡ false
once_before [] i d n h = absurd (let no : ⊥ = omega (arith, h) in no)
once_before (x ∷ ts) zero d n h = refl
once_before (x ∷ ts) (suc i) d n h = go (x == get_or ts i d) refl (once_before ts i d n.1 (omega (arith, h)))
  where
    go : (b : Bool) → (x == get_or ts i d) ≡ b → contains (take i ts) (get_or ts i d) ≡ false → (b || contains (take i ts) (get_or ts i d)) ≡ false
    go true e k = absurd (true≢false (sym (has_at ts i d (omega (arith, h))) ∙ (ap (contains ts) (sym (eqb-true x (get_or ts i d) e)) ∙ n.0)))
    go false e k = k

-- the table with the place of one tree more
pub placed_next : (ts : List ℕ) (i t place : ℕ) (old made new : List (Option ℕ)) → NoneTwice ts → IsAt ts i t → place ≡ i → AreAt (take i ts) old
    → ((u : ℕ) → at_id made u ≡ at_id old u) → t < length made → new ≡ slice_set made t (Some place) → AreAt (take (i + 1) ts) new
placed_next ts i t place old made new once here p a same room set = record { at = each }
  where
    away : contains (take i ts) t ≡ false
    away = ap (contains (take i ts)) here.item ∙ once_before ts i t once here.low

    long : length (take i ts) ≡ place
    long = length-take-le i ts (omega (arith, here.low)) ∙ sym p

    each : (u : ℕ) → at_id new u ≡ place_of (take (i + 1) ts) u
    each u =
        ap (λ l. at_id l u) set
        ∙ (set_puts made t (Some place) room u
        ∙ (ap (λ o. if t == u then Some place else o) (same u ∙ a.at u)
        ∙ (ap (λ n. if t == u then Some n else place_of (take i ts) u) (sym long)
        ∙ (sym (place_pushed (take i ts) t u away) ∙ ap (λ l. place_of l u) (sym (take_at ts i t here))))))

-- the place of an id is below the length
pub place_below : (ts : List ℕ) (t i : ℕ) → place_of ts t ≡ Some i → i < length ts
place_below [] t i h = absurd (cc)
place_below (x ∷ ts) t i h = go (x == t) (place_of ts t) refl (λ j e. place_below ts t j e) h
  where
    go : (b : Bool) (o : Option ℕ) → place_of ts t ≡ o → ((j : ℕ) → place_of ts t ≡ Some j → j < length ts) → (if b then Some 0 else option_map suc o) ≡ Some i → i < suc (length ts)
    go true o e below k = let z : 0 ≡ i = cc in omega (arith, z)
    go false None e below k = absurd (let no : ⊥ = cc in no)
    go false (Some j) e below k = let z : suc j ≡ i = cc in omega (arith, z, below j e)
