-- What a table of blocks has, as a finite map.
use Rattle.std.proofs.Common.{◌≡◌, ℕ, zero, suc, ◌+◌, ◌*◌, ◌/◌, ◌%◌, ◌≤◌, ◌<◌, ◌||◌, Bool, true, false, cond, eqb, List, [], ◌∷◌, Option, Some, None, refl, sym, ap, subst, ◌∙◌, arith}
use Rattle.std.specs.Prelude.{option_and_then, nat_eq, is_some, IsSome, ◌≢◌, MatchOption, Result, Ok, Err, OnOk, OnErr}
use Rattle.std.specs.Option.{IsSomeAnd, ForSome}
use Rattle.std.proofs.lemmas.Map.Entries.{lookup_clone}
use Rattle.std.specs.List.{list_any}
use Rattle.std.proofs.lemmas.Bool.{eqb-true, eqb-false, eq-eqb}
use Rattle.std.proofs.lemmas.Bool.Decides.{eqb_tells}
use Rattle.std.specs.Ordering.{nat_cmp, eq_by_cmp}
use Rattle.std.proofs.lemmas.Bool.Decides.{nat_tests}
use Rattle.std.specs.Cmp.{nat_cmp_total}
use Rattle.std.specs.FinMap.{FinMap, find, get, insert, remove, empty, from_entries, get-from_entries, get-insert, get-remove, get-empty, same_map, nat_cmp-IsAntisymmetric}
use Rattle.std.specs.Map.{lookup, keys_of}
use Rattle.std.specs.HashMap as hash
use Rattle.std.specs.declared.sync.Arc.{Arc}
use Rattle.std.specs.Arc.{arc_value}
use Rattle.ax_pages.specs.Slots.{slot, used_count}
use Rattle.ax_pages.proofs.SlotLemmas.{none_beside}
use Rattle.ax_pages.specs.Table.{IsSame, Puts, EachIsUsed, PagesAreUsed, IsLast, value_at, value_in, entry_at, entries_at, from_on, ids_of, held}

-- whether an id is listed
abbrev pub lists : List ℕ → ℕ → Bool
lists qs q = list_any (λ i. eqb i q) qs

pub cmp_is : (a b : ℕ) → eq_by_cmp nat_cmp a b ≡ eqb b a
cmp_is a b = grind (arith, nat_tests, eqb_tells a b, eqb_tells b a)

module _ {X : Type 0} where
  found_entry : (i q : ℕ) (o : Option X) (es : List (ℕ × X)) → find nat_cmp q (entry_at i o es) ≡ cond (eqb i q) (cond (is_some o) o (find nat_cmp q es)) (find nat_cmp q es)
  found_entry i q None es = go (eqb i q)
    where
      go : (b : Bool) → find nat_cmp q es ≡ cond b (find nat_cmp q es) (find nat_cmp q es)
      go true = refl
      go false = refl
  found_entry i q (Some x) es = ap (λ b. cond b (Some x) (find nat_cmp q es)) (cmp_is q i)

  pub find_at : (g : ℕ → Option X) (qs : List ℕ) (q : ℕ) → find nat_cmp q (entries_at g qs) ≡ cond (lists qs q) (g q) None
  find_at g [] q = refl
  find_at g (i ∷ qs) q = found_entry i q (g i) (entries_at g qs) ∙ go (eqb i q) refl (g q) refl (find_at g qs q)
    where
      none_anyway : (b : Bool) → ◌≡◌ {A = Option X} (cond b None None) None
      none_anyway true = refl
      none_anyway false = refl

      go : (b : Bool) → eqb i q ≡ b → (o : Option X) → g q ≡ o → find nat_cmp q (entries_at g qs) ≡ cond (lists qs q) o None
          → cond b (cond (is_some (g i)) (g i) (find nat_cmp q (entries_at g qs))) (find nat_cmp q (entries_at g qs)) ≡ cond (b || lists qs q) o None
      go false e o h ih = ih
      go true e None h ih = let w : g i ≡ None = ap g (eqb-true i q e) ∙ h in rw w (ih ∙ none_anyway (lists qs q))
      go true e (Some x) h ih = let w : g i ≡ Some x = ap g (eqb-true i q e) ∙ h in rw w refl

lists_from : (p n : ℕ) (qs : List ℕ) (q : ℕ) → p ≤ q → q < p + n → lists (from_on p n qs) q ≡ true
lists_from p zero qs q a b = absurd (omega arith)
lists_from p (suc n) qs q a b = go (eqb p q) refl (λ ne. lists_from (p + 1) n qs q (omega arith) (omega arith))
  where
    go : (t : Bool) → eqb p q ≡ t → ((p ≡ q → ⊥) → lists (from_on (p + 1) n qs) q ≡ true) → (t || lists (from_on (p + 1) n qs) q) ≡ true
    go true e h = refl
    go false e h = h (eqb-false p q e)

lists_more : (p n : ℕ) (qs : List ℕ) (q : ℕ) → lists qs q ≡ true → lists (from_on p n qs) q ≡ true
lists_more p zero qs q h = h
lists_more p (suc n) qs q h = grind (arith, lists_more (p + 1) n qs q h)

-- an id is listed where its page is
pub lists_id : (ns : List ℕ) (q : ℕ) → lists ns (q / 64) ≡ true → lists (ids_of ns) q ≡ true
unfolding ids_of
lists_id [] q h = h
lists_id (n ∷ ns) q h = go (eqb n (q / 64)) refl (lists_id ns q) h
  where
    go : (t : Bool) → eqb n (q / 64) ≡ t → (lists ns (q / 64) ≡ true → lists (ids_of ns) q ≡ true) → (t || lists ns (q / 64)) ≡ true → lists (from_on (64 * n) 64 (ids_of ns)) q ≡ true
    go true e ih h = let same : n ≡ q / 64 = eqb-true n (q / 64) e in lists_from (64 * n) 64 (ids_of ns) q (omega arith) (omega arith)
    go false e ih h = lists_more (64 * n) 64 (ids_of ns) q (ih h)

module _ {Y : Type 0} where
  lists_key : (es : List (ℕ × Y)) (p : ℕ) (o : Option Y) → lookup (nat_eq p) es ≡ o → is_some o ≡ lists (keys_of es) p
  lists_key [] p o h = sym (ap is_some h)
  lists_key (e ∷ es) p o h = go (eqb p e.0) refl (lists_key es p)
    where
      go : (t : Bool) → eqb p e.0 ≡ t → ((o : Option Y) → lookup (nat_eq p) es ≡ o → is_some o ≡ lists (keys_of es) p) → is_some o ≡ (eqb e.0 p || lists (keys_of es) p)
      go true w ih = let v : eqb e.0 p ≡ true = eq-eqb e.0 p (sym (eqb-true p e.0 w)) in rw v (sym (ap is_some (rw w at h)))
      go false w ih = let v : eqb e.0 p ≡ false = grind (arith, eqb_tells p e.0, eqb_tells e.0 p) in rw v (ih o (rw w at h))

pub none_anyway : {X : Type 0} (b : Bool) → ◌≡◌ {A = Option X} (cond b None None) None
none_anyway true = refl
none_anyway false = refl

pub out_none : {X : Type 0} (id : ℕ) → empty ≡ remove (empty {X = X} {R = nat_cmp}) id
out_none id = same_map nat_cmp_total nat_cmp-IsAntisymmetric _ _ (λ q. get-empty nat_cmp q ∙ sym (get-remove nat_cmp_total empty id q ∙ ap (cond (eq_by_cmp nat_cmp q id) None) (get-empty nat_cmp q) ∙ none_anyway (eq_by_cmp nat_cmp q id)))

module _ {X : Type 0} where
  -- beside the last value of a block there is none
  beside : (b : List (Option (List (Option X)))) (id q : ℕ) → IsSome (value_in b id) → IsLast b id → id / 64 / 64 ≡ q / 64 / 64 → id ≢ q → value_in b q ≡ None
  beside b id q there last block apart = go (slot b (id / 64 % 64)) refl there last.1
    where
      others : IsSome (slot b (id / 64 % 64)) → id / 64 % 64 ≢ q / 64 % 64 → value_in b q ≡ None
      others some ne = ap (option_and_then (λ page. slot page (q % 64))) (none_beside b (id / 64 % 64) (q / 64 % 64) last.0 some ne)

      go : (o : Option (List (Option X))) → slot b (id / 64 % 64) ≡ o → IsSome (option_and_then (λ page. slot page (id % 64)) o) → IsSomeAnd o (λ page. used_count page ≡ 1) → value_in b q ≡ None
      go None e h one = absurd one
      go (Some page) e h one = same_page (eqb (id / 64 % 64) (q / 64 % 64)) refl
        where
          same_page : (t : Bool) → eqb (id / 64 % 64) (q / 64 % 64) ≡ t → value_in b q ≡ None
          same_page true f =
              let its : id / 64 % 64 ≡ q / 64 % 64 = eqb-true (id / 64 % 64) (q / 64 % 64) f in
              let here : slot b (q / 64 % 64) ≡ Some page = ap (slot b) (sym its) ∙ e in
              rw here (none_beside page (id % 64) (q % 64) one h (λ r. apart (omega (arith, block, its, r))))
          same_page false f = others (ap is_some e) (eqb-false (id / 64 % 64) (q / 64 % 64) f)

module _ {X Z : Type 0} where
  -- the value at an id of its block, which may be there
  abbrev in_block : ℕ → Option (Arc (List (Option (List (Option X)))) Z) → Option X
  in_block q o = option_and_then (λ a. value_in (arc_value a) q) o

module _ {X Z S : Type 0} where
  pub held_at : (m : hash.HashMap ℕ (Arc (List (Option (List (Option X)))) Z) S) (q : ℕ) → get (from_entries {R = nat_cmp} (entries_at (value_at m) (ids_of (ids_of (hash.keys m))))) q ≡ value_at m q
  held_at m q = get-from_entries nat_cmp_total _ q ∙ find_at (value_at m) (ids_of (ids_of (hash.keys m))) q ∙ go (hash.get nat_eq m (q / 64 / 64)) refl
    where
      go : (o : Option (Arc (List (Option (List (Option X)))) Z)) → hash.get nat_eq m (q / 64 / 64) ≡ o → cond (lists (ids_of (ids_of (hash.keys m))) q) (value_at m q) None ≡ value_at m q
      go None h = let w : value_at m q ≡ None = ap (in_block q) h in rw w (none_anyway (lists (ids_of (ids_of (hash.keys m))) q))
      go (Some a) h =
          let w : lists (hash.keys m) (q / 64 / 64) ≡ true = sym (lists_key m.entries (q / 64 / 64) (Some a) h) in
          rw (lists_id (ids_of (hash.keys m)) q (lists_id (hash.keys m) (q / 64) w)) refl

  -- the same values make the same map
  pub same_held : (m : hash.HashMap ℕ (Arc (List (Option (List (Option X)))) Z) S) (s : FinMap nat_cmp X) → ((q : ℕ) → value_at m q ≡ get s q)
      → from_entries {R = nat_cmp} (entries_at (value_at m) (ids_of (ids_of (hash.keys m)))) ≡ s
  same_held m s h = same_map nat_cmp_total nat_cmp-IsAntisymmetric _ _ (λ q. held_at m q ∙ h q)

  -- a value that is put
  pub put_held : (m n : hash.HashMap ℕ (Arc (List (Option (List (Option X)))) Z) S) (i id : ℕ) (v w : X) (s : FinMap nat_cmp X) → i ≡ id → v ≡ w → ((q : ℕ) → value_at m q ≡ get s q)
      → ((q : ℕ) → value_at n q ≡ cond (nat_eq i q) (Some v) (value_at m q))
      → from_entries {R = nat_cmp} (entries_at (value_at n) (ids_of (ids_of (hash.keys n)))) ≡ insert s id w
  put_held m n i id v w s e f h p = same_held n (insert s id w) (λ q.
      p q ∙ ap (cond (eqb i q) (Some v)) (h q) ∙ ap (λ j. cond (eqb j q) (Some v) (get s q)) e ∙ ap (λ x. cond (eqb id q) (Some x) (get s q)) f
      ∙ sym (get-insert nat_cmp_total s id w q ∙ ap (λ b. cond b (Some w) (get s q)) (cmp_is q id)))

  -- a value that is taken out
  pub out_held : (m n : hash.HashMap ℕ (Arc (List (Option (List (Option X)))) Z) S) (i id : ℕ) (s : FinMap nat_cmp X) → i ≡ id → ((q : ℕ) → value_at m q ≡ get s q)
      → ((q : ℕ) → value_at n q ≡ cond (nat_eq i q) None (value_at m q))
      → from_entries {R = nat_cmp} (entries_at (value_at n) (ids_of (ids_of (hash.keys n)))) ≡ remove s id
  out_held m n i id s e h p = same_held n (remove s id) (λ q.
      p q ∙ ap (cond (eqb i q) None) (h q) ∙ ap (λ j. cond (eqb j q) None (get s q)) e
      ∙ sym (get-remove nat_cmp_total s id q ∙ ap (λ b. cond b None (get s q)) (cmp_is q id)))

  -- what is read of what is seen
  pub seen_at : {Y : Type 0} (o : Option (Arc (hash.HashMap ℕ (Arc (List (Option (List (Option X)))) Z) S) Y)) (a : Arc (hash.HashMap ℕ (Arc (List (Option (List (Option X)))) Z) S) Y) (s : FinMap nat_cmp X) → o ≡ Some a → held o ≡ s → (q : ℕ) → value_at (arc_value a) q ≡ get s q
  seen_at o a s e v q = sym (held_at (arc_value a) q) ∙ ap (λ m. get m q) (sym (ap held e) ∙ v)

  pub empty_at : (m : hash.HashMap ℕ (Arc (List (Option (List (Option X)))) Z) S) (s : FinMap nat_cmp X) → m.entries ≡ [] → empty ≡ s → (q : ℕ) → value_at m q ≡ get s q
  empty_at m s e v q = ap (λ es. in_block q (lookup (nat_eq (q / 64 / 64)) es)) e ∙ sym (ap (λ m. get m q) (sym v) ∙ get-empty nat_cmp q)

  pub kept_held : (m n : hash.HashMap ℕ (Arc (List (Option (List (Option X)))) Z) S) (s : FinMap nat_cmp X) → ((q : ℕ) → value_at m q ≡ get s q) → IsSame m n
      → from_entries {R = nat_cmp} (entries_at (value_at n) (ids_of (ids_of (hash.keys n)))) ≡ s
  kept_held m n s h k = same_held n s (λ q. k q ∙ h q)

  -- a clone of a table
  pub clone_at : (m n : hash.HashMap ℕ (Arc (List (Option (List (Option X)))) Z) S) (C : ℕ → ℕ → Type 0) → ((x y : ℕ) → C x y → y ≡ x) → hash.IsClone C (λ c d. arc_value d ≡ arc_value c) m n → (q : ℕ) → value_at n q ≡ value_at m q
  clone_at m n C same h q =
      go (hash.get nat_eq m (q / 64 / 64)) (hash.get nat_eq n (q / 64 / 64))
      (lookup_clone C (λ c d. arc_value d ≡ arc_value c) (nat_eq (q / 64 / 64)) (λ x y k. ap (nat_eq (q / 64 / 64)) (same x y k)) m.entries n.entries h)
    where
      go : (o p : Option (Arc (List (Option (List (Option X)))) Z)) → MatchOption o (p ≡ None) (λ v. IsSomeAnd p (λ w. arc_value w ≡ arc_value v)) → in_block q p ≡ in_block q o
      go None p k = ap (in_block q) k
      go (Some a) None k = absurd k
      go (Some a) (Some b) k = ap (λ block. value_in block q) k

  -- a clone of a table has no empty block or page
  pub clone_used : (m n : hash.HashMap ℕ (Arc (List (Option (List (Option X)))) Z) S) (C : ℕ → ℕ → Type 0) → ((x y : ℕ) → C x y → y ≡ x) → hash.IsClone C (λ c d. arc_value d ≡ arc_value c) m n → EachIsUsed m → EachIsUsed n
  clone_used m n C same h used p =
      go (hash.get nat_eq m p) (hash.get nat_eq n p) refl
      (lookup_clone C (λ c d. arc_value d ≡ arc_value c) (nat_eq p) (λ x y k. ap (nat_eq p) (same x y k)) m.entries n.entries h)
    where
      go : (o q : Option (Arc (List (Option (List (Option X)))) Z)) → hash.get nat_eq m p ≡ o → MatchOption o (q ≡ None) (λ v. IsSomeAnd q (λ w. arc_value w ≡ arc_value v))
          → ForSome q (λ a. (0 < used_count (arc_value a)) × PagesAreUsed (arc_value a))
      go None q e k c is = absurd (cc)
      go (Some a) None e k c is = absurd k
      go (Some a) (Some b) e k c is =
          let one : b ≡ c = cc in
          let block : arc_value c ≡ arc_value a = sym (ap arc_value one) ∙ k in
          rw block (used p a e)

  -- a block is put in the place of what was there, or none
  block_puts : (m n : hash.HashMap ℕ (Arc (List (Option (List (Option X)))) Z) S) (number : ℕ) (v : Option (Arc (List (Option (List (Option X)))) Z))
      → ((p : ℕ) → hash.get nat_eq n p ≡ cond (nat_eq number p) v (hash.get nat_eq m p)) → (id : ℕ) (o : Option X) → number ≡ id / 64 / 64
      → ((q : ℕ) → id / 64 / 64 ≡ q / 64 / 64 → in_block q v ≡ cond (eqb id q) o (in_block q (hash.get nat_eq m number))) → Puts m n id o
  block_puts m n number v put id o its at q = ap (in_block q) (put (q / 64 / 64)) ∙ go (eqb number (q / 64 / 64)) refl
    where
      go : (t : Bool) → eqb number (q / 64 / 64) ≡ t → in_block q (cond t v (hash.get nat_eq m (q / 64 / 64))) ≡ cond (eqb id q) o (value_at m q)
      go true e =
          let here : number ≡ q / 64 / 64 = eqb-true number (q / 64 / 64) e in
          at q (sym its ∙ here) ∙ ap (λ k. cond (eqb id q) o (in_block q (hash.get nat_eq m k))) here
      go false e = other (eqb id q) refl
        where
          other : (t : Bool) → eqb id q ≡ t → value_at m q ≡ cond t o (value_at m q)
          other true f = absurd (eqb-false number (q / 64 / 64) e (its ∙ ap (λ k. k / 64 / 64) (eqb-true id q f)))
          other false f = refl

  -- a block whose pages are as many as before, and used
  pub blocks_used : (m n : hash.HashMap ℕ (Arc (List (Option (List (Option X)))) Z) S) (number : ℕ) (a b : Arc (List (Option (List (Option X)))) Z) → hash.get nat_eq m number ≡ Some a
      → ((p : ℕ) → hash.get nat_eq n p ≡ cond (nat_eq number p) (Some b) (hash.get nat_eq m p)) → EachIsUsed m → used_count (arc_value b) ≡ used_count (arc_value a) → PagesAreUsed (arc_value b) → EachIsUsed n
  blocks_used m n number a b had put all same pages p x is = go (eqb number p) (sym (put p) ∙ is)
    where
      go : (t : Bool) → cond t (Some b) (hash.get nat_eq m p) ≡ Some x → (0 < used_count (arc_value x)) × PagesAreUsed (arc_value x)
      go false e = all p x e
      go true e =
          let one : b ≡ x = cc in
          let some : 0 < used_count (arc_value b) = omega (arith, same, (all number a had).0) in
          subst (λ (y : Arc (List (Option (List (Option X)))) Z). (0 < used_count (arc_value y)) × PagesAreUsed (arc_value y)) one (some, pages)

  -- a block goes with its last value; its number was found and taken out
  pub block_taken : (m n : hash.HashMap ℕ (Arc (List (Option (List (Option X)))) Z) S) (id taken : ℕ) → taken ≡ id / 64 / 64 → IsSome (value_at m id)
      → ForSome (hash.get nat_eq m (id / 64 / 64)) (λ a. IsLast (arc_value a) id) → ((q : ℕ) → hash.get nat_eq n q ≡ cond (nat_eq taken q) None (hash.get nat_eq m q)) → Puts m n id None
  block_taken m n id taken its there last gone = block_puts m n taken None gone id None its at
    where
      none : (q : ℕ) (o : Option (Arc (List (Option (List (Option X)))) Z)) → hash.get nat_eq m (id / 64 / 64) ≡ o → IsSome (in_block id o) → id / 64 / 64 ≡ q / 64 / 64 → id ≢ q → in_block q o ≡ None
      none q None e h s ne = refl
      none q (Some a) e h s ne = beside (arc_value a) id q h (last a e) s ne

      at : (q : ℕ) → id / 64 / 64 ≡ q / 64 / 64 → None ≡ cond (eqb id q) None (in_block q (hash.get nat_eq m taken))
      at q s = go (eqb id q) refl
        where
          go : (t : Bool) → eqb id q ≡ t → None ≡ cond t None (in_block q (hash.get nat_eq m taken))
          go true e = refl
          go false e = sym (ap (λ k. in_block q (hash.get nat_eq m k)) its ∙ none q (hash.get nat_eq m (id / 64 / 64)) refl there s (eqb-false id q e))

-- what follows where a clause says something of one variant
pub on_ok : {A E : Type 0} (r : Result A E) (P Q : Type 0) → OnOk r P → (P → Q) → OnOk r Q
on_ok (Ok x) P Q h f = f h
on_ok (Err x) P Q h f = h

pub on_err : {A E : Type 0} (r : Result A E) (P Q : Type 0) → OnErr r P → (P → Q) → OnErr r Q
on_err (Ok x) P Q h f = h
on_err (Err x) P Q h f = f h
