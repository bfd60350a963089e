-- Each step of a turn keeps its rule.
use Rattle.std.proofs.Common.{◌≡◌, ℕ, zero, suc, ◌<◌, ◌≤◌, eqb, ◌≢◌, ◌⊎◌, inl, inr, List, [], ◌∷◌, ◌++◌, length, get_or, set, Bool, true, false, true≢false, Option, Some, None, sym, refl, ap, ◌∙◌, subst, ⊎_elim, arith, le_refl, length-set, append-nil, ltb, if◌then◌else◌, get_or-set_same}
use mathlib.Core.Logic.{dite}
use mathlib.Core.Option.{Option as Maybe, some, none, some-injective, some-ne-none}
use native.Mathlib.Decide.{ℕ_discrete}
use lib.ListN.{get_elem?}
use lib.Seq.{set-get_or}
use prog.Atomic.{either}
use Rattle.atomic_table.specs.Table.{State, Me, step, Act, keeps, takes, gives, carried_after, stepped, Valid, Allows, Splits, Joins, opening, Final, Seen}
use Rattle.atomic_table.proofs.Lists.{at_set, set_here, set_else, set_again, at_longer, exchanged}
use Rattle.std.proofs.lemmas.Bool.{ltb-true, ltb-false}
use Rattle.std.proofs.lemmas.List.{set_comm}
use Rattle.ax_turn.specs.declared.known.Known.{Known}
use Rattle.ax_turn.specs.Makers.{AllOwn, NoneOwn, GrowsByOwn, GrowsByOthers}
use Rattle.ax_turn.specs.Rule.{newcomer, spent, entered, left_with, cut_below, cut_above, end_of, joined, settled, SeatsApart, SeatFits, Turned, took, released, learned}
use Rattle.ax_turn.proofs.Growing.{AllOwn-append, AllOwn-wider, AllOwn-right, no_entries, grows-refl, grows-trans, of_others, of_neither, none_of_empty, grows_between, none_after}

module _ {A : Type 0} where
  pub set_at_here : (vs : List A) (i : ℕ) (v w : A) → get_elem? vs i ≡ some v → get_elem? (set vs i w) i ≡ some w
  set_at_here [] i v w e = absurd (some-ne-none v (sym e))
  set_at_here (x ∷ xs) zero v w e = refl
  set_at_here (x ∷ xs) (suc i) v w e = set_at_here xs i v w e

  pub at_snoc_or : (l : List A) (a b : A) (j : ℕ) → get_elem? (l ++ a ∷ []) j ≡ some b → (get_elem? l j ≡ some b) ⊎ ((j ≡ length l) × (a ≡ b))
  at_snoc_or [] a b zero e = inr (refl, some-injective a b e)
  at_snoc_or [] a b (suc j) e = absurd (some-ne-none b (sym e))
  at_snoc_or (x ∷ xs) a b zero e = inl e
  at_snoc_or (x ∷ xs) a b (suc j) e = ⊎_elim (λ t. inl t) (λ t. inr (ap suc t.0, t.1)) (at_snoc_or xs a b j e)

abbrev option_or : {T : Type 0} → Option T → T → T
option_or (Some y) d = y
option_or None d = d

abbrev held_or : {T : Type 0} → List (ℕ × Option T) → T → T
held_or [] d = d
held_or (x ∷ xs) d = option_or x.1 d

pub by_test : (a b : ℕ) (F : Bool → Type 0) → (a < b → F true) → (b ≤ a → F false) → F (ltb a b)
by_test a b F below above = go (ltb a b) refl
  where
    go : (x : Bool) → ltb a b ≡ x → F x
    go true e = below (ltb-true a b e)
    go false e = above (ltb-false a b e)

off : false ≡ true → ⊥
off e = true≢false (sym e)

module _ {T E : Type 0} (entries : T → List E) (maker : E → ℕ) (name_of : T → List ℕ) (makers : ℕ) (name : List ℕ) where
  abbrev V : Type 0
  V = Known E

  abbrev M : Type 0
  M = Me (Option T) V

  abbrev St : Type 0
  St = State (Option T) V

  abbrev Rule : St → Type 0
  Rule = Turned entries maker name_of makers name

  abbrev word : St → ℕ
  word s = get_or s.words 0 0

  -- the table with another word, other homes, and another view of one seat
  pub replaced : (s : St) (r : Rule s) (n holder id : ℕ) (log : List E) (homes : List (Maybe (Option T))) (v w : V) → get_elem? s.views id ≡ some v → n ≤ 1
      → (n ≡ 0 → (value : T) × (get_elem? homes 0 ≡ some (some (Some value))) × (entries value ≡ log) × (name_of value ≡ name))
      → (n ≡ 1 → (u : V) × (get_elem? (set s.views id w) holder ≡ some u) × (u.inside ≡ true))
      → AllOwn maker 0 makers log
      → SeatFits maker n holder makers name log id w
      → ((j : ℕ) (u : V) → j ≢ id → get_elem? s.views j ≡ some u → SeatFits maker n holder makers name log j u)
      → ((j : ℕ) (u : V) → j ≢ id → get_elem? s.views j ≡ some u → SeatsApart w u)
      → Rule record { words = set s.words 0 n; homes = homes; views = set s.views id w }
  replaced s r n holder id log homes v w at small home out made mine others apart =
      let one = r.one in
      let now : n ≡ get_or (set s.words 0 n) 0 0 = sym (get_or-set_same s.words 0 n 0 (omega arith)) in record {
        log = log;
        holder = holder;
        one = length-set s.words 0 n ∙ one;
        bit = subst (λ (k : ℕ). k ≤ 1) now small;
        home = subst (λ (k : ℕ). k ≡ 0 → (value : T) × (get_elem? homes 0 ≡ some (some (Some value))) × (entries value ≡ log) × (name_of value ≡ name)) now home;
        out = subst (λ (k : ℕ). k ≡ 1 → (u : V) × (get_elem? (set s.views id w) holder ≡ some u) × (u.inside ≡ true)) now out;
        made = made;
        each = subst (λ (k : ℕ). (j : ℕ) (u : V) → get_elem? (set s.views id w) j ≡ some u → SeatFits maker k holder makers name log j u) now
            (λ j u e. ⊎_elim (λ (t : (j ≡ id) × (w ≡ u)). subst (λ (y : ℕ × V). SeatFits maker n holder makers name log y.0 y.1) (λ i. (sym t.0 i, t.1 i)) mine)
            (λ (t : (j ≢ id) × (get_elem? s.views j ≡ some u)). others j u t.0 t.1) (at_set s.views id j w u e));
        apart = λ i j a b differ at_i at_j.
            ⊎_elim
            (λ (t : (i ≡ id) × (w ≡ a)).
            ⊎_elim
            (λ (q : (j ≡ id) × (w ≡ b)). absurd (differ (t.0 ∙ sym q.0)))
            (λ (q : (j ≢ id) × (get_elem? s.views j ≡ some b)). subst (λ (x : V). SeatsApart x b) t.1 (apart j b q.0 q.1))
            (at_set s.views id j w b at_j))
            (λ (t : (i ≢ id) × (get_elem? s.views i ≡ some a)).
            ⊎_elim
            (λ (q : (j ≡ id) × (w ≡ b)). subst (λ (x : V). SeatsApart a x) q.1 (λ n' p1 p2 p3 p4. apart i a t.0 t.1 n' p3 p4 p1 p2))
            (λ (q : (j ≢ id) × (get_elem? s.views j ≡ some b)). r.apart i j a b differ t.1 q.1)
            (at_set s.views id j w b at_j))
            (at_set s.views id i w a at_i);
      }

  -- nothing changes
  pub unmoved : (s : St) (r : Rule s) (id : ℕ) (me : M) → get_elem? s.views id ≡ some me.0 → Rule (stepped s 0 (word s) id me.1 me.0 keeps)
  unmoved s r id me at =
      let P : List ℕ × List V → Type 0 = λ x. Rule record { words = x.0; homes = s.homes; views = x.1 } in
      subst P (λ i. (sym (set-get_or s.words 0 0) i, sym (set_again s.views id me.0 at) i)) r

  pub takes_turn : (slots id : ℕ) (me : M) → me.0.inside ≡ false → me.0.low < me.0.high → 0 < me.0.makers
      → Allows Rule slots id me 0 (λ n. either (eqb n 0) 1 n) (took entries maker name_of (step slots 0 0 1 none) me)
  takes_turn slots id me idle some_number live s r wide at small =
      let Goal : ℕ → Type 0 = λ n. (w : V) × (a : Act (Option T)) × Valid s.homes me.1 a × Rule (stepped s 0 n id me.1 w a) × took entries maker name_of (step slots 0 0 1 none) me (word s) (w, carried_after me.1 a) in
      exchanged (word s) 0 1 Goal
      (λ free.
      let v = me.0 in
      let home = r.home free in
      let fit = r.each id v at in
      let w : V = entered v r.log in
      let others : (j : ℕ) (u : V) → j ≢ id → get_elem? s.views j ≡ some u → SeatFits maker 1 id makers name r.log j u = λ j u other there.
      let f = r.each j u there in
      record { inside = λ is. absurd (omega (arith, (f.inside is).0)); seen = f.seen; told = f.told; within = f.within; order = f.order; below = f.below; fixed = f.fixed } in (
        w,
        takes 0 (Some home.0),
        home.1,
        replaced s r 1 id id r.log (set s.homes 0 none) v w at (omega arith) (λ z. absurd (omega arith)) (λ _. (w, set_at_here s.views id v w at, refl)) r.made
            record { inside = λ _. (refl, refl, refl, some_number); seen = grows-refl maker v.low v.high r.log; told = fit.told; within = fit.within; order = fit.order; below = fit.below; fixed = fit.fixed }
            others
            (λ j u other there. r.apart id j v u (λ e. other (sym e)) at there),
        ((λ _. (home.0, refl, (ap (λ l. entered v l) (sym home.2), subst (GrowsByOthers maker v.low v.high v.seen) (sym home.2) fit.seen, home.3 ∙ sym (fit.fixed live).1))), (λ held. absurd (held free))),
      ))
      (λ held. (me.0, keeps, tt, unmoved s r id me at, ((λ free. absurd (held free)), (λ _. refl))))

  pub releases : (slots id : ℕ) (me : M) (v : V) (value : T) → me ≡ (v, (0, Some value) ∷ []) → slots ≡ 1 → v.inside ≡ true → 0 < v.makers → v.told ≡ [] → v.told_high ≡ 0
      → GrowsByOwn maker v.low v.high v.seen (entries value) → name_of value ≡ v.name
      → Allows Rule slots id me 0 (λ _. 0) (λ _. released entries maker name_of (step slots 0 0 0 none) me 0)
  releases slots id me v value hand single is live told no_told grows named =
      let P : M → Type 0 = λ m. Allows Rule slots id m 0 (λ _. 0) (λ _. released entries maker name_of (step slots 0 0 0 none) m 0) in
      subst P (sym hand)
      (λ s r wide at small.
      let fit = r.each id v at in
      let here = fit.inside is in
      let log : List E = entries value in
      let w : V = left_with v log in
      let low : ℕ = v.low in
      let high : ℕ = v.high in
      let below : high ≤ makers = fit.below in
      let longer_by : log ≡ r.log ++ grows.0 = grows.1 ∙ ap (λ l. l ++ grows.0) here.2 in
      let homes : List (Maybe (Option T)) = set s.homes 0 (some (Some value)) in (
        w,
        gives,
        tt,
        replaced s r 0 id id log homes v w at (omega arith) (λ _. (value, set_here s.homes 0 (some (Some value)) (omega arith), refl, named ∙ (fit.fixed live).1)) (λ z. absurd (omega arith))
            (subst (AllOwn maker 0 makers) (sym longer_by) (AllOwn-append maker 0 makers r.log grows.0 r.made (AllOwn-wider maker low high 0 makers grows.0 (omega arith) below grows.2)))
            record { inside = λ e. absurd (off e); seen = grows-refl maker low high log; told = (log, ap (λ l. l ++ log) (sym told), none_of_empty maker v.told_low v.told_high log no_told); within = fit.within; order = fit.order; below = below; fixed = fit.fixed }
            (λ j u other there.
            let f = r.each j u there in
            let apart = r.apart id j v u (λ e. other (sym e)) at there in
            record {
              inside = λ e. absurd (other ((f.inside e).1 ∙ sym here.1));
              seen = grows-trans maker u.low u.high u.seen r.log log f.seen (grows.0, longer_by, of_others maker low high u.low u.high grows.0 apart grows.2);
              told = grows-trans maker u.told_low u.told_high u.told r.log log f.told (grows.0, longer_by, of_others maker low high u.told_low u.told_high grows.0 (λ n a b p q. let t = f.within n p q in apart n a b t.0 t.1) grows.2);
              within = f.within;
              order = f.order;
              below = f.below;
              fixed = f.fixed;
            })
            (λ j u other there. r.apart id j v u (λ e. other (sym e)) at there),
        (λ y same. ap (λ (z : T). let out : M = (left_with v (entries z), []) in out) (ap (λ (l : List (ℕ × Option T)). held_or l value) same)),
      ))

  -- another view of a seat that is not inside
  pub renewed : (s : St) (r : Rule s) (id : ℕ) (v w : V) → get_elem? s.views id ≡ some v → v.inside ≡ false → w.inside ≡ false → GrowsByOthers maker w.low w.high w.seen r.log → GrowsByOthers maker w.told_low w.told_high w.told r.log
      → ((n : ℕ) → w.told_low ≤ n → n < w.told_high → (w.low ≤ n) × (n < w.high)) → w.low ≤ w.high → w.high ≤ makers → (0 < w.makers → (w.makers ≡ makers) × (w.name ≡ name))
      → ((j : ℕ) (u : V) → j ≢ id → get_elem? s.views j ≡ some u → SeatsApart w u)
      → (t : Rule record { words = s.words; homes = s.homes; views = set s.views id w }) × (t.log ≡ r.log) × (t.holder ≡ r.holder)
  unfolding replaced
  renewed s r id v w at idle idle' seen told within order below fixed apart =
      let n : ℕ = word s in
      let t = replaced s r n r.holder id r.log s.homes v w at r.bit r.home
      (λ one. let o = r.out one in (o.0, set_else s.views id r.holder w (λ e. true≢false (sym o.2 ∙ (ap (λ (x : V). x.inside) (some-injective o.0 v (sym o.1 ∙ (ap (λ k. get_elem? s.views k) e ∙ at))) ∙ idle))) ∙ o.1, o.2))
      r.made
      record { inside = λ e. absurd (true≢false (sym e ∙ idle')); seen = seen; told = told; within = within; order = order; below = below; fixed = fixed }
      (λ j u _ there. r.each j u there)
      apart in
      let P : List ℕ → Type 0 = λ ws. (t : Rule record { words = ws; homes = s.homes; views = set s.views id w }) × (t.log ≡ r.log) × (t.holder ≡ r.holder) in
      subst P (set-get_or s.words 0 0) (t, refl, refl)

  -- the table at the start
  pub begins : (value : T) → name_of value ≡ name → 0 < makers → AllOwn maker 0 makers (entries value)
      → Rule (opening (0 ∷ []) (Some value ∷ []) (newcomer (entries value) makers name))
  begins value named many made = let v : V = newcomer (entries value) makers name in record {
    log = entries value;
    holder = 0;
    one = refl;
    bit = omega arith;
    home = λ _. (value, refl, refl, named);
    out = λ z. absurd (omega arith);
    made = made;
    each = only;
    apart = λ i j a b differ at_i at_j. absurd (differ (sole i a at_i ∙ sym (sole j b at_j)));
  }
    where
      sole : (i : ℕ) (a : V) → get_elem? (newcomer (entries value) makers name ∷ []) i ≡ some a → i ≡ 0
      sole zero a e = refl
      sole (suc i) a e = absurd (some-ne-none a (sym e))

      only : (i : ℕ) (a : V) → get_elem? (newcomer (entries value) makers name ∷ []) i ≡ some a → SeatFits maker 0 0 makers name (entries value) i a
      only zero a e = subst (SeatFits maker 0 0 makers name (entries value) 0) (some-injective _ a e) record {
        inside = λ is. absurd (off is);
        seen = grows-refl maker 0 makers (entries value);
        told = (entries value, refl, none_of_empty maker 0 0 (entries value) refl);
        within = λ n p q. absurd (omega arith);
        order = omega arith;
        below = le_refl makers;
        fixed = λ _. (refl, refl);
      }
      only (suc i) a e = absurd (some-ne-none a (sym e))

  -- a new seat comes with a view
  pub arrived : (s : St) (r : Rule s) (w : V) → SeatFits maker (word s) r.holder makers name r.log (length s.views) w → ((j : ℕ) (u : V) → get_elem? s.views j ≡ some u → SeatsApart w u)
      → Rule record { words = s.words; homes = s.homes; views = s.views ++ w ∷ [] }
  arrived s r w mine apart = record {
    log = r.log;
    holder = r.holder;
    one = r.one;
    bit = r.bit;
    home = r.home;
    out = λ one. let o = r.out one in (o.0, at_longer s.views (w ∷ []) r.holder o.0 o.1, o.2);
    made = r.made;
    each = λ j u e. ⊎_elim (λ t. r.each j u t) (λ (t : (j ≡ length s.views) × (w ≡ u)). subst (λ (y : ℕ × V). SeatFits maker (word s) r.holder makers name r.log y.0 y.1) (λ i. (sym t.0 i, t.1 i)) mine) (at_snoc_or s.views w u j e);
    apart = λ i j a b differ at_i at_j.
        ⊎_elim
        (λ (t : get_elem? s.views i ≡ some a).
        ⊎_elim
        (λ (q : get_elem? s.views j ≡ some b). r.apart i j a b differ t q)
        (λ (q : (j ≡ length s.views) × (w ≡ b)). subst (λ (x : V). SeatsApart a x) q.1 (λ n p1 p2 p3 p4. apart i a t n p3 p4 p1 p2))
        (at_snoc_or s.views w b j at_j))
        (λ (t : (i ≡ length s.views) × (w ≡ a)).
        ⊎_elim
        (λ (q : get_elem? s.views j ≡ some b). subst (λ (x : V). SeatsApart x b) t.1 (apart j b q))
        (λ (q : (j ≡ length s.views) × (w ≡ b)). absurd (differ (t.0 ∙ sym q.0)))
        (at_snoc_or s.views w b j at_j))
        (at_snoc_or s.views w a i at_i);
  }

  -- fewer numbers are none of the others'
  pub fewer_own : (low high below above : ℕ) (xs : List E) → low ≤ below → above ≤ high → NoneOwn maker low high xs → NoneOwn maker below above xs
  fewer_own low high below above [] l h p = tt
  fewer_own low high below above (x ∷ xs) l h p = ((λ own. let a = own.0 in let b = own.1 in p.0 (omega arith, omega arith)), fewer_own low high below above xs l h p.1)

  pub splits : (id : ℕ) (v : V) (at : ℕ) → v.inside ≡ false → 0 < v.makers → v.told ≡ [] → v.told_high ≡ 0 → v.low ≤ at → at ≤ v.high → Splits Rule id v (cut_below at v) (cut_above at v)
  splits id v at idle live told no_told above below s r there =
      let fit = r.each id v there in
      let order : v.low ≤ v.high = fit.order in
      let most : v.high ≤ makers = fit.below in
      let seen = fit.seen in
      let empty : (low : ℕ) → GrowsByOthers maker low 0 [] r.log = λ low. (r.log, refl, none_of_empty maker low 0 r.log refl) in
      let t = renewed s r id v (cut_below at v) there idle idle (seen.0, seen.1, fewer_own v.low v.high v.low at seen.0 (le_refl v.low) below seen.2) fit.told
      (λ n p q. absurd (omega arith)) above (omega arith) fit.fixed
      (λ j u other here. λ n p q. let q' : n < at = q in r.apart id j v u (λ e. other (sym e)) there here n p (omega arith)) in
      let vs : List V = set s.views id (cut_below at v) in
      arrived record { words = s.words; homes = s.homes; views = vs } t.0 (cut_above at v)
      record {
        inside = λ e. absurd (off e);
        seen = subst (GrowsByOthers maker at v.high v.seen) (sym t.1) (seen.0, seen.1, fewer_own v.low v.high at v.high seen.0 above (le_refl v.high) seen.2);
        told = (t.0.log, refl, none_of_empty maker 0 0 t.0.log refl);
        within = λ n p q. absurd (omega arith);
        order = below;
        below = most;
        fixed = fit.fixed;
      }
      (λ j u here. ⊎_elim
      (λ (x : (j ≡ id) × (cut_below at v ≡ u)). subst (λ (y : V). SeatsApart (cut_above at v) y) x.1 (λ n p q p' q'. let a : at ≤ n = p in let b : n < at = q' in absurd (omega arith)))
      (λ (x : (j ≢ id) × (get_elem? s.views j ≡ some u)). λ n p q. let p' : at ≤ n = p in r.apart id j v u (λ e. x.0 (sym e)) there x.1 n (omega arith) q)
      (at_set s.views id j (cut_below at v) u here))

  pub learns : (slots id : ℕ) (me : M) → me.0.inside ≡ false → Allows Rule slots id me 0 (λ n. n) (learned entries maker name_of (step slots 0 0 0 none) me)
  learns slots id me idle s r wide at small =
      let v = me.0 in
      let fit = r.each id v at in
      let t = renewed s r id v (settled v) at idle idle fit.seen (r.log, refl, none_of_empty maker 0 0 r.log refl) (λ n p q. absurd (omega arith)) fit.order fit.below fit.fixed
      (λ j u other there. r.apart id j v u (λ e. other (sym e)) at there) in
      let P : List ℕ → Type 0 = λ ws. Rule record { words = ws; homes = s.homes; views = set s.views id (settled v) } in
      (settled v, keeps, tt, subst P (sym (set-get_or s.words 0 0)) t.0, (refl, λ short. grows_between maker v.told_low v.told_high v.told v.seen r.log fit.told fit.seen.0 fit.seen.1 short))

  pub closes : (ws : List ℕ) (xs : List (Option T)) (id : ℕ) (v : V) → v.inside ≡ false → v.low ≡ 0 → v.high ≡ makers → Final (Seen Rule id v) ws xs
      → (value : T) × (get_elem? xs 0 ≡ some (Some value)) × (entries value ≡ v.seen) × (name_of value ≡ name)
  closes ws xs id v idle from_first to_last f =
      let s = f.0 in
      let r = f.1.0 in
      let there = f.1.1 in
      let fit = r.each id v there in
      let bit : word s ≤ 1 = r.bit in
      dite (ℕ_discrete (word s) 0)
      (λ free.
      let h = r.home free in
      let rest : List E = fit.seen.0 in
      let nothing : rest ≡ [] = no_entries maker 0 makers rest (AllOwn-right maker 0 makers v.seen rest (subst (AllOwn maker 0 makers) fit.seen.1 r.made)) (subst (λ (x : ℕ × ℕ). NoneOwn maker x.0 x.1 rest) (λ i. (from_first i, to_last i)) fit.seen.2) in
      (h.0, f.4 0 (Some h.0) h.1, h.2 ∙ (fit.seen.1 ∙ (ap (λ l. v.seen ++ l) nothing ∙ append-nil v.seen)), h.3))
      (λ held.
      let o = r.out (omega arith) in
      let other = r.each r.holder o.0 o.1 in
      let inside = (other.inside o.2).3 in
      let low : ℕ = o.0.low in
      let high : ℕ = o.0.high in
      let some_number : low < high = inside in
      let most : high ≤ makers = other.below in
      absurd (r.apart id r.holder v o.0 (λ e. true≢false (sym o.2 ∙ (ap (λ (x : V). x.inside) (some-injective o.0 v (sym o.1 ∙ (ap (λ k. get_elem? s.views k) (sym e) ∙ there))) ∙ idle))) there o.1 low (omega arith) (omega arith) (le_refl low) some_number))

  -- where the numbers of both end
  ends : (v w : V) → ((w.low < w.high) × (end_of v w ≡ w.high)) ⊎ ((w.high ≤ w.low) × (end_of v w ≡ v.high))
  ends v w = by_test w.low w.high (λ b. ((w.low < w.high) × ((if b then w.high else v.high) ≡ w.high)) ⊎ ((w.high ≤ w.low) × ((if b then w.high else v.high) ≡ v.high))) (λ h. inl (h, refl)) (λ h. inr (h, refl))

  abbrev Beside : V → V → Type 0
  Beside v w = (w.high ≤ w.low) ⊎ (w.low ≡ v.high)

  -- the numbers of both are those from the first's beginning to there
  cover : (v w : V) → Beside v w → (n : ℕ) → v.low ≤ n → n < end_of v w → ((v.low ≤ n) × (n < v.high)) ⊎ ((w.low ≤ n) × (n < w.high))
  cover v w beside n p q = ⊎_elim
      (λ (t : (w.low < w.high) × (end_of v w ≡ w.high)). by_test n v.high (λ _. ((v.low ≤ n) × (n < v.high)) ⊎ ((w.low ≤ n) × (n < w.high))) (λ h. inl (p, h))
      (λ h. ⊎_elim (λ (none : w.high ≤ w.low). absurd (omega arith)) (λ (touch : w.low ≡ v.high). inr (omega arith, omega arith)) beside))
      (λ (t : (w.high ≤ w.low) × (end_of v w ≡ v.high)). inl (p, omega arith))
      (ends v w)

  first_in : (v w : V) → Beside v w → v.low ≤ v.high → (n : ℕ) → v.low ≤ n → n < v.high → (v.low ≤ n) × (n < end_of v w)
  first_in v w beside order n p q = ⊎_elim
      (λ (t : (w.low < w.high) × (end_of v w ≡ w.high)). ⊎_elim (λ (none : w.high ≤ w.low). absurd (omega arith)) (λ (touch : w.low ≡ v.high). (p, omega arith)) beside)
      (λ (t : (w.high ≤ w.low) × (end_of v w ≡ v.high)). (p, omega arith))
      (ends v w)

  second_in : (v w : V) → Beside v w → v.low ≤ v.high → (n : ℕ) → w.low ≤ n → n < w.high → (v.low ≤ n) × (n < end_of v w)
  second_in v w beside order n p q = ⊎_elim
      (λ (t : (w.low < w.high) × (end_of v w ≡ w.high)). ⊎_elim (λ (none : w.high ≤ w.low). absurd (omega arith)) (λ (touch : w.low ≡ v.high). (omega arith, omega arith)) beside)
      (λ (t : (w.high ≤ w.low) × (end_of v w ≡ v.high)). absurd (omega arith))
      (ends v w)

  pub bounds : (v w : V) → Beside v w → v.low ≤ v.high → v.high ≤ makers → w.high ≤ makers → (v.low ≤ end_of v w) × (end_of v w ≤ makers)
  bounds v w beside order most most' = ⊎_elim
      (λ (t : (w.low < w.high) × (end_of v w ≡ w.high)). ⊎_elim (λ (none : w.high ≤ w.low). absurd (omega arith)) (λ (touch : w.low ≡ v.high). (omega arith, omega arith)) beside)
      (λ (t : (w.high ≤ w.low) × (end_of v w ≡ v.high)). (omega arith, omega arith))
      (ends v w)

  -- what the rule says of the lists of a joined view
  abbrev Lists : V → V → List E → Bool → Type 0
  Lists v w log b =
      GrowsByOthers maker v.low (end_of v w) (if b then w.seen else v.seen) log
      × GrowsByOthers maker (if b then v.low else w.low) (if b then v.high else w.high) (if b then v.seen else w.seen) log
      × ((n : ℕ) → (if b then v.low else w.low) ≤ n → n < (if b then v.high else w.high) → (v.low ≤ n) × (n < end_of v w))

  lists : (v w : V) (log : List E) → Beside v w → v.low ≤ v.high → GrowsByOthers maker v.low v.high v.seen log → GrowsByOthers maker w.low w.high w.seen log
      → Lists v w log (ltb (length v.seen) (length w.seen))
  lists v w log beside order first second = by_test (length v.seen) (length w.seen) (Lists v w log)
      (λ short. (
        (second.0, second.1, of_neither maker v.low v.high w.low w.high v.low (end_of v w) second.0 (cover v w beside) (none_after maker v.low v.high v.seen w.seen log first second.0 second.1 (omega arith)) second.2),
        first,
        first_in v w beside order,
      ))
      (λ long. (
        (first.0, first.1, of_neither maker v.low v.high w.low w.high v.low (end_of v w) first.0 (cover v w beside) first.2 (none_after maker w.low w.high w.seen v.seen log second first.0 first.1 long)),
        second,
        second_in v w beside order,
      ))

  pub joins : (id : ℕ) (v : V) (other : ℕ) (w : V) → v.inside ≡ false → w.inside ≡ false → (w.high ≤ w.low) ⊎ (w.low ≡ v.high) → Joins Rule id v other w (joined v w) spent
  joins id v other w idle idle' beside s r there differ there' =
      let both : V = joined v w in
      let was : get_elem? s.views other ≡ some w = sym (set_else s.views id other both differ) ∙ there' in
      let f = r.each id v there in
      let f' = r.each other w was in
      let nothing : GrowsByOthers maker 0 0 [] r.log = (r.log, refl, none_of_empty maker 0 0 r.log refl) in
      let s' : St = record { words = s.words; homes = s.homes; views = set s.views other spent } in
      let first = renewed s r other w spent was idle' refl nothing nothing (λ n p q. absurd (omega arith)) (omega arith) (omega arith) (λ h. absurd (omega arith)) (λ j u _ _. λ n p q. absurd (omega arith)) in
      let all = bounds v w beside f.order f.below f'.below in
      let logs = lists v w r.log beside f.order f.seen f'.seen in
      let mine = subst (λ (l : List E). Lists v w l (ltb (length v.seen) (length w.seen))) (sym first.1) logs in
      let second = renewed s' first.0 id v both (set_else s.views other id spent (λ e. differ (sym e)) ∙ there) idle idle mine.0 mine.1 mine.2 all.0 all.1 f.fixed
      (λ j u apart here. ⊎_elim
      (λ (t : (j ≡ other) × (spent ≡ u)). subst (λ (x : V). SeatsApart both x) t.1 (λ n p q p' q'. absurd (omega arith)))
      (λ (t : (j ≢ other) × (get_elem? s.views j ≡ some u)). λ n p q p' q'. ⊎_elim
      (λ (x : (v.low ≤ n) × (n < v.high)). r.apart id j v u (λ e. apart (sym e)) there t.1 n x.0 x.1 p' q')
      (λ (x : (w.low ≤ n) × (n < w.high)). r.apart other j w u (λ e. t.0 (sym e)) was t.1 n x.0 x.1 p' q')
      (cover v w beside n p q))
      (at_set s.views other j spent u here)) in
      let P : List V → Type 0 = λ vs. Rule record { words = s.words; homes = s.homes; views = vs } in
      subst P (set_comm s.views other id spent both differ) second.0

  -- what joining tells of both lists
  pub tells : (v w : V) (grows : length (joined v w).told ≤ length (joined v w).seen → GrowsByOthers maker (joined v w).told_low (joined v w).told_high (joined v w).told (joined v w).seen)
      → GrowsByOthers maker v.low v.high v.seen (joined v w).seen × GrowsByOthers maker w.low w.high w.seen (joined v w).seen
  tells v w = by_test (length v.seen) (length w.seen)
      (λ b. (length (if b then v.seen else w.seen) ≤ length (if b then w.seen else v.seen) → GrowsByOthers maker (if b then v.low else w.low) (if b then v.high else w.high) (if b then v.seen else w.seen) (if b then w.seen else v.seen))
      → GrowsByOthers maker v.low v.high v.seen (if b then w.seen else v.seen) × GrowsByOthers maker w.low w.high w.seen (if b then w.seen else v.seen))
      (λ short grows. (grows (omega arith), grows-refl maker w.low w.high w.seen))
      (λ long grows. (grows-refl maker v.low v.high v.seen, grows long))
