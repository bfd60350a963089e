-- Where a place starts, by the rows of the list.
use Rattle.std.proofs.Common.{ℕ, ◌+◌, ◌≤◌, ◌≡◌, Bool, true, false, not, ◌||◌, ◌&&◌, cond, List, [], ◌∷◌, map, flat_map, filter, length, refl, sym, ap, ◌∙◌, arith, length-append}
use Rattle.ax_base.specs.declared.position.Place.{Place}
use Rattle.ax_trees.proofs.Trees.{by_go}
use Rattle.ax_rules.specs.Sequences.{until}
use Rattle.ax_rules.specs.Looks.{same_place, name_text}
use Rattle.ax_rules.specs.Stitched.{Placed, stands_at, before, is_leaf, is_within}
use Rattle.ax_rules.specs.Texts.{capped, joined, start_of}
use Rattle.ax_position.specs.Walks.{Row, row, rows, folded}
use Rattle.ax_position.specs.declared.starts.Start.{Start}
use Rattle.ax_position.specs.Surveys.{counted, begun_start, started}

pub not_counted : (b : Bool) (n : ℕ) (text : List ℕ) → counted (b && false) n text ≡ n
not_counted true n text = refl
not_counted false n text = refl

pub and_true : (b : Bool) (n : ℕ) (text : List ℕ) → counted (b && true) n text ≡ counted b n text
and_true true n text = refl
and_true false n text = refl

pub small : (b : Bool) (n : ℕ) (text : List ℕ) → n ≤ 18446744073709551615 → counted b n text ≤ 18446744073709551615
small true n text l = omega arith
small false n text l = l

-- a start that was met stays
pub start_stays : (s : Start) (r : Row) → s.met ≡ true → started s r ≡ s
start_stays s r h =
    let met : (s.met || same_place r.place s.target) ≡ true = ap (λ b. b || same_place r.place s.target) h in
    let start : counted (r.leaf && not (s.met || same_place r.place s.target)) s.start r.text ≡ s.start = ap (λ b. counted (r.leaf && not b) s.start r.text) met ∙ not_counted r.leaf s.start r.text in
    λ z. record { target = s.target; met = (met ∙ sym h) z; start = start z }

module _ (leaf within : Placed → Bool) where
  abbrev pub rows_by : List Placed → List Row
  rows_by l = map (λ (s : Placed). row s.place s.look (leaf s) (within s)) l

  start_met : (l : List Placed) (s : Start) → s.met ≡ true → folded started s (rows_by l) ≡ s
  start_met [] s h = refl
  start_met (x ∷ l) s h = ap (λ v. folded started v (rows_by l)) (start_stays s (row x.place x.look (leaf x) (within x)) h) ∙ start_met l s h

  pub more_text : (b : Bool) (n : ℕ) (x : Placed) (xs : List Placed) (rest : ℕ) → rest ≡ capped (counted b n (name_text x.look) + length (joined xs)) → n ≤ 18446744073709551615
      → rest ≡ capped (n + length (joined (cond b (x ∷ xs) xs)))
  unfolding joined
  more_text true n x xs rest h l = let e = length-append (name_text x.look) (flat_map (λ (s : Placed). name_text s.look) xs) in omega (arith, h, e, l)
  more_text false n x xs rest h l = h

  start_from : (l : List Placed) (s : Start) (p : Place) → s.met ≡ false → s.target ≡ p → s.start ≤ 18446744073709551615
      → (folded started s (rows_by l)).start ≡ capped (s.start + length (joined (filter leaf (until (stands_at p) l))))
  unfolding joined
  start_from [] s p h t b = omega (arith, b)
  start_from (x ∷ l) s p h t b =
      let next = started s (row x.place x.look (leaf x) (within x)) in
      by_go (same_place x.place p)
      (λ q. let met : next.met ≡ true = ap (λ c. c || same_place x.place s.target) h ∙ (ap (same_place x.place) t ∙ q) in
      let same : (folded started next (rows_by l)).start ≡ s.start =
      ap (λ (v : Start). v.start) (start_met l next met) ∙ (ap (λ c. counted (leaf x && not c) s.start (name_text x.look)) met ∙ not_counted (leaf x) s.start (name_text x.look)) in
      rw q (omega (arith, same, b)))
      (λ q. let met : next.met ≡ false = ap (λ c. c || same_place x.place s.target) h ∙ (ap (same_place x.place) t ∙ q) in
      let start : next.start ≡ counted (leaf x) s.start (name_text x.look) = ap (λ c. counted (leaf x && not c) s.start (name_text x.look)) met ∙ and_true (leaf x) s.start (name_text x.look) in
      let less : next.start ≤ 18446744073709551615 = let k = small (leaf x) s.start (name_text x.look) b in omega (arith, k, start) in
      let rest = start_from l next p met t less in
      let whole = rest ∙ ap (λ n. capped (n + length (joined (filter leaf (until (stands_at p) l))))) start in
      rw q (more_text (leaf x) s.start x (filter leaf (until (stands_at p) l)) (folded started next (rows_by l)).start whole b))

pub start_told : (l : List Placed) (p target : Place) → (folded started (begun_start p) (rows l target)).start ≡ start_of l p
unfolding rows start_of before
start_told l p target = let h = start_from (is_leaf l) (is_within target) l (begun_start p) p refl refl (omega arith) in omega (arith, h)
