-- What a walk for two places makes of each of them.
use Rattle.std.proofs.Common.{◌≡◌, Bool, true, false, List, [], ◌∷◌, map, refl, ap, ◌∙◌}
use Rattle.std.specs.Prelude.{Result, Ok, Err, IfOk, IfErr}
use Rattle.std.proofs.lemmas.Bool.{false≢true}
use Rattle.ax_rules.specs.Stitched.{Placed, is_leaf, is_within}
use Rattle.ax_position.specs.declared.targets.Targets.{Targets}
use Rattle.ax_position.specs.Walks.{Row, row_of, rows, rows_of_two, folded, IsSettled}
use Rattle.ax_position.specs.declared.pairs.Pair.{Pair}
use Rattle.ax_position.specs.Surveys.{surveyed}
use Rattle.ax_position.specs.Ranks.{met_first}
use Rattle.ax_position.specs.Pairs.{turned, surveyed_both}
use Rattle.ax_position.proofs.StartLemmas.{rows_by}

module _ (leaf one other : Placed → Bool) where
  abbrev both_rows : List Placed → List Row
  both_rows l = map (λ (s : Placed). row_of s.place s.look (leaf s) (record { one = one s; other = other s })) l

  one_is : (l : List Placed) (s : Pair) → (folded surveyed_both s (both_rows l)).one ≡ folded surveyed s.one (rows_by leaf one l)
  one_is [] s = refl
  one_is (x ∷ l) s = one_is l (surveyed_both s (row_of x.place x.look (leaf x) (record { one = one x; other = other x })))

  other_is : (l : List Placed) (s : Pair) → (folded surveyed_both s (both_rows l)).other ≡ folded surveyed s.other (rows_by leaf other l)
  other_is [] s = refl
  other_is (x ∷ l) s = other_is l (surveyed_both s (row_of x.place x.look (leaf x) (record { one = one x; other = other x })))

  meeting_is : (l : List Placed) (s : Pair) → (folded surveyed_both s (both_rows l)).meeting ≡ folded met_first s.meeting (rows_by leaf one l)
  meeting_is [] s = refl
  meeting_is (x ∷ l) s = meeting_is l (surveyed_both s (row_of x.place x.look (leaf x) (record { one = one x; other = other x })))

pub pair_one : (l : List Placed) (p : Targets) (s t : Pair) → t ≡ folded surveyed_both s (rows_of_two l p) → t.one ≡ folded surveyed s.one (rows l p.one)
unfolding rows rows_of_two
pair_one l p s t h = ap (λ (v : Pair). v.one) h ∙ one_is (is_leaf l) (is_within p.one) (is_within p.other) l s

pub pair_other : (l : List Placed) (p : Targets) (s t : Pair) → t ≡ folded surveyed_both s (rows_of_two l p) → t.other ≡ folded surveyed s.other (rows l p.other)
unfolding rows rows_of_two
pair_other l p s t h = ap (λ (v : Pair). v.other) h ∙ other_is (is_leaf l) (is_within p.one) (is_within p.other) l s

pub pair_meeting : (l : List Placed) (p : Targets) (s t : Pair) → t ≡ folded surveyed_both s (rows_of_two l p) → t.meeting ≡ folded met_first s.meeting (rows l p.one)
unfolding rows rows_of_two
pair_meeting l p s t h = ap (λ (v : Pair). v.meeting) h ∙ meeting_is (is_leaf l) (is_within p.one) (is_within p.other) l s

pub pair_settled : (s : Pair) → IsSettled surveyed s.one → IsSettled surveyed s.other → IsSettled met_first s.meeting → IsSettled surveyed_both s
pair_settled s a b c = record { stays = λ r z. record { one = a.stays r z; other = b.stays (turned r) z; meeting = c.stays r z } }

-- what a walk made that can't want memory
pub walk_seen : {A E P : Type 0} (r : Result A E) → IfOk r (λ _. P) → IfErr r (λ _. ◌≡◌ {A = Bool} false true) → P
walk_seen (Ok a) h k = h
walk_seen (Err e) h k = absurd (false≢true k)
