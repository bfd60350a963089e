-- What a reader's worker asks.
use Rattle.std.proofs.Common.{◌≡◌, ℕ, zero, suc, ◌≤◌, ◌<◌, Bool, true, false, not, cond, eqb, List, [], ◌∷◌, length, slice_get, Option, Some, None, refl, subst, arith}
use Rattle.std.specs.Option.{IsSomeAnd}
use Rattle.std.proofs.lemmas.Option.{same_Some}
use Rattle.ax_ask.specs.declared.query.Query.{Query}
use Rattle.ax_ask.specs.declared.query.TimedQuery.{TimedQuery}
use Rattle.ax_ask.specs.declared.line.Line.{Line}
use Rattle.ax_workers.specs.Reader.{AreAsked}
use Rattle.std.proofs.lemmas.Bool.{ne_eqb}
use Rattle.ax_rules.specs.Sequences.{until}
use Rattle.ax_run_rules.specs.Fair.{ready_count}

pub in_time : (queries : List TimedQuery) (calls : List (Query × Option ℕ × Line)) → AreAsked queries calls
    → (i : ℕ) (c : Query × Option ℕ × Line) (q : TimedQuery) → slice_get calls i ≡ Some c → slice_get queries i ≡ Some q → (c.0 ≡ q.query) × IsSomeAnd c.1 (λ n. q.after ≤ n)
in_time queries [] asked i c q here there = absurd (cc here)
in_time [] (d ∷ calls) asked i c q here there = absurd asked
in_time (p ∷ queries) (d ∷ calls) asked zero c q here there =
    subst (λ (x : Query × Option ℕ × Line). (x.0 ≡ q.query) × IsSomeAnd x.1 (λ n. q.after ≤ n)) (same_Some d c here)
    (subst (λ (x : TimedQuery). (d.0 ≡ x.query) × IsSomeAnd d.1 (λ n. x.after ≤ n)) (same_Some p q there) (asked.0, asked.1))
in_time (p ∷ queries) (d ∷ calls) asked (suc i) c q here there = in_time queries calls asked.2 i c q here there

-- a query that a look came too early for isn't ready
waits : (q : TimedQuery) (seen : Option ℕ) → IsSomeAnd seen (λ n. n < q.after) → eqb q.after 0 ≡ false
waits q None early = absurd early
waits q (Some n) early = ne_eqb q.after 0 (λ e. absurd (omega arith))

pub ready_asked : (queries : List TimedQuery) (asked : ℕ) (seen : Option ℕ) → asked ≤ length queries → ((q : TimedQuery) → slice_get queries asked ≡ Some q → IsSomeAnd seen (λ n. n < q.after)) → ready_count queries ≤ asked
ready_asked [] zero seen within left = omega arith
ready_asked [] (suc asked) seen within left = omega arith
ready_asked (q ∷ queries) zero seen within left = none (eqb q.after 0) (waits q seen (left q refl))
  where
    none : (b : Bool) → b ≡ false → length (cond (not b) [] (q ∷ until (λ (p : TimedQuery). not (eqb p.after 0)) queries)) ≤ 0
    none true e = absurd (cc e)
    none false e = omega arith
ready_asked (q ∷ queries) (suc asked) seen within left = more (eqb q.after 0) (ready_asked queries asked seen (omega arith) left)
  where
    more : (b : Bool) → ready_count queries ≤ asked → length (cond (not b) [] (q ∷ until (λ (p : TimedQuery). not (eqb p.after 0)) queries)) ≤ suc asked
    more true r = omega arith
    more false r = omega arith
