-- What a receipt, an operation of the browser and a query are among the rules of steps.
use Rattle.std.proofs.Common.{ℕ, zero, suc, ◌≡◌, ◌<◌, ◌⊎◌, inl, inr, true, false, if◌then◌else◌, List, [], ◌∷◌, ◌++◌, length, slice_get, refl, sym, ap, ap₂, ◌∙◌, subst, append_assoc, arith, Option, Some, None, Result, Ok, Err, IfOk, OnErr}
use Rattle.std.specs.Prelude.{option_and_then, slice_set}
use Rattle.std.proofs.lemmas.Option.{slice_get_past}
use Rattle.ax_base.specs.declared.seq.NoMemory.{NoMemory}
use Rattle.ax_tree.specs.declared.packet.Packet.{Packet}
use Rattle.ax_tree.specs.declared.packet.HEntry.{HEntry}
use Rattle.ax_tree.specs.declared.packet.HEntry.TheVariants.{Got}
use Rattle.ax_tree.specs.declared.update.TreeUpdate.{TreeUpdate}
use Rattle.ax_tree.specs.declared.verdict.Verdict.{Verdict}
use Rattle.ax_tree.specs.Packets.{IsGood}
use Rattle.ax_tree.specs.Updates.{applied}
use Rattle.ax_tree.proofs.GoodFronts.{good_front}
use Rattle.ax_ask.specs.declared.op.TimedOp.{TimedOp}
use Rattle.ax_ask.specs.declared.op.Item.TheVariants as items
use Rattle.ax_ask.specs.declared.query.TimedQuery.{TimedQuery}
use Rattle.ax_ask.specs.declared.line.Line.{Line}
use Rattle.ax_ask.specs.declared.line.Line.TheVariants as lines
use Rattle.ax_ask.specs.declared.line.ProbeNote.TheVariants as probes
use Rattle.ax_rules.specs.Histories.{is_gone, got}
use Rattle.ax_rules.specs.Mirrors.{mirror_of, built_of, built_verdict_of}
use Rattle.ax_rules.proofs.Building.{bundles_build, verdicts_agree}
use Rattle.ax_run_rules.specs.Replies.{answer_of}
use Rattle.ax_run_rules.specs.States.{State, Run, forest_now}
use Rattle.ax_run_rules.specs.Steps.{step, do_next_browser, do_next_query, do_query, name_of, probe_note, probe_result}
use Rattle.ax_forest.specs.declared.answers.ProbeOut.{ProbeOut}
use Rattle.ax_forest.specs.declared.answers.ProbeOut.TheVariants as outs
use Rattle.ax_forest.specs.Entries.{IsProbed}
use Rattle.ax_forest.specs.Past.{Past, forest_of}
use Rattle.ax_core.specs.Items.{Answers, IsStep}
use Rattle.ax_core.specs.Receipts.{with_entry, entry_by, line_by, note_of, ReceiptDone, QueryDone}
use Rattle.ax_core.specs.Standing.{at}
use Rattle.ax_core.proofs.Kept.{packet_tree}
use Rattle.ax_core.proofs.Rules.{browser_done}

-- ---- a receipt

-- the verdict of what bundles build is the rule's, where the packets are good
pub received : (t : ℕ) (p q : Past) (x : Packet) (ps xs left : List Packet) (v : Verdict) → ps ≡ x ∷ xs → IsGood t (got p.history t ++ ps) → v ≡ built_verdict_of p.history x → q ≡ with_entry p (Got x) → left ≡ xs
    → ReceiptDone t p ps q left (Some (lines.Received t v))
received t p q x ps xs left v first good told after rest =
    subst (λ l. ReceiptDone t p l q left (Some (lines.Received t v))) (sym first) (ap (lines.Received t) (told ∙ verdicts_agree p.history x here), (after, rest))
  where
    all : IsGood t (got p.history t ++ x ∷ xs)
    all = subst (λ l. IsGood t (got p.history t ++ l)) first good

    own : x.tree ≡ t
    own = packet_tree t (got p.history t) xs x all

    front : IsGood t (got p.history t ++ x ∷ [])
    front = good_front t (got p.history t ++ x ∷ []) xs (subst (λ l. IsGood t l) (sym (append_assoc (got p.history t) (x ∷ []) xs)) all)

    here : IsGood x.tree (got p.history x.tree ++ x ∷ [])
    here = subst (λ u. IsGood u (got p.history u ++ x ∷ [])) (sym own) front

-- ---- an operation of the browser

pub probe_told : (h : List HEntry) (t : ℕ) (u : TreeUpdate) (out : ProbeOut) → IsGood t (got h t) → is_gone h t ≡ false → IsProbed u (built_of h t) out → note_of out ≡ probe_note h t u
unfolding probe_note
probe_told h t u out good live probed =
    by out probed
    ∙ (ap (λ m. probe_result (applied u m)) (bundles_build h t good) ∙ sym (ap (λ b. if b then probes.Gone else probe_result (applied u (mirror_of h t))) live))
  where
    by : (o : ProbeOut) → IsProbed u (built_of h t) o → note_of o ≡ probe_result (applied u (built_of h t))
    by (outs.Accepted n) p = ap probes.Accepted p.nodes ∙ sym (ap probe_result p.gives)
    by (outs.Refused e) p = sym (ap probe_result p.0)

pub gone_told : (h : List HEntry) (t : ℕ) (u : TreeUpdate) → is_gone h t ≡ true → probes.Gone ≡ probe_note h t u
unfolding probe_note
gone_told h t u gone = sym (ap (λ b. if b then probes.Gone else probe_result (applied u (mirror_of h t))) gone)

abbrev done : State → Line → Option Run
done s l = Some (record { state = s; lines = l ∷ [] })

pub browser_answers : (s : State) (o : TimedOp) (left : List TimedOp) (l : Line) (h : List HEntry) → s.browser ≡ o ∷ left → l ≡ line_by s.history o.op → h ≡ s.history ++ entry_by o.op ∷ []
    → Answers s items.Browser (record s { browser = left; history = h }) (Some l)
unfolding step
browser_answers s o left l h b t e = record { is = inl is; whole = λ _. is }
  where
    is : IsStep s items.Browser (record s { browser = left; history = h }) l
    is =
        ap (do_next_browser (at s)) b
        ∙ (ap Some (browser_done (record (at s) { state = record s { browser = left } }) o.op)
        ∙ ap₂ (λ (u : List HEntry) (m : Line). done (record s { browser = left; history = u }) m) (sym e) (sym t))

pub no_browser : (s : State) → s.browser ≡ [] → step (at s) items.Browser ≡ None
unfolding step
no_browser s b = ap (do_next_browser (at s)) b

-- ---- a query

set_same : {A : Type 0} (xs : List A) (k : ℕ) (x : A) → slice_get xs k ≡ Some x → slice_set xs k x ≡ xs
set_same [] k x h = refl
set_same (y ∷ xs) zero x h = let e : y ≡ x = cc in ap (λ z. z ∷ xs) (sym e)
set_same (y ∷ xs) (suc k) x h = ap (λ l. y ∷ l) (set_same xs k x h)

pub reader_answers : (s : State) (n k : ℕ) (qs left : List TimedQuery) (p : Past) (o : Option Line) → n ≡ suc k → slice_get s.readers k ≡ Some qs → forest_of p ≡ forest_now s → QueryDone p n qs left o
    → Answers s (items.Reader n) (record s { readers = slice_set s.readers k left }) o
unfolding step do_query
reader_answers s n k qs left p o number h now d =
    subst (λ m. Answers s (items.Reader m) (record s { readers = slice_set s.readers k left }) o) (sym number) (go qs h o (subst (λ m. QueryDone p m qs left o) number d))
  where
    first : (rs : List TimedQuery) → slice_get s.readers k ≡ Some rs → step (at s) (items.Reader (suc k)) ≡ do_next_query (at s) k rs
    first rs e = ap (λ x. option_and_then (do_next_query (at s) k) x) e

    go : (rs : List TimedQuery) → slice_get s.readers k ≡ Some rs → (m : Option Line) → QueryDone p (suc k) rs left m → Answers s (items.Reader (suc k)) (record s { readers = slice_set s.readers k left }) m
    go [] e m r =
        subst (λ (x : Option Line). Answers s (items.Reader (suc k)) (record s { readers = slice_set s.readers k left }) x) (sym r.0)
        (first [] e, ap (λ (rs : List (List TimedQuery)). record s { readers = rs }) (set_same s.readers k left (e ∙ ap Some (sym r.1))))
    go (q ∷ rs) e None r = absurd r
    go (q ∷ rs) e (Some l) r = record { is = inl is; whole = λ _. is }
      where
        is : IsStep s (items.Reader (suc k)) (record s { readers = slice_set s.readers k left }) l
        is =
            first (q ∷ rs) e
            ∙ ap₂ (λ (x : List TimedQuery) (m : Line). done (record s { readers = slice_set s.readers k x }) m) (sym r.1)
            (ap (λ f. lines.Answered (suc k) (name_of q.query) (answer_of f q.query)) (sym now) ∙ sym r.0)

pub no_reader : (s : State) (n : ℕ) → (n ≡ 0) ⊎ (length s.readers < n) → step (at s) (items.Reader n) ≡ None
unfolding step
no_reader s zero h = refl
no_reader s (suc k) (inl e) = absurd (let no : ⊥ = omega (arith, e) in no)
no_reader s (suc k) (inr l) = ap (λ x. option_and_then (do_next_query (at s) k) x) (slice_get_past s.readers k (omega (arith, l)))

pub query_results : (r : Result (Option Line) NoMemory) (s : State) (n k : ℕ) (qs left : List TimedQuery) (p : Past) → n ≡ suc k → slice_get s.readers k ≡ Some qs → forest_of p ≡ forest_now s
    → IfOk r (λ o. QueryDone p n qs left o) → IfOk r (λ o. Answers s (items.Reader n) (record s { readers = slice_set s.readers k left }) o)
query_results (Ok o) s n k qs left p number h now d = reader_answers s n k qs left p o number h now d
query_results (Err e) s n k qs left p number h now d = tt

pub query_refused : (r : Result (Option Line) NoMemory) (s : State) (k : ℕ) (qs left : List TimedQuery) → slice_get s.readers k ≡ Some qs → OnErr r (left ≡ qs)
    → OnErr r (record s { readers = slice_set s.readers k left } ≡ s)
query_refused (Ok o) s k qs left h e = tt
query_refused (Err x) s k qs left h e = ap (λ (rs : List (List TimedQuery)). record s { readers = rs }) (set_same s.readers k left (h ∙ ap Some (sym e)))
