-- What each further line and each further tree adds to the counts of `gen`.
use Rattle.std.proofs.Common.{ℕ, ◌≡◌, ◌+◌, ◌<◌, ◌==◌, Bool, true, false, ◌||◌, List, [], ◌∷◌, ◌++◌, length, map, take, get_or, refl, sym, ap, ap₂, subst, ◌∙◌, arith, append_assoc, flat_map, length-append, zero-add}
use Rattle.std.specs.Prelude.{sum_by}
use Rattle.std.proofs.lemmas.Grind.{flat_map-append}
use Rattle.std.proofs.lemmas.List.{append-nil}
use Rattle.std.proofs.lemmas.List.Sums.{sum_by-append, sum_by-cons, sum_by_more}
use Rattle.ax_tree.specs.declared.verdict.Event.{Event}
use Rattle.ax_base.specs.declared.pass.PassNo.{PassNo}
use Rattle.ax_tree.specs.declared.verdict.Verdict.{Verdict}
use Rattle.ax_tree.specs.declared.verdict.Verdict.TheVariants.{Applied, Stale, Gap, Gone}
use Rattle.ax_tree.specs.declared.packet.HEntry.{HEntry}
use Rattle.ax_tree.specs.Forest.{Forest, Standing, live_tree}
use Rattle.ax_tree.specs.Tree.{Tree}
use Rattle.ax_rules.specs.Mirrors.{built_forest_of, built_of, standing}
use Rattle.ax_forest.specs.Past.{Past, forest_of}
use Rattle.ax_trees.specs.Lists.{NoneTwice, contains}
use Rattle.ax_ask.specs.declared.line.Line.{Line}
use Rattle.ax_ask.specs.declared.line.Line.TheVariants.{Passed, Received}
use Rattle.ax_ask.specs.declared.line.Line.TheVariants as lines
use Rattle.ax_ask.specs.declared.line.MadeNote.{MadeNote}
use Rattle.ax_ask.specs.declared.line.PassNote.{PassNote}
use Rattle.ax_ask.specs.declared.line.UpdateNote.{UpdateNote}
use Rattle.ax_ask.specs.declared.line.PassNote.TheVariants.{Made, Nothing}
use Rattle.ax_core.specs.Hearing.{all_heard}
use Rattle.ax_top.specs.declared.making.Counts.{Counts}
use Rattle.ax_top.specs.Gen.{packet_in, receipt_in, packets, listed_in, receipts, nodes_in, nodes_of}
use Rattle.ax_top.specs.Counting.{counts_of, plus}

abbrev counts : ℕ → ℕ → ℕ → ℕ → Counts
counts p l a e = record { passes = p; listed = l; applied = a; events = e }

counts_equal : (p q l m a b e f : ℕ) → p ≡ q → l ≡ m → a ≡ b → e ≡ f → counts p l a e ≡ counts q m b f
counts_equal p q l m a b e f h i j k = rw (h, i, j, k) refl

pub counts_more : (ls more : List Line) → counts_of (ls ++ more) ≡ plus (counts_of ls) (counts_of more)
unfolding counts_of packets receipts
counts_more ls more =
    let p : flat_map packet_in (ls ++ more) ≡ flat_map packet_in ls ++ flat_map packet_in more = flat_map-append packet_in ls more in
    let r : flat_map receipt_in (ls ++ more) ≡ flat_map receipt_in ls ++ flat_map receipt_in more = flat_map-append receipt_in ls more in
    counts_equal _ _ _ _ _ _ _ _
    (ap (λ (xs : List MadeNote). length xs) p ∙ length-append (flat_map packet_in ls) (flat_map packet_in more))
    (ap (sum_by listed_in) p ∙ sum_by-append listed_in (flat_map packet_in ls) (flat_map packet_in more))
    (ap (λ (xs : List (List Event)). length xs) r ∙ length-append (flat_map receipt_in ls) (flat_map receipt_in more))
    (ap (sum_by (λ (es : List Event). length es)) r ∙ sum_by-append (λ (es : List Event). length es) (flat_map receipt_in ls) (flat_map receipt_in more))

pub no_counts : counts_of [] ≡ counts 0 0 0 0
unfolding counts_of packets receipts
no_counts = refl

heard_more : (ks ls : List Line) → all_heard (λ (c : Counts) (l : Line). plus c (counts_of (l ∷ []))) (counts_of ks) ls ≡ counts_of (ks ++ ls)
heard_more ks [] = ap counts_of (sym (append-nil ks))
heard_more ks (l ∷ ls) =
    ap (λ (c : Counts). all_heard (λ (d : Counts) (k : Line). plus d (counts_of (k ∷ []))) c ls) (sym (counts_more ks (l ∷ [])))
    ∙ (heard_more (ks ++ l ∷ []) ls ∙ ap counts_of (append_assoc ks (l ∷ []) ls))

-- counts that heard lines, of which none was told before
pub counts_heard : (c d : Counts) (ls : List Line) → c ≡ counts_of [] → d ≡ all_heard (λ (x : Counts) (l : Line). plus x (counts_of (l ∷ []))) c ls → d ≡ counts_of ls
counts_heard c d ls none told = told ∙ (ap (λ (x : Counts). all_heard (λ (y : Counts) (l : Line). plus y (counts_of (l ∷ []))) x ls) none ∙ heard_more [] ls)

-- ---- the counts of one line

made_one : (c : Counts) (m : MadeNote) (p l : ℕ) → p ≡ c.passes + 1 → l ≡ c.listed + listed_in m → (t : ℕ) → counts p l c.applied c.events ≡ plus c (counts_of (Passed t (Made m) ∷ []))
unfolding counts_of packets receipts
made_one c m p l h i t =
    counts_equal p (c.passes + 1) l (c.listed + (0 + listed_in m)) c.applied (c.applied + 0) c.events (c.events + 0) h (i ∙ ap (λ n. c.listed + n) (sym (zero-add (listed_in m)))) (omega arith) (omega arith)

pub made_counts : (c : Counts) (note : PassNote) (m : MadeNote) (us : List UpdateNote) (p l : ℕ) → note ≡ Made m → us ≡ m.updates → p ≡ c.passes + 1 → l ≡ c.listed + sum_by (λ (u : UpdateNote). length u.nodes) us
    → (t : ℕ) → counts p l c.applied c.events ≡ plus c (counts_of (Passed t note ∷ []))
made_counts c note m us p l is same h i t = rw is (made_one c m p l h (i ∙ ap (λ (xs : List UpdateNote). c.listed + sum_by (λ (u : UpdateNote). length u.nodes) xs) same) t)

applied_one : (c : Counts) (pass : PassNo) (es : List Event) (a e : ℕ) → a ≡ c.applied + 1 → e ≡ c.events + length es → (t : ℕ) → counts c.passes c.listed a e ≡ plus c (counts_of (Received t (Applied pass es) ∷ []))
unfolding counts_of packets receipts
applied_one c pass es a e h i t =
    counts_equal c.passes (c.passes + 0) c.listed (c.listed + 0) a (c.applied + 1) e (c.events + (0 + length es)) (omega arith) (omega arith) h (i ∙ ap (λ n. c.events + n) (sym (zero-add (length es))))

pub applied_counts : (c : Counts) (v : Verdict) (pass : PassNo) (es : List Event) (a n e : ℕ) → v ≡ Applied pass es → a ≡ c.applied + 1 → n ≡ length es → e ≡ c.events + n
    → (t : ℕ) → counts c.passes c.listed a e ≡ plus c (counts_of (Received t v ∷ []))
applied_counts c v pass es a n e is h k i t = rw is (applied_one c pass es a e h (i ∙ ap (λ m. c.events + m) k) t)

-- a line that tells neither of a packet nor of an applied receipt
unseen : (c : Counts) (l : Line) → packet_in l ≡ [] → receipt_in l ≡ [] → c ≡ plus c (counts_of (l ∷ []))
unfolding counts_of packets receipts
unseen c l p r = rw (p, r) (counts_equal c.passes (c.passes + 0) c.listed (c.listed + 0) c.applied (c.applied + 0) c.events (c.events + 0) (omega arith) (omega arith) (omega arith) (omega arith))

pub nothing_counts : (c : Counts) (note : PassNote) → note ≡ Nothing → (t : ℕ) → c ≡ plus c (counts_of (Passed t note ∷ []))
nothing_counts c note is t = unseen c (Passed t note) (ap (λ (n : PassNote). packet_in (Passed t n)) is) refl

pub refused_counts : (c : Counts) (v : Verdict) → ((n : PassNo) (es : List Event) → v ≡ Applied n es → ⊥) → (t : ℕ) → c ≡ plus c (counts_of (Received t v ∷ []))
refused_counts c (Applied n es) other t = absurd (other n es refl)
refused_counts c (Stale had want) other t = unseen c (Received t (Stale had want)) refl refl
refused_counts c (Gap base now) other t = unseen c (Received t (Gap base now)) refl refl
refused_counts c Gone other t = unseen c (Received t Gone) refl refl

pub other_counts : (c : Counts) (l : Line) → ((t : ℕ) (n : PassNote) → l ≡ Passed t n → ⊥) → ((t : ℕ) (v : Verdict) → l ≡ Received t v → ⊥) → c ≡ plus c (counts_of (l ∷ []))
other_counts c (Passed t n) passed received = absurd (passed t n refl)
other_counts c (Received t v) passed received = absurd (received t v refl)
other_counts c (lines.Edited t n z e) passed received = unseen c (lines.Edited t n z e) refl refl
other_counts c (lines.DataSet t) passed received = unseen c (lines.DataSet t) refl refl
other_counts c (lines.Touched t b z e) passed received = unseen c (lines.Touched t b z e) refl refl
other_counts c (lines.Asked t n) passed received = unseen c (lines.Asked t n) refl refl
other_counts c (lines.Destroyed t g) passed received = unseen c (lines.Destroyed t g) refl refl
other_counts c (lines.Probed t n) passed received = unseen c (lines.Probed t n) refl refl
other_counts c (lines.Delivered t n) passed received = unseen c (lines.Delivered t n) refl refl
other_counts c (lines.Answered k q r) passed received = unseen c (lines.Answered k q r) refl refl
other_counts c (lines.Acted t n z a) passed received = unseen c (lines.Acted t n z a) refl refl

-- ---- the nodes of the trees of a forest, one after the other

abbrev pub nodes_at : Forest → List ℕ → ℕ
nodes_at f ts = sum_by (λ t. nodes_in (live_tree f t)) ts

pub nodes_more : (f : Forest) (ts : List ℕ) (k t n s : ℕ) → k < length ts → t ≡ get_or ts k t → n ≡ nodes_at f (take k ts) → s ≡ n + nodes_in (live_tree f t) → s ≡ nodes_at f (take (k + 1) ts)
nodes_more f ts k t n s low is h e =
    e ∙ (ap₂ (λ a b. a + b) h (ap (λ u. nodes_in (live_tree f u)) is) ∙ sym (sum_by_more (λ u. nodes_in (live_tree f u)) ts k t low))

passed : (s : Standing) (f : Forest) (t : ℕ) → (s.id == t) ≡ false → live_tree (s ∷ f) t ≡ live_tree f t
passed s f t h = rw h refl

found : (s : Standing) (f : Forest) → live_tree (s ∷ f) s.id ≡ s.tree
found s f = let same : (s.id == s.id) ≡ true = grind arith in rw same refl

neither : (a b : Bool) → (a || b) ≡ false → (a ≡ false) × (b ≡ false)
neither true b h = absurd (cc)
neither false b h = (refl, h)

other_way : (x y : ℕ) → (x == y) ≡ false → (y == x) ≡ false
other_way x y h = grind arith

nodes_next : (f : Forest) (t : ℕ) (ts : List ℕ) → nodes_at f (t ∷ ts) ≡ nodes_in (live_tree f t) + nodes_at f ts
nodes_next f t ts = sum_by-cons (λ u. nodes_in (live_tree f u)) t ts

all_passed : (s : Standing) (f : Forest) (ts : List ℕ) → contains ts s.id ≡ false → nodes_at (s ∷ f) ts ≡ nodes_at f ts
all_passed s f [] h = refl
all_passed s f (t ∷ ts) h =
    let p = neither (t == s.id) (contains ts s.id) h in
    nodes_next (s ∷ f) t ts ∙ (ap₂ (λ a b. a + b) (ap nodes_in (passed s f t (other_way t s.id p.0))) (all_passed s f ts p.1) ∙ sym (nodes_next f t ts))

in_order : (f : Forest) → NoneTwice (map (λ (s : Standing). s.id) f) → nodes_at f (map (λ (s : Standing). s.id) f) ≡ sum_by (λ (s : Standing). nodes_in s.tree) f
in_order [] h = refl
in_order (s ∷ f) h =
    nodes_next (s ∷ f) s.id (map (λ (x : Standing). x.id) f)
    ∙ (ap₂ (λ a b. a + b) (ap nodes_in (found s f)) (all_passed s f (map (λ (x : Standing). x.id) f) h.0 ∙ in_order f h.1) ∙ sym (sum_by-cons (λ (x : Standing). nodes_in x.tree) s f))

ids_stand : (h : List HEntry) (g : ℕ → Tree) (ts : List ℕ) → map (λ (s : Standing). s.id) (map (standing h g) ts) ≡ ts
ids_stand h g [] = refl
ids_stand h g (t ∷ ts) = ap (λ xs. t ∷ xs) (ids_stand h g ts)

-- the ids of the trees that a past has are its trees
pub ids_are : (p : Past) → map (λ (s : Standing). s.id) (forest_of p) ≡ p.trees
unfolding built_forest_of
ids_are p = ids_stand p.history (built_of p.history) p.trees

pub all_nodes : (p : Past) → NoneTwice p.trees → nodes_at (forest_of p) p.trees ≡ nodes_of (forest_of p)
unfolding nodes_of
all_nodes p once =
    ap (nodes_at (forest_of p)) (sym (ids_are p)) ∙ in_order (forest_of p) (subst (λ ts. NoneTwice ts) (sym (ids_are p)) once)
