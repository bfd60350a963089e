-- Where a tree's packets are good, the applied bundles build the sources, and the applied passes rise.
use Rattle.std.proofs.Common.{ℕ, suc, ◌≡◌, ◌≤◌, ◌==◌, ◌⊎◌, inl, inr, not, Bool, true, false, cond, ◌||◌, if◌then◌else◌, List, [], ◌∷◌, ◌++◌, length, slice_get, refl, sym, ap, ◌∙◌, subst, ap₂, Option, Some, None, arith, append_assoc, append-nil, filter_map, le_trans, le_refl, Ok}
use Rattle.std.proofs.lemmas.Bool.{false≢true, eqb-true}
use Rattle.ax_base.specs.declared.pass.PassNo.{PassNo}
use Rattle.ax_base.specs.declared.pass.Token.{Token}
use Rattle.ax_tree.specs.declared.packet.Packet.{Packet}
use Rattle.ax_tree.specs.declared.packet.HEntry.{HEntry}
use Rattle.ax_tree.specs.declared.packet.HEntry.TheVariants.{Got, Asked, Ended, Probed}
use Rattle.ax_tree.specs.declared.update.TreeUpdate.{TreeUpdate}
use Rattle.ax_tree.specs.declared.verdict.Event.{Event}
use Rattle.ax_tree.specs.declared.verdict.Verdict.{Verdict}
use Rattle.ax_tree.specs.declared.verdict.Verdict.TheVariants.{Applied, Stale, Gap, Gone}
use Rattle.ax_tree.specs.Tree.{Tree, empty}
use Rattle.ax_tree.specs.Updates.{applied_all}
use Rattle.ax_tree.specs.Packets.{GoodAt, IsGood, source_at}
use Rattle.ax_tree.proofs.GoodFronts.{source_at-front}
use Rattle.ax_rules.specs.Histories.{is_gone, token_of, got, packet_in, verdict_at, pass_after, at_after, applied_pass, is_applied}
use Rattle.ax_rules.specs.Mirrors.{tree_or, built_by, built_or, built_after, built_of, mirror_of, verdict_of, built_verdict_of}
use Rattle.ax_rules.specs.Events.{events_of}
use Rattle.ax_rules.proofs.Appends.{got-append, applied_pass-append, built-append}

-- ---- one packet

-- a base that isn't a gap and isn't 0 is the last applied pass, and the pass before
base_is : (n at k : ℕ) → not (n == 0 || n == at) ≡ false → (n == 0) ≡ false → (n ≡ 0) ⊎ (n ≡ k) → at ≡ k
base_is n at k h z (inl e) = absurd (false≢true (sym z ∙ ap (λ m. m == 0) e))
base_is n at k h z (inr e) = sym (eqb-true n at (grind (arith, h, z))) ∙ e

same_start : (b : Bool) (us : List TreeUpdate) (x y z w : Tree) → (b ≡ false → y ≡ z) → applied_all us (if b then x else z) ≡ Ok w → applied_all us (if b then x else y) ≡ Ok w
same_start true us x y z w h k = k
same_start false us x y z w h k = ap (applied_all us) (h refl) ∙ k

-- a good packet that isn't a gap builds the source at its pass
good_builds : (t : ℕ) (all : List Packet) (p : Packet) (old : Tree) (at k : ℕ) → GoodAt t all k p → old ≡ source_at t all at
    → not (p.base.0 == 0 || p.base.0 == at) ≡ false → built_by p old ≡ source_at t all (suc k)
unfolding built_by
good_builds t all p old at k good h gap =
    ap (tree_or old)
    (ap (λ u. applied_all p.bundle (if p.base.0 == 0 then empty u else old)) good.of_tree
    ∙ same_start (p.base.0 == 0) p.bundle (empty t) old (source_at t all k) (source_at t all (suc k)) (λ z. h ∙ ap (source_at t all) (base_is p.base.0 at k gap z good.base)) good.gives)

-- what a packet makes of the built tree and of the last applied pass
record Moved (t : ℕ) (all : List Packet) (at bound : ℕ) (new : Tree) (now : ℕ) : Type 0 where
  built : new ≡ source_at t all now
  low : now ≤ bound
  rises : at ≤ now

stays : (t : ℕ) (all : List Packet) (at bound : ℕ) (old : Tree) → old ≡ source_at t all at → at ≤ bound → Moved t all at bound old at
stays t all at bound old h k = record { built = h; low = k; rises = le_refl at }

by_verdict : (t : ℕ) (all : List Packet) (p : Packet) (old : Tree) (at k : ℕ) (gone stale gap : Bool) (had want : Token) (base last : PassNo)
    → old ≡ source_at t all at → at ≤ k → p.pass.0 ≡ suc k → (gap ≡ false → built_by p old ≡ source_at t all (suc k))
    → let v = cond gone Gone (cond stale (Stale had want) (cond gap (Gap base last) (Applied p.pass []))) in
    Moved t all at (suc k) (built_or old p v) (pass_after at v)
by_verdict t all p old at k true stale gap had want base last h low pass builds = stays t all at (suc k) old h (omega (arith, low))
by_verdict t all p old at k false true gap had want base last h low pass builds = stays t all at (suc k) old h (omega (arith, low))
by_verdict t all p old at k false false true had want base last h low pass builds = stays t all at (suc k) old h (omega (arith, low))
by_verdict t all p old at k false false false had want base last h low pass builds = record {
  built = builds refl ∙ ap (source_at t all) (sym pass);
  low = omega (arith, pass);
  rises = omega (arith, pass, low);
}

good_moves : (t : ℕ) (all : List Packet) (before : List HEntry) (p : Packet) (old : Tree) (at k : ℕ) → GoodAt t all k p → old ≡ source_at t all at → at ≤ k
    → Moved t all at (suc k) (built_or old p (verdict_at before at p [])) (pass_after at (verdict_at before at p []))
unfolding verdict_at
good_moves t all before p old at k good h low =
    by_verdict t all p old at k (is_gone before p.tree) (not (p.token.0 == token_of before p.tree)) (not (p.base.0 == 0 || p.base.0 == at))
    p.token (record { 0 = token_of before p.tree }) p.base (record { 0 = at }) h low good.pass (good_builds t all p old at k good h)

-- ---- one entry

length-suc : {A : Type 0} (xs : List A) (x : A) → length (xs ++ x ∷ []) ≡ suc (length xs)
length-suc [] x = refl
length-suc (y ∷ xs) x = ap suc (length-suc xs x)

slice_get-middle : {A : Type 0} (xs back : List A) (x : A) → slice_get ((xs ++ x ∷ []) ++ back) (length xs) ≡ Some x
slice_get-middle [] back x = refl
slice_get-middle (y ∷ xs) back x = slice_get-middle xs back x

abbrev kept : Bool → Packet → List Packet
kept b p = if b then p ∷ [] else []

got_kept : (t : ℕ) (p : Packet) → filter_map (packet_in t) (Got p ∷ []) ≡ kept (p.tree == t) p
got_kept t p = by (p.tree == t)
  where
    by : (b : Bool) → filter_map (λ (o : Option Packet). o) ((if b then Some p else None) ∷ []) ≡ kept b p
    by true = refl
    by false = refl

by_tree : (t : ℕ) (all : List Packet) (p : Packet) (old : Tree) (at : ℕ) (xs back : List Packet) (b : Bool) (v : Verdict) → IsGood t all
    → all ≡ (xs ++ kept b p) ++ back → old ≡ source_at t all at → at ≤ length xs
    → (GoodAt t all (length xs) p → Moved t all at (suc (length xs)) (built_or old p v) (pass_after at v))
    → Moved t all at (length (xs ++ kept b p)) (if b then built_or old p v else old) (if b then pass_after at v else at)
by_tree t all p old at xs back true v good e h low moves =
    subst (λ n. Moved t all at n (built_or old p v) (pass_after at v)) (sym (length-suc xs p))
    (moves (good.at (length xs) p (ap (λ l. slice_get l (length xs)) e ∙ slice_get-middle xs back p)))
by_tree t all p old at xs back false v good e h low moves = stays t all at (length (xs ++ [])) old h (subst (λ l. at ≤ length l) (sym (append-nil xs)) low)

-- the built tree is the source at the last applied pass, which is one of the packets received so far
pub record BuildStands (t : ℕ) (all : List Packet) (before : List HEntry) : Type 0 where
  pub built : built_of before t ≡ source_at t all (applied_pass before t)
  pub low : applied_pass before t ≤ length (got before t)

abbrev Taken : ℕ → List Packet → List HEntry → HEntry → Type 0
Taken t all before e =
    Moved t all (applied_pass before t) (length (got before t ++ filter_map (packet_in t) (e ∷ []))) (built_after t before (built_of before t) e) (at_after t before (applied_pass before t) e)

nothing_got : (t : ℕ) (all : List Packet) (before : List HEntry) → BuildStands t all before
    → Moved t all (applied_pass before t) (length (got before t ++ [])) (built_of before t) (applied_pass before t)
nothing_got t all before s =
    stays t all (applied_pass before t) (length (got before t ++ [])) (built_of before t) s.built (subst (λ l. applied_pass before t ≤ length l) (sym (append-nil (got before t))) s.low)

entry_taken : (t : ℕ) (all : List Packet) (before : List HEntry) (e : HEntry) (back : List Packet) → IsGood t all
    → all ≡ (got before t ++ filter_map (packet_in t) (e ∷ [])) ++ back → BuildStands t all before → Taken t all before e
entry_taken t all before (Got p) back good e s =
    subst (λ l. Moved t all (applied_pass before t) (length (got before t ++ l)) (built_after t before (built_of before t) (Got p)) (at_after t before (applied_pass before t) (Got p)))
    (sym (got_kept t p))
    (by_tree t all p (built_of before t) (applied_pass before t) (got before t) back (p.tree == t) (verdict_at before (applied_pass before t) p []) good
    (e ∙ ap (λ l. (got before t ++ l) ++ back) (got_kept t p)) s.built s.low
    (λ g. good_moves t all before p (built_of before t) (applied_pass before t) (length (got before t)) g s.built s.low))
entry_taken t all before (Asked u) back good e s = nothing_got t all before s
entry_taken t all before (Ended u) back good e s = nothing_got t all before s
entry_taken t all before (Probed u x) back good e s = nothing_got t all before s

got_one : (before : List HEntry) (e : HEntry) (t : ℕ) → got (before ++ e ∷ []) t ≡ got before t ++ filter_map (packet_in t) (e ∷ [])
unfolding got
got_one before e t = got-append before (e ∷ []) t

record Stepped (t : ℕ) (all : List Packet) (before after : List HEntry) : Type 0 where
  stands : BuildStands t all after
  rises : applied_pass before t ≤ applied_pass after t

stepped : (t : ℕ) (all : List Packet) (before : List HEntry) (e : HEntry) → Taken t all before e → Stepped t all before (before ++ e ∷ [])
stepped t all before e m = record {
  stands = record {
    built = built-append before e t ∙ (m.built ∙ ap (source_at t all) (sym (applied_pass-append before e t)));
    low = subst (λ n. n ≤ length (got (before ++ e ∷ []) t)) (sym (applied_pass-append before e t))
        (subst (λ l. at_after t before (applied_pass before t) e ≤ length l) (sym (got_one before e t)) m.low);
  };
  rises = subst (λ n. applied_pass before t ≤ n) (sym (applied_pass-append before e t)) m.rises;
}

one_step : (t : ℕ) (all : List Packet) (before : List HEntry) (e : HEntry) (back : List Packet) → IsGood t all
    → all ≡ got (before ++ e ∷ []) t ++ back → BuildStands t all before → Stepped t all before (before ++ e ∷ [])
one_step t all before e back good h s = stepped t all before e (entry_taken t all before e back good (h ∙ ap (λ l. l ++ back) (got_one before e t)) s)

-- ---- all entries

after_one : (t : ℕ) (before : List HEntry) (e : HEntry) (rest : List HEntry) (back : List Packet) → got (before ++ e ∷ rest) t ++ back ≡ got (before ++ e ∷ []) t ++ (got rest t ++ back)
after_one t before e rest back =
    ap (λ l. got l t ++ back) (sym (append_assoc before (e ∷ []) rest))
    ∙ (ap (λ l. l ++ back) (got-append (before ++ e ∷ []) rest t) ∙ append_assoc (got (before ++ e ∷ []) t) (got rest t) back)

both : (t : ℕ) (all : List Packet) (a b c : List HEntry) → Stepped t all a b → Stepped t all b c → Stepped t all a c
both t all a b c h k = record { stands = k.stands; rises = le_trans h.rises k.rises }

walk : (t : ℕ) (all : List Packet) (before rest : List HEntry) (back : List Packet) → IsGood t all → all ≡ got (before ++ rest) t ++ back → BuildStands t all before
    → Stepped t all before (before ++ rest)
walk t all before [] back good h s = subst (λ l. Stepped t all before l) (sym (append-nil before)) (record { stands = s; rises = le_refl (applied_pass before t) })
walk t all before (e ∷ rest) back good h s =
    let one = one_step t all before e (got rest t ++ back) good (h ∙ after_one t before e rest back) s in
    let more = walk t all (before ++ e ∷ []) rest back good (h ∙ ap (λ l. got l t ++ back) (sym (append_assoc before (e ∷ []) rest))) one.stands in
    subst (λ l. Stepped t all before l) (append_assoc before (e ∷ []) rest) (both t all before (before ++ e ∷ []) ((before ++ e ∷ []) ++ rest) one more)

stands_first : (t : ℕ) (all : List Packet) → BuildStands t all []
unfolding built_of applied_pass got
stands_first t all = record { built = refl; low = le_refl 0 }

stands_after : (t : ℕ) (all : List Packet) (h : List HEntry) (back : List Packet) → IsGood t all → all ≡ got h t ++ back → BuildStands t all h
stands_after t all h back good e = (walk t all [] h back good e (stands_first t all)).stands

pub bundles_build : (h : List HEntry) (t : ℕ) → IsGood t (got h t) → built_of h t ≡ mirror_of h t
unfolding mirror_of
bundles_build h t good = (stands_after t (got h t) h [] good (sym (append-nil (got h t)))).built

pub passes_rise : (front back : List HEntry) (t : ℕ) → IsGood t (got (front ++ back) t) → applied_pass front t ≤ applied_pass (front ++ back) t
passes_rise front back t good =
    (walk t (got (front ++ back) t) front back [] good (sym (append-nil (got (front ++ back) t))) (stands_after t (got (front ++ back) t) front (got back t) good (got-append front back t))).rises

-- ---- the verdicts of both forests

-- where a packet is applied: what it builds, and the last applied pass after it
record Applies (h : List HEntry) (p : Packet) : Type 0 where
  before : built_of h p.tree ≡ mirror_of h p.tree
  accepted : applied_all p.bundle (if p.base.0 == 0 then empty p.tree else built_of h p.tree) ≡ Ok (mirror_of (h ++ Got p ∷ []) p.tree)

abbrev pub Open : List HEntry → Packet → Type 0
Open h p =
    (is_gone h p.tree ≡ false) × (not (p.token.0 == token_of h p.tree) ≡ false) × (not (p.base.0 == 0 || p.base.0 == applied_pass h p.tree) ≡ false)

good_accepted : (t : ℕ) (all : List Packet) (p : Packet) (old : Tree) (at k : ℕ) → GoodAt t all k p → old ≡ source_at t all at
    → not (p.base.0 == 0 || p.base.0 == at) ≡ false → applied_all p.bundle (if p.base.0 == 0 then empty t else old) ≡ Ok (source_at t all (suc k))
good_accepted t all p old at k good h gap =
    same_start (p.base.0 == 0) p.bundle (empty t) old (source_at t all k) (source_at t all (suc k)) (λ z. h ∙ ap (source_at t all) (base_is p.base.0 at k gap z good.base)) good.gives

pass_of_open : (h : List HEntry) (p : Packet) → Open h p → pass_after (applied_pass h p.tree) (verdict_at h (applied_pass h p.tree) p []) ≡ p.pass.0
unfolding verdict_at
pass_of_open h p o = rw (o.0, o.1, o.2) refl

same_tree : (t : ℕ) → (t == t) ≡ true
same_tree t = grind arith

pub pass_then : (h : List HEntry) (p : Packet) → Open h p → applied_pass (h ++ Got p ∷ []) p.tree ≡ p.pass.0
pass_then h p o =
    applied_pass-append h (Got p) p.tree
    ∙ (ap (λ b. if b then pass_after (applied_pass h p.tree) (verdict_at h (applied_pass h p.tree) p []) else applied_pass h p.tree) (same_tree p.tree) ∙ pass_of_open h p o)

pub got_then : (h : List HEntry) (p : Packet) → got (h ++ Got p ∷ []) p.tree ≡ got h p.tree ++ p ∷ []
got_then h p = got_one h (Got p) p.tree ∙ ap (λ l. got h p.tree ++ l) (got_kept p.tree p ∙ ap (λ b. kept b p) (same_tree p.tree))

-- the packet after those received so far
open_applies : (h : List HEntry) (p : Packet) (all : List Packet) → all ≡ got h p.tree ++ p ∷ [] → IsGood p.tree all → Open h p → Applies h p
unfolding mirror_of
open_applies h p all e good o =
    let t = p.tree in
    let s = stands_after t all h (p ∷ []) good e in
    let k = length (got h t) in
    let g = good.at k p (ap (λ l. slice_get l k) (e ∙ sym (append-nil (got h t ++ p ∷ []))) ∙ slice_get-middle (got h t) [] p) in
    record {
      before = s.built ∙ (ap (λ l. source_at t l (applied_pass h t)) e ∙ source_at-front t (got h t) (p ∷ []) (applied_pass h t) s.low);
      accepted =
          good_accepted t all p (built_of h t) (applied_pass h t) k g s.built o.2
          ∙ ap Ok (ap (source_at t all) (sym g.pass ∙ sym (pass_then h p o)) ∙ ap (λ l. source_at t l (applied_pass (h ++ Got p ∷ []) t)) (e ∙ sym (got_then h p)));
    }

told_alike : (gone stale gap : Bool) (had want : Token) (base last pass : PassNo) (es fs : List Event) → (gone ≡ false → stale ≡ false → gap ≡ false → es ≡ fs)
    → cond gone Gone (cond stale (Stale had want) (cond gap (Gap base last) (Applied pass es))) ≡ cond gone Gone (cond stale (Stale had want) (cond gap (Gap base last) (Applied pass fs)))
told_alike true stale gap had want base last pass es fs h = refl
told_alike false true gap had want base last pass es fs h = refl
told_alike false false true had want base last pass es fs h = refl
told_alike false false false had want base last pass es fs h = ap (Applied pass) (h refl refl refl)

built_then : (h : List HEntry) (p : Packet) → Applies h p → built_by p (built_of h p.tree) ≡ mirror_of (h ++ Got p ∷ []) p.tree
unfolding built_by
built_then h p a = ap (tree_or (built_of h p.tree)) a.accepted

-- where the packets received and p are good, the forest that builds and the one of mirrors have the same verdict
pub verdicts_agree : (h : List HEntry) (p : Packet) → IsGood p.tree (got h p.tree ++ p ∷ []) → built_verdict_of h p ≡ verdict_of h p
unfolding verdict_of built_verdict_of verdict_at
verdicts_agree h p good =
    told_alike (is_gone h p.tree) (not (p.token.0 == token_of h p.tree)) (not (p.base.0 == 0 || p.base.0 == applied_pass h p.tree))
    p.token (record { 0 = token_of h p.tree }) p.base (record { 0 = applied_pass h p.tree }) p.pass
    (events_of (built_of h p.tree) (built_by p (built_of h p.tree))) (events_of (mirror_of h p.tree) (mirror_of (h ++ Got p ∷ []) p.tree))
    (λ a b c. let x = open_applies h p (got h p.tree ++ p ∷ []) refl good (a, b, c) in ap₂ (λ old new. events_of old new) x.before (built_then h p x))

opened : (gone stale gap : Bool) (had want : Token) (base last pass : PassNo) (es : List Event)
    → is_applied (cond gone Gone (cond stale (Stale had want) (cond gap (Gap base last) (Applied pass es)))) ≡ true → (gone ≡ false) × (stale ≡ false) × (gap ≡ false)
unfolding is_applied
opened true stale gap had want base last pass es h = absurd (false≢true h)
opened false true gap had want base last pass es h = absurd (false≢true h)
opened false false true had want base last pass es h = absurd (false≢true h)
opened false false false had want base last pass es h = (refl, refl, refl)

open_where_applied : (h : List HEntry) (p : Packet) → is_applied (verdict_of h p) ≡ true → Open h p
unfolding verdict_of verdict_at
open_where_applied h p a =
    opened (is_gone h p.tree) (not (p.token.0 == token_of h p.tree)) (not (p.base.0 == 0 || p.base.0 == applied_pass h p.tree))
    p.token (record { 0 = token_of h p.tree }) p.base (record { 0 = applied_pass h p.tree }) p.pass (events_of (mirror_of h p.tree) (mirror_of (h ++ Got p ∷ []) p.tree)) a

-- and a bundle that is to be applied is accepted
pub applied_accepted : (h : List HEntry) (p : Packet) → IsGood p.tree (got h p.tree ++ p ∷ []) → is_applied (verdict_of h p) ≡ true
    → applied_all p.bundle (if p.base.0 == 0 then empty p.tree else built_of h p.tree) ≡ Ok (mirror_of (h ++ Got p ∷ []) p.tree)
applied_accepted h p good a = (open_applies h p (got h p.tree ++ p ∷ []) refl good (open_where_applied h p a)).accepted
