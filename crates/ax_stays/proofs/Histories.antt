-- Histories that the browser alone makes, and what was received.
use Rattle.std.proofs.Common.{◌≡◌, inl, inr, ⊎_elim, ℕ, ◌+◌, ◌≤◌, Bool, true, false, cond, ◌==◌, List, [], ◌∷◌, ◌++◌, length, append-nil, length-append, Some, None, Result, Ok, Err, IfErr, MatchResult, sym, refl, ap, ◌∙◌, subst, arith, eq-eqb}
use Rattle.std.specs.List.{filter_map, cons_option}
use Rattle.std.proofs.lemmas.Bool.{eqb-true}
use Rattle.ax_base.specs.declared.seq.NoMemory.{NoMemory}
use Rattle.ax_trees.specs.Lists.{contains, NoneTwice}
use Rattle.ax_trees.proofs.Trees.{by_go}
use Rattle.ax_tree.specs.declared.packet.HEntry.{HEntry}
use Rattle.ax_tree.specs.declared.packet.HEntry.TheVariants.{Got, Asked, Ended, Probed}
use Rattle.ax_tree.specs.declared.packet.Packet.{Packet}
use Rattle.ax_tree.specs.declared.verdict.Verdict.{Verdict}
use Rattle.ax_tree.specs.Packets.{IsGood}
use Rattle.ax_turn.specs.Makers.{AllOwn, NoneOwn, GrowsByOwn, GrowsByOthers}
use Rattle.ax_turn.specs.Seats.{SeatView}
use Rattle.ax_lane.specs.Packets.{of_tree, Includes, AllDiffer}
use Rattle.ax_rules.specs.Histories.{got, packet_in}
use Rattle.ax_rules.specs.Mirrors.{built_verdict_of, verdict_of}
use Rattle.ax_rules.proofs.Appends.{got-append}
use Rattle.ax_rules.proofs.Building.{got_then}
use Rattle.ax_forest.specs.declared.answers.ForestErr.{ForestErr}
use Rattle.ax_forest.specs.declared.answers.ForestErr.TheVariants as forest
use Rattle.ax_forest.specs.Past.{Past}
use Rattle.ax_forest.specs.Fates.{ContinuesGood, IsNoRefusal, IsOfSource, IsWhy}
use Rattle.ax_forest.specs.Entries.{adds, history_after, IsAnswer}
use Rattle.ax_stays.specs.Makers.{by_browser, IsSeatFor}
use Rattle.ax_stays.specs.Received.{received, CanBeReceived, KeepsReceipts}
use Rattle.ax_stays.proofs.Growing.{leaves}

none_else : (es : List HEntry) → NoneOwn by_browser 0 1 es → es ≡ []
none_else [] h = refl
none_else (e ∷ es) h = absurd (h.0 (omega arith, omega arith))

-- the browser's seat misses nothing
pub only_browser : (low high : ℕ) (a b : List HEntry) → low ≡ 0 → high ≡ 1 → GrowsByOthers by_browser low high a b → b ≡ a
only_browser low high a b from to g =
    g.1 ∙ (ap (λ l. a ++ l) (none_else g.0 (subst (λ (z : ℕ × ℕ). NoneOwn by_browser z.0 z.1 g.0) (λ i. (from i, to i)) g.2)) ∙ append-nil a)

-- nor does a seat with the browser's number and others
pub none_beyond : (low high : ℕ) (a b : List HEntry) → low ≡ 0 → 1 ≤ high → GrowsByOthers by_browser low high a b → b ≡ a
none_beyond low high a b from to g = g.1 ∙ (ap (λ l. a ++ l) (nothing g.0 g.2) ∙ append-nil a)
  where
    nothing : (es : List HEntry) → NoneOwn by_browser low high es → es ≡ []
    nothing [] h = refl
    nothing (e ∷ es) h = absurd (h.0 (omega arith, omega arith))

pub received-append : (a b : List HEntry) → received (a ++ b) ≡ received a ++ received b
received-append [] b = refl
received-append (Got p ∷ es) b = ap (λ l. p ∷ l) (received-append es b)
received-append (Asked t ∷ es) b = received-append es b
received-append (Ended t ∷ es) b = received-append es b
received-append (Probed t u ∷ es) b = received-append es b

-- the packets of one tree, told apart before or after
pub got_received : (h : List HEntry) (t : ℕ) → got h t ≡ of_tree t (received h)
unfolding got
got_received [] t = refl
got_received (Got p ∷ h) t = go (p.tree == t) p (got_received h t)
  where
    go : (b : Bool) (p : Packet) → filter_map (packet_in t) h ≡ of_tree t (received h) → cons_option (cond b (Some p) None) (filter_map (packet_in t) h) ≡ cond b (p ∷ of_tree t (received h)) (of_tree t (received h))
    go true p e = ap (λ l. p ∷ l) e
    go false p e = e
got_received (Asked u ∷ h) t = got_received h t
got_received (Ended u ∷ h) t = got_received h t
got_received (Probed u v ∷ h) t = got_received h t

-- ---- one more entry

abbrev pub IsNoReceipt : HEntry → Type 0
IsNoReceipt (Got p) = ⊥
IsNoReceipt (Asked t) = Unit {0}
IsNoReceipt (Ended t) = Unit {0}
IsNoReceipt (Probed t u) = Unit {0}

pub none_received : (e : HEntry) → IsNoReceipt e → received (e ∷ []) ≡ []
none_received (Got p) h = absurd h
none_received (Asked t) h = refl
none_received (Ended t) h = refl
none_received (Probed t u) h = refl

pub none_got : (e : HEntry) → IsNoReceipt e → (t : ℕ) → got (e ∷ []) t ≡ []
unfolding got
none_got (Got p) h t = absurd h
none_got (Asked u) h t = refl
none_got (Ended u) h t = refl
none_got (Probed u v) h t = refl

-- what is no receipt changes nothing of what was received
pub keeps_other : (h : List HEntry) (n : ℕ) (e : HEntry) → IsNoReceipt e → KeepsReceipts h n → KeepsReceipts (h ++ e ∷ []) n
keeps_other h n e other k = record {
  count = k.count ∙ ap length (sym (received-append h (e ∷ []) ∙ (ap (λ l. received h ++ l) (none_received e other) ∙ append-nil (received h))));
  good = λ t. subst (IsGood t) (sym (got-append h (e ∷ []) t ∙ (ap (λ l. got h t ++ l) (none_got e other t) ∙ append-nil (got h t)))) (k.good t);
}

pub keeps_after : {A : Type 0} (r : Result A ForestErr) (h : List HEntry) (n : ℕ) (e : HEntry) → IsNoReceipt e → KeepsReceipts h n → KeepsReceipts (history_after r e h) n
keeps_after r h n e other k = go (adds r)
  where
    go : (b : Bool) → KeepsReceipts (cond b (h ++ e ∷ []) h) n
    go true = keeps_other h n e other k
    go false = k

other_got : (p : Packet) (t : ℕ) → (p.tree == t) ≡ false → got (Got p ∷ []) t ≡ []
unfolding got
other_got p t q = rw q refl

-- one more receipt
pub keeps_more : (h : List HEntry) (n : ℕ) (p : Packet) → IsGood p.tree (got h p.tree ++ p ∷ []) → KeepsReceipts h n → KeepsReceipts (h ++ Got p ∷ []) (n + 1)
keeps_more h n p good k = record {
  count = let c = k.count in let l = length-append (received h) (p ∷ []) in ap (λ m. m + 1) k.count ∙ sym (ap length (received-append h (Got p ∷ [])) ∙ l);
  good = λ t. by_go (p.tree == t)
      (λ q. subst (λ (u : ℕ). IsGood u (got (h ++ Got p ∷ []) u)) (eqb-true p.tree t q) (subst (IsGood p.tree) (sym (got_then h p)) good))
      (λ q. subst (IsGood t) (sym (got-append h (Got p ∷ []) t ∙ (ap (λ l. got h t ++ l) (other_got p t q) ∙ append-nil (got h t)))) (k.good t));
}

-- ---- trees

pub included : (trees : List ℕ) (t : ℕ) → Includes trees t → contains trees t ≡ true
included [] t h = absurd h
included (x ∷ xs) t h =
    ⊎_elim
    (λ e. let q : (x == t) ≡ true = eq-eqb x t e in rw q refl)
    (λ r. let k = included xs t r in by_go (x == t) (λ q. rw q refl) (λ q. rw q k))
    h

pub includes : (trees : List ℕ) (t : ℕ) → contains trees t ≡ true → Includes trees t
includes [] t h = absurd (cc)
includes (x ∷ xs) t h =
    by_go (x == t)
    (λ q. inl (eqb-true x t q))
    (λ q. inr (includes xs t (let k : contains (x ∷ xs) t ≡ contains xs t = rw q refl in sym k ∙ h)))

pub all_differ : (trees : List ℕ) → NoneTwice trees → AllDiffer trees
all_differ [] h = tt
all_differ (x ∷ xs) h = ((λ k. let bad : false ≡ true = sym h.0 ∙ included xs x k in absurd (cc)), all_differ xs h.1)

-- ---- why a packet isn't received

pub only_memory : (ts : List ℕ) (h : List HEntry) (p : Packet) (e : ForestErr) → IsWhy ts h p e → IsNoRefusal e → contains ts p.tree ≡ true → e ≡ forest.NoMemory
only_memory ts h p (forest.NoTree t) w n k = let bad : false ≡ true = sym w.1 ∙ k in absurd (cc)
only_memory ts h p (forest.AlreadyGone t) w n k = absurd w
only_memory ts h p (forest.Refused e) w n k = absurd n
only_memory ts h p forest.NoMemory w n k = refl

-- a call at a tree is refused for no bundle
pub no_bundle : {A : Type 0} (ts : List ℕ) (h : List HEntry) (t : ℕ) (r : Result A ForestErr) → IsAnswer ts h t r → IfErr r IsNoRefusal
no_bundle ts h t (Ok a) w = tt
no_bundle ts h t (Err (forest.NoTree u)) w = tt
no_bundle ts h t (Err (forest.AlreadyGone u)) w = tt
no_bundle ts h t (Err (forest.Refused e)) w = absurd w
no_bundle ts h t (Err forest.NoMemory) w = tt

-- ---- a stay in the forest's turn

all_browser : (es : List HEntry) → AllOwn by_browser 0 1 es
all_browser [] = tt
all_browser (e ∷ es) = ((omega arith, omega arith), all_browser es)

pub added_after : {A : Type 0} (r : Result A ForestErr) (e : HEntry) (h : List HEntry) → (added : List HEntry) × (history_after r e h ≡ h ++ added)
added_after r e h = go (adds r)
  where
    go : (b : Bool) → (added : List HEntry) × (cond b (h ++ e ∷ []) h ≡ h ++ added)
    go true = (e ∷ [], refl)
    go false = ([], sym (append-nil h))

module _ (seat inside out : SeatView HEntry) (round new : Past) (stands : IsSeatFor 0 seat) (came : inside ≡ record seat { inside = true; seen = round.history; enters = seat.enters + 1 }) where
  pub all_seen : GrowsByOthers by_browser seat.low seat.high seat.seen round.history → round.history ≡ seat.seen
  all_seen others = only_browser seat.low seat.high seat.seen round.history stands.low stands.high others

  pub browser_leaves : (added : List HEntry) → new.history ≡ round.history ++ added → GrowsByOwn by_browser inside.low inside.high inside.seen new.history
  browser_leaves added more =
      leaves by_browser inside.low inside.high 0 1 inside.seen round.history new.history added (ap (λ v. v.low) came ∙ stands.low) (ap (λ v. v.high) came ∙ stands.high) (ap (λ v. v.seen) came) more (all_browser added)

  pub browser_out : (h : List HEntry) → out ≡ record inside { inside = false; seen = new.history } → new.history ≡ h → out ≡ record seat { seen = h; enters = seat.enters + 1 }
  browser_out h went is =
      went ∙ (ap (λ (v : SeatView HEntry). record v { inside = false; seen = new.history }) came ∙ λ i. record seat { inside = sym stands.idle i; seen = is i; enters = seat.enters + 1 })

-- ---- a receipt

abbrev pub RoundReceives : Packet → Past → Result Verdict (NoMemory × Packet) → Past → Type 0
RoundReceives p old r new =
    MatchResult r (λ verdict. (verdict ≡ verdict_of old.history p) × (new ≡ record old { history = old.history ++ Got p ∷ [] })) (λ refused. (refused.1 ≡ p) × (new ≡ old))

pub receipt_adds : (r : Result Verdict (NoMemory × Packet)) (p : Packet) (old new : Past) → RoundReceives p old r new → (added : List HEntry) × (new.history ≡ old.history ++ added) × (new.trees ≡ old.trees)
receipt_adds (Ok v) p old new h = (Got p ∷ [], ap (λ x. x.history) h.1, ap (λ x. x.trees) h.1)
receipt_adds (Err e) p old new h = ([], ap (λ x. x.history) h.1 ∙ sym (append-nil old.history), ap (λ x. x.trees) h.1)

abbrev pub SeatReceives : Packet → SeatView HEntry → Result Verdict (NoMemory × Packet) → SeatView HEntry → Type 0
SeatReceives p old r new =
    MatchResult r
    (λ verdict. (verdict ≡ verdict_of old.seen p) × (new ≡ record old { seen = old.seen ++ Got p ∷ []; enters = old.enters + 1 }))
    (λ refused. (refused.1 ≡ p) × (new ≡ record old { enters = old.enters + 1 }))

pub receipt_stays : (seat inside out : SeatView HEntry) (round new : Past) → IsSeatFor 0 seat → inside ≡ record seat { inside = true; seen = round.history; enters = seat.enters + 1 }
    → GrowsByOthers by_browser seat.low seat.high seat.seen round.history → out ≡ record inside { inside = false; seen = new.history }
    → (r : Result Verdict (NoMemory × Packet)) (p : Packet) → RoundReceives p round r new → SeatReceives p seat r out
receipt_stays seat inside out round new stands came others went (Ok v) p h =
    let same = all_seen seat inside out round new stands came others in
    (h.0 ∙ ap (λ l. verdict_of l p) same, browser_out seat inside out round new stands came (seat.seen ++ Got p ∷ []) went (ap (λ x. x.history) h.1 ∙ ap (λ l. l ++ Got p ∷ []) same))
receipt_stays seat inside out round new stands came others went (Err e) p h =
    let same = all_seen seat inside out round new stands came others in
    (h.0, browser_out seat inside out round new stands came seat.seen went (ap (λ x. x.history) h.1 ∙ same))

-- ---- the value in the forest's turn

pub round_received : (p : Packet) (inside now new : Past) (verdict : Verdict) → inside ≡ now → CanBeReceived now.trees now.history p → verdict ≡ built_verdict_of inside.history p → (ContinuesGood inside.history p → IsOfSource inside.history p)
    → new ≡ record inside { history = inside.history ++ Got p ∷ [] } → (verdict ≡ verdict_of now.history p) × (new ≡ record now { history = now.history ++ Got p ∷ [] })
round_received p inside now new verdict same can built source grew =
    let good : ContinuesGood inside.history p = subst (λ (x : Past). ContinuesGood x.history p) (sym same) can.good in
    (built ∙ ((source good).verdict ∙ ap (λ (x : Past). verdict_of x.history p) same), grew ∙ ap (λ (x : Past). record x { history = x.history ++ Got p ∷ [] }) same)

pub round_keeps : (p : Packet) (inside now new : Past) (n receipts : ℕ) → inside ≡ now → CanBeReceived now.trees now.history p → new ≡ record inside { history = inside.history ++ Got p ∷ [] } → receipts ≡ n + 1 → KeepsReceipts inside.history n → KeepsReceipts new.history receipts
round_keeps p inside now new n receipts same can grew more k =
    subst (λ (z : List HEntry × ℕ). KeepsReceipts z.0 z.1) (λ i. (ap (λ (x : Past). x.history) (sym grew) i, sym more i))
    (keeps_more inside.history n p (subst (λ (x : Past). ContinuesGood x.history p) (sym same) can.good) k)

pub round_refused : (p : Packet) (inside now : Past) (why : ForestErr) → inside ≡ now → CanBeReceived now.trees now.history p → IsWhy inside.trees inside.history p why → (ContinuesGood inside.history p → IsNoRefusal why) → why ≡ forest.NoMemory
round_refused p inside now why same can is none =
    only_memory inside.trees inside.history p why is (none (subst (λ (x : Past). ContinuesGood x.history p) (sym same) can.good)) (subst (λ (x : Past). ◌≡◌ (contains x.trees p.tree) true) (sym same) can.known)

pub keeps_none : KeepsReceipts [] 0
unfolding got
keeps_none = record { count = refl; good = λ t. record { at = λ k p h. absurd (cc) } }
