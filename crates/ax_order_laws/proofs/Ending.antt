-- The whole run of the order taken: from the script's begin to the state of the closed hub's parts, with the lines of the calls.
use Rattle.std.proofs.Common.{ℕ, zero, suc, ◌+◌, ◌≡◌, ◌==◌, true, false, List, [], ◌∷◌, ◌++◌, length, map, take, drop, find, flat_map, slice_get, refl, sym, ap, ◌∙◌, subst, Some, arith}
use Rattle.std.specs.List.{enumerate_from}
use Rattle.std.proofs.lemmas.Bool.{eqb-true}
use Rattle.std.proofs.lemmas.List.{take_all, drop_at, drop-map}
use Rattle.ax_trees.specs.Lists.{NoneTwice, contains}
use Rattle.ax_trees.proofs.Trees.{by_go}
use Rattle.ax_tree.specs.declared.packet.Packet.{Packet}
use Rattle.ax_tree.specs.declared.packet.HEntry.{HEntry}
use Rattle.ax_tree.specs.Journals.{packets_of}
use Rattle.ax_tree.specs.Packets.{IsGood, Head, head_of}
use Rattle.ax_ask.specs.declared.op.TimedOp.{TimedOp}
use Rattle.ax_ask.specs.declared.query.TimedQuery.{TimedQuery}
use Rattle.ax_laws.proofs.GoodPackets.{fits_new}
use Rattle.ax_rules.specs.Histories.{got}
use Rattle.ax_run_rules.specs.Scripts.{Script, FrameScript}
use Rattle.ax_run_rules.specs.States.{FrameRun, State, Run, start, begin, find_frame}
use Rattle.ax_run_rules.specs.Steps.{run}
use Rattle.ax_run_rules.specs.Taken.{Closed, order_taken}
use Rattle.ax_run_laws.proofs.Found.{same_number}
use Rattle.ax_run_laws.proofs.Held.{its_packets}
use Rattle.ax_order_laws.specs.Parts.{op_in, browser_op_in, list_at, trees_in, journal_in, ops_or, ops_of, waiting_of, FramePacketsFit, IsClosedHub, IsTakenFrom, frame_taken, state_taken, without_bundle, without_bundles}
use Rattle.ax_order_laws.specs.Told.{is_entry, told_by, placed}
use Rattle.ax_order_laws.specs.Laws.{EndsIn}
use Rattle.ax_order_laws.proofs.Lists.{count}
use Rattle.ax_order_laws.proofs.Standing.{not_contained, fits, Ended, order_done}
use Rattle.ax_order_laws.proofs.Bare.{bare, bare_got}
use Rattle.ax_order_laws.proofs.Own.{map_map, map_same, own_bare}
use Rattle.ax_order_laws.proofs.Frames.{frame_there}
use Rattle.ax_order_laws.proofs.Keeping.{got_there, kept_first}
use Rattle.ax_order_laws.proofs.Walk.{frame_of_parts, same_run, frame_by, frame_at, browser_by, reader_at, history_by, run_at, Walked, walked}

-- ---- a script's frames by their trees

pub script_contains : (fs : List FrameScript) (n : ℕ) (f : FrameScript) → slice_get fs n ≡ Some f → contains (map (λ (g : FrameScript). g.tree) fs) f.tree ≡ true
script_contains [] n f h = absurd (cc)
script_contains (g ∷ fs) zero f h = let same : g ≡ f = cc in let q : (g.tree == f.tree) ≡ true = ap (λ (x : FrameScript). x.tree == f.tree) same ∙ same_number f.tree in rw q refl
script_contains (g ∷ fs) (suc n) f h = let i = script_contains fs n f h in by_go (g.tree == f.tree) (λ q. rw q refl) (λ q. rw q i)

script_found : (fs : List FrameScript) (n : ℕ) (f : FrameScript) → NoneTwice (map (λ (g : FrameScript). g.tree) fs) → slice_get fs n ≡ Some f → find (λ (g : FrameScript). g.tree == f.tree) fs ≡ Some f
script_found [] n f once h = absurd (cc)
script_found (g ∷ fs) zero f once h =
    let same : g ≡ f = cc in let q : (g.tree == f.tree) ≡ true = ap (λ (x : FrameScript). x.tree == f.tree) same ∙ same_number f.tree in rw q (ap Some same)
script_found (g ∷ fs) (suc n) f once h =
    by_go (g.tree == f.tree)
    (λ q. absurd (let e : g.tree ≡ f.tree = eqb-true g.tree f.tree q in
    let bad : false ≡ true = sym once.0 ∙ (ap (contains (map (λ (x : FrameScript). x.tree) fs)) e ∙ script_contains fs n f h) in cc))
    (λ q. rw q (script_found fs n f once.1 h))

plain : {X : Type 0} (d : ℕ) (xs : List X) → map (λ (r : ℕ × X). r.1) (enumerate_from d xs) ≡ xs
plain d [] = refl
plain d (x ∷ xs) = ap (λ l. x ∷ l) (plain (d + 1) xs)

shifted : {X Y : Type 0} (G H : ℕ × X → Y) → ((i : ℕ) (x : X) → G (suc i, x) ≡ H (i, x)) → (d m : ℕ) (xs : List X) → m ≡ suc d → map G (enumerate_from m xs) ≡ map H (enumerate_from d xs)
shifted G H same d m [] e = refl
shifted G H same d m (x ∷ xs) e =
    ap (λ i. G (i, x) ∷ map G (enumerate_from (m + 1) xs)) e
    ∙ (ap (λ y. y ∷ map G (enumerate_from (m + 1) xs)) (same d x) ∙ ap (λ l. H (d, x) ∷ l) (shifted G H same (d + 1) (m + 1) xs (omega (arith, e))))

abbrev started : FrameScript → FrameRun
started f = frame_of_parts f.tree f.ops [] []

abbrev stripped : FrameRun → FrameRun
stripped f = record f { waiting = map without_bundle f.waiting }

abbrev bare_of : Head → Packet
bare_of h = record { tree = h.tree; pass = record { 0 = h.pass }; base = record { 0 = h.base }; token = record { 0 = h.token }; slip = h.slip; bundle = [] }

-- packets with the same heads are the same but for bundles
same_heads : (ps qs : List Packet) → map head_of ps ≡ map head_of qs → map without_bundle ps ≡ map without_bundle qs
same_heads ps qs e = sym (map_map head_of bare_of ps) ∙ (ap (map bare_of) e ∙ map_map head_of bare_of qs)

abbrev state_of_parts : List FrameRun → List TimedOp → List (List TimedQuery) → List HEntry → State
state_of_parts fs os rs h = record { frames = fs; browser = os; readers = rs; history = h }

same_state : (a b : List FrameRun) (os ps : List TimedOp) (rs qs : List (List TimedQuery)) (h g : List HEntry) → a ≡ b → os ≡ ps → rs ≡ qs → h ≡ g → state_of_parts a os rs h ≡ state_of_parts b ps qs g
same_state a b os ps rs qs h g e1 e2 e3 e4 =
    ap (λ x. state_of_parts x os rs h) e1 ∙ (ap (λ x. state_of_parts b x rs h) e2 ∙ (ap (λ x. state_of_parts b ps x h) e3 ∙ ap (λ x. state_of_parts b ps qs x) e4))

module _ (s : Script) (c : Closed) (waiting : List Packet) (looks : List (List ℕ)) (closed : IsClosedHub c waiting looks) (holds : IsTakenFrom s c looks) where
  once : NoneTwice (map (λ (f : FrameScript). f.tree) s.frames)
  once = subst NoneTwice (sym holds.trees) closed.trees

  own_ops : (n : ℕ) (f : FrameScript) → slice_get s.frames n ≡ Some f → ops_of s f.tree ≡ f.ops
  own_ops n f h = ap ops_or (script_found s.frames n f once h)

  by_script : (g : ℕ → FrameRun) → map g (trees_in c) ≡ map (λ (f : FrameScript). g f.tree) s.frames
  by_script g = ap (map g) (sym holds.trees) ∙ map_map (λ (f : FrameScript). f.tree) g s.frames

  first_frame : (n : ℕ) (f : FrameScript) → slice_get s.frames n ≡ Some f → started f ≡ frame_at s c waiting looks closed holds [] f.tree
  unfolding got
  first_frame n f h = ap (λ l. frame_of_parts f.tree l [] []) (sym (own_ops n f h))

  begins : begin s ≡ run_at s c waiting looks closed holds [] []
  unfolding begin start
  begins =
      same_run _ _ _ _ _ _ _ _ _ _
      (map_same started (λ f. frame_at s c waiting looks closed holds [] f.tree) s.frames first_frame ∙ sym (by_script (frame_at s c waiting looks closed holds [])))
      refl (sym (plain 1 s.readers)) refl refl

  -- ---- the end

  pub walk : Walked s c waiting looks closed holds [] (order_taken c looks) []
  walk = walked s c waiting looks closed holds (order_taken c looks) [] [] (order_done c waiting looks closed).placed (kept_first c looks)

  abbrev pub last_run : Run
  last_run = run_at s c waiting looks closed holds (order_taken c looks) walk.new

  pub there : run (order_taken c looks) (begin s) ≡ Some last_run
  there = ap (run (order_taken c looks)) begins ∙ walk.ends

  waiting_left : (t : ℕ) → map without_bundle (drop (length (got c.history t)) (packets_of t (journal_in c t))) ≡ map without_bundle (waiting_of waiting t)
  waiting_left t =
      let n = length (got c.history t) in
      sym (drop-map without_bundle (length (got c.history t)) (packets_of t (journal_in c t)))
      ∙ (ap (drop (length (got c.history t))) (sym (same_heads (got c.history t ++ waiting_of waiting t) (packets_of t (journal_in c t)) (fits c waiting looks closed t).heads))
      ∙ (drop-map without_bundle (length (got c.history t)) (got c.history t ++ waiting_of waiting t)
      ∙ ap (map without_bundle) (drop_at (got c.history t) (waiting_of waiting t) (length (got c.history t)) refl)))

  abbrev pub ended : Ended c waiting looks closed (order_taken c looks)
  ended = (order_done c waiting looks closed).ended

  last_frame : (n : ℕ) (f : FrameScript) → slice_get s.frames n ≡ Some f → stripped (frame_at s c waiting looks closed holds (order_taken c looks) f.tree) ≡ stripped (frame_taken c waiting f)
  last_frame n f h =
      let j : take (length (journal_in c f.tree)) (journal_in c f.tree) ≡ journal_in c f.tree = take_all (length (journal_in c f.tree)) (journal_in c f.tree) (omega arith) in
      let g : got_there c looks f.tree (length c.history) ≡ length (got c.history f.tree) = ap (λ l. length (got l f.tree)) (take_all (length c.history) c.history (omega arith)) in
      ap (λ i. stripped (frame_by s c waiting looks closed holds f.tree i (count is_entry (order_taken c looks)))) (ended.frames f.tree)
      ∙ (ap (λ i. stripped (frame_by s c waiting looks closed holds f.tree (length (journal_in c f.tree)) i)) ended.entries
      ∙ (ap (λ l. stripped (frame_of_parts f.tree (drop (length (flat_map op_in l)) (ops_of s f.tree)) l (drop (got_there c looks f.tree (length c.history)) (packets_of f.tree l)))) j
      ∙ (ap (λ i. stripped (frame_of_parts f.tree (drop (length (flat_map op_in (journal_in c f.tree))) (ops_of s f.tree)) (journal_in c f.tree) (drop i (packets_of f.tree (journal_in c f.tree))))) g
      ∙ (ap (λ l. stripped (frame_of_parts f.tree (drop (length (flat_map op_in (journal_in c f.tree))) l) (journal_in c f.tree) (drop (length (got c.history f.tree)) (packets_of f.tree (journal_in c f.tree))))) (own_ops n f h)
      ∙ ap (frame_of_parts f.tree (drop (length (flat_map op_in (journal_in c f.tree))) f.ops) (journal_in c f.tree)) (waiting_left f.tree)))))

  pub last_state : without_bundles last_run.state ≡ without_bundles (state_taken s c waiting looks)
  unfolding without_bundles state_taken
  last_state =
      same_state _ _ _ _ _ _ _ _
      (ap (map stripped) (by_script (frame_at s c waiting looks closed holds (order_taken c looks)))
      ∙ (map_map (λ (f : FrameScript). frame_at s c waiting looks closed holds (order_taken c looks) f.tree) stripped s.frames
      ∙ (map_same (λ f. stripped (frame_at s c waiting looks closed holds (order_taken c looks) f.tree)) (λ f. stripped (frame_taken c waiting f)) s.frames last_frame
      ∙ sym (map_map (frame_taken c waiting) stripped s.frames))))
      (ap (browser_by s c waiting looks closed holds) ended.entries ∙ ap (λ l. drop (length (flat_map browser_op_in l)) s.browser) (take_all (length c.history) c.history (omega arith)))
      (shifted (reader_at s c waiting looks closed holds (order_taken c looks)) (λ (r : ℕ × List TimedQuery). drop (length (list_at looks r.0)) r.1) (λ i x. ap (λ n. drop n x) (ended.readers i)) 0 1 s.readers refl)
      (ap (λ n. bare (history_by s c waiting looks closed holds n)) ended.entries ∙ (own_bare c waiting looks closed (length c.history) ∙ ap bare (take_all (length c.history) c.history (omega arith))))

  -- ---- its packets are good

  nothing_got : (t : ℕ) → contains (trees_in c) t ≡ false → got c.history t ≡ []
  nothing_got t q = first_nil (got c.history t) (waiting_of waiting t) (subst (λ o. FramePacketsFit o (got c.history t ++ waiting_of waiting t)) (not_contained c waiting looks closed t c.frames q) (closed.packets t))
    where
      first_nil : (xs ys : List Packet) → xs ++ ys ≡ [] → xs ≡ []
      first_nil [] ys h = refl
      first_nil (x ∷ xs) ys h = absurd (cc)

  no_more : (ps : List Packet) → map without_bundle ps ≡ [] → ps ≡ []
  no_more [] h = refl
  no_more (p ∷ ps) h = absurd (cc)

  last_got : (t : ℕ) → map without_bundle (got last_run.state.history t) ≡ map without_bundle (got c.history t)
  last_got t =
      sym (bare_got last_run.state.history t)
      ∙ (ap (λ h. got h t) (ap (λ n. bare (history_by s c waiting looks closed holds n)) ended.entries ∙ (own_bare c waiting looks closed (length c.history) ∙ ap bare (take_all (length c.history) c.history (omega arith))))
      ∙ bare_got c.history t)

  last_good : (t : ℕ) → IsGood t (got last_run.state.history t)
  unfolding find_frame
  last_good t =
      by_go (contains (trees_in c) t)
      (λ q. (its_packets s (order_taken c looks) last_run t (frame_at s c waiting looks closed holds (order_taken c looks) t) there
      (frame_there (frame_at s c waiting looks closed holds (order_taken c looks)) (λ u. refl) (trees_in c) t q)).good)
      (λ q. let none : got last_run.state.history t ≡ [] = no_more (got last_run.state.history t) (last_got t ∙ ap (map without_bundle) (nothing_got t q)) in
      subst (λ l. IsGood t l) (sym none) (fits_new t).good)

  pub taken_is_there : (r : Run) × (run (order_taken c looks) (begin s) ≡ Some r) × EndsIn s c waiting looks r
  taken_is_there = (last_run, there, record { state = last_state; good = last_good })

  pub lines_placed : (r : Run) → run (order_taken c looks) (begin s) ≡ Some r → placed (told_by s c looks) [] (order_taken c looks) ≡ Some r.lines
  lines_placed r h = let e : Some last_run ≡ Some r = sym there ∙ h in let same : last_run ≡ r = cc in walk.told ∙ ap (λ (x : Run). Some x.lines) same
