-- One entry of the history more, in the loop over it.
use Rattle.std.proofs.Common.{ℕ, zero, suc, ◌+◌, ◌-◌, ◌≡◌, ◌≤◌, ◌<◌, ◌==◌, true, false, ltb, leb, List, [], ◌∷◌, ◌++◌, length, map, get_or, set, take, drop, find, flat_map, replicate, slice_get, refl, sym, ap, ◌∙◌, subst, Option, Some, None, option_map, arith, append_assoc, append-nil, length-append}
use Rattle.std.specs.List.{enumerate_from}
use Rattle.std.proofs.lemmas.Bool.{eqb-true, ltb-true, le-leb}
use Rattle.std.proofs.lemmas.Bool.Decides.{leb_tells}
use Rattle.std.proofs.lemmas.List.{take_all}
use Rattle.std.proofs.lemmas.List.FromFn.{length-enumerate_from}
use Rattle.std.proofs.lemmas.Option.{slice_get-map}
use Rattle.ax_trees.specs.Lists.{NoneTwice}
use Rattle.ax_trees.proofs.Trees.{by_go}
use Rattle.ax_tree.specs.declared.packet.Packet.{Packet}
use Rattle.ax_tree.specs.declared.packet.JEntry.{JEntry}
use Rattle.ax_tree.specs.declared.packet.JEntry.TheVariants as entries
use Rattle.ax_tree.specs.declared.packet.HEntry.{HEntry}
use Rattle.ax_tree.specs.declared.packet.HEntry.TheVariants as events
use Rattle.ax_tree.specs.Journals.{Frame, new_frame, pending, frame_of, made_at, packets_of}
use Rattle.ax_ask.specs.declared.op.Item.{Item}
use Rattle.ax_ask.specs.declared.op.Item.TheVariants.{Receive}
use Rattle.ax_laws.proofs.GoodPackets.{packets_push}
use Rattle.ax_rules.specs.Histories.{got}
use Rattle.ax_run_rules.specs.Taken as taken
use Rattle.ax_run_rules.specs.Taken.{made_from, journal_items, packet_items, history_items, queries_at, made_by, entries_left, order_taken}
use Rattle.ax_run_laws.proofs.Held.{got_other}
use Rattle.ax_order_laws.specs.Parts.{list_at, journal_in, journal_or, waiting_of, FramePacketsFit, IsClosedHub}
use Rattle.ax_order_laws.proofs.Lists.{flat_next}
use Rattle.ax_order_laws.proofs.Cuts.{cut_none, cut_within, cut_rises, passes_are}
use Rattle.ax_order_laws.proofs.Standing.{has_tree, got_made, rank_next, ranked, pass_is, items_are}
use Rattle.ax_order_laws.proofs.Own.{map_map}
use Rattle.ax_order_laws.proofs.Keeping.{got_none, got_one}
use Rattle.ax_taken.specs.declared.closed.ClosedFrame.{ClosedFrame}
use Rattle.ax_taken.specs.declared.closed.Closed.{Closed}
use Rattle.ax_taken.specs.Taking.{frame_in, parts_of, trees_of, cuts_from, cuts_of, AreCuts, Rises, below, looks_below, ArePlaces, stand_of, received_items, IsNext, CanCome, came_items, came_stand, history_piece, StandWithin, rest_items}
use Rattle.ax_taken.proofs.QueryLemmas.{there_of, entry_at}
use Rattle.ax_taken.proofs.FrameLemmas.{same_place}

-- ---- the cuts of a journal

passes_push : (t : ℕ) (before : List JEntry) (e : JEntry) → (frame_of t (before ++ e ∷ [])).passes ≡ (frame_of t before).passes + length (made_at t e (frame_of t before))
passes_push t before e =
    let a = passes_are t (before ++ e ∷ []) in
    let b = passes_are t before in
    let p = ap length (packets_push t before e (new_frame t)) in
    let l = length-append (packets_of t before) (made_at t e (frame_of t before)) in omega (arith, a, b, p, l)

few_made : (t : ℕ) (e : JEntry) (f : Frame) → length (made_at t e f) ≤ 1
few_made t (entries.Edited e) f = omega arith
few_made t (entries.Marked z) f = omega arith
few_made t (entries.MarkedBelow z) f = omega arith
few_made t entries.Passed f = by_go (pending f) (λ q. rw q (omega arith)) (λ q. rw q (omega arith))
few_made t entries.Short f = omega arith
few_made t (entries.Delivered n) f = omega arith

reached : (t k : ℕ) (before j : List JEntry) → k ≤ (frame_of t before).passes → made_from t k before j ≡ 0
reached t k before [] h = refl
reached t k before (e ∷ j) h = let q : leb k (frame_of t before).passes ≡ true = le-leb k (frame_of t before).passes h in rw q refl

not_reached : (t k : ℕ) (before : List JEntry) (e : JEntry) (j : List JEntry) → (frame_of t before).passes < k → made_from t k before (e ∷ j) ≡ suc (made_from t k (before ++ e ∷ []) j)
not_reached t k before e j h = let q : leb k (frame_of t before).passes ≡ false = grind (arith, leb_tells k (frame_of t before).passes) in rw q refl

module _ (t : ℕ) (before : List JEntry) (e : JEntry) (j : List JEntry) where
  abbrev P : ℕ
  P = (frame_of t before).passes

  abbrev next : List JEntry
  next = before ++ e ∷ []

  abbrev Later : Type 0
  Later = (k : ℕ) → (frame_of t next).passes + k < (frame_of t (next ++ j)).passes → slice_get (cuts_from t next j) k ≡ Some (length next + made_from t ((frame_of t next).passes + suc k) next j)

  longer : length next ≡ suc (length before)
  longer = let l = length-append before (e ∷ []) in omega (arith, l)

  goes_on : (frame_of t (before ++ e ∷ j)).passes ≡ (frame_of t (next ++ j)).passes
  goes_on = ap (λ b. (frame_of t b).passes) (sym (append_assoc before (e ∷ []) j))

  cut_step : (i : ℕ) (ps : List Packet) → made_at t e (frame_of t before) ≡ ps → P + i < (frame_of t (before ++ e ∷ j)).passes → Later
      → slice_get (map (λ (p : Packet). suc (length before)) ps ++ cuts_from t next j) i ≡ Some (length before + made_from t (P + suc i) before (e ∷ j))
  cut_step i [] m h later =
      let same : (frame_of t next).passes ≡ (frame_of t before).passes = let s = passes_push t before e in let l = ap length m in omega (arith, s, l) in
      let g = goes_on in
      let one = not_reached t (P + suc i) before e j (omega arith) in
      let all : length next + made_from t ((frame_of t next).passes + suc i) next j ≡ length before + made_from t (P + suc i) before (e ∷ j) =
      ap (λ n. length next + made_from t (n + suc i) next j) same ∙ (let l = longer in omega (arith, l, one)) in
      later i (omega (arith, h, same, g)) ∙ ap Some all
  cut_step zero (p ∷ []) m h later =
      let same : (frame_of t next).passes ≡ suc (frame_of t before).passes = let s = passes_push t before e in let l = ap length m in omega (arith, s, l) in
      let one = not_reached t (P + 1) before e j (omega arith) in
      let none = reached t (P + 1) next j (omega (arith, same)) in
      ap Some (omega (arith, one, none))
  cut_step (suc k) (p ∷ []) m h later =
      let same : (frame_of t next).passes ≡ suc (frame_of t before).passes = let s = passes_push t before e in let l = ap length m in omega (arith, s, l) in
      let g = goes_on in
      let one = not_reached t (P + suc (suc k)) before e j (omega arith) in
      let number : (frame_of t next).passes + suc k ≡ P + suc (suc k) = omega (arith, same) in
      let all : length next + made_from t ((frame_of t next).passes + suc k) next j ≡ length before + made_from t (P + suc (suc k)) before (e ∷ j) =
      ap (λ n. length next + made_from t n next j) number ∙ (let l = longer in omega (arith, l, one)) in
      later k (omega (arith, h, same, g)) ∙ ap Some all
  cut_step i (p ∷ q ∷ ps) m h later = absurd (let f = few_made t e (frame_of t before) in let l = ap length m in omega (arith, f, l))

pub cut_there : (t : ℕ) (before j : List JEntry) (i : ℕ) → (frame_of t before).passes + i < (frame_of t (before ++ j)).passes
    → slice_get (cuts_from t before j) i ≡ Some (length before + made_from t ((frame_of t before).passes + suc i) before j)
cut_there t before [] i h = absurd (let e : (frame_of t (before ++ [])).passes ≡ (frame_of t before).passes = ap (λ b. (frame_of t b).passes) (append-nil before) in omega (arith, h, e))
cut_there t before (e ∷ j) i h = cut_step t before e j i (made_at t e (frame_of t before)) refl h (λ k l. cut_there t (before ++ e ∷ []) j k l)

pub cut_of : (t : ℕ) (j : List JEntry) (k : ℕ) → suc k ≤ (frame_of t j).passes → slice_get (cuts_of t j) k ≡ Some (made_from t (suc k) [] j)
cut_of t j k h = cut_there t [] j k (omega (arith, h)) ∙ ap Some (let z : 0 + suc k ≡ suc k = omega arith in ap (λ n. 0 + made_from t n [] j) z ∙ omega arith)

-- ---- frames found by their trees

pub record FoundAt (fs : List ClosedFrame) (g : taken.ClosedFrame) : Type 0 where
  pub at : ℕ
  pub frame : ClosedFrame
  pub there : slice_get fs at ≡ Some frame
  pub same : frame_in frame ≡ g

found_at : (fs : List ClosedFrame) (t : ℕ) (g : taken.ClosedFrame) → find (has_tree t) (map frame_in fs) ≡ Some g → FoundAt fs g
found_at [] t g h = absurd (cc)
found_at (f ∷ fs) t g h =
    by_go (f.tree == t)
    (λ q. let k : Some (frame_in f) ≡ Some g = rw q at h in record { at = 0; frame = f; there = refl; same = cc })
    (λ q. let r = found_at fs t g (rw q at h) in record { at = suc r.at; frame = r.frame; there = r.there; same = r.same })

found_has : (fs : List taken.ClosedFrame) (t : ℕ) (g : taken.ClosedFrame) → find (has_tree t) fs ≡ Some g → g.tree ≡ t
found_has [] t g h = absurd (cc)
found_has (f ∷ fs) t g h =
    by_go (f.tree == t)
    (λ q. let k : Some f ≡ Some g = rw q at h in let s : f ≡ g = cc in ap (λ (x : taken.ClosedFrame). x.tree) (sym s) ∙ eqb-true f.tree t q)
    (λ q. found_has fs t g (rw q at h))

map_there : {X Y : Type 0} (F G : X → Y) (xs : List X) → ((j : ℕ) (x : X) → slice_get xs j ≡ Some x → F x ≡ G x) → map F xs ≡ map G xs
map_there F G [] h = refl
map_there F G (x ∷ xs) h = ap (λ y. y ∷ map F xs) (h 0 x refl) ∙ ap (λ l. G x ∷ l) (map_there F G xs (λ j y q. h (suc j) y q))

set_map : {X : Type 0} (F G : X → ℕ) (xs : List X) (at : ℕ) (x : X) (n : ℕ) → slice_get xs at ≡ Some x → G x ≡ n → ((j : ℕ) (y : X) → slice_get xs j ≡ Some y → (j ≡ at → ⊥) → F y ≡ G y)
    → set (map F xs) at n ≡ map G xs
set_map F G [] at x n h e o = absurd (cc)
set_map F G (y ∷ xs) zero x n h e o =
    let s : y ≡ x = cc in
    ap (λ z. z ∷ map F xs) (sym (ap G s ∙ e)) ∙ ap (λ l. G y ∷ l) (map_there F G xs (λ j z k. o (suc j) z k (λ bad. absurd (omega (arith, bad)))))
set_map F G (y ∷ xs) (suc at) x n h e o =
    ap (λ z. z ∷ set (map F xs) at n) (o 0 y refl (λ bad. absurd (omega (arith, bad)))) ∙ ap (λ l. G y ∷ l) (set_map F G xs at x n h e (λ j z k a. o (suc j) z k (λ bad. a (let i : j ≡ at = omega (arith, bad) in i))))

map_all : {X Y : Type 0} (F G : X → Y) (xs : List X) → ((x : X) → F x ≡ G x) → map F xs ≡ map G xs
map_all F G [] h = refl
map_all F G (x ∷ xs) h = ap (λ y. y ∷ map F xs) (h x) ∙ ap (λ l. G x ∷ l) (map_all F G xs h)

-- ---- the next entry

pub once_in : (c : Closed) (looks : List (List ℕ)) → IsClosedHub (parts_of c) c.waiting looks → NoneTwice (trees_of c.frames)
once_in c looks closed = subst NoneTwice (map_map frame_in (λ (f : taken.ClosedFrame). f.tree) c.frames) closed.trees

module _ (c : Closed) (looks : List (List ℕ)) (closed : IsClosedHub (parts_of c) c.waiting looks) (cuts : AreCuts c.frames) (places : List ℕ) (placed : ArePlaces c.frames places) where
  abbrev parts : taken.Closed
  parts = parts_of c

  once : NoneTwice (trees_of c.frames)
  once = once_in c looks closed

  abbrev stand_at : ℕ → List ℕ
  stand_at i = map (stand_of (take i c.history)) c.frames

  -- a packet's tree has a frame
  framed_by : (i : ℕ) (p : Packet) (o : Option taken.ClosedFrame) → find (has_tree p.tree) (map frame_in c.frames) ≡ o → slice_get c.history i ≡ Some (events.Got p) → (g : taken.ClosedFrame) × (find (has_tree p.tree) (map frame_in c.frames) ≡ Some g)
  framed_by i p (Some g) e h = (g, e)
  framed_by i p None e h =
      absurd (let none : got c.history p.tree ++ waiting_of c.waiting p.tree ≡ [] = subst (λ o. FramePacketsFit o (got c.history p.tree ++ waiting_of c.waiting p.tree)) e (closed.packets p.tree) in
      let there = ranked parts c.waiting looks closed i p h in
      let bad : None ≡ Some p = ap (λ l. slice_get l (length (got (take i c.history) p.tree))) (sym none) ∙ there in cc)

  record Framed (i : ℕ) (p : Packet) : Type 0 where
    at : ℕ
    frame : ClosedFrame
    there : slice_get c.frames at ≡ Some frame
    tree : frame.tree ≡ p.tree
    journal : journal_in parts p.tree ≡ frame.journal

  framed : (i : ℕ) (p : Packet) → slice_get c.history i ≡ Some (events.Got p) → Framed i p
  framed i p h =
      let x = framed_by i p (find (has_tree p.tree) (map frame_in c.frames)) refl h in
      let f = found_at c.frames p.tree x.0 x.1 in
      record {
        at = f.at;
        frame = f.frame;
        there = f.there;
        tree = ap (λ (g : taken.ClosedFrame). g.tree) f.same ∙ found_has (map frame_in c.frames) p.tree x.0 x.1;
        journal = ap journal_or x.1 ∙ ap (λ (g : taken.ClosedFrame). g.journal) (sym f.same);
      }

  abbrev rank_in : ℕ → ℕ → ℕ
  rank_in i t = length (got (take i c.history) t)

  packet_next : (i : ℕ) (p : Packet) → slice_get c.history i ≡ Some (events.Got p) → IsNext c.frames places (stand_at i) p
  packet_next i p h =
      let f = framed i p h in
      let pass = pass_is parts c.waiting looks closed i p h in
      let enough : suc (rank_in i p.tree) ≤ (frame_of p.tree (journal_in (parts_of c) p.tree)).passes =
      let a = rank_next parts c.waiting looks closed i p h in let b = got_made parts c.waiting looks closed p.tree in omega (arith, a, b) in
      let own : suc (rank_in i f.frame.tree) ≤ (frame_of f.frame.tree f.frame.journal).passes =
      subst (λ t. suc (rank_in i t) ≤ (frame_of t f.frame.journal).passes) (sym f.tree) (subst (λ j. suc (rank_in i p.tree) ≤ (frame_of p.tree j).passes) f.journal enough) in
      let number : p.pass.0 - 1 ≡ rank_in i f.frame.tree = let r : rank_in i f.frame.tree ≡ rank_in i p.tree = ap (rank_in i) f.tree in omega (arith, pass, r) in
      record {
        at = f.at;
        frame = f.frame;
        from = stand_of (take i c.history) f.frame;
        to = made_from f.frame.tree (suc (rank_in i f.frame.tree)) [] f.frame.journal;
        place = ap (slice_get places) (sym f.tree) ∙ placed.place f.at f.frame f.there;
        framed = f.there;
        begun = slice_get-map (stand_of (take i c.history)) c.frames f.at ∙ ap (option_map (stand_of (take i c.history))) f.there;
        pass = omega (arith, pass);
        cut = ap (λ l. slice_get l (p.pass.0 - 1)) (cuts f.at f.frame f.there) ∙ (ap (slice_get (cuts_of f.frame.tree f.frame.journal)) number ∙ cut_of f.frame.tree f.frame.journal (rank_in i f.frame.tree) own);
        rises = cut_rises f.frame.tree (rank_in i f.frame.tree) (suc (rank_in i f.frame.tree)) [] f.frame.journal (omega arith);
        within = cut_within f.frame.tree (suc (rank_in i f.frame.tree)) [] f.frame.journal;
      }

  packet_came : (i : ℕ) (p : Packet) (h : slice_get c.history i ≡ Some (events.Got p)) → received_items (packet_next i p h).frame (packet_next i p h).from (packet_next i p h).to ≡ packet_items parts p
  unfolding packet_next framed
  packet_came i p h =
      let f = framed i p h in
      ap (λ t. flat_map (journal_items t) (drop (made_from t (rank_in i t) [] f.frame.journal) (take (made_from t (suc (rank_in i t)) [] f.frame.journal) f.frame.journal)) ++ Receive t ∷ []) f.tree
      ∙ (ap (λ j. flat_map (journal_items p.tree) (drop (made_from p.tree (rank_in i p.tree) [] j) (take (made_from p.tree (suc (rank_in i p.tree)) [] j) j)) ++ Receive p.tree ∷ []) (sym f.journal)
      ∙ sym (items_are parts c.waiting looks closed i p h))

  packet_stand : (i : ℕ) (p : Packet) (h : slice_get c.history i ≡ Some (events.Got p)) → set (stand_at i) (packet_next i p h).at (packet_next i p h).to ≡ stand_at (suc i)
  unfolding packet_next framed
  packet_stand i p h =
      let f = framed i p h in
      set_map (stand_of (take i c.history)) (stand_of (take (suc i) c.history)) c.frames f.at f.frame (made_from f.frame.tree (suc (rank_in i f.frame.tree)) [] f.frame.journal) f.there
      (ap (λ n. made_from f.frame.tree n [] f.frame.journal) (subst (λ t. rank_in (suc i) t ≡ suc (rank_in i t)) (sym f.tree) (got_one parts looks i p h)))
      (λ j g k apart. ap (λ l. made_from g.tree (length l) [] g.journal) (sym (got_none parts looks i (events.Got p) g.tree h (got_other p g.tree
      (by_go (p.tree == g.tree) (λ q. absurd (apart (same_place c.frames j f.at g f.frame once k f.there (sym (eqb-true p.tree g.tree q) ∙ sym f.tree)))) (λ q. q))))))

  still : (i : ℕ) (e : HEntry) → slice_get c.history i ≡ Some e → ((t : ℕ) → got (e ∷ []) t ≡ []) → stand_at i ≡ stand_at (suc i)
  still i e h none = map_all (stand_of (take i c.history)) (stand_of (take (suc i) c.history)) c.frames
      (λ g. ap (λ l. made_from g.tree (length l) [] g.journal) (sym (got_none parts looks i e g.tree h (none g.tree))))

  pub record Comes (i : ℕ) (e : HEntry) : Type 0 where
    pub can : CanCome c.frames places (stand_at i) e
    pub items : came_items c.frames places (stand_at i) e can ≡ history_items (parts_of c) e
    pub stand : came_stand c.frames places (stand_at i) e can ≡ stand_at (suc i)

  pub comes : (i : ℕ) (e : HEntry) → slice_get c.history i ≡ Some e → Comes i e
  unfolding got
  comes i (events.Got p) h = record { can = packet_next i p h; items = packet_came i p h; stand = packet_stand i p h }
  comes i (events.Asked t) h = record { can = tt; items = refl; stand = still i (events.Asked t) h (λ u. refl) }
  comes i (events.Ended t) h = record { can = tt; items = refl; stand = still i (events.Ended t) h (λ u. refl) }
  comes i (events.Probed t u) h = record { can = tt; items = refl; stand = still i (events.Probed t u) h (λ v. refl) }

  pub event_there : (history : List HEntry) (i : ℕ) (e : HEntry) → history ≡ c.history → i < length history → e ≡ get_or history i e → slice_get c.history i ≡ Some e
  event_there history i e h l is = ap (λ x. slice_get x i) (sym h) ∙ there_of history i e l is

  pub can_come : (i : ℕ) (e : HEntry) (stand : List ℕ) → slice_get c.history i ≡ Some e → stand ≡ stand_at i → CanCome c.frames places stand e
  can_come i e stand h s = subst (λ l. CanCome c.frames places l e) (sym s) (comes i e h).can

  -- the items of the entry and of the queries behind it
  pub piece_more : (i : ℕ) (e : HEntry) (stand : List ℕ) (old now mid new : List Item) → slice_get c.history i ≡ Some e → stand ≡ stand_at i
      → now ≡ old ++ flat_map (history_piece c looks) (take i (enumerate_from 1 c.history))
      → ((n : CanCome c.frames places stand e) → mid ≡ now ++ came_items c.frames places stand e n) → new ≡ mid ++ queries_at looks (i + 1)
      → new ≡ old ++ flat_map (history_piece c looks) (take (i + 1) (enumerate_from 1 c.history))
  piece_more i e stand old now mid new h s o m q =
      let came : (n : CanCome c.frames places (stand_at i) e) → mid ≡ now ++ came_items c.frames places (stand_at i) e n =
      subst (λ l. (n : CanCome c.frames places l e) → mid ≡ now ++ came_items c.frames places l e n) s m in
      let x = comes i e h in
      let there : slice_get (enumerate_from 1 c.history) i ≡ Some (i + 1, e) = entry_at 1 i (i + 1) c.history (omega arith) ∙ ap (option_map (λ y. (i + 1, y))) h in
      q ∙ (ap (λ l. l ++ queries_at looks (i + 1)) (came x.can ∙ ap (λ l. now ++ l) x.items)
      ∙ (append_assoc now (history_items (parts_of c) e) (queries_at looks (i + 1))
      ∙ (ap (λ l. l ++ (history_items (parts_of c) e ++ queries_at looks (i + 1))) o
      ∙ (append_assoc old (flat_map (history_piece c looks) (take i (enumerate_from 1 c.history))) (history_items (parts_of c) e ++ queries_at looks (i + 1))
      ∙ (ap (λ l. old ++ l) (sym (flat_next (history_piece c looks) (enumerate_from 1 c.history) i (i + 1, e) there))
      ∙ ap (λ k. old ++ flat_map (history_piece c looks) (take k (enumerate_from 1 c.history))) (let z : suc i ≡ i + 1 = omega arith in z))))))

  pub stand_more : (i : ℕ) (e : HEntry) (stand new : List ℕ) → slice_get c.history i ≡ Some e → stand ≡ stand_at i
      → ((n : CanCome c.frames places stand e) → new ≡ came_stand c.frames places stand e n) → new ≡ map (stand_of (take (i + 1) c.history)) c.frames
  stand_more i e stand new h s m =
      let came : (n : CanCome c.frames places (stand_at i) e) → new ≡ came_stand c.frames places (stand_at i) e n = subst (λ l. (n : CanCome c.frames places l e) → new ≡ came_stand c.frames places l e n) s m in
      came (comes i e h).can ∙ ((comes i e h).stand ∙ ap stand_at (let z : suc i ≡ i + 1 = omega arith in z))

-- ---- the whole

pub history_done : (c : Closed) (looks : List (List ℕ)) (i : ℕ) (old now : List Item) → length c.history ≤ i → now ≡ old ++ flat_map (history_piece c looks) (take i (enumerate_from 1 c.history))
    → now ≡ old ++ flat_map (history_piece c looks) (enumerate_from 1 c.history)
history_done c looks i old now l e =
    let s = length-enumerate_from 1 c.history in e ∙ ap (λ x. old ++ flat_map (history_piece c looks) x) (take_all i (enumerate_from 1 c.history) (omega (arith, s, l)))

pub stand_done : (c : Closed) (i : ℕ) (stand : List ℕ) → length c.history ≤ i → stand ≡ map (stand_of (take i c.history)) c.frames → stand ≡ map (stand_of c.history) c.frames
stand_done c i stand l e = e ∙ ap (λ h. map (stand_of h) c.frames) (take_all i c.history l)

pub first_stand : (fs : List ClosedFrame) → replicate (length fs) 0 ≡ map (stand_of []) fs
unfolding got
first_stand [] = refl
first_stand (f ∷ fs) = ap (λ n. n ∷ replicate (length fs) 0) (sym (cut_none f.tree f.journal)) ∙ ap (λ l. stand_of [] f ∷ l) (first_stand fs)

none_under : (ns : List ℕ) → below 0 ns ≡ 0
none_under [] = refl
none_under (n ∷ ns) = by_go (ltb n 0) (λ q. absurd (let l = ltb-true n 0 q in omega (arith, l))) (λ q. rw q (none_under ns))

pub first_asked : (looks : List (List ℕ)) → replicate (length looks) 0 ≡ looks_below 0 looks
first_asked [] = refl
first_asked (ns ∷ looks) = ap (λ n. n ∷ replicate (length looks) 0) (sym (none_under ns)) ∙ ap (λ l. below 0 ns ∷ l) (first_asked looks)

pub stands_within : (h : List HEntry) (fs : List ClosedFrame) → StandWithin fs (map (stand_of h) fs)
stands_within h [] = tt
stands_within h (f ∷ fs) = (cut_within f.tree (length (got h f.tree)) [] f.journal, stands_within h fs)

rest_are : (c : taken.Closed) (fs : List ClosedFrame) → rest_items fs (map (stand_of c.history) fs) ≡ flat_map (λ (f : taken.ClosedFrame). flat_map (journal_items f.tree) (entries_left c f)) (map frame_in fs)
unfolding entries_left made_by
rest_are c [] = refl
rest_are c (f ∷ fs) = ap (λ l. flat_map (journal_items f.tree) (drop (stand_of c.history f) f.journal) ++ l) (rest_are c fs)

pub order_done : (c : Closed) (looks : List (List ℕ)) → (queries_at looks 0 ++ flat_map (history_piece c looks) (enumerate_from 1 c.history)) ++ rest_items c.frames (map (stand_of c.history) c.frames) ≡ order_taken (parts_of c) looks
unfolding order_taken
order_done c looks = ap (λ l. (queries_at looks 0 ++ flat_map (history_piece c looks) (enumerate_from 1 c.history)) ++ l) (rest_are (parts_of c) c.frames)

pub all_rise : (c : Closed) (looks : List (List ℕ)) → IsClosedHub (parts_of c) c.waiting looks → (k : ℕ) → Rises (list_at looks k)
all_rise c looks closed k = (length c.history, closed.rises k)

-- ---- what a frame that keeps its cuts has to do at each entry

cuts_from-push : (t : ℕ) (before j : List JEntry) (e : JEntry)
    → cuts_from t before (j ++ e ∷ []) ≡ cuts_from t before j ++ map (λ (p : Packet). suc (length before + length j)) (made_at t e (frame_of t (before ++ j)))
cuts_from-push t before [] e =
    append-nil (map (λ (p : Packet). suc (length before)) (made_at t e (frame_of t before)))
    ∙ (ap (λ b. map (λ (p : Packet). suc (length before)) (made_at t e (frame_of t b))) (sym (append-nil before))
    ∙ ap (λ n. map (λ (p : Packet). suc n) (made_at t e (frame_of t (before ++ [])))) (let z : length before ≡ length before + 0 = omega arith in z))
cuts_from-push t before (x ∷ j) e =
    let here = map (λ (p : Packet). suc (length before)) (made_at t x (frame_of t before)) in
    let number : length (before ++ x ∷ []) + length j ≡ length before + suc (length j) = let l = length-append before (x ∷ []) in omega (arith, l) in
    ap (λ l. map (λ (p : Packet). suc (length before)) (made_at t x (frame_of t before)) ++ l) (cuts_from-push t (before ++ x ∷ []) j e)
    ∙ (sym (append_assoc here (cuts_from t (before ++ x ∷ []) j) (map (λ (p : Packet). suc (length (before ++ x ∷ []) + length j)) (made_at t e (frame_of t ((before ++ x ∷ []) ++ j)))))
    ∙ (ap (λ b. cuts_from t before (x ∷ j) ++ map (λ (p : Packet). suc (length (before ++ x ∷ []) + length j)) (made_at t e (frame_of t b))) (append_assoc before (x ∷ []) j)
    ∙ ap (λ n. cuts_from t before (x ∷ j) ++ map (λ (p : Packet). suc n) (made_at t e (frame_of t (before ++ x ∷ j)))) number))

-- one more entry: a new cut where it is a pass that made a packet
pub cuts-push : (t : ℕ) (j : List JEntry) (e : JEntry) → cuts_of t (j ++ e ∷ []) ≡ cuts_of t j ++ map (λ (p : Packet). suc (length j)) (made_at t e (frame_of t j))
cuts-push t j e = cuts_from-push t [] j e ∙ ap (λ n. cuts_of t j ++ map (λ (p : Packet). suc n) (made_at t e (frame_of t j))) (let z : 0 + length j ≡ length j = omega arith in z)
