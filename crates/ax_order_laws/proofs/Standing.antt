-- Each item of the order taken may stand in its place.
use Rattle.std.proofs.Common.{ℕ, suc, ◌+◌, ◌-◌, ◌≡◌, ◌≤◌, ◌<◌, ◌==◌, Bool, true, false, if◌then◌else◌, List, [], ◌∷◌, ◌++◌, length, map, take, drop, filter, find, flat_map, slice_get, refl, sym, ap, ◌∙◌, subst, Option, Some, None, arith, append_assoc, append-nil, length-append}
use Rattle.std.specs.List.{list_any, enumerate_from}
use Rattle.std.proofs.lemmas.Bool.{eqb-true}
use Rattle.std.proofs.lemmas.List.{take_all, take-append-drop}
use Rattle.ax_trees.specs.Lists.{NoneTwice, contains}
use Rattle.ax_trees.proofs.Trees.{by_go}
use Rattle.ax_tree.specs.declared.packet.Packet.{Packet}
use Rattle.ax_tree.specs.declared.packet.JEntry.{JEntry}
use Rattle.ax_tree.specs.declared.packet.HEntry.{HEntry}
use Rattle.ax_tree.specs.declared.packet.HEntry.TheVariants as events
use Rattle.ax_tree.specs.Journals.{frame_of, packets_of}
use Rattle.ax_tree.specs.Packets.{Fits}
use Rattle.ax_ask.specs.declared.op.BrowserOp.{BrowserOp}
use Rattle.ax_ask.specs.declared.op.BrowserOp.TheVariants as browsers
use Rattle.ax_ask.specs.declared.op.Item.{Item}
use Rattle.ax_ask.specs.declared.op.Item.TheVariants.{Receive, Browser}
use Rattle.ax_laws.proofs.GoodPackets.{fits_new}
use Rattle.ax_rules.specs.Histories.{got}
use Rattle.ax_run_rules.specs.Fair.{is_reader}
use Rattle.ax_run_rules.specs.Taken.{ClosedFrame, Closed, journal_items, made_from, made_by, entries_of_pass, packet_items, history_items, queries_at, entries_left, order_taken}
use Rattle.ax_rules.proofs.Appends.{got-append}
use Rattle.ax_run_laws.proofs.Found.{same_number}
use Rattle.ax_run_laws.proofs.Held.{got_own, got_other}
use Rattle.ax_order_laws.specs.Parts.{runs_short, frame_in, journal_in, journal_or, list_at, waiting_of, FramePacketsFit, IsClosedHub}
use Rattle.ax_order_laws.specs.Told.{is_entry}
use Rattle.ax_order_laws.proofs.Lists.{take_next, drop_next, get_next, rest_next, get_front, get_past, drop_split, length_split, count, count_both, count_hit, count_miss}
use Rattle.ax_order_laws.proofs.Cuts.{cut_none, cut_within, cut_rises, cut_made, passes_are}
use Rattle.ax_order_laws.proofs.Places.{in_frame, event_of, PacketNext, EachPlaced, each_both, stretch_placed, stretch_own, stretch_other}
use Rattle.ax_order_laws.proofs.Looks.{below, none_below, below_next, all_below, queries_other, queries_own, queries_placed}

-- ---- frames found by their trees

abbrev pub has_tree : ℕ → ClosedFrame → Bool
has_tree t f = f.tree == t

pub found_tree : (t : ℕ) (fs : List ClosedFrame) (f : ClosedFrame) → find (has_tree t) fs ≡ Some f → f.tree ≡ t
found_tree t [] f h = absurd (cc)
found_tree t (g ∷ fs) f h =
    by_go (g.tree == t)
    (λ q. let k : Some g ≡ Some f = rw q at h in ap (λ (x : ClosedFrame). x.tree) (sym (let e : g ≡ f = cc in e)) ∙ eqb-true g.tree t q)
    (λ q. found_tree t fs f (rw q at h))

-- where the trees differ, the frames that are filtered by a tree are the one that is found
abbrev pub one_or : Option ClosedFrame → List ClosedFrame
one_or None = []
one_or (Some f) = f ∷ []

none_more : (t : ℕ) (fs : List ClosedFrame) → contains (map (λ (f : ClosedFrame). f.tree) fs) t ≡ false → filter (has_tree t) fs ≡ []
none_more t [] h = refl
none_more t (g ∷ fs) h =
    by_go (g.tree == t)
    (λ q. absurd (let k : true ≡ false = rw q at h in cc))
    (λ q. let k : contains (map (λ (f : ClosedFrame). f.tree) fs) t ≡ false = rw q at h in rw q (none_more t fs k))

pub filter_found : (t : ℕ) (fs : List ClosedFrame) → NoneTwice (map (λ (f : ClosedFrame). f.tree) fs) → filter (has_tree t) fs ≡ one_or (find (has_tree t) fs)
filter_found t [] n = refl
filter_found t (g ∷ fs) n =
    by_go (g.tree == t)
    (λ q. let e : g.tree ≡ t = eqb-true g.tree t q in
    let k : contains (map (λ (f : ClosedFrame). f.tree) fs) t ≡ false = ap (contains (map (λ (f : ClosedFrame). f.tree) fs)) (sym e) ∙ n.0 in
    rw q (ap (λ l. g ∷ l) (none_more t fs k)))
    (λ q. rw q (filter_found t fs n.1))

not_short : (a b : List JEntry) → list_any runs_short (a ++ b) ≡ false → (list_any runs_short a ≡ false) × (list_any runs_short b ≡ false)
not_short [] b h = (refl, h)
not_short (e ∷ a) b h =
    by_go (runs_short e)
    (λ q. absurd (let k : true ≡ false = rw q at h in cc))
    (λ q. let k : list_any runs_short (a ++ b) ≡ false = rw q at h in let r = not_short a b k in (rw q r.0, r.1))

-- ---- the parts

module _ (c : Closed) (waiting : List Packet) (looks : List (List ℕ)) (closed : IsClosedHub c waiting looks) where
  pub whole_of : (o : Option ClosedFrame) (ps : List Packet) → FramePacketsFit o ps → list_any runs_short (journal_or o) ≡ false
  whole_of None ps h = refl
  whole_of (Some f) ps h = h.whole

  pub whole : (t : ℕ) → list_any runs_short (journal_in c t) ≡ false
  whole t = whole_of (frame_in c t) (got c.history t ++ waiting_of waiting t) (closed.packets t)

  fits_of : (t : ℕ) (o : Option ClosedFrame) (ps : List Packet) → ((f : ClosedFrame) → o ≡ Some f → f.tree ≡ t) → FramePacketsFit o ps → Fits t (journal_or o) ps
  fits_of t None ps tree h = subst (λ l. Fits t [] l) (sym h) (fits_new t)
  fits_of t (Some f) ps tree h = subst (λ u. Fits u f.journal ps) (tree f refl) h.fits

  -- the packets of each tree fit its journal
  pub fits : (t : ℕ) → Fits t (journal_in c t) (got c.history t ++ waiting_of waiting t)
  fits t = fits_of t (frame_in c t) (got c.history t ++ waiting_of waiting t) (λ f e. found_tree t c.frames f e) (closed.packets t)

  pub got_made : (t : ℕ) → length (got c.history t) ≤ (frame_of t (journal_in c t)).passes
  got_made t = let f = (fits t).count in let l = length-append (got c.history t) (waiting_of waiting t) in omega (arith, f, l)

  -- the entries of t that stand before the entry n of the history
  abbrev pub cut_at : ℕ → ℕ → ℕ
  cut_at t n = made_from t (length (got (take n c.history) t)) [] (journal_in c t)

  pub got_next : (n : ℕ) (e : HEntry) (t : ℕ) → slice_get c.history n ≡ Some e → got (take (suc n) c.history) t ≡ got (take n c.history) t ++ got (e ∷ []) t
  got_next n e t h = ap (λ l. got l t) (take_next c.history n e h) ∙ got-append (take n c.history) (e ∷ []) t

  got_rest : (n : ℕ) (t : ℕ) → got c.history t ≡ got (take n c.history) t ++ got (drop n c.history) t
  got_rest n t = ap (λ l. got l t) (sym (take-append-drop n c.history)) ∙ got-append (take n c.history) (drop n c.history) t

  -- where a front of the order ends: n entries of the history, and the queries whose looks are below j
  pub record At (b : List Item) (n j : ℕ) : Type 0 where
    pub entries : count is_entry b ≡ n
    pub frames : (t : ℕ) → count (in_frame t) b ≡ cut_at t n
    pub readers : (k : ℕ) → count (is_reader (suc k)) b ≡ count (below j) (list_at looks k)

  -- a stretch that is placed, and where the order then is
  pub record Goes (b xs : List Item) (n j : ℕ) : Type 0 where
    pub placed : EachPlaced c looks b xs
    pub at : At (b ++ xs) n j

  pub goes_both : (b xs ys : List Item) (n j m k : ℕ) → Goes b xs n j → (At (b ++ xs) n j → Goes (b ++ xs) ys m k) → Goes b (xs ++ ys) m k
  goes_both b xs ys n j m k g h =
      let q = h g.at in record { placed = each_both c looks b xs ys g.placed q.placed; at = subst (λ l. At l m k) (append_assoc b xs ys) q.at }

  queries_go : (b : List Item) (n : ℕ) → At b n n → Goes b (queries_at looks n) n (suc n)
  unfolding queries_at
  queries_go b n at = record {
    placed = queries_placed c looks (length c.history) n closed.rises b at.entries at.readers;
    at = record {
      entries = let a = count_both is_entry b (queries_at looks n) in let z = queries_other is_entry n 1 looks (λ k. refl) in omega (arith, a, z, at.entries);
      frames = λ t. let a = count_both (in_frame t) b (queries_at looks n) in let z = queries_other (in_frame t) n 1 looks (λ k. refl) in let old = at.frames t in omega (arith, a, z, old);
      readers = λ k. let a = count_both (is_reader (suc k)) b (queries_at looks n) in
          let z = queries_own k n 1 (suc k) looks (omega arith) in
          let old = at.readers k in
          let more = below_next n (list_at looks k) in omega (arith, a, z, old, more);
    };
  }

  -- a browser operation
  entry_at : (b : List Item) (n : ℕ) (e : HEntry) → At b n (suc n) → slice_get c.history n ≡ Some e → ((t : ℕ) → got (e ∷ []) t ≡ []) → At (b ++ Browser ∷ []) (suc n) (suc n)
  entry_at b n e at h none = record {
    entries = count_hit is_entry b Browser refl ∙ ap suc at.entries;
    frames = λ t. count_miss (in_frame t) b Browser refl
        ∙ (at.frames t ∙ ap (λ l. made_from t (length l) [] (journal_in c t)) (sym (got_next n e t h ∙ (ap (λ l. got (take n c.history) t ++ l) (none t) ∙ append-nil (got (take n c.history) t)))));
    readers = λ k. count_miss (is_reader (suc k)) b Browser refl ∙ at.readers k;
  }

  browser_goes : (b : List Item) (n : ℕ) (op : BrowserOp) → At b n (suc n) → slice_get c.history n ≡ Some (event_of op) → ((t : ℕ) → got (event_of op ∷ []) t ≡ [])
      → Goes b (Browser ∷ []) (suc n) (suc n)
  browser_goes b n op at h none = record {
    placed = (record { op = op; there = ap (λ i. slice_get c.history i) at.entries ∙ h }, tt);
    at = entry_at b n (event_of op) at h none;
  }

  -- ---- a packet's receipt, after the entries up to and with its pass

  abbrev pub rank : ℕ → ℕ → ℕ
  rank n t = length (got (take n c.history) t)

  got_here : (n : ℕ) (p : Packet) → slice_get c.history n ≡ Some (events.Got p) → got (drop n c.history) p.tree ≡ p ∷ got (drop (suc n) c.history) p.tree
  got_here n p h =
      ap (λ l. got l p.tree) (drop_next c.history n (events.Got p) h)
      ∙ (got-append (events.Got p ∷ []) (drop (suc n) c.history) p.tree ∙ ap (λ l. l ++ got (drop (suc n) c.history) p.tree) (got_own p p.tree refl))

  pub rank_next : (n : ℕ) (p : Packet) → slice_get c.history n ≡ Some (events.Got p) → suc (length (got (take n c.history) p.tree)) ≤ length (got c.history p.tree)
  rank_next n p h =
      let a = ap length (got_rest n p.tree ∙ ap (λ l. got (take n c.history) p.tree ++ l) (got_here n p h)) in
      let b = length-append (got (take n c.history) p.tree) (p ∷ got (drop (suc n) c.history) p.tree) in omega (arith, a, b)

  -- the packet stands at its rank among its tree's
  pub ranked : (n : ℕ) (p : Packet) → slice_get c.history n ≡ Some (events.Got p) → slice_get (got c.history p.tree ++ waiting_of waiting p.tree) (length (got (take n c.history) p.tree)) ≡ Some p
  ranked n p h =
      get_front (got c.history p.tree) (waiting_of waiting p.tree) (rank n p.tree) (rank_next n p h)
      ∙ (ap (λ l. slice_get l (rank n p.tree)) (got_rest n p.tree ∙ ap (λ l. got (take n c.history) p.tree ++ l) (got_here n p h))
      ∙ (ap (λ i. slice_get (got (take n c.history) p.tree ++ (p ∷ got (drop (suc n) c.history) p.tree)) i) (let z : rank n p.tree ≡ rank n p.tree + 0 = omega arith in z)
      ∙ get_past (got (take n c.history) p.tree) (p ∷ got (drop (suc n) c.history) p.tree) 0))

  pub pass_is : (n : ℕ) (p : Packet) → slice_get c.history n ≡ Some (events.Got p) → p.pass.0 ≡ suc (length (got (take n c.history) p.tree))
  pass_is n p h = ((fits p.tree).good.at (rank n p.tree) p (ranked n p h)).pass

  abbrev pub between : ℕ → ℕ → List JEntry
  between t k = drop (made_from t k [] (journal_in c t)) (take (made_from t (suc k) [] (journal_in c t)) (journal_in c t))

  abbrev of_pass : ℕ → ClosedFrame → List Item
  of_pass k f = flat_map (journal_items f.tree) (entries_of_pass f k)

  of_one : (t k : ℕ) (o : Option ClosedFrame) → ((f : ClosedFrame) → o ≡ Some f → f.tree ≡ t)
      → flat_map (of_pass (suc k)) (one_or o) ≡ flat_map (journal_items t) (drop (made_from t k [] (journal_or o)) (take (made_from t (suc k) [] (journal_or o)) (journal_or o)))
  unfolding entries_of_pass made_by
  of_one t k None tree = refl
  of_one t k (Some f) tree =
      append-nil (flat_map (journal_items f.tree) (drop (made_from f.tree (suc k - 1) [] f.journal) (take (made_from f.tree (suc k) [] f.journal) f.journal)))
      ∙ (ap (λ i. flat_map (journal_items f.tree) (drop (made_from f.tree i [] f.journal) (take (made_from f.tree (suc k) [] f.journal) f.journal))) (let z : suc k - 1 ≡ k = omega arith in z)
      ∙ ap (λ u. flat_map (journal_items u) (drop (made_from u k [] f.journal) (take (made_from u (suc k) [] f.journal) f.journal))) (tree f refl))

  pub items_are : (n : ℕ) (p : Packet) → slice_get c.history n ≡ Some (events.Got p)
      → packet_items c p ≡ flat_map (journal_items p.tree) (between p.tree (rank n p.tree)) ++ Receive p.tree ∷ []
  unfolding packet_items
  items_are n p h =
      ap (λ l. l ++ Receive p.tree ∷ [])
      (ap (λ i. flat_map (of_pass i) (filter (has_tree p.tree) c.frames)) (pass_is n p h)
      ∙ (ap (flat_map (of_pass (suc (rank n p.tree)))) (filter_found p.tree c.frames closed.trees)
      ∙ of_one p.tree (rank n p.tree) (frame_in c p.tree) (λ f e. found_tree p.tree c.frames f e)))

  pub cut_whole : (t a b : ℕ) → a ≤ b → b ≤ length (journal_in c t) → list_any runs_short (drop a (take b (journal_in c t))) ≡ false
  cut_whole t a b h k =
      let all : journal_in c t ≡ take a (journal_in c t) ++ (drop a (take b (journal_in c t)) ++ drop b (journal_in c t)) =
      sym (take-append-drop a (journal_in c t)) ∙ ap (λ l. take a (journal_in c t) ++ l) (drop_split (journal_in c t) a b h k) in
      let w = ap (list_any runs_short) (sym all) ∙ whole t in
      (not_short (drop a (take b (journal_in c t))) (drop b (journal_in c t)) (not_short (take a (journal_in c t)) (drop a (take b (journal_in c t)) ++ drop b (journal_in c t)) w).1).0

  -- the entries of t from a to before b, placed where a of them stand
  record Stretched (b : List Item) (t m : ℕ) (xs : List Item) : Type 0 where
    placed : EachPlaced c looks b xs
    own : count (in_frame t) (b ++ xs) ≡ m
    other : (u : ℕ) → (t == u) ≡ false → count (in_frame u) (b ++ xs) ≡ count (in_frame u) b
    entries : count is_entry (b ++ xs) ≡ count is_entry b
    readers : (k : ℕ) → count (is_reader k) (b ++ xs) ≡ count (is_reader k) b

  stretched : (b : List Item) (t a m : ℕ) → count (in_frame t) b ≡ a → a ≤ m → m ≤ length (journal_in c t)
      → Stretched b t m (flat_map (journal_items t) (drop a (take m (journal_in c t))))
  stretched b t a m e h k =
      let xs = drop a (take m (journal_in c t)) in
      let w = cut_whole t a m h k in
      let items = flat_map (journal_items t) (drop a (take m (journal_in c t))) in
      record {
        placed = stretch_placed c looks t xs (drop m (journal_in c t)) b (ap (λ i. drop i (journal_in c t)) e ∙ drop_split (journal_in c t) a m h k) w;
        own = let s = count_both (in_frame t) b items in let o = stretch_own t xs w in let l = length_split (journal_in c t) a m h k in omega (arith, s, o, l, e);
        other = λ u q. let s = count_both (in_frame u) b items in let o = stretch_other (in_frame u) t q (λ i. q) xs in omega (arith, s, o);
        entries = let s = count_both is_entry b items in let o = stretch_other is_entry t refl (λ i. refl) xs in omega (arith, s, o);
        readers = λ j. let s = count_both (is_reader j) b items in let o = stretch_other (is_reader j) t refl (λ i. refl) xs in omega (arith, s, o);
      }

  packet_goes : (b : List Item) (n : ℕ) (p : Packet) → At b n (suc n) → slice_get c.history n ≡ Some (events.Got p) → Goes b (packet_items c p) (suc n) (suc n)
  packet_goes b n p at h =
      let t = p.tree in
      let k = length (got (take n c.history) p.tree) in
      let a = made_from p.tree (length (got (take n c.history) p.tree)) [] (journal_in c p.tree) in
      let m = made_from p.tree (suc (length (got (take n c.history) p.tree))) [] (journal_in c p.tree) in
      let xs = flat_map (journal_items p.tree) (between p.tree (rank n p.tree)) in
      let st : Stretched b p.tree m xs =
      stretched b p.tree a m (at.frames p.tree) (cut_rises p.tree (rank n p.tree) (suc (rank n p.tree)) [] (journal_in c p.tree) (omega arith)) (cut_within p.tree (suc (rank n p.tree)) [] (journal_in c p.tree)) in
      let here : count is_entry (b ++ xs) ≡ n = st.entries ∙ at.entries in
      let enough : suc (rank n p.tree) ≤ (frame_of p.tree (journal_in c p.tree)).passes = let g = got_made p.tree in let r = rank_next n p h in omega (arith, g, r) in
      let made : suc (rank n p.tree) ≤ length (packets_of p.tree (take m (journal_in c p.tree))) =
      let q = cut_made p.tree (suc (rank n p.tree)) [] (journal_in c p.tree) enough in let z = passes_are p.tree (take m (journal_in c p.tree)) in omega (arith, q, z) in
      let next : PacketNext c (b ++ xs) p.tree = record {
        packet = p;
        tree = refl;
        there = ap (λ i. slice_get c.history i) here ∙ h;
        made = subst (λ i. length (got (take i c.history) p.tree) < length (packets_of p.tree (take (count (in_frame p.tree) (b ++ xs)) (journal_in c p.tree)))) (sym here)
            (subst (λ i. rank n p.tree < length (packets_of p.tree (take i (journal_in c p.tree)))) (sym st.own) (omega (arith, made)));
      } in
      subst (λ l. Goes b l (suc n) (suc n)) (sym (items_are n p h)) (record {
        placed = each_both c looks b xs (Receive p.tree ∷ []) st.placed (next, tt);
        at = subst (λ l. At l (suc n) (suc n)) (append_assoc b xs (Receive p.tree ∷ [])) (received b n p at h xs st);
      })
    where
      own_rank : (n : ℕ) (p : Packet) → slice_get c.history n ≡ Some (events.Got p) → suc (length (got (take n c.history) p.tree)) ≡ length (got (take (suc n) c.history) p.tree)
      own_rank n p h =
          let e = ap length (got_next n (events.Got p) p.tree h ∙ ap (λ l. got (take n c.history) p.tree ++ l) (got_own p p.tree refl)) in
          let l = length-append (got (take n c.history) p.tree) (p ∷ []) in omega (arith, e, l)

      received : (b : List Item) (n : ℕ) (p : Packet) → At b n (suc n) → slice_get c.history n ≡ Some (events.Got p) → (xs : List Item)
          → Stretched b p.tree (made_from p.tree (suc (length (got (take n c.history) p.tree))) [] (journal_in c p.tree)) xs → At ((b ++ xs) ++ Receive p.tree ∷ []) (suc n) (suc n)
      received b n p at h xs st = record {
        entries = count_hit is_entry (b ++ xs) (Receive p.tree) refl ∙ ap suc (st.entries ∙ at.entries);
        frames = λ u. count_miss (in_frame u) (b ++ xs) (Receive p.tree) refl ∙ by_go (p.tree == u)
            (λ q. let e : p.tree ≡ u = eqb-true p.tree u q in subst (λ v. count (in_frame v) (b ++ xs) ≡ cut_at v (suc n)) e
            (st.own ∙ ap (λ i. made_from p.tree i [] (journal_in c p.tree)) (own_rank n p h)))
            (λ q. st.other u q ∙ (at.frames u ∙ ap (λ l. made_from u (length l) [] (journal_in c u))
            (sym (got_next n (events.Got p) u h ∙ (ap (λ l. got (take n c.history) u ++ l) (got_other p u q) ∙ append-nil (got (take n c.history) u))))));
        readers = λ i. count_miss (is_reader (suc i)) (b ++ xs) (Receive p.tree) refl ∙ (st.readers (suc i) ∙ at.readers i);
      }

  -- ---- the history

  entry_goes : (b : List Item) (n : ℕ) (e : HEntry) → At b n (suc n) → slice_get c.history n ≡ Some e → Goes b (history_items c e) (suc n) (suc n)
  unfolding got
  entry_goes b n (events.Got p) at h = packet_goes b n p at h
  entry_goes b n (events.Asked t) at h = browser_goes b n (browsers.Ask t) at h (λ u. refl)
  entry_goes b n (events.Ended t) at h = browser_goes b n (browsers.Destroy t) at h (λ u. refl)
  entry_goes b n (events.Probed t x) at h = browser_goes b n (browsers.Probe t x) at h (λ u. refl)

  abbrev piece : ℕ × HEntry → List Item
  piece e = history_items c e.1 ++ queries_at looks e.0

  history_goes : (es : List HEntry) (n m : ℕ) (b : List Item) → m ≡ suc n → drop n c.history ≡ es → At b n (suc n)
      → Goes b (flat_map piece (enumerate_from m es)) (n + length es) (suc (n + length es))
  history_goes [] n m b e h at = record { placed = tt; at = subst (λ l. At l (n + 0) (suc (n + 0))) (sym (append-nil b)) (subst (λ i. At b i (suc i)) (let z : n ≡ n + 0 = omega arith in z) at) }
  history_goes (x ∷ es) n m b e h at =
      let one : Goes b (history_items c x) (suc n) (suc n) = entry_goes b n x at (get_next c.history n x es h) in
      let both : Goes b (piece (m, x)) (suc n) (suc (suc n)) =
      goes_both b (history_items c x) (queries_at looks m) (suc n) (suc n) (suc n) (suc (suc n)) one
      (λ q. subst (λ i. Goes (b ++ history_items c x) (queries_at looks i) (suc n) (suc (suc n))) (sym e) (queries_go (b ++ history_items c x) (suc n) q)) in
      subst (λ i. Goes b (flat_map piece (enumerate_from m (x ∷ es))) i (suc i)) (let z : suc n + length es ≡ n + suc (length es) = omega arith in z)
      (goes_both b (piece (m, x)) (flat_map piece (enumerate_from (m + 1) es)) (suc n) (suc (suc n)) (suc n + length es) (suc (suc n + length es)) both
      (λ q. history_goes es (suc n) (m + 1) (b ++ piece (m, x)) (omega (arith, e)) (rest_next c.history n x es h) q))

  -- ---- the entries that are left, and the whole order

  -- where the order ends: all entries of the journals and the history stand, and all queries
  pub record Ended (b : List Item) : Type 0 where
    pub entries : count is_entry b ≡ length c.history
    pub frames : (t : ℕ) → count (in_frame t) b ≡ length (journal_in c t)
    pub readers : (k : ℕ) → count (is_reader (suc k)) b ≡ length (list_at looks k)

  abbrev cut_all : ℕ → ℕ
  cut_all t = made_from t (length (got c.history t)) [] (journal_in c t)

  abbrev trees_of : List ClosedFrame → List ℕ
  trees_of fs = map (λ (f : ClosedFrame). f.tree) fs

  -- the frames `fs` are to come: of the others all stand
  record Coming (fs : List ClosedFrame) (b : List Item) : Type 0 where
    trees : NoneTwice (trees_of fs)
    found : (t : ℕ) (f : ClosedFrame) → find (has_tree t) fs ≡ Some f → frame_in c t ≡ Some f
    frames : (t : ℕ) → count (in_frame t) b ≡ (if contains (trees_of fs) t then cut_all t else length (journal_in c t))
    entries : count is_entry b ≡ length c.history
    readers : (k : ℕ) → count (is_reader (suc k)) b ≡ length (list_at looks k)

  abbrev rest_of : ClosedFrame → List Item
  rest_of f = flat_map (journal_items f.tree) (entries_left c f)

  rest_is : (f : ClosedFrame) → frame_in c f.tree ≡ Some f → rest_of f ≡ flat_map (journal_items f.tree) (drop (cut_all f.tree) (take (length (journal_in c f.tree)) (journal_in c f.tree)))
  unfolding entries_left made_by
  rest_is f e =
      let j : journal_in c f.tree ≡ f.journal = ap journal_or e in
      ap (λ l. flat_map (journal_items f.tree) (drop (made_from f.tree (length (got c.history f.tree)) [] l) l)) (sym j)
      ∙ ap (λ l. flat_map (journal_items f.tree) (drop (cut_all f.tree) l)) (sym (take_all (length (journal_in c f.tree)) (journal_in c f.tree) (omega arith)))

  is_contained : (t : ℕ) (fs : List ClosedFrame) (f : ClosedFrame) → find (has_tree t) fs ≡ Some f → contains (trees_of fs) t ≡ true
  is_contained t [] f h = absurd (cc)
  is_contained t (g ∷ fs) f h = by_go (g.tree == t) (λ q. rw q refl) (λ q. rw q (is_contained t fs f (rw q at h)))

  one_less : (f : ClosedFrame) (fs : List ClosedFrame) (b xs : List Item) → Coming (f ∷ fs) b → Stretched b f.tree (length (journal_in c f.tree)) xs → Coming fs (b ++ xs)
  one_less f fs b xs k st = record {
    trees = k.trees.1;
    found = λ t g e. by_go (f.tree == t)
        (λ q. absurd (let same : f.tree ≡ t = eqb-true f.tree t q in
        let no : contains (trees_of fs) t ≡ false = ap (contains (trees_of fs)) (sym same) ∙ k.trees.0 in
        let yes' = is_contained t fs g e in let bad : false ≡ true = sym no ∙ yes' in cc))
        (λ q. k.found t g (rw q e));
    frames = λ t. by_go (f.tree == t)
        (λ q. let same : f.tree ≡ t = eqb-true f.tree t q in
        let no : contains (trees_of fs) t ≡ false = ap (contains (trees_of fs)) (sym same) ∙ k.trees.0 in
        rw no (subst (λ u. count (in_frame u) (b ++ xs) ≡ length (journal_in c u)) same st.own))
        (λ q. st.other t q ∙ (k.frames t ∙ (rw q refl)));
    entries = st.entries ∙ k.entries;
    readers = λ i. st.readers (suc i) ∙ k.readers i;
  }

  pub record Done (b xs : List Item) : Type 0 where
    pub placed : EachPlaced c looks b xs
    pub ended : Ended (b ++ xs)

  rest_goes : (fs : List ClosedFrame) (b : List Item) → Coming fs b → Done b (flat_map rest_of fs)
  rest_goes [] b k = record {
    placed = tt;
    ended = subst Ended (sym (append-nil b)) (record { entries = k.entries; frames = k.frames; readers = k.readers });
  }
  rest_goes (f ∷ fs) b k =
      let here : frame_in c f.tree ≡ Some f = k.found f.tree f (let q = same_number f.tree in rw q refl) in
      let at : count (in_frame f.tree) b ≡ cut_all f.tree = k.frames f.tree ∙ (let q = same_number f.tree in rw q refl) in
      let st : Stretched b f.tree (length (journal_in c f.tree)) (rest_of f) =
      subst (Stretched b f.tree (length (journal_in c f.tree))) (sym (rest_is f here))
      (stretched b f.tree (cut_all f.tree) (length (journal_in c f.tree)) at (cut_within f.tree (length (got c.history f.tree)) [] (journal_in c f.tree)) (omega arith)) in
      let later = rest_goes fs (b ++ rest_of f) (one_less f fs b (rest_of f) k st) in
      record {
        placed = each_both c looks b (rest_of f) (flat_map rest_of fs) st.placed later.placed;
        ended = subst Ended (append_assoc b (rest_of f) (flat_map rest_of fs)) later.ended;
      }

  first_at : At [] 0 0
  unfolding got
  first_at = record {
    entries = refl;
    frames = λ t. sym (cut_none t (journal_in c t));
    readers = λ k. sym (none_below 0 0 (length c.history) (list_at looks k) (omega arith) (closed.rises k));
  }

  pub not_contained : (t : ℕ) (fs : List ClosedFrame) → contains (trees_of fs) t ≡ false → find (has_tree t) fs ≡ None
  not_contained t [] h = refl
  not_contained t (g ∷ fs) h =
      by_go (g.tree == t)
      (λ q. absurd (let bad : true ≡ false = rw q at h in cc))
      (λ q. rw q (not_contained t fs (rw q at h)))

  all_coming : (b : List Item) → At b (length c.history) (suc (length c.history)) → Coming c.frames b
  all_coming b at = record {
    trees = closed.trees;
    found = λ t f e. e;
    frames = λ t. at.frames t ∙ (ap (λ l. made_from t (length (got l t)) [] (journal_in c t)) (take_all (length c.history) c.history (omega arith)) ∙ by_go (contains (trees_of c.frames) t)
        (λ q. rw q refl)
        (λ q. rw q (let none : journal_in c t ≡ [] = ap journal_or (not_contained t c.frames q) in ap (made_from t (length (got c.history t)) []) none ∙ sym (ap length none))));
    entries = at.entries;
    readers = λ k. at.readers k ∙ all_below 0 (length c.history) (list_at looks k) (closed.rises k);
  }

  pub order_done : Done [] (order_taken c looks)
  unfolding order_taken
  order_done =
      let first : Goes [] (queries_at looks 0) 0 1 = queries_go [] 0 first_at in
      let most : Goes [] (queries_at looks 0 ++ flat_map piece (enumerate_from 1 c.history)) (length c.history) (suc (length c.history)) =
      goes_both [] (queries_at looks 0) (flat_map piece (enumerate_from 1 c.history)) 0 1 (length c.history) (suc (length c.history)) first
      (λ q. subst (λ i. Goes (queries_at looks 0) (flat_map piece (enumerate_from 1 c.history)) i (suc i)) (let z : 0 + length c.history ≡ length c.history = omega arith in z)
      (history_goes c.history 0 1 (queries_at looks 0) refl refl q)) in
      let last = rest_goes c.frames (queries_at looks 0 ++ flat_map piece (enumerate_from 1 c.history)) (all_coming (queries_at looks 0 ++ flat_map piece (enumerate_from 1 c.history)) most.at) in
      record {
        placed = each_both c looks [] (queries_at looks 0 ++ flat_map piece (enumerate_from 1 c.history)) (flat_map rest_of c.frames) most.placed last.placed;
        ended = last.ended;
      }
