-- Where the workers kept their clauses, the order taken is fair.
use Rattle.std.proofs.Common.{ℕ, zero, suc, ◌+◌, ◌≡◌, ◌≤◌, ◌==◌, not, Bool, true, false, leb, List, [], ◌∷◌, ◌++◌, length, map, take, find, filter_map, flat_map, slice_get, refl, sym, ap, ◌∙◌, subst, Option, Some, None, option_map, option_and_then, option_to_list, arith, append_assoc, append-nil, length-append}
use Rattle.std.specs.Prelude.{bytes_eq}
use Rattle.std.specs.List.{list_any, list_all, enumerate_from, cons_option}
use Rattle.std.proofs.lemmas.Bool.{eqb-true, le-leb}
use Rattle.std.proofs.lemmas.List.{take_all}
use Rattle.std.proofs.lemmas.List.Concat.{flat_map-append}
use Rattle.std.proofs.lemmas.List.Elements.{filter_map-append}
use Rattle.ax_trees.specs.Lists.{contains}
use Rattle.ax_trees.proofs.Trees.{by_go}
use Rattle.ax_tree.specs.declared.packet.Packet.{Packet}
use Rattle.ax_tree.specs.declared.packet.JEntry.{JEntry}
use Rattle.ax_tree.specs.declared.packet.JEntry.TheVariants as entries
use Rattle.ax_tree.specs.declared.packet.HEntry.{HEntry}
use Rattle.ax_tree.specs.declared.packet.HEntry.TheVariants as events
use Rattle.ax_ask.specs.declared.op.FrameOp.{FrameOp}
use Rattle.ax_ask.specs.declared.op.FrameOp.TheVariants as ops
use Rattle.ax_ask.specs.declared.op.BrowserOp.{BrowserOp}
use Rattle.ax_ask.specs.declared.op.BrowserOp.TheVariants as browsers
use Rattle.ax_ask.specs.declared.op.TimedOp.{TimedOp}
use Rattle.ax_ask.specs.declared.op.Item.{Item}
use Rattle.ax_ask.specs.declared.op.Item.TheVariants.{Frame, Receive, Browser, Deliver, Reader}
use Rattle.ax_ask.specs.declared.query.TimedQuery.{TimedQuery}
use Rattle.ax_run_rules.specs.Scripts.{Script, FrameScript}
use Rattle.ax_run_rules.specs.States.{Run}
use Rattle.ax_run_rules.specs.FrameSteps.{entry_of}
use Rattle.ax_run_rules.specs.Fair.{is_receipt, is_browser, is_reader, delivered_to, is_due, is_query_due, may_follow, each_follows, ready_count, all_ready_asked, token_given, all_delivered, IsFair}
use Rattle.ax_run_rules.specs.Taken.{ClosedFrame, Closed, order_taken}
use Rattle.ax_run_laws.proofs.Found.{same_number}
use Rattle.ax_order_laws.specs.Parts.{browser_op_in, list_at, list_or, trees_in, frame_in, journal_in, journal_or, IsClosedHub, IsTakenFrom}
use Rattle.ax_order_laws.specs.Told.{is_entry, entry_lines}
use Rattle.ax_order_laws.specs.Workers.{is_got, receipts_in, is_due_after, comes_in_time, each_comes_in_time, delivered, Worked}
use Rattle.ax_order_laws.proofs.Lists.{take_next, get_some, get_within, count, count_hit, count_miss}
use Rattle.ax_order_laws.proofs.Places.{in_frame, event_of, Placed, EachPlaced}
use Rattle.ax_order_laws.proofs.Standing.{order_done}
use Rattle.ax_order_laws.proofs.Ending.{script_contains, last_run, there, walk, ended}

-- ---- lists

bytes_same : (xs : List ℕ) → bytes_eq xs xs ≡ true
bytes_same [] = refl
bytes_same (x ∷ xs) = let i = bytes_same xs in rw (same_number x) i

all_numbered : {X : Type 0} (P : ℕ × X → Bool) (d : ℕ) (xs : List X) → ((k m : ℕ) (x : X) → m ≡ d + k → slice_get xs k ≡ Some x → P (m, x) ≡ true) → list_all P (enumerate_from d xs) ≡ true
all_numbered P d [] h = refl
all_numbered P d (x ∷ xs) h =
    let i = all_numbered P (d + 1) xs (λ k m y e q. h (suc k) m y (omega (arith, e)) q) in
    let first = h 0 d x (omega arith) refl in rw first i

all_there : {X : Type 0} (P : X → Bool) (xs : List X) → ((n : ℕ) (x : X) → slice_get xs n ≡ Some x → P x ≡ true) → list_all P xs ≡ true
all_there P [] h = refl
all_there P (x ∷ xs) h = let i = all_there P xs (λ n y e. h (suc n) y e) in let first = h 0 x refl in rw first i

-- the first entry, or one of the others
first_or_other : (os : List TimedOp) (before h : List HEntry) (x e : HEntry) (m : ℕ) → comes_in_time os before x ≡ true
    → ((n : ℕ) → slice_get h n ≡ Some e → comes_in_time os ((before ++ x ∷ []) ++ take n h) e ≡ true) → slice_get (x ∷ h) m ≡ Some e → comes_in_time os (before ++ take m (x ∷ h)) e ≡ true
first_or_other os before h x e zero a ih q = let same : x ≡ e = cc in ap (λ b. comes_in_time os b e) (append-nil before) ∙ (ap (comes_in_time os before) (sym same) ∙ a)
first_or_other os before h x e (suc n) a ih q = ap (λ b. comes_in_time os b e) (sym (append_assoc before (x ∷ []) (take n h))) ∙ ih n q

time_at : (os : List TimedOp) (before h : List HEntry) (m : ℕ) (e : HEntry) → each_comes_in_time os before h ≡ true → slice_get h m ≡ Some e → comes_in_time os (before ++ take m h) e ≡ true
time_at os before [] m e t q = absurd (cc)
time_at os before (x ∷ h) m e t q =
    by_go (comes_in_time os before x)
    (λ a. let rest : each_comes_in_time os (before ++ x ∷ []) h ≡ true = rw a at t in first_or_other os before h x e m a (λ n y. time_at os (before ++ x ∷ []) h n e rest y) q)
    (λ a. absurd (let bad : false ≡ true = rw a at t in cc))

few_ready : (qs : List TimedQuery) (n : ℕ) → ((q : TimedQuery) → slice_get qs n ≡ Some q → 1 ≤ q.after) → ready_count qs ≤ n
few_ready [] n h = omega arith
few_ready (q ∷ qs) zero h =
    let l = h q refl in
    let some : (q.after == 0) ≡ false = grind (arith, l) in rw some (omega arith)
few_ready (q ∷ qs) (suc n) h =
    let i = few_ready qs n h in
    by_go (not (q.after == 0)) (λ e. rw e (omega arith)) (λ e. rw e (omega (arith, i)))

-- ---- what a front counts of receipts, operations and deliveries

module _ (c : Closed) (looks : List (List ℕ)) where
  abbrev pub front_of : List Item → List HEntry
  front_of b = take (count is_entry b) c.history

  pub record Counted (b : List Item) : Type 0 where
    pub receipts : count is_receipt b ≡ receipts_in (front_of b)
    pub ops : count is_browser b ≡ length (flat_map browser_op_in (front_of b))
    pub deliveries : (t : ℕ) → filter_map (delivered_to t) b ≡ filter_map delivered (take (count (in_frame t) b) (journal_in c t))

  pub counted_first : Counted []
  counted_first = record { receipts = refl; ops = refl; deliveries = λ t. refl }

  none_delivered : (t : ℕ) (b : List Item) (i : Item) → delivered_to t i ≡ None → filter_map (delivered_to t) (b ++ i ∷ []) ≡ filter_map (delivered_to t) b
  none_delivered t b i n = filter_map-append (delivered_to t) b (i ∷ []) ∙ (ap (λ o. filter_map (delivered_to t) b ++ cons_option o []) n ∙ append-nil (filter_map (delivered_to t) b))

  same_deliveries : (t : ℕ) (b : List Item) (i : Item) → in_frame t i ≡ false → delivered_to t i ≡ None → filter_map (delivered_to t) b ≡ filter_map delivered (take (count (in_frame t) b) (journal_in c t))
      → filter_map (delivered_to t) (b ++ i ∷ []) ≡ filter_map delivered (take (count (in_frame t) (b ++ i ∷ [])) (journal_in c t))
  same_deliveries t b i m n old = none_delivered t b i n ∙ (old ∙ ap (λ k. filter_map delivered (take k (journal_in c t))) (sym (count_miss (in_frame t) b i m)))

  next_delivery : (t : ℕ) (b : List Item) (i : Item) (e : JEntry) → in_frame t i ≡ true → slice_get (journal_in c t) (count (in_frame t) b) ≡ Some e → delivered_to t i ≡ delivered e
      → filter_map (delivered_to t) b ≡ filter_map delivered (take (count (in_frame t) b) (journal_in c t))
      → filter_map (delivered_to t) (b ++ i ∷ []) ≡ filter_map delivered (take (count (in_frame t) (b ++ i ∷ [])) (journal_in c t))
  next_delivery t b i e m h n old =
      filter_map-append (delivered_to t) b (i ∷ [])
      ∙ (ap (λ o. filter_map (delivered_to t) b ++ cons_option o []) n
      ∙ (ap (λ l. l ++ filter_map delivered (e ∷ [])) old
      ∙ (sym (filter_map-append delivered (take (count (in_frame t) b) (journal_in c t)) (e ∷ []))
      ∙ (ap (filter_map delivered) (sym (take_next (journal_in c t) (count (in_frame t) b) e h))
      ∙ ap (λ k. filter_map delivered (take k (journal_in c t))) (sym (count_hit (in_frame t) b i m))))))

  front_same : (b : List Item) (i : Item) → is_entry i ≡ false → front_of b ≡ front_of (b ++ i ∷ [])
  front_same b i m = ap (λ n. take n c.history) (sym (count_miss is_entry b i m))

  front_next : (b : List Item) (i : Item) (e : HEntry) → is_entry i ≡ true → slice_get c.history (count is_entry b) ≡ Some e → front_of (b ++ i ∷ []) ≡ front_of b ++ e ∷ []
  front_next b i e m h = ap (λ n. take n c.history) (count_hit is_entry b i m) ∙ take_next c.history (count is_entry b) e h

  ops_push : (h : List HEntry) (e : HEntry) → length (flat_map browser_op_in (h ++ e ∷ [])) ≡ length (flat_map browser_op_in h) + length (browser_op_in e)
  ops_push h e = ap length (flat_map-append browser_op_in h (e ∷ []) ∙ ap (λ l. flat_map browser_op_in h ++ l) (append-nil (browser_op_in e))) ∙ length-append (flat_map browser_op_in h) (browser_op_in e)

  op_delivers : (op : FrameOp) → delivered (entry_of op) ≡ None
  op_delivers (ops.Edit e) = refl
  op_delivers (ops.Touch z) = refl
  op_delivers (ops.TouchBelow z) = refl
  op_delivers ops.Pass = refl

  event_ops : (op : BrowserOp) → length (browser_op_in (event_of op)) ≡ 1
  event_ops (browsers.Ask t) = refl
  event_ops (browsers.Destroy t) = refl
  event_ops (browsers.Probe t u) = refl

  event_got : (op : BrowserOp) → is_got (event_of op) ≡ false
  event_got (browsers.Ask t) = refl
  event_got (browsers.Destroy t) = refl
  event_got (browsers.Probe t u) = refl

  -- an item that adds no entry
  beside : (b : List Item) (i : Item) → is_entry i ≡ false → is_receipt i ≡ false → is_browser i ≡ false → Counted b
      → ((t : ℕ) → filter_map (delivered_to t) (b ++ i ∷ []) ≡ filter_map delivered (take (count (in_frame t) (b ++ i ∷ [])) (journal_in c t))) → Counted (b ++ i ∷ [])
  beside b i m r o k d = record {
    receipts = count_miss is_receipt b i r ∙ (k.receipts ∙ ap receipts_in (front_same b i m));
    ops = count_miss is_browser b i o ∙ (k.ops ∙ ap (λ l. length (flat_map browser_op_in l)) (front_same b i m));
    deliveries = d;
  }

  counted_next : (b : List Item) (i : Item) → Placed c looks b i → Counted b → Counted (b ++ i ∷ [])
  counted_next b (Frame u) x k = beside b (Frame u) refl refl refl k (λ t. by_go (u == t)
      (λ q. next_delivery t b (Frame u) (entry_of x.op) q (subst (λ v. slice_get (journal_in c v) (count (in_frame v) b) ≡ Some (entry_of x.op)) (eqb-true u t q) x.there) (sym (op_delivers x.op)) (k.deliveries t))
      (λ q. same_deliveries t b (Frame u) q refl (k.deliveries t)))
  counted_next b (Deliver u n) x k = beside b (Deliver u n) refl refl refl k (λ t. by_go (u == t)
      (λ q. next_delivery t b (Deliver u n) (entries.Delivered n) q (subst (λ v. slice_get (journal_in c v) (count (in_frame v) b) ≡ Some (entries.Delivered n)) (eqb-true u t q) x) (rw q refl) (k.deliveries t))
      (λ q. same_deliveries t b (Deliver u n) q (rw q refl) (k.deliveries t)))
  counted_next b (Reader j) x k = beside b (Reader j) refl refl refl k (λ t. same_deliveries t b (Reader j) refl refl (k.deliveries t))
  counted_next b (Receive u) x k = record {
    receipts = count_hit is_receipt b (Receive u) refl ∙ (ap suc k.receipts
        ∙ sym (ap receipts_in (front_next b (Receive u) (events.Got x.packet) refl x.there) ∙ count_hit is_got (front_of b) (events.Got x.packet) refl));
    ops = count_miss is_browser b (Receive u) refl ∙ (k.ops ∙ sym (ap (λ l. length (flat_map browser_op_in l)) (front_next b (Receive u) (events.Got x.packet) refl x.there)
        ∙ (let p = ops_push (front_of b) (events.Got x.packet) in let z : length (flat_map browser_op_in (front_of b ++ events.Got x.packet ∷ [])) ≡ length (flat_map browser_op_in (front_of b)) = omega (arith, p) in z)));
    deliveries = λ t. same_deliveries t b (Receive u) refl refl (k.deliveries t);
  }
  counted_next b Browser x k = record {
    receipts = count_miss is_receipt b Browser refl ∙ (k.receipts
        ∙ sym (ap receipts_in (front_next b Browser (event_of x.op) refl x.there) ∙ count_miss is_got (front_of b) (event_of x.op) (event_got x.op)));
    ops = count_hit is_browser b Browser refl ∙ (ap suc k.ops ∙ sym (ap (λ l. length (flat_map browser_op_in l)) (front_next b Browser (event_of x.op) refl x.there)
        ∙ (let p = ops_push (front_of b) (event_of x.op) in let e = event_ops x.op in
        let z : length (flat_map browser_op_in (front_of b ++ event_of x.op ∷ [])) ≡ suc (length (flat_map browser_op_in (front_of b))) = omega (arith, p, e) in z)));
    deliveries = λ t. same_deliveries t b Browser refl refl (k.deliveries t);
  }

  pub counted_all : (o b : List Item) → EachPlaced c looks b o → Counted b → Counted (b ++ o)
  counted_all [] b p k = subst Counted (sym (append-nil b)) k
  counted_all (i ∷ o) b p k = subst Counted (append_assoc b (i ∷ []) o) (counted_all o (b ++ i ∷ []) p.1 (counted_next b i p.0 k))

-- ---- fairness

-- the next browser operation is due where it is after the history
due_there : (s : Script) (c : Closed) (looks : List (List ℕ)) (b : List Item) → Counted c looks b → is_due s b ≡ is_due_after s.browser (front_of c looks b)
unfolding is_due is_due_after
due_there s c looks b k =
    ap (λ n. list_any (λ (o : TimedOp). leb o.after n) (option_to_list (slice_get s.browser (count is_browser b)))) k.receipts
    ∙ ap (λ n. list_any (λ (o : TimedOp). leb o.after (receipts_in (front_of c looks b))) (option_to_list (slice_get s.browser n))) k.ops

list_there : {X : Type 0} (xss : List (List X)) (k j : ℕ) (x : X) (o : Option (List X)) → slice_get xss k ≡ o → slice_get (list_or o) j ≡ Some x → option_and_then (λ xs. slice_get xs j) (slice_get xss k) ≡ Some x
list_there xss k j x None e h = absurd (cc)
list_there xss k j x (Some xs) e h = ap (option_and_then (λ ys. slice_get ys j)) e ∙ h

module _ (s : Script) (c : Closed) (waiting : List Packet) (looks : List (List ℕ)) (closed : IsClosedHub c waiting looks) (holds : IsTakenFrom s c looks) (worked : Worked s c looks) where
  op_due : (b : List Item) (op : BrowserOp) → comes_in_time s.browser (front_of c looks b) (event_of op) ≡ is_due_after s.browser (front_of c looks b)
  op_due b (browsers.Ask t) = refl
  op_due b (browsers.Destroy t) = refl
  op_due b (browsers.Probe t u) = refl

  in_time : (b : List Item) (e : HEntry) → slice_get c.history (count is_entry b) ≡ Some e → comes_in_time s.browser (front_of c looks b) e ≡ true
  in_time b e h = time_at s.browser [] c.history (count is_entry b) e worked.in_time h

  query_there : (k j n : ℕ) → slice_get (list_at looks k) j ≡ Some n → (q : TimedQuery) × (slice_get (list_at s.readers k) j ≡ Some q)
  query_there k j n h = get_some (list_at s.readers k) j (let a = get_within (list_at looks k) j n h in let b = holds.queries k in omega (arith, a, b))

  query_due : (b : List Item) (k : ℕ) → Counted c looks b → slice_get (list_at looks k) (count (is_reader (suc k)) b) ≡ Some (count is_entry b) → is_query_due s (suc k) b ≡ true
  unfolding is_query_due
  query_due b k n h =
      let x = query_there k (count (is_reader (suc k)) b) (count is_entry b) h in
      let l : x.0.after ≤ count is_receipt b = let a = worked.asked k (count (is_reader (suc k)) b) (count is_entry b) x.0 h x.1 in let r = n.receipts in omega (arith, a, r) in
      let e : leb x.0.after (count is_receipt b) ≡ true = le-leb x.0.after (count is_receipt b) l in
      ap (λ o. list_any (λ (q : TimedQuery). leb q.after (count is_receipt b)) (option_to_list o)) (list_there s.readers k (count (is_reader (suc k)) b) x.0 (slice_get s.readers k) refl x.1)
      ∙ (rw e refl)

  may_stand : (b : List Item) (i : Item) → Placed c looks b i → Counted c looks b → may_follow s b i ≡ true
  unfolding may_follow
  may_stand b (Frame t) x k = refl
  may_stand b (Receive t) x k = ap not (due_there s c looks b k) ∙ in_time b (events.Got x.packet) x.there
  may_stand b Browser x k = due_there s c looks b k ∙ (sym (op_due b x.op) ∙ in_time b (event_of x.op) x.there)
  may_stand b (Deliver t n) x k = refl
  may_stand b (Reader zero) x k = absurd x
  may_stand b (Reader (suc j)) x k = query_due b j k x

  each_stands : (o b : List Item) → EachPlaced c looks b o → Counted c looks b → each_follows s b o ≡ true
  each_stands [] b p k = refl
  each_stands (i ∷ o) b p k =
      let one = may_stand b i p.0 k in
      let rest = each_stands o (b ++ i ∷ []) p.1 (counted_next c looks b i p.0 k) in rw one rest

  all_counted : Counted c looks (order_taken c looks)
  all_counted = counted_all c looks (order_taken c looks) [] (order_done c waiting looks closed).placed (counted_first c looks)

  at_end : front_of c looks (order_taken c looks) ≡ c.history
  at_end = ap (λ n. take n c.history) (ended s c waiting looks closed holds).entries ∙ take_all (length c.history) c.history (omega arith)

  reader_list : (k : ℕ) (qs : List TimedQuery) → slice_get s.readers k ≡ Some qs → list_at s.readers k ≡ qs
  reader_list k qs h = ap list_or h

  ready : all_ready_asked s (order_taken c looks) ≡ true
  unfolding all_ready_asked
  ready = all_numbered (λ (r : ℕ × List TimedQuery). leb (ready_count r.1) (count (is_reader r.0) (order_taken c looks))) 1 s.readers
      (λ k m qs e h. let few : ready_count qs ≤ length (list_at looks k) = few_ready qs (length (list_at looks k)) (λ q a. worked.left k q (ap (λ l. slice_get l (length (list_at looks k))) (reader_list k qs h) ∙ a)) in
      let n : count (is_reader m) (order_taken c looks) ≡ length (list_at looks k) = ap (λ i. count (is_reader i) (order_taken c looks)) (let z : m ≡ suc k = omega (arith, e) in z) ∙ (ended s c waiting looks closed holds).readers k in
      le-leb (ready_count qs) (count (is_reader m) (order_taken c looks)) (omega (arith, few, n)))

  delivers_by : (t : ℕ) (o : Option ClosedFrame) → frame_in c t ≡ o → contains (trees_in c) t ≡ true → filter_map delivered (journal_or o) ≡ filter_map (token_given t) (entry_lines [] c.history)
  delivers_by t None e h = absurd (let bad : false ≡ true = sym (missing t c.frames e) ∙ h in cc)
    where
      missing : (u : ℕ) (fs : List ClosedFrame) → find (λ (f : ClosedFrame). f.tree == u) fs ≡ None → contains (map (λ (f : ClosedFrame). f.tree) fs) u ≡ false
      missing u [] q = refl
      missing u (f ∷ fs) q = by_go (f.tree == u) (λ y. absurd (let bad : Some f ≡ None = rw y at q in cc)) (λ y. rw y (missing u fs (rw y at q)))
  delivers_by t (Some f) e h = worked.delivers t f e

  tree_delivered : (n : ℕ) (f : FrameScript) → slice_get s.frames n ≡ Some f
      → bytes_eq (filter_map (delivered_to f.tree) (order_taken c looks)) (filter_map (token_given f.tree) (last_run s c waiting looks closed holds).lines) ≡ true
  tree_delivered n f h =
      let t = f.tree in
      let known : contains (trees_in c) f.tree ≡ true = ap (λ ts. contains ts f.tree) (sym holds.trees) ∙ script_contains s.frames n f h in
      let all : filter_map (delivered_to f.tree) (order_taken c looks) ≡ filter_map delivered (journal_in c f.tree) =
      all_counted.deliveries f.tree ∙ (ap (λ i. filter_map delivered (take i (journal_in c f.tree))) ((ended s c waiting looks closed holds).frames f.tree)
      ∙ ap (filter_map delivered) (take_all (length (journal_in c f.tree)) (journal_in c f.tree) (omega arith))) in
      let given : filter_map (token_given f.tree) (last_run s c waiting looks closed holds).lines ≡ filter_map (token_given f.tree) (entry_lines [] c.history) =
      (walk s c waiting looks closed holds).given (λ u. refl) f.tree ∙ ap (λ l. filter_map (token_given f.tree) (entry_lines [] l)) at_end in
      let same : filter_map (delivered_to f.tree) (order_taken c looks) ≡ filter_map (token_given f.tree) (last_run s c waiting looks closed holds).lines =
      all ∙ (delivers_by f.tree (frame_in c f.tree) refl known ∙ sym given) in
      ap (λ l. bytes_eq l (filter_map (token_given f.tree) (last_run s c waiting looks closed holds).lines)) same ∙ bytes_same (filter_map (token_given f.tree) (last_run s c waiting looks closed holds).lines)

  pub is_fair : IsFair s (order_taken c looks)
  unfolding all_delivered
  is_fair = record {
    in_time = each_stands (order_taken c looks) [] (order_done c waiting looks closed).placed (counted_first c looks);
    none_due = due_there s c looks (order_taken c looks) all_counted ∙ (ap (is_due_after s.browser) at_end ∙ worked.none_due);
    ready_asked = ready;
    tokens_delivered = ap (option_map (λ (r : Run). all_delivered s (order_taken c looks) r.lines)) (there s c waiting looks closed holds)
        ∙ ap Some (all_there (λ (f : FrameScript). bytes_eq (filter_map (delivered_to f.tree) (order_taken c looks)) (filter_map (token_given f.tree) (last_run s c waiting looks closed holds).lines)) s.frames tree_delivered);
  }
