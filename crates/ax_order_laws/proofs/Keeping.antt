-- What placed items keep: a frame's items are the operations and deliveries of its journal, and no packet is received before it is made.
use Rattle.std.proofs.Common.{ℕ, suc, ◌+◌, ◌≡◌, ◌≤◌, ◌<◌, ◌==◌, true, false, List, [], ◌∷◌, ◌++◌, length, take, flat_map, slice_get, refl, sym, ap, ◌∙◌, subst, Some, arith, append-nil, length-append}
use Rattle.std.proofs.lemmas.Bool.{eqb-true}
use Rattle.ax_base.specs.declared.pass.Token.{Token}
use Rattle.ax_trees.proofs.Trees.{by_go}
use Rattle.ax_tree.specs.declared.packet.Packet.{Packet}
use Rattle.ax_tree.specs.declared.packet.JEntry.{JEntry}
use Rattle.ax_tree.specs.declared.packet.JEntry.TheVariants as entries
use Rattle.ax_tree.specs.declared.packet.HEntry.{HEntry}
use Rattle.ax_tree.specs.declared.packet.HEntry.TheVariants as events
use Rattle.ax_tree.specs.Journals.{new_frame, frame_of, made_at, packets_of}
use Rattle.ax_ask.specs.declared.op.FrameOp.{FrameOp}
use Rattle.ax_ask.specs.declared.op.FrameOp.TheVariants as ops
use Rattle.ax_ask.specs.declared.op.BrowserOp.{BrowserOp}
use Rattle.ax_ask.specs.declared.op.BrowserOp.TheVariants as browsers
use Rattle.ax_ask.specs.declared.op.Item.{Item}
use Rattle.ax_ask.specs.declared.op.Item.TheVariants.{Frame, Receive, Browser, Deliver, Reader}
use Rattle.ax_laws.proofs.GoodPackets.{packets_push}
use Rattle.ax_rules.specs.Histories.{got}
use Rattle.ax_run_rules.specs.FrameSteps.{entry_of}
use Rattle.ax_run_rules.specs.Taken.{Closed}
use Rattle.ax_rules.proofs.Appends.{got-append}
use Rattle.ax_run_laws.proofs.Held.{got_own, got_other}
use Rattle.ax_order_laws.specs.Parts.{op_in, journal_in}
use Rattle.ax_order_laws.specs.Told.{is_frame, is_entry}
use Rattle.ax_order_laws.proofs.Lists.{take_next, count, count_hit, count_miss, flat_next}
use Rattle.ax_order_laws.proofs.Places.{in_frame, event_of, OpNext, PacketNext, EntryNext, Placed}

pub op_of_entry : (op : FrameOp) → op_in (entry_of op) ≡ op ∷ []
op_of_entry (ops.Edit e) = refl
op_of_entry (ops.Touch z) = refl
op_of_entry (ops.TouchBelow z) = refl
op_of_entry ops.Pass = refl

pub no_packet : (op : BrowserOp) (t : ℕ) → got (event_of op ∷ []) t ≡ []
unfolding got
no_packet (browsers.Ask u) t = refl
no_packet (browsers.Destroy u) t = refl
no_packet (browsers.Probe u x) t = refl

-- the packets of one entry more
pub packets_next : (t : ℕ) (j : List JEntry) (n : ℕ) (e : JEntry) → slice_get j n ≡ Some e → packets_of t (take (suc n) j) ≡ packets_of t (take n j) ++ made_at t e (frame_of t (take n j))
packets_next t j n e h = ap (packets_of t) (take_next j n e h) ∙ packets_push t (take n j) e (new_frame t)

pub packets_more : (t : ℕ) (j : List JEntry) (n : ℕ) (e : JEntry) → slice_get j n ≡ Some e → length (packets_of t (take n j)) ≤ length (packets_of t (take (suc n) j))
packets_more t j n e h =
    let a = ap length (packets_next t j n e h) in let b = length-append (packets_of t (take n j)) (made_at t e (frame_of t (take n j))) in omega (arith, a, b)

module _ (c : Closed) (looks : List (List ℕ)) where
  pub got_with : (n : ℕ) (e : HEntry) (t : ℕ) → slice_get c.history n ≡ Some e → got (take (suc n) c.history) t ≡ got (take n c.history) t ++ got (e ∷ []) t
  got_with n e t h = ap (λ l. got l t) (take_next c.history n e h) ∙ got-append (take n c.history) (e ∷ []) t

  pub got_none : (n : ℕ) (e : HEntry) (t : ℕ) → slice_get c.history n ≡ Some e → got (e ∷ []) t ≡ [] → got (take (suc n) c.history) t ≡ got (take n c.history) t
  got_none n e t h none = got_with n e t h ∙ (ap (λ l. got (take n c.history) t ++ l) none ∙ append-nil (got (take n c.history) t))

  pub got_one : (n : ℕ) (p : Packet) → slice_get c.history n ≡ Some (events.Got p) → length (got (take (suc n) c.history) p.tree) ≡ suc (length (got (take n c.history) p.tree))
  got_one n p h =
      let e = ap length (got_with n (events.Got p) p.tree h ∙ ap (λ l. got (take n c.history) p.tree ++ l) (got_own p p.tree refl)) in
      let l = length-append (got (take n c.history) p.tree) (p ∷ []) in omega (arith, e, l)

  abbrev pub ops_by : ℕ → ℕ → ℕ
  ops_by t n = length (flat_map op_in (take n (journal_in c t)))

  abbrev pub made_there : ℕ → ℕ → ℕ
  made_there t n = length (packets_of t (take n (journal_in c t)))

  abbrev pub got_there : ℕ → ℕ → ℕ
  got_there t m = length (got (take m c.history) t)

  pub record Kept (b : List Item) : Type 0 where
    pub ops : (t : ℕ) → count (is_frame t) b ≡ ops_by t (count (in_frame t) b)
    pub enough : (t : ℕ) → got_there t (count is_entry b) ≤ made_there t (count (in_frame t) b)

  pub kept_first : Kept []
  unfolding got
  kept_first = record { ops = λ t. refl; enough = λ t. omega arith }

  -- one more entry of the journal of u, with its operation if it holds one
  own_ops : (t : ℕ) (b : List Item) (i : Item) (e : JEntry) (x : ℕ) → slice_get (journal_in c t) (count (in_frame t) b) ≡ Some e → in_frame t i ≡ true → length (op_in e) ≡ x
      → count (is_frame t) (b ++ i ∷ []) ≡ count (is_frame t) b + x → count (is_frame t) b ≡ ops_by t (count (in_frame t) b) → count (is_frame t) (b ++ i ∷ []) ≡ ops_by t (count (in_frame t) (b ++ i ∷ []))
  own_ops t b i e x h own one now old =
      let n = count_hit (in_frame t) b i own in
      let a : ops_by t (count (in_frame t) (b ++ i ∷ [])) ≡ ops_by t (suc (count (in_frame t) b)) = ap (ops_by t) n in
      let l = ap length (flat_next op_in (journal_in c t) (count (in_frame t) b) e h) in
      let s = length-append (flat_map op_in (take (count (in_frame t) b) (journal_in c t))) (op_in e) in omega (arith, now, old, a, l, s, one)

  own_enough : (t : ℕ) (b : List Item) (i : Item) (e : JEntry) → slice_get (journal_in c t) (count (in_frame t) b) ≡ Some e → in_frame t i ≡ true → is_entry i ≡ false
      → got_there t (count is_entry b) ≤ made_there t (count (in_frame t) b) → got_there t (count is_entry (b ++ i ∷ [])) ≤ made_there t (count (in_frame t) (b ++ i ∷ []))
  own_enough t b i e h own apart old =
      let a : made_there t (count (in_frame t) (b ++ i ∷ [])) ≡ made_there t (suc (count (in_frame t) b)) = ap (made_there t) (count_hit (in_frame t) b i own) in
      let m = packets_more t (journal_in c t) (count (in_frame t) b) e h in
      let z : got_there t (count is_entry (b ++ i ∷ [])) ≡ got_there t (count is_entry b) = ap (got_there t) (count_miss is_entry b i apart) in omega (arith, a, m, z, old)

  other_ops : (t : ℕ) (b : List Item) (i : Item) → in_frame t i ≡ false → is_frame t i ≡ false → count (is_frame t) b ≡ ops_by t (count (in_frame t) b)
      → count (is_frame t) (b ++ i ∷ []) ≡ ops_by t (count (in_frame t) (b ++ i ∷ []))
  other_ops t b i n m old = count_miss (is_frame t) b i m ∙ (old ∙ ap (ops_by t) (sym (count_miss (in_frame t) b i n)))

  other_enough : (t : ℕ) (b : List Item) (i : Item) (k : ℕ) → in_frame t i ≡ false → got_there t (count is_entry (b ++ i ∷ [])) ≡ k → k ≤ made_there t (count (in_frame t) b)
      → got_there t (count is_entry (b ++ i ∷ [])) ≤ made_there t (count (in_frame t) (b ++ i ∷ []))
  other_enough t b i k n e l = let a : made_there t (count (in_frame t) (b ++ i ∷ [])) ≡ made_there t (count (in_frame t) b) = ap (made_there t) (count_miss (in_frame t) b i n) in omega (arith, a, e, l)

  same_got : (t : ℕ) (b : List Item) (i : Item) → is_entry i ≡ false → got_there t (count is_entry (b ++ i ∷ [])) ≡ got_there t (count is_entry b)
  same_got t b i n = ap (got_there t) (count_miss is_entry b i n)

  next_got : (t : ℕ) (b : List Item) (i : Item) → is_entry i ≡ true → got_there t (count is_entry (b ++ i ∷ [])) ≡ got_there t (suc (count is_entry b))
  next_got t b i n = ap (got_there t) (count_hit is_entry b i n)

  op_kept : (b : List Item) (u : ℕ) → OpNext c b u → Kept b → Kept (b ++ Frame u ∷ [])
  op_kept b u x k = record {
    ops = λ t. by_go (u == t)
        (λ q. own_ops t b (Frame u) (entry_of x.op) 1 (subst (λ v. slice_get (journal_in c v) (count (in_frame v) b) ≡ Some (entry_of x.op)) (eqb-true u t q) x.there) q (ap length (op_of_entry x.op))
        (let z = count_hit (is_frame t) b (Frame u) q in omega (arith, z)) (k.ops t))
        (λ q. other_ops t b (Frame u) q q (k.ops t));
    enough = λ t. by_go (u == t)
        (λ q. own_enough t b (Frame u) (entry_of x.op) (subst (λ v. slice_get (journal_in c v) (count (in_frame v) b) ≡ Some (entry_of x.op)) (eqb-true u t q) x.there) q refl (k.enough t))
        (λ q. other_enough t b (Frame u) (got_there t (count is_entry b)) q (same_got t b (Frame u) refl) (k.enough t));
  }

  delivery_kept : (b : List Item) (u : ℕ) (n : Token) → slice_get (journal_in c u) (count (in_frame u) b) ≡ Some (entries.Delivered n) → Kept b → Kept (b ++ Deliver u n ∷ [])
  delivery_kept b u n x k = record {
    ops = λ t. by_go (u == t)
        (λ q. own_ops t b (Deliver u n) (entries.Delivered n) 0 (subst (λ v. slice_get (journal_in c v) (count (in_frame v) b) ≡ Some (entries.Delivered n)) (eqb-true u t q) x) q refl
        (let z = count_miss (is_frame t) b (Deliver u n) refl in omega (arith, z)) (k.ops t))
        (λ q. other_ops t b (Deliver u n) q refl (k.ops t));
    enough = λ t. by_go (u == t)
        (λ q. own_enough t b (Deliver u n) (entries.Delivered n) (subst (λ v. slice_get (journal_in c v) (count (in_frame v) b) ≡ Some (entries.Delivered n)) (eqb-true u t q) x) q refl (k.enough t))
        (λ q. other_enough t b (Deliver u n) (got_there t (count is_entry b)) q (same_got t b (Deliver u n) refl) (k.enough t));
  }

  receipt_kept : (b : List Item) (u : ℕ) → PacketNext c b u → Kept b → Kept (b ++ Receive u ∷ [])
  receipt_kept b u x k = record {
    ops = λ t. other_ops t b (Receive u) refl refl (k.ops t);
    enough = λ t. by_go (u == t)
        (λ q. let own : x.packet.tree ≡ t = x.tree ∙ eqb-true u t q in
        let one : got_there t (suc (count is_entry b)) ≡ suc (got_there t (count is_entry b)) =
        subst (λ v. got_there v (suc (count is_entry b)) ≡ suc (got_there v (count is_entry b))) own (got_one (count is_entry b) x.packet x.there) in
        let made : got_there t (count is_entry b) < made_there t (count (in_frame t) b) = subst (λ v. got_there v (count is_entry b) < made_there v (count (in_frame v) b)) (eqb-true u t q) x.made in
        other_enough t b (Receive u) (suc (got_there t (count is_entry b))) refl (next_got t b (Receive u) refl ∙ one) (omega (arith, made)))
        (λ q. let no : (x.packet.tree == t) ≡ false = ap (λ v. v == t) x.tree ∙ q in
        other_enough t b (Receive u) (got_there t (count is_entry b)) refl
        (next_got t b (Receive u) refl ∙ ap length (got_none (count is_entry b) (events.Got x.packet) t x.there (got_other x.packet t no))) (k.enough t));
  }

  browser_kept : (b : List Item) → EntryNext c b → Kept b → Kept (b ++ Browser ∷ [])
  browser_kept b x k = record {
    ops = λ t. other_ops t b Browser refl refl (k.ops t);
    enough = λ t. other_enough t b Browser (got_there t (count is_entry b)) refl
        (next_got t b Browser refl ∙ ap length (got_none (count is_entry b) (event_of x.op) t x.there (no_packet x.op t))) (k.enough t);
  }

  query_kept : (b : List Item) (j : ℕ) → Kept b → Kept (b ++ Reader j ∷ [])
  query_kept b j k = record {
    ops = λ t. other_ops t b (Reader j) refl refl (k.ops t);
    enough = λ t. other_enough t b (Reader j) (got_there t (count is_entry b)) refl (same_got t b (Reader j) refl) (k.enough t);
  }

  pub kept_next : (b : List Item) (i : Item) → Placed c looks b i → Kept b → Kept (b ++ i ∷ [])
  kept_next b (Frame t) x k = op_kept b t x k
  kept_next b (Receive t) x k = receipt_kept b t x k
  kept_next b Browser x k = browser_kept b x k
  kept_next b (Deliver t n) x k = delivery_kept b t n x k
  kept_next b (Reader j) x k = query_kept b j k
