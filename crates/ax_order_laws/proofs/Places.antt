-- Which item may stand after a front of an order: the next operation or delivery of its frame, the next entry of the history, or the query whose look is here.
use Rattle.std.proofs.Common.{ℕ, zero, suc, ◌≡◌, ◌<◌, ◌==◌, Bool, true, false, ◌||◌, List, [], ◌∷◌, ◌++◌, length, take, drop, flat_map, slice_get, refl, sym, ap, ◌∙◌, subst, Some, append_assoc, append-nil}
use Rattle.std.specs.List.{list_any}
use Rattle.ax_base.specs.declared.pass.Token.{Token}
use Rattle.ax_tree.specs.declared.packet.Packet.{Packet}
use Rattle.ax_tree.specs.declared.packet.JEntry.{JEntry}
use Rattle.ax_tree.specs.declared.packet.JEntry.TheVariants as entries
use Rattle.ax_tree.specs.declared.packet.HEntry.{HEntry}
use Rattle.ax_tree.specs.declared.packet.HEntry.TheVariants as events
use Rattle.ax_tree.specs.Journals.{packets_of}
use Rattle.ax_ask.specs.declared.op.FrameOp.{FrameOp}
use Rattle.ax_ask.specs.declared.op.FrameOp.TheVariants as ops
use Rattle.ax_ask.specs.declared.op.BrowserOp.{BrowserOp}
use Rattle.ax_ask.specs.declared.op.BrowserOp.TheVariants as browsers
use Rattle.ax_ask.specs.declared.op.Item.{Item}
use Rattle.ax_ask.specs.declared.op.Item.TheVariants.{Frame, Receive, Browser, Deliver, Reader}
use Rattle.ax_rules.specs.Histories.{got}
use Rattle.ax_run_rules.specs.FrameSteps.{entry_of}
use Rattle.ax_run_rules.specs.Fair.{is_reader}
use Rattle.ax_run_rules.specs.Taken.{Closed, journal_items}
use Rattle.ax_run_laws.proofs.Found.{same_number}
use Rattle.ax_order_laws.specs.Parts.{runs_short, journal_in, list_at}
use Rattle.ax_order_laws.specs.Told.{is_entry}
use Rattle.ax_order_laws.proofs.Lists.{get_next, rest_next, count, count_hit}

-- items that add an entry to the journal of t
abbrev pub in_frame : ℕ → Item → Bool
in_frame t (Frame u) = u == t
in_frame t (Receive u) = false
in_frame t Browser = false
in_frame t (Deliver u n) = u == t
in_frame t (Reader k) = false

abbrev pub event_of : BrowserOp → HEntry
event_of (browsers.Ask t) = events.Asked t
event_of (browsers.Destroy t) = events.Ended t
event_of (browsers.Probe t u) = events.Probed t u

pub record OpNext (c : Closed) (b : List Item) (t : ℕ) : Type 0 where
  pub op : FrameOp
  pub there : slice_get (journal_in c t) (count (in_frame t) b) ≡ Some (entry_of op)

-- the next entry is this packet's receipt, and its frame has made it
pub record PacketNext (c : Closed) (b : List Item) (t : ℕ) : Type 0 where
  pub packet : Packet
  pub tree : packet.tree ≡ t
  pub there : slice_get c.history (count is_entry b) ≡ Some (events.Got packet)
  pub made : length (got (take (count is_entry b) c.history) t) < length (packets_of t (take (count (in_frame t) b) (journal_in c t)))

pub record EntryNext (c : Closed) (b : List Item) : Type 0 where
  pub op : BrowserOp
  pub there : slice_get c.history (count is_entry b) ≡ Some (event_of op)

abbrev pub Placed : Closed → List (List ℕ) → List Item → Item → Type 0
Placed c looks b (Frame t) = OpNext c b t
Placed c looks b (Receive t) = PacketNext c b t
Placed c looks b Browser = EntryNext c b
Placed c looks b (Deliver t n) = slice_get (journal_in c t) (count (in_frame t) b) ≡ Some (entries.Delivered n)
Placed c looks b (Reader zero) = ⊥
Placed c looks b (Reader (suc k)) = slice_get (list_at looks k) (count (is_reader (suc k)) b) ≡ Some (count is_entry b)

abbrev pub EachPlaced : Closed → List (List ℕ) → List Item → List Item → Type 0
EachPlaced c looks b [] = Unit {0}
EachPlaced c looks b (i ∷ o) = Placed c looks b i × EachPlaced c looks (b ++ i ∷ []) o

pub each_both : (c : Closed) (looks : List (List ℕ)) (b xs ys : List Item) → EachPlaced c looks b xs → EachPlaced c looks (b ++ xs) ys → EachPlaced c looks b (xs ++ ys)
each_both c looks b [] ys p q = subst (λ l. EachPlaced c looks l ys) (append-nil b) q
each_both c looks b (i ∷ xs) ys p q =
    (p.0, each_both c looks (b ++ i ∷ []) xs ys p.1 (subst (λ l. EachPlaced c looks l ys) (sym (append_assoc b (i ∷ []) xs)) q))

-- the place of an item of an order whose items are all placed
pub placed_at : (c : Closed) (looks : List (List ℕ)) (b xs : List Item) (i : Item) (ys : List Item) → EachPlaced c looks b (xs ++ i ∷ ys) → Placed c looks (b ++ xs) i
placed_at c looks b [] i ys p = subst (λ l. Placed c looks l i) (sym (append-nil b)) p.0
placed_at c looks b (x ∷ xs) i ys p = subst (λ l. Placed c looks l i) (append_assoc b (x ∷ []) xs) (placed_at c looks (b ++ x ∷ []) xs i ys p.1)

-- ---- a stretch of a frame's entries

or_both : (a b : Bool) → (a || b) ≡ false → (a ≡ false) × (b ≡ false)
or_both true b h = absurd (cc)
or_both false b h = (refl, h)

module _ (c : Closed) (looks : List (List ℕ)) (t : ℕ) where
  abbrev Next : List Item → List JEntry → Type 0
  Next b xs = drop (count (in_frame t) b) (journal_in c t) ≡ xs

  stepped : (b : List Item) (i : Item) (e : JEntry) (xs : List JEntry) → in_frame t i ≡ true → Next b (e ∷ xs) → Next (b ++ i ∷ []) xs
  stepped b i e xs own h = ap (λ n. drop n (journal_in c t)) (count_hit (in_frame t) b i own) ∙ rest_next (journal_in c t) (count (in_frame t) b) e xs h

  op_placed : (b : List Item) (op : FrameOp) (xs : List JEntry) → Next b (entry_of op ∷ xs) → OpNext c b t
  op_placed b op xs h = record { op = op; there = get_next (journal_in c t) (count (in_frame t) b) (entry_of op) xs h }

  pub stretch_placed : (xs ys : List JEntry) (b : List Item) → Next b (xs ++ ys) → list_any runs_short xs ≡ false → EachPlaced c looks b (flat_map (journal_items t) xs)
  stretch_placed [] ys b h w = tt
  stretch_placed (entries.Edited e ∷ xs) ys b h w =
      (op_placed b (ops.Edit e) (xs ++ ys) h, stretch_placed xs ys (b ++ Frame t ∷ []) (stepped b (Frame t) (entries.Edited e) (xs ++ ys) (same_number t) h) w)
  stretch_placed (entries.Marked z ∷ xs) ys b h w =
      (op_placed b (ops.Touch z) (xs ++ ys) h, stretch_placed xs ys (b ++ Frame t ∷ []) (stepped b (Frame t) (entries.Marked z) (xs ++ ys) (same_number t) h) w)
  stretch_placed (entries.MarkedBelow z ∷ xs) ys b h w =
      (op_placed b (ops.TouchBelow z) (xs ++ ys) h, stretch_placed xs ys (b ++ Frame t ∷ []) (stepped b (Frame t) (entries.MarkedBelow z) (xs ++ ys) (same_number t) h) w)
  stretch_placed (entries.Passed ∷ xs) ys b h w =
      (op_placed b ops.Pass (xs ++ ys) h, stretch_placed xs ys (b ++ Frame t ∷ []) (stepped b (Frame t) entries.Passed (xs ++ ys) (same_number t) h) w)
  stretch_placed (entries.Short ∷ xs) ys b h w = absurd (cc)
  stretch_placed (entries.Delivered n ∷ xs) ys b h w = (
    get_next (journal_in c t) (count (in_frame t) b) (entries.Delivered n) (xs ++ ys) h,
    stretch_placed xs ys (b ++ Deliver t n ∷ []) (stepped b (Deliver t n) (entries.Delivered n) (xs ++ ys) (same_number t) h) w,
  )

-- what a stretch of the entries of t counts
pub stretch_own : (t : ℕ) (xs : List JEntry) → list_any runs_short xs ≡ false → count (in_frame t) (flat_map (journal_items t) xs) ≡ length xs
stretch_own t [] w = refl
stretch_own t (entries.Edited e ∷ xs) w = let h = stretch_own t xs w in rw (same_number t) (ap suc h)
stretch_own t (entries.Marked z ∷ xs) w = let h = stretch_own t xs w in rw (same_number t) (ap suc h)
stretch_own t (entries.MarkedBelow z ∷ xs) w = let h = stretch_own t xs w in rw (same_number t) (ap suc h)
stretch_own t (entries.Passed ∷ xs) w = let h = stretch_own t xs w in rw (same_number t) (ap suc h)
stretch_own t (entries.Short ∷ xs) w = absurd (cc)
stretch_own t (entries.Delivered n ∷ xs) w = let h = stretch_own t xs w in rw (same_number t) (ap suc h)

-- a test that passes no item of t counts nothing there
pub stretch_other : (p : Item → Bool) (t : ℕ) → p (Frame t) ≡ false → ((n : Token) → p (Deliver t n) ≡ false) → (xs : List JEntry) → count p (flat_map (journal_items t) xs) ≡ 0
stretch_other p t f d [] = refl
stretch_other p t f d (entries.Edited e ∷ xs) = let h = stretch_other p t f d xs in rw f h
stretch_other p t f d (entries.Marked z ∷ xs) = let h = stretch_other p t f d xs in rw f h
stretch_other p t f d (entries.MarkedBelow z ∷ xs) = let h = stretch_other p t f d xs in rw f h
stretch_other p t f d (entries.Passed ∷ xs) = let h = stretch_other p t f d xs in rw f h
stretch_other p t f d (entries.Short ∷ xs) = stretch_other p t f d xs
stretch_other p t f d (entries.Delivered n ∷ xs) = let h = stretch_other p t f d xs in let q = d n in rw q h
