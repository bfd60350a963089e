-- Where each delivered token was asked for before, no receipt is a gap.
use Rattle.std.proofs.Common.{ℕ, ◌≡◌, ◌≤◌, ◌⊎◌, inl, inr, Bool, true, false, if◌then◌else◌, List, [], ◌∷◌, ◌++◌, refl, sym, ap, ◌∙◌, subst, Option, Some, None, le_trans, true≢false, is_none}
use Rattle.ax_trees.specs.Trees.{is_bare, has}
use Rattle.ax_tree.specs.declared.edit.Edit.{Edit}
use Rattle.ax_tree.specs.declared.packet.Packet.{Packet}
use Rattle.ax_tree.specs.declared.packet.JEntry.{JEntry}
use Rattle.ax_tree.specs.declared.packet.JEntry.TheVariants as entries
use Rattle.ax_tree.specs.Edits.{refusal, edited, marks_after, flag_after}
use Rattle.ax_tree.specs.Journals.{Frame, new_frame, pending, after_edit, after_entry, after_packet, packet_at, made_from, packets_of}

-- ---- the packets of a journal

pub record LinkTo (p x : Packet) : Type 0 where
  pub base : p.base.0 ≡ x.pass.0
  pub token : p.token.0 ≡ x.token.0

-- a packet has base 0, or stands upon the one before, with the same token
abbrev pub Link : Option Packet → Packet → Type 0
Link None p = p.base.0 ≡ 0
Link (Some x) p = (p.base.0 ≡ 0) ⊎ LinkTo p x

abbrev pub LinkedFrom : Option Packet → List Packet → Type 0
LinkedFrom q [] = Unit {0}
LinkedFrom q (p ∷ ps) = Link q p × LinkedFrom (Some p) ps

-- the last packet, or q where there is none
abbrev pub final : Option Packet → List Packet → Option Packet
final q [] = q
final q (p ∷ ps) = final (Some p) ps

pub linked_at : (q : Option Packet) (xs : List Packet) (p : Packet) (ps : List Packet) → LinkedFrom q (xs ++ p ∷ ps) → Link (final q xs) p
linked_at q [] p ps h = h.0
linked_at q (x ∷ xs) p ps h = linked_at (Some x) xs p ps h.1

pub final-push : (q : Option Packet) (xs : List Packet) (p : Packet) → final q (xs ++ p ∷ []) ≡ Some p
final-push q [] p = refl
final-push q (x ∷ xs) p = final-push (Some x) xs p

-- what the last packet has of the frame, while its receiver isn't reset
abbrev Stood : Option Packet → Frame → Type 0
Stood None f = is_bare f.sent.trees ≡ true
Stood (Some x) f = is_bare f.sent.trees ≡ false → (f.passes ≡ x.pass.0) × (f.token ≡ x.token.0)

stood_edit : (q : Option Packet) (e : Edit) (f : Frame) → Stood q f → Stood q (after_edit e f)
stood_edit q e f h = go (is_none (refusal e f.source)) q h
  where
    go : (b : Bool) (o : Option Packet) → Stood o f
        → Stood o (if b then record f { source = edited e f.source; marks = marks_after e f.source f.marks; flag = flag_after e f.flag; slip = f.slip ++ (e ∷ []) } else f)
    go true None k = k
    go true (Some x) k = k
    go false None k = k
    go false (Some x) k = k

stood_mark : (q : Option Packet) (b : Bool) (f : Frame) (m : List ℕ) → Stood q f → Stood q (if b then record f { marks = m } else f)
stood_mark None true f m k = k
stood_mark None false f m k = k
stood_mark (Some x) true f m k = k
stood_mark (Some x) false f m k = k

link_base : (q : Option Packet) (t : ℕ) (f : Frame) (b : Bool) → is_bare f.sent.trees ≡ b → Stood q f → Link q (packet_at t f)
link_base None t f true e h = ap (λ c. if c then 0 else f.passes) e
link_base None t f false e h = absurd (true≢false (sym h ∙ e))
link_base (Some x) t f true e h = inl (ap (λ c. if c then 0 else f.passes) e)
link_base (Some x) t f false e h = let k = h e in inr (record { base = ap (λ c. if c then 0 else f.passes) e ∙ k.0; token = k.1 })

linked_made : (q : Option Packet) (t : ℕ) (es : List JEntry) (f : Frame) → Stood q f → LinkedFrom q (made_from t es f)
linked_made q t [] f h = tt
linked_made q t (entries.Edited e ∷ es) f h = linked_made q t es (after_edit e f) (stood_edit q e f h)
linked_made q t (entries.Marked z ∷ es) f h = linked_made q t es (after_entry t (entries.Marked z) f) (stood_mark q (has f.source.trees z) f _ h)
linked_made q t (entries.MarkedBelow z ∷ es) f h = linked_made q t es (after_entry t (entries.MarkedBelow z) f) (stood_mark q true f _ h)
linked_made q t (entries.Passed ∷ es) f h =
    go (pending f) (linked_made (Some (packet_at t f)) t es (after_packet f) (λ _. (refl, refl))) (linked_made q t es f h)
  where
    go : (b : Bool) → LinkedFrom (Some (packet_at t f)) (made_from t es (after_packet f)) → LinkedFrom q (made_from t es f)
        → LinkedFrom q ((if b then packet_at t f ∷ [] else []) ++ made_from t es (if b then after_packet f else f))
    go true k l = (link_base q t f (is_bare f.sent.trees) refl h, k)
    go false k l = l
linked_made q t (entries.Short ∷ es) f h = linked_made q t es (record f { short = true }) (same_short q f h)
  where
    same_short : (o : Option Packet) (g : Frame) → Stood o g → Stood o (record g { short = true })
    same_short None g k = k
    same_short (Some x) g k = k
linked_made q t (entries.Delivered n ∷ es) f h = linked_made q t es (after_entry t (entries.Delivered n) f) (reset q)
  where
    reset : (o : Option Packet) → Stood o (after_entry t (entries.Delivered n) f)
    reset None = refl
    reset (Some x) = λ e. absurd (true≢false e)

pub linked : (t : ℕ) (j : List JEntry) → LinkedFrom None (packets_of t j)
linked t j = linked_made None t j (new_frame t) refl

-- ---- tokens

abbrev pub LowEntry : ℕ → JEntry → Type 0
LowEntry n (entries.Edited e) = Unit {0}
LowEntry n (entries.Marked z) = Unit {0}
LowEntry n (entries.MarkedBelow z) = Unit {0}
LowEntry n entries.Passed = Unit {0}
LowEntry n entries.Short = Unit {0}
LowEntry n (entries.Delivered k) = k.0 ≤ n

-- no delivered token is above n
abbrev pub LowEntries : ℕ → List JEntry → Type 0
LowEntries n [] = Unit {0}
LowEntries n (e ∷ es) = LowEntry n e × LowEntries n es

pub low_push : (n : ℕ) (es : List JEntry) (e : JEntry) → LowEntries n es → LowEntry n e → LowEntries n (es ++ e ∷ [])
low_push n [] e h k = (k, tt)
low_push n (x ∷ es) e h k = (h.0, low_push n es e h.1 k)

higher_entry : (n m : ℕ) (e : JEntry) → n ≤ m → LowEntry n e → LowEntry m e
higher_entry n m (entries.Edited e) l h = tt
higher_entry n m (entries.Marked z) l h = tt
higher_entry n m (entries.MarkedBelow z) l h = tt
higher_entry n m entries.Passed l h = tt
higher_entry n m entries.Short l h = tt
higher_entry n m (entries.Delivered k) l h = le_trans h l

pub higher : (n m : ℕ) (es : List JEntry) → n ≤ m → LowEntries n es → LowEntries m es
higher n m [] l h = tt
higher n m (e ∷ es) l h = (higher_entry n m e l h.0, higher n m es l h.1)

abbrev pub LowPackets : ℕ → List Packet → Type 0
LowPackets n [] = Unit {0}
LowPackets n (p ∷ ps) = (p.token.0 ≤ n) × LowPackets n ps

pub low_made : (n t : ℕ) (es : List JEntry) (f : Frame) → f.token ≤ n → LowEntries n es → LowPackets n (made_from t es f)
low_made n t [] f l h = tt
low_made n t (entries.Edited e ∷ es) f l h = low_made n t es (after_edit e f) (go (is_none (refusal e f.source))) h.1
  where
    go : (b : Bool) → (if b then record f { source = edited e f.source; marks = marks_after e f.source f.marks; flag = flag_after e f.flag; slip = f.slip ++ (e ∷ []) } else f).token ≤ n
    go true = l
    go false = l
low_made n t (entries.Marked z ∷ es) f l h = low_made n t es (after_entry t (entries.Marked z) f) (go (has f.source.trees z) _) h.1
  where
    go : (b : Bool) (m : List ℕ) → (if b then record f { marks = m } else f).token ≤ n
    go true m = l
    go false m = l
low_made n t (entries.MarkedBelow z ∷ es) f l h = low_made n t es (after_entry t (entries.MarkedBelow z) f) l h.1
low_made n t (entries.Passed ∷ es) f l h = go (pending f) (low_made n t es (after_packet f) l h.1) (low_made n t es f l h.1)
  where
    go : (b : Bool) → LowPackets n (made_from t es (after_packet f)) → LowPackets n (made_from t es f)
        → LowPackets n ((if b then packet_at t f ∷ [] else []) ++ made_from t es (if b then after_packet f else f))
    go true k m = (l, k)
    go false k m = m
low_made n t (entries.Short ∷ es) f l h = low_made n t es (record f { short = true }) l h.1
low_made n t (entries.Delivered k ∷ es) f l h = low_made n t es (after_entry t (entries.Delivered k) f) h.0 h.1

pub low_final : (n : ℕ) (q : Option Packet) (xs ys : List Packet) (x : Packet) → (((p : Packet) → q ≡ Some p → p.token.0 ≤ n)) → LowPackets n (xs ++ ys) → final q xs ≡ Some x → x.token.0 ≤ n
low_final n q [] ys x h l e = h x e
low_final n q (p ∷ xs) ys x h l e = low_final n (Some p) xs ys x (λ r k. subst (λ (y : Packet). y.token.0 ≤ n) (some_is p r k) l.0) l.1 e
  where
    some_is : (a b : Packet) → Some a ≡ Some b → a ≡ b
    some_is a b k = cc
