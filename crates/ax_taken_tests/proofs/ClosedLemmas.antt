-- Parts without a packet are those of a closed hub.
use Rattle.std.proofs.Common.{ℕ, zero, suc, ◌≡◌, ◌==◌, List, [], ◌∷◌, refl, sym, ap, ◌∙◌, subst, Some, None, arith, if◌then◌else◌}
use Rattle.ax_base.specs.declared.pass.Token.{Token}
use Rattle.ax_trees.proofs.Trees.{by_go}
use Rattle.ax_tree.specs.declared.packet.Packet.{Packet}
use Rattle.ax_tree.specs.declared.packet.JEntry.{JEntry}
use Rattle.ax_tree.specs.declared.packet.JEntry.TheVariants as entries
use Rattle.ax_tree.specs.declared.packet.HEntry.{HEntry}
use Rattle.ax_tree.specs.declared.packet.HEntry.TheVariants as events
use Rattle.ax_rules.specs.Histories.{got}
use Rattle.ax_order_laws.specs.Parts.{FramePacketsFit, RisesWithin, IsClosedHub, list_at}
use Rattle.ax_taken.specs.declared.closed.ClosedFrame.{ClosedFrame}
use Rattle.ax_taken.specs.declared.closed.Closed.{Closed}
use Rattle.ax_taken.specs.Taking.{parts_of, AreCuts, cuts_of}

abbrev pub quiet_journal : ℕ → Token → List JEntry
quiet_journal z n = entries.Marked z ∷ entries.Delivered n ∷ []

abbrev pub quiet_frame : ℕ → ℕ → Token → ClosedFrame
quiet_frame t z n = record { tree = t; journal = quiet_journal z n; made = [] }

abbrev pub quiet : ℕ → ℕ → Token → Closed
quiet t z n = record { frames = quiet_frame t z n ∷ []; history = events.Asked t ∷ events.Ended t ∷ []; waiting = [] }

abbrev pub quiet_looks : List (List ℕ)
quiet_looks = (0 ∷ 2 ∷ []) ∷ []

quiet_packets : (t z : ℕ) (n : Token) (u : ℕ) → FramePacketsFit (if t == u then Some (record { tree = t; journal = quiet_journal z n }) else None) []
quiet_packets t z n u =
    by_go (t == u)
    (λ q. rw q (record { fits = record { good = record { at = λ k p h. absurd (cc) }; count = refl; heads = refl }; whole = refl }))
    (λ q. rw q refl)

quiet_rises : (k : ℕ) → RisesWithin 0 2 (list_at quiet_looks k)
quiet_rises zero = (omega arith, omega arith, (omega arith, omega arith, tt))
quiet_rises (suc k) = tt

quiet_closed : (t z : ℕ) (n : Token) → IsClosedHub (parts_of (quiet t z n)) [] quiet_looks
unfolding got
quiet_closed t z n = record { trees = (refl, tt); packets = λ u. quiet_packets t z n u; rises = quiet_rises }

quiet_cuts : (t z : ℕ) (n : Token) → AreCuts (quiet_frame t z n ∷ [])
quiet_cuts t z n zero f h = let e : quiet_frame t z n ≡ f = cc in subst (λ (g : ClosedFrame). g.made ≡ cuts_of g.tree g.journal) e refl
quiet_cuts t z n (suc i) f h = absurd (cc)

-- with the lists that calls gave
abbrev frame_with : ℕ → List JEntry → List ℕ → ClosedFrame
frame_with t x y = record { tree = t; journal = x; made = y }

abbrev parts_with : List ClosedFrame → List HEntry → List Packet → Closed
parts_with x y v = record { frames = x; history = y; waiting = v }

same_quiet : (t z : ℕ) (n : Token) (journal : List JEntry) (made : List ℕ) (frames : List ClosedFrame) (history : List HEntry) (waiting : List Packet) → journal ≡ quiet_journal z n → made ≡ []
    → frames ≡ frame_with t journal made ∷ [] → history ≡ events.Asked t ∷ events.Ended t ∷ [] → waiting ≡ [] → parts_with frames history waiting ≡ quiet t z n
same_quiet t z n journal made frames history waiting j m f h w =
    let fs : frames ≡ quiet_frame t z n ∷ [] = f ∙ (ap (λ (x : List JEntry). frame_with t x made ∷ []) j ∙ ap (λ (x : List ℕ). frame_with t (quiet_journal z n) x ∷ []) m) in
    ap (λ (x : List ClosedFrame). parts_with x history waiting) fs
    ∙ (ap (λ (x : List HEntry). parts_with (quiet_frame t z n ∷ []) x waiting) h ∙ ap (λ (x : List Packet). parts_with (quiet_frame t z n ∷ []) (events.Asked t ∷ events.Ended t ∷ []) x) w)

pub test_closed : (t z : ℕ) (n : Token) (journal : List JEntry) (made : List ℕ) (frames : List ClosedFrame) (history : List HEntry) (waiting : List Packet) (looks : List (List ℕ)) → journal ≡ quiet_journal z n
    → made ≡ [] → frames ≡ frame_with t journal made ∷ [] → history ≡ events.Asked t ∷ events.Ended t ∷ [] → waiting ≡ [] → looks ≡ quiet_looks → IsClosedHub (parts_of (parts_with frames history waiting)) waiting looks
test_closed t z n journal made frames history waiting looks j m f h w l =
    subst (λ (c : Closed). IsClosedHub (parts_of c) c.waiting looks) (sym (same_quiet t z n journal made frames history waiting j m f h w)) (subst (λ (x : List (List ℕ)). IsClosedHub (parts_of (quiet t z n)) [] x) (sym l) (quiet_closed t z n))

pub test_cuts : (t z : ℕ) (n : Token) (journal : List JEntry) (made : List ℕ) (frames : List ClosedFrame) → journal ≡ quiet_journal z n → made ≡ [] → frames ≡ frame_with t journal made ∷ [] → AreCuts frames
test_cuts t z n journal made frames j m f =
    subst AreCuts (sym (f ∙ (ap (λ (x : List JEntry). frame_with t x made ∷ []) j ∙ ap (λ (x : List ℕ). frame_with t (quiet_journal z n) x ∷ []) m))) (quiet_cuts t z n)
