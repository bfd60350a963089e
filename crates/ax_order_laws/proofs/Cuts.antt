-- How many entries of a journal stand up to and with its k-th packet, and the packets of a front of it.
use Rattle.std.proofs.Common.{ℕ, ◌≡◌, ◌≤◌, false, leb, List, [], ◌∷◌, ◌++◌, length, take, drop, refl, sym, ap, ◌∙◌, subst, arith, append_assoc, append-nil}
use Rattle.std.proofs.lemmas.Bool.Decides.{leb_tells}
use Rattle.std.proofs.lemmas.List.{take-append-drop}
use Rattle.ax_tree.specs.declared.packet.Packet.{Packet}
use Rattle.ax_tree.specs.declared.packet.JEntry.{JEntry}
use Rattle.ax_tree.specs.Journals as journals
use Rattle.ax_tree.specs.Journals.{Frame, new_frame, after_entry, frame_from, frame_of, made_at, packets_of}
use Rattle.ax_trees.proofs.Trees.{by_go}
use Rattle.ax_laws.proofs.GoodPackets.{packets_fit}
use Rattle.ax_run_rules.specs.Taken.{made_from}

pub cut_none : (t : ℕ) (j : List JEntry) → made_from t 0 [] j ≡ 0
cut_none t [] = refl
cut_none t (e ∷ j) = refl

pub cut_within : (t k : ℕ) (before j : List JEntry) → made_from t k before j ≤ length j
cut_within t k before [] = omega arith
cut_within t k before (e ∷ j) =
    by_go (leb k (frame_of t before).passes)
    (λ q. rw q (omega arith))
    (λ q. let h = cut_within t k (before ++ e ∷ []) j in rw q (omega (arith, h)))

pub cut_rises : (t k n : ℕ) (before j : List JEntry) → k ≤ n → made_from t k before j ≤ made_from t n before j
cut_rises t k n before [] h = omega arith
cut_rises t k n before (e ∷ j) h =
    by_go (leb k (frame_of t before).passes)
    (λ q. rw q (omega arith))
    (λ q. let later : leb n (frame_of t before).passes ≡ false = grind (arith, leb_tells n (frame_of t before).passes, leb_tells k (frame_of t before).passes) in
    let m = cut_rises t k n (before ++ e ∷ []) j h in rw (q, later) (omega (arith, m)))

-- the k-th packet has been made there
pub cut_made : (t k : ℕ) (before j : List JEntry) → k ≤ (frame_of t (before ++ j)).passes → k ≤ (frame_of t (before ++ take (made_from t k before j) j)).passes
cut_made t k before [] h = h
cut_made t k before (e ∷ j) h =
    by_go (leb k (frame_of t before).passes)
    (λ q. let l : k ≤ (frame_of t before).passes = grind (arith, leb_tells k (frame_of t before).passes) in
    rw q (subst (λ b. k ≤ (frame_of t b).passes) (sym (append-nil before)) l))
    (λ q. let m = cut_made t k (before ++ e ∷ []) j (subst (λ b. k ≤ (frame_of t b).passes) (sym (append_assoc before (e ∷ []) j)) h) in
    rw q (subst (λ b. k ≤ (frame_of t b).passes) (append_assoc before (e ∷ []) (take (made_from t k (before ++ e ∷ []) j) j)) m))

pub passes_are : (t : ℕ) (j : List JEntry) → (frame_of t j).passes ≡ length (packets_of t j)
passes_are t j = sym (packets_fit t j).count

made_both : (t : ℕ) (xs ys : List JEntry) (f : Frame) → journals.made_from t (xs ++ ys) f ≡ journals.made_from t xs f ++ journals.made_from t ys (frame_from t xs f)
made_both t [] ys f = refl
made_both t (x ∷ xs) ys f =
    ap (λ l. made_at t x f ++ l) (made_both t xs ys (after_entry t x f))
    ∙ sym (append_assoc (made_at t x f) (journals.made_from t xs (after_entry t x f)) (journals.made_from t ys (frame_from t (x ∷ xs) f)))

-- the packets of a front stand first
pub packets_front : (t n : ℕ) (j : List JEntry) → (rest : List Packet) × (packets_of t j ≡ packets_of t (take n j) ++ rest)
packets_front t n j = (
  journals.made_from t (drop n j) (frame_from t (take n j) (new_frame t)),
  ap (packets_of t) (sym (take-append-drop n j)) ∙ made_both t (take n j) (drop n j) (new_frame t),
)
