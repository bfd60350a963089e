-- Good packets, and packets that fit a journal.
use Rattle.std.proofs.Common.{ℕ, suc, ◌+◌, ◌≡◌, ◌⊎◌, inl, inr, Bool, true, false, cond, eqb, List, [], ◌∷◌, ◌++◌, length, map, take, refl, sym, ap, ◌∙◌, subst, arith, Ok, append_assoc, length-append}
use Rattle.std.specs.Prelude.{is_none}
use Rattle.std.specs.List.{flat_map}
use Rattle.std.proofs.lemmas.Bool.Decides.{eqb_tells}
use Rattle.std.proofs.lemmas.Bool.{false≢true}
use Rattle.std.proofs.lemmas.List.{append-nil, map-append}
use Rattle.std.proofs.Math.Seq.{take-append_seam, take-length}
use Rattle.std.proofs.lemmas.Grind.{flat_map-append}
use Rattle.ax_trees.specs.Trees.{is_bare, has}
use Rattle.ax_tree.specs.declared.edit.Edit.{Edit}
use Rattle.ax_tree.specs.declared.packet.Packet.{Packet}
use Rattle.ax_tree.specs.declared.packet.JEntry.{JEntry}
use Rattle.ax_tree.specs.declared.packet.JEntry.TheVariants.{Edited, Marked, MarkedBelow, Passed, Short, Delivered}
use Rattle.ax_tree.specs.MarkRule.{add_mark}
use Rattle.ax_tree.specs.Tree.{Tree, empty}
use Rattle.ax_tree.specs.Edits.{edited, refusal}
use Rattle.ax_tree.specs.Updates.{applied_all}
use Rattle.ax_tree.specs.Journals.{edit_taken, Frame, new_frame, pending, after_edit, after_entry, frame_from, frame_of, packet_at, made_at, made_from, packets_of}
use Rattle.ax_tree.specs.Packets.{edited_all, source_at, GoodAt, Head, head_of, Fits}
use Rattle.ax_trees.proofs.Trees.{by_go}
use Rattle.ax_tree.proofs.GoodFronts.{edited_all-append, slips, good_push}
use Rattle.ax_laws.proofs.Sent.{bundle_reach}
use Rattle.ax_laws.proofs.FrameSteps.{Kept, kept_frame, frame_push}

-- ---- packets of a journal

-- what a frame has of the packets that were made
pub record Made (t : ℕ) (f : Frame) (ps : List Packet) : Type 0 where
  pub count : f.passes ≡ length ps
  pub source : f.source ≡ edited_all f.slip (edited_all (slips ps) (empty t))
  pub sent : is_bare f.sent.trees ≡ false → (f.sent ≡ edited_all (slips ps) (empty t)) × (f.passes ≡ 0 → ⊥)

same_made : (t : ℕ) (f : Frame) (ps : List Packet) → Made t f ps → Made t f (ps ++ [])
same_made t f ps m = subst (λ qs. Made t f qs) (sym (append-nil ps)) m

pub slips-push : (ps : List Packet) (p : Packet) → slips (ps ++ (p ∷ [])) ≡ slips ps ++ p.slip
slips-push ps p = flat_map-append (λ (q : Packet). q.slip) ps (p ∷ []) ∙ ap (λ l. slips ps ++ l) (append-nil p.slip)

pub length-push : {A : Type 0} (xs : List A) (x : A) → length (xs ++ (x ∷ [])) ≡ suc (length xs)
length-push xs x = omega (arith, length-append xs (x ∷ []))

taken : (e : Edit) (s : Tree) → is_none (refusal e s) ≡ true → edited e s ≡ edit_taken e s
taken e s q = rw q refl

made_edit : (t : ℕ) (e : Edit) (f : Frame) (ps : List Packet) → Made t f ps → Made t (after_edit e f) ps
made_edit t e f ps m =
    by_go (is_none (refusal e f.source))
    (λ q. rw q record {
      count = m.count;
      source = taken e f.source q ∙ (ap (edit_taken e) m.source ∙ sym (edited_all-append f.slip (e ∷ []) (edited_all (slips ps) (empty t))));
      sent = m.sent;
    })
    (λ q. rw q m)

made_pass : (t : ℕ) (f : Frame) (ps : List Packet) → Made t f ps → Made t (after_entry t Passed f) (ps ++ made_at t Passed f)
made_pass t f ps m =
    by_go (pending f)
    (λ q. let all : f.source ≡ edited_all (slips (ps ++ (packet_at t f ∷ []))) (empty t) =
    m.source ∙ (sym (edited_all-append (slips ps) f.slip (empty t)) ∙ ap (λ l. edited_all l (empty t)) (sym (slips-push ps (packet_at t f)))) in
    rw q record {
      count = ap suc m.count ∙ sym (length-push ps (packet_at t f));
      source = all;
      sent = λ _. (all, λ h. absurd (cc));
    })
    (λ q. rw q (same_made t f ps m))

pub made_entry : (t : ℕ) (e : JEntry) (f : Frame) (ps : List Packet) → Made t f ps → Made t (after_entry t e f) (ps ++ made_at t e f)
made_entry t (Edited e) f ps m = same_made t (after_edit e f) ps (made_edit t e f ps m)
made_entry t (Marked z) f ps m =
    by_go (has f.source.trees z)
    (λ q. rw q (same_made t (record f { marks = add_mark f.marks z }) ps (record { count = m.count; source = m.source; sent = m.sent })))
    (λ q. rw q (same_made t f ps m))
made_entry t (MarkedBelow z) f ps m = same_made t (after_entry t (MarkedBelow z) f) ps record { count = m.count; source = m.source; sent = m.sent }
made_entry t Passed f ps m = made_pass t f ps m
made_entry t Short f ps m = same_made t (after_entry t Short f) ps record { count = m.count; source = m.source; sent = m.sent }
made_entry t (Delivered n) f ps m = same_made t (after_entry t (Delivered n) f) ps record { count = m.count; source = m.source; sent = λ h. absurd (false≢true (sym h)) }

pub made_all : (t : ℕ) (es : List JEntry) (f : Frame) (ps : List Packet) → Made t f ps → Made t (frame_from t es f) (ps ++ made_from t es f)
made_all t [] f ps m = same_made t f ps m
made_all t (e ∷ es) f ps m =
    subst (λ qs. Made t (frame_from t es (after_entry t e f)) qs) (append_assoc ps (made_at t e f) (made_from t es (after_entry t e f)))
    (made_all t es (after_entry t e f) (ps ++ made_at t e f) (made_entry t e f ps m))

made_new : (t : ℕ) → Made t (new_frame t) []
made_new t = record { count = refl; source = refl; sent = λ h. absurd (false≢true (sym h)) }

pub made_frame : (t : ℕ) (journal : List JEntry) → Made t (frame_of t journal) (packets_of t journal)
made_frame t journal = made_all t journal (new_frame t) [] (made_new t)

-- packets with the same heads have the same slips
pub slips_heads : (ps : List Packet) → flat_map (λ (h : Head). h.slip) (map head_of ps) ≡ slips ps
slips_heads [] = refl
slips_heads (p ∷ ps) = ap (λ l. p.slip ++ l) (slips_heads ps)

length_heads : (ps : List Packet) → length (map head_of ps) ≡ length ps
length_heads [] = refl
length_heads (p ∷ ps) = ap suc (length_heads ps)

pub made_same : (t : ℕ) (f : Frame) (ps qs : List Packet) → map head_of qs ≡ map head_of ps → Made t f ps → Made t f qs
made_same t f ps qs e m =
    let same : slips ps ≡ slips qs = sym (slips_heads ps) ∙ (ap (λ hs. flat_map (λ (h : Head). h.slip) hs) (sym e) ∙ slips_heads qs) in
    record {
      count = m.count ∙ (sym (length_heads ps) ∙ (ap length (sym e) ∙ length_heads qs));
      source = m.source ∙ ap (λ l. edited_all f.slip (edited_all l (empty t))) same;
      sent = λ h. ((m.sent h).0 ∙ ap (λ l. edited_all l (empty t)) same, (m.sent h).1);
    }

pub packets_push : (t : ℕ) (es : List JEntry) (e : JEntry) (f : Frame) → made_from t (es ++ (e ∷ [])) f ≡ made_from t es f ++ made_at t e (frame_from t es f)
packets_push t [] e f = append-nil (made_at t e f)
packets_push t (x ∷ es) e f =
    ap (λ l. made_at t x f ++ l) (packets_push t es e (after_entry t x f))
    ∙ sym (append_assoc (made_at t x f) (made_from t es (after_entry t x f)) (made_at t e (frame_from t es (after_entry t x f))))

-- ---- fits

pub passes_entry : (t : ℕ) (e : JEntry) (f : Frame) → (after_entry t e f).passes ≡ f.passes + length (made_at t e f)
passes_entry t (Edited e) f = by_go (is_none (refusal e f.source)) (λ q. rw q (omega arith)) (λ q. rw q (omega arith))
passes_entry t (Marked z) f = by_go (has f.source.trees z) (λ q. rw q (omega arith)) (λ q. rw q (omega arith))
passes_entry t (MarkedBelow z) f = omega arith
passes_entry t Passed f = by_go (pending f) (λ q. rw q (omega arith)) (λ q. rw q (omega arith))
passes_entry t Short f = omega arith
passes_entry t (Delivered n) f = omega arith

-- An entry that makes no packet leaves a journal that the list fits.
pub fits_other : (t : ℕ) (journal : List JEntry) (ps : List Packet) (e : JEntry) → Fits t journal ps → made_at t e (frame_of t journal) ≡ [] → Fits t (journal ++ (e ∷ [])) ps
fits_other t journal ps e fit none = record {
  good = fit.good;
  count = fit.count ∙ sym (ap (λ (f : Frame). f.passes) (frame_push t journal e (new_frame t))
      ∙ (passes_entry t e (frame_of t journal) ∙ (ap (λ (l : List Packet). (frame_of t journal).passes + length l) none ∙ omega arith)));
  heads = fit.heads ∙ ap (map head_of) (sym (packets_push t journal e (new_frame t) ∙ (ap (λ l. packets_of t journal ++ l) none ∙ append-nil (packets_of t journal))));
}

-- where the last packet's bundle begins
start_is : (t : ℕ) (f : Frame) (ps : List Packet) (p : Packet) → Kept t f → Made t f ps → head_of p ≡ head_of (packet_at t f)
    → cond (eqb p.base.0 0) (empty t) (source_at t (ps ++ (p ∷ [])) (length ps)) ≡ f.sent
start_is t f ps p k m e =
    let last : source_at t (ps ++ (p ∷ [])) (length ps) ≡ edited_all (slips ps) (empty t) =
    ap (λ l. edited_all (slips l) (empty t)) (take-append_seam ps (p ∷ [])) in
    let base : p.base.0 ≡ cond (is_bare f.sent.trees) 0 f.passes = ap (λ (h : Head). h.base) e in
    by_go (is_bare f.sent.trees)
    (λ q. let zero' : p.base.0 ≡ 0 = base ∙ rw q refl in rw zero' (sym (k.sent_none q)))
    (λ q. let same : p.base.0 ≡ f.passes = base ∙ rw q refl in
    let some : eqb p.base.0 0 ≡ false = grind (arith, eqb_tells p.base.0 0, (m.sent q).1, same) in
    rw some (last ∙ sym (m.sent q).0))

base_is : (f : Frame) (ps : List Packet) → f.passes ≡ length ps → (b : Bool) → (cond b 0 f.passes ≡ 0) ⊎ (cond b 0 f.passes ≡ length ps)
base_is f ps e true = inl refl
base_is f ps e false = inr e

good_made : (t : ℕ) (f : Frame) (ps : List Packet) (p : Packet) → Kept t f → Made t f ps → head_of p ≡ head_of (packet_at t f)
    → applied_all p.bundle f.sent ≡ Ok f.source → GoodAt t (ps ++ (p ∷ [])) (length ps) p
good_made t f ps p k m e g =
    let base : p.base.0 ≡ cond (is_bare f.sent.trees) 0 f.passes = ap (λ (h : Head). h.base) e in
    let slip : p.slip ≡ f.slip = ap (λ (h : Head). h.slip) e in
    let whole : take (suc (length ps)) (ps ++ (p ∷ [])) ≡ ps ++ (p ∷ []) =
    ap (λ n. take n (ps ++ (p ∷ []))) (sym (length-push ps p)) ∙ take-length (ps ++ (p ∷ [])) in
    let all : source_at t (ps ++ (p ∷ [])) (suc (length ps)) ≡ f.source =
    ap (λ l. edited_all (slips l) (empty t)) whole
    ∙ (ap (λ l. edited_all l (empty t)) (slips-push ps p)
    ∙ (edited_all-append (slips ps) p.slip (empty t) ∙ (ap (λ l. edited_all l (edited_all (slips ps) (empty t))) slip ∙ sym m.source))) in
    record {
      of_tree = ap (λ (h : Head). h.tree) e;
      pass = ap (λ (h : Head). h.pass) e ∙ ap suc m.count;
      base = subst (λ (b : ℕ). (b ≡ 0) ⊎ (b ≡ length ps)) (sym base) (base_is f ps m.count (is_bare f.sent.trees));
      gives = ap (applied_all p.bundle) (start_is t f ps p k m e) ∙ (g ∙ ap Ok (sym all));
    }

-- A pass that makes a packet leaves a journal that the longer list fits.
pub fits_made : (t : ℕ) (journal : List JEntry) (ps : List Packet) (p : Packet) → Fits t journal ps → pending (frame_of t journal) ≡ true
    → head_of p ≡ head_of (packet_at t (frame_of t journal)) → applied_all p.bundle (frame_of t journal).sent ≡ Ok (frame_of t journal).source
    → Fits t (journal ++ (Passed ∷ [])) (ps ++ (p ∷ []))
fits_made t journal ps p fit q e g =
    let f : Frame = frame_of t journal in
    let one : made_at t Passed (frame_of t journal) ≡ packet_at t (frame_of t journal) ∷ [] = rw q refl in
    let m : Made t (frame_of t journal) ps = made_same t (frame_of t journal) (packets_of t journal) ps fit.heads (made_frame t journal) in
    record {
      good = good_push t ps p fit.good (good_made t (frame_of t journal) ps p (kept_frame t journal) m e g);
      count = length-push ps p ∙ (ap suc fit.count ∙ sym (ap (λ (h : Frame). h.passes) (frame_push t journal Passed (new_frame t))
          ∙ (passes_entry t Passed (frame_of t journal) ∙ (ap (λ (l : List Packet). (frame_of t journal).passes + length l) one ∙ omega arith))));
      heads = map-append head_of ps (p ∷ [])
          ∙ (ap (λ l. l ++ (head_of p ∷ [])) fit.heads
          ∙ (ap (λ h. map head_of (packets_of t journal) ++ (h ∷ [])) e
          ∙ (sym (map-append head_of (packets_of t journal) (packet_at t (frame_of t journal) ∷ []))
          ∙ ap (map head_of) (sym (packets_push t journal Passed (new_frame t) ∙ ap (λ l. packets_of t journal ++ l) one)))));
    }

-- the packet of a journal brings the receiver to the source
pub packet_reach : (t : ℕ) (journal : List JEntry) → applied_all (packet_at t (frame_of t journal)).bundle (frame_of t journal).sent ≡ Ok (frame_of t journal).source
packet_reach t journal =
    let f : Frame = frame_of t journal in
    bundle_reach (frame_of t journal).sent (frame_of t journal).source (frame_of t journal).marks (frame_of t journal).flag (kept_frame t journal).step

pub fits_new : (t : ℕ) → Fits t [] []
fits_new t = record { good = record { at = λ k p h. absurd (cc) }; count = refl; heads = refl }

pub none_or_made : (t : ℕ) (e : JEntry) (f : Frame) → (made_at t e f ≡ []) ⊎ ((e ≡ Passed) × (pending f ≡ true))
none_or_made t (Edited e) f = inl refl
none_or_made t (Marked z) f = inl refl
none_or_made t (MarkedBelow z) f = inl refl
none_or_made t Passed f = by_go (pending f) (λ q. inr (refl, q)) (λ q. inl (rw q refl))
none_or_made t Short f = inl refl
none_or_made t (Delivered n) f = inl refl

fits_next : (t : ℕ) (journal : List JEntry) (e : JEntry) → Fits t journal (packets_of t journal) → Fits t (journal ++ (e ∷ [])) (packets_of t (journal ++ (e ∷ [])))
fits_next t journal e fit = go (none_or_made t e (frame_of t journal))
  where
    go : (made_at t e (frame_of t journal) ≡ []) ⊎ ((e ≡ Passed) × (pending (frame_of t journal) ≡ true)) → Fits t (journal ++ (e ∷ [])) (packets_of t (journal ++ (e ∷ [])))
    go (inl none) =
        let same : packets_of t (journal ++ (e ∷ [])) ≡ packets_of t journal = packets_push t journal e (new_frame t) ∙ (ap (λ l. packets_of t journal ++ l) none ∙ append-nil (packets_of t journal)) in
        subst (λ ps. Fits t (journal ++ (e ∷ [])) ps) (sym same) (fits_other t journal (packets_of t journal) e fit none)
    go (inr made) =
        let one : made_at t e (frame_of t journal) ≡ packet_at t (frame_of t journal) ∷ [] = ap (λ x. made_at t x (frame_of t journal)) made.0 ∙ (let q : pending (frame_of t journal) ≡ true = made.1 in rw q refl) in
        let same : packets_of t (journal ++ (e ∷ [])) ≡ packets_of t journal ++ (packet_at t (frame_of t journal) ∷ []) = packets_push t journal e (new_frame t) ∙ ap (λ l. packets_of t journal ++ l) one in
        subst (λ ps. Fits t (journal ++ (e ∷ [])) ps) (sym same)
        (subst (λ (x : JEntry). Fits t (journal ++ (x ∷ [])) (packets_of t journal ++ (packet_at t (frame_of t journal) ∷ []))) (sym made.0)
        (fits_made t journal (packets_of t journal) (packet_at t (frame_of t journal)) fit made.1 refl (packet_reach t journal)))

fits_grown : (t : ℕ) (journal es : List JEntry) → Fits t journal (packets_of t journal) → Fits t (journal ++ es) (packets_of t (journal ++ es))
fits_grown t journal [] fit = subst (λ j. Fits t j (packets_of t j)) (sym (append-nil journal)) fit
fits_grown t journal (e ∷ es) fit =
    subst (λ j. Fits t j (packets_of t j)) (append_assoc journal (e ∷ []) es) (fits_grown t (journal ++ (e ∷ [])) es (fits_next t journal e fit))

-- The packets of a journal fit it, and so they are good.
pub packets_fit : (t : ℕ) (journal : List JEntry) → Fits t journal (packets_of t journal)
packets_fit t journal = fits_grown t [] journal (fits_new t)

-- any entry but a pass with something to send
pub fits_idle : (t : ℕ) (journal : List JEntry) (ps : List Packet) (e : JEntry) → Fits t journal ps → (e ≡ Passed → pending (frame_of t journal) ≡ false) → Fits t (journal ++ (e ∷ [])) ps
fits_idle t journal ps e fit h = go (none_or_made t e (frame_of t journal))
  where
    go : (made_at t e (frame_of t journal) ≡ []) ⊎ ((e ≡ Passed) × (pending (frame_of t journal) ≡ true)) → Fits t (journal ++ (e ∷ [])) ps
    go (inl none) = fits_other t journal ps e fit none
    go (inr made) = absurd (false≢true (sym (h made.0) ∙ made.1))
