-- The source at a pass is the journal's source as it was when the pass made its packet.
use Rattle.std.proofs.Common.{ℕ, zero, suc, ◌+◌, ◌≡◌, ◌≤◌, ◌<◌, ◌⊎◌, inl, inr, true, List, [], ◌∷◌, ◌++◌, length, map, take, refl, sym, ap, ◌∙◌, arith, append_assoc}
use Rattle.std.specs.List.{flat_map}
use Rattle.std.proofs.Math.Seq.{take-append_seam}
use Rattle.ax_tree.specs.declared.packet.Packet.{Packet}
use Rattle.ax_tree.specs.declared.packet.JEntry.{JEntry}
use Rattle.ax_tree.specs.declared.packet.JEntry.TheVariants.{Passed}
use Rattle.ax_tree.specs.Tree.{empty}
use Rattle.ax_tree.specs.Journals.{Frame, new_frame, pending, after_entry, frame_from, frame_of, source_of, packet_at, made_at, made_from, packets_of}
use Rattle.ax_tree.specs.Packets.{edited_all, source_at, Head, head_of, Fits}
use Rattle.ax_tree.proofs.GoodFronts.{edited_all-append, slips}
use Rattle.ax_laws.specs.PacketLaws.{MadeAfter}
use Rattle.ax_laws.proofs.FrameSteps.{frame_source}
use Rattle.ax_laws.proofs.GoodPackets.{slips_heads, slips-push, length-push, made_frame, none_or_made, passes_entry}

-- packets with the same heads tell the same sources
map-take : {A B : Type 0} (g : A → B) (k : ℕ) (xs : List A) → map g (take k xs) ≡ take k (map g xs)
map-take g zero xs = refl
map-take g (suc k) [] = refl
map-take g (suc k) (x ∷ xs) = ap (λ l. g x ∷ l) (map-take g k xs)

slips_by_heads : (ps qs : List Packet) → map head_of ps ≡ map head_of qs → slips ps ≡ slips qs
slips_by_heads ps qs e = sym (slips_heads ps) ∙ (ap (λ hs. flat_map (λ (h : Head). h.slip) hs) e ∙ slips_heads qs)

source_by_heads : (t : ℕ) (ps qs : List Packet) (k : ℕ) → map head_of ps ≡ map head_of qs → source_at t ps k ≡ source_at t qs k
source_by_heads t ps qs k e =
    ap (λ l. edited_all l (empty t)) (slips_by_heads (take k ps) (take k qs) (map-take head_of k ps ∙ (ap (take k) e ∙ sym (map-take head_of k qs))))

made_append : (t : ℕ) (front back : List JEntry) (f : Frame) → made_from t (front ++ back) f ≡ made_from t front f ++ made_from t back (frame_from t front f)
made_append t [] back f = refl
made_append t (x ∷ front) back f =
    ap (λ l. made_at t x f ++ l) (made_append t front back (after_entry t x f))
    ∙ sym (append_assoc (made_at t x f) (made_from t front (after_entry t x f)) (made_from t back (frame_from t front (after_entry t x f))))

-- the packets up to the one that is made
take_one_more : {A : Type 0} (xs : List A) (x : A) (ys : List A) → take (suc (length xs)) (xs ++ (x ∷ ys)) ≡ xs ++ (x ∷ [])
take_one_more xs x ys =
    ap (λ l. take (suc (length xs)) l) (sym (append_assoc xs (x ∷ []) ys))
    ∙ (ap (λ n. take n ((xs ++ (x ∷ [])) ++ ys)) (sym (length-push xs x)) ∙ take-append_seam (xs ++ (x ∷ [])) ys)

source_when_made : (t : ℕ) (before rest : List JEntry) → pending (frame_of t before) ≡ true
    → source_at t (packets_of t (before ++ (Passed ∷ rest))) (suc (frame_of t before).passes) ≡ source_of t before
source_when_made t before rest q =
    let f : Frame = frame_of t before in
    let ps : List Packet = packets_of t before in
    let m = made_frame t before in
    let later : List Packet = made_from t rest (after_entry t Passed f) in
    let all : packets_of t (before ++ (Passed ∷ rest)) ≡ ps ++ (packet_at t f ∷ later) =
    made_append t before (Passed ∷ rest) (new_frame t) ∙ ap (λ l. ps ++ (l ++ later)) (one f q) in
    let upto : take (suc f.passes) (packets_of t (before ++ (Passed ∷ rest))) ≡ ps ++ (packet_at t f ∷ []) =
    ap (take (suc f.passes)) all ∙ (ap (λ n. take (suc n) (ps ++ (packet_at t f ∷ later))) m.count ∙ take_one_more ps (packet_at t f) later) in
    ap (λ l. edited_all (slips l) (empty t)) upto
    ∙ (ap (λ l. edited_all l (empty t)) (slips-push ps (packet_at t f))
    ∙ (edited_all-append (slips ps) f.slip (empty t) ∙ (sym m.source ∙ frame_source t before (new_frame t))))
  where
    one : (f : Frame) → pending f ≡ true → made_at t Passed f ≡ packet_at t f ∷ []
    one f q = rw q refl

pub packet_source : (t : ℕ) (journal : List JEntry) (packets : List Packet) → Fits t journal packets → (k : ℕ) (before : List JEntry) → MadeAfter t journal k before
    → source_at t packets k ≡ source_of t before
packet_source t journal packets fit k before w =
    source_by_heads t packets (packets_of t journal) k fit.heads
    ∙ (ap (λ j. source_at t (packets_of t j) k) w.parted
    ∙ (ap (source_at t (packets_of t (before ++ (Passed ∷ w.rest)))) (sym w.number) ∙ source_when_made t before w.rest w.made))

-- between a frame and a later one, each number of a packet has its pass
record MadeFrom (t : ℕ) (es : List JEntry) (f : Frame) (k : ℕ) : Type 0 where
  before : List JEntry
  rest : List JEntry
  parted : es ≡ before ++ (Passed ∷ rest)
  made : pending (frame_from t before f) ≡ true
  number : suc (frame_from t before f).passes ≡ k

later : (t : ℕ) (e : JEntry) (es : List JEntry) (f : Frame) (k : ℕ) → MadeFrom t es (after_entry t e f) k → MadeFrom t (e ∷ es) f k
later t e es f k w = record { before = e ∷ w.before; rest = w.rest; parted = ap (λ l. e ∷ l) w.parted; made = w.made; number = w.number }

or_above : (a b : ℕ) → (a ≤ b) ⊎ (b < a)
or_above zero b = inl (omega arith)
or_above (suc a) zero = inr (omega arith)
or_above (suc a) (suc b) = up (or_above a b)
  where
    up : (a ≤ b) ⊎ (b < a) → (suc a ≤ suc b) ⊎ (suc b < suc a)
    up (inl h) = inl (omega (arith, h))
    up (inr h) = inr (omega (arith, h))

-- the entry makes the packet k, or k is made later
made_next : (t : ℕ) (e : JEntry) (es : List JEntry) (f : Frame) (k : ℕ) → f.passes < k → ((after_entry t e f).passes < k → MadeFrom t es (after_entry t e f) k)
    → (made_at t e f ≡ []) ⊎ ((e ≡ Passed) × (pending f ≡ true)) → MadeFrom t (e ∷ es) f k
made_next t e es f k l more (inl none) =
    let same : (after_entry t e f).passes ≡ f.passes + 0 = passes_entry t e f ∙ ap (λ (l : List Packet). f.passes + length l) none in
    later t e es f k (more (omega (arith, same, l)))
made_next t e es f k l more (inr made) = go (or_above k (suc f.passes))
  where
    go : (k ≤ suc f.passes) ⊎ (suc f.passes < k) → MadeFrom t (e ∷ es) f k
    go (inl now) = record { before = []; rest = es; parted = ap (λ (x : JEntry). x ∷ es) made.0; made = made.1; number = omega (arith, now, l) }
    go (inr above) =
        let one_more : (after_entry t e f).passes ≡ suc f.passes =
        ap (λ (x : JEntry). (after_entry t x f).passes) made.0 ∙ (let q : pending f ≡ true = made.1 in rw q refl) in
        later t e es f k (more (omega (arith, one_more, above)))

made_between : (t : ℕ) (es : List JEntry) (f : Frame) (k : ℕ) → f.passes < k → k ≤ (frame_from t es f).passes → MadeFrom t es f k
made_between t [] f k l h = absurd (omega arith)
made_between t (e ∷ es) f k l h = made_next t e es f k l (λ l'. made_between t es (after_entry t e f) k l' h) (none_or_made t e f)

pub packet_made : (t : ℕ) (journal : List JEntry) (packets : List Packet) → Fits t journal packets → (k : ℕ) → 0 < k → k ≤ length packets
    → (before : List JEntry) × MadeAfter t journal k before
packet_made t journal packets fit k l h =
    let w : MadeFrom t journal (new_frame t) k = made_between t journal (new_frame t) k l (omega (arith, h, fit.count)) in
    (w.before, record { rest = w.rest; parted = w.parted; made = w.made; number = w.number })
