-- Packets that fit the journals of a state still do after each order, and after the finale.
use Rattle.std.proofs.Common.{ℕ, ◌≡◌, Bool, true, false, if◌then◌else◌, List, [], ◌∷◌, ◌++◌, refl, sym, ap, ◌∙◌, subst, Option, Some, append_assoc}
use Rattle.ax_tree.specs.declared.packet.Packet.{Packet}
use Rattle.ax_tree.specs.declared.packet.JEntry.{JEntry}
use Rattle.ax_tree.specs.declared.packet.JEntry.TheVariants as entries
use Rattle.ax_tree.specs.declared.packet.HEntry.{HEntry}
use Rattle.ax_tree.specs.declared.packet.HEntry.TheVariants.{Got}
use Rattle.ax_tree.specs.Journals.{Frame, new_frame, pending, packet_at, after_packet, after_entry, made_from, packets_of}
use Rattle.ax_tree.specs.Packets.{IsGood, Fits}
use Rattle.ax_rules.specs.Histories.{got}
use Rattle.ax_rules.specs.Laws.{Agrees}
use Rattle.ax_run_rules.specs.States.{FrameRun, Run, find_frame}
use Rattle.ax_run_rules.specs.Steps.{run}
use Rattle.ax_run_rules.specs.Finale.{finale_of}
use Rattle.ax_rules.proofs.Appends.{got-append}
use Rattle.ax_rules.proofs.Building.{verdicts_agree, applied_accepted}
use Rattle.ax_tree.proofs.GoodFronts.{good_front}
use Rattle.ax_laws.proofs.GoodPackets.{packets_fit}
use Rattle.ax_run_laws.specs.Laws.{HasItsPackets}
use Rattle.ax_run_laws.proofs.Found.{same_number}
use Rattle.ax_run_laws.proofs.Held.{AllOf, FrameHeld, Held, AllHeld, run_held}
use Rattle.ax_run_laws.proofs.CatchUp.{finale_held}
use Rattle.ax_finale_laws.specs.Resumed.{PacketsFit, KeepsPackets, RefusesNone}

all_back : (t : ℕ) (xs ys : List Packet) → AllOf t (xs ++ ys) → AllOf t ys
all_back t [] ys h = h
all_back t (x ∷ xs) ys h = all_back t xs ys h.1

-- a journal makes packets of its own tree
all_made : (t : ℕ) (es : List JEntry) (f : Frame) → AllOf t (made_from t es f)
all_made t [] f = tt
all_made t (entries.Edited e ∷ es) f = all_made t es (after_entry t (entries.Edited e) f)
all_made t (entries.Marked z ∷ es) f = all_made t es (after_entry t (entries.Marked z) f)
all_made t (entries.MarkedBelow z ∷ es) f = all_made t es (after_entry t (entries.MarkedBelow z) f)
all_made t (entries.Passed ∷ es) f = go (pending f) (all_made t es (after_packet f)) (all_made t es f)
  where
    go : (b : Bool) → AllOf t (made_from t es (after_packet f)) → AllOf t (made_from t es f) → AllOf t ((if b then packet_at t f ∷ [] else []) ++ made_from t es (if b then after_packet f else f))
    go true k l = (refl, k)
    go false k l = l
all_made t (entries.Short ∷ es) f = all_made t es (after_entry t entries.Short f)
all_made t (entries.Delivered n ∷ es) f = all_made t es (after_entry t (entries.Delivered n) f)

frame_fits : (h : List HEntry) (t : ℕ) (f : FrameRun) → got h t ++ f.waiting ≡ packets_of t f.journal → FrameHeld h t f
frame_fits h t f e = record { packets = e; waiting = all_back t (got h t) f.waiting (subst (λ l. AllOf t l) (sym e) (all_made t f.journal (new_frame t))) }

pub held_where_fit : (r : Run) → PacketsFit r.state → Held r.state.frames r.state.history
unfolding find_frame
held_where_fit r h = record { at = λ t f e. frame_fits r.state.history t f (h t f e) }

packets_of_held : (r : Run) (t : ℕ) (f : FrameRun) → Held r.state.frames r.state.history → find_frame r.state t ≡ Some f → HasItsPackets r t f
unfolding find_frame
packets_of_held r t f held e =
    let x = held.at t f e in
    let fit : Fits t f.journal (got r.state.history t ++ f.waiting) = subst (λ l. Fits t f.journal l) (sym x.packets) (packets_fit t f.journal) in
    record { packets = x.packets; fit = fit; good = good_front t (got r.state.history t) f.waiting fit.good }

held_at : (o : Option Run) (q : Run) → o ≡ Some q → AllHeld o → Held q.state.frames q.state.history
held_at o q e h = let k : AllHeld (Some q) = subst (λ x. AllHeld x) e h in k

pub keeps_packets : (r : Run) → PacketsFit r.state → KeepsPackets r
keeps_packets r h = record {
  orders = λ o q t f e k. packets_of_held q t f (held_at (run o r) q e (run_held o r (held_where_fit r h))) k;
  finale = λ q t f e k. packets_of_held q t f (held_at (finale_of r) q e (finale_held r (held_where_fit r h))) k;
}

-- ---- packets that are accepted

agrees : (h : List HEntry) (p : Packet) (t : ℕ) (j : List JEntry) (more : List Packet) → p.tree ≡ t → packets_of t j ≡ (got h t ++ p ∷ []) ++ more → Agrees h p
agrees h p t j more own e =
    let good : IsGood t (got h t ++ p ∷ []) = good_front t (got h t ++ p ∷ []) more (subst (λ l. IsGood t l) e (packets_fit t j).good) in
    let here : IsGood p.tree (got h p.tree ++ p ∷ []) = subst (λ u. IsGood u (got h u ++ p ∷ [])) (sym own) good in
    record { verdict = verdicts_agree h p here; accepted = applied_accepted h p here }

next_agrees : (r : Run) (t : ℕ) (f : FrameRun) (p : Packet) (ps : List Packet) → Held r.state.frames r.state.history → find_frame r.state t ≡ Some f → f.waiting ≡ p ∷ ps → Agrees r.state.history p
unfolding find_frame
next_agrees r t f p ps held e w =
    let x = held.at t f e in
    let own : AllOf t (p ∷ ps) = subst (λ l. AllOf t l) w x.waiting in
    agrees r.state.history p t f.journal ps own.0 (sym x.packets ∙ (ap (λ l. got r.state.history t ++ l) w ∙ sym (append_assoc (got r.state.history t) (p ∷ []) ps)))

got_first : (p : Packet) (after : List HEntry) → got (Got p ∷ after) p.tree ≡ p ∷ got after p.tree
unfolding got
got_first p after = let q = same_number p.tree in rw q refl

received_agrees : (r : Run) (f : FrameRun) (before after : List HEntry) (p : Packet) → Held r.state.frames r.state.history → find_frame r.state p.tree ≡ Some f
    → r.state.history ≡ before ++ Got p ∷ after → Agrees before p
unfolding find_frame
received_agrees r f before after p held e h =
    let t = p.tree in
    let x = held.at t f e in
    let all : got r.state.history t ≡ got before t ++ p ∷ got after t = ap (λ k. got k t) h ∙ (got-append before (Got p ∷ after) t ∙ ap (λ l. got before t ++ l) (got_first p after)) in
    agrees before p t f.journal (got after t ++ f.waiting) refl
    (sym x.packets ∙ (ap (λ l. l ++ f.waiting) all ∙ (append_assoc (got before t) (p ∷ got after t) f.waiting ∙ sym (append_assoc (got before t) (p ∷ []) (got after t ++ f.waiting)))))

pub refuses_none : (r : Run) → PacketsFit r.state → RefusesNone r
refuses_none r h = record {
  orders = λ o q t f p ps e k w. next_agrees q t f p ps (held_at (run o r) q e (run_held o r (held_where_fit r h))) k w;
  finale = λ q f before after p e k w. received_agrees q f before after p (held_at (finale_of r) q e (finale_held r (held_where_fit r h))) k w;
}
