-- Journals that grow, and the packets that fit them.
use Rattle.std.proofs.Common.{◌≡◌, ◌⊎◌, inl, inr, ⊎_elim, ℕ, true, false, List, [], ◌∷◌, ◌++◌, map, not, append_assoc, append-nil, Option, Result, Ok, Err, IfOk, OnOk, OnErr, sym, refl, ap, ◌∙◌, subst, arith}
use Rattle.ax_base.specs.declared.seq.NoMemory.{NoMemory}
use Rattle.ax_base.specs.declared.pass.Token.{Token}
use Rattle.ax_trees.proofs.Trees.{by_go}
use Rattle.ax_tree.specs.declared.edit.Edit.{Edit}
use Rattle.ax_tree.specs.declared.edit.EditErr.{EditErr}
use Rattle.ax_tree.specs.declared.edit.EditErr.TheVariants as edits
use Rattle.ax_tree.specs.declared.edit.MarkErr.{MarkErr}
use Rattle.ax_tree.specs.declared.edit.MarkErr.TheVariants as marks
use Rattle.ax_tree.specs.declared.packet.JEntry.{JEntry}
use Rattle.ax_tree.specs.declared.packet.JEntry.TheVariants.{Edited, Marked, MarkedBelow, Passed, Short, Delivered}
use Rattle.ax_tree.specs.declared.packet.Packet.{Packet}
use Rattle.ax_tree.specs.Journals.{frame_of, is_short, pending}
use Rattle.ax_tree.specs.Packets.{Fits}
use Rattle.ax_turn.specs.Makers.{AllOwn, NoneOwn, GrowsByOthers}
use Rattle.ax_laws.proofs.GoodPackets.{fits_other}
use Rattle.ax_run_rules.specs.FrameSteps.{update_note}
use Rattle.ax_frame.specs.declared.passing.PassOut.{PassOut}
use Rattle.ax_frame.specs.declared.passing.PassOut.TheVariants as outs
use Rattle.ax_frame.specs.Frames.{Journaled, KeepsFitting, edit_answered, mark_answered, with_entry}
use Rattle.ax_frame.specs.Passes.{IfMade, IsPass, PassFits, is_nothing}
use Rattle.ax_stays.specs.declared.parcel.Parcel.{Parcel}
use Rattle.ax_stays.specs.FrameCalls.{grown, edit_entries, mark_entries, delivery_entries, packets_of_pass, parcel_of, FitsWith, KeepsFits, SeenFitsWith, IsMade, IsUnmade}
use Rattle.ax_stays.specs.Makers.{maker_of}

-- ---- what the frame's calls add

abbrev with_journal : Journaled → List JEntry → Journaled
with_journal j l = record { tree = j.tree; journal = l }

pub edit_grown : (e : Edit) (r : Result (Unit {0}) EditErr) (j : Journaled) → edit_answered e r j ≡ grown (edit_entries e r) j
edit_grown e (Ok done) j = refl
edit_grown e (Err edits.NoRoot) j = refl
edit_grown e (Err (edits.UnknownNode z)) j = refl
edit_grown e (Err (edits.IdTaken z)) j = refl
edit_grown e (Err (edits.BadIndex i n)) j = refl
edit_grown e (Err (edits.IsRoot z)) j = refl
edit_grown e (Err (edits.IntoItself z)) j = refl
edit_grown e (Err (edits.TooMany n)) j = refl
edit_grown e (Err (edits.TooDeep n)) j = refl
edit_grown e (Err (edits.BadAttr k)) j = refl
edit_grown e (Err edits.NoMemory) j = ap (with_journal j) (sym (append-nil j.journal))

pub mark_grown : (e : JEntry) (r : Result (Unit {0}) MarkErr) (j : Journaled) → mark_answered e r j ≡ grown (mark_entries e r) j
mark_grown e (Ok done) j = refl
mark_grown e (Err (marks.UnknownNode z)) j = refl
mark_grown e (Err marks.NoMemory) j = ap (with_journal j) (sym (append-nil j.journal))

pub none_grown : (j new : Journaled) → new ≡ j → new ≡ grown [] j
none_grown j new e = e ∙ ap (with_journal j) (sym (append-nil j.journal))

pub delivery_grown : (n : Token) (r : Result (Unit {0}) NoMemory) (j new : Journaled) → OnOk r (new ≡ with_entry (Delivered n) j) → OnErr r (new ≡ j) → new ≡ grown (delivery_entries n r) j
delivery_grown n (Ok done) j new ok err = ok
delivery_grown n (Err lacking) j new ok err = none_grown j new err

pub edit_own : (e : Edit) (r : Result (Unit {0}) EditErr) → AllOwn maker_of 0 1 (edit_entries e r)
edit_own e (Ok done) = ((omega arith, omega arith), tt)
edit_own e (Err edits.NoRoot) = ((omega arith, omega arith), tt)
edit_own e (Err (edits.UnknownNode z)) = ((omega arith, omega arith), tt)
edit_own e (Err (edits.IdTaken z)) = ((omega arith, omega arith), tt)
edit_own e (Err (edits.BadIndex i n)) = ((omega arith, omega arith), tt)
edit_own e (Err (edits.IsRoot z)) = ((omega arith, omega arith), tt)
edit_own e (Err (edits.IntoItself z)) = ((omega arith, omega arith), tt)
edit_own e (Err (edits.TooMany n)) = ((omega arith, omega arith), tt)
edit_own e (Err (edits.TooDeep n)) = ((omega arith, omega arith), tt)
edit_own e (Err (edits.BadAttr k)) = ((omega arith, omega arith), tt)
edit_own e (Err edits.NoMemory) = tt

pub mark_own : (z : ℕ) (r : Result (Unit {0}) MarkErr) → AllOwn maker_of 0 1 (mark_entries (Marked z) r)
mark_own z (Ok done) = ((omega arith, omega arith), tt)
mark_own z (Err (marks.UnknownNode y)) = ((omega arith, omega arith), tt)
mark_own z (Err marks.NoMemory) = tt

pub mark_below_own : (z : ℕ) (r : Result (Unit {0}) MarkErr) → AllOwn maker_of 0 1 (mark_entries (MarkedBelow z) r)
mark_below_own z (Ok done) = ((omega arith, omega arith), tt)
mark_below_own z (Err (marks.UnknownNode y)) = ((omega arith, omega arith), tt)
mark_below_own z (Err marks.NoMemory) = tt

pub delivery_own : (n : Token) (r : Result (Unit {0}) NoMemory) → AllOwn maker_of 1 2 (delivery_entries n r)
delivery_own n (Ok done) = ((omega arith, omega arith), tt)
delivery_own n (Err lacking) = tt

-- a pass adds one entry of the frame's, or none
pub record AddsOwn (old new : Journaled) : Type 0 where
  pub added : List JEntry
  pub grown : new ≡ grown added old
  pub own : AllOwn maker_of 0 1 added

pub pass_adds : (r : Result (Option Parcel) NoMemory) (old new : Journaled) → OnOk r (new ≡ grown (Passed ∷ []) old)
    → OnErr r ((new ≡ grown [] old) ⊎ ((pending (frame_of old.tree old.journal) ≡ true) × (new ≡ grown (Short ∷ []) old))) → AddsOwn old new
pass_adds (Ok made) old new ok err = record { added = Passed ∷ []; grown = ok; own = ((omega arith, omega arith), tt) }
pass_adds (Err lacking) old new ok err =
    ⊎_elim
    (λ e. record { added = []; grown = e; own = tt })
    (λ e. record { added = Short ∷ []; grown = e.1; own = ((omega arith, omega arith), tt) })
    err

-- ---- names

pub same_tree : (name : List ℕ) (t u : ℕ) → name ≡ t ∷ [] → u ∷ [] ≡ name → u ≡ t
same_tree name t u e f = let both : u ∷ [] ≡ t ∷ [] = f ∙ e in cc

-- ---- what fits goes on to fit

fits_rest : (t : ℕ) (journal rest : List JEntry) (packets : List Packet) → NoneOwn maker_of 0 1 rest → Fits t journal packets → Fits t (journal ++ rest) packets
fits_rest t journal [] packets none fit = subst (λ j. Fits t j packets) (sym (append-nil journal)) fit
fits_rest t journal (Delivered n ∷ es) packets none fit =
    subst (λ j. Fits t j packets) (append_assoc journal (Delivered n ∷ []) es)
    (fits_rest t (journal ++ Delivered n ∷ []) es packets none.1 (fits_other t journal packets (Delivered n) fit refl))
fits_rest t journal (Edited e ∷ es) packets none fit = absurd (none.0 (omega arith, omega arith))
fits_rest t journal (Marked z ∷ es) packets none fit = absurd (none.0 (omega arith, omega arith))
fits_rest t journal (MarkedBelow z ∷ es) packets none fit = absurd (none.0 (omega arith, omega arith))
fits_rest t journal (Passed ∷ es) packets none fit = absurd (none.0 (omega arith, omega arith))
fits_rest t journal (Short ∷ es) packets none fit = absurd (none.0 (omega arith, omega arith))

-- others make no packets
pub fits_others : (t : ℕ) (old new : List JEntry) (packets : List Packet) → GrowsByOthers maker_of 0 1 old new → Fits t old packets → Fits t new packets
fits_others t old new packets g fit = subst (λ j. Fits t j packets) (sym g.1) (fits_rest t old g.0 packets g.2 fit)

-- the frame that entered is that of the tree, and what fitted before fits its journal
module _ (t : ℕ) (name : List ℕ) (old : List JEntry) (frame new : Journaled) (seen : List JEntry) (added : List JEntry) (named : name ≡ t ∷ []) (own : frame.tree ∷ [] ≡ name)
    (others : GrowsByOthers maker_of 0 1 old frame.journal) (more : new ≡ grown added frame) (same : seen ≡ new.journal) where
  entered : (packets : List Packet) → Fits t old packets → Fits frame.tree frame.journal packets
  entered packets fit = subst (λ (u : ℕ). Fits u frame.journal packets) (sym (same_tree name t frame.tree named own)) (fits_others t old frame.journal packets others fit)

  left : (packets : List Packet) → Fits new.tree new.journal packets → Fits t seen packets
  left packets fit =
      subst (λ (z : ℕ × List JEntry). Fits z.0 z.1 packets) (λ i. ((ap (λ (j : Journaled). j.tree) more ∙ same_tree name t frame.tree named own) i, sym same i)) fit

  pub keeps_fits : KeepsFitting frame new → KeepsFits t old seen
  keeps_fits keeps = λ packets fit. left packets (keeps packets (entered packets fit))

  pub fits_with : (r : Result (Option Parcel) NoMemory) → FitsWith frame r new → SeenFitsWith t old r seen
  fits_with r keeps = λ packets fit. left (packets ++ packets_of_pass r) (keeps packets (entered packets fit))

-- ---- a stay that passed

pub broken_stay : (t : ℕ) (old : List JEntry) (frame new : Journaled) (seen : List JEntry) → frame.tree ≡ t → GrowsByOthers maker_of 0 1 old frame.journal → seen ≡ new.journal
    → (new ≡ grown [] frame) ⊎ ((pending (frame_of frame.tree frame.journal) ≡ true) × (new ≡ grown (Short ∷ []) frame)) → IsUnmade old seen t
broken_stay t old frame new seen own others same how =
    ⊎_elim
    (λ e. inl (record { before = frame.journal; others = others; grown = same ∙ ap (λ (j : Journaled). j.journal) e; answer = tt }))
    (λ e. inr (record { before = frame.journal; others = others; grown = same ∙ ap (λ (j : Journaled). j.journal) e.1; answer = subst (λ (u : ℕ). pending (frame_of u frame.journal) ≡ true) own e.0 }))
    how

-- ---- answers that are known by their variant

module _ {A E : Type 0} where
  pub if_ok : (r : Result A E) (P R : A → Type 0) (Q : Type 0) → IfOk r P → OnOk r Q → ((a : A) → P a → Q → R a) → IfOk r R
  if_ok (Ok a) P R Q p q f = f a p q
  if_ok (Err e) P R Q p q f = tt

  pub on_err : (r : Result A E) (P R : Type 0) → OnErr r P → (P → R) → OnErr r R
  on_err (Ok a) P R p f = tt
  on_err (Err e) P R p f = f p

-- ---- what a pass of the frame gave

pub made_of : (out : PassOut) (t : ℕ) (journal : List JEntry) → is_nothing out ≡ not (pending (frame_of t journal)) → IfMade out (λ p resumed updates. IsPass t (frame_of t journal) p) → IfMade out (λ p resumed updates. resumed ≡ is_short t journal)
    → IfMade out (λ p resumed updates. updates ≡ map update_note p.bundle) → IsMade t (parcel_of out) journal
made_of outs.Nothing t journal nothing is resumed updates = by_go (pending (frame_of t journal)) (λ q. let bad : true ≡ false = nothing ∙ ap not q in absurd (cc)) (λ q. q)
made_of (outs.Made p r u) t journal nothing is resumed updates = record {
  due = by_go (pending (frame_of t journal)) (λ q. q) (λ q. let bad : false ≡ true = nothing ∙ ap not q in absurd (cc));
  packet = is;
  note = λ i. record { pass = p.pass; base = p.base; token = p.token; resumed = resumed i; updates = updates i };
}

pub fits_out : (out : PassOut) (old new : Journaled) → PassFits old (Ok out) new → FitsWith old (Ok (parcel_of out)) new
fits_out outs.Nothing old new keeps = λ packets fit. subst (λ l. Fits new.tree new.journal l) (sym (append-nil packets)) (keeps packets fit)
fits_out (outs.Made p r u) old new keeps = keeps

pub fits_err : (old new : Journaled) (e : NoMemory) → PassFits old (Err e) new → FitsWith old (Err e) new
fits_err old new e keeps = λ packets fit. subst (λ l. Fits new.tree new.journal l) (sym (append-nil packets)) (keeps packets fit)

pub fits_none : (old new : Journaled) (e : NoMemory) → new ≡ old → FitsWith old (Err e) new
fits_none old new e same = λ packets fit. subst (λ (z : Journaled × List Packet). Fits z.0.tree z.0.journal z.1) (λ i. (sym same i, sym (append-nil packets) i)) fit

pub broken_out : (inside old new : Journaled) → inside ≡ old → (new ≡ inside) ⊎ ((pending (frame_of inside.tree inside.journal) ≡ true) × (new ≡ with_entry Short inside))
    → (new ≡ grown [] old) ⊎ ((pending (frame_of old.tree old.journal) ≡ true) × (new ≡ grown (Short ∷ []) old))
broken_out inside old new same how =
    ⊎_elim
    (λ e. inl (none_grown old new (e ∙ same)))
    (λ e. inr (subst (λ (j : Journaled). pending (frame_of j.tree j.journal) ≡ true) same e.0, e.1 ∙ ap (with_entry Short) same))
    how
