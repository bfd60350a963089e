use Rattle.std.proofs.Common.{ℕ, refl, sym, ap, ◌∙◌, subst, ◌≡◌, ◌+◌, ◌⊎◌, inl, inr, ◌++◌, List, [], ◌∷◌, set, Some}
use Rattle.ax_base.specs.declared.id.TreeId.{TreeId}
use Rattle.ax_ask.specs.declared.op.Item.{Item}
use Rattle.ax_ask.specs.declared.op.Item.TheVariants.{Receive, Browser}
use Rattle.ax_ask.specs.declared.line.Line.{Line}
use Rattle.ax_order_laws.specs.Told.{line_at}
use Rattle.ax_run_rules.specs.LineText.{line_text}
use Rattle.ax_placed.specs.declared.told.FrameTold.{FrameTold}
use Rattle.ax_placed.specs.declared.told.Told.{Told}
use Rattle.ax_placed.specs.Placing.{told_of, ArePlaces, AreAt, FrameGoesOn, ReaderGoesOn}
use Rattle.ax_placed.proofs.NextLemmas.{Puts}
use Rattle.ax_placed.proofs.ItemLemmas.{frame_item, entry_item, reader_item, if_ok}
use Rattle.ax_placed.proofs.item.put_item.Goals as goal

pub returns-in_ok-put_frame-in-Frame-clause-line : goal.returns-in_ok-put_frame-in-Frame-clause-line
returns-in_ok-put_frame-in-Frame-clause-line c = λ before x at h.
    subst (λ (i : Item). AreAt c.args.told.now (before ++ i ∷ []) c.put_frame.new.frame_at c.args.entry_at c.args.reader_at.now × (c.put_frame.new.out.items ≡ c.args.out.now.items ++ line_text x)) (sym c.in-Frame.is)
    (frame_item c.args.told.now c.args.places.now c.requires before c.args.frame_at.now c.args.entry_at c.args.reader_at.now at c.in-Frame.tree x c.put_frame.new.frame_at c.args.out.now.items c.put_frame.new.out.items
    (ap (line_at (told_of c.args.told.now) before) (sym c.in-Frame.is) ∙ h)
    (subst (λ (fs : List FrameTold). (n : FrameGoesOn fs c.args.places.now c.args.frame_at.now c.in-Frame.tree) → (c.put_frame.new.frame_at ≡ set c.args.frame_at.now n.place (n.at + 1)) × (c.put_frame.new.out.items ≡ c.args.out.now.items ++ line_text n.line))
    c.as_slice.ensures c.in_ok-put_frame-in-Frame.ensures.line))

entry_put : (t : Told) (places : List ℕ) → ArePlaces t.frames places → (item : Item) (before : List Item) (frame_at : List ℕ) (entry_at : ℕ) (reader_at : List ℕ) → AreAt t before frame_at entry_at reader_at
    → ((u : TreeId) × (item ≡ Receive u)) ⊎ (item ≡ Browser) → (x : Line) (next : ℕ) (lines : List Line) (old out : List ℕ) → lines ≡ t.entries → line_at (told_of t) before item ≡ Some x → Puts lines entry_at next old out
    → AreAt t (before ++ item ∷ []) frame_at next reader_at × (out ≡ old ++ line_text x)
entry_put t places p item before frame_at entry_at reader_at at (inl r) x next lines old out e h puts =
    subst (λ (i : Item). AreAt t (before ++ i ∷ []) frame_at next reader_at × (out ≡ old ++ line_text x)) (sym r.1)
    (entry_item t places p before frame_at entry_at reader_at at (Receive r.0) x next lines old out refl (λ u. refl) (λ k. refl) e (ap (line_at (told_of t) before) (sym r.1) ∙ h) puts)
entry_put t places p item before frame_at entry_at reader_at at (inr r) x next lines old out e h puts =
    subst (λ (i : Item). AreAt t (before ++ i ∷ []) frame_at next reader_at × (out ≡ old ++ line_text x)) (sym r)
    (entry_item t places p before frame_at entry_at reader_at at Browser x next lines old out refl (λ u. refl) (λ k. refl) e (ap (line_at (told_of t) before) (sym r) ∙ h) puts)

pub returns-in-Receive-clause-line : goal.returns-in-Receive-clause-line
returns-in-Receive-clause-line c =
    if_ok c.put_next.result _ _ c.put_next.ensures.line (λ next puts before x at h.
    entry_put c.args.told.now c.args.places.now c.requires c.args.item before c.args.frame_at.now c.args.entry_at c.args.reader_at.now at c.in-Receive.is x next c.as_slice-in-Receive.result.now
    c.args.out.now.items c.put_next.new.out.items c.as_slice-in-Receive.ensures h puts)

pub returns-in_ok-put_reader-in-Reader-clause-line : goal.returns-in_ok-put_reader-in-Reader-clause-line
returns-in_ok-put_reader-in-Reader-clause-line c = λ before x at h.
    subst (λ (i : Item). AreAt c.args.told.now (before ++ i ∷ []) c.args.frame_at.now c.args.entry_at c.put_reader.new.reader_at × (c.put_reader.new.out.items ≡ c.args.out.now.items ++ line_text x)) (sym c.in-Reader.is)
    (reader_item c.args.told.now c.args.places.now c.requires before c.args.frame_at.now c.args.entry_at c.args.reader_at.now at c.in-Reader.number x c.put_reader.new.reader_at c.args.out.now.items c.put_reader.new.out.items
    (ap (line_at (told_of c.args.told.now) before) (sym c.in-Reader.is) ∙ h)
    (subst (λ (rs : List (List Line)). (n : ReaderGoesOn rs c.args.reader_at.now c.in-Reader.number) → (c.put_reader.new.reader_at ≡ set c.args.reader_at.now n.place (n.at + 1)) × (c.put_reader.new.out.items ≡ c.args.out.now.items ++ line_text n.line))
    c.as_slice-in-Reader.ensures c.in_ok-put_reader-in-Reader.ensures.line))
