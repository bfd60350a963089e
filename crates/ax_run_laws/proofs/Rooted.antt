-- A source that has a root keeps one; so a frame whose source has none has made no packet.
use Rattle.std.proofs.Common.{ℕ, ◌≡◌, Bool, true, false, not, ◌&&◌, ◌||◌, if◌then◌else◌, List, [], ◌∷◌, ◌++◌, refl, sym, ap, ◌∙◌, Option, Some, None, true≢false, is_none}
use Rattle.ax_node.specs.Look.{Look}
use Rattle.ax_trees.specs.Trees.{Trees, bare, tree, is_bare, root_of}
use Rattle.ax_trees.specs.Lists.{is_nil}
use Rattle.ax_tree.specs.declared.edit.Edit.{Edit}
use Rattle.ax_tree.specs.declared.packet.Packet.{Packet}
use Rattle.ax_tree.specs.declared.packet.JEntry.{JEntry}
use Rattle.ax_tree.specs.declared.packet.JEntry.TheVariants as entries
use Rattle.ax_tree.specs.Tree.{Tree}
use Rattle.ax_tree.specs.Edits.{edited, refusal}
use Rattle.ax_tree.specs.Serialised.{InStep}
use Rattle.ax_tree.specs.Journals.{Frame, new_frame, after_entry, frame_from, packet_at, made_at, made_from, packets_of, source_of, source_after, source_from, edit_taken}
use Rattle.ax_laws.proofs.FrameSteps.{Kept, kept_entry, kept_new, frame_source, edit_in_step, self_in_step}

root_is : (f : Trees Look) → is_bare f ≡ false → (y : ℕ) × (root_of f ≡ Some y)
root_is bare h = absurd (true≢false h)
root_is (tree i x inner others) h = (i, refl)

rooted_is : (f : Trees Look) (z : ℕ) → root_of f ≡ Some z → is_bare f ≡ false
rooted_is bare z h = absurd (cc)
rooted_is (tree i x inner others) z h = refl

none_is : {A : Type 0} (o : Option A) → is_none o ≡ true → o ≡ None
none_is None h = refl
none_is (Some a) h = absurd (true≢false (sym h))

-- an accepted edit leaves a root where there was one
edit_roots : (e : Edit) (s : Tree) → InStep s s [] false false → refusal e s ≡ None → is_bare s.trees ≡ false → is_bare (edited e s).trees ≡ false
edit_roots e s st h n =
    let y = root_is s.trees n in
    let z = (edit_in_step e s s [] false false st h).trees.root_fits y.0 y.1 in
    rooted_is (edited e s).trees z.0 z.1

taken_roots : (e : Edit) (s : Tree) → InStep s s [] false false → is_bare s.trees ≡ false → is_bare (edit_taken e s).trees ≡ false
taken_roots e s st n = go (is_none (refusal e s)) refl
  where
    go : (b : Bool) → is_none (refusal e s) ≡ b → is_bare (if b then edited e s else s).trees ≡ false
    go true q = edit_roots e s st (none_is (refusal e s) q) n
    go false q = n

entry_roots : (e : JEntry) (s : Tree) → InStep s s [] false false → is_bare s.trees ≡ false → is_bare (source_after e s).trees ≡ false
entry_roots (entries.Edited e) s st n = taken_roots e s st n
entry_roots (entries.Marked z) s st n = n
entry_roots (entries.MarkedBelow z) s st n = n
entry_roots entries.Passed s st n = n
entry_roots entries.Short s st n = n
entry_roots (entries.Delivered k) s st n = n

after_roots : (t : ℕ) (e : JEntry) (f : Frame) → Kept t f → is_bare f.source.trees ≡ false → is_bare (after_entry t e f).source.trees ≡ false
after_roots t e f k n =
    ap (λ (s : Tree). is_bare s.trees) (frame_source t (e ∷ []) f) ∙ entry_roots e f.source (self_in_step f.source k.step.trees.source k.step.trees.source_low false) n

from_roots : (t : ℕ) (es : List JEntry) (f : Frame) → Kept t f → is_bare f.source.trees ≡ false → is_bare (frame_from t es f).source.trees ≡ false
from_roots t [] f k n = n
from_roots t (e ∷ es) f k n = from_roots t es (after_entry t e f) (kept_entry t e f k) (after_roots t e f k n)

no_pass : (a b : Bool) (p : Packet) → a ≡ true → (if not a && b then p ∷ [] else []) ≡ []
no_pass a b p h = rw h refl

none_made : (t : ℕ) (e : JEntry) (f : Frame) → is_bare f.source.trees ≡ true → made_at t e f ≡ []
none_made t (entries.Edited e) f h = refl
none_made t (entries.Marked z) f h = refl
none_made t (entries.MarkedBelow z) f h = refl
none_made t entries.Passed f h = no_pass (is_bare f.source.trees) (is_bare f.sent.trees || (not (is_nil f.marks) || f.flag)) (packet_at t f) h
none_made t entries.Short f h = refl
none_made t (entries.Delivered n) f h = refl

both_none : (xs ys : List Packet) → xs ≡ [] → ys ≡ [] → xs ++ ys ≡ []
both_none xs ys h k = rw (h, k) refl

made_none : (t : ℕ) (es : List JEntry) (f : Frame) → Kept t f → is_bare (frame_from t es f).source.trees ≡ true → made_from t es f ≡ []
made_none t [] f k h = refl
made_none t (e ∷ es) f k h = go (is_bare f.source.trees) refl (λ q. made_none t es (after_entry t e f) (kept_entry t e f k) q)
  where
    go : (b : Bool) → is_bare f.source.trees ≡ b → (is_bare (frame_from t es (after_entry t e f)).source.trees ≡ true → made_from t es (after_entry t e f) ≡ []) → made_at t e f ++ made_from t es (after_entry t e f) ≡ []
    go true q ih = both_none (made_at t e f) (made_from t es (after_entry t e f)) (none_made t e f q) (ih h)
    go false q ih = absurd (true≢false (sym h ∙ from_roots t (e ∷ es) f k q))

pub no_packets : (t : ℕ) (j : List JEntry) → is_bare (source_of t j).trees ≡ true → packets_of t j ≡ []
no_packets t j h = made_none t j (new_frame t) (kept_new t) (ap (λ (s : Tree). is_bare s.trees) (frame_source t j (new_frame t)) ∙ h)

pub source_of-append : (t : ℕ) (j : List JEntry) (e : JEntry) → source_of t (j ++ e ∷ []) ≡ source_after e (source_of t j)
source_of-append t j e = go j (new_frame t).source e
  where
    go : (es : List JEntry) (s : Tree) (x : JEntry) → source_from (es ++ x ∷ []) s ≡ source_after x (source_from es s)
    go [] s x = refl
    go (y ∷ es) s x = go es (source_after y s) x
