-- What one more entry or item makes of the rules that go over a whole list: what bodies that keep running values need.
use Rattle.std.proofs.Common.{ℕ, ◌≡◌, ◌||◌, List, [], ◌∷◌, ◌++◌, refl, sym, ap, ◌∙◌, arith, append_assoc, append-nil}
use Rattle.std.proofs.lemmas.List.Folds.{list_any-append}
use Rattle.std.proofs.lemmas.List.Elements.{filter_map-append}
use Rattle.ax_tree.specs.declared.packet.HEntry.{HEntry}
use Rattle.ax_tree.specs.declared.packet.JEntry.{JEntry}
use Rattle.ax_tree.specs.Tree.{Tree, empty}
use Rattle.ax_tree.specs.Journals.{Frame, new_frame, after_entry, frame_from, frame_of}
use Rattle.ax_rules.specs.Histories.{ends, is_gone, packet_in, got, at_after, at_from, applied_pass}
use Rattle.ax_rules.specs.Mirrors.{built_after, built_from, built_of}

pub is_gone-append : (h : List HEntry) (e : HEntry) (t : ℕ) → is_gone (h ++ e ∷ []) t ≡ (is_gone h t || ends t e)
unfolding is_gone
is_gone-append h e t = list_any-append (ends t) h (e ∷ []) ∙ grind arith

pub got-append : (h g : List HEntry) (t : ℕ) → got (h ++ g) t ≡ got h t ++ got g t
unfolding got
got-append h g t = filter_map-append (packet_in t) h g

at_from-append : (t : ℕ) (before : List HEntry) (at : ℕ) (h : List HEntry) (e : HEntry) → at_from t before at (h ++ e ∷ []) ≡ at_after t (before ++ h) (at_from t before at h) e
at_from-append t before at [] e = ap (λ b. at_after t b at e) (sym (append-nil before))
at_from-append t before at (x ∷ h) e =
    at_from-append t (before ++ x ∷ []) (at_after t before at x) h e ∙ ap (λ b. at_after t b (at_from t (before ++ x ∷ []) (at_after t before at x) h) e) (append_assoc before (x ∷ []) h)

pub applied_pass-append : (h : List HEntry) (e : HEntry) (t : ℕ) → applied_pass (h ++ e ∷ []) t ≡ at_after t h (applied_pass h t) e
unfolding applied_pass
applied_pass-append h e t = at_from-append t [] 0 h e

built_from-append : (t : ℕ) (before : List HEntry) (old : Tree) (h : List HEntry) (e : HEntry) → built_from t before old (h ++ e ∷ []) ≡ built_after t (before ++ h) (built_from t before old h) e
built_from-append t before old [] e = ap (λ b. built_after t b old e) (sym (append-nil before))
built_from-append t before old (x ∷ h) e =
    built_from-append t (before ++ x ∷ []) (built_after t before old x) h e ∙ ap (λ b. built_after t b (built_from t (before ++ x ∷ []) (built_after t before old x) h) e) (append_assoc before (x ∷ []) h)

pub built-append : (h : List HEntry) (e : HEntry) (t : ℕ) → built_of (h ++ e ∷ []) t ≡ built_after t h (built_of h t) e
unfolding built_of
built-append h e t = built_from-append t [] (empty t) h e

frame_from-append : (t : ℕ) (j : List JEntry) (e : JEntry) (f : Frame) → frame_from t (j ++ e ∷ []) f ≡ after_entry t e (frame_from t j f)
frame_from-append t [] e f = refl
frame_from-append t (x ∷ j) e f = frame_from-append t j e (after_entry t x f)

pub frame_of-append : (t : ℕ) (j : List JEntry) (e : JEntry) → frame_of t (j ++ e ∷ []) ≡ after_entry t e (frame_of t j)
frame_of-append t j e = frame_from-append t j e (new_frame t)
