-- The next line of a list, found by its place.
use Rattle.std.proofs.Common.{ℕ, ◌+◌, ◌-◌, ◌≡◌, List, ◌++◌, set, slice_get, sym, ap, ◌∙◌, Some, arith}
use Rattle.ax_ask.specs.declared.line.Line.{Line}
use Rattle.ax_run_rules.specs.LineText.{line_text}
use Rattle.ax_placed.specs.declared.told.FrameTold.{FrameTold}
use Rattle.ax_placed.specs.Placing.{FrameGoesOn, ReaderGoesOn}

same_some : {X : Type 0} (x y : X) → Some x ≡ Some y → x ≡ y
same_some x y h = cc

abbrev pub Puts : List Line → ℕ → ℕ → List ℕ → List ℕ → Type 0
Puts lines at next old new = (x : Line) → slice_get lines at ≡ Some x → (next ≡ at + 1) × (new ≡ old ++ line_text x)

pub frame_put : (frames : List FrameTold) (places frame_at : List ℕ) (tree : ℕ) (n : FrameGoesOn frames places frame_at tree) (t place at next : ℕ) (f : FrameTold) (lines : List Line) (old new : List ℕ)
    → t ≡ tree → slice_get places t ≡ Some place → slice_get frames place ≡ Some f → slice_get frame_at place ≡ Some at → lines ≡ f.lines → Puts lines at next old new
    → (set frame_at place next ≡ set frame_at n.place (n.at + 1)) × (new ≡ old ++ line_text n.line)
frame_put frames places frame_at tree n t place at next f lines old new e p g b l puts =
    let here : place ≡ n.place = same_some place n.place (sym p ∙ (ap (slice_get places) e ∙ n.placed)) in
    let frame : f ≡ n.frame = same_some f n.frame (sym g ∙ (ap (slice_get frames) here ∙ n.framed)) in
    let from : at ≡ n.at = same_some at n.at (sym b ∙ (ap (slice_get frame_at) here ∙ n.begun)) in
    let there : slice_get lines at ≡ Some n.line = ap (λ x. slice_get x at) (l ∙ ap (λ (x : FrameTold). x.lines) frame) ∙ (ap (slice_get n.frame.lines) from ∙ n.there) in
    let r = puts n.line there in
    (ap (λ i. set frame_at i next) here ∙ ap (set frame_at n.place) (r.0 ∙ ap (λ i. i + 1) from), r.1)

pub reader_put : (readers : List (List Line)) (reader_at : List ℕ) (number : ℕ) (n : ReaderGoesOn readers reader_at number) (place at next : ℕ) (own lines : List Line) (old new : List ℕ)
    → place ≡ number - 1 → slice_get readers place ≡ Some own → slice_get reader_at place ≡ Some at → lines ≡ own → Puts lines at next old new
    → (set reader_at place next ≡ set reader_at n.place (n.at + 1)) × (new ≡ old ++ line_text n.line)
reader_put readers reader_at number n place at next own lines old new e g b l puts =
    let here : place ≡ n.place = let s = n.numbered in omega (arith, e, s) in
    let list : own ≡ n.lines = same_some own n.lines (sym g ∙ (ap (slice_get readers) here ∙ n.listed)) in
    let from : at ≡ n.at = same_some at n.at (sym b ∙ (ap (slice_get reader_at) here ∙ n.begun)) in
    let there : slice_get lines at ≡ Some n.line = ap (λ x. slice_get x at) (l ∙ list) ∙ (ap (slice_get n.lines) from ∙ n.there) in
    let r = puts n.line there in
    (ap (λ i. set reader_at i next) here ∙ ap (set reader_at n.place) (r.0 ∙ ap (λ i. i + 1) from), r.1)
