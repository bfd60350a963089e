-- The form of a mark on the place above.
use Rattle.std.proofs.Common.{ℕ, ◌+◌, ◌-◌, ◌≡◌, Option, Some, None, sym, ap, ◌∙◌, option_map, option_and_then, List}
use Rattle.std.specs.Prelude.{Result, Ok}
use Rattle.ax_base.specs.declared.position.Place.{Place}
use Rattle.ax_base.specs.declared.position.Pos.{Pos}
use Rattle.ax_base.specs.declared.position.Pos.TheVariants.{Text}
use Rattle.ax_base.specs.declared.position.PosErr.{PosErr}
use Rattle.ax_rules.specs.Stitched.{Placed, find_placed, parent_of}
use Rattle.ax_rules.specs.Texts.{capped, start_of}
use Rattle.ax_rules.specs.Positions.{Mark, global_offset, text_pos, up_form}
use Rattle.ax_position.specs.Marks.{of_mark}

up_none : (l : List Placed) (m : Mark) → None ≡ option_and_then parent_of (find_placed l m.place) → ◌≡◌ {A = Option Pos} None (up_form l m)
unfolding up_form
up_none l m h = ap (option_map (λ p. text_pos l p (global_offset l m) m.affinity)) h

up_some : (l : List Placed) (m : Mark) (p : Place) (start g from : ℕ) (x : Pos) → Some p ≡ option_and_then parent_of (find_placed l m.place) → start ≡ start_of l m.place → g ≡ capped (start + m.offset) → from ≡ start_of l p
    → x ≡ Text p.tree p.node (g - from) m.affinity → ◌≡◌ {A = Option Pos} (Some x) (up_form l m)
unfolding up_form global_offset
up_some l m p start g from x h s e k t =
    ap (λ v. Some v) (t ∙ (ap (λ n. Text p.tree p.node (g - n) m.affinity) k ∙ ap (λ n. Text p.tree p.node (n - start_of l p) m.affinity) (e ∙ ap (λ n. capped (n + m.offset)) s)))
    ∙ ap (option_map (λ p. text_pos l p (global_offset l m) m.affinity)) h

pub up_none_told : (l : List Placed) (m : Mark) (r : Result Mark PosErr) (q : Place) → Ok m ≡ r → m.place ≡ q → None ≡ option_and_then parent_of (find_placed l q) → ◌≡◌ {A = Result (Option Pos) PosErr} (Ok None) (of_mark (up_form l) r)
up_none_told l m r q e s h = ap (λ v. Ok v) (up_none l m (h ∙ ap (λ v. option_and_then parent_of (find_placed l v)) (sym s))) ∙ ap (of_mark (up_form l)) e

pub up_some_told : (l : List Placed) (m : Mark) (r : Result Mark PosErr) (q p : Place) (start g from : ℕ) (x : Pos) → Ok m ≡ r → m.place ≡ q → Some p ≡ option_and_then parent_of (find_placed l q) → start ≡ start_of l m.place
    → g ≡ capped (start + m.offset) → from ≡ start_of l p → x ≡ Text p.tree p.node (g - from) m.affinity → ◌≡◌ {A = Result (Option Pos) PosErr} (Ok (Some x)) (of_mark (up_form l) r)
up_some_told l m r q p start g from x e s h a b c d =
    ap (λ v. Ok v) (up_some l m p start g from x (h ∙ ap (λ v. option_and_then parent_of (find_placed l v)) (sym s)) a b c d) ∙ ap (of_mark (up_form l)) e
