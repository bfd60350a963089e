-- Replies on moves: the bound that a walk finds, and the position there, are the rule's.
use Rattle.std.proofs.Common.{ℕ, ◌≡◌, List, Option, Some, None, Ok, Err, ap, ◌∙◌, option_and_then}
use Rattle.ax_base.specs.declared.position.Affinity.TheVariants.{Down}
use Rattle.ax_base.specs.declared.position.Pos as position
use Rattle.ax_base.specs.declared.position.PosErr.{PosErr}
use Rattle.ax_base.specs.declared.position.Unit.{Unit as Step}
use Rattle.ax_base.specs.declared.position.Way.{Way}
use Rattle.ax_ask.specs.declared.query.Query.TheVariants as queries
use Rattle.ax_tree.specs.Forest.{Forest}
use Rattle.ax_rules.specs.Stitched.{Placed, stitched}
use Rattle.ax_rules.specs.Positions.{checked, global_offset, leaf_form}
use Rattle.ax_rules.specs.Moves.{bound_of, first_place, move_of}
use Rattle.ax_position.specs.Forms.{leaf_at_offset}
use Rattle.ax_run_rules.specs.Replies.{answer_of, of_pos, pos_or, at_end, refusal_reply}
use Rattle.ax_position.specs.Marks.{of_mark}
use Rattle.ax_query.specs.Moved.{moved_to}
use Rattle.ax_query.proofs.Marked.{told_by, refused_by}

pub at_bound : (l : List Placed) (u : Step) (w : Way) (o b : ℕ) (r : Option position.Pos) → Some b ≡ bound_of l u w o → r ≡ leaf_at_offset l b → r ≡ moved_to l u w o
unfolding moved_to leaf_at_offset
at_bound l u w o b r e h = h ∙ ap (option_and_then (λ (g : ℕ). option_and_then (λ p. leaf_form l p g Down) (first_place l))) e

pub at_none : (l : List Placed) (u : Step) (w : Way) (o : ℕ) → None ≡ bound_of l u w o → None ≡ moved_to l u w o
unfolding moved_to leaf_at_offset
at_none l u w o e = ap (option_and_then (λ (g : ℕ). option_and_then (λ p. leaf_form l p g Down) (first_place l))) e

pub move_told : (f : Forest) (x : position.Pos) (u : Step) (w : Way) (o : ℕ) → Ok o ≡ of_mark (global_offset (stitched f)) (checked f x)
    → pos_or (at_end w) (moved_to (stitched f) u w o) ≡ answer_of f (queries.Move x u w)
unfolding answer_of of_pos move_of moved_to
move_told f x u w o e = told_by (checked f x) (global_offset (stitched f)) (λ k. pos_or (at_end w) (moved_to (stitched f) u w k)) o e

pub move_refused : (f : Forest) (x : position.Pos) (u : Step) (w : Way) (r : PosErr) → Err r ≡ of_mark (global_offset (stitched f)) (checked f x) → refusal_reply r ≡ answer_of f (queries.Move x u w)
unfolding answer_of of_pos
move_refused f x u w r e = refused_by (checked f x) (global_offset (stitched f)) (λ m. pos_or (at_end w) (move_of (stitched f) u w m)) r e
