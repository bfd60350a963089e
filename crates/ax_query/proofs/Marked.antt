-- Replies on positions: what a call tells of a position's mark, or its refusal, is the rule's reply.
use Rattle.std.proofs.Common.{ℕ, ◌≡◌, List, Option, Some, None, Result, Ok, Err, refl, sym, ap}
use Rattle.std.specs.declared.cmp.Ordering.{Ordering}
use Rattle.ax_base.specs.declared.position.Pos as position
use Rattle.ax_base.specs.declared.position.PosErr.{PosErr}
use Rattle.ax_base.specs.declared.position.PosErr.TheVariants as refusals
use Rattle.ax_ask.specs.declared.reply.Reply.{Reply}
use Rattle.ax_ask.specs.declared.reply.Reply.TheVariants as replies
use Rattle.ax_ask.specs.declared.query.Query.TheVariants as queries
use Rattle.ax_tree.specs.Forest.{Forest}
use Rattle.ax_rules.specs.Stitched.{stitched}
use Rattle.ax_rules.specs.Positions.{Mark, checked, global_offset, up_form, position_order, range_text}
use Rattle.ax_run_rules.specs.Replies.{answer_of, of_pos, mark_reply, pos_or, refusal_reply}
use Rattle.ax_position.specs.Marks.{of_mark}
use Rattle.ax_position.specs.Forms.{leaf_of_mark, if_some}
use Rattle.ax_position.specs.Ranks.{of_marks}
use Rattle.ax_position.specs.Ranges.{is_text}

-- ---- one position

pub told_by : {A : Type 0} (c : Result Mark PosErr) (tell : Mark → A) (say : A → Reply) (a : A) → Ok a ≡ of_mark tell c → say a ≡ mark_reply c (λ m. say (tell m))
told_by (Ok m) tell say a e = let same : a ≡ tell m = cc in ap say same
told_by (Err r) tell say a e = absurd (cc)

pub refused_by : {A : Type 0} (c : Result Mark PosErr) (tell : Mark → A) (reply : Mark → Reply) (r : PosErr) → Err r ≡ of_mark tell c → refusal_reply r ≡ mark_reply c reply
refused_by (Ok m) tell reply r e = absurd (cc)
refused_by (Err x) tell reply r e = let same : r ≡ x = cc in ap refusal_reply same

pub offset_told : (f : Forest) (x : position.Pos) (o : ℕ) → Ok o ≡ of_mark (global_offset (stitched f)) (checked f x) → replies.Offset o ≡ answer_of f (queries.Offset x)
unfolding answer_of of_pos
offset_told f x o e = told_by (checked f x) (global_offset (stitched f)) replies.Offset o e

pub offset_refused : (f : Forest) (x : position.Pos) (r : PosErr) → Err r ≡ of_mark (global_offset (stitched f)) (checked f x) → refusal_reply r ≡ answer_of f (queries.Offset x)
unfolding answer_of of_pos
offset_refused f x r e = refused_by (checked f x) (global_offset (stitched f)) (λ m. replies.Offset (global_offset (stitched f) m)) r e

pub up_told : (f : Forest) (x : position.Pos) (o : Option position.Pos) → Ok o ≡ of_mark (up_form (stitched f)) (checked f x) → pos_or replies.NoParent o ≡ answer_of f (queries.Up x)
unfolding answer_of of_pos
up_told f x o e = told_by (checked f x) (up_form (stitched f)) (pos_or replies.NoParent) o e

pub up_refused : (f : Forest) (x : position.Pos) (r : PosErr) → Err r ≡ of_mark (up_form (stitched f)) (checked f x) → refusal_reply r ≡ answer_of f (queries.Up x)
unfolding answer_of of_pos
up_refused f x r e = refused_by (checked f x) (up_form (stitched f)) (λ m. pos_or replies.NoParent (up_form (stitched f) m)) r e

-- a leaf form, or the refusal of a place that has none
leaf_by : (c : Result Mark PosErr) (tell : Mark → Option position.Pos) (a : position.Pos) → Ok a ≡ if_some (of_mark tell c) → replies.Pos a ≡ mark_reply c (λ m. pos_or replies.NoNode (tell m))
leaf_by (Ok m) tell a e = some (tell m) e
  where
    some : (o : Option position.Pos) → Ok a ≡ if_some (Ok o) → replies.Pos a ≡ pos_or replies.NoNode o
    some None h = absurd (cc)
    some (Some q) h = let same : a ≡ q = cc in ap replies.Pos same
leaf_by (Err r) tell a e = absurd (cc)

no_leaf_by : (c : Result Mark PosErr) (tell : Mark → Option position.Pos) (r : PosErr) → Err r ≡ if_some (of_mark tell c) → refusal_reply r ≡ mark_reply c (λ m. pos_or replies.NoNode (tell m))
no_leaf_by (Ok m) tell r e = some (tell m) e
  where
    some : (o : Option position.Pos) → Err r ≡ if_some (Ok o) → refusal_reply r ≡ pos_or replies.NoNode o
    some None h = let same : r ≡ refusals.NoNode = cc in ap refusal_reply same
    some (Some q) h = absurd (cc)
no_leaf_by (Err x) tell r e = let same : r ≡ x = cc in ap refusal_reply same

pub leaf_told : (f : Forest) (x : position.Pos) (a : position.Pos) → Ok a ≡ if_some (of_mark (leaf_of_mark (stitched f)) (checked f x)) → replies.Pos a ≡ answer_of f (queries.Leaf x)
unfolding answer_of of_pos leaf_of_mark
leaf_told f x a e = leaf_by (checked f x) (leaf_of_mark (stitched f)) a e

pub leaf_refused : (f : Forest) (x : position.Pos) (r : PosErr) → Err r ≡ if_some (of_mark (leaf_of_mark (stitched f)) (checked f x)) → refusal_reply r ≡ answer_of f (queries.Leaf x)
unfolding answer_of of_pos leaf_of_mark
leaf_refused f x r e = no_leaf_by (checked f x) (leaf_of_mark (stitched f)) r e

-- ---- two positions

both_by : {A : Type 0} (c d : Result Mark PosErr) (tell : Mark → Mark → A) (say : A → Reply) (a : A) → Ok a ≡ of_marks tell c d → say a ≡ mark_reply c (λ m. mark_reply d (λ n. say (tell m n)))
both_by (Ok m) (Ok n) tell say a e = let same : a ≡ tell m n = cc in ap say same
both_by (Ok m) (Err r) tell say a e = absurd (cc)
both_by (Err r) d tell say a e = absurd (cc)

one_by : {A : Type 0} (c d : Result Mark PosErr) (tell : Mark → Mark → A) (reply : Mark → Mark → Reply) (r : PosErr) → Err r ≡ of_marks tell c d
    → refusal_reply r ≡ mark_reply c (λ m. mark_reply d (λ n. reply m n))
one_by (Ok m) (Ok n) tell reply r e = absurd (cc)
one_by (Ok m) (Err x) tell reply r e = let same : r ≡ x = cc in ap refusal_reply same
one_by (Err x) d tell reply r e = let same : r ≡ x = cc in ap refusal_reply same

pub order_told : (f : Forest) (x y : position.Pos) (o : Ordering) → Ok o ≡ of_marks (position_order (stitched f)) (checked f x) (checked f y) → replies.Order o ≡ answer_of f (queries.Compare x y)
unfolding answer_of of_pos
order_told f x y o e = both_by (checked f x) (checked f y) (position_order (stitched f)) replies.Order o e

pub order_refused : (f : Forest) (x y : position.Pos) (r : PosErr) → Err r ≡ of_marks (position_order (stitched f)) (checked f x) (checked f y) → refusal_reply r ≡ answer_of f (queries.Compare x y)
unfolding answer_of of_pos
order_refused f x y r e = one_by (checked f x) (checked f y) (position_order (stitched f)) (λ m n. replies.Order (position_order (stitched f) m n)) r e

pub text_told : (f : Forest) (x y : position.Pos) (t : List ℕ) → Ok t ≡ of_marks (range_text (stitched f)) (checked f x) (checked f y) → replies.Text t ≡ answer_of f (queries.Text x y)
unfolding answer_of of_pos
text_told f x y t e = both_by (checked f x) (checked f y) (range_text (stitched f)) replies.Text t e

pub text_refused : (f : Forest) (x y : position.Pos) (r : PosErr) → Err r ≡ of_marks (range_text (stitched f)) (checked f x) (checked f y) → refusal_reply r ≡ answer_of f (queries.Text x y)
unfolding answer_of of_pos
text_refused f x y r e = one_by (checked f x) (checked f y) (range_text (stitched f)) (λ m n. replies.Text (range_text (stitched f) m n)) r e

-- a text's refusal but for want of memory
pub plain_refusal : (r : PosErr) (c : Result (List ℕ) PosErr) → (r ≡ refusals.NoMemory → ⊥) → is_text (Err r) c → Err r ≡ c
plain_refusal refusals.NoTree c n h = sym h
plain_refusal refusals.NoNode c n h = sym h
plain_refusal (refusals.BadIndex i k) c n h = sym h
plain_refusal (refusals.BadOffset o k) c n h = sym h
plain_refusal refusals.NoMemory c n h = absurd (n refl)
