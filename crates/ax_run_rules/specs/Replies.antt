-- The reply to a query over a forest.
use Rattle.std.specs.Prelude.{if◌then◌else◌, List, length, Option, Some, None, Result, Ok, Err}
use Rattle.ax_base.specs.Area.{Area}
use Rattle.ax_base.specs.declared.position.Place.{Place}
use Rattle.ax_base.specs.declared.position.Pos as position
use Rattle.ax_base.specs.declared.position.PosErr.{PosErr}
use Rattle.ax_base.specs.declared.position.PosErr.TheVariants as refusals
use Rattle.ax_base.specs.declared.position.Way.{Way}
use Rattle.ax_base.specs.declared.position.Way.TheVariants as ways
use Rattle.ax_ask.specs.declared.query.Query.{Query}
use Rattle.ax_ask.specs.declared.query.Query.TheVariants as queries
use Rattle.ax_ask.specs.declared.reply.Reply.{Reply}
use Rattle.ax_ask.specs.declared.reply.Reply.TheVariants as replies
use Rattle.ax_tree.specs.Forest.{Forest}
use Rattle.ax_rules.specs.Stitched.{Placed, stitched, places, find_placed, parent_of, children_of, next_in, prev_in}
use Rattle.ax_rules.specs.Extents.{place_extent}
use Rattle.ax_rules.specs.Hit.{hit_of}
use Rattle.ax_rules.specs.Focus.{focus_of}
use Rattle.ax_rules.specs.Positions.{Mark, is_live, checked, global_offset, leaf_form, up_form, position_order, range_text}
use Rattle.ax_rules.specs.Moves.{move_of}
use Rattle.ax_rules.specs.Unignored.{is_unignored, shown_parent, shown_children, shown_next, shown_prev, shown_text}

-- a place, or the reply where there is none
abbrev pub place_or : Reply → Option Place → Reply
place_or r None = r
place_or r (Some p) = replies.Place p

abbrev pub pos_or : Reply → Option position.Pos → Reply
pos_or r None = r
pos_or r (Some x) = replies.Pos x

abbrev pub bounds_or : Reply → Option Area → Reply
bounds_or r None = r
bounds_or r (Some a) = replies.Bounds a.x a.y a.w a.h

-- a reply on the shown list
abbrev pub if_shown : Placed → Reply → Reply
if_shown s r = if is_unignored s then r else replies.Ignored

-- what `reply` says of the place in the list, or its refusal
abbrev pub placed_reply : Option Placed → (Placed → Reply) → Reply
placed_reply None reply = replies.NoNode
placed_reply (Some s) reply = reply s

unfoldable pub of_place : Forest → Place → (List Placed → Placed → Reply) → Reply
of_place f p reply = if is_live f p.tree then placed_reply (find_placed (stitched f) p) (reply (stitched f)) else replies.NoTree

-- the reply that names why a position is refused; the rule of positions never refuses for want of memory
abbrev pub refusal_reply : PosErr → Reply
refusal_reply refusals.NoTree = replies.NoTree
refusal_reply refusals.NoNode = replies.NoNode
refusal_reply (refusals.BadIndex c n) = replies.BadIndex c n
refusal_reply (refusals.BadOffset o n) = replies.BadOffset o n
refusal_reply refusals.NoMemory = replies.NoNode

-- what `reply` says of a position, or its refusal
abbrev pub mark_reply : Result Mark PosErr → (Mark → Reply) → Reply
mark_reply (Ok m) reply = reply m
mark_reply (Err e) reply = refusal_reply e

unfoldable pub of_pos : Forest → position.Pos → (List Placed → Mark → Reply) → Reply
of_pos f x reply = mark_reply (checked f x) (reply (stitched f))

abbrev pub at_end : Way → Reply
at_end ways.Next = replies.AtEnd
at_end ways.Prev = replies.AtStart

unfoldable pub answer_of : Forest → Query → Reply
answer_of f (queries.Node p) = of_place f p (λ l s. replies.Node s.look.role (length (children_of l p)))
answer_of f (queries.Parent p) = of_place f p (λ l s. place_or replies.NoParent (parent_of s))
answer_of f (queries.Children p) = of_place f p (λ l s. replies.Places (children_of l p))
answer_of f (queries.Next p) = of_place f p (λ l s. place_or replies.AtEnd (next_in (places l) p))
answer_of f (queries.Prev p) = of_place f p (λ l s. place_or replies.AtStart (prev_in (places l) p))
answer_of f (queries.Bounds p) = of_place f p (λ l s. bounds_or replies.NoNode (place_extent f p))
answer_of f (queries.UParent p) = of_place f p (λ l s. if_shown s (place_or replies.NoParent (shown_parent l s)))
answer_of f (queries.UChildren p) = of_place f p (λ l s. if_shown s (replies.Places (shown_children l p)))
answer_of f (queries.UNext p) = of_place f p (λ l s. if_shown s (place_or replies.AtEnd (shown_next l p)))
answer_of f (queries.UPrev p) = of_place f p (λ l s. if_shown s (place_or replies.AtStart (shown_prev l p)))
answer_of f (queries.UText p) = of_place f p (λ l s. if_shown s (replies.Text (shown_text l p)))
answer_of f (queries.Hit at) = place_or replies.NoHit (hit_of f at)
answer_of f queries.Focus = place_or replies.NoFocus (focus_of f)
answer_of f (queries.Offset x) = of_pos f x (λ l m. replies.Offset (global_offset l m))
answer_of f (queries.Leaf x) = of_pos f x (λ l m. pos_or replies.NoNode (leaf_form l m.place (global_offset l m) m.affinity))
answer_of f (queries.Up x) = of_pos f x (λ l m. pos_or replies.NoParent (up_form l m))
answer_of f (queries.Compare x y) = of_pos f x (λ l m. of_pos f y (λ k n. replies.Order (position_order l m n)))
answer_of f (queries.Text x y) = of_pos f x (λ l m. of_pos f y (λ k n. replies.Text (range_text l m n)))
answer_of f (queries.Move x u w) = of_pos f x (λ l m. pos_or (at_end w) (move_of l u w m))
