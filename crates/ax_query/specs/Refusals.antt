-- The reply where nothing can be said of a place.
use Rattle.std.specs.Prelude.{not, if◌then◌else◌, Option, Some, None}
use Rattle.ax_base.specs.declared.position.Place.{Place}
use Rattle.ax_ask.specs.declared.reply.Reply.{Reply}
use Rattle.ax_ask.specs.declared.reply.Reply.TheVariants as replies
use Rattle.ax_tree.specs.Forest.{Forest}
use Rattle.ax_rules.specs.Stitched.{stitched, has_place}
use Rattle.ax_rules.specs.Positions.{is_live}
use Rattle.ax_rules.specs.Unignored.{is_shown_place}

-- a tree that isn't live, or a place that isn't in the list
unfoldable pub refusal_at : Forest → Place → Option Reply
refusal_at f p = if not (is_live f p.tree) then Some replies.NoTree else if has_place (stitched f) p then None else Some replies.NoNode

-- or a place of the list that isn't shown
abbrev pub unless_shown : Forest → Place → Option Reply → Option Reply
unless_shown f p (Some r) = Some r
unless_shown f p None = if is_shown_place (stitched f) p then None else Some replies.Ignored

unfoldable pub shown_refusal_at : Forest → Place → Option Reply
shown_refusal_at f p = unless_shown f p (refusal_at f p)
