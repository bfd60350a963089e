-- How replies are printed.
use Rattle.std.specs.Prelude.{ℕ, List, [], codes, unwrap_or}
use Rattle.std.specs.declared.cmp.Ordering.{Ordering}
use Rattle.std.specs.declared.cmp.Ordering.TheVariants.{Less, Equal, Greater}
use Rattle.std.specs.Fmt.{decimal}
use Rattle.ax_base.specs.declared.position.Pos as position
use Rattle.ax_base.specs.declared.position.Pos.TheVariants as positions
use Rattle.ax_attrs.specs.Entry.{name_of}
use Rattle.ax_attrs.specs.Tables.{role_rows}
use Rattle.ax_ask.specs.Words.{affinity_name}
use Rattle.ax_ask.specs.declared.reply.Reply.{Reply}
use Rattle.ax_ask.specs.declared.reply.Reply.TheVariants as replies
use Rattle.ax_rules.specs.Stitched.{place_at}
use Rattle.ax_run_rules.specs.Writing.{◌⌢◌, listing, with_number, with_numbers, quoted, place_text, area_text}

abbrev pub role_text : ℕ → List ℕ
role_text r = unwrap_or (name_of role_rows r) []

-- a reply has text positions alone
abbrev pub pos_text : position.Pos → List ℕ
pos_text positions.Null = codes "null"
pos_text (positions.Tree t z c) = place_text (place_at t z) ⌢ codes " child " ⌢ decimal c
pos_text (positions.Text t z o a) = place_text (place_at t z) ⌢ codes " text " ⌢ decimal o ⌢ codes " " ⌢ affinity_name a

abbrev pub order_name : Ordering → List ℕ
order_name Less = codes "Less"
order_name Equal = codes "Equal"
order_name Greater = codes "Greater"

unfoldable pub reply_text : Reply → List ℕ
reply_text (replies.Place p) = place_text p
reply_text (replies.Places ps) = listing place_text ps
reply_text (replies.Node r n) = with_number (role_text r) n
reply_text (replies.Order o) = order_name o
reply_text (replies.Offset n) = decimal n
reply_text (replies.Pos x) = pos_text x
reply_text (replies.Text s) = quoted s
reply_text (replies.Bounds x y w h) = area_text x y w h
reply_text replies.NoTree = codes "NoTree"
reply_text replies.NoNode = codes "NoNode"
reply_text (replies.BadIndex i n) = with_numbers (codes "BadIndex") i n
reply_text (replies.BadOffset o n) = with_numbers (codes "BadOffset") o n
reply_text replies.NoHit = codes "NoHit"
reply_text replies.NoFocus = codes "NoFocus"
reply_text replies.NoParent = codes "NoParent"
reply_text replies.AtStart = codes "AtStart"
reply_text replies.AtEnd = codes "AtEnd"
reply_text replies.Ignored = codes "Ignored"
