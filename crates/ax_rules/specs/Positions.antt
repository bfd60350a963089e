-- Positions: which are refused, their global offsets, leaf form and up form, their order, and the text between two.
use Rattle.std.specs.Prelude.{ℕ, Bool, not, nat_lt, nat_le, ◌+◌, ◌-◌, if◌then◌else◌, List, length, take, drop, filter, flat_map, min, max, is_some, Option, option_map, option_and_then, Result, Ok, Err}
use Rattle.std.specs.declared.cmp.Ordering.{Ordering}
use Rattle.std.specs.declared.cmp.Ordering.TheVariants.{Less, Equal, Greater}
use Rattle.ax_base.specs.declared.position.Place.{Place}
use Rattle.ax_base.specs.declared.position.Affinity.{Affinity}
use Rattle.ax_base.specs.declared.position.Affinity.TheVariants.{Up, Down}
use Rattle.ax_base.specs.declared.position.Pos.{Pos}
use Rattle.ax_base.specs.declared.position.Pos.TheVariants.{Null, Tree, Text}
use Rattle.ax_base.specs.declared.position.PosErr.{PosErr}
use Rattle.ax_base.specs.declared.position.PosErr.TheVariants.{NoTree, NoNode, BadIndex, BadOffset}
use Rattle.ax_tree.specs.Forest.{Forest, live_tree}
use Rattle.ax_rules.specs.Sequences.{first_of, last_of}
use Rattle.ax_rules.specs.Looks.{name_text}
use Rattle.ax_rules.specs.Stitched.{Placed, place_at, stitched, find_placed, has_place, parent_of, children_of, before}
use Rattle.ax_rules.specs.Texts.{capped, leaves_in, text_of, text_len, start_of, document}

-- a position in text: its place, the offset from the place's start, and the affinity
pub record Mark : Type 0 where
  pub place : Place
  pub offset : ℕ
  pub affinity : Affinity

abbrev pub mark : Place → ℕ → Affinity → Mark
mark p o a = record { place = p; offset = o; affinity = a }

unfoldable pub is_live : Forest → ℕ → Bool
is_live f t = is_some (live_tree f t)

-- a position before a child, which stands for the end of the texts of the children before it
unfoldable pub child_mark : List Placed → Place → ℕ → Result Mark PosErr
child_mark l p c =
    let children = children_of l p in
    if nat_lt (length children) c then Err (BadIndex c (length children)) else Ok (mark p (capped (length (flat_map (text_of l) (take c children)))) Down)

unfoldable pub text_mark : List Placed → Place → ℕ → Affinity → Result Mark PosErr
text_mark l p o a = if nat_lt (text_len l p) o then Err (BadOffset o (text_len l p)) else Ok (mark p o a)

-- what is refused first: a tree that isn't live, and a place that isn't in the list
unfoldable pub mark_in : Forest → List Placed → Place → Result Mark PosErr → Result Mark PosErr
mark_in f l p m = if not (is_live f p.tree) then Err NoTree else if has_place l p then m else Err NoNode

-- the text position for which a position stands, or its refusal
unfoldable pub checked : Forest → Pos → Result Mark PosErr
checked f Null = Err NoTree
checked f (Tree t z c) = let l = stitched f in mark_in f l (place_at t z) (child_mark l (place_at t z) c)
checked f (Text t z o a) = let l = stitched f in mark_in f l (place_at t z) (text_mark l (place_at t z) o a)

unfoldable pub global_offset : List Placed → Mark → ℕ
global_offset l m = capped (start_of l m.place + m.offset)

abbrev pub starts_by : List Placed → ℕ → Placed → Bool
starts_by l g s = nat_le (start_of l s.place) g

abbrev pub ends_from : List Placed → ℕ → Placed → Bool
ends_from l g s = nat_le g (capped (start_of l s.place + length (name_text s.look)))

-- downstream the last leaf of p that starts by the global offset g, upstream the first that ends from it on
unfoldable pub leaf_at : List Placed → Place → ℕ → Affinity → Option Placed
leaf_at l p g Down = last_of (filter (starts_by l g) (leaves_in l p))
leaf_at l p g Up = first_of (filter (ends_from l g) (leaves_in l p))

-- the position at the global offset g, measured from the start of a place
abbrev pub text_pos : List Placed → Place → ℕ → Affinity → Pos
text_pos l p g a = Text p.tree p.node (g - start_of l p) a

unfoldable pub leaf_form : List Placed → Place → ℕ → Affinity → Option Pos
leaf_form l p g a = option_map (λ (s : Placed). text_pos l s.place g a) (leaf_at l p g a)

unfoldable pub up_form : List Placed → Mark → Option Pos
up_form l m = option_map (λ p. text_pos l p (global_offset l m) m.affinity) (option_and_then parent_of (find_placed l m.place))

-- ---- the order of positions, and the text between

abbrev pub by_number : ℕ → ℕ → Ordering → Ordering
by_number a b same = if nat_lt a b then Less else if nat_lt b a then Greater else same

abbrev pub affinity_order : Affinity → Affinity → Ordering
affinity_order Up Down = Less
affinity_order Down Up = Greater
affinity_order a b = Equal

-- by global offset, then by place in the list, then up before down
unfoldable pub position_order : List Placed → Mark → Mark → Ordering
position_order l m n =
    by_number (global_offset l m) (global_offset l n)
    (by_number (length (before l m.place)) (length (before l n.place)) (affinity_order m.affinity n.affinity))

-- the document's text between the lesser and the greater global offset
unfoldable pub range_text : List Placed → Mark → Mark → List ℕ
range_text l m n =
    let low = min (global_offset l m) (global_offset l n) in take (max (global_offset l m) (global_offset l n) - low) (drop low (document l))
