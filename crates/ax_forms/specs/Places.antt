-- Rectangles, selections and positions.
use Rattle.std.specs.Prelude.{◌&&◌, ◌==◌, ℕ, ℤ, pos, ◌+ℤ◌, int_le, [], ◌∷◌, codes, not, if◌then◌else◌, Option, is_some, is_none, option_map, unwrap_or, Result, Ok}
use Rattle.serde_json.specs.Data.{Data, Items, no_items, item}
use Rattle.serde_json.specs.Events.{items_len}
use Rattle.serde_json.specs.Find.{get, as_null}
use Rattle.ax_base.specs.Area.{Area}
use Rattle.ax_base.specs.declared.position.Affinity.{Affinity}
use Rattle.ax_base.specs.declared.position.Affinity.TheVariants as toward
use Rattle.ax_base.specs.declared.position.Pos.{Pos}
use Rattle.ax_base.specs.declared.position.Pos.TheVariants as at
use Rattle.ax_ask.specs.Words.{affinity_named}
use Rattle.ax_json.specs.declared.refusal.Fault.TheVariants.{BadCount, BadNumber, BadName}
use Rattle.ax_json.specs.Refused.{Refusal, ◌>>=◌, within}
use Rattle.ax_json.specs.Walk.{refused, present, place, array_of, int_of, number_in, node_id, tree_id, node_or_none, str_of, known, required, optional}
use Rattle.ax_forms.specs.declared.place.Selection.{Selection}

-- a width or height: it isn't negative, and the side ends at 2,147,483,647 at most
unfoldable pub side_from : ℤ → Data → Result ℤ Refusal
side_from start d = do
  side ← int_of d
  if int_le (pos 0) side && int_le (start +ℤ side) (pos 2147483647) then Ok side else refused BadNumber []

-- each number with all that is asked of it, before the next
unfoldable pub rect_numbers : Data → Data → Data → Data → Result Area Refusal
rect_numbers a b c e = do
  x ← within (place 0) (int_of a)
  y ← within (place 1) (int_of b)
  w ← within (place 2) (side_from x c)
  h ← within (place 3) (side_from y e)
  Ok (record { x = x; y = y; w = w; h = h })

abbrev pub rect_four : Items → Result Area Refusal
rect_four (item a (item b (item c (item e no_items)))) = rect_numbers a b c e
rect_four _ = refused BadCount []

unfoldable pub rect_of : Data → Result Area Refusal
rect_of d = do
  items ← array_of d
  if items_len items == 4 then rect_four items else refused BadCount []

-- an offset beside this id: where there is no id it is 0
unfoldable pub offset_beside : Option ℕ → Data → Result ℕ Refusal
offset_beside id d = do
  offset ← number_in 0 2147483647 d
  if is_none id && not (offset == 0) then refused BadNumber [] else Ok offset

abbrev pub end_of : Option ℕ → ℕ → Option (ℕ × ℕ)
end_of id offset = option_map (λ node. (node, offset)) id

unfoldable pub selection_numbers : Data → Data → Data → Data → Result Selection Refusal
selection_numbers a b c e = do
  first ← within (place 0) (node_or_none a)
  from ← within (place 1) (offset_beside first b)
  last ← within (place 2) (node_or_none c)
  to ← within (place 3) (offset_beside last e)
  Ok (record { anchor = end_of first from; end = end_of last to })

abbrev pub selection_four : Items → Result Selection Refusal
selection_four (item a (item b (item c (item e no_items)))) = selection_numbers a b c e
selection_four _ = refused BadCount []

unfoldable pub selection_of : Data → Result Selection Refusal
selection_of d = do
  items ← array_of d
  if items_len items == 4 then selection_four items else refused BadCount []

unfoldable pub affinity_of : Data → Result Affinity Refusal
affinity_of d = do
  name ← str_of d
  present BadName (affinity_named name)

unfoldable pub tree_position : Data → Result Pos Refusal
tree_position d = do
  _ ← known (codes "tree" ∷ codes "node" ∷ codes "child" ∷ []) d
  tree ← required tree_id (codes "tree") (get (codes "tree") d)
  node ← required node_id (codes "node") (get (codes "node") d)
  child ← required (number_in 0 2147483647) (codes "child") (get (codes "child") d)
  Ok (at.Tree tree node child)

unfoldable pub text_position : Data → Result Pos Refusal
text_position d = do
  _ ← known (codes "tree" ∷ codes "node" ∷ codes "offset" ∷ codes "affinity" ∷ []) d
  tree ← required tree_id (codes "tree") (get (codes "tree") d)
  node ← required node_id (codes "node") (get (codes "node") d)
  offset ← required (number_in 0 2147483647) (codes "offset") (get (codes "offset") d)
  affinity ← optional affinity_of (codes "affinity") (get (codes "affinity") d)
  Ok (at.Text tree node offset (unwrap_or affinity toward.Down))

-- null, or an object, which is a tree position where it has the member `child`
unfoldable pub position_of : Data → Result Pos Refusal
position_of d =
    if is_some (as_null d) then Ok at.Null else (if is_some (get (codes "child") d) then tree_position d else text_position d)
