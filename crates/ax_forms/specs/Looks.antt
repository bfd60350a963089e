-- How a node looks: its role, states, attributes and rectangle, of which any may be absent.
use Rattle.std.specs.Prelude.{◌&&◌, ℕ, zero, suc, List, [], ◌∷◌, ◌++◌, codes, Bool, true, if◌then◌else◌, Option, Some, None, is_some, unwrap_or, Result, Ok, ⊤}
use Rattle.std.specs.Ordering.{nat_cmp}
use Rattle.std.specs.FinMap.Entries.{put}
use Rattle.serde_json.specs.Data.{Data, Members, no_members, member}
use Rattle.serde_json.specs.Find.{get, as_null}
use Rattle.ax_attrs.specs.declared.table.Kind.{Kind}
use Rattle.ax_attrs.specs.declared.table.Kind.TheVariants as kind
use Rattle.ax_attrs.specs.declared.table.Version.{Version}
use Rattle.ax_attrs.specs.Entry.{Entry, row_of, number_within}
use Rattle.ax_attrs.specs.Tables.{role_rows, role_count, state_rows, state_count, key_rows, key_count}
use Rattle.ax_node.specs.declared.value.Value.{Value}
use Rattle.ax_node.specs.declared.value.Value.TheVariants as value
use Rattle.ax_node.specs.declared.node.NodeData.{NodeData}
use Rattle.ax_node.specs.Look.{node_of, blank_area}
use Rattle.ax_node.specs.States.{with_state}
use Rattle.ax_tree.specs.declared.edit.AttrChange.{AttrChange}
use Rattle.ax_tree.specs.declared.edit.SetNode.{SetNode}
use Rattle.ax_json.specs.declared.refusal.Fault.TheVariants.{UnknownMember, BadName}
use Rattle.ax_json.specs.Refused.{Refusal, ◌>>=◌}
use Rattle.ax_json.specs.Walk.{refused, present, object_of, int_of, node_id, tree_id, flag_of, text_of, str_of, list_of, optional}
use Rattle.ax_forms.specs.Places.{rect_of}

unfoldable pub role_of : Version → Data → Result ℕ Refusal
role_of version d = do
  name ← str_of d
  present BadName (number_within (role_count version) role_rows name)

unfoldable pub state_of : Version → Data → Result ℕ Refusal
state_of version d = do
  name ← str_of d
  present BadName (number_within (state_count version) state_rows name)

-- a state that is named twice counts once
abbrev pub with_states : List ℕ → List ℕ → List ℕ
with_states set [] = set
with_states set (s ∷ states) = with_states (with_state set s) states

unfoldable pub states_of : Version → Data → Result (List ℕ) Refusal
states_of version d = list_of (state_of version) d >>= λ states. Ok (with_states [] states)

-- ---- attributes

unfoldable pub value_as : Kind → Data → Result Value Refusal
value_as kind.Text d = text_of d >>= λ x. Ok (value.Text x)
value_as kind.Int d = int_of d >>= λ x. Ok (value.Int x)
value_as kind.Flag d = flag_of d >>= λ x. Ok (value.Flag x)
value_as kind.Node d = node_id d >>= λ x. Ok (value.Node x)
value_as kind.Tree d = tree_id d >>= λ x. Ok (value.Tree x)

-- a row of no kind would take no value; each attribute has one
abbrev pub value_in : Option Kind → Data → Result Value Refusal
value_in None d = refused BadName []
value_in (Some k) d = value_as k d

-- an attribute's value, where the object has it
unfoldable pub attr_in : Option Entry → Data → Result (Option Value) Refusal
attr_in None d = Ok None
attr_in (Some row) d = optional (value_in row.kind) row.name (get row.name d)

-- null removes
unfoldable pub or_null : (Data → Result Value Refusal) → Data → Result (Option Value) Refusal
or_null f d = if is_some (as_null d) then Ok None else (f d >>= λ x. Ok (Some x))

-- how an attribute changes, where the object has it
unfoldable pub change_in : Option Entry → Data → Result (Option (Option Value)) Refusal
change_in None d = Ok None
change_in (Some row) d = optional (or_null (value_in row.kind)) row.name (get row.name d)

abbrev pub with_attr : ℕ → Option Value → List (ℕ × Value) → List (ℕ × Value)
with_attr k None attrs = attrs
with_attr k (Some v) attrs = put nat_cmp k v attrs

abbrev pub with_change : ℕ → Option (Option Value) → List AttrChange → List AttrChange
with_change k None changes = changes
with_change k (Some v) changes = changes ++ (record { key = k; value = v }) ∷ []

-- the attributes of the first n rows, in the order of the table
abbrev pub attrs_to : ℕ → Data → Result (List (ℕ × Value)) Refusal
attrs_to zero d = Ok []
attrs_to (suc n) d = attrs_to n d >>= λ attrs. attr_in (row_of key_rows (suc n)) d >>= λ found. Ok (with_attr (suc n) found attrs)

abbrev pub changes_to : ℕ → Data → Result (List AttrChange) Refusal
changes_to zero d = Ok []
changes_to (suc n) d = changes_to n d >>= λ changes. change_in (row_of key_rows (suc n)) d >>= λ found. Ok (with_change (suc n) found changes)

-- the version has an attribute of this name
abbrev pub is_attr : Version → List ℕ → Bool
is_attr version name = is_some (number_within (key_count version) key_rows name)

abbrev pub all_named : (List ℕ → Bool) → Members → Bool
all_named test no_members = true
all_named test (member k d ms) = test k && all_named test ms

-- an object with no members but attributes of the version
unfoldable pub attrs_known : Version → Data → Result ⊤ Refusal
attrs_known version d = do
  ms ← object_of d
  if all_named (is_attr version) ms then Ok tt else refused UnknownMember []

unfoldable pub attrs_of : Version → Data → Result (List (ℕ × Value)) Refusal
attrs_of version d = do
  _ ← attrs_known version d
  attrs_to (key_count version) d

unfoldable pub changes_of : Version → Data → Result (List AttrChange) Refusal
changes_of version d = do
  _ ← attrs_known version d
  changes_to (key_count version) d

-- ---- the whole look, by the values at its four names

-- a node's data: what isn't given is generic, without states and attributes, and empty at the origin
unfoldable pub node_from : Version → ℕ → Option Data → Option Data → Option Data → Option Data → Result NodeData Refusal
node_from version id role_at states_at attrs_at rect_at = do
  role ← optional (role_of version) (codes "role") role_at
  states ← optional (states_of version) (codes "states") states_at
  attrs ← optional (attrs_of version) (codes "attrs") attrs_at
  rect ← optional rect_of (codes "rect") rect_at
  Ok (node_of id (record { role = unwrap_or role 1; states = unwrap_or states []; attrs = unwrap_or attrs []; rect = unwrap_or rect blank_area }) [])

-- what is to be replaced of a node: what isn't given stays
unfoldable pub set_from : Version → ℕ → Option Data → Option Data → Option Data → Option Data → Result SetNode Refusal
set_from version node role_at states_at attrs_at rect_at = do
  role ← optional (role_of version) (codes "role") role_at
  states ← optional (states_of version) (codes "states") states_at
  changes ← optional (changes_of version) (codes "attrs") attrs_at
  rect ← optional rect_of (codes "rect") rect_at
  Ok (record { node = node; role = role; states = states; attrs = unwrap_or changes []; rect = rect })
