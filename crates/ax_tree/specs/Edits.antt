-- The edit rule: what an edit makes of a tree and of its marks, and the first refusal that stands.
use Rattle.std.specs.Prelude.{ℕ, Bool, true, false, not, ◌||◌, if◌then◌else◌, ◌≡◌, List, [], ◌∷◌, Option, Some, None, option_map, unwrap_or}
use Rattle.std.specs.Ordering.{nat_cmp}
use Rattle.std.specs.FinMap.Entries.{put}
use Rattle.ax_base.specs.Entries.{without}
use Rattle.ax_attrs.specs.declared.table.Kind.{Kind}
use Rattle.ax_attrs.specs.declared.table.Kind.TheVariants as kinds
use Rattle.ax_attrs.specs.Entry.{kind_of}
use Rattle.ax_attrs.specs.Tables.{key_rows}
use Rattle.ax_node.specs.declared.value.Value.{Value}
use Rattle.ax_node.specs.Kinds.{value_kind}
use Rattle.ax_node.specs.declared.tree_data.TreeData.{TreeData}
use Rattle.ax_tree.specs.declared.edit.Edit.{Edit}
use Rattle.ax_tree.specs.declared.edit.Edit.TheVariants.{Root, Insert, Remove, Move, Set, Tree as Data}
use Rattle.ax_tree.specs.declared.edit.AttrChange.{AttrChange}
use Rattle.ax_tree.specs.declared.edit.SetNode.{SetNode}
use Rattle.ax_tree.specs.declared.edit.SetTree.{SetTree}
use Rattle.ax_trees.specs.Lists.{contains}
use Rattle.ax_trees.specs.Spots.{or_else}
use Rattle.ax_tree.specs.declared.edit.EditErr.{EditErr}
use Rattle.ax_tree.specs.declared.edit.EditErr.TheVariants.{BadAttr, NoMemory}
use Rattle.ax_tree.specs.EditRule.{NodeEdit, SetRoot, InsertLeaf, RemoveTree, MoveTree, SetKnown, trees_edited, trees_refusal}
use Rattle.ax_tree.specs.MarkRule.{trees_marks}
use Rattle.ax_node.specs.Look.{Look, look_of}
use Rattle.ax_tree.specs.Tree.{Tree}

-- the attributes after one more change: a value replaces, and none removes
abbrev pub attr_set : ℕ → Option Value → List (ℕ × Value) → List (ℕ × Value)
attr_set k None attrs = without k attrs
attr_set k (Some v) attrs = put nat_cmp k v attrs

abbrev pub attrs_set : List AttrChange → List (ℕ × Value) → List (ℕ × Value)
attrs_set [] attrs = attrs
attrs_set (c ∷ cs) attrs = attrs_set cs (attr_set c.key c.value attrs)

-- what is given of a node, and of tree data, is replaced
abbrev pub look_set : SetNode → Look → Look
look_set s x = record {
  role = unwrap_or s.role x.role;
  states = unwrap_or s.states x.states;
  attrs = attrs_set s.attrs x.attrs;
  rect = unwrap_or s.rect x.rect;
}

abbrev pub data_set : SetTree → TreeData → TreeData
data_set s d = record {
  tree = d.tree;
  parent = unwrap_or s.parent d.parent;
  focused = unwrap_or s.focused d.focused;
  loaded = unwrap_or s.loaded d.loaded;
  focus = unwrap_or s.focus d.focus;
  anchor = unwrap_or s.anchor d.anchor;
  end = unwrap_or s.end d.end;
  title = unwrap_or s.title d.title;
  url = unwrap_or s.url d.url;
}

-- the node data in an edit have no children
abbrev pub HasLeaf : Edit → Type 0
HasLeaf (Root node) = node.children ≡ []
HasLeaf (Insert parent index node) = node.children ≡ []
HasLeaf (Remove node) = Unit {0}
HasLeaf (Move node parent index) = Unit {0}
HasLeaf (Set what) = Unit {0}
HasLeaf (Data what) = Unit {0}

-- an edit changes nodes, or tree data
pub data Change : Type 0 where
  OfNodes : NodeEdit Look → Change
  OfData : (TreeData → TreeData) → Change

abbrev pub change_of : Edit → Change
change_of (Root n) = OfNodes (SetRoot n.id (look_of n))
change_of (Insert p i n) = OfNodes (InsertLeaf p i n.id (look_of n))
change_of (Remove z) = OfNodes (RemoveTree z)
change_of (Move z p i) = OfNodes (MoveTree z p i)
change_of (Set s) = OfNodes (SetKnown s.node (look_set s))
change_of (Data s) = OfData (data_set s)

-- the tree after an edit that nothing stands against
abbrev pub changed : Change → Tree → Tree
changed (OfNodes e) t = record { about = t.about; trees = trees_edited e t.trees }
changed (OfData g) t = record { about = g t.about; trees = t.trees }

abbrev pub edited : Edit → Tree → Tree
edited e t = changed (change_of e) t

-- the first given attribute whose value isn't of its kind, or whose key stands earlier, or in `seen`
abbrev pub is_kind : Kind → Option Kind → Bool
is_kind k None = false
is_kind kinds.Text (Some kinds.Text) = true
is_kind kinds.Int (Some kinds.Int) = true
is_kind kinds.Flag (Some kinds.Flag) = true
is_kind kinds.Node (Some kinds.Node) = true
is_kind kinds.Tree (Some kinds.Tree) = true
is_kind j (Some k) = false

abbrev pub bad_value : ℕ → Option Value → Bool
bad_value k None = false
bad_value k (Some v) = not (is_kind (value_kind v) (kind_of key_rows k))

abbrev pub bad_change : List ℕ → List AttrChange → Option ℕ
bad_change seen [] = None
bad_change seen (c ∷ cs) = if contains seen c.key || bad_value c.key c.value then Some c.key else bad_change (c.key ∷ seen) cs

abbrev pub bad_attr : Edit → Option ℕ
bad_attr (Set s) = bad_change [] s.attrs
bad_attr e = None

-- the first refusal that stands
abbrev pub change_refusal : Change → Tree → Option EditErr
change_refusal (OfNodes e) t = trees_refusal e t.trees
change_refusal (OfData g) t = None

abbrev pub refusal : Edit → Tree → Option EditErr
refusal e t = or_else (change_refusal (change_of e) t) (option_map BadAttr (bad_attr e))

-- What a refused edit may answer: its first refusal, and where none stands, that there is no memory.
abbrev pub IsRefusal : Edit → Tree → EditErr → Type 0
IsRefusal e t NoMemory = refusal e t ≡ None
IsRefusal e t r = refusal e t ≡ Some r

-- the marks after an accepted edit, and whether tree data were changed since they were last sent
abbrev pub change_marks : Change → Tree → List ℕ → List ℕ
change_marks (OfNodes e) t m = trees_marks e t.trees m
change_marks (OfData g) t m = m

abbrev pub marks_after : Edit → Tree → List ℕ → List ℕ
marks_after e t m = change_marks (change_of e) t m

abbrev pub change_flag : Change → Bool → Bool
change_flag (OfNodes e) flag = flag
change_flag (OfData g) flag = true

abbrev pub flag_after : Edit → Bool → Bool
flag_after e flag = change_flag (change_of e) flag
