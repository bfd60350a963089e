-- Tree data, of which any may be absent.
use Rattle.std.specs.Prelude.{ℕ, [], ◌∷◌, codes, false, Option, None, option_map, unwrap_or, Result, Ok}
use Rattle.serde_json.specs.Data.{Data}
use Rattle.serde_json.specs.Find.{get}
use Rattle.ax_node.specs.declared.TreeData.{TreeData}
use Rattle.ax_tree.specs.declared.edit.SetTree.{SetTree}
use Rattle.ax_json.specs.Refused.{Refusal, ◌>>=◌}
use Rattle.ax_json.specs.Walk.{tree_or_none, node_or_none, flag_of, text_of, known, optional}
use Rattle.ax_forms.specs.Places.{selection_of}

-- the members that are given, by the values at their names
unfoldable pub news_from : Option Data → Option Data → Option Data → Option Data → Option Data → Option Data → Option Data → Result SetTree Refusal
news_from parent_at focused_at loaded_at focus_at sel_at title_at url_at = do
  parent ← optional tree_or_none (codes "parent") parent_at
  focused ← optional tree_or_none (codes "focused") focused_at
  loaded ← optional flag_of (codes "loaded") loaded_at
  focus ← optional node_or_none (codes "focus") focus_at
  sel ← optional selection_of (codes "sel") sel_at
  title ← optional text_of (codes "title") title_at
  url ← optional text_of (codes "url") url_at
  Ok (record { parent = parent; focused = focused; loaded = loaded; focus = focus; anchor = option_map (λ s. s.anchor) sel; end = option_map (λ s. s.end) sel; title = title; url = url })

abbrev pub news_in : Data → Result SetTree Refusal
news_in d = news_from (get (codes "parent") d) (get (codes "focused") d) (get (codes "loaded") d) (get (codes "focus") d) (get (codes "sel") d) (get (codes "title") d) (get (codes "url") d)

-- the op `data`
unfoldable pub data_op : Data → Result SetTree Refusal
data_op d = do
  _ ← known (codes "op" ∷ codes "parent" ∷ codes "focused" ∷ codes "loaded" ∷ codes "focus" ∷ codes "sel" ∷ codes "title" ∷ codes "url" ∷ []) d
  news_in d

-- the tree data where all that isn't given is blank
abbrev pub data_with : ℕ → SetTree → TreeData
data_with tree s = record {
  tree = tree;
  parent = unwrap_or s.parent None;
  focused = unwrap_or s.focused None;
  loaded = unwrap_or s.loaded false;
  focus = unwrap_or s.focus None;
  anchor = unwrap_or s.anchor None;
  end = unwrap_or s.end None;
  title = unwrap_or s.title [];
  url = unwrap_or s.url [];
}

-- the tree data of an update of this tree
unfoldable pub update_data : ℕ → Data → Result TreeData Refusal
update_data tree d = do
  _ ← known (codes "parent" ∷ codes "focused" ∷ codes "loaded" ∷ codes "focus" ∷ codes "sel" ∷ codes "title" ∷ codes "url" ∷ []) d
  news ← news_in d
  Ok (data_with tree news)
