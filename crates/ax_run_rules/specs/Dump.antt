-- How a forest is dumped: a line for each tree, and one for each of its nodes.
use Rattle.std.specs.Prelude.{ℕ, if◌then◌else◌, List, [], codes, flat_map, Option, Some, None, unwrap_or}
use Rattle.std.specs.Fmt.{decimal, signed_decimal}
use Rattle.ax_attrs.specs.Entry.{name_of}
use Rattle.ax_attrs.specs.Tables.{state_rows, key_rows}
use Rattle.ax_node.specs.declared.value.Value.{Value}
use Rattle.ax_node.specs.declared.value.Value.TheVariants as values
use Rattle.ax_node.specs.declared.tree_data.TreeData.{TreeData}
use Rattle.ax_node.specs.Look.{Look, blank_area}
use Rattle.ax_trees.specs.Trees.{Trees, bare, tree, is_bare}
use Rattle.ax_tree.specs.Tree.{Tree}
use Rattle.ax_tree.specs.Forest.{Forest, Standing}
use Rattle.ax_rules.specs.Looks.{same_area}
use Rattle.ax_run_rules.specs.Writing.{◌⌢◌, pair_text, id_text, yes_no, quoted, area_text}
use Rattle.ax_run_rules.specs.ReplyText.{role_text}

abbrev pub end_text : Option (ℕ × ℕ) → List ℕ
end_text None = codes "0 0"
end_text (Some e) = pair_text e.0 e.1

unfoldable pub tree_line : TreeData → List ℕ
tree_line d =
    codes "tree " ⌢ decimal d.tree ⌢ codes " parent " ⌢ id_text d.parent ⌢ codes " focused " ⌢ id_text d.focused ⌢ codes " loaded " ⌢ yes_no d.loaded
    ⌢ codes " focus " ⌢ id_text d.focus ⌢ codes " sel " ⌢ end_text d.anchor ⌢ codes " " ⌢ end_text d.end
    ⌢ codes " title " ⌢ quoted d.title ⌢ codes " url " ⌢ quoted d.url ⌢ codes "\n"

abbrev pub value_text : Value → List ℕ
value_text (values.Text s) = quoted s
value_text (values.Int n) = signed_decimal n
value_text (values.Flag b) = yes_no b
value_text (values.Node z) = decimal z
value_text (values.Tree t) = decimal t

unfoldable pub state_text : ℕ → List ℕ
state_text s = codes " +" ⌢ unwrap_or (name_of state_rows s) []

unfoldable pub attr_text : ℕ × Value → List ℕ
attr_text a = codes " " ⌢ unwrap_or (name_of key_rows a.0) [] ⌢ codes "=" ⌢ value_text a.1

-- the rectangle where it isn't blank, the states, and the attributes in table order
unfoldable pub look_text : Look → List ℕ
look_text x =
    (if same_area x.rect blank_area then [] else codes " " ⌢ area_text x.rect.x x.rect.y x.rect.w x.rect.h)
    ⌢ flat_map state_text x.states ⌢ flat_map attr_text x.attrs

-- the lines of trees behind an indent
abbrev pub nodes_text : List ℕ → Trees Look → List ℕ
nodes_text indent bare = []
nodes_text indent (tree i x inner others) =
    indent ⌢ decimal i ⌢ codes " " ⌢ role_text x.role ⌢ look_text x ⌢ codes "\n"
    ⌢ nodes_text (indent ⌢ codes "  ") inner ⌢ nodes_text indent others

unfoldable pub tree_text : ℕ → Tree → List ℕ
tree_text t m = if is_bare m.trees then codes "tree " ⌢ decimal t ⌢ codes " empty\n" else tree_line m.about ⌢ nodes_text [] m.trees

abbrev pub tree_or_gone : ℕ → Option Tree → List ℕ
tree_or_gone t None = codes "tree " ⌢ decimal t ⌢ codes " gone\n"
tree_or_gone t (Some m) = tree_text t m

unfoldable pub dump_text : Forest → List ℕ
dump_text f = flat_map (λ (s : Standing). tree_or_gone s.id s.tree) f
