-- The kinds of values of attributes.
use Rattle.ax_attrs.specs.declared.table.Kind.{Kind}
use Rattle.ax_attrs.specs.declared.table.Kind.TheVariants as kind
use Rattle.ax_node.specs.declared.value.Value.{Value}
use Rattle.ax_node.specs.declared.value.Value.TheVariants.{Text, Int, Flag, Node, Tree}

abbrev pub value_kind : Value → Kind
value_kind (Text _) = kind.Text
value_kind (Int _) = kind.Int
value_kind (Flag _) = kind.Flag
value_kind (Node _) = kind.Node
value_kind (Tree _) = kind.Tree
