-- Attributes: finite maps from keys to values, each the list of its entries in the order of the keys.
use Rattle.std.specs.Prelude.{◌≡◌, ℕ, List, Some}
use Rattle.std.specs.Ordering.{nat_cmp}
use Rattle.std.specs.FinMap.Entries.{find}
use Rattle.ax_attrs.specs.Entry.{kind_of}
use Rattle.ax_attrs.specs.Tables.{key_rows}
use Rattle.ax_base.specs.Entries.{IsMap}
use Rattle.ax_node.specs.declared.value.Value.{Value}
use Rattle.ax_node.specs.Kinds.{value_kind}

-- the table has the value's kind at the key
abbrev pub IsOfKind : ℕ → Value → Type 0
IsOfKind k v = kind_of key_rows k ≡ Some (value_kind v)

pub record AreAttrs (es : List (ℕ × Value)) : Type 0 where
  pub keys : IsMap es
  pub kinds : (k : ℕ) (v : Value) → find nat_cmp k es ≡ Some v → IsOfKind k v
