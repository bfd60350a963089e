-- What is made ready before a node is changed, and what a node is with it.
use Rattle.std.specs.Prelude.{ℕ, Bool, ◌==◌, List, unwrap_or}
use Rattle.std.specs.List.{list_any}
use Rattle.ax_node.specs.Look.{Look, look_of, node_of}
use Rattle.ax_tree.specs.declared.edit.AttrChange.{AttrChange}
use Rattle.ax_tree.specs.declared.edit.SetNode.{SetNode}
use Rattle.ax_source.specs.declared.attributes.Parts.{Parts}
use Rattle.ax_source.specs.declared.entries.Entry.{Entry}

-- a change of the key is among them
abbrev pub has_key : ℕ → List AttrChange → Bool
has_key key changes = list_any (λ c. c.key == key) changes

-- role and rectangle as they are given, states and attributes as they were made ready
abbrev pub look_with : SetNode → Parts → Look → Look
look_with s parts x = record {
  role = unwrap_or s.role x.role;
  states = unwrap_or parts.states x.states;
  attrs = unwrap_or parts.attrs x.attrs;
  rect = unwrap_or s.rect x.rect;
}

abbrev pub parts_put : SetNode → Parts → Entry → Entry
parts_put s parts e = record { node = node_of e.node.id (look_with s parts (look_of e.node)) e.node.children; above = e.above }
