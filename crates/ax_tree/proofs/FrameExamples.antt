-- Journals of frames, worked out: which packets their passes make, and refusals of attributes.
use Rattle.std.proofs.Common.{ℕ, ◌≡◌, true, false, List, [], ◌∷◌, map, refl, None, Some}
use Rattle.ax_node.specs.Look.{blank_look, node_of}
use Rattle.ax_node.specs.declared.node.NodeData.{NodeData}
use Rattle.ax_node.specs.declared.value.Value.TheVariants.{Text}
use Rattle.ax_tree.specs.declared.edit.AttrChange.{AttrChange}
use Rattle.ax_tree.specs.declared.edit.Edit.{Edit}
use Rattle.ax_tree.specs.declared.edit.Edit.TheVariants.{Root, Remove, Set, Tree as Data}
use Rattle.ax_tree.specs.declared.edit.EditErr.TheVariants.{UnknownNode, BadAttr}
use Rattle.ax_tree.specs.declared.packet.JEntry.{JEntry}
use Rattle.ax_tree.specs.declared.packet.JEntry.TheVariants.{Edited, Marked, Passed, Short, Delivered}
use Rattle.ax_tree.specs.declared.packet.Packet.{Packet}
use Rattle.ax_tree.specs.declared.update.TreeUpdate.{TreeUpdate}
use Rattle.ax_tree.specs.Tree.{Tree, empty, blank_data}
use Rattle.ax_tree.specs.Edits.{edited, refusal}
use Rattle.ax_tree.specs.Journals.{is_short, packets_of}

abbrev plain_node : ℕ → List ℕ → NodeData
plain_node i children = node_of i blank_look children

abbrev root_one : Edit
root_one = Root (plain_node 1 [])

-- the pass, base and token of each packet, and how many edits its slip has
abbrev numbers : Packet → List ℕ
numbers p = p.pass.0 ∷ p.base.0 ∷ p.token.0 ∷ []

abbrev numbers_of : List JEntry → List (List ℕ)
numbers_of journal = map numbers (packets_of 1 journal)

-- the first packet is the whole tree with its data, upon nothing
first_packet_is_whole :
    packets_of 1 (Edited root_one ∷ Passed ∷ [])
    ≡ record {
      tree = 1;
      pass = record { 0 = 1 };
      base = record { 0 = 0 };
      token = record { 0 = 0 };
      slip = root_one ∷ [];
      bundle = record { clear = None; root = Some 1; nodes = plain_node 1 [] ∷ []; tree_data = Some (blank_data 1) } ∷ [];
    } ∷ []
first_packet_is_whole = refl

nothing_without_root : numbers_of (Passed ∷ []) ≡ []
nothing_without_root = refl

nothing_without_change : numbers_of (Edited root_one ∷ Passed ∷ Passed ∷ []) ≡ (1 ∷ 0 ∷ 0 ∷ []) ∷ []
nothing_without_change = refl

-- a refused edit has no part in the slip
refused_edit_changes_nothing : numbers_of (Edited root_one ∷ Passed ∷ Edited (Remove 1) ∷ Passed ∷ []) ≡ (1 ∷ 0 ∷ 0 ∷ []) ∷ []
refused_edit_changes_nothing = refl

-- changed tree data alone make an update without nodes
data_alone :
    map (λ (p : Packet). map (λ (u : TreeUpdate). u.nodes) p.bundle)
    (packets_of 1 (Edited root_one ∷ Passed ∷ Edited (Data (record { parent = None; focused = None; loaded = Some true; focus = None; anchor = None; end = None; title = None; url = None })) ∷ Passed ∷ []))
    ≡ ((plain_node 1 [] ∷ []) ∷ []) ∷ (([] ∷ []) ∷ [])
data_alone = refl

touch_makes_packet : numbers_of (Edited root_one ∷ Passed ∷ Marked 1 ∷ Passed ∷ []) ≡ (1 ∷ 0 ∷ 0 ∷ []) ∷ (2 ∷ 1 ∷ 0 ∷ []) ∷ []
touch_makes_packet = refl

-- a delivery asks for the whole tree again, under its token
delivery_resets : numbers_of (Edited root_one ∷ Passed ∷ Delivered (record { 0 = 4 }) ∷ Passed ∷ []) ≡ (1 ∷ 0 ∷ 0 ∷ []) ∷ (2 ∷ 0 ∷ 4 ∷ []) ∷ []
delivery_resets = refl

-- want of memory is seen until a pass makes a packet
short_until_packet : is_short 1 (Edited root_one ∷ Short ∷ []) ≡ true
short_until_packet = refl

short_ends_with_packet : is_short 1 (Edited root_one ∷ Short ∷ Passed ∷ []) ≡ false
short_ends_with_packet = refl

-- ---- attributes

abbrev set_level : ℕ → List AttrChange → Edit
set_level i changes = Set (record { node = i; role = None; states = None; attrs = changes; rect = None })

abbrev with_root : Tree
with_root = edited root_one (empty 1)

-- the attribute 8 is a number
text_for_number : refusal (set_level 1 (record { key = 8; value = Some (Text []) } ∷ [])) with_root ≡ Some (BadAttr 8)
text_for_number = refl

key_twice : refusal (set_level 1 (record { key = 1; value = None } ∷ record { key = 1; value = Some (Text []) } ∷ [])) with_root ≡ Some (BadAttr 1)
key_twice = refl

absent_node_first : refusal (set_level 9 (record { key = 8; value = Some (Text []) } ∷ [])) with_root ≡ Some (UnknownNode 9)
absent_node_first = refl

text_and_removal : refusal (set_level 1 (record { key = 1; value = Some (Text []) } ∷ record { key = 8; value = None } ∷ [])) with_root ≡ None
text_and_removal = refl
