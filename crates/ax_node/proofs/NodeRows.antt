-- Worked examples: attributes and states compute.
use Rattle.std.proofs.Common.{◌≡◌, [], ◌∷◌, Some, None, pos, codes, refl}
use Rattle.std.specs.Ordering.{nat_cmp}
use Rattle.std.specs.FinMap.Entries.{find, put}
use Rattle.ax_base.specs.Entries.{without}
use Rattle.ax_node.specs.declared.value.Value.TheVariants.{Text, Int}
use Rattle.ax_node.specs.declared.node.NodeData.{NodeData}
use Rattle.ax_node.specs.Look.{look_of, node_of, blank_look}
use Rattle.ax_node.specs.States.{with_state}

-- a heading of level 2 that has its name and can be focused
abbrev heading : NodeData
heading =
    node_of 7 (record blank_look {
      role = 3;
      states = with_state (with_state [] 8) 1;
      attrs = put nat_cmp 1 (Text (codes "News")) (put nat_cmp 8 (Int (pos 2)) []);
    }) (8 ∷ [])

entries_in_order : heading.attrs ≡ (1, Text (codes "News")) ∷ (8, Int (pos 2)) ∷ []
entries_in_order = refl

name_is_found : find nat_cmp 1 heading.attrs ≡ Some (Text (codes "News"))
name_is_found = refl

value_is_not : find nat_cmp 3 heading.attrs ≡ None
value_is_not = refl

level_is_replaced : put nat_cmp 8 (Int (pos 3)) heading.attrs ≡ (1, Text (codes "News")) ∷ (8, Int (pos 3)) ∷ []
level_is_replaced = refl

name_is_unset : without 1 heading.attrs ≡ (8, Int (pos 2)) ∷ []
name_is_unset = refl

states_in_order : heading.states ≡ 1 ∷ 8 ∷ []
states_in_order = refl

focusable_again : with_state heading.states 1 ≡ 1 ∷ 8 ∷ []
focusable_again = refl

same_look : node_of 9 (look_of heading) [] ≡ record heading { id = 9; children = [] }
same_look = refl
