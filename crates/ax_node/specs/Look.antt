-- What a node has beside its id and its children.
use Rattle.std.specs.Prelude.{ℕ, List, [], pos, refl}
use Rattle.std.specs.Coded.{Coded, code_by, coded×, coded_ℕ, coded_list}
use Rattle.ax_base.specs.Area.{Area, coded_area}
use Rattle.ax_node.specs.declared.value.Value.{Value}
use Rattle.ax_node.specs.contracts.value.Value.{the_row}
use Rattle.ax_node.specs.declared.node.NodeData.{NodeData}

pub record Look : Type 0 where
  pub role : ℕ
  pub states : List ℕ
  pub attrs : List (ℕ × Value)
  pub rect : Area

abbrev pub look_of : NodeData → Look
look_of n = record { role = n.role; states = n.states; attrs = n.attrs; rect = n.rect }

abbrev pub node_of : ℕ → Look → List ℕ → NodeData
node_of i x children = record { id = i; role = x.role; states = x.states; attrs = x.attrs; rect = x.rect; children = children }

-- the empty rectangle at the origin
abbrev pub blank_area : Area
blank_area = record { x = pos 0; y = pos 0; w = pos 0; h = pos 0 }

-- a generic node without states or attributes
abbrev pub blank_look : Look
blank_look = record { role = 1; states = []; attrs = []; rect = blank_area }

-- a look is stored as the pairs of its parts
abbrev pub coded_look : Coded Look
coded_look =
    code_by ((ℕ × List ℕ) × (List (ℕ × Value) × Area)) (coded× (coded× coded_ℕ (coded_list coded_ℕ)) (coded× (coded_list (coded× coded_ℕ the_row.coded)) coded_area))
    (λ x. ((x.role, x.states), (x.attrs, x.rect))) (λ p. record { role = p.0.0; states = p.0.1; attrs = p.1.0; rect = p.1.1 }) (λ _. refl)
