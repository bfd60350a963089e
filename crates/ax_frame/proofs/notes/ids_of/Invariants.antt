use Rattle.std.proofs.Common.{◌≡◌, take, map}
use Rattle.ax_node.specs.declared.node.NodeData.{NodeData}
use Rattle.ax_frame.proofs.notes.ids_of.Given as goal

abbrev pub invariant-loop-node : goal.invariant-loop-node
invariant-loop-node l = l.ids ≡ map (λ (n : NodeData). n.id) (take l.node-index l.update.nodes)
