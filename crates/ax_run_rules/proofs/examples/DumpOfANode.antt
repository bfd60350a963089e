-- A node with states, attributes and a rectangle in the dump.
use Rattle.std.proofs.Common.{pos, ◌≡◌, [], ◌∷◌, ◌++◌, refl, Some}
use Rattle.std.specs.Prelude.{codes}
use Rattle.ax_node.specs.declared.value.Value.TheVariants as values
use Rattle.ax_ask.specs.declared.op.FrameOp.TheVariants as ops
use Rattle.ax_run_rules.specs.Scripts.{Script}
use Rattle.ax_run_rules.specs.ReplayText.{replay_text}
use Rattle.ax_run_rules.proofs.Computing.{computing}
use Rattle.ax_run_rules.proofs.ScriptWords.{area, node, root, frame, frames}

abbrev pub script : Script
script = frames (
    frame 1 (
    root (node 1 7 (1 ∷ 7 ∷ []) ((1, (values.Text (codes "a\"b"))) ∷ (8, (values.Int (pos 3))) ∷ []) (area (pos 1) (pos 2) (pos 3) (pos 4)) []) ∷
    ops.Pass ∷
    []) ∷
    [])

the_text : replay_text script script.order ≡ Some (
    codes "finale\n" ++
    codes "f1 root 1 ok\n" ++
    codes "f1 pass 1 base 0 token 0\n" ++
    codes "  u clear 0 root 1 list 1 data\n" ++
    codes "a1 applied 1\n" ++
    codes "  e 1:1 subtree_created\n" ++
    codes "dump\n" ++
    codes "tree 1 parent 0 focused 0 loaded no focus 0 sel 0 0 0 0 title \"\" url \"\"\n" ++
    codes "1 button [1,2,3,4] +focusable +visited name=\"a\\\"b\" level=3\n")
unfolding computing
the_text = refl
