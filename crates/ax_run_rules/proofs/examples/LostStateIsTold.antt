-- A state that tells when it is lost.
use Rattle.std.proofs.Common.{◌≡◌, [], ◌∷◌, ◌++◌, refl, Some, None}
use Rattle.std.specs.Prelude.{codes}
use Rattle.ax_node.specs.declared.value.Value.TheVariants as values
use Rattle.ax_ask.specs.declared.op.FrameOp.TheVariants as ops
use Rattle.ax_run_rules.specs.Scripts.{Script}
use Rattle.ax_run_rules.specs.ReplayText.{replay_text}
use Rattle.ax_run_rules.proofs.Computing.{computing}
use Rattle.ax_run_rules.proofs.ScriptWords.{no_area, node, root, set, change, frame, frames}

abbrev pub script : Script
script = frames (
    frame 1 (
    root (node 1 1 (11 ∷ []) [] no_area []) ∷
    ops.Pass ∷
    set 1 None (Some []) (change 28 (Some (values.Text (codes "true"))) ∷ change 29 (Some (values.Node 1)) ∷ []) None ∷
    ops.Pass ∷
    []) ∷
    [])

the_text : replay_text script script.order ≡ Some (
    codes "finale\n" ++
    codes "f1 root 1 ok\n" ++
    codes "f1 pass 1 base 0 token 0\n" ++
    codes "  u clear 0 root 1 list 1 data\n" ++
    codes "f1 set 1 ok\n" ++
    codes "f1 pass 2 base 1 token 0\n" ++
    codes "  u clear 0 root 0 list 1\n" ++
    codes "a1 applied 1\n" ++
    codes "  e 1:1 subtree_created\n" ++
    codes "a1 applied 2\n" ++
    codes "  e 1:1 shown\n" ++
    codes "  e 1:1 error_changed\n" ++
    codes "  e 1:1 error_changed\n" ++
    codes "dump\n" ++
    codes "tree 1 parent 0 focused 0 loaded no focus 0 sel 0 0 0 0 title \"\" url \"\"\n" ++
    codes "1 generic invalid=\"true\" error_message=1\n")
unfolding computing
the_text = refl
