-- A removed id comes back as another node: its data are sent anew.
use Rattle.std.proofs.Common.{◌≡◌, [], ◌∷◌, ◌++◌, refl, Some}
use Rattle.std.specs.Prelude.{codes}
use Rattle.ax_ask.specs.declared.op.FrameOp.TheVariants as ops
use Rattle.ax_run_rules.specs.Scripts.{Script}
use Rattle.ax_run_rules.specs.ReplayText.{replay_text}
use Rattle.ax_run_rules.proofs.Computing.{computing}
use Rattle.ax_run_rules.proofs.ScriptWords.{no_area, node, blank, root, insert, remove, frame, frames}

abbrev pub script : Script
script = frames (
    frame 1 (
    root (blank 1) ∷
    insert 1 0 (blank 2) ∷
    ops.Pass ∷
    remove 2 ∷
    insert 1 0 (node 2 7 [] [] no_area []) ∷
    ops.Pass ∷
    []) ∷
    [])

the_text : replay_text script script.order ≡ Some (
    codes "finale\n" ++
    codes "f1 root 1 ok\n" ++
    codes "f1 insert 2 ok\n" ++
    codes "f1 pass 1 base 0 token 0\n" ++
    codes "  u clear 0 root 1 list 1 2 data\n" ++
    codes "f1 remove 2 ok\n" ++
    codes "f1 insert 2 ok\n" ++
    codes "f1 pass 2 base 1 token 0\n" ++
    codes "  u clear 0 root 0 list 1 2\n" ++
    codes "a1 applied 1\n" ++
    codes "  e 1:1 subtree_created\n" ++
    codes "a1 applied 2\n" ++
    codes "  e 1:2 role_changed\n" ++
    codes "dump\n" ++
    codes "tree 1 parent 0 focused 0 loaded no focus 0 sel 0 0 0 0 title \"\" url \"\"\n" ++
    codes "1 generic\n" ++
    codes "  2 button\n")
unfolding computing
the_text = refl
