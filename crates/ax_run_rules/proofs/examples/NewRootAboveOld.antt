-- A child becomes the root, with the old root below it.
use Rattle.std.proofs.Common.{◌≡◌, [], ◌∷◌, ◌++◌, refl, Some}
use Rattle.std.specs.Prelude.{codes}
use Rattle.ax_ask.specs.declared.op.FrameOp.TheVariants as ops
use Rattle.ax_run_rules.specs.Scripts.{Script}
use Rattle.ax_run_rules.specs.ReplayText.{replay_text}
use Rattle.ax_run_rules.proofs.Computing.{computing}
use Rattle.ax_run_rules.proofs.ScriptWords.{blank, root, insert, frame, frames}

abbrev pub script : Script
script = frames (
    frame 1 (
    root (blank 1) ∷
    insert 1 0 (blank 2) ∷
    insert 1 1 (blank 3) ∷
    ops.Pass ∷
    root (blank 3) ∷
    insert 3 0 (blank 1) ∷
    ops.Pass ∷
    []) ∷
    [])

the_text : replay_text script script.order ≡ Some (
    codes "finale\n" ++
    codes "f1 root 1 ok\n" ++
    codes "f1 insert 2 ok\n" ++
    codes "f1 insert 3 ok\n" ++
    codes "f1 pass 1 base 0 token 0\n" ++
    codes "  u clear 0 root 1 list 1 2 3 data\n" ++
    codes "f1 root 3 ok\n" ++
    codes "f1 insert 1 ok\n" ++
    codes "f1 pass 2 base 1 token 0\n" ++
    codes "  u clear 1 root 3 list 3 1\n" ++
    codes "a1 applied 1\n" ++
    codes "  e 1:1 subtree_created\n" ++
    codes "a1 applied 2\n" ++
    codes "  e 1:3 children_changed\n" ++
    codes "  e 1:1 children_changed\n" ++
    codes "dump\n" ++
    codes "tree 1 parent 0 focused 0 loaded no focus 0 sel 0 0 0 0 title \"\" url \"\"\n" ++
    codes "3 generic\n" ++
    codes "  1 generic\n")
unfolding computing
the_text = refl
