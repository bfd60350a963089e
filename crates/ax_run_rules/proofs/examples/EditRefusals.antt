-- Each refusal of an edit, and of a touch, by its name.
use Rattle.std.proofs.Common.{◌≡◌, [], ◌∷◌, ◌++◌, refl, Some}
use Rattle.std.specs.Prelude.{codes}
use Rattle.ax_ask.specs.declared.op.FrameOp.TheVariants as ops
use Rattle.ax_run_rules.specs.Scripts.{Script}
use Rattle.ax_run_rules.specs.ReplayText.{replay_text}
use Rattle.ax_run_rules.proofs.Computing.{computing}
use Rattle.ax_run_rules.proofs.ScriptWords.{blank, root, insert, remove, move, frame, frames}

abbrev pub script : Script
script = frames (
    frame 1 (
    remove 1 ∷
    root (blank 1) ∷
    insert 1 0 (blank 2) ∷
    insert 9 0 (blank 3) ∷
    insert 1 0 (blank 2) ∷
    insert 1 5 (blank 3) ∷
    remove 1 ∷
    move 1 2 0 ∷
    move 2 2 0 ∷
    ops.Touch 9 ∷
    []) ∷
    [])

the_text : replay_text script script.order ≡ Some (
    codes "finale\n" ++
    codes "f1 remove 1 NoRoot\n" ++
    codes "f1 root 1 ok\n" ++
    codes "f1 insert 2 ok\n" ++
    codes "f1 insert 3 UnknownNode 9\n" ++
    codes "f1 insert 2 IdTaken 2\n" ++
    codes "f1 insert 3 BadIndex 5 1\n" ++
    codes "f1 remove 1 IsRoot 1\n" ++
    codes "f1 move 1 IsRoot 1\n" ++
    codes "f1 move 2 IntoItself 2\n" ++
    codes "f1 touch 9 UnknownNode 9\n" ++
    codes "b ask 1 token 1\n" ++
    codes "d1:1\n" ++
    codes "f1 pass 1 base 0 token 1\n" ++
    codes "  u clear 0 root 1 list 1 2 data\n" ++
    codes "a1 applied 1\n" ++
    codes "  e 1:1 subtree_created\n" ++
    codes "dump\n" ++
    codes "tree 1 parent 0 focused 0 loaded no focus 0 sel 0 0 0 0 title \"\" url \"\"\n" ++
    codes "1 generic\n" ++
    codes "  2 generic\n")
unfolding computing
the_text = refl
