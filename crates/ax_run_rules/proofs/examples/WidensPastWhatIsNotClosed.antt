-- A node that isn't closed: the update widens past it, to the root.
use Rattle.std.proofs.Common.{◌≡◌, [], ◌∷◌, ◌++◌, refl, Some}
use Rattle.std.specs.Prelude.{codes}
use Rattle.ax_node.specs.declared.value.Value.TheVariants as values
use Rattle.ax_ask.specs.declared.op.FrameOp.TheVariants as ops
use Rattle.ax_run_rules.specs.Scripts.{Script}
use Rattle.ax_run_rules.specs.ReplayText.{replay_text}
use Rattle.ax_run_rules.proofs.Computing.{computing}
use Rattle.ax_run_rules.proofs.ScriptWords.{blank, root, insert, move, set_attrs, change, frame, frames}

abbrev pub script : Script
script = frames (
    frame 1 (
    root (blank 1) ∷
    insert 1 0 (blank 2) ∷
    insert 1 1 (blank 7) ∷
    insert 2 0 (blank 3) ∷
    insert 2 1 (blank 6) ∷
    insert 3 0 (blank 4) ∷
    insert 6 0 (blank 5) ∷
    insert 7 0 (blank 8) ∷
    ops.Pass ∷
    set_attrs 4 (change 1 (Some (values.Text (codes "x"))) ∷ []) ∷
    move 5 4 0 ∷
    move 8 6 0 ∷
    ops.Pass ∷
    []) ∷
    [])

the_text : replay_text script script.order ≡ Some (
    codes "finale\n" ++
    codes "f1 root 1 ok\n" ++
    codes "f1 insert 2 ok\n" ++
    codes "f1 insert 7 ok\n" ++
    codes "f1 insert 3 ok\n" ++
    codes "f1 insert 6 ok\n" ++
    codes "f1 insert 4 ok\n" ++
    codes "f1 insert 5 ok\n" ++
    codes "f1 insert 8 ok\n" ++
    codes "f1 pass 1 base 0 token 0\n" ++
    codes "  u clear 0 root 1 list 1 2 3 4 6 5 7 8 data\n" ++
    codes "f1 set 4 ok\n" ++
    codes "f1 move 5 ok\n" ++
    codes "f1 move 8 ok\n" ++
    codes "f1 pass 2 base 1 token 0\n" ++
    codes "  u clear 1 root 0 list 1 2 3 4 5 6 8 7\n" ++
    codes "a1 applied 1\n" ++
    codes "  e 1:1 subtree_created\n" ++
    codes "a1 applied 2\n" ++
    codes "  e 1:4 name_changed\n" ++
    codes "  e 1:4 children_changed\n" ++
    codes "  e 1:6 children_changed\n" ++
    codes "  e 1:7 children_changed\n" ++
    codes "dump\n" ++
    codes "tree 1 parent 0 focused 0 loaded no focus 0 sel 0 0 0 0 title \"\" url \"\"\n" ++
    codes "1 generic\n" ++
    codes "  2 generic\n" ++
    codes "    3 generic\n" ++
    codes "      4 generic name=\"x\"\n" ++
    codes "        5 generic\n" ++
    codes "    6 generic\n" ++
    codes "      8 generic\n" ++
    codes "  7 generic\n")
unfolding computing
the_text = refl
