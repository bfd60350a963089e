-- Actions: done, refused by name, and sent in the next pass.
use Rattle.std.proofs.Common.{◌≡◌, [], ◌∷◌, ◌++◌, refl, Some}
use Rattle.std.specs.Prelude.{codes}
use Rattle.ax_ask.specs.declared.op.FrameOp.TheVariants as ops
use Rattle.ax_ask.specs.declared.action.What.TheVariants as whats
use Rattle.ax_run_rules.specs.Scripts.{Script}
use Rattle.ax_run_rules.specs.ActText.{act_text}
use Rattle.ax_run_rules.proofs.Computing.{computing}
use Rattle.ax_run_rules.proofs.ScriptWords.{blank, root, insert, action, frame, frames}

abbrev pub script : Script
script = record (frames (
    frame 1 (
    root (blank 1) ∷
    insert 1 0 (blank 2) ∷
    ops.Pass ∷
    []) ∷
    [])) {
      actions = (action 1 2 whats.Focus ∷ action 1 2 (whats.SetValue (codes "x")) ∷ action 1 9 whats.Focus ∷ action 1 2 whats.Scroll ∷ []);
    }

the_text : act_text script ≡ Some (
    codes "finale\n" ++
    codes "f1 root 1 ok\n" ++
    codes "f1 insert 2 ok\n" ++
    codes "f1 pass 1 base 0 token 0\n" ++
    codes "  u clear 0 root 1 list 1 2 data\n" ++
    codes "a1 applied 1\n" ++
    codes "  e 1:1 subtree_created\n" ++
    codes "dump\n" ++
    codes "tree 1 parent 0 focused 0 loaded no focus 0 sel 0 0 0 0 title \"\" url \"\"\n" ++
    codes "1 generic\n" ++
    codes "  2 generic\n" ++
    codes "actions\n" ++
    codes "p1 focus 2 ok\n" ++
    codes "p1 set_value 2 ok\n" ++
    codes "p1 focus 9 UnknownNode 9\n" ++
    codes "p1 scroll 2 NoContainer 2\n" ++
    codes "b ask 1 token 1\n" ++
    codes "d1:1\n" ++
    codes "f1 pass 2 base 0 token 1\n" ++
    codes "  u clear 0 root 1 list 1 2 data\n" ++
    codes "a1 applied 2\n" ++
    codes "  e 1:2 focus_changed\n" ++
    codes "  e 1:2 value_changed\n" ++
    codes "dump\n" ++
    codes "tree 1 parent 0 focused 0 loaded no focus 2 sel 0 0 0 0 title \"\" url \"\"\n" ++
    codes "1 generic\n" ++
    codes "  2 generic value=\"x\"\n")
unfolding computing
the_text = refl
