-- A packet that was sent before its tree was asked anew is stale.
use Rattle.std.proofs.Common.{◌≡◌, [], ◌∷◌, ◌++◌, refl, Some}
use Rattle.std.specs.Prelude.{codes}
use Rattle.ax_node.specs.declared.value.Value.TheVariants as values
use Rattle.ax_ask.specs.declared.op.FrameOp.TheVariants as ops
use Rattle.ax_ask.specs.declared.op.BrowserOp.TheVariants as browsers
use Rattle.ax_run_rules.specs.Scripts.{Script}
use Rattle.ax_run_rules.specs.ReplayText.{replay_text}
use Rattle.ax_run_rules.proofs.Computing.{computing}
use Rattle.ax_run_rules.proofs.ScriptWords.{blank, root, set_attrs, change, after, f, a, b, d, frame, frames}

abbrev pub script : Script
script = record (frames (
    frame 1 (
    root (blank 1) ∷
    ops.Pass ∷
    set_attrs 1 (change 1 (Some (values.Text (codes "a"))) ∷ []) ∷
    ops.Pass ∷
    ops.Pass ∷
    []) ∷
    [])) {
      browser = (after 0 (browsers.Ask 1) ∷ []);
      order = (f 1 ∷ f 1 ∷ a 1 ∷ f 1 ∷ f 1 ∷ b ∷ d 1 1 ∷ a 1 ∷ f 1 ∷ a 1 ∷ []);
    }

the_text : replay_text script script.order ≡ Some (
    codes "f1 root 1 ok\n" ++
    codes "f1 pass 1 base 0 token 0\n" ++
    codes "  u clear 0 root 1 list 1 data\n" ++
    codes "a1 applied 1\n" ++
    codes "  e 1:1 subtree_created\n" ++
    codes "f1 set 1 ok\n" ++
    codes "f1 pass 2 base 1 token 0\n" ++
    codes "  u clear 0 root 0 list 1\n" ++
    codes "b ask 1 token 1\n" ++
    codes "d1:1\n" ++
    codes "a1 stale 0 1\n" ++
    codes "f1 pass 3 base 0 token 1\n" ++
    codes "  u clear 0 root 1 list 1 data\n" ++
    codes "a1 applied 3\n" ++
    codes "  e 1:1 name_changed\n" ++
    codes "finale\n" ++
    codes "dump\n" ++
    codes "tree 1 parent 0 focused 0 loaded no focus 0 sel 0 0 0 0 title \"\" url \"\"\n" ++
    codes "1 generic name=\"a\"\n")
unfolding computing
the_text = refl
