-- A probe of an update that takes a node from a dropped part.
use Rattle.std.proofs.Common.{◌≡◌, [], ◌∷◌, ◌++◌, refl, Some, None}
use Rattle.std.specs.Prelude.{codes}
use Rattle.ax_ask.specs.declared.op.FrameOp.TheVariants as ops
use Rattle.ax_ask.specs.declared.op.BrowserOp.TheVariants as browsers
use Rattle.ax_run_rules.specs.Scripts.{Script}
use Rattle.ax_run_rules.specs.ReplayText.{replay_text}
use Rattle.ax_run_rules.proofs.Computing.{computing}
use Rattle.ax_run_rules.proofs.ScriptWords.{no_area, node, blank, root, insert, after, update, frame, frames}

abbrev pub script : Script
script = record (frames (
    frame 1 (
    root (blank 1) ∷
    insert 1 0 (blank 2) ∷
    insert 1 1 (blank 3) ∷
    insert 3 0 (blank 4) ∷
    ops.Pass ∷
    []) ∷
    [])) {
      browser = (after 0 (browsers.Probe 1 (update None None ((node 1 1 [] [] no_area (2 ∷ [])) ∷ (node 2 1 [] [] no_area (4 ∷ [])) ∷ (blank 4) ∷ []))) ∷ []);
    }

the_text : replay_text script script.order ≡ Some (
    codes "finale\n" ++
    codes "f1 root 1 ok\n" ++
    codes "f1 insert 2 ok\n" ++
    codes "f1 insert 3 ok\n" ++
    codes "f1 insert 4 ok\n" ++
    codes "f1 pass 1 base 0 token 0\n" ++
    codes "  u clear 0 root 1 list 1 2 3 4 data\n" ++
    codes "a1 applied 1\n" ++
    codes "  e 1:1 subtree_created\n" ++
    codes "b probe 1 accepted 3\n" ++
    codes "dump\n" ++
    codes "tree 1 parent 0 focused 0 loaded no focus 0 sel 0 0 0 0 title \"\" url \"\"\n" ++
    codes "1 generic\n" ++
    codes "  2 generic\n" ++
    codes "  3 generic\n" ++
    codes "    4 generic\n")
unfolding computing
the_text = refl
