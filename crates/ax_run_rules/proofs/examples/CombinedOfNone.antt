-- The combined tree is empty where the first tree was destroyed.
use Rattle.std.proofs.Common.{◌≡◌, [], ◌∷◌, ◌++◌, refl, Some}
use Rattle.std.specs.Prelude.{codes}
use Rattle.ax_node.specs.declared.value.Value.TheVariants as values
use Rattle.ax_ask.specs.declared.op.FrameOp.TheVariants as ops
use Rattle.ax_ask.specs.declared.op.BrowserOp.TheVariants as browsers
use Rattle.ax_run_rules.specs.Scripts.{Script}
use Rattle.ax_run_rules.specs.CombineText.{combine_text}
use Rattle.ax_run_rules.proofs.Computing.{computing}
use Rattle.ax_run_rules.proofs.ScriptWords.{no_area, node, blank, having, root, insert, no_data, about, after, frame, frames}

abbrev pub script : Script
script = record (frames (
    frame 1 (
    root (blank 1) ∷
    insert 1 0 (having 2 ((1, (values.Text (97 ∷ 98 ∷ 101 ∷ 769 ∷ []))) ∷ [])) ∷
    insert 1 1 (node 3 16 [] ((6, (values.Tree 2)) ∷ []) no_area []) ∷
    ops.Pass ∷
    []) ∷
    frame 2 (
    about (record no_data { parent = Some (Some 1) }) ∷
    root (having 1 ((1, (values.Text (codes "c"))) ∷ [])) ∷
    ops.Pass ∷
    []) ∷
    [])) {
      browser = (after 0 (browsers.Destroy 1) ∷ []);
    }

the_text : combine_text script ≡ Some (
    codes "finale\n" ++
    codes "f1 root 1 ok\n" ++
    codes "f1 insert 2 ok\n" ++
    codes "f1 insert 3 ok\n" ++
    codes "f1 pass 1 base 0 token 0\n" ++
    codes "  u clear 0 root 1 list 1 2 3 data\n" ++
    codes "f2 data ok\n" ++
    codes "f2 root 1 ok\n" ++
    codes "f2 pass 1 base 0 token 0\n" ++
    codes "  u clear 0 root 1 list 1 data\n" ++
    codes "a1 applied 1\n" ++
    codes "  e 1:1 subtree_created\n" ++
    codes "a2 applied 1\n" ++
    codes "  e 2:1 subtree_created\n" ++
    codes "b destroy 1 ok\n" ++
    codes "dump\n" ++
    codes "tree 1 gone\n" ++
    codes "tree 2 parent 1 focused 0 loaded no focus 0 sel 0 0 0 0 title \"\" url \"\"\n" ++
    codes "1 generic name=\"c\"\n" ++
    codes "combined\n" ++
    codes "tree 1 empty\n")
unfolding computing
the_text = refl
