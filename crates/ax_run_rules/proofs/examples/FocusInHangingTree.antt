-- The focus goes on into the tree that hangs at it, until that tree is destroyed.
use Rattle.std.proofs.Common.{◌≡◌, [], ◌∷◌, ◌++◌, refl, Some}
use Rattle.std.specs.Prelude.{codes}
use Rattle.ax_node.specs.declared.value.Value.TheVariants as values
use Rattle.ax_ask.specs.declared.op.FrameOp.TheVariants as ops
use Rattle.ax_ask.specs.declared.op.BrowserOp.TheVariants as browsers
use Rattle.ax_ask.specs.declared.query.Query.TheVariants as queries
use Rattle.ax_run_rules.specs.Scripts.{Script}
use Rattle.ax_run_rules.specs.ReplayText.{replay_text}
use Rattle.ax_run_rules.proofs.Computing.{computing}
use Rattle.ax_run_rules.proofs.ScriptWords.{no_area, node, blank, root, insert, set_attrs, change, no_data, about, after, asked, f, a, b, r, frame, frames}

abbrev pub script : Script
script = record (frames (
    frame 1 (
    about (record no_data { focus = Some (Some 2) }) ∷
    root (blank 1) ∷
    insert 1 0 (node 2 16 [] ((6, (values.Tree 2)) ∷ []) no_area []) ∷
    ops.Pass ∷
    []) ∷
    frame 2 (
    about (record no_data { parent = Some (Some 1); focus = Some (Some 1) }) ∷
    root (blank 1) ∷
    ops.Pass ∷
    set_attrs 1 (change 1 (Some (values.Text (codes "z"))) ∷ []) ∷
    ops.Pass ∷
    []) ∷
    [])) {
      browser = (after 0 (browsers.Destroy 2) ∷ []);
      readers = ((asked 0 (queries.Focus) ∷ asked 0 (queries.Focus) ∷ []) ∷ []);
      order = (f 1 ∷ f 1 ∷ f 1 ∷ f 1 ∷ a 1 ∷ f 2 ∷ f 2 ∷ f 2 ∷ a 2 ∷ r 1 ∷ f 2 ∷ f 2 ∷ b ∷ a 2 ∷ r 1 ∷ []);
    }

the_text : replay_text script script.order ≡ Some (
    codes "f1 data ok\n" ++
    codes "f1 root 1 ok\n" ++
    codes "f1 insert 2 ok\n" ++
    codes "f1 pass 1 base 0 token 0\n" ++
    codes "  u clear 0 root 1 list 1 2 data\n" ++
    codes "a1 applied 1\n" ++
    codes "  e 1:2 focus_changed\n" ++
    codes "  e 1:1 subtree_created\n" ++
    codes "f2 data ok\n" ++
    codes "f2 root 1 ok\n" ++
    codes "f2 pass 1 base 0 token 0\n" ++
    codes "  u clear 0 root 1 list 1 data\n" ++
    codes "a2 applied 1\n" ++
    codes "  e 2:1 focus_changed\n" ++
    codes "  e 2:1 subtree_created\n" ++
    codes "r1 focus = 2:1\n" ++
    codes "f2 set 1 ok\n" ++
    codes "f2 pass 2 base 1 token 0\n" ++
    codes "  u clear 0 root 0 list 1\n" ++
    codes "b destroy 2 ok\n" ++
    codes "a2 gone\n" ++
    codes "r1 focus = 1:2\n" ++
    codes "finale\n" ++
    codes "dump\n" ++
    codes "tree 1 parent 0 focused 0 loaded no focus 2 sel 0 0 0 0 title \"\" url \"\"\n" ++
    codes "1 generic\n" ++
    codes "  2 iframe child_tree=2\n" ++
    codes "tree 2 gone\n")
unfolding computing
the_text = refl
