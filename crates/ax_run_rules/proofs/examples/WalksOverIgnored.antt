-- Walks of the shown list pass over ignored nodes, one under the other.
use Rattle.std.proofs.Common.{◌≡◌, [], ◌∷◌, ◌++◌, refl, Some}
use Rattle.std.specs.Prelude.{codes}
use Rattle.ax_node.specs.declared.value.Value.TheVariants as values
use Rattle.ax_ask.specs.declared.op.FrameOp.TheVariants as ops
use Rattle.ax_ask.specs.declared.query.Query.TheVariants as queries
use Rattle.ax_run_rules.specs.Scripts.{Script}
use Rattle.ax_run_rules.specs.ReplayText.{replay_text}
use Rattle.ax_run_rules.proofs.Computing.{computing}
use Rattle.ax_run_rules.proofs.ScriptWords.{no_area, node, blank, having, root, insert, asked, place, frame, frames}

abbrev pub script : Script
script = record (frames (
    frame 1 (
    root (blank 1) ∷
    insert 1 0 (node 2 1 (8 ∷ []) [] no_area []) ∷
    insert 1 1 (having 5 ((1, (values.Text (codes "c"))) ∷ [])) ∷
    insert 2 0 (having 3 ((1, (values.Text (codes "a"))) ∷ [])) ∷
    insert 2 1 (node 6 1 (8 ∷ []) [] no_area []) ∷
    insert 6 0 (having 4 ((1, (values.Text (codes "b"))) ∷ [])) ∷
    ops.Pass ∷
    []) ∷
    [])) {
      readers = ((asked 0 (queries.UChildren (place 1 1)) ∷ asked 0 (queries.UParent (place 1 4)) ∷ asked 0 (queries.UNext (place 1 4)) ∷ asked 0 (queries.UPrev (place 1 1)) ∷ asked 0 (queries.UChildren (place 1 2)) ∷ asked 0 (queries.UText (place 1 1)) ∷ []) ∷ []);
    }

the_text : replay_text script script.order ≡ Some (
    codes "finale\n" ++
    codes "f1 root 1 ok\n" ++
    codes "f1 insert 2 ok\n" ++
    codes "f1 insert 5 ok\n" ++
    codes "f1 insert 3 ok\n" ++
    codes "f1 insert 6 ok\n" ++
    codes "f1 insert 4 ok\n" ++
    codes "f1 pass 1 base 0 token 0\n" ++
    codes "  u clear 0 root 1 list 1 2 3 6 4 5 data\n" ++
    codes "a1 applied 1\n" ++
    codes "  e 1:1 subtree_created\n" ++
    codes "r1 u_children = 1:3 1:4 1:5\n" ++
    codes "r1 u_parent = 1:1\n" ++
    codes "r1 u_next = 1:5\n" ++
    codes "r1 u_prev = AtStart\n" ++
    codes "r1 u_children = Ignored\n" ++
    codes "r1 u_text = \"abc\"\n" ++
    codes "dump\n" ++
    codes "tree 1 parent 0 focused 0 loaded no focus 0 sel 0 0 0 0 title \"\" url \"\"\n" ++
    codes "1 generic\n" ++
    codes "  2 generic +ignored\n" ++
    codes "    3 generic name=\"a\"\n" ++
    codes "    6 generic +ignored\n" ++
    codes "      4 generic name=\"b\"\n" ++
    codes "  5 generic name=\"c\"\n")
unfolding computing
the_text = refl
