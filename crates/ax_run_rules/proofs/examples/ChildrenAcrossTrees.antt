-- The root of a hanging tree is the child of its host.
use Rattle.std.proofs.Common.{◌≡◌, [], ◌∷◌, ◌++◌, refl, Some}
use Rattle.std.specs.Prelude.{codes, encode_utf8_all}
use Rattle.ax_node.specs.declared.value.Value.TheVariants as values
use Rattle.ax_ask.specs.declared.op.FrameOp.TheVariants as ops
use Rattle.ax_ask.specs.declared.query.Query.TheVariants as queries
use Rattle.ax_run_rules.specs.Scripts.{Script}
use Rattle.ax_run_rules.specs.ReplayText.{replay_text}
use Rattle.ax_run_rules.proofs.Computing.{computing}
use Rattle.ax_run_rules.proofs.ScriptWords.{no_area, node, blank, having, root, insert, no_data, about, asked, place, frame, frames}

abbrev pub script : Script
script = record (frames (
    frame 1 (
    root (blank 1) ∷
    insert 1 0 (having 2 ((1, (values.Text (97 ∷ 98 ∷ 101 ∷ 769 ∷ []))) ∷ [])) ∷
    insert 1 1 (node 3 16 [] ((6, (values.Tree 2)) ∷ []) no_area []) ∷
    ops.Pass ∷
    []) ∷
    frame 2 (
    about (record no_data { parent = Some (Some 1) }) ∷
    root (having 1 ((1, (values.Text (codes "c"))) ∷ [])) ∷
    ops.Pass ∷
    []) ∷
    [])) {
      readers = ((asked 0 (queries.Children (place 1 3)) ∷ []) ∷ []);
    }

the_text : replay_text script script.order ≡ Some (
    codes "finale\n" ++
    codes "f1 root 1 ok\n" ++
    codes "f1 insert 2 ok\n" ++
    codes "f1 insert 3 ok\n" ++
    codes "f1 pass 1 base 0 token 0\n" ++
    codes "  u clear 0 root 1 list 1 2 3 data\n" ++
    codes "f2 data ok\n" ++
    codes "f2 root 1 ok\n" ++
    codes "f2 pass 1 base 0 token 0\n" ++
    codes "  u clear 0 root 1 list 1 data\n" ++
    codes "a1 applied 1\n" ++
    codes "  e 1:1 subtree_created\n" ++
    codes "a2 applied 1\n" ++
    codes "  e 2:1 subtree_created\n" ++
    codes "r1 children = 2:1\n" ++
    codes "dump\n" ++
    codes "tree 1 parent 0 focused 0 loaded no focus 0 sel 0 0 0 0 title \"\" url \"\"\n" ++
    codes "1 generic\n" ++
    encode_utf8_all (32 ∷ 32 ∷ 50 ∷ 32 ∷ 103 ∷ 101 ∷ 110 ∷ 101 ∷ 114 ∷ 105 ∷ 99 ∷ 32 ∷ 110 ∷ 97 ∷ 109 ∷ 101 ∷ 61 ∷ 34 ∷ 97 ∷ 98 ∷ 101 ∷ 769 ∷ 34 ∷ 10 ∷ []) ++
    codes "  3 iframe child_tree=2\n" ++
    codes "tree 2 parent 1 focused 0 loaded no focus 0 sel 0 0 0 0 title \"\" url \"\"\n" ++
    codes "1 generic name=\"c\"\n")
unfolding computing
the_text = refl
