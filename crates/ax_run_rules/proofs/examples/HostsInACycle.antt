-- Two trees that name each other as parents hang nowhere that is shown.
use Rattle.std.proofs.Common.{◌≡◌, [], ◌∷◌, ◌++◌, refl, Some}
use Rattle.std.specs.Prelude.{codes}
use Rattle.ax_node.specs.declared.value.Value.TheVariants as values
use Rattle.ax_ask.specs.declared.op.FrameOp.TheVariants as ops
use Rattle.ax_ask.specs.declared.query.Query.TheVariants as queries
use Rattle.ax_run_rules.specs.Scripts.{Script}
use Rattle.ax_run_rules.specs.ReplayText.{replay_text}
use Rattle.ax_run_rules.proofs.Computing.{computing}
use Rattle.ax_run_rules.proofs.ScriptWords.{blank, having, root, no_data, about, asked, place, frame, frames}

abbrev pub script : Script
script = record (frames (
    frame 1 (
    root (blank 1) ∷
    ops.Pass ∷
    []) ∷
    frame 2 (
    about (record no_data { parent = Some (Some 3) }) ∷
    root (having 1 ((6, (values.Tree 3)) ∷ [])) ∷
    ops.Pass ∷
    []) ∷
    frame 3 (
    about (record no_data { parent = Some (Some 2) }) ∷
    root (having 1 ((6, (values.Tree 2)) ∷ [])) ∷
    ops.Pass ∷
    []) ∷
    [])) {
      readers = ((asked 0 (queries.Next (place 1 1)) ∷ asked 0 (queries.Node (place 2 1)) ∷ asked 0 (queries.Node (place 9 1)) ∷ []) ∷ []);
    }

the_text : replay_text script script.order ≡ Some (
    codes "finale\n" ++
    codes "f1 root 1 ok\n" ++
    codes "f1 pass 1 base 0 token 0\n" ++
    codes "  u clear 0 root 1 list 1 data\n" ++
    codes "f2 data ok\n" ++
    codes "f2 root 1 ok\n" ++
    codes "f2 pass 1 base 0 token 0\n" ++
    codes "  u clear 0 root 1 list 1 data\n" ++
    codes "f3 data ok\n" ++
    codes "f3 root 1 ok\n" ++
    codes "f3 pass 1 base 0 token 0\n" ++
    codes "  u clear 0 root 1 list 1 data\n" ++
    codes "a1 applied 1\n" ++
    codes "  e 1:1 subtree_created\n" ++
    codes "a2 applied 1\n" ++
    codes "  e 2:1 subtree_created\n" ++
    codes "a3 applied 1\n" ++
    codes "  e 3:1 subtree_created\n" ++
    codes "r1 next = AtEnd\n" ++
    codes "r1 node = NoNode\n" ++
    codes "r1 node = NoTree\n" ++
    codes "dump\n" ++
    codes "tree 1 parent 0 focused 0 loaded no focus 0 sel 0 0 0 0 title \"\" url \"\"\n" ++
    codes "1 generic\n" ++
    codes "tree 2 parent 3 focused 0 loaded no focus 0 sel 0 0 0 0 title \"\" url \"\"\n" ++
    codes "1 generic child_tree=3\n" ++
    codes "tree 3 parent 2 focused 0 loaded no focus 0 sel 0 0 0 0 title \"\" url \"\"\n" ++
    codes "1 generic child_tree=2\n")
unfolding computing
the_text = refl
