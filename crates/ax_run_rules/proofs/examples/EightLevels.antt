-- Trees that hang in one another are shown to eight levels.
use Rattle.std.proofs.Common.{◌≡◌, [], ◌∷◌, ◌++◌, refl, Some, None}
use Rattle.std.specs.Prelude.{codes}
use Rattle.ax_base.specs.declared.position.Affinity.TheVariants as affinities
use Rattle.ax_node.specs.declared.value.Value.TheVariants as values
use Rattle.ax_ask.specs.declared.op.FrameOp.TheVariants as ops
use Rattle.ax_ask.specs.declared.query.Query.TheVariants as queries
use Rattle.ax_run_rules.specs.Scripts.{Script}
use Rattle.ax_run_rules.specs.ReplayText.{replay_text}
use Rattle.ax_run_rules.proofs.Computing.{computing}
use Rattle.ax_run_rules.proofs.ScriptWords.{having, root, no_data, about, asked, place, text_at, frame, frames}

abbrev pub script : Script
script = record (frames (
    frame 1 (
    about (record no_data { parent = Some None; focus = Some (Some 1) }) ∷
    root (having 1 ((6, (values.Tree 2)) ∷ [])) ∷
    ops.Pass ∷
    []) ∷
    frame 2 (
    about (record no_data { parent = Some (Some 1); focus = Some (Some 1) }) ∷
    root (having 1 ((6, (values.Tree 3)) ∷ [])) ∷
    ops.Pass ∷
    []) ∷
    frame 3 (
    about (record no_data { parent = Some (Some 2); focus = Some (Some 1) }) ∷
    root (having 1 ((6, (values.Tree 4)) ∷ [])) ∷
    ops.Pass ∷
    []) ∷
    frame 4 (
    about (record no_data { parent = Some (Some 3); focus = Some (Some 1) }) ∷
    root (having 1 ((6, (values.Tree 5)) ∷ [])) ∷
    ops.Pass ∷
    []) ∷
    frame 5 (
    about (record no_data { parent = Some (Some 4); focus = Some (Some 1) }) ∷
    root (having 1 ((6, (values.Tree 6)) ∷ [])) ∷
    ops.Pass ∷
    []) ∷
    frame 6 (
    about (record no_data { parent = Some (Some 5); focus = Some (Some 1) }) ∷
    root (having 1 ((6, (values.Tree 7)) ∷ [])) ∷
    ops.Pass ∷
    []) ∷
    frame 7 (
    about (record no_data { parent = Some (Some 6); focus = Some (Some 1) }) ∷
    root (having 1 ((6, (values.Tree 8)) ∷ [])) ∷
    ops.Pass ∷
    []) ∷
    frame 8 (
    about (record no_data { parent = Some (Some 7); focus = Some (Some 1) }) ∷
    root (having 1 ((6, (values.Tree 9)) ∷ [])) ∷
    ops.Pass ∷
    []) ∷
    frame 9 (
    about (record no_data { parent = Some (Some 8); focus = Some (Some 1) }) ∷
    root (having 1 ((1, (values.Text (codes "deep"))) ∷ [])) ∷
    ops.Pass ∷
    []) ∷
    [])) {
      readers = ((asked 0 (queries.Focus) ∷ asked 0 (queries.Children (place 8 1)) ∷ asked 0 (queries.Node (place 9 1)) ∷ asked 0 (queries.Text (text_at 1 1 0 affinities.Down) (text_at 8 1 0 affinities.Down)) ∷ []) ∷ []);
    }

the_text : replay_text script script.order ≡ Some (
    codes "finale\n" ++
    codes "f1 data ok\n" ++
    codes "f1 root 1 ok\n" ++
    codes "f1 pass 1 base 0 token 0\n" ++
    codes "  u clear 0 root 1 list 1 data\n" ++
    codes "f2 data ok\n" ++
    codes "f2 root 1 ok\n" ++
    codes "f2 pass 1 base 0 token 0\n" ++
    codes "  u clear 0 root 1 list 1 data\n" ++
    codes "f3 data ok\n" ++
    codes "f3 root 1 ok\n" ++
    codes "f3 pass 1 base 0 token 0\n" ++
    codes "  u clear 0 root 1 list 1 data\n" ++
    codes "f4 data ok\n" ++
    codes "f4 root 1 ok\n" ++
    codes "f4 pass 1 base 0 token 0\n" ++
    codes "  u clear 0 root 1 list 1 data\n" ++
    codes "f5 data ok\n" ++
    codes "f5 root 1 ok\n" ++
    codes "f5 pass 1 base 0 token 0\n" ++
    codes "  u clear 0 root 1 list 1 data\n" ++
    codes "f6 data ok\n" ++
    codes "f6 root 1 ok\n" ++
    codes "f6 pass 1 base 0 token 0\n" ++
    codes "  u clear 0 root 1 list 1 data\n" ++
    codes "f7 data ok\n" ++
    codes "f7 root 1 ok\n" ++
    codes "f7 pass 1 base 0 token 0\n" ++
    codes "  u clear 0 root 1 list 1 data\n" ++
    codes "f8 data ok\n" ++
    codes "f8 root 1 ok\n" ++
    codes "f8 pass 1 base 0 token 0\n" ++
    codes "  u clear 0 root 1 list 1 data\n" ++
    codes "f9 data ok\n" ++
    codes "f9 root 1 ok\n" ++
    codes "f9 pass 1 base 0 token 0\n" ++
    codes "  u clear 0 root 1 list 1 data\n" ++
    codes "a1 applied 1\n" ++
    codes "  e 1:1 focus_changed\n" ++
    codes "  e 1:1 subtree_created\n" ++
    codes "a2 applied 1\n" ++
    codes "  e 2:1 focus_changed\n" ++
    codes "  e 2:1 subtree_created\n" ++
    codes "a3 applied 1\n" ++
    codes "  e 3:1 focus_changed\n" ++
    codes "  e 3:1 subtree_created\n" ++
    codes "a4 applied 1\n" ++
    codes "  e 4:1 focus_changed\n" ++
    codes "  e 4:1 subtree_created\n" ++
    codes "a5 applied 1\n" ++
    codes "  e 5:1 focus_changed\n" ++
    codes "  e 5:1 subtree_created\n" ++
    codes "a6 applied 1\n" ++
    codes "  e 6:1 focus_changed\n" ++
    codes "  e 6:1 subtree_created\n" ++
    codes "a7 applied 1\n" ++
    codes "  e 7:1 focus_changed\n" ++
    codes "  e 7:1 subtree_created\n" ++
    codes "a8 applied 1\n" ++
    codes "  e 8:1 focus_changed\n" ++
    codes "  e 8:1 subtree_created\n" ++
    codes "a9 applied 1\n" ++
    codes "  e 9:1 focus_changed\n" ++
    codes "  e 9:1 subtree_created\n" ++
    codes "r1 focus = 8:1\n" ++
    codes "r1 children = -\n" ++
    codes "r1 node = NoNode\n" ++
    codes "r1 text = \"\"\n" ++
    codes "dump\n" ++
    codes "tree 1 parent 0 focused 0 loaded no focus 1 sel 0 0 0 0 title \"\" url \"\"\n" ++
    codes "1 generic child_tree=2\n" ++
    codes "tree 2 parent 1 focused 0 loaded no focus 1 sel 0 0 0 0 title \"\" url \"\"\n" ++
    codes "1 generic child_tree=3\n" ++
    codes "tree 3 parent 2 focused 0 loaded no focus 1 sel 0 0 0 0 title \"\" url \"\"\n" ++
    codes "1 generic child_tree=4\n" ++
    codes "tree 4 parent 3 focused 0 loaded no focus 1 sel 0 0 0 0 title \"\" url \"\"\n" ++
    codes "1 generic child_tree=5\n" ++
    codes "tree 5 parent 4 focused 0 loaded no focus 1 sel 0 0 0 0 title \"\" url \"\"\n" ++
    codes "1 generic child_tree=6\n" ++
    codes "tree 6 parent 5 focused 0 loaded no focus 1 sel 0 0 0 0 title \"\" url \"\"\n" ++
    codes "1 generic child_tree=7\n" ++
    codes "tree 7 parent 6 focused 0 loaded no focus 1 sel 0 0 0 0 title \"\" url \"\"\n" ++
    codes "1 generic child_tree=8\n" ++
    codes "tree 8 parent 7 focused 0 loaded no focus 1 sel 0 0 0 0 title \"\" url \"\"\n" ++
    codes "1 generic child_tree=9\n" ++
    codes "tree 9 parent 8 focused 0 loaded no focus 1 sel 0 0 0 0 title \"\" url \"\"\n" ++
    codes "1 generic name=\"deep\"\n")
unfolding computing
the_text = refl
