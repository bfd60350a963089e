-- A hit needs the point inside the place and inside all that clip it.
use Rattle.std.proofs.Common.{pos, ◌≡◌, true, [], ◌∷◌, ◌++◌, refl, Some}
use Rattle.std.specs.Prelude.{codes}
use Rattle.ax_node.specs.declared.value.Value.TheVariants as values
use Rattle.ax_ask.specs.declared.op.FrameOp.TheVariants as ops
use Rattle.ax_ask.specs.declared.query.Query.TheVariants as queries
use Rattle.ax_run_rules.specs.Scripts.{Script}
use Rattle.ax_run_rules.specs.ReplayText.{replay_text}
use Rattle.ax_run_rules.proofs.Computing.{computing}
use Rattle.ax_run_rules.proofs.ScriptWords.{area, node, root, insert, asked, point, frame, frames}

abbrev pub script : Script
script = record (frames (
    frame 1 (
    root (node 1 1 [] ((14, (values.Flag true)) ∷ []) (area (pos 0) (pos 0) (pos 100) (pos 100)) []) ∷
    insert 1 0 (node 2 1 [] [] (area (pos 50) (pos 50) (pos 100) (pos 100)) []) ∷
    ops.Pass ∷
    []) ∷
    [])) {
      readers = ((asked 0 (queries.Hit (point (pos 60) (pos 60))) ∷ asked 0 (queries.Hit (point (pos 10) (pos 10))) ∷ asked 0 (queries.Hit (point (pos 120) (pos 120))) ∷ asked 0 (queries.Hit (point (pos 100) (pos 60))) ∷ asked 0 (queries.Focus) ∷ []) ∷ []);
    }

the_text : replay_text script script.order ≡ Some (
    codes "finale\n" ++
    codes "f1 root 1 ok\n" ++
    codes "f1 insert 2 ok\n" ++
    codes "f1 pass 1 base 0 token 0\n" ++
    codes "  u clear 0 root 1 list 1 2 data\n" ++
    codes "a1 applied 1\n" ++
    codes "  e 1:1 subtree_created\n" ++
    codes "r1 hit = 1:2\n" ++
    codes "r1 hit = 1:1\n" ++
    codes "r1 hit = NoHit\n" ++
    codes "r1 hit = NoHit\n" ++
    codes "r1 focus = NoFocus\n" ++
    codes "dump\n" ++
    codes "tree 1 parent 0 focused 0 loaded no focus 0 sel 0 0 0 0 title \"\" url \"\"\n" ++
    codes "1 generic [0,0,100,100] clips=yes\n" ++
    codes "  2 generic [50,50,100,100]\n")
unfolding computing
the_text = refl
