-- Leaf form and up form, refused positions, and moves by words and leaves.
use Rattle.std.proofs.Common.{◌≡◌, [], ◌∷◌, ◌++◌, refl, Some}
use Rattle.std.specs.Prelude.{codes}
use Rattle.ax_base.specs.declared.position.Affinity.TheVariants as affinities
use Rattle.ax_base.specs.declared.position.Pos.TheVariants as positions
use Rattle.ax_base.specs.declared.position.Unit.TheVariants as units
use Rattle.ax_node.specs.declared.value.Value.TheVariants as values
use Rattle.ax_ask.specs.declared.op.FrameOp.TheVariants as ops
use Rattle.ax_ask.specs.declared.query.Query.TheVariants as queries
use Rattle.ax_base.specs.declared.position.Way.TheVariants as ways
use Rattle.ax_run_rules.specs.Scripts.{Script}
use Rattle.ax_run_rules.specs.ReplayText.{replay_text}
use Rattle.ax_run_rules.proofs.Computing.{computing}
use Rattle.ax_run_rules.proofs.ScriptWords.{blank, having, root, insert, asked, child_at, text_at, frame, frames}

abbrev pub script : Script
script = record (frames (
    frame 1 (
    root (blank 1) ∷
    insert 1 0 (having 2 ((1, (values.Text (codes "one two"))) ∷ [])) ∷
    insert 1 1 (blank 3) ∷
    insert 1 2 (having 4 ((1, (values.Text (codes "x"))) ∷ [])) ∷
    ops.Pass ∷
    []) ∷
    [])) {
      readers = ((asked 0 (queries.Leaf (text_at 1 1 7 affinities.Up)) ∷ asked 0 (queries.Leaf (text_at 1 1 7 affinities.Down)) ∷ asked 0 (queries.Up (text_at 1 4 1 affinities.Down)) ∷ asked 0 (queries.Up (text_at 1 1 0 affinities.Down)) ∷ asked 0 (queries.Offset (child_at 1 1 2)) ∷ asked 0 (queries.Offset (child_at 1 1 4)) ∷ asked 0 (queries.Offset (text_at 1 2 8 affinities.Down)) ∷ asked 0 (queries.Offset positions.Null) ∷ asked 0 (queries.Move (text_at 1 2 0 affinities.Down) units.Word ways.Next) ∷ asked 0 (queries.Move (text_at 1 2 4 affinities.Down) units.Word ways.Next) ∷ asked 0 (queries.Move (text_at 1 2 0 affinities.Down) units.Leaf ways.Prev) ∷ []) ∷ []);
    }

the_text : replay_text script script.order ≡ Some (
    codes "finale\n" ++
    codes "f1 root 1 ok\n" ++
    codes "f1 insert 2 ok\n" ++
    codes "f1 insert 3 ok\n" ++
    codes "f1 insert 4 ok\n" ++
    codes "f1 pass 1 base 0 token 0\n" ++
    codes "  u clear 0 root 1 list 1 2 3 4 data\n" ++
    codes "a1 applied 1\n" ++
    codes "  e 1:1 subtree_created\n" ++
    codes "r1 leaf = 1:2 text 7 up\n" ++
    codes "r1 leaf = 1:4 text 0 down\n" ++
    codes "r1 up = 1:1 text 8 down\n" ++
    codes "r1 up = NoParent\n" ++
    codes "r1 offset = 7\n" ++
    codes "r1 offset = BadIndex 4 3\n" ++
    codes "r1 offset = BadOffset 8 7\n" ++
    codes "r1 offset = NoTree\n" ++
    codes "r1 move = 1:2 text 4 down\n" ++
    codes "r1 move = 1:4 text 0 down\n" ++
    codes "r1 move = AtStart\n" ++
    codes "dump\n" ++
    codes "tree 1 parent 0 focused 0 loaded no focus 0 sel 0 0 0 0 title \"\" url \"\"\n" ++
    codes "1 generic\n" ++
    codes "  2 generic name=\"one two\"\n" ++
    codes "  3 generic\n" ++
    codes "  4 generic name=\"x\"\n")
unfolding computing
the_text = refl
