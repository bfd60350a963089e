-- A shown place with an ignored child alone is a shown leaf.
use Rattle.std.proofs.Common.{◌≡◌, [], ◌∷◌, ◌++◌, refl, Some}
use Rattle.std.specs.Prelude.{codes}
use Rattle.ax_base.specs.declared.position.Affinity.TheVariants as affinities
use Rattle.ax_node.specs.declared.value.Value.TheVariants as values
use Rattle.ax_ask.specs.declared.op.FrameOp.TheVariants as ops
use Rattle.ax_ask.specs.declared.query.Query.TheVariants as queries
use Rattle.ax_run_rules.specs.Scripts.{Script}
use Rattle.ax_run_rules.specs.ReplayText.{replay_text}
use Rattle.ax_run_rules.proofs.Computing.{computing}
use Rattle.ax_run_rules.proofs.ScriptWords.{no_area, node, having, root, insert, asked, place, text_at, frame, frames}

abbrev pub script : Script
script = record (frames (
    frame 1 (
    root (having 1 ((1, (values.Text (codes "x"))) ∷ [])) ∷
    insert 1 0 (node 2 1 (8 ∷ []) ((1, (values.Text (codes "y"))) ∷ []) no_area []) ∷
    ops.Pass ∷
    []) ∷
    [])) {
      readers = ((asked 0 (queries.UText (place 1 1)) ∷ asked 0 (queries.UChildren (place 1 1)) ∷ asked 0 (queries.UNext (place 1 1)) ∷ asked 0 (queries.Text (text_at 1 2 0 affinities.Down) (text_at 1 2 1 affinities.Down)) ∷ []) ∷ []);
    }

the_text : replay_text script script.order ≡ Some (
    codes "finale\n" ++
    codes "f1 root 1 ok\n" ++
    codes "f1 insert 2 ok\n" ++
    codes "f1 pass 1 base 0 token 0\n" ++
    codes "  u clear 0 root 1 list 1 2 data\n" ++
    codes "a1 applied 1\n" ++
    codes "  e 1:1 subtree_created\n" ++
    codes "r1 u_text = \"x\"\n" ++
    codes "r1 u_children = -\n" ++
    codes "r1 u_next = AtEnd\n" ++
    codes "r1 text = \"y\"\n" ++
    codes "dump\n" ++
    codes "tree 1 parent 0 focused 0 loaded no focus 0 sel 0 0 0 0 title \"\" url \"\"\n" ++
    codes "1 generic name=\"x\"\n" ++
    codes "  2 generic +ignored name=\"y\"\n")
unfolding computing
the_text = refl
