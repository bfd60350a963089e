-- An action on a destroyed tree.
use Rattle.std.proofs.Common.{pos, ◌≡◌, true, [], ◌∷◌, ◌++◌, refl, Some}
use Rattle.std.specs.Prelude.{codes}
use Rattle.ax_node.specs.declared.value.Value.TheVariants as values
use Rattle.ax_ask.specs.declared.op.FrameOp.TheVariants as ops
use Rattle.ax_ask.specs.declared.op.BrowserOp.TheVariants as browsers
use Rattle.ax_ask.specs.declared.query.Query.TheVariants as queries
use Rattle.ax_ask.specs.declared.action.What.TheVariants as whats
use Rattle.ax_run_rules.specs.Scripts.{Script}
use Rattle.ax_run_rules.specs.ActText.{act_text}
use Rattle.ax_run_rules.proofs.Computing.{computing}
use Rattle.ax_run_rules.proofs.ScriptWords.{area, node, root, insert, set_attrs, change, after, asked, place, point, action, f, a, r, frame, frames}

abbrev pub script : Script
script = record (frames (
    frame 1 (
    root (node 1 1 [] ((14, (values.Flag true)) ∷ []) (area (pos 0) (pos 0) (pos 100) (pos 100)) []) ∷
    insert 1 0 (node 2 1 [] ((36, (values.Node 1)) ∷ (38, (values.Int (pos 50))) ∷ []) (area (pos 10) (pos 10) (pos 80) (pos 200)) []) ∷
    insert 2 0 (node 3 1 [] ((36, (values.Node 2)) ∷ []) (area (pos 5) (pos 60) (pos 20) (pos 10)) []) ∷
    ops.Pass ∷
    set_attrs 2 (change 38 (Some (values.Int (pos 60))) ∷ []) ∷
    ops.Pass ∷
    []) ∷
    [])) {
      browser = (after 0 (browsers.Destroy 1) ∷ []);
      readers = ((asked 0 (queries.Bounds (place 1 3)) ∷ asked 0 (queries.Hit (point (pos 16) (pos 21))) ∷ asked 0 (queries.Bounds (place 1 3)) ∷ asked 0 (queries.Hit (point (pos 16) (pos 21))) ∷ []) ∷ []);
      order = (f 1 ∷ f 1 ∷ f 1 ∷ f 1 ∷ a 1 ∷ r 1 ∷ r 1 ∷ f 1 ∷ f 1 ∷ a 1 ∷ r 1 ∷ r 1 ∷ []);
      actions = (action 1 3 whats.Scroll ∷ []);
    }

the_text : act_text script ≡ Some (
    codes "f1 root 1 ok\n" ++
    codes "f1 insert 2 ok\n" ++
    codes "f1 insert 3 ok\n" ++
    codes "f1 pass 1 base 0 token 0\n" ++
    codes "  u clear 0 root 1 list 1 2 3 data\n" ++
    codes "a1 applied 1\n" ++
    codes "  e 1:1 subtree_created\n" ++
    codes "r1 bounds = [15,20,20,10]\n" ++
    codes "r1 hit = 1:3\n" ++
    codes "f1 set 2 ok\n" ++
    codes "f1 pass 2 base 1 token 0\n" ++
    codes "  u clear 0 root 0 list 2\n" ++
    codes "a1 applied 2\n" ++
    codes "  e 1:2 location_changed\n" ++
    codes "r1 bounds = [15,10,20,10]\n" ++
    codes "r1 hit = 1:2\n" ++
    codes "finale\n" ++
    codes "b destroy 1 ok\n" ++
    codes "dump\n" ++
    codes "tree 1 gone\n" ++
    codes "actions\n" ++
    codes "p1 scroll 3 gone\n" ++
    codes "dump\n" ++
    codes "tree 1 gone\n")
unfolding computing
the_text = refl
