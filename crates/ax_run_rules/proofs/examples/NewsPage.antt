-- A news page with two hanging trees, a live region and three readers.
use Rattle.std.proofs.Common.{pos, ◌≡◌, ℕ, List, true, [], ◌∷◌, ◌++◌, refl, Some}
use Rattle.std.specs.Prelude.{codes}
use Rattle.ax_base.specs.declared.position.Affinity.TheVariants as affinities
use Rattle.ax_node.specs.declared.value.Value.TheVariants as values
use Rattle.ax_ask.specs.declared.op.FrameOp.TheVariants as ops
use Rattle.ax_ask.specs.declared.op.BrowserOp.TheVariants as browsers
use Rattle.ax_ask.specs.declared.query.Query.TheVariants as queries
use Rattle.ax_run_rules.specs.Scripts.{Script}
use Rattle.ax_run_rules.specs.ReplayText.{replay_text}
use Rattle.ax_run_rules.specs.CombineText.{combine_text}
use Rattle.ax_run_rules.proofs.Computing.{computing}
use Rattle.ax_run_rules.proofs.ScriptWords.{area, node, root, insert, set_attrs, change, no_data, about, after, asked, point, text_at, f, a, b, r, frame, frames}

abbrev pub script : Script
script = record (frames (
    frame 1 (
    about (record no_data { title = Some (codes "News"); url = Some (codes "https://news.example/") }) ∷
    root (node 1 2 [] [] (area (pos 0) (pos 0) (pos 800) (pos 600)) []) ∷
    insert 1 0 (node 2 3 [] ((1, (values.Text (codes "Storm"))) ∷ []) (area (pos 0) (pos 0) (pos 800) (pos 40)) []) ∷
    insert 1 1 (node 3 27 [] ((7, (values.Text (codes "polite"))) ∷ []) (area (pos 0) (pos 40) (pos 800) (pos 20)) []) ∷
    insert 3 0 (node 4 5 [] ((1, (values.Text (codes "0 new"))) ∷ []) (area (pos 0) (pos 40) (pos 800) (pos 20)) []) ∷
    insert 1 2 (node 5 16 [] ((6, (values.Tree 2)) ∷ []) (area (pos 600) (pos 60) (pos 200) (pos 200)) []) ∷
    insert 1 3 (node 6 16 [] ((6, (values.Tree 3)) ∷ []) (area (pos 600) (pos 260) (pos 200) (pos 200)) []) ∷
    ops.Pass ∷
    set_attrs 4 (change 1 (Some (values.Text (codes "1 new"))) ∷ []) ∷
    about (record no_data { focus = Some (Some 2); loaded = Some true }) ∷
    ops.Pass ∷
    []) ∷
    frame 2 (
    about (record no_data { parent = Some (Some 1) }) ∷
    root (node 1 7 [] ((1, (values.Text (codes "Buy"))) ∷ []) (area (pos 600) (pos 60) (pos 200) (pos 200)) []) ∷
    ops.Pass ∷
    []) ∷
    frame 3 (
    about (record no_data { parent = Some (Some 1) }) ∷
    root (node 1 1 [] [] (area (pos 600) (pos 260) (pos 200) (pos 200)) []) ∷
    insert 1 0 (node 2 6 [] ((1, (values.Text (codes "Ad"))) ∷ []) (area (pos 600) (pos 260) (pos 100) (pos 20)) []) ∷
    ops.Pass ∷
    []) ∷
    [])) {
      browser = (after 4 (browsers.Destroy 3) ∷ []);
      readers = ((asked 3 (queries.Hit (point (pos 650) (pos 270))) ∷ []) ∷ (asked 4 (queries.Focus) ∷ []) ∷ (asked 0 (queries.Text (text_at 1 2 0 affinities.Down) (text_at 3 2 2 affinities.Down)) ∷ []) ∷ []);
      order = (f 1 ∷ f 1 ∷ f 1 ∷ f 1 ∷ f 1 ∷ f 1 ∷ f 1 ∷ f 1 ∷ a 1 ∷ f 2 ∷ f 2 ∷ f 2 ∷ a 2 ∷ f 3 ∷ f 3 ∷ f 3 ∷ f 3 ∷ a 3 ∷ r 1 ∷ f 1 ∷ f 1 ∷ f 1 ∷ a 1 ∷ r 2 ∷ r 3 ∷ b ∷ []);
    }

abbrev printed : List ℕ
printed =
    codes "f1 data ok\n" ++
    codes "f1 root 1 ok\n" ++
    codes "f1 insert 2 ok\n" ++
    codes "f1 insert 3 ok\n" ++
    codes "f1 insert 4 ok\n" ++
    codes "f1 insert 5 ok\n" ++
    codes "f1 insert 6 ok\n" ++
    codes "f1 pass 1 base 0 token 0\n" ++
    codes "  u clear 0 root 1 list 1 2 3 4 5 6 data\n" ++
    codes "a1 applied 1\n" ++
    codes "  e 1 document_title_changed\n" ++
    codes "  e 1 url_changed\n" ++
    codes "  e 1:1 subtree_created\n" ++
    codes "f2 data ok\n" ++
    codes "f2 root 1 ok\n" ++
    codes "f2 pass 1 base 0 token 0\n" ++
    codes "  u clear 0 root 1 list 1 data\n" ++
    codes "a2 applied 1\n" ++
    codes "  e 2:1 subtree_created\n" ++
    codes "f3 data ok\n" ++
    codes "f3 root 1 ok\n" ++
    codes "f3 insert 2 ok\n" ++
    codes "f3 pass 1 base 0 token 0\n" ++
    codes "  u clear 0 root 1 list 1 2 data\n" ++
    codes "a3 applied 1\n" ++
    codes "  e 3:1 subtree_created\n" ++
    codes "r1 hit = 3:2\n" ++
    codes "f1 set 4 ok\n" ++
    codes "f1 data ok\n" ++
    codes "f1 pass 2 base 1 token 0\n" ++
    codes "  u clear 0 root 0 list 4 data\n" ++
    codes "a1 applied 2\n" ++
    codes "  e 1 load_complete\n" ++
    codes "  e 1:2 focus_changed\n" ++
    codes "  e 1:3 live_region_changed\n" ++
    codes "  e 1:4 name_changed\n" ++
    codes "r2 focus = 1:2\n" ++
    codes "r3 text = \"Storm1 newBuyAd\"\n" ++
    codes "b destroy 3 ok\n" ++
    codes "finale\n" ++
    codes "dump\n" ++
    codes "tree 1 parent 0 focused 0 loaded yes focus 2 sel 0 0 0 0 title \"News\" url \"https://news.example/\"\n" ++
    codes "1 root_web_area [0,0,800,600]\n" ++
    codes "  2 heading [0,0,800,40] name=\"Storm\"\n" ++
    codes "  3 status [0,40,800,20] live=\"polite\"\n" ++
    codes "    4 static_text [0,40,800,20] name=\"1 new\"\n" ++
    codes "  5 iframe [600,60,200,200] child_tree=2\n" ++
    codes "  6 iframe [600,260,200,200] child_tree=3\n" ++
    codes "tree 2 parent 1 focused 0 loaded no focus 0 sel 0 0 0 0 title \"\" url \"\"\n" ++
    codes "1 button [600,60,200,200] name=\"Buy\"\n" ++
    codes "tree 3 gone\n"

the_text : replay_text script script.order ≡ Some printed
unfolding computing
the_text = refl

-- The combined tree, where a host has a later sibling.
the_combined_text : combine_text script ≡ Some (
    printed ++
    codes "combined\n" ++
    codes "tree 1 parent 0 focused 0 loaded yes focus 2 sel 0 0 0 0 title \"News\" url \"https://news.example/\"\n" ++
    codes "1 under 0 from 1:1 root_web_area [0,0,800,600]\n" ++
    codes "2 under 1 from 1:2 heading [0,0,800,40] name=\"Storm\"\n" ++
    codes "3 under 1 from 1:3 status [0,40,800,20] live=\"polite\"\n" ++
    codes "4 under 3 from 1:4 static_text [0,40,800,20] name=\"1 new\"\n" ++
    codes "5 under 1 from 1:5 iframe [600,60,200,200]\n" ++
    codes "6 under 5 from 2:1 button [600,60,200,200] name=\"Buy\"\n" ++
    codes "7 under 1 from 1:6 iframe [600,260,200,200]\n")
unfolding computing
the_combined_text = refl
