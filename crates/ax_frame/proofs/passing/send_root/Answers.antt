use Rattle.std.proofs.Common.{◌≡◌, true, false, ◌++◌, map, sym, ap}
use Rattle.std.specs.Prelude.{is_some}
use Rattle.ax_trees.specs.Trees.{root_of}
use Rattle.ax_tree.specs.Updates.{nodes_part}
use Rattle.ax_frame.specs.Frames.{all_kept}
use Rattle.ax_frame.proofs.Rounds.{held_updates, ok_all, root_parts}
use Rattle.ax_frame.proofs.passing.send_root.Goals as goal

pub returns-then-is_some-clause-updates : goal.returns-then-is_some-clause-updates
returns-then-is_some-clause-updates c =
    let held : is_some (root_of c.args.serializer.now.client) ≡ true = cc in
    ap (λ us. map nodes_part (all_kept c.args.serializer.now.kept c.args.back.now) ++ us)
    (sym (held_updates c.args.serializer.now.client c.args.source.now.tree.trees c.args.source.now.marks held))

pub returns-in-Some-clause-updates : goal.returns-in-Some-clause-updates
returns-in-Some-clause-updates c =
    let bare : is_some (root_of c.args.serializer.now.client) ≡ false = cc in
    ok_all c.send_at.result
    (λ client marks kept. root_parts c.args.serializer.now.client c.send_at.new.serializer.client c.args.source.now.tree c.args.source.now.marks c.send_at.new.source.marks c.in-Some.root
    (all_kept c.args.serializer.now.kept c.args.back.now) (all_kept c.send_at.new.serializer.kept c.send_at.new.back) bare (sym c.in-Some.ensures.root) client marks kept)
    c.send_at.ensures.client c.send_at.ensures.marks c.send_at.ensures.kept
