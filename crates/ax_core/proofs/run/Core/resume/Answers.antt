use Rattle.std.proofs.Common.{◌∙◌, refl, ap, drop, map}
use Rattle.ax_script.specs.declared.script.FrameScript.{FrameScript}
use Rattle.ax_core.proofs.Scripted.{made_trees, resumed_kept, resumed_state, whole_again}
use Rattle.ax_core.proofs.run.Core.resume.Goals as goal

pub put_packets-requires-clause-places : goal.put_packets-requires-clause-places
put_packets-requires-clause-places c =
    c.in_ok-places.ensures ∙ ((c.in_ok-trees.ensures ∙ ap (map (λ (f : FrameScript). f.tree)) c.as_slice.ensures) ∙ made_trees c.args.script c.args.done.0.items c.args.done.1 c.args.asked c.in_ok-seats.seats.items c.requires c.in_ok-seats.ensures)

pub invariant_of-result : goal.invariant_of-result
invariant_of-result c =
    resumed_kept c.args.script c.args.done.0.items c.args.done.1 c.args.asked c.in_ok-seats.seats.items c.put_packets.new.seats.items c.skip.new.self c.in_ok-readers.readers.items c.args.done.1.forest.history c.in_ok-places.places
    c.args.done.1.forest.trees c.requires (record { made_of = c.in_ok-seats.ensures; put = c.in_ok-put_packets.ensures }) (c.skip.ensures ∙ ap (drop c.args.asked.browser) c.of-browser.ensures) c.in_ok-readers.ensures refl
    (c.in_ok-places.ensures ∙ (c.in_ok-trees.ensures ∙ ap (map (λ (f : FrameScript). f.tree)) c.as_slice.ensures)) refl

pub returns-clause-state : goal.returns-clause-state
returns-clause-state c =
    resumed_state c.args.script c.args.done.0.items c.args.done.1 c.args.asked c.in_ok-seats.seats.items c.put_packets.new.seats.items c.skip.new.self c.in_ok-readers.readers.items c.args.done.1.forest.history c.requires
    (record { made_of = c.in_ok-seats.ensures; put = c.in_ok-put_packets.ensures }) (c.skip.ensures ∙ ap (drop c.args.asked.browser) c.of-browser.ensures) c.in_ok-readers.ensures refl

pub returns-clause-whole : goal.returns-clause-whole
returns-clause-whole c =
    whole_again c.args.script c.args.done.0.items c.args.done.1 c.args.asked c.in_ok-seats.seats.items c.put_packets.new.seats.items c.skip.new.self c.in_ok-readers.readers.items c.args.done.1.forest.history c.requires
    (record { made_of = c.in_ok-seats.ensures; put = c.in_ok-put_packets.ensures })
