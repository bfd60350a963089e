use Rattle.std.proofs.Common.{◌∙◌, ap, map}
use Rattle.ax_script.specs.declared.script.FrameScript.{FrameScript}
use Rattle.ax_forest.specs.Past.{Past}
use Rattle.ax_core.proofs.Scripted.{new_kept, new_state, new_whole}
use Rattle.ax_core.proofs.run.Core.new.Goals as goal

pub invariant_of-result : goal.invariant_of-result
invariant_of-result c =
    let past = c.in_ok-forest.ensures in
    let trees = c.in_ok-trees.ensures ∙ ap (map (λ (f : FrameScript). f.tree)) c.as_slice.ensures in
    new_kept c.args.script c.in_ok-seats.seats.items c.of.result c.in_ok-readers.readers.items c.in_ok-forest.forest.history c.in_ok-places.places c.in_ok-forest.forest.trees c.requires c.in_ok-seats.ensures c.of.ensures
    c.in_ok-readers.ensures (ap (λ (p : Past). p.history) past) (c.in_ok-places.ensures ∙ trees) (ap (λ (p : Past). p.trees) past ∙ (c.as_slice-2.ensures ∙ trees))

pub returns-clause-state : goal.returns-clause-state
returns-clause-state c =
    new_state c.args.script c.in_ok-seats.seats.items c.of.result c.in_ok-readers.readers.items c.in_ok-forest.forest.history c.in_ok-seats.ensures c.of.ensures c.in_ok-readers.ensures (ap (λ (p : Past). p.history) c.in_ok-forest.ensures)

pub returns-clause-whole : goal.returns-clause-whole
returns-clause-whole c = new_whole c.args.script c.in_ok-seats.seats.items c.of.result c.in_ok-readers.readers.items c.in_ok-forest.forest.history c.in_ok-seats.ensures
