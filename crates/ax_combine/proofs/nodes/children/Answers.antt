use Rattle.std.proofs.Common.{◌∙◌}
use Rattle.ax_rules.specs.Combined.{number_of}
use Rattle.ax_rules.specs.Stitched.{stitched, children_of}
use Rattle.ax_combine.proofs.Filtered.{filtered_more, filtered_all}
use Rattle.ax_combine.proofs.nodes.children.Goals as goal

pub loop-place-preserved : goal.loop-place-preserved
loop-place-preserved g c =
    filtered_more (number_of c.args.numbering.now) c.as_slice-places.result.now c.loop-place.place-index c.place-item.result c.loop-place.ids c.add_number.new.ids c.loop-place-test.true c.place-item.is c.loop-place.invariant
    c.in_ok-add_number.ensures

pub returns : goal.returns
returns g c =
    filtered_all (number_of c.args.numbering.now) c.as_slice-places.result.now (children_of (stitched (g.G.Grove.forest c.args.g.now)) c.args.p.now) c.loop-place.place-index c.loop-place.ids c.loop-place-test.false
    (c.as_slice-places.ensures ∙ c.in_ok-below.ensures) c.loop-place.invariant
