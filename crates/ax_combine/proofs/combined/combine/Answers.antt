use Rattle.std.proofs.Common.{◌≡◌, ◌<◌, ◌^◌, length, filter_map, ap, arith, ◌∙◌}
use Rattle.ax_trees.specs.Trees.{ids}
use Rattle.ax_rules.specs.Stitched.{stitched, places}
use Rattle.ax_report.specs.Combining.{place_of_number}
use Rattle.ax_combine.specs.Kept.{kept_trees}
use Rattle.ax_combine.proofs.Whole.{combined_order}
use Rattle.ax_combine.proofs.Rows.{places_length, made, combined_is, kept_tree}
use Rattle.ax_combine.proofs.combined.combine.Goals as goal

pub invariant_of-result : goal.invariant_of-result
invariant_of-result g c =
    let f = g.G.Grove.forest c.args.g.now in
    let long : length c.in_ok-places.places ≡ length (stitched f) = ap length c.in_ok-places.ensures.places ∙ places_length (stitched f) in
    let few : length (stitched f) < 2 ^ 31 = omega (arith, long) in
    (made f c.in_ok-rows.rows c.in_ok-numbering.numbering c.in_ok-places.ensures.sound few c.in_ok-rows.ensures (c.in_ok-numbering.ensures ∙ c.in_ok-places.ensures.places)).0

pub returns-clause-combined : goal.returns-clause-combined
returns-clause-combined g c =
    let f = g.G.Grove.forest c.args.g.now in
    let long : length c.in_ok-places.places ≡ length (stitched f) = ap length c.in_ok-places.ensures.places ∙ places_length (stitched f) in
    let few : length (stitched f) < 2 ^ 31 = omega (arith, long) in
    let listed : c.in_ok-numbering.numbering ≡ places (stitched f) = c.in_ok-numbering.ensures ∙ c.in_ok-places.ensures.places in
    let m = made f c.in_ok-rows.rows c.in_ok-numbering.numbering c.in_ok-places.ensures.sound few c.in_ok-rows.ensures listed in
    combined_is f c.in_ok-numbering.numbering (kept_tree c.in_ok-about.about c.in_ok-rows.rows) c.in_ok-places.ensures.sound m.1 c.in_ok-about.ensures.first c.in_ok-about.ensures.data listed

pub returns-clause-order : goal.returns-clause-order
returns-clause-order g c =
    let f = g.G.Grove.forest c.args.g.now in
    let long : length c.in_ok-places.places ≡ length (stitched f) = ap length c.in_ok-places.ensures.places ∙ places_length (stitched f) in
    let few : length (stitched f) < 2 ^ 31 = omega (arith, long) in
    let listed : c.in_ok-numbering.numbering ≡ places (stitched f) = c.in_ok-numbering.ensures ∙ c.in_ok-places.ensures.places in
    let m = made f c.in_ok-rows.rows c.in_ok-numbering.numbering c.in_ok-places.ensures.sound few c.in_ok-rows.ensures listed in
    ap (λ ps. filter_map (place_of_number ps) (ids (kept_trees c.in_ok-rows.rows))) listed ∙ (ap (λ w. filter_map (place_of_number (places (stitched f))) (ids w)) m.1 ∙ combined_order f)
