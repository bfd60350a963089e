use Rattle.std.proofs.Common.{ℕ, List, map, drop, length, sym, ap, ◌∙◌}
use Rattle.std.proofs.lemmas.Iterator.{YieldsList-from_slice, YieldsList-from_zip}
use Rattle.std.proofs.lemmas.Iterator.Adapters.{YieldsList-from_vec}
use Rattle.std.proofs.lemmas.Iterator.Consumers.{YieldsList-at, YieldsList-end}
use Rattle.std.proofs.lemmas.Simd.{map-map}
use Rattle.ax_ask.specs.declared.query.TimedQuery.{TimedQuery}
use Rattle.ax_core.proofs.resuming.readers_on.Goals as goal

-- the loop has seen each reader beside its count
pub returns : goal.returns
returns c =
    let scripts = YieldsList-from_vec c.args.scripts (c.into_iter-scripts.ensures.rest ∙ c.into_vec.ensures) (c.into_iter-scripts.ensures.len ∙ (c.into_vec.result.ok.0 ∙ ap length c.into_vec.ensures)) in
    let asked = YieldsList-from_slice c.args.asked.now.items (cc) in
    let pairs = YieldsList-at c.into_iter-queries-iterator.ensures.into_iter_gives (YieldsList-from_zip (YieldsList-at c.zip-queries-items.ensures.first scripts) asked) in
    let seen = YieldsList-end pairs c.loop-queries.yielded c.loop-queries.queries-iterator c.loop-queries.yielded_by c.next.result c.next.new.self c.in-None.is c.next.ensures.steps in
    let left : (List TimedQuery × ℕ) → List TimedQuery = λ p. drop p.1 p.0 in
    c.loop-queries.invariant ∙ (sym (map-map left _ c.loop-queries.yielded) ∙ ap (map left) seen.0)
