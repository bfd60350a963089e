use Rattle.std.proofs.Common.{◌≡◌, ℕ, get_or, sym, subst, ◌∙◌, arith}
use Rattle.std.proofs.lemmas.List.{length-set}
use Rattle.ax_hub.proofs.ListLemmas.{within}
use Rattle.ax_hub.proofs.Placing.{place_more}
use Rattle.ax_hub.proofs.places.places_of.Goals as goal

pub loop-at-preserved : goal.loop-at-preserved
loop-at-preserved c = record {
  size = length-set c.loop-at.places.items c.get.result c.loop-at.at ∙ c.loop-at.invariant.size;
  placed = place_more c.args.trees.now c.loop-at.places.items c.loop-at.at c.get.result c.requires c.loop-at-test.true
      (subst (λ (x : ℕ). x ≡ get_or c.args.trees.now c.loop-at.at x) (sym c.get.ensures.same) c.index-trees-at.is)
      (let b = c.get.ensures.below in let s = c.loop-at.invariant.size in omega (arith, b, s)) c.loop-at.invariant.placed;
}

pub returns : goal.returns
returns c = record {
  size = c.loop-at.invariant.size;
  place = λ j t e. c.loop-at.invariant.placed j t (let i = within c.args.trees.now j t e in let l = c.loop-at-test.false in omega (arith, i, l)) e;
}
