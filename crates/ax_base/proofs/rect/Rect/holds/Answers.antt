use Rattle.std.proofs.Common.{IsTrue, subst, arith}
use Rattle.std.proofs.lemmas.Int.{ints}
use Rattle.ax_base.specs.Area.{Area, HoldsPoint}
use Rattle.ax_base.proofs.rect.Rect.holds.Goals as goal

pub returns-then-across : goal.returns-then-across
returns-then-across c =
    let across = c.within-across.ensures.0 c.if-across.true in
    let P : Area → Type 0 = λ a. (IsTrue c.within-down.result → HoldsPoint a c.args.p.x c.args.p.y) × (HoldsPoint a c.args.p.x c.args.p.y → IsTrue c.within-down.result) in
    subst P c.self.view_is (
      λ t. let down = c.within-down.ensures.0 t in (omega (arith, ints, across), omega (arith, ints, across), omega (arith, ints, down), omega (arith, ints, down)),
      λ h. c.within-down.ensures.1 (omega (arith, ints, h), omega (arith, ints, h)),
    )
